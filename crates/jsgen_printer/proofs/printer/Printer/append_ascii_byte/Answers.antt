use Rattle.std.proofs.Common.{◌≡◌, [], ◌∷◌, ◌++◌, ap, ◌∙◌}
use Rattle.std.specs.Str.{chars}
use Rattle.jsgen_syntax.specs.Buffer.{buffer_bytes}
use Rattle.jsgen_printer.specs.Printer.{pen_of}
use Rattle.jsgen_printer.proofs.Attempts.{went_on}
use Rattle.jsgen_printer.proofs.Handed.{byte_chars}
use Rattle.jsgen_printer.proofs.Texts.{appended_text}
use Rattle.jsgen_printer.proofs.printer.Printer.append_ascii_byte.Goals as goal

pub returns-in-Ok : goal.returns-in-Ok
unfolding pen_of
returns-in-Ok c =
    let before = c.args.self.now.code in
    let more : chars (buffer_bytes c.print_ascii_byte.new.self) ≡ chars (buffer_bytes before) ++ c.args.byte ∷ [] = appended_text before c.print_ascii_byte.new.self (c.args.byte ∷ []) c.in-Ok.ensures.appended ∙ ap (λ t. chars (buffer_bytes before) ++ t) (byte_chars c.args.byte c.requires) in
    went_on c.if-self.false c.if-self.false (cc)
