use Rattle.std.proofs.Common.{◌≡◌, [], ◌∷◌, ◌++◌, ap, ◌∙◌}
use Rattle.std.specs.Str.{chars}
use Rattle.jsgen_syntax.specs.Buffer.{buffer_bytes}
use Rattle.jsgen_syntax.specs.Strings.{quote_char}
use Rattle.jsgen_printer.specs.Printer.{pen_of}
use Rattle.jsgen_printer.proofs.Attempts.{went_on}
use Rattle.jsgen_printer.proofs.Texts.{appended_text, quote_chars}
use Rattle.jsgen_printer.proofs.printer.Printer.print_quote.Goals as goal

pub returns-in-Ok : goal.returns-in-Ok
unfolding pen_of
returns-in-Ok c =
    let before = c.args.self.now.code in
    let more : chars (buffer_bytes c.print.new.code) ≡ chars (buffer_bytes before) ++ quote_char c.args.quote ∷ [] = appended_text before c.print.new.code (quote_char c.args.quote ∷ []) c.in-Ok.ensures.appended ∙ ap (λ t. chars (buffer_bytes before) ++ t) (quote_chars c.args.quote) in
    went_on c.if-self.false c.if-self.false (cc)
