use Rattle.std.proofs.Common.{false, ◌==◌, ap, sym, ◌∙◌}
use Rattle.std.specs.Option.{option_map_or}
use Rattle.jsgen_syntax.specs.Buffer.{buffer_bytes}
use Rattle.jsgen_printer.specs.Printer.{pen_of}
use Rattle.jsgen_printer.proofs.Lines.{ends_by_byte}
use Rattle.jsgen_printer.proofs.Texts.{code_is_text}
use Rattle.jsgen_printer.proofs.printer.Printer.code_ends_in.Goals as goal

pub returns-in-Some : goal.returns-in-Some
unfolding pen_of
returns-in-Some c =
    let code = c.args.self.now.code in
    ap (λ o. option_map_or (λ d. d == c.args.byte) o false) (sym c.in-Some.is ∙ c.last_byte.ensures) ∙ ends_by_byte c.args.byte (buffer_bytes code) c.requires (code_is_text code)

pub returns-in-None : goal.returns-in-None
unfolding pen_of
returns-in-None c =
    let code = c.args.self.now.code in
    ap (λ o. option_map_or (λ d. d == c.args.byte) o false) (sym c.in-None.is ∙ c.last_byte.ensures) ∙ ends_by_byte c.args.byte (buffer_bytes code) c.requires (code_is_text code)
