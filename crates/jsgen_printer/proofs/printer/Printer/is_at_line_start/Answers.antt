use Rattle.std.proofs.Common.{ap, sym, ◌∙◌}
use Rattle.jsgen_syntax.specs.Buffer.{buffer_bytes}
use Rattle.jsgen_model.specs.Groups.{at_line_start}
use Rattle.jsgen_printer.specs.Printer.{pen_of}
use Rattle.jsgen_printer.proofs.Lines.{start_by_byte}
use Rattle.jsgen_printer.proofs.Texts.{code_is_text}
use Rattle.jsgen_printer.proofs.printer.Printer.is_at_line_start.Goals as goal

pub returns-in-None : goal.returns-in-None
unfolding pen_of
returns-in-None c =
    let code = c.args.self.now.code in
    ap at_line_start (sym c.in-None.is ∙ c.last_byte.ensures) ∙ start_by_byte (buffer_bytes code) (code_is_text code)

pub returns-in-Some : goal.returns-in-Some
unfolding pen_of
returns-in-Some c =
    let code = c.args.self.now.code in
    ap at_line_start (sym c.in-Some.is ∙ c.last_byte.ensures) ∙ start_by_byte (buffer_bytes code) (code_is_text code)
