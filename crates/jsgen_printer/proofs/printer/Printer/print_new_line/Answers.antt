use Rattle.std.proofs.Common.{ap, sym, ◌∙◌}
use Rattle.jsgen_syntax.specs.Buffer.{buffer_bytes}
use Rattle.jsgen_model.specs.Groups.{last_of, on_new_line}
use Rattle.jsgen_model.specs.Layout.{Pen}
use Rattle.jsgen_printer.specs.Printer.{pen_of}
use Rattle.jsgen_printer.proofs.Lines.{line_by_byte}
use Rattle.jsgen_printer.proofs.Marked.{no_step}
use Rattle.jsgen_printer.proofs.Sequence.{goes_as}
use Rattle.jsgen_printer.proofs.Texts.{code_is_text}
use Rattle.jsgen_printer.proofs.printer.Printer.print_new_line.Goals as goal

pub returns-in-Some : goal.returns-in-Some
unfolding pen_of
returns-in-Some c =
    let code = c.args.self.now.code in
    let pen : Pen = pen_of c.args.self.now in
    goes_as (λ p. on_new_line (last_of p.code) p) (ap (λ o. on_new_line o pen) (sym c.in-Some.is ∙ c.last_byte.ensures) ∙ line_by_byte (buffer_bytes code) pen (code_is_text code)) c.print_line_behind.ensures

pub returns-in-None : goal.returns-in-None
unfolding pen_of
returns-in-None c =
    let code = c.args.self.now.code in
    let pen : Pen = pen_of c.args.self.now in
    no_step c.args.self.now (λ p. on_new_line (last_of p.code) p) (sym (ap (λ o. on_new_line o pen) (sym c.in-None.is ∙ c.last_byte.ensures) ∙ line_by_byte (buffer_bytes code) pen (code_is_text code)))
