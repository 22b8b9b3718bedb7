use Rattle.std.proofs.Common.{ap, sym, ◌∙◌}
use Rattle.jsgen_model.specs.Groups.{at_level, broken_by, ending_at, indented_if, last_byte, lines_closed, with_lines, without_ending}
use Rattle.jsgen_printer.specs.Printer.{pen_of, lines_of}
use Rattle.jsgen_printer.proofs.Comments.{broken_adds, ending_adds, indented_if_adds}
use Rattle.jsgen_printer.proofs.Prefixes.{prefix_of_prefix, whole_prefix}
use Rattle.jsgen_printer.proofs.Sequence.{Appends, goes_as, goes_then}
use Rattle.jsgen_printer.proofs.printer.Printer.close_arguments.Goals as goal

pub returns-then-around : goal.returns-then-around
returns-then-around c =
    let a = c.args.around in
    let end = c.args.end in
    let last = last_byte end in
    let lines = lines_of c.args.lines in
    let pen = pen_of c.args.self.now in
    let broken : Appends (λ p. broken_by (ending_at last p) (without_ending last p)) = λ p. prefix_of_prefix (ending_adds last p).text (broken_adds (ending_at last p) (without_ending last p)).text in
    goes_as (lines_closed a.lined lines end a.depth a.outer)
    ((λ i. indented_if (c.indents.ensures i) (at_level a.depth (with_lines a.outer (broken_by (ending_at last pen) (without_ending last pen)))))
    ∙ ap (λ b. lines_closed b lines end a.depth a.outer pen) (sym c.if-around.true))
    (goes_then broken (λ p. (indented_if_adds c.indents.result p).text)
    (goes_then broken (λ p. whole_prefix p.code) (goes_then broken (λ p. whole_prefix p.code) c.print_last_break.ensures c.set_lines.ensures) c.set_depth.ensures.goes) c.print_indentation_where.ensures)
