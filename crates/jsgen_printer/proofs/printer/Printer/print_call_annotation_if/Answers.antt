use Rattle.std.proofs.Common.{ap, sym}
use Rattle.jsgen_model.specs.Items.{is_pure, mark}
use Rattle.jsgen_model.specs.Lay.{annotated_if}
use Rattle.jsgen_printer.specs.Printer.{pen_of, start_of}
use Rattle.jsgen_printer.proofs.Appends.{layout_appends}
use Rattle.jsgen_printer.proofs.Comments.{annotation_adds}
use Rattle.jsgen_printer.proofs.Sequence.{goes_as, goes_then, items_go}
use Rattle.jsgen_printer.proofs.printer.Printer.print_call_annotation_if.Goals as goal

pub returns-then-test : goal.returns-then-test
returns-then-test c =
    let s = c.args.span in
    let o = c.args.offset in
    let start = start_of c.args.start in
    goes_as (annotated_if c.args.test s o start)
    (ap (λ b. annotated_if b s o start (pen_of c.args.self.now)) (sym c.if-test.true))
    (goes_then (λ p. layout_appends (mark s) p) (λ p. (annotation_adds start is_pure o p).text) (items_go c.print_mark.ensures) c.print_annotation_from.ensures)
