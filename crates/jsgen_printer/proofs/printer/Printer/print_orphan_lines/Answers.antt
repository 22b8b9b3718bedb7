use Rattle.std.proofs.Common.{ap, sym, ◌∙◌, if◌then◌else◌}
use Rattle.jsgen_model.specs.Groups.{orphans_before, one_deeper, soft_line_ended, at_level, indented_here}
use Rattle.jsgen_model.specs.Items.{orphan_lines}
use Rattle.jsgen_model.specs.Layout.{Pen}
use Rattle.jsgen_printer.specs.Printer.{pen_of}
use Rattle.jsgen_printer.proofs.Comments.{deeper_orphans_add, orphans_add, back_adds}
use Rattle.jsgen_printer.proofs.Prefixes.{prefix_append}
use Rattle.jsgen_printer.proofs.Sequence.{goes_laid, goes_then, items_go}
use Rattle.jsgen_printer.proofs.printer.Printer.print_orphan_lines.Goals as goal

pub returns-then-has_orphans : goal.returns-then-has_orphans
returns-then-has_orphans c =
    let o = c.args.offset in
    let pen : Pen = pen_of c.args.self.now in
    let inner : Pen = orphans_before o (one_deeper (soft_line_ended pen)) in
    goes_laid (orphan_lines o)
    (ap (λ d. indented_here (at_level d inner)) c.open_lines-depth.ensures.level
    ∙ ap (λ t. if t then indented_here (at_level pen.depth inner) else pen) (sym c.if-has_orphans.true ∙ c.has_orphans.ensures))
    (goes_then (λ p. (deeper_orphans_add o p).text) (λ p. (back_adds c.open_lines-depth.result p).text)
    (goes_then (λ p. prefix_append p.code _) (λ p. (orphans_add o p).text) c.open_lines-depth.ensures.goes (items_go c.print_orphans.ensures)) c.close_lines.ensures)
