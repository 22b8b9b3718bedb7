use Rattle.std.proofs.Common.{ap}
use Rattle.jsgen_model.specs.Groups.{closing_group, orphans_before, one_deeper, soft_line_ended, at_level, indented_here, body_lines}
use Rattle.jsgen_model.specs.Layout.{Pen}
use Rattle.jsgen_printer.specs.Printer.{pen_of, group_of}
use Rattle.jsgen_printer.proofs.Comments.{adds_then, deeper_orphans_add, orphans_add, closing_adds, back_adds}
use Rattle.jsgen_printer.proofs.Prefixes.{prefix_append}
use Rattle.jsgen_printer.proofs.Sequence.{goes_as, goes_then, items_go}
use Rattle.jsgen_printer.proofs.printer.Printer.print_body_lines.Goals as goal

pub returns : goal.returns
returns c =
    let end = c.args.end in
    let held = group_of c.args.held.now in
    let inner : Pen = closing_group held (orphans_before end (one_deeper (soft_line_ended (pen_of c.args.self.now)))) in
    goes_as (body_lines end held) (ap (λ d. indented_here (at_level d inner)) c.open_lines-depth.ensures.level)
    (goes_then (λ p. (adds_then (deeper_orphans_add end p) (closing_adds held _)).text) (λ p. (back_adds c.open_lines-depth.result p).text)
    (goes_then (λ p. (deeper_orphans_add end p).text) (λ p. (closing_adds held p).text)
    (goes_then (λ p. prefix_append p.code _) (λ p. (orphans_add end p).text) c.open_lines-depth.ensures.goes (items_go c.print_orphans.ensures)) c.print_held.ensures) c.close_lines.ensures)
