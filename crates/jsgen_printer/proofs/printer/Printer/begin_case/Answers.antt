use Rattle.std.proofs.Common.{◌≡◌, true, refl, ap, sym, ◌∙◌}
use Rattle.jsgen_model.specs.Groups.{has_orphans, case_begun, led_on_line, orphans_before, one_deeper, soft_line_ended}
use Rattle.jsgen_model.specs.Items.{Lead, to_block, to_body, to_empty}
use Rattle.jsgen_model.specs.Lay.{case_mark}
use Rattle.jsgen_model.specs.Layout.{Pen, Start, begun_at}
use Rattle.jsgen_printer.specs.Printer.{pen_of, start_of, lead_of}
use Rattle.jsgen_printer.proofs.Comments.{deeper_orphans_add, lead_on_line_adds, orphans_add}
use Rattle.jsgen_printer.proofs.Prefixes.{prefix_append, prefix_of_prefix, whole_prefix}
use Rattle.jsgen_printer.proofs.Sequence.{goes_as, goes_then, items_go}
use Rattle.jsgen_printer.proofs.printer.Printer.begin_case.Goals as goal

-- a mark has no part in what begins there
marked_at : (lead : Lead) (start : Start) (pen : Pen) → begun_at start (case_mark true lead pen) ≡ case_mark true lead (begun_at start pen)
marked_at to_block start pen = refl
marked_at to_body start pen = refl
marked_at (to_empty s) start pen = refl

pub returns-then-has_orphans-clause-goes : goal.returns-then-has_orphans-clause-goes
returns-then-has_orphans-clause-goes c =
    let start = c.args.start in
    let lead = lead_of c.args.lead in
    let pen = pen_of c.args.self.now in
    goes_as (λ p. case_mark (has_orphans start p) lead (case_begun (has_orphans start p) lead start p))
    (marked_at lead (start_of c.start_behind-begins.result) (led_on_line lead start (orphans_before start (one_deeper (soft_line_ended pen))))
    ∙ (ap (λ s. case_mark true lead (begun_at s (led_on_line lead start (orphans_before start (one_deeper (soft_line_ended pen)))))) c.start_behind-begins.ensures
    ∙ ap (λ t. case_mark t lead (case_begun t lead start pen)) (sym c.if-has_orphans.true ∙ c.has_orphans.ensures)))
    (goes_then (λ p. prefix_of_prefix (deeper_orphans_add start p).text (lead_on_line_adds lead start _).text) (λ p. whole_prefix p.code)
    (goes_then (λ p. (deeper_orphans_add start p).text) (λ p. (lead_on_line_adds lead start p).text)
    (goes_then (λ p. prefix_append p.code _) (λ p. (orphans_add start p).text) c.open_lines-depth.ensures.goes (items_go c.print_orphans.ensures)) c.lead_on_line.ensures) c.begin_at.ensures)
