use Rattle.std.proofs.Common.{map, refl, drop, ◌+◌}
use Rattle.jsgen_tree.specs.Tree.{holed}
use Rattle.jsgen_model.specs.Spell.{spell_more_elements}
use Rattle.jsgen_printer.proofs.Turns.{turn, left_as, done}
use Rattle.jsgen_lists.proofs.Turns.{items_left, none_left, left_grouped}
use Rattle.jsgen_lists.proofs.Holes.{more_first}
use Rattle.jsgen_lists.proofs.elements.print_more_elements.Goals as goal

pub loop-element-preserved : goal.loop-element-preserved
loop-element-preserved g l =
    let plain = g.L.PrintElement.plain in
    let items = λ (es : _). spell_more_elements l.args.lines (holed (map plain es)) l.args.place in
    let others = drop (l.loop-element.element-index + 1) l.args.elements.now in
    let left = left_as (items_left items l.args.elements.now l.loop-element.element-index l.element-item.result l.loop-element-test.true l.element-item.is) l.loop-element.invariant in
    turn {rest = items others} (turn (turn (left_grouped _ (λ pen. more_first l.args.lines (plain l.element-item.result) (map plain others) l.args.place pen) left) l.print_comma.ensures) l.print_between.ensures) l.print_element.ensures

pub returns : goal.returns
returns g l =
    let items = λ (es : _). spell_more_elements l.args.lines (holed (map g.L.PrintElement.plain es)) l.args.place in
    done (λ pen. refl) (left_as (none_left items l.args.elements.now l.loop-element.element-index l.loop-element-test.false) l.loop-element.invariant)
