use Rattle.std.proofs.Common.{map, refl}
use Rattle.std.specs.Prelude.{true}
use Rattle.jsgen_tree.specs.Tree.{trees}
use Rattle.jsgen_model.specs.Spell.{spell_more_properties}
use Rattle.jsgen_printer.proofs.Turns.{turn, left_as, done}
use Rattle.jsgen_lists.proofs.Turns.{items_left, none_left, left_grouped}
use Rattle.jsgen_lists.proofs.properties.print_more_properties.Goals as goal

pub loop-property-preserved : goal.loop-property-preserved
loop-property-preserved g l =
    let items = λ (ps : _). spell_more_properties true (trees (map g.L.PrintProperty.plain ps)) l.args.place in
    let left = left_as (items_left items l.args.properties.now l.loop-property.property-index l.property-item.result l.loop-property-test.true l.property-item.is) l.loop-property.invariant in
    turn (left_grouped _ (λ pen. refl) (turn left l.print_comma.ensures)) l.print_on_line.ensures

pub returns : goal.returns
returns g l =
    let items = λ (ps : _). spell_more_properties true (trees (map g.L.PrintProperty.plain ps)) l.args.place in
    done (λ pen. refl) (left_as (none_left items l.args.properties.now l.loop-property.property-index l.loop-property-test.false) l.loop-property.invariant)
