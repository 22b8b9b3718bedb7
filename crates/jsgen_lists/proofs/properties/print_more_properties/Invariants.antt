use Rattle.std.proofs.Common.{map, drop, true}
use Rattle.jsgen_tree.specs.Tree.{trees}
use Rattle.jsgen_model.specs.Spell.{spell_more_properties}
use Rattle.jsgen_printer.proofs.Turns.{Towards}
use Rattle.jsgen_lists.proofs.properties.print_more_properties.Given as goal

-- what was laid out so far, and the properties left, give the whole
abbrev pub invariant-loop-property : goal.invariant-loop-property
invariant-loop-property g l =
    let items = λ (ps : _). spell_more_properties true (trees (map g.L.PrintProperty.plain ps)) l.place in
    Towards l.fn.p l.p (items (drop l.property-index l.properties)) (items l.properties)
