use Rattle.std.proofs.Common.{map, drop}
use Rattle.jsgen_tree.specs.Tree.{trees}
use Rattle.jsgen_model.specs.Spell.{spell_elements_of_class}
use Rattle.jsgen_printer.proofs.Turns.{Towards}
use Rattle.jsgen_lists.proofs.elements_of_class.print_elements_of_class.Given as goal

-- what was laid out so far, and the members left, give the whole
abbrev pub invariant-loop-member : goal.invariant-loop-member
invariant-loop-member g l =
    let items = λ (ms : _). spell_elements_of_class (trees (map g.L.PrintMember.plain ms)) l.place in
    Towards l.fn.p l.p (items (drop l.member-index l.members)) (items l.members)
