use Rattle.std.proofs.Common.{map, drop}
use Rattle.jsgen_tree.specs.Tree.{trees}
use Rattle.jsgen_model.specs.Spell.{spell_cases}
use Rattle.jsgen_printer.proofs.Turns.{Towards}
use Rattle.jsgen_lists.proofs.cases.print_cases.Given as goal

-- what was laid out so far, and the cases left, give the whole
abbrev pub invariant-loop-case : goal.invariant-loop-case
invariant-loop-case g l =
    let items = λ (ms : _). spell_cases (trees (map g.L.PrintMember.plain ms)) in
    Towards l.fn.p l.p (items (drop l.case-index l.cases)) (items l.cases)
