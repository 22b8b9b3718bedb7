use Rattle.std.proofs.Common.{map, drop}
use Rattle.jsgen_tree.specs.Tree.{trees}
use Rattle.jsgen_tree.specs.Rows.{directive_row}
use Rattle.jsgen_model.specs.Spell.{spell_directives}
use Rattle.jsgen_printer.proofs.Turns.{Towards}
use Rattle.jsgen_nodes.proofs.statements.print_directives.Given as goal

-- what was laid out so far, and the directives left, give the whole
abbrev pub invariant-loop-directive : goal.invariant-loop-directive
invariant-loop-directive l =
    let items = λ (ds : _). spell_directives (trees (map directive_row ds)) in
    Towards l.fn.p l.p (items (drop l.directive-index l.directives)) (items l.directives)
