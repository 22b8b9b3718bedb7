use Rattle.std.proofs.Common.{map, drop}
use Rattle.jsgen_tree.specs.Tree.{trees}
use Rattle.jsgen_model.specs.Spell.{spell_statements}
use Rattle.jsgen_printer.proofs.Turns.{Towards}
use Rattle.jsgen_lists.proofs.statements.print_statements.Given as goal

-- what was laid out so far, and the statements left, give the whole
abbrev pub invariant-loop-statement : goal.invariant-loop-statement
invariant-loop-statement g l =
    let items = λ (ss : _). spell_statements (trees (map g.S.PrintStatement.plain ss)) in
    Towards l.fn.p l.p (items (drop l.statement-index l.statements)) (items l.statements)
