use Rattle.std.proofs.Common.{map, drop}
use Rattle.jsgen_tree.specs.Tree.{trees}
use Rattle.jsgen_model.specs.Spell.{spell_behind_first}
use Rattle.jsgen_printer.proofs.Turns.{Towards}
use Rattle.jsgen_lists.proofs.arguments.print_behind_first.Given as goal

-- what was laid out so far, and the arguments left, give the whole
abbrev pub invariant-loop-argument : goal.invariant-loop-argument
invariant-loop-argument g l =
    let items = λ (quoted : _) (es : _). spell_behind_first quoted (trees (map g.L.PrintArgument.plain es)) l.place in
    Towards l.fn.p l.p (items l.quoted (drop l.argument-index l.arguments)) (items l.plain_second l.arguments)
