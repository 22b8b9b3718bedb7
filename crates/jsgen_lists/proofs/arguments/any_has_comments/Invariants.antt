use Rattle.std.proofs.Common.{map, drop, ◌≡◌}
use Rattle.jsgen_tree.specs.Tree.{trees}
use Rattle.jsgen_model.specs.Groups.{any_group}
use Rattle.jsgen_model.specs.Spell.{starts_of}
use Rattle.jsgen_printer.specs.Printer.{pen_of}
use Rattle.jsgen_lists.proofs.arguments.any_has_comments.Given as goal

-- whether comments stand at any is whether they do at one of those left
abbrev pub invariant-loop-argument : goal.invariant-loop-argument
invariant-loop-argument g l =
    let any = λ (es : _). any_group (starts_of (trees (map g.L.PrintArgument.plain es))) (pen_of l.p) in
    any (drop l.argument-index l.arguments) ≡ any l.arguments
