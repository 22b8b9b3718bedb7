use Rattle.std.proofs.Common.{map, drop}
use Rattle.jsgen_tree.specs.Tree.{holed}
use Rattle.jsgen_model.specs.Spell.{spell_more_elements}
use Rattle.jsgen_printer.proofs.Turns.{Towards}
use Rattle.jsgen_lists.proofs.elements.print_more_elements.Given as goal

-- what was laid out so far, and the members left, give the whole
abbrev pub invariant-loop-element : goal.invariant-loop-element
invariant-loop-element g l =
    let items = λ (ms : _). spell_more_elements l.lines (holed (map g.L.PrintElement.plain ms)) l.place in
    Towards l.fn.p l.p (items (drop l.element-index l.elements)) (items l.elements)
