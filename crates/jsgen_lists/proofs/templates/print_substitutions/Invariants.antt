use Rattle.std.proofs.Common.{map, drop}
use Rattle.jsgen_tree.specs.Rows.{template_element_row}
use Rattle.jsgen_tree.specs.Tree.{trees}
use Rattle.jsgen_model.specs.Spell.{spell_substitutions}
use Rattle.jsgen_printer.proofs.Turns.{Towards}
use Rattle.jsgen_lists.proofs.templates.print_substitutions.Given as goal

-- what was laid out so far, and the expressions and pieces left, give the whole
abbrev pub invariant-loop-expression : goal.invariant-loop-expression
invariant-loop-expression g l =
    let items = λ (es : _) (ps : _). spell_substitutions l.tagged (trees (map g.L.PrintSubstitution.plain es)) (trees (map template_element_row ps)) in
    Towards l.fn.p l.p (items (drop l.expression-index l.expressions) l.left) (items l.expressions l.pieces)
