use Rattle.std.proofs.Common.{map, sym, ◌∙◌}
use Rattle.jsgen_tree.specs.Tree.{Tree, trees}
use Rattle.jsgen_tree.specs.Rows.{directive_row, in_statement}
use Rattle.jsgen_tree.specs.declared.functions.FunctionBody.{FunctionBody}
use Rattle.jsgen_model.specs.Items.{Items, ◌⊕◌}
use Rattle.jsgen_model.specs.Spell.{spell_directives, spell_body}
use Rattle.jsgen_nodes.proofs.Filled.{empty_body, filled_body}
use Rattle.jsgen_nodes.proofs.functions.print_function_body.Goals as goal

-- what stands in the braces
abbrev inside : {N : Type 0} → (N → Tree) → FunctionBody N → Items
inside plain node = spell_directives (trees (map directive_row node.directives.items)) ⊕ spell_body (trees (map (in_statement plain) node.statements.items))

pub returns-then-are_empty : goal.returns-then-are_empty
returns-then-are_empty g c =
    let plain = g.N.PrintNode.plain in
    let node = c.args.node.now in
    let tested = rw (c.deref.ensures.value, c.deref-2.ensures.value) at c.are_empty.ensures in
    rw (sym (empty_body directive_row (in_statement plain) node.directives.items node.statements.items node.span (inside plain node) (sym tested ∙ c.if-are_empty.true))) c.print_empty_body.ensures

pub returns-else-are_empty : goal.returns-else-are_empty
returns-else-are_empty g c =
    let plain = g.N.PrintNode.plain in
    let node = c.args.node.now in
    let tested = rw (c.deref.ensures.value, c.deref-2.ensures.value) at c.are_empty.ensures in
    rw (sym (filled_body directive_row (in_statement plain) node.directives.items node.statements.items node.span (inside plain node) (sym tested ∙ c.if-are_empty.false))) c.print_filled_body.ensures
