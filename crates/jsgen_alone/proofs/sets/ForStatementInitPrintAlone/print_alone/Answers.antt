-- Generated from tools/nodes/table.txt; edit that and run tools/nodes/generate.
-- It is printed by itself as it is at its place.
use Rattle.jsgen_tree.specs.Rows.{variable_declaration_row}
use Rattle.jsgen_alone.proofs.Placed.{placed_as}
use Rattle.jsgen_alone.proofs.sets.ForStatementInitPrintAlone.print_alone.Goals as goal

pub returns-in-VariableDeclaration : goal.returns-in-VariableDeclaration
returns-in-VariableDeclaration g c = rw (c.in-VariableDeclaration.is, ← c.deref.ensures) (placed_as (variable_declaration_row g.N.PrintNode.plain c.deref.result.now) c.loop_head-place.ensures c.print_variable_declaration.ensures)

pub returns-in-Expression : goal.returns-in-Expression
returns-in-Expression g c = rw c.in-Expression.is (rw (c.get.ensures, c.deref-in-Expression.ensures, c.loop_head-place.ensures) at c.print.ensures)
