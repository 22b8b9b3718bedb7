-- Generated from tools/nodes/table.txt; edit that and run tools/nodes/generate.
-- A member of one type is of the set.
use Rattle.std.proofs.Common.{refl, sym, ◌∙◌}
use Rattle.jsgen_check.proofs.Verdicts.{of_right_set}
use Rattle.jsgen_tree.specs.declared.types.NodeSet.TheVariants as sets
use Rattle.jsgen_check.proofs.children.check_for_statement_left.Goals as goal

pub returns-in-VariableDeclaration : goal.returns-in-VariableDeclaration
returns-in-VariableDeclaration g c = record { found = rw c.in-VariableDeclaration.is ((rw c.deref.ensures at c.check_variable_declaration.ensures.found) ∙ sym (of_right_set _ _ sets.ForStatementLeft _ refl)); number = rw c.in-VariableDeclaration.is (rw (c.deref.ensures) at c.check_variable_declaration.ensures.number) }
