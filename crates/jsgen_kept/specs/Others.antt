-- Generated from tools/nodes/table.txt; edit that and run tools/nodes/generate.
-- Which members of a set have rows that are kept by it.
use Rattle.std.specs.Prelude.{Bool, true, false}
use Rattle.jsgen_tree.specs.declared.sets.Expression.{Expression}
use Rattle.jsgen_tree.specs.declared.sets.AssignmentTarget.{AssignmentTarget}
use Rattle.jsgen_tree.specs.declared.sets.Declaration.{Declaration}
use Rattle.jsgen_tree.specs.declared.sets.Statement.{Statement}
use Rattle.jsgen_tree.specs.declared.sets.Expression.TheVariants as expression
use Rattle.jsgen_tree.specs.declared.sets.AssignmentTarget.TheVariants as assignment_target
use Rattle.jsgen_tree.specs.declared.sets.Declaration.TheVariants as declaration
use Rattle.jsgen_tree.specs.declared.sets.Statement.TheVariants as statement

abbrev pub is_other_declaration : {N : Type 0} → Declaration N → Bool
is_other_declaration (declaration.Function b) = false
is_other_declaration (declaration.Class b) = false
is_other_declaration s = true

abbrev pub is_other_statement : {N : Type 0} → Statement N → Bool
is_other_statement (statement.Declaration b) = false
is_other_statement s = true

abbrev pub is_other_expression : {N : Type 0} → Expression N → Bool
is_other_expression (expression.IdentifierReference b) = false
is_other_expression (expression.StaticMemberExpression b) = false
is_other_expression (expression.ComputedMemberExpression b) = false
is_other_expression (expression.Function b) = false
is_other_expression (expression.Class b) = false
is_other_expression (expression.PrivateFieldExpression b) = false
is_other_expression s = true

abbrev pub is_other_assignment_target : {N : Type 0} → AssignmentTarget N → Bool
is_other_assignment_target (assignment_target.IdentifierReference b) = false
is_other_assignment_target (assignment_target.StaticMemberExpression b) = false
is_other_assignment_target (assignment_target.ComputedMemberExpression b) = false
is_other_assignment_target (assignment_target.PrivateFieldExpression b) = false
is_other_assignment_target s = true
