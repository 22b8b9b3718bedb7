-- Generated from tools/nodes/table.txt; edit that and run tools/nodes/generate.
-- In which part of the choice within its set a member is.
use Rattle.std.specs.Prelude.{ℕ}
use Rattle.jsgen_tree.specs.declared.sets.Expression.{Expression}
use Rattle.jsgen_tree.specs.declared.sets.AssignmentTarget.{AssignmentTarget}
use Rattle.jsgen_tree.specs.declared.sets.Declaration.{Declaration}
use Rattle.jsgen_tree.specs.declared.sets.Statement.{Statement}
use Rattle.jsgen_tree.specs.declared.sets.BindingPattern.{BindingPattern}
use Rattle.jsgen_tree.specs.declared.sets.Expression.TheVariants as expression
use Rattle.jsgen_tree.specs.declared.sets.AssignmentTarget.TheVariants as assignment_target
use Rattle.jsgen_tree.specs.declared.sets.Declaration.TheVariants as declaration
use Rattle.jsgen_tree.specs.declared.sets.Statement.TheVariants as statement
use Rattle.jsgen_tree.specs.declared.sets.BindingPattern.TheVariants as binding_pattern

abbrev pub expression_part : {N : Type 0} → Expression N → ℕ
expression_part (expression.IdentifierReference b) = 0
expression_part (expression.ThisExpression b) = 0
expression_part (expression.NullLiteral b) = 0
expression_part (expression.BooleanLiteral b) = 0
expression_part (expression.NumericLiteral b) = 0
expression_part (expression.BigIntLiteral b) = 0
expression_part (expression.StringLiteral b) = 0
expression_part (expression.RegExpLiteral b) = 0
expression_part (expression.ParenthesizedExpression b) = 0
expression_part (expression.BinaryExpression b) = 0
expression_part (expression.LogicalExpression b) = 0
expression_part (expression.StaticMemberExpression b) = 0
expression_part (expression.ComputedMemberExpression b) = 0
expression_part (expression.CallExpression b) = 0
expression_part (expression.ChainExpression b) = 0
expression_part (expression.ArrayExpression b) = 1
expression_part (expression.ObjectExpression b) = 1
expression_part (expression.UnaryExpression b) = 2
expression_part (expression.NewTarget b) = 2
expression_part (expression.UpdateExpression b) = 2
expression_part (expression.NewExpression b) = 2
expression_part (expression.Super b) = 2
expression_part (expression.ImportMeta b) = 2
expression_part (expression.ConditionalExpression b) = 3
expression_part (expression.SequenceExpression b) = 3
expression_part (expression.AssignmentExpression b) = 3
expression_part (expression.Function b) = 4
expression_part (expression.ArrowFunctionExpression b) = 4
expression_part (expression.AwaitExpression b) = 4
expression_part (expression.YieldExpression b) = 4
expression_part (expression.TemplateLiteral b) = 5
expression_part (expression.TaggedTemplateExpression b) = 5
expression_part (expression.ImportExpression b) = 5
expression_part (expression.PrivateFieldExpression b) = 6
expression_part (expression.PrivateInExpression b) = 6
expression_part (expression.Class b) = 6

abbrev pub assignment_target_part : {N : Type 0} → AssignmentTarget N → ℕ
assignment_target_part (assignment_target.IdentifierReference b) = 0
assignment_target_part (assignment_target.StaticMemberExpression b) = 0
assignment_target_part (assignment_target.ComputedMemberExpression b) = 0
assignment_target_part (assignment_target.ArrayAssignmentTarget b) = 1
assignment_target_part (assignment_target.ObjectAssignmentTarget b) = 1
assignment_target_part (assignment_target.PrivateFieldExpression b) = 2

abbrev pub declaration_part : {N : Type 0} → Declaration N → ℕ
declaration_part (declaration.VariableDeclaration b) = 0
declaration_part (declaration.Function b) = 1
declaration_part (declaration.Class b) = 2

abbrev pub statement_part : {N : Type 0} → Statement N → ℕ
statement_part (statement.Declaration b) = 0
statement_part (statement.ExpressionStatement b) = 1
statement_part (statement.BlockStatement b) = 1
statement_part (statement.IfStatement b) = 1
statement_part (statement.EmptyStatement b) = 1
statement_part (statement.ForStatement b) = 2
statement_part (statement.ForInStatement b) = 2
statement_part (statement.ForOfStatement b) = 2
statement_part (statement.WhileStatement b) = 2
statement_part (statement.DoWhileStatement b) = 2
statement_part (statement.LabeledStatement b) = 2
statement_part (statement.ContinueStatement b) = 2
statement_part (statement.BreakStatement b) = 2
statement_part (statement.ReturnStatement b) = 2
statement_part (statement.ThrowStatement b) = 2
statement_part (statement.DebuggerStatement b) = 2
statement_part (statement.SwitchStatement b) = 3
statement_part (statement.TryStatement b) = 3
statement_part (statement.ImportDeclaration b) = 4
statement_part (statement.ExportDeclaration b) = 4
statement_part (statement.ExportNamedDeclaration b) = 4
statement_part (statement.ExportFromDeclaration b) = 4
statement_part (statement.ExportAllDeclaration b) = 4
statement_part (statement.ExportDefaultDeclaration b) = 4

abbrev pub binding_pattern_part : {N : Type 0} → BindingPattern N → ℕ
binding_pattern_part (binding_pattern.BindingIdentifier b) = 0
binding_pattern_part (binding_pattern.ObjectPattern b) = 1
binding_pattern_part (binding_pattern.ArrayPattern b) = 1
binding_pattern_part (binding_pattern.AssignmentPattern b) = 1
