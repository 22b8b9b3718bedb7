-- Generated from tools/nodes/table.txt; edit that and run tools/nodes/generate.
-- The type of a row of a flat job.
use Rattle.std.proofs.Common.{◌≡◌, ℕ, codes, Option, Some, Ok, true, refl}
use Rattle.serde_json.specs.Data.{Data, string}
use Rattle.serde_json.specs.Find.{get}
use Rattle.jsgen_flat.specs.Names.{type_name}
use Rattle.jsgen_flat.specs.Flat.{row_data}
use Rattle.jsgen_flat.specs.Views.{flat_row_data}
use Rattle.jsgen_flat.specs.declared.rows.FlatRow.{FlatRow}
use Rattle.jsgen_flat.proofs.Views.{typed as flat_typed}
use Rattle.jsgen_fields.specs.Names.{type_named, in_type_names, in_type_names_2}
use Rattle.jsgen_fields.specs.Values.{after, at, field_in, present, type_given, type_of}
use Rattle.jsgen_tree.specs.declared.types.NodeType.{NodeType}
use Rattle.jsgen_tree.specs.declared.types.NodeType.TheVariants as types

by_name : (type : NodeType) → type_named (type_name type) ≡ Some type
unfolding in_type_names in_type_names_2
by_name types.Program = refl
by_name types.Comment = refl
by_name types.Directive = refl
by_name types.VariableDeclaration = refl
by_name types.VariableDeclarator = refl
by_name types.BindingIdentifier = refl
by_name types.ExpressionStatement = refl
by_name types.BlockStatement = refl
by_name types.IfStatement = refl
by_name types.EmptyStatement = refl
by_name types.IdentifierReference = refl
by_name types.ThisExpression = refl
by_name types.NullLiteral = refl
by_name types.BooleanLiteral = refl
by_name types.NumericLiteral = refl
by_name types.BigIntLiteral = refl
by_name types.StringLiteral = refl
by_name types.RegExpLiteral = refl
by_name types.ParenthesizedExpression = refl
by_name types.BinaryExpression = refl
by_name types.LogicalExpression = refl
by_name types.IdentifierName = refl
by_name types.StaticMemberExpression = refl
by_name types.ComputedMemberExpression = refl
by_name types.CallExpression = refl
by_name types.ChainExpression = refl
by_name types.SpreadElement = refl
by_name types.ArrayExpression = refl
by_name types.ObjectProperty = refl
by_name types.ObjectExpression = refl
by_name types.UnaryExpression = refl
by_name types.NewTarget = refl
by_name types.UpdateExpression = refl
by_name types.NewExpression = refl
by_name types.Super = refl
by_name types.ImportMeta = refl
by_name types.ConditionalExpression = refl
by_name types.SequenceExpression = refl
by_name types.AssignmentExpression = refl
by_name types.FormalParameter = refl
by_name types.FormalParameterRest = refl
by_name types.FormalParameters = refl
by_name types.Function = refl
by_name types.FunctionBody = refl
by_name types.ArrowFunctionExpression = refl
by_name types.AwaitExpression = refl
by_name types.YieldExpression = refl
by_name types.TemplateElement = refl
by_name types.TemplateLiteral = refl
by_name types.TaggedTemplateExpression = refl
by_name types.ImportExpression = refl
by_name types.ForStatement = refl
by_name types.ForInStatement = refl
by_name types.ForOfStatement = refl
by_name types.WhileStatement = refl
by_name types.DoWhileStatement = refl
by_name types.LabelIdentifier = refl
by_name types.LabeledStatement = refl
by_name types.ContinueStatement = refl
by_name types.BreakStatement = refl
by_name types.ReturnStatement = refl
by_name types.ThrowStatement = refl
by_name types.DebuggerStatement = refl
by_name types.SwitchStatement = refl
by_name types.SwitchCase = refl
by_name types.TryStatement = refl
by_name types.CatchClause = refl
by_name types.ObjectPattern = refl
by_name types.BindingProperty = refl
by_name types.BindingRestElement = refl
by_name types.ArrayPattern = refl
by_name types.AssignmentPattern = refl
by_name types.ArrayAssignmentTarget = refl
by_name types.ObjectAssignmentTarget = refl
by_name types.AssignmentTargetWithDefault = refl
by_name types.AssignmentTargetPropertyIdentifier = refl
by_name types.AssignmentTargetPropertyProperty = refl
by_name types.AssignmentTargetRest = refl
by_name types.PrivateIdentifier = refl
by_name types.PrivateFieldExpression = refl
by_name types.PrivateInExpression = refl
by_name types.Class = refl
by_name types.ClassBody = refl
by_name types.StaticBlock = refl
by_name types.MethodDefinition = refl
by_name types.PropertyDefinition = refl
by_name types.Hashbang = refl
by_name types.ImportDeclaration = refl
by_name types.ImportDefaultSpecifier = refl
by_name types.ImportNamespaceSpecifier = refl
by_name types.ImportSpecifier = refl
by_name types.WithClause = refl
by_name types.ImportAttribute = refl
by_name types.ExportDeclaration = refl
by_name types.ExportNamedDeclaration = refl
by_name types.ExportFromDeclaration = refl
by_name types.ExportSpecifier = refl
by_name types.ExportAllDeclaration = refl
by_name types.ExportDefaultDeclaration = refl

named : (k : ℕ) (r : FlatRow) (o : Option Data) → o ≡ Some (string (type_name r.node_type)) → after (field_in (at k 0) true (present o)) (type_given (at k 0)) ≡ Ok r.node_type
named k r o e = rw (e, by_name r.node_type) refl

-- a row of a flat job has its type
pub typed : (k : ℕ) (r : FlatRow) → type_of k (flat_row_data r) ≡ Ok r.node_type
unfolding row_data
typed k r = named k r (get (codes "type") (flat_row_data r)) (flat_typed r)
