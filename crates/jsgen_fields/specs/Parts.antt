-- Generated from tools/nodes/table.txt; edit that and run tools/nodes/generate.
-- Which types are read in which part; what is in none of these is read in the last.
use Rattle.std.specs.Prelude.{Bool, true, false}
use Rattle.jsgen_tree.specs.declared.types.NodeType.{NodeType}
use Rattle.jsgen_tree.specs.declared.types.NodeType.TheVariants as types

abbrev pub is_in_statements : NodeType → Bool
is_in_statements types.Program = true
is_in_statements types.Comment = true
is_in_statements types.Directive = true
is_in_statements types.VariableDeclaration = true
is_in_statements types.VariableDeclarator = true
is_in_statements types.BindingIdentifier = true
is_in_statements types.ExpressionStatement = true
is_in_statements types.BlockStatement = true
is_in_statements types.IfStatement = true
is_in_statements types.EmptyStatement = true
is_in_statements other = false

abbrev pub is_in_expressions : NodeType → Bool
is_in_expressions types.IdentifierReference = true
is_in_expressions types.ThisExpression = true
is_in_expressions types.NullLiteral = true
is_in_expressions types.BooleanLiteral = true
is_in_expressions types.NumericLiteral = true
is_in_expressions types.BigIntLiteral = true
is_in_expressions types.StringLiteral = true
is_in_expressions types.RegExpLiteral = true
is_in_expressions types.ParenthesizedExpression = true
is_in_expressions types.BinaryExpression = true
is_in_expressions types.LogicalExpression = true
is_in_expressions types.IdentifierName = true
is_in_expressions types.StaticMemberExpression = true
is_in_expressions types.ComputedMemberExpression = true
is_in_expressions types.CallExpression = true
is_in_expressions types.ChainExpression = true
is_in_expressions other = false

abbrev pub is_in_collections : NodeType → Bool
is_in_collections types.SpreadElement = true
is_in_collections types.ArrayExpression = true
is_in_collections types.ObjectProperty = true
is_in_collections types.ObjectExpression = true
is_in_collections other = false

abbrev pub is_in_operations : NodeType → Bool
is_in_operations types.UnaryExpression = true
is_in_operations types.NewTarget = true
is_in_operations types.UpdateExpression = true
is_in_operations types.NewExpression = true
is_in_operations types.Super = true
is_in_operations types.ImportMeta = true
is_in_operations other = false

abbrev pub is_in_assignments : NodeType → Bool
is_in_assignments types.ConditionalExpression = true
is_in_assignments types.SequenceExpression = true
is_in_assignments types.AssignmentExpression = true
is_in_assignments other = false

abbrev pub is_in_functions : NodeType → Bool
is_in_functions types.FormalParameter = true
is_in_functions types.FormalParameterRest = true
is_in_functions types.FormalParameters = true
is_in_functions types.Function = true
is_in_functions types.FunctionBody = true
is_in_functions types.ArrowFunctionExpression = true
is_in_functions types.AwaitExpression = true
is_in_functions types.YieldExpression = true
is_in_functions other = false

abbrev pub is_in_templates : NodeType → Bool
is_in_templates types.TemplateElement = true
is_in_templates types.TemplateLiteral = true
is_in_templates types.TaggedTemplateExpression = true
is_in_templates types.ImportExpression = true
is_in_templates other = false

abbrev pub is_in_loops : NodeType → Bool
is_in_loops types.ForStatement = true
is_in_loops types.ForInStatement = true
is_in_loops types.ForOfStatement = true
is_in_loops types.WhileStatement = true
is_in_loops types.DoWhileStatement = true
is_in_loops types.LabelIdentifier = true
is_in_loops types.LabeledStatement = true
is_in_loops types.ContinueStatement = true
is_in_loops types.BreakStatement = true
is_in_loops types.ReturnStatement = true
is_in_loops types.ThrowStatement = true
is_in_loops types.DebuggerStatement = true
is_in_loops other = false

abbrev pub is_in_choices : NodeType → Bool
is_in_choices types.SwitchStatement = true
is_in_choices types.SwitchCase = true
is_in_choices types.TryStatement = true
is_in_choices types.CatchClause = true
is_in_choices other = false

abbrev pub is_in_patterns : NodeType → Bool
is_in_patterns types.ObjectPattern = true
is_in_patterns types.BindingProperty = true
is_in_patterns types.BindingRestElement = true
is_in_patterns types.ArrayPattern = true
is_in_patterns types.AssignmentPattern = true
is_in_patterns other = false

abbrev pub is_in_targets : NodeType → Bool
is_in_targets types.ArrayAssignmentTarget = true
is_in_targets types.ObjectAssignmentTarget = true
is_in_targets types.AssignmentTargetWithDefault = true
is_in_targets types.AssignmentTargetPropertyIdentifier = true
is_in_targets types.AssignmentTargetPropertyProperty = true
is_in_targets types.AssignmentTargetRest = true
is_in_targets other = false

abbrev pub is_in_classes : NodeType → Bool
is_in_classes types.PrivateIdentifier = true
is_in_classes types.PrivateFieldExpression = true
is_in_classes types.PrivateInExpression = true
is_in_classes types.Class = true
is_in_classes types.ClassBody = true
is_in_classes types.StaticBlock = true
is_in_classes types.MethodDefinition = true
is_in_classes types.PropertyDefinition = true
is_in_classes other = false
