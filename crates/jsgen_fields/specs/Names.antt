-- Generated from tools/nodes/table.txt; edit that and run tools/nodes/generate.
-- The types of nodes by their names.
use Rattle.std.specs.Prelude.{ℕ, List, [], ◌∷◌, codes, Option, Some, None, if◌then◌else◌}
use Rattle.std.specs.Str.{bytes_eq}
use Rattle.jsgen_tree.specs.declared.types.NodeType.{NodeType}
use Rattle.jsgen_tree.specs.declared.types.NodeType.TheVariants as types

abbrev pub or_else : {A : Type 0} → Option A → Option A → Option A
or_else None o = o
or_else (Some a) o = Some a

-- the type whose name the text is
abbrev pub first_named : List (List ℕ × NodeType) → List ℕ → Option NodeType
first_named [] s = None
first_named (n ∷ ns) s = if bytes_eq s n.0 then Some n.1 else first_named ns s

abbrev pub type_names : List (List ℕ × NodeType)
type_names = (codes "Program", types.Program) ∷ (codes "Comment", types.Comment) ∷ (codes "Directive", types.Directive) ∷ (codes "VariableDeclaration", types.VariableDeclaration) ∷ (codes "VariableDeclarator", types.VariableDeclarator) ∷ (codes "BindingIdentifier", types.BindingIdentifier) ∷ (codes "ExpressionStatement", types.ExpressionStatement) ∷ (codes "BlockStatement", types.BlockStatement) ∷ (codes "IfStatement", types.IfStatement) ∷ (codes "EmptyStatement", types.EmptyStatement) ∷ (codes "IdentifierReference", types.IdentifierReference) ∷ (codes "ThisExpression", types.ThisExpression) ∷ (codes "NullLiteral", types.NullLiteral) ∷ (codes "BooleanLiteral", types.BooleanLiteral) ∷ (codes "NumericLiteral", types.NumericLiteral) ∷ (codes "BigIntLiteral", types.BigIntLiteral) ∷ (codes "StringLiteral", types.StringLiteral) ∷ (codes "RegExpLiteral", types.RegExpLiteral) ∷ (codes "ParenthesizedExpression", types.ParenthesizedExpression) ∷ (codes "BinaryExpression", types.BinaryExpression) ∷ (codes "LogicalExpression", types.LogicalExpression) ∷ (codes "IdentifierName", types.IdentifierName) ∷ (codes "StaticMemberExpression", types.StaticMemberExpression) ∷ (codes "ComputedMemberExpression", types.ComputedMemberExpression) ∷ (codes "CallExpression", types.CallExpression) ∷ (codes "ChainExpression", types.ChainExpression) ∷ (codes "SpreadElement", types.SpreadElement) ∷ (codes "ArrayExpression", types.ArrayExpression) ∷ (codes "ObjectProperty", types.ObjectProperty) ∷ (codes "ObjectExpression", types.ObjectExpression) ∷ (codes "UnaryExpression", types.UnaryExpression) ∷ (codes "NewTarget", types.NewTarget) ∷ (codes "UpdateExpression", types.UpdateExpression) ∷ (codes "NewExpression", types.NewExpression) ∷ (codes "Super", types.Super) ∷ (codes "ImportMeta", types.ImportMeta) ∷ (codes "ConditionalExpression", types.ConditionalExpression) ∷ (codes "SequenceExpression", types.SequenceExpression) ∷ (codes "AssignmentExpression", types.AssignmentExpression) ∷ (codes "FormalParameter", types.FormalParameter) ∷ (codes "FormalParameterRest", types.FormalParameterRest) ∷ (codes "FormalParameters", types.FormalParameters) ∷ (codes "Function", types.Function) ∷ (codes "FunctionBody", types.FunctionBody) ∷ (codes "ArrowFunctionExpression", types.ArrowFunctionExpression) ∷ (codes "AwaitExpression", types.AwaitExpression) ∷ (codes "YieldExpression", types.YieldExpression) ∷ (codes "TemplateElement", types.TemplateElement) ∷ (codes "TemplateLiteral", types.TemplateLiteral) ∷ (codes "TaggedTemplateExpression", types.TaggedTemplateExpression) ∷ []

abbrev pub type_names_2 : List (List ℕ × NodeType)
type_names_2 = (codes "ImportExpression", types.ImportExpression) ∷ (codes "ForStatement", types.ForStatement) ∷ (codes "ForInStatement", types.ForInStatement) ∷ (codes "ForOfStatement", types.ForOfStatement) ∷ (codes "WhileStatement", types.WhileStatement) ∷ (codes "DoWhileStatement", types.DoWhileStatement) ∷ (codes "LabelIdentifier", types.LabelIdentifier) ∷ (codes "LabeledStatement", types.LabeledStatement) ∷ (codes "ContinueStatement", types.ContinueStatement) ∷ (codes "BreakStatement", types.BreakStatement) ∷ (codes "ReturnStatement", types.ReturnStatement) ∷ (codes "ThrowStatement", types.ThrowStatement) ∷ (codes "DebuggerStatement", types.DebuggerStatement) ∷ (codes "SwitchStatement", types.SwitchStatement) ∷ (codes "SwitchCase", types.SwitchCase) ∷ (codes "TryStatement", types.TryStatement) ∷ (codes "CatchClause", types.CatchClause) ∷ (codes "ObjectPattern", types.ObjectPattern) ∷ (codes "BindingProperty", types.BindingProperty) ∷ (codes "BindingRestElement", types.BindingRestElement) ∷ (codes "ArrayPattern", types.ArrayPattern) ∷ (codes "AssignmentPattern", types.AssignmentPattern) ∷ (codes "ArrayAssignmentTarget", types.ArrayAssignmentTarget) ∷ (codes "ObjectAssignmentTarget", types.ObjectAssignmentTarget) ∷ (codes "AssignmentTargetWithDefault", types.AssignmentTargetWithDefault) ∷ (codes "AssignmentTargetPropertyIdentifier", types.AssignmentTargetPropertyIdentifier) ∷ (codes "AssignmentTargetPropertyProperty", types.AssignmentTargetPropertyProperty) ∷ (codes "AssignmentTargetRest", types.AssignmentTargetRest) ∷ (codes "PrivateIdentifier", types.PrivateIdentifier) ∷ (codes "PrivateFieldExpression", types.PrivateFieldExpression) ∷ (codes "PrivateInExpression", types.PrivateInExpression) ∷ (codes "Class", types.Class) ∷ (codes "ClassBody", types.ClassBody) ∷ (codes "StaticBlock", types.StaticBlock) ∷ (codes "MethodDefinition", types.MethodDefinition) ∷ (codes "PropertyDefinition", types.PropertyDefinition) ∷ (codes "Hashbang", types.Hashbang) ∷ (codes "ImportDeclaration", types.ImportDeclaration) ∷ (codes "ImportDefaultSpecifier", types.ImportDefaultSpecifier) ∷ (codes "ImportNamespaceSpecifier", types.ImportNamespaceSpecifier) ∷ (codes "ImportSpecifier", types.ImportSpecifier) ∷ (codes "WithClause", types.WithClause) ∷ (codes "ImportAttribute", types.ImportAttribute) ∷ (codes "ExportDeclaration", types.ExportDeclaration) ∷ (codes "ExportNamedDeclaration", types.ExportNamedDeclaration) ∷ (codes "ExportFromDeclaration", types.ExportFromDeclaration) ∷ (codes "ExportSpecifier", types.ExportSpecifier) ∷ (codes "ExportAllDeclaration", types.ExportAllDeclaration) ∷ (codes "ExportDefaultDeclaration", types.ExportDefaultDeclaration) ∷ []

unfoldable pub in_type_names : List ℕ → Option NodeType
in_type_names s = first_named type_names s

unfoldable pub in_type_names_2 : List ℕ → Option NodeType
in_type_names_2 s = first_named type_names_2 s

-- the type that a name names
abbrev pub type_named : List ℕ → Option NodeType
type_named s = or_else (in_type_names s) (in_type_names_2 s)
