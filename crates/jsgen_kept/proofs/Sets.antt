-- Generated from tools/nodes/table.txt; edit that and run tools/nodes/generate.
-- Which of the sets that children are of hold the rows that are kept by their set.
use Rattle.std.proofs.Common.{◌≡◌, Bool, true, false, refl}
use Rattle.jsgen_tree.specs.Tree.{Tree, type_of}
use Rattle.jsgen_tree.specs.declared.types.NodeType.{NodeType}
use Rattle.jsgen_tree.specs.Sets.{is_statement, is_binding_pattern, is_expression, is_argument, is_chain_element, is_array_expression_element, is_property_key, is_object_property_kind, is_simple_assignment_target, is_assignment_target, is_arrow_function_body, is_for_statement_init, is_for_statement_left, is_assignment_target_maybe_default, is_assignment_target_property, is_class_element, is_import_declaration_specifier, is_module_export_name, is_import_attribute_key, is_declaration, is_export_default_declaration_kind}
use Rattle.jsgen_tree.specs.Rows.{expression_plain, assignment_target_plain, declaration_plain, statement_plain, binding_pattern_plain, class_element_plain}
use Rattle.jsgen_kept.specs.Kept.{is_program}
use Rattle.jsgen_tree.specs.declared.sets.Expression.{Expression}
use Rattle.jsgen_tree.specs.declared.sets.AssignmentTarget.{AssignmentTarget}
use Rattle.jsgen_tree.specs.declared.sets.Declaration.{Declaration}
use Rattle.jsgen_tree.specs.declared.sets.Statement.{Statement}
use Rattle.jsgen_tree.specs.declared.sets.BindingPattern.{BindingPattern}
use Rattle.jsgen_tree.specs.declared.sets.ClassElement.{ClassElement}
use Rattle.jsgen_kept.specs.Others.{is_other_declaration, is_other_statement, is_other_expression, is_other_assignment_target}
use Rattle.jsgen_kept.specs.declared.others.OtherDeclaration.{OtherDeclaration}
use Rattle.jsgen_kept.specs.declared.others.OtherStatement.{OtherStatement}
use Rattle.jsgen_kept.specs.declared.others.OtherExpression.{OtherExpression}
use Rattle.jsgen_kept.specs.declared.others.OtherAssignmentTarget.{OtherAssignmentTarget}
use Rattle.jsgen_tree.specs.declared.types.NodeType.TheVariants as types
use Rattle.jsgen_tree.specs.declared.sets.Declaration.TheVariants as declarations
use Rattle.jsgen_tree.specs.declared.sets.BindingPattern.TheVariants as binding_patterns
use Rattle.jsgen_tree.specs.declared.sets.Statement.TheVariants as statements
use Rattle.jsgen_tree.specs.declared.sets.Expression.TheVariants as expressions
use Rattle.jsgen_tree.specs.declared.sets.AssignmentTarget.TheVariants as assignment_targets
use Rattle.jsgen_tree.specs.declared.sets.ClassElement.TheVariants as class_elements

-- ---- what is so of each type of a set is so of each row of it

pub of_declaration : {N : Type 0} (plain : N → Tree) (f : NodeType → Bool) (b : Bool) → f types.VariableDeclaration ≡ b → (r : Declaration N) → is_other_declaration r ≡ true → f (type_of (declaration_plain plain r)) ≡ b
of_declaration plain f b h0 (declarations.Function r) o = cc
of_declaration plain f b h0 (declarations.Class r) o = cc
of_declaration plain f b h0 (declarations.VariableDeclaration r) o = h0

pub of_binding_pattern : {N : Type 0} (plain : N → Tree) (f : NodeType → Bool) (b : Bool) → f types.BindingIdentifier ≡ b → f types.ObjectPattern ≡ b → f types.ArrayPattern ≡ b → f types.AssignmentPattern ≡ b → (r : BindingPattern N) → f (type_of (binding_pattern_plain plain r)) ≡ b
of_binding_pattern plain f b h0 h1 h2 h3 (binding_patterns.BindingIdentifier r) = h0
of_binding_pattern plain f b h0 h1 h2 h3 (binding_patterns.ObjectPattern r) = h1
of_binding_pattern plain f b h0 h1 h2 h3 (binding_patterns.ArrayPattern r) = h2
of_binding_pattern plain f b h0 h1 h2 h3 (binding_patterns.AssignmentPattern r) = h3

pub of_statement : {N : Type 0} (plain : N → Tree) (f : NodeType → Bool) (b : Bool) → f types.ExpressionStatement ≡ b → f types.BlockStatement ≡ b → f types.IfStatement ≡ b → f types.EmptyStatement ≡ b → f types.ForStatement ≡ b → f types.ForInStatement ≡ b → f types.ForOfStatement ≡ b → f types.WhileStatement ≡ b → f types.DoWhileStatement ≡ b → f types.LabeledStatement ≡ b → f types.ContinueStatement ≡ b → f types.BreakStatement ≡ b → f types.ReturnStatement ≡ b → f types.ThrowStatement ≡ b → f types.DebuggerStatement ≡ b → f types.SwitchStatement ≡ b → f types.TryStatement ≡ b → f types.ImportDeclaration ≡ b → f types.ExportDeclaration ≡ b → f types.ExportNamedDeclaration ≡ b → f types.ExportFromDeclaration ≡ b → f types.ExportAllDeclaration ≡ b → f types.ExportDefaultDeclaration ≡ b → (r : Statement N) → is_other_statement r ≡ true → f (type_of (statement_plain plain r)) ≡ b
of_statement plain f b h0 h1 h2 h3 h4 h5 h6 h7 h8 h9 h10 h11 h12 h13 h14 h15 h16 h17 h18 h19 h20 h21 h22 (statements.Declaration r) o = cc
of_statement plain f b h0 h1 h2 h3 h4 h5 h6 h7 h8 h9 h10 h11 h12 h13 h14 h15 h16 h17 h18 h19 h20 h21 h22 (statements.ExpressionStatement r) o = h0
of_statement plain f b h0 h1 h2 h3 h4 h5 h6 h7 h8 h9 h10 h11 h12 h13 h14 h15 h16 h17 h18 h19 h20 h21 h22 (statements.BlockStatement r) o = h1
of_statement plain f b h0 h1 h2 h3 h4 h5 h6 h7 h8 h9 h10 h11 h12 h13 h14 h15 h16 h17 h18 h19 h20 h21 h22 (statements.IfStatement r) o = h2
of_statement plain f b h0 h1 h2 h3 h4 h5 h6 h7 h8 h9 h10 h11 h12 h13 h14 h15 h16 h17 h18 h19 h20 h21 h22 (statements.EmptyStatement r) o = h3
of_statement plain f b h0 h1 h2 h3 h4 h5 h6 h7 h8 h9 h10 h11 h12 h13 h14 h15 h16 h17 h18 h19 h20 h21 h22 (statements.ForStatement r) o = h4
of_statement plain f b h0 h1 h2 h3 h4 h5 h6 h7 h8 h9 h10 h11 h12 h13 h14 h15 h16 h17 h18 h19 h20 h21 h22 (statements.ForInStatement r) o = h5
of_statement plain f b h0 h1 h2 h3 h4 h5 h6 h7 h8 h9 h10 h11 h12 h13 h14 h15 h16 h17 h18 h19 h20 h21 h22 (statements.ForOfStatement r) o = h6
of_statement plain f b h0 h1 h2 h3 h4 h5 h6 h7 h8 h9 h10 h11 h12 h13 h14 h15 h16 h17 h18 h19 h20 h21 h22 (statements.WhileStatement r) o = h7
of_statement plain f b h0 h1 h2 h3 h4 h5 h6 h7 h8 h9 h10 h11 h12 h13 h14 h15 h16 h17 h18 h19 h20 h21 h22 (statements.DoWhileStatement r) o = h8
of_statement plain f b h0 h1 h2 h3 h4 h5 h6 h7 h8 h9 h10 h11 h12 h13 h14 h15 h16 h17 h18 h19 h20 h21 h22 (statements.LabeledStatement r) o = h9
of_statement plain f b h0 h1 h2 h3 h4 h5 h6 h7 h8 h9 h10 h11 h12 h13 h14 h15 h16 h17 h18 h19 h20 h21 h22 (statements.ContinueStatement r) o = h10
of_statement plain f b h0 h1 h2 h3 h4 h5 h6 h7 h8 h9 h10 h11 h12 h13 h14 h15 h16 h17 h18 h19 h20 h21 h22 (statements.BreakStatement r) o = h11
of_statement plain f b h0 h1 h2 h3 h4 h5 h6 h7 h8 h9 h10 h11 h12 h13 h14 h15 h16 h17 h18 h19 h20 h21 h22 (statements.ReturnStatement r) o = h12
of_statement plain f b h0 h1 h2 h3 h4 h5 h6 h7 h8 h9 h10 h11 h12 h13 h14 h15 h16 h17 h18 h19 h20 h21 h22 (statements.ThrowStatement r) o = h13
of_statement plain f b h0 h1 h2 h3 h4 h5 h6 h7 h8 h9 h10 h11 h12 h13 h14 h15 h16 h17 h18 h19 h20 h21 h22 (statements.DebuggerStatement r) o = h14
of_statement plain f b h0 h1 h2 h3 h4 h5 h6 h7 h8 h9 h10 h11 h12 h13 h14 h15 h16 h17 h18 h19 h20 h21 h22 (statements.SwitchStatement r) o = h15
of_statement plain f b h0 h1 h2 h3 h4 h5 h6 h7 h8 h9 h10 h11 h12 h13 h14 h15 h16 h17 h18 h19 h20 h21 h22 (statements.TryStatement r) o = h16
of_statement plain f b h0 h1 h2 h3 h4 h5 h6 h7 h8 h9 h10 h11 h12 h13 h14 h15 h16 h17 h18 h19 h20 h21 h22 (statements.ImportDeclaration r) o = h17
of_statement plain f b h0 h1 h2 h3 h4 h5 h6 h7 h8 h9 h10 h11 h12 h13 h14 h15 h16 h17 h18 h19 h20 h21 h22 (statements.ExportDeclaration r) o = h18
of_statement plain f b h0 h1 h2 h3 h4 h5 h6 h7 h8 h9 h10 h11 h12 h13 h14 h15 h16 h17 h18 h19 h20 h21 h22 (statements.ExportNamedDeclaration r) o = h19
of_statement plain f b h0 h1 h2 h3 h4 h5 h6 h7 h8 h9 h10 h11 h12 h13 h14 h15 h16 h17 h18 h19 h20 h21 h22 (statements.ExportFromDeclaration r) o = h20
of_statement plain f b h0 h1 h2 h3 h4 h5 h6 h7 h8 h9 h10 h11 h12 h13 h14 h15 h16 h17 h18 h19 h20 h21 h22 (statements.ExportAllDeclaration r) o = h21
of_statement plain f b h0 h1 h2 h3 h4 h5 h6 h7 h8 h9 h10 h11 h12 h13 h14 h15 h16 h17 h18 h19 h20 h21 h22 (statements.ExportDefaultDeclaration r) o = h22

pub of_expression : {N : Type 0} (plain : N → Tree) (f : NodeType → Bool) (b : Bool) → f types.ThisExpression ≡ b → f types.NullLiteral ≡ b → f types.BooleanLiteral ≡ b → f types.NumericLiteral ≡ b → f types.BigIntLiteral ≡ b → f types.StringLiteral ≡ b → f types.RegExpLiteral ≡ b → f types.BinaryExpression ≡ b → f types.LogicalExpression ≡ b → f types.ParenthesizedExpression ≡ b → f types.CallExpression ≡ b → f types.ChainExpression ≡ b → f types.ArrayExpression ≡ b → f types.ObjectExpression ≡ b → f types.UnaryExpression ≡ b → f types.UpdateExpression ≡ b → f types.NewExpression ≡ b → f types.NewTarget ≡ b → f types.Super ≡ b → f types.ImportMeta ≡ b → f types.ConditionalExpression ≡ b → f types.SequenceExpression ≡ b → f types.AssignmentExpression ≡ b → f types.ArrowFunctionExpression ≡ b → f types.PrivateInExpression ≡ b → f types.AwaitExpression ≡ b → f types.YieldExpression ≡ b → f types.TemplateLiteral ≡ b → f types.TaggedTemplateExpression ≡ b → f types.ImportExpression ≡ b → (r : Expression N) → is_other_expression r ≡ true → f (type_of (expression_plain plain r)) ≡ b
of_expression plain f b h0 h1 h2 h3 h4 h5 h6 h7 h8 h9 h10 h11 h12 h13 h14 h15 h16 h17 h18 h19 h20 h21 h22 h23 h24 h25 h26 h27 h28 h29 (expressions.IdentifierReference r) o = cc
of_expression plain f b h0 h1 h2 h3 h4 h5 h6 h7 h8 h9 h10 h11 h12 h13 h14 h15 h16 h17 h18 h19 h20 h21 h22 h23 h24 h25 h26 h27 h28 h29 (expressions.StaticMemberExpression r) o = cc
of_expression plain f b h0 h1 h2 h3 h4 h5 h6 h7 h8 h9 h10 h11 h12 h13 h14 h15 h16 h17 h18 h19 h20 h21 h22 h23 h24 h25 h26 h27 h28 h29 (expressions.ComputedMemberExpression r) o = cc
of_expression plain f b h0 h1 h2 h3 h4 h5 h6 h7 h8 h9 h10 h11 h12 h13 h14 h15 h16 h17 h18 h19 h20 h21 h22 h23 h24 h25 h26 h27 h28 h29 (expressions.Function r) o = cc
of_expression plain f b h0 h1 h2 h3 h4 h5 h6 h7 h8 h9 h10 h11 h12 h13 h14 h15 h16 h17 h18 h19 h20 h21 h22 h23 h24 h25 h26 h27 h28 h29 (expressions.Class r) o = cc
of_expression plain f b h0 h1 h2 h3 h4 h5 h6 h7 h8 h9 h10 h11 h12 h13 h14 h15 h16 h17 h18 h19 h20 h21 h22 h23 h24 h25 h26 h27 h28 h29 (expressions.PrivateFieldExpression r) o = cc
of_expression plain f b h0 h1 h2 h3 h4 h5 h6 h7 h8 h9 h10 h11 h12 h13 h14 h15 h16 h17 h18 h19 h20 h21 h22 h23 h24 h25 h26 h27 h28 h29 (expressions.ThisExpression r) o = h0
of_expression plain f b h0 h1 h2 h3 h4 h5 h6 h7 h8 h9 h10 h11 h12 h13 h14 h15 h16 h17 h18 h19 h20 h21 h22 h23 h24 h25 h26 h27 h28 h29 (expressions.NullLiteral r) o = h1
of_expression plain f b h0 h1 h2 h3 h4 h5 h6 h7 h8 h9 h10 h11 h12 h13 h14 h15 h16 h17 h18 h19 h20 h21 h22 h23 h24 h25 h26 h27 h28 h29 (expressions.BooleanLiteral r) o = h2
of_expression plain f b h0 h1 h2 h3 h4 h5 h6 h7 h8 h9 h10 h11 h12 h13 h14 h15 h16 h17 h18 h19 h20 h21 h22 h23 h24 h25 h26 h27 h28 h29 (expressions.NumericLiteral r) o = h3
of_expression plain f b h0 h1 h2 h3 h4 h5 h6 h7 h8 h9 h10 h11 h12 h13 h14 h15 h16 h17 h18 h19 h20 h21 h22 h23 h24 h25 h26 h27 h28 h29 (expressions.BigIntLiteral r) o = h4
of_expression plain f b h0 h1 h2 h3 h4 h5 h6 h7 h8 h9 h10 h11 h12 h13 h14 h15 h16 h17 h18 h19 h20 h21 h22 h23 h24 h25 h26 h27 h28 h29 (expressions.StringLiteral r) o = h5
of_expression plain f b h0 h1 h2 h3 h4 h5 h6 h7 h8 h9 h10 h11 h12 h13 h14 h15 h16 h17 h18 h19 h20 h21 h22 h23 h24 h25 h26 h27 h28 h29 (expressions.RegExpLiteral r) o = h6
of_expression plain f b h0 h1 h2 h3 h4 h5 h6 h7 h8 h9 h10 h11 h12 h13 h14 h15 h16 h17 h18 h19 h20 h21 h22 h23 h24 h25 h26 h27 h28 h29 (expressions.BinaryExpression r) o = h7
of_expression plain f b h0 h1 h2 h3 h4 h5 h6 h7 h8 h9 h10 h11 h12 h13 h14 h15 h16 h17 h18 h19 h20 h21 h22 h23 h24 h25 h26 h27 h28 h29 (expressions.LogicalExpression r) o = h8
of_expression plain f b h0 h1 h2 h3 h4 h5 h6 h7 h8 h9 h10 h11 h12 h13 h14 h15 h16 h17 h18 h19 h20 h21 h22 h23 h24 h25 h26 h27 h28 h29 (expressions.ParenthesizedExpression r) o = h9
of_expression plain f b h0 h1 h2 h3 h4 h5 h6 h7 h8 h9 h10 h11 h12 h13 h14 h15 h16 h17 h18 h19 h20 h21 h22 h23 h24 h25 h26 h27 h28 h29 (expressions.CallExpression r) o = h10
of_expression plain f b h0 h1 h2 h3 h4 h5 h6 h7 h8 h9 h10 h11 h12 h13 h14 h15 h16 h17 h18 h19 h20 h21 h22 h23 h24 h25 h26 h27 h28 h29 (expressions.ChainExpression r) o = h11
of_expression plain f b h0 h1 h2 h3 h4 h5 h6 h7 h8 h9 h10 h11 h12 h13 h14 h15 h16 h17 h18 h19 h20 h21 h22 h23 h24 h25 h26 h27 h28 h29 (expressions.ArrayExpression r) o = h12
of_expression plain f b h0 h1 h2 h3 h4 h5 h6 h7 h8 h9 h10 h11 h12 h13 h14 h15 h16 h17 h18 h19 h20 h21 h22 h23 h24 h25 h26 h27 h28 h29 (expressions.ObjectExpression r) o = h13
of_expression plain f b h0 h1 h2 h3 h4 h5 h6 h7 h8 h9 h10 h11 h12 h13 h14 h15 h16 h17 h18 h19 h20 h21 h22 h23 h24 h25 h26 h27 h28 h29 (expressions.UnaryExpression r) o = h14
of_expression plain f b h0 h1 h2 h3 h4 h5 h6 h7 h8 h9 h10 h11 h12 h13 h14 h15 h16 h17 h18 h19 h20 h21 h22 h23 h24 h25 h26 h27 h28 h29 (expressions.UpdateExpression r) o = h15
of_expression plain f b h0 h1 h2 h3 h4 h5 h6 h7 h8 h9 h10 h11 h12 h13 h14 h15 h16 h17 h18 h19 h20 h21 h22 h23 h24 h25 h26 h27 h28 h29 (expressions.NewExpression r) o = h16
of_expression plain f b h0 h1 h2 h3 h4 h5 h6 h7 h8 h9 h10 h11 h12 h13 h14 h15 h16 h17 h18 h19 h20 h21 h22 h23 h24 h25 h26 h27 h28 h29 (expressions.NewTarget r) o = h17
of_expression plain f b h0 h1 h2 h3 h4 h5 h6 h7 h8 h9 h10 h11 h12 h13 h14 h15 h16 h17 h18 h19 h20 h21 h22 h23 h24 h25 h26 h27 h28 h29 (expressions.Super r) o = h18
of_expression plain f b h0 h1 h2 h3 h4 h5 h6 h7 h8 h9 h10 h11 h12 h13 h14 h15 h16 h17 h18 h19 h20 h21 h22 h23 h24 h25 h26 h27 h28 h29 (expressions.ImportMeta r) o = h19
of_expression plain f b h0 h1 h2 h3 h4 h5 h6 h7 h8 h9 h10 h11 h12 h13 h14 h15 h16 h17 h18 h19 h20 h21 h22 h23 h24 h25 h26 h27 h28 h29 (expressions.ConditionalExpression r) o = h20
of_expression plain f b h0 h1 h2 h3 h4 h5 h6 h7 h8 h9 h10 h11 h12 h13 h14 h15 h16 h17 h18 h19 h20 h21 h22 h23 h24 h25 h26 h27 h28 h29 (expressions.SequenceExpression r) o = h21
of_expression plain f b h0 h1 h2 h3 h4 h5 h6 h7 h8 h9 h10 h11 h12 h13 h14 h15 h16 h17 h18 h19 h20 h21 h22 h23 h24 h25 h26 h27 h28 h29 (expressions.AssignmentExpression r) o = h22
of_expression plain f b h0 h1 h2 h3 h4 h5 h6 h7 h8 h9 h10 h11 h12 h13 h14 h15 h16 h17 h18 h19 h20 h21 h22 h23 h24 h25 h26 h27 h28 h29 (expressions.ArrowFunctionExpression r) o = h23
of_expression plain f b h0 h1 h2 h3 h4 h5 h6 h7 h8 h9 h10 h11 h12 h13 h14 h15 h16 h17 h18 h19 h20 h21 h22 h23 h24 h25 h26 h27 h28 h29 (expressions.PrivateInExpression r) o = h24
of_expression plain f b h0 h1 h2 h3 h4 h5 h6 h7 h8 h9 h10 h11 h12 h13 h14 h15 h16 h17 h18 h19 h20 h21 h22 h23 h24 h25 h26 h27 h28 h29 (expressions.AwaitExpression r) o = h25
of_expression plain f b h0 h1 h2 h3 h4 h5 h6 h7 h8 h9 h10 h11 h12 h13 h14 h15 h16 h17 h18 h19 h20 h21 h22 h23 h24 h25 h26 h27 h28 h29 (expressions.YieldExpression r) o = h26
of_expression plain f b h0 h1 h2 h3 h4 h5 h6 h7 h8 h9 h10 h11 h12 h13 h14 h15 h16 h17 h18 h19 h20 h21 h22 h23 h24 h25 h26 h27 h28 h29 (expressions.TemplateLiteral r) o = h27
of_expression plain f b h0 h1 h2 h3 h4 h5 h6 h7 h8 h9 h10 h11 h12 h13 h14 h15 h16 h17 h18 h19 h20 h21 h22 h23 h24 h25 h26 h27 h28 h29 (expressions.TaggedTemplateExpression r) o = h28
of_expression plain f b h0 h1 h2 h3 h4 h5 h6 h7 h8 h9 h10 h11 h12 h13 h14 h15 h16 h17 h18 h19 h20 h21 h22 h23 h24 h25 h26 h27 h28 h29 (expressions.ImportExpression r) o = h29

pub of_assignment_target : {N : Type 0} (plain : N → Tree) (f : NodeType → Bool) (b : Bool) → f types.ArrayAssignmentTarget ≡ b → f types.ObjectAssignmentTarget ≡ b → (r : AssignmentTarget N) → is_other_assignment_target r ≡ true → f (type_of (assignment_target_plain plain r)) ≡ b
of_assignment_target plain f b h0 h1 (assignment_targets.IdentifierReference r) o = cc
of_assignment_target plain f b h0 h1 (assignment_targets.StaticMemberExpression r) o = cc
of_assignment_target plain f b h0 h1 (assignment_targets.ComputedMemberExpression r) o = cc
of_assignment_target plain f b h0 h1 (assignment_targets.PrivateFieldExpression r) o = cc
of_assignment_target plain f b h0 h1 (assignment_targets.ArrayAssignmentTarget r) o = h0
of_assignment_target plain f b h0 h1 (assignment_targets.ObjectAssignmentTarget r) o = h1

pub of_class_element : {N : Type 0} (plain : N → Tree) (f : NodeType → Bool) (b : Bool) → f types.StaticBlock ≡ b → f types.MethodDefinition ≡ b → f types.PropertyDefinition ≡ b → (r : ClassElement N) → f (type_of (class_element_plain plain r)) ≡ b
of_class_element plain f b h0 h1 h2 (class_elements.StaticBlock r) = h0
of_class_element plain f b h0 h1 h2 (class_elements.MethodDefinition r) = h1
of_class_element plain f b h0 h1 h2 (class_elements.PropertyDefinition r) = h2

-- ---- set by set

pub no_declaration_is_a_program : {N : Type 0} (plain : N → Tree) (r : OtherDeclaration N) → is_program (type_of (declaration_plain plain r.declaration)) ≡ false
no_declaration_is_a_program plain r = of_declaration plain is_program false refl r.declaration r.other

pub no_binding_pattern_is_a_program : {N : Type 0} (plain : N → Tree) (r : BindingPattern N) → is_program (type_of (binding_pattern_plain plain r)) ≡ false
no_binding_pattern_is_a_program plain r = of_binding_pattern plain is_program false refl refl refl refl r

pub no_statement_is_a_program : {N : Type 0} (plain : N → Tree) (r : OtherStatement N) → is_program (type_of (statement_plain plain r.statement)) ≡ false
no_statement_is_a_program plain r = of_statement plain is_program false refl refl refl refl refl refl refl refl refl refl refl refl refl refl refl refl refl refl refl refl refl refl refl r.statement r.other

pub no_expression_is_a_program : {N : Type 0} (plain : N → Tree) (r : OtherExpression N) → is_program (type_of (expression_plain plain r.expression)) ≡ false
no_expression_is_a_program plain r = of_expression plain is_program false refl refl refl refl refl refl refl refl refl refl refl refl refl refl refl refl refl refl refl refl refl refl refl refl refl refl refl refl refl refl r.expression r.other

pub no_assignment_target_is_a_program : {N : Type 0} (plain : N → Tree) (r : OtherAssignmentTarget N) → is_program (type_of (assignment_target_plain plain r.assignment_target)) ≡ false
no_assignment_target_is_a_program plain r = of_assignment_target plain is_program false refl refl r.assignment_target r.other

pub no_class_element_is_a_program : {N : Type 0} (plain : N → Tree) (r : ClassElement N) → is_program (type_of (class_element_plain plain r)) ≡ false
no_class_element_is_a_program plain r = of_class_element plain is_program false refl refl refl r

pub each_declaration_is_a_statement : {N : Type 0} (plain : N → Tree) (r : OtherDeclaration N) → is_statement (type_of (declaration_plain plain r.declaration)) ≡ true
each_declaration_is_a_statement plain r = of_declaration plain is_statement true refl r.declaration r.other

pub no_binding_pattern_is_a_statement : {N : Type 0} (plain : N → Tree) (r : BindingPattern N) → is_statement (type_of (binding_pattern_plain plain r)) ≡ false
no_binding_pattern_is_a_statement plain r = of_binding_pattern plain is_statement false refl refl refl refl r

pub each_statement_is_a_statement : {N : Type 0} (plain : N → Tree) (r : OtherStatement N) → is_statement (type_of (statement_plain plain r.statement)) ≡ true
each_statement_is_a_statement plain r = of_statement plain is_statement true refl refl refl refl refl refl refl refl refl refl refl refl refl refl refl refl refl refl refl refl refl refl refl r.statement r.other

pub no_expression_is_a_statement : {N : Type 0} (plain : N → Tree) (r : OtherExpression N) → is_statement (type_of (expression_plain plain r.expression)) ≡ false
no_expression_is_a_statement plain r = of_expression plain is_statement false refl refl refl refl refl refl refl refl refl refl refl refl refl refl refl refl refl refl refl refl refl refl refl refl refl refl refl refl refl refl r.expression r.other

pub no_assignment_target_is_a_statement : {N : Type 0} (plain : N → Tree) (r : OtherAssignmentTarget N) → is_statement (type_of (assignment_target_plain plain r.assignment_target)) ≡ false
no_assignment_target_is_a_statement plain r = of_assignment_target plain is_statement false refl refl r.assignment_target r.other

pub no_class_element_is_a_statement : {N : Type 0} (plain : N → Tree) (r : ClassElement N) → is_statement (type_of (class_element_plain plain r)) ≡ false
no_class_element_is_a_statement plain r = of_class_element plain is_statement false refl refl refl r

pub no_declaration_is_a_binding_pattern : {N : Type 0} (plain : N → Tree) (r : OtherDeclaration N) → is_binding_pattern (type_of (declaration_plain plain r.declaration)) ≡ false
no_declaration_is_a_binding_pattern plain r = of_declaration plain is_binding_pattern false refl r.declaration r.other

pub each_binding_pattern_is_a_binding_pattern : {N : Type 0} (plain : N → Tree) (r : BindingPattern N) → is_binding_pattern (type_of (binding_pattern_plain plain r)) ≡ true
each_binding_pattern_is_a_binding_pattern plain r = of_binding_pattern plain is_binding_pattern true refl refl refl refl r

pub no_statement_is_a_binding_pattern : {N : Type 0} (plain : N → Tree) (r : OtherStatement N) → is_binding_pattern (type_of (statement_plain plain r.statement)) ≡ false
no_statement_is_a_binding_pattern plain r = of_statement plain is_binding_pattern false refl refl refl refl refl refl refl refl refl refl refl refl refl refl refl refl refl refl refl refl refl refl refl r.statement r.other

pub no_expression_is_a_binding_pattern : {N : Type 0} (plain : N → Tree) (r : OtherExpression N) → is_binding_pattern (type_of (expression_plain plain r.expression)) ≡ false
no_expression_is_a_binding_pattern plain r = of_expression plain is_binding_pattern false refl refl refl refl refl refl refl refl refl refl refl refl refl refl refl refl refl refl refl refl refl refl refl refl refl refl refl refl refl refl r.expression r.other

pub no_assignment_target_is_a_binding_pattern : {N : Type 0} (plain : N → Tree) (r : OtherAssignmentTarget N) → is_binding_pattern (type_of (assignment_target_plain plain r.assignment_target)) ≡ false
no_assignment_target_is_a_binding_pattern plain r = of_assignment_target plain is_binding_pattern false refl refl r.assignment_target r.other

pub no_class_element_is_a_binding_pattern : {N : Type 0} (plain : N → Tree) (r : ClassElement N) → is_binding_pattern (type_of (class_element_plain plain r)) ≡ false
no_class_element_is_a_binding_pattern plain r = of_class_element plain is_binding_pattern false refl refl refl r

pub no_declaration_is_an_expression : {N : Type 0} (plain : N → Tree) (r : OtherDeclaration N) → is_expression (type_of (declaration_plain plain r.declaration)) ≡ false
no_declaration_is_an_expression plain r = of_declaration plain is_expression false refl r.declaration r.other

pub no_binding_pattern_is_an_expression : {N : Type 0} (plain : N → Tree) (r : BindingPattern N) → is_expression (type_of (binding_pattern_plain plain r)) ≡ false
no_binding_pattern_is_an_expression plain r = of_binding_pattern plain is_expression false refl refl refl refl r

pub no_statement_is_an_expression : {N : Type 0} (plain : N → Tree) (r : OtherStatement N) → is_expression (type_of (statement_plain plain r.statement)) ≡ false
no_statement_is_an_expression plain r = of_statement plain is_expression false refl refl refl refl refl refl refl refl refl refl refl refl refl refl refl refl refl refl refl refl refl refl refl r.statement r.other

pub each_expression_is_an_expression : {N : Type 0} (plain : N → Tree) (r : OtherExpression N) → is_expression (type_of (expression_plain plain r.expression)) ≡ true
each_expression_is_an_expression plain r = of_expression plain is_expression true refl refl refl refl refl refl refl refl refl refl refl refl refl refl refl refl refl refl refl refl refl refl refl refl refl refl refl refl refl refl r.expression r.other

pub no_assignment_target_is_an_expression : {N : Type 0} (plain : N → Tree) (r : OtherAssignmentTarget N) → is_expression (type_of (assignment_target_plain plain r.assignment_target)) ≡ false
no_assignment_target_is_an_expression plain r = of_assignment_target plain is_expression false refl refl r.assignment_target r.other

pub no_class_element_is_an_expression : {N : Type 0} (plain : N → Tree) (r : ClassElement N) → is_expression (type_of (class_element_plain plain r)) ≡ false
no_class_element_is_an_expression plain r = of_class_element plain is_expression false refl refl refl r

pub no_declaration_is_an_argument : {N : Type 0} (plain : N → Tree) (r : OtherDeclaration N) → is_argument (type_of (declaration_plain plain r.declaration)) ≡ false
no_declaration_is_an_argument plain r = of_declaration plain is_argument false refl r.declaration r.other

pub no_binding_pattern_is_an_argument : {N : Type 0} (plain : N → Tree) (r : BindingPattern N) → is_argument (type_of (binding_pattern_plain plain r)) ≡ false
no_binding_pattern_is_an_argument plain r = of_binding_pattern plain is_argument false refl refl refl refl r

pub no_statement_is_an_argument : {N : Type 0} (plain : N → Tree) (r : OtherStatement N) → is_argument (type_of (statement_plain plain r.statement)) ≡ false
no_statement_is_an_argument plain r = of_statement plain is_argument false refl refl refl refl refl refl refl refl refl refl refl refl refl refl refl refl refl refl refl refl refl refl refl r.statement r.other

pub each_expression_is_an_argument : {N : Type 0} (plain : N → Tree) (r : OtherExpression N) → is_argument (type_of (expression_plain plain r.expression)) ≡ true
each_expression_is_an_argument plain r = of_expression plain is_argument true refl refl refl refl refl refl refl refl refl refl refl refl refl refl refl refl refl refl refl refl refl refl refl refl refl refl refl refl refl refl r.expression r.other

pub no_assignment_target_is_an_argument : {N : Type 0} (plain : N → Tree) (r : OtherAssignmentTarget N) → is_argument (type_of (assignment_target_plain plain r.assignment_target)) ≡ false
no_assignment_target_is_an_argument plain r = of_assignment_target plain is_argument false refl refl r.assignment_target r.other

pub no_class_element_is_an_argument : {N : Type 0} (plain : N → Tree) (r : ClassElement N) → is_argument (type_of (class_element_plain plain r)) ≡ false
no_class_element_is_an_argument plain r = of_class_element plain is_argument false refl refl refl r

pub no_declaration_is_a_chain_element : {N : Type 0} (plain : N → Tree) (r : OtherDeclaration N) → is_chain_element (type_of (declaration_plain plain r.declaration)) ≡ false
no_declaration_is_a_chain_element plain r = of_declaration plain is_chain_element false refl r.declaration r.other

pub no_binding_pattern_is_a_chain_element : {N : Type 0} (plain : N → Tree) (r : BindingPattern N) → is_chain_element (type_of (binding_pattern_plain plain r)) ≡ false
no_binding_pattern_is_a_chain_element plain r = of_binding_pattern plain is_chain_element false refl refl refl refl r

pub no_statement_is_a_chain_element : {N : Type 0} (plain : N → Tree) (r : OtherStatement N) → is_chain_element (type_of (statement_plain plain r.statement)) ≡ false
no_statement_is_a_chain_element plain r = of_statement plain is_chain_element false refl refl refl refl refl refl refl refl refl refl refl refl refl refl refl refl refl refl refl refl refl refl refl r.statement r.other

pub no_assignment_target_is_a_chain_element : {N : Type 0} (plain : N → Tree) (r : OtherAssignmentTarget N) → is_chain_element (type_of (assignment_target_plain plain r.assignment_target)) ≡ false
no_assignment_target_is_a_chain_element plain r = of_assignment_target plain is_chain_element false refl refl r.assignment_target r.other

pub no_class_element_is_a_chain_element : {N : Type 0} (plain : N → Tree) (r : ClassElement N) → is_chain_element (type_of (class_element_plain plain r)) ≡ false
no_class_element_is_a_chain_element plain r = of_class_element plain is_chain_element false refl refl refl r

pub no_declaration_is_an_array_expression_element : {N : Type 0} (plain : N → Tree) (r : OtherDeclaration N) → is_array_expression_element (type_of (declaration_plain plain r.declaration)) ≡ false
no_declaration_is_an_array_expression_element plain r = of_declaration plain is_array_expression_element false refl r.declaration r.other

pub no_binding_pattern_is_an_array_expression_element : {N : Type 0} (plain : N → Tree) (r : BindingPattern N) → is_array_expression_element (type_of (binding_pattern_plain plain r)) ≡ false
no_binding_pattern_is_an_array_expression_element plain r = of_binding_pattern plain is_array_expression_element false refl refl refl refl r

pub no_statement_is_an_array_expression_element : {N : Type 0} (plain : N → Tree) (r : OtherStatement N) → is_array_expression_element (type_of (statement_plain plain r.statement)) ≡ false
no_statement_is_an_array_expression_element plain r = of_statement plain is_array_expression_element false refl refl refl refl refl refl refl refl refl refl refl refl refl refl refl refl refl refl refl refl refl refl refl r.statement r.other

pub each_expression_is_an_array_expression_element : {N : Type 0} (plain : N → Tree) (r : OtherExpression N) → is_array_expression_element (type_of (expression_plain plain r.expression)) ≡ true
each_expression_is_an_array_expression_element plain r = of_expression plain is_array_expression_element true refl refl refl refl refl refl refl refl refl refl refl refl refl refl refl refl refl refl refl refl refl refl refl refl refl refl refl refl refl refl r.expression r.other

pub no_assignment_target_is_an_array_expression_element : {N : Type 0} (plain : N → Tree) (r : OtherAssignmentTarget N) → is_array_expression_element (type_of (assignment_target_plain plain r.assignment_target)) ≡ false
no_assignment_target_is_an_array_expression_element plain r = of_assignment_target plain is_array_expression_element false refl refl r.assignment_target r.other

pub no_class_element_is_an_array_expression_element : {N : Type 0} (plain : N → Tree) (r : ClassElement N) → is_array_expression_element (type_of (class_element_plain plain r)) ≡ false
no_class_element_is_an_array_expression_element plain r = of_class_element plain is_array_expression_element false refl refl refl r

pub no_declaration_is_a_property_key : {N : Type 0} (plain : N → Tree) (r : OtherDeclaration N) → is_property_key (type_of (declaration_plain plain r.declaration)) ≡ false
no_declaration_is_a_property_key plain r = of_declaration plain is_property_key false refl r.declaration r.other

pub no_binding_pattern_is_a_property_key : {N : Type 0} (plain : N → Tree) (r : BindingPattern N) → is_property_key (type_of (binding_pattern_plain plain r)) ≡ false
no_binding_pattern_is_a_property_key plain r = of_binding_pattern plain is_property_key false refl refl refl refl r

pub no_statement_is_a_property_key : {N : Type 0} (plain : N → Tree) (r : OtherStatement N) → is_property_key (type_of (statement_plain plain r.statement)) ≡ false
no_statement_is_a_property_key plain r = of_statement plain is_property_key false refl refl refl refl refl refl refl refl refl refl refl refl refl refl refl refl refl refl refl refl refl refl refl r.statement r.other

pub each_expression_is_a_property_key : {N : Type 0} (plain : N → Tree) (r : OtherExpression N) → is_property_key (type_of (expression_plain plain r.expression)) ≡ true
each_expression_is_a_property_key plain r = of_expression plain is_property_key true refl refl refl refl refl refl refl refl refl refl refl refl refl refl refl refl refl refl refl refl refl refl refl refl refl refl refl refl refl refl r.expression r.other

pub no_assignment_target_is_a_property_key : {N : Type 0} (plain : N → Tree) (r : OtherAssignmentTarget N) → is_property_key (type_of (assignment_target_plain plain r.assignment_target)) ≡ false
no_assignment_target_is_a_property_key plain r = of_assignment_target plain is_property_key false refl refl r.assignment_target r.other

pub no_class_element_is_a_property_key : {N : Type 0} (plain : N → Tree) (r : ClassElement N) → is_property_key (type_of (class_element_plain plain r)) ≡ false
no_class_element_is_a_property_key plain r = of_class_element plain is_property_key false refl refl refl r

pub no_declaration_is_an_object_property_kind : {N : Type 0} (plain : N → Tree) (r : OtherDeclaration N) → is_object_property_kind (type_of (declaration_plain plain r.declaration)) ≡ false
no_declaration_is_an_object_property_kind plain r = of_declaration plain is_object_property_kind false refl r.declaration r.other

pub no_binding_pattern_is_an_object_property_kind : {N : Type 0} (plain : N → Tree) (r : BindingPattern N) → is_object_property_kind (type_of (binding_pattern_plain plain r)) ≡ false
no_binding_pattern_is_an_object_property_kind plain r = of_binding_pattern plain is_object_property_kind false refl refl refl refl r

pub no_statement_is_an_object_property_kind : {N : Type 0} (plain : N → Tree) (r : OtherStatement N) → is_object_property_kind (type_of (statement_plain plain r.statement)) ≡ false
no_statement_is_an_object_property_kind plain r = of_statement plain is_object_property_kind false refl refl refl refl refl refl refl refl refl refl refl refl refl refl refl refl refl refl refl refl refl refl refl r.statement r.other

pub no_expression_is_an_object_property_kind : {N : Type 0} (plain : N → Tree) (r : OtherExpression N) → is_object_property_kind (type_of (expression_plain plain r.expression)) ≡ false
no_expression_is_an_object_property_kind plain r = of_expression plain is_object_property_kind false refl refl refl refl refl refl refl refl refl refl refl refl refl refl refl refl refl refl refl refl refl refl refl refl refl refl refl refl refl refl r.expression r.other

pub no_assignment_target_is_an_object_property_kind : {N : Type 0} (plain : N → Tree) (r : OtherAssignmentTarget N) → is_object_property_kind (type_of (assignment_target_plain plain r.assignment_target)) ≡ false
no_assignment_target_is_an_object_property_kind plain r = of_assignment_target plain is_object_property_kind false refl refl r.assignment_target r.other

pub no_class_element_is_an_object_property_kind : {N : Type 0} (plain : N → Tree) (r : ClassElement N) → is_object_property_kind (type_of (class_element_plain plain r)) ≡ false
no_class_element_is_an_object_property_kind plain r = of_class_element plain is_object_property_kind false refl refl refl r

pub no_declaration_is_a_simple_assignment_target : {N : Type 0} (plain : N → Tree) (r : OtherDeclaration N) → is_simple_assignment_target (type_of (declaration_plain plain r.declaration)) ≡ false
no_declaration_is_a_simple_assignment_target plain r = of_declaration plain is_simple_assignment_target false refl r.declaration r.other

pub no_binding_pattern_is_a_simple_assignment_target : {N : Type 0} (plain : N → Tree) (r : BindingPattern N) → is_simple_assignment_target (type_of (binding_pattern_plain plain r)) ≡ false
no_binding_pattern_is_a_simple_assignment_target plain r = of_binding_pattern plain is_simple_assignment_target false refl refl refl refl r

pub no_statement_is_a_simple_assignment_target : {N : Type 0} (plain : N → Tree) (r : OtherStatement N) → is_simple_assignment_target (type_of (statement_plain plain r.statement)) ≡ false
no_statement_is_a_simple_assignment_target plain r = of_statement plain is_simple_assignment_target false refl refl refl refl refl refl refl refl refl refl refl refl refl refl refl refl refl refl refl refl refl refl refl r.statement r.other

pub no_expression_is_a_simple_assignment_target : {N : Type 0} (plain : N → Tree) (r : OtherExpression N) → is_simple_assignment_target (type_of (expression_plain plain r.expression)) ≡ false
no_expression_is_a_simple_assignment_target plain r = of_expression plain is_simple_assignment_target false refl refl refl refl refl refl refl refl refl refl refl refl refl refl refl refl refl refl refl refl refl refl refl refl refl refl refl refl refl refl r.expression r.other

pub no_assignment_target_is_a_simple_assignment_target : {N : Type 0} (plain : N → Tree) (r : OtherAssignmentTarget N) → is_simple_assignment_target (type_of (assignment_target_plain plain r.assignment_target)) ≡ false
no_assignment_target_is_a_simple_assignment_target plain r = of_assignment_target plain is_simple_assignment_target false refl refl r.assignment_target r.other

pub no_class_element_is_a_simple_assignment_target : {N : Type 0} (plain : N → Tree) (r : ClassElement N) → is_simple_assignment_target (type_of (class_element_plain plain r)) ≡ false
no_class_element_is_a_simple_assignment_target plain r = of_class_element plain is_simple_assignment_target false refl refl refl r

pub no_declaration_is_an_assignment_target : {N : Type 0} (plain : N → Tree) (r : OtherDeclaration N) → is_assignment_target (type_of (declaration_plain plain r.declaration)) ≡ false
no_declaration_is_an_assignment_target plain r = of_declaration plain is_assignment_target false refl r.declaration r.other

pub no_binding_pattern_is_an_assignment_target : {N : Type 0} (plain : N → Tree) (r : BindingPattern N) → is_assignment_target (type_of (binding_pattern_plain plain r)) ≡ false
no_binding_pattern_is_an_assignment_target plain r = of_binding_pattern plain is_assignment_target false refl refl refl refl r

pub no_statement_is_an_assignment_target : {N : Type 0} (plain : N → Tree) (r : OtherStatement N) → is_assignment_target (type_of (statement_plain plain r.statement)) ≡ false
no_statement_is_an_assignment_target plain r = of_statement plain is_assignment_target false refl refl refl refl refl refl refl refl refl refl refl refl refl refl refl refl refl refl refl refl refl refl refl r.statement r.other

pub no_expression_is_an_assignment_target : {N : Type 0} (plain : N → Tree) (r : OtherExpression N) → is_assignment_target (type_of (expression_plain plain r.expression)) ≡ false
no_expression_is_an_assignment_target plain r = of_expression plain is_assignment_target false refl refl refl refl refl refl refl refl refl refl refl refl refl refl refl refl refl refl refl refl refl refl refl refl refl refl refl refl refl refl r.expression r.other

pub each_assignment_target_is_an_assignment_target : {N : Type 0} (plain : N → Tree) (r : OtherAssignmentTarget N) → is_assignment_target (type_of (assignment_target_plain plain r.assignment_target)) ≡ true
each_assignment_target_is_an_assignment_target plain r = of_assignment_target plain is_assignment_target true refl refl r.assignment_target r.other

pub no_class_element_is_an_assignment_target : {N : Type 0} (plain : N → Tree) (r : ClassElement N) → is_assignment_target (type_of (class_element_plain plain r)) ≡ false
no_class_element_is_an_assignment_target plain r = of_class_element plain is_assignment_target false refl refl refl r

pub no_declaration_is_an_arrow_function_body : {N : Type 0} (plain : N → Tree) (r : OtherDeclaration N) → is_arrow_function_body (type_of (declaration_plain plain r.declaration)) ≡ false
no_declaration_is_an_arrow_function_body plain r = of_declaration plain is_arrow_function_body false refl r.declaration r.other

pub no_binding_pattern_is_an_arrow_function_body : {N : Type 0} (plain : N → Tree) (r : BindingPattern N) → is_arrow_function_body (type_of (binding_pattern_plain plain r)) ≡ false
no_binding_pattern_is_an_arrow_function_body plain r = of_binding_pattern plain is_arrow_function_body false refl refl refl refl r

pub no_statement_is_an_arrow_function_body : {N : Type 0} (plain : N → Tree) (r : OtherStatement N) → is_arrow_function_body (type_of (statement_plain plain r.statement)) ≡ false
no_statement_is_an_arrow_function_body plain r = of_statement plain is_arrow_function_body false refl refl refl refl refl refl refl refl refl refl refl refl refl refl refl refl refl refl refl refl refl refl refl r.statement r.other

pub each_expression_is_an_arrow_function_body : {N : Type 0} (plain : N → Tree) (r : OtherExpression N) → is_arrow_function_body (type_of (expression_plain plain r.expression)) ≡ true
each_expression_is_an_arrow_function_body plain r = of_expression plain is_arrow_function_body true refl refl refl refl refl refl refl refl refl refl refl refl refl refl refl refl refl refl refl refl refl refl refl refl refl refl refl refl refl refl r.expression r.other

pub no_assignment_target_is_an_arrow_function_body : {N : Type 0} (plain : N → Tree) (r : OtherAssignmentTarget N) → is_arrow_function_body (type_of (assignment_target_plain plain r.assignment_target)) ≡ false
no_assignment_target_is_an_arrow_function_body plain r = of_assignment_target plain is_arrow_function_body false refl refl r.assignment_target r.other

pub no_class_element_is_an_arrow_function_body : {N : Type 0} (plain : N → Tree) (r : ClassElement N) → is_arrow_function_body (type_of (class_element_plain plain r)) ≡ false
no_class_element_is_an_arrow_function_body plain r = of_class_element plain is_arrow_function_body false refl refl refl r

pub each_declaration_is_a_for_statement_init : {N : Type 0} (plain : N → Tree) (r : OtherDeclaration N) → is_for_statement_init (type_of (declaration_plain plain r.declaration)) ≡ true
each_declaration_is_a_for_statement_init plain r = of_declaration plain is_for_statement_init true refl r.declaration r.other

pub no_binding_pattern_is_a_for_statement_init : {N : Type 0} (plain : N → Tree) (r : BindingPattern N) → is_for_statement_init (type_of (binding_pattern_plain plain r)) ≡ false
no_binding_pattern_is_a_for_statement_init plain r = of_binding_pattern plain is_for_statement_init false refl refl refl refl r

pub no_statement_is_a_for_statement_init : {N : Type 0} (plain : N → Tree) (r : OtherStatement N) → is_for_statement_init (type_of (statement_plain plain r.statement)) ≡ false
no_statement_is_a_for_statement_init plain r = of_statement plain is_for_statement_init false refl refl refl refl refl refl refl refl refl refl refl refl refl refl refl refl refl refl refl refl refl refl refl r.statement r.other

pub each_expression_is_a_for_statement_init : {N : Type 0} (plain : N → Tree) (r : OtherExpression N) → is_for_statement_init (type_of (expression_plain plain r.expression)) ≡ true
each_expression_is_a_for_statement_init plain r = of_expression plain is_for_statement_init true refl refl refl refl refl refl refl refl refl refl refl refl refl refl refl refl refl refl refl refl refl refl refl refl refl refl refl refl refl refl r.expression r.other

pub no_assignment_target_is_a_for_statement_init : {N : Type 0} (plain : N → Tree) (r : OtherAssignmentTarget N) → is_for_statement_init (type_of (assignment_target_plain plain r.assignment_target)) ≡ false
no_assignment_target_is_a_for_statement_init plain r = of_assignment_target plain is_for_statement_init false refl refl r.assignment_target r.other

pub no_class_element_is_a_for_statement_init : {N : Type 0} (plain : N → Tree) (r : ClassElement N) → is_for_statement_init (type_of (class_element_plain plain r)) ≡ false
no_class_element_is_a_for_statement_init plain r = of_class_element plain is_for_statement_init false refl refl refl r

pub each_declaration_is_a_for_statement_left : {N : Type 0} (plain : N → Tree) (r : OtherDeclaration N) → is_for_statement_left (type_of (declaration_plain plain r.declaration)) ≡ true
each_declaration_is_a_for_statement_left plain r = of_declaration plain is_for_statement_left true refl r.declaration r.other

pub no_binding_pattern_is_a_for_statement_left : {N : Type 0} (plain : N → Tree) (r : BindingPattern N) → is_for_statement_left (type_of (binding_pattern_plain plain r)) ≡ false
no_binding_pattern_is_a_for_statement_left plain r = of_binding_pattern plain is_for_statement_left false refl refl refl refl r

pub no_statement_is_a_for_statement_left : {N : Type 0} (plain : N → Tree) (r : OtherStatement N) → is_for_statement_left (type_of (statement_plain plain r.statement)) ≡ false
no_statement_is_a_for_statement_left plain r = of_statement plain is_for_statement_left false refl refl refl refl refl refl refl refl refl refl refl refl refl refl refl refl refl refl refl refl refl refl refl r.statement r.other

pub no_expression_is_a_for_statement_left : {N : Type 0} (plain : N → Tree) (r : OtherExpression N) → is_for_statement_left (type_of (expression_plain plain r.expression)) ≡ false
no_expression_is_a_for_statement_left plain r = of_expression plain is_for_statement_left false refl refl refl refl refl refl refl refl refl refl refl refl refl refl refl refl refl refl refl refl refl refl refl refl refl refl refl refl refl refl r.expression r.other

pub each_assignment_target_is_a_for_statement_left : {N : Type 0} (plain : N → Tree) (r : OtherAssignmentTarget N) → is_for_statement_left (type_of (assignment_target_plain plain r.assignment_target)) ≡ true
each_assignment_target_is_a_for_statement_left plain r = of_assignment_target plain is_for_statement_left true refl refl r.assignment_target r.other

pub no_class_element_is_a_for_statement_left : {N : Type 0} (plain : N → Tree) (r : ClassElement N) → is_for_statement_left (type_of (class_element_plain plain r)) ≡ false
no_class_element_is_a_for_statement_left plain r = of_class_element plain is_for_statement_left false refl refl refl r

pub no_declaration_is_an_assignment_target_maybe_default : {N : Type 0} (plain : N → Tree) (r : OtherDeclaration N) → is_assignment_target_maybe_default (type_of (declaration_plain plain r.declaration)) ≡ false
no_declaration_is_an_assignment_target_maybe_default plain r = of_declaration plain is_assignment_target_maybe_default false refl r.declaration r.other

pub no_binding_pattern_is_an_assignment_target_maybe_default : {N : Type 0} (plain : N → Tree) (r : BindingPattern N) → is_assignment_target_maybe_default (type_of (binding_pattern_plain plain r)) ≡ false
no_binding_pattern_is_an_assignment_target_maybe_default plain r = of_binding_pattern plain is_assignment_target_maybe_default false refl refl refl refl r

pub no_statement_is_an_assignment_target_maybe_default : {N : Type 0} (plain : N → Tree) (r : OtherStatement N) → is_assignment_target_maybe_default (type_of (statement_plain plain r.statement)) ≡ false
no_statement_is_an_assignment_target_maybe_default plain r = of_statement plain is_assignment_target_maybe_default false refl refl refl refl refl refl refl refl refl refl refl refl refl refl refl refl refl refl refl refl refl refl refl r.statement r.other

pub no_expression_is_an_assignment_target_maybe_default : {N : Type 0} (plain : N → Tree) (r : OtherExpression N) → is_assignment_target_maybe_default (type_of (expression_plain plain r.expression)) ≡ false
no_expression_is_an_assignment_target_maybe_default plain r = of_expression plain is_assignment_target_maybe_default false refl refl refl refl refl refl refl refl refl refl refl refl refl refl refl refl refl refl refl refl refl refl refl refl refl refl refl refl refl refl r.expression r.other

pub each_assignment_target_is_an_assignment_target_maybe_default : {N : Type 0} (plain : N → Tree) (r : OtherAssignmentTarget N) → is_assignment_target_maybe_default (type_of (assignment_target_plain plain r.assignment_target)) ≡ true
each_assignment_target_is_an_assignment_target_maybe_default plain r = of_assignment_target plain is_assignment_target_maybe_default true refl refl r.assignment_target r.other

pub no_class_element_is_an_assignment_target_maybe_default : {N : Type 0} (plain : N → Tree) (r : ClassElement N) → is_assignment_target_maybe_default (type_of (class_element_plain plain r)) ≡ false
no_class_element_is_an_assignment_target_maybe_default plain r = of_class_element plain is_assignment_target_maybe_default false refl refl refl r

pub no_declaration_is_an_assignment_target_property : {N : Type 0} (plain : N → Tree) (r : OtherDeclaration N) → is_assignment_target_property (type_of (declaration_plain plain r.declaration)) ≡ false
no_declaration_is_an_assignment_target_property plain r = of_declaration plain is_assignment_target_property false refl r.declaration r.other

pub no_binding_pattern_is_an_assignment_target_property : {N : Type 0} (plain : N → Tree) (r : BindingPattern N) → is_assignment_target_property (type_of (binding_pattern_plain plain r)) ≡ false
no_binding_pattern_is_an_assignment_target_property plain r = of_binding_pattern plain is_assignment_target_property false refl refl refl refl r

pub no_statement_is_an_assignment_target_property : {N : Type 0} (plain : N → Tree) (r : OtherStatement N) → is_assignment_target_property (type_of (statement_plain plain r.statement)) ≡ false
no_statement_is_an_assignment_target_property plain r = of_statement plain is_assignment_target_property false refl refl refl refl refl refl refl refl refl refl refl refl refl refl refl refl refl refl refl refl refl refl refl r.statement r.other

pub no_expression_is_an_assignment_target_property : {N : Type 0} (plain : N → Tree) (r : OtherExpression N) → is_assignment_target_property (type_of (expression_plain plain r.expression)) ≡ false
no_expression_is_an_assignment_target_property plain r = of_expression plain is_assignment_target_property false refl refl refl refl refl refl refl refl refl refl refl refl refl refl refl refl refl refl refl refl refl refl refl refl refl refl refl refl refl refl r.expression r.other

pub no_assignment_target_is_an_assignment_target_property : {N : Type 0} (plain : N → Tree) (r : OtherAssignmentTarget N) → is_assignment_target_property (type_of (assignment_target_plain plain r.assignment_target)) ≡ false
no_assignment_target_is_an_assignment_target_property plain r = of_assignment_target plain is_assignment_target_property false refl refl r.assignment_target r.other

pub no_class_element_is_an_assignment_target_property : {N : Type 0} (plain : N → Tree) (r : ClassElement N) → is_assignment_target_property (type_of (class_element_plain plain r)) ≡ false
no_class_element_is_an_assignment_target_property plain r = of_class_element plain is_assignment_target_property false refl refl refl r

pub no_declaration_is_a_class_element : {N : Type 0} (plain : N → Tree) (r : OtherDeclaration N) → is_class_element (type_of (declaration_plain plain r.declaration)) ≡ false
no_declaration_is_a_class_element plain r = of_declaration plain is_class_element false refl r.declaration r.other

pub no_binding_pattern_is_a_class_element : {N : Type 0} (plain : N → Tree) (r : BindingPattern N) → is_class_element (type_of (binding_pattern_plain plain r)) ≡ false
no_binding_pattern_is_a_class_element plain r = of_binding_pattern plain is_class_element false refl refl refl refl r

pub no_statement_is_a_class_element : {N : Type 0} (plain : N → Tree) (r : OtherStatement N) → is_class_element (type_of (statement_plain plain r.statement)) ≡ false
no_statement_is_a_class_element plain r = of_statement plain is_class_element false refl refl refl refl refl refl refl refl refl refl refl refl refl refl refl refl refl refl refl refl refl refl refl r.statement r.other

pub no_expression_is_a_class_element : {N : Type 0} (plain : N → Tree) (r : OtherExpression N) → is_class_element (type_of (expression_plain plain r.expression)) ≡ false
no_expression_is_a_class_element plain r = of_expression plain is_class_element false refl refl refl refl refl refl refl refl refl refl refl refl refl refl refl refl refl refl refl refl refl refl refl refl refl refl refl refl refl refl r.expression r.other

pub no_assignment_target_is_a_class_element : {N : Type 0} (plain : N → Tree) (r : OtherAssignmentTarget N) → is_class_element (type_of (assignment_target_plain plain r.assignment_target)) ≡ false
no_assignment_target_is_a_class_element plain r = of_assignment_target plain is_class_element false refl refl r.assignment_target r.other

pub each_class_element_is_a_class_element : {N : Type 0} (plain : N → Tree) (r : ClassElement N) → is_class_element (type_of (class_element_plain plain r)) ≡ true
each_class_element_is_a_class_element plain r = of_class_element plain is_class_element true refl refl refl r

pub no_declaration_is_an_import_declaration_specifier : {N : Type 0} (plain : N → Tree) (r : OtherDeclaration N) → is_import_declaration_specifier (type_of (declaration_plain plain r.declaration)) ≡ false
no_declaration_is_an_import_declaration_specifier plain r = of_declaration plain is_import_declaration_specifier false refl r.declaration r.other

pub no_binding_pattern_is_an_import_declaration_specifier : {N : Type 0} (plain : N → Tree) (r : BindingPattern N) → is_import_declaration_specifier (type_of (binding_pattern_plain plain r)) ≡ false
no_binding_pattern_is_an_import_declaration_specifier plain r = of_binding_pattern plain is_import_declaration_specifier false refl refl refl refl r

pub no_statement_is_an_import_declaration_specifier : {N : Type 0} (plain : N → Tree) (r : OtherStatement N) → is_import_declaration_specifier (type_of (statement_plain plain r.statement)) ≡ false
no_statement_is_an_import_declaration_specifier plain r = of_statement plain is_import_declaration_specifier false refl refl refl refl refl refl refl refl refl refl refl refl refl refl refl refl refl refl refl refl refl refl refl r.statement r.other

pub no_expression_is_an_import_declaration_specifier : {N : Type 0} (plain : N → Tree) (r : OtherExpression N) → is_import_declaration_specifier (type_of (expression_plain plain r.expression)) ≡ false
no_expression_is_an_import_declaration_specifier plain r = of_expression plain is_import_declaration_specifier false refl refl refl refl refl refl refl refl refl refl refl refl refl refl refl refl refl refl refl refl refl refl refl refl refl refl refl refl refl refl r.expression r.other

pub no_assignment_target_is_an_import_declaration_specifier : {N : Type 0} (plain : N → Tree) (r : OtherAssignmentTarget N) → is_import_declaration_specifier (type_of (assignment_target_plain plain r.assignment_target)) ≡ false
no_assignment_target_is_an_import_declaration_specifier plain r = of_assignment_target plain is_import_declaration_specifier false refl refl r.assignment_target r.other

pub no_class_element_is_an_import_declaration_specifier : {N : Type 0} (plain : N → Tree) (r : ClassElement N) → is_import_declaration_specifier (type_of (class_element_plain plain r)) ≡ false
no_class_element_is_an_import_declaration_specifier plain r = of_class_element plain is_import_declaration_specifier false refl refl refl r

pub no_declaration_is_a_module_export_name : {N : Type 0} (plain : N → Tree) (r : OtherDeclaration N) → is_module_export_name (type_of (declaration_plain plain r.declaration)) ≡ false
no_declaration_is_a_module_export_name plain r = of_declaration plain is_module_export_name false refl r.declaration r.other

pub no_binding_pattern_is_a_module_export_name : {N : Type 0} (plain : N → Tree) (r : BindingPattern N) → is_module_export_name (type_of (binding_pattern_plain plain r)) ≡ false
no_binding_pattern_is_a_module_export_name plain r = of_binding_pattern plain is_module_export_name false refl refl refl refl r

pub no_statement_is_a_module_export_name : {N : Type 0} (plain : N → Tree) (r : OtherStatement N) → is_module_export_name (type_of (statement_plain plain r.statement)) ≡ false
no_statement_is_a_module_export_name plain r = of_statement plain is_module_export_name false refl refl refl refl refl refl refl refl refl refl refl refl refl refl refl refl refl refl refl refl refl refl refl r.statement r.other

pub no_assignment_target_is_a_module_export_name : {N : Type 0} (plain : N → Tree) (r : OtherAssignmentTarget N) → is_module_export_name (type_of (assignment_target_plain plain r.assignment_target)) ≡ false
no_assignment_target_is_a_module_export_name plain r = of_assignment_target plain is_module_export_name false refl refl r.assignment_target r.other

pub no_class_element_is_a_module_export_name : {N : Type 0} (plain : N → Tree) (r : ClassElement N) → is_module_export_name (type_of (class_element_plain plain r)) ≡ false
no_class_element_is_a_module_export_name plain r = of_class_element plain is_module_export_name false refl refl refl r

pub no_declaration_is_an_import_attribute_key : {N : Type 0} (plain : N → Tree) (r : OtherDeclaration N) → is_import_attribute_key (type_of (declaration_plain plain r.declaration)) ≡ false
no_declaration_is_an_import_attribute_key plain r = of_declaration plain is_import_attribute_key false refl r.declaration r.other

pub no_binding_pattern_is_an_import_attribute_key : {N : Type 0} (plain : N → Tree) (r : BindingPattern N) → is_import_attribute_key (type_of (binding_pattern_plain plain r)) ≡ false
no_binding_pattern_is_an_import_attribute_key plain r = of_binding_pattern plain is_import_attribute_key false refl refl refl refl r

pub no_statement_is_an_import_attribute_key : {N : Type 0} (plain : N → Tree) (r : OtherStatement N) → is_import_attribute_key (type_of (statement_plain plain r.statement)) ≡ false
no_statement_is_an_import_attribute_key plain r = of_statement plain is_import_attribute_key false refl refl refl refl refl refl refl refl refl refl refl refl refl refl refl refl refl refl refl refl refl refl refl r.statement r.other

pub no_assignment_target_is_an_import_attribute_key : {N : Type 0} (plain : N → Tree) (r : OtherAssignmentTarget N) → is_import_attribute_key (type_of (assignment_target_plain plain r.assignment_target)) ≡ false
no_assignment_target_is_an_import_attribute_key plain r = of_assignment_target plain is_import_attribute_key false refl refl r.assignment_target r.other

pub no_class_element_is_an_import_attribute_key : {N : Type 0} (plain : N → Tree) (r : ClassElement N) → is_import_attribute_key (type_of (class_element_plain plain r)) ≡ false
no_class_element_is_an_import_attribute_key plain r = of_class_element plain is_import_attribute_key false refl refl refl r

pub each_declaration_is_a_declaration : {N : Type 0} (plain : N → Tree) (r : OtherDeclaration N) → is_declaration (type_of (declaration_plain plain r.declaration)) ≡ true
each_declaration_is_a_declaration plain r = of_declaration plain is_declaration true refl r.declaration r.other

pub no_binding_pattern_is_a_declaration : {N : Type 0} (plain : N → Tree) (r : BindingPattern N) → is_declaration (type_of (binding_pattern_plain plain r)) ≡ false
no_binding_pattern_is_a_declaration plain r = of_binding_pattern plain is_declaration false refl refl refl refl r

pub no_statement_is_a_declaration : {N : Type 0} (plain : N → Tree) (r : OtherStatement N) → is_declaration (type_of (statement_plain plain r.statement)) ≡ false
no_statement_is_a_declaration plain r = of_statement plain is_declaration false refl refl refl refl refl refl refl refl refl refl refl refl refl refl refl refl refl refl refl refl refl refl refl r.statement r.other

pub no_expression_is_a_declaration : {N : Type 0} (plain : N → Tree) (r : OtherExpression N) → is_declaration (type_of (expression_plain plain r.expression)) ≡ false
no_expression_is_a_declaration plain r = of_expression plain is_declaration false refl refl refl refl refl refl refl refl refl refl refl refl refl refl refl refl refl refl refl refl refl refl refl refl refl refl refl refl refl refl r.expression r.other

pub no_assignment_target_is_a_declaration : {N : Type 0} (plain : N → Tree) (r : OtherAssignmentTarget N) → is_declaration (type_of (assignment_target_plain plain r.assignment_target)) ≡ false
no_assignment_target_is_a_declaration plain r = of_assignment_target plain is_declaration false refl refl r.assignment_target r.other

pub no_class_element_is_a_declaration : {N : Type 0} (plain : N → Tree) (r : ClassElement N) → is_declaration (type_of (class_element_plain plain r)) ≡ false
no_class_element_is_a_declaration plain r = of_class_element plain is_declaration false refl refl refl r

pub no_declaration_is_an_export_default_declaration_kind : {N : Type 0} (plain : N → Tree) (r : OtherDeclaration N) → is_export_default_declaration_kind (type_of (declaration_plain plain r.declaration)) ≡ false
no_declaration_is_an_export_default_declaration_kind plain r = of_declaration plain is_export_default_declaration_kind false refl r.declaration r.other

pub no_binding_pattern_is_an_export_default_declaration_kind : {N : Type 0} (plain : N → Tree) (r : BindingPattern N) → is_export_default_declaration_kind (type_of (binding_pattern_plain plain r)) ≡ false
no_binding_pattern_is_an_export_default_declaration_kind plain r = of_binding_pattern plain is_export_default_declaration_kind false refl refl refl refl r

pub no_statement_is_an_export_default_declaration_kind : {N : Type 0} (plain : N → Tree) (r : OtherStatement N) → is_export_default_declaration_kind (type_of (statement_plain plain r.statement)) ≡ false
no_statement_is_an_export_default_declaration_kind plain r = of_statement plain is_export_default_declaration_kind false refl refl refl refl refl refl refl refl refl refl refl refl refl refl refl refl refl refl refl refl refl refl refl r.statement r.other

pub each_expression_is_an_export_default_declaration_kind : {N : Type 0} (plain : N → Tree) (r : OtherExpression N) → is_export_default_declaration_kind (type_of (expression_plain plain r.expression)) ≡ true
each_expression_is_an_export_default_declaration_kind plain r = of_expression plain is_export_default_declaration_kind true refl refl refl refl refl refl refl refl refl refl refl refl refl refl refl refl refl refl refl refl refl refl refl refl refl refl refl refl refl refl r.expression r.other

pub no_assignment_target_is_an_export_default_declaration_kind : {N : Type 0} (plain : N → Tree) (r : OtherAssignmentTarget N) → is_export_default_declaration_kind (type_of (assignment_target_plain plain r.assignment_target)) ≡ false
no_assignment_target_is_an_export_default_declaration_kind plain r = of_assignment_target plain is_export_default_declaration_kind false refl refl r.assignment_target r.other

pub no_class_element_is_an_export_default_declaration_kind : {N : Type 0} (plain : N → Tree) (r : ClassElement N) → is_export_default_declaration_kind (type_of (class_element_plain plain r)) ≡ false
no_class_element_is_an_export_default_declaration_kind plain r = of_class_element plain is_export_default_declaration_kind false refl refl refl r

pub program_type : (t : NodeType) → is_program t ≡ true → t ≡ types.Program
program_type types.Program h = refl
program_type types.Comment h = cc
program_type types.Directive h = cc
program_type types.VariableDeclaration h = cc
program_type types.VariableDeclarator h = cc
program_type types.BindingIdentifier h = cc
program_type types.ExpressionStatement h = cc
program_type types.BlockStatement h = cc
program_type types.IfStatement h = cc
program_type types.EmptyStatement h = cc
program_type types.IdentifierReference h = cc
program_type types.ThisExpression h = cc
program_type types.NullLiteral h = cc
program_type types.BooleanLiteral h = cc
program_type types.NumericLiteral h = cc
program_type types.BigIntLiteral h = cc
program_type types.StringLiteral h = cc
program_type types.RegExpLiteral h = cc
program_type types.ParenthesizedExpression h = cc
program_type types.BinaryExpression h = cc
program_type types.LogicalExpression h = cc
program_type types.IdentifierName h = cc
program_type types.StaticMemberExpression h = cc
program_type types.ComputedMemberExpression h = cc
program_type types.CallExpression h = cc
program_type types.ChainExpression h = cc
program_type types.SpreadElement h = cc
program_type types.ArrayExpression h = cc
program_type types.ObjectProperty h = cc
program_type types.ObjectExpression h = cc
program_type types.UnaryExpression h = cc
program_type types.NewTarget h = cc
program_type types.UpdateExpression h = cc
program_type types.NewExpression h = cc
program_type types.Super h = cc
program_type types.ImportMeta h = cc
program_type types.ConditionalExpression h = cc
program_type types.SequenceExpression h = cc
program_type types.AssignmentExpression h = cc
program_type types.FormalParameter h = cc
program_type types.FormalParameterRest h = cc
program_type types.FormalParameters h = cc
program_type types.Function h = cc
program_type types.FunctionBody h = cc
program_type types.ArrowFunctionExpression h = cc
program_type types.AwaitExpression h = cc
program_type types.YieldExpression h = cc
program_type types.TemplateElement h = cc
program_type types.TemplateLiteral h = cc
program_type types.TaggedTemplateExpression h = cc
program_type types.ImportExpression h = cc
program_type types.ForStatement h = cc
program_type types.ForInStatement h = cc
program_type types.ForOfStatement h = cc
program_type types.WhileStatement h = cc
program_type types.DoWhileStatement h = cc
program_type types.LabelIdentifier h = cc
program_type types.LabeledStatement h = cc
program_type types.ContinueStatement h = cc
program_type types.BreakStatement h = cc
program_type types.ReturnStatement h = cc
program_type types.ThrowStatement h = cc
program_type types.DebuggerStatement h = cc
program_type types.SwitchStatement h = cc
program_type types.SwitchCase h = cc
program_type types.TryStatement h = cc
program_type types.CatchClause h = cc
program_type types.ObjectPattern h = cc
program_type types.BindingProperty h = cc
program_type types.BindingRestElement h = cc
program_type types.ArrayPattern h = cc
program_type types.AssignmentPattern h = cc
program_type types.ArrayAssignmentTarget h = cc
program_type types.ObjectAssignmentTarget h = cc
program_type types.AssignmentTargetWithDefault h = cc
program_type types.AssignmentTargetPropertyIdentifier h = cc
program_type types.AssignmentTargetPropertyProperty h = cc
program_type types.AssignmentTargetRest h = cc
program_type types.PrivateIdentifier h = cc
program_type types.PrivateFieldExpression h = cc
program_type types.PrivateInExpression h = cc
program_type types.Class h = cc
program_type types.ClassBody h = cc
program_type types.StaticBlock h = cc
program_type types.MethodDefinition h = cc
program_type types.PropertyDefinition h = cc
program_type types.Hashbang h = cc
program_type types.ImportDeclaration h = cc
program_type types.ImportDefaultSpecifier h = cc
program_type types.ImportNamespaceSpecifier h = cc
program_type types.ImportSpecifier h = cc
program_type types.WithClause h = cc
program_type types.ImportAttribute h = cc
program_type types.ExportDeclaration h = cc
program_type types.ExportNamedDeclaration h = cc
program_type types.ExportFromDeclaration h = cc
program_type types.ExportSpecifier h = cc
program_type types.ExportAllDeclaration h = cc
program_type types.ExportDefaultDeclaration h = cc

-- ---- which rows a place takes

pub ruleset takes_programs = (no_declaration_is_a_program, no_binding_pattern_is_a_program, no_statement_is_a_program, no_expression_is_a_program, no_assignment_target_is_a_program, no_class_element_is_a_program)

pub ruleset takes_statements = (each_declaration_is_a_statement, no_binding_pattern_is_a_statement, each_statement_is_a_statement, no_expression_is_a_statement, no_assignment_target_is_a_statement, no_class_element_is_a_statement)

pub ruleset takes_binding_patterns = (no_declaration_is_a_binding_pattern, each_binding_pattern_is_a_binding_pattern, no_statement_is_a_binding_pattern, no_expression_is_a_binding_pattern, no_assignment_target_is_a_binding_pattern, no_class_element_is_a_binding_pattern)

pub ruleset takes_expressions = (no_declaration_is_an_expression, no_binding_pattern_is_an_expression, no_statement_is_an_expression, each_expression_is_an_expression, no_assignment_target_is_an_expression, no_class_element_is_an_expression)

pub ruleset takes_arguments = (no_declaration_is_an_argument, no_binding_pattern_is_an_argument, no_statement_is_an_argument, each_expression_is_an_argument, no_assignment_target_is_an_argument, no_class_element_is_an_argument)

pub ruleset takes_chain_elements = (no_declaration_is_a_chain_element, no_binding_pattern_is_a_chain_element, no_statement_is_a_chain_element, no_assignment_target_is_a_chain_element, no_class_element_is_a_chain_element)

pub ruleset takes_array_expression_elements = (no_declaration_is_an_array_expression_element, no_binding_pattern_is_an_array_expression_element, no_statement_is_an_array_expression_element, each_expression_is_an_array_expression_element, no_assignment_target_is_an_array_expression_element, no_class_element_is_an_array_expression_element)

pub ruleset takes_property_keys = (no_declaration_is_a_property_key, no_binding_pattern_is_a_property_key, no_statement_is_a_property_key, each_expression_is_a_property_key, no_assignment_target_is_a_property_key, no_class_element_is_a_property_key)

pub ruleset takes_object_property_kinds = (no_declaration_is_an_object_property_kind, no_binding_pattern_is_an_object_property_kind, no_statement_is_an_object_property_kind, no_expression_is_an_object_property_kind, no_assignment_target_is_an_object_property_kind, no_class_element_is_an_object_property_kind)

pub ruleset takes_simple_assignment_targets = (no_declaration_is_a_simple_assignment_target, no_binding_pattern_is_a_simple_assignment_target, no_statement_is_a_simple_assignment_target, no_expression_is_a_simple_assignment_target, no_assignment_target_is_a_simple_assignment_target, no_class_element_is_a_simple_assignment_target)

pub ruleset takes_assignment_targets = (no_declaration_is_an_assignment_target, no_binding_pattern_is_an_assignment_target, no_statement_is_an_assignment_target, no_expression_is_an_assignment_target, each_assignment_target_is_an_assignment_target, no_class_element_is_an_assignment_target)

pub ruleset takes_arrow_function_bodys = (no_declaration_is_an_arrow_function_body, no_binding_pattern_is_an_arrow_function_body, no_statement_is_an_arrow_function_body, each_expression_is_an_arrow_function_body, no_assignment_target_is_an_arrow_function_body, no_class_element_is_an_arrow_function_body)

pub ruleset takes_for_statement_inits = (each_declaration_is_a_for_statement_init, no_binding_pattern_is_a_for_statement_init, no_statement_is_a_for_statement_init, each_expression_is_a_for_statement_init, no_assignment_target_is_a_for_statement_init, no_class_element_is_a_for_statement_init)

pub ruleset takes_for_statement_lefts = (each_declaration_is_a_for_statement_left, no_binding_pattern_is_a_for_statement_left, no_statement_is_a_for_statement_left, no_expression_is_a_for_statement_left, each_assignment_target_is_a_for_statement_left, no_class_element_is_a_for_statement_left)

pub ruleset takes_assignment_target_maybe_defaults = (no_declaration_is_an_assignment_target_maybe_default, no_binding_pattern_is_an_assignment_target_maybe_default, no_statement_is_an_assignment_target_maybe_default, no_expression_is_an_assignment_target_maybe_default, each_assignment_target_is_an_assignment_target_maybe_default, no_class_element_is_an_assignment_target_maybe_default)

pub ruleset takes_assignment_target_propertys = (no_declaration_is_an_assignment_target_property, no_binding_pattern_is_an_assignment_target_property, no_statement_is_an_assignment_target_property, no_expression_is_an_assignment_target_property, no_assignment_target_is_an_assignment_target_property, no_class_element_is_an_assignment_target_property)

pub ruleset takes_class_elements = (no_declaration_is_a_class_element, no_binding_pattern_is_a_class_element, no_statement_is_a_class_element, no_expression_is_a_class_element, no_assignment_target_is_a_class_element, each_class_element_is_a_class_element)

pub ruleset takes_import_declaration_specifiers = (no_declaration_is_an_import_declaration_specifier, no_binding_pattern_is_an_import_declaration_specifier, no_statement_is_an_import_declaration_specifier, no_expression_is_an_import_declaration_specifier, no_assignment_target_is_an_import_declaration_specifier, no_class_element_is_an_import_declaration_specifier)

pub ruleset takes_module_export_names = (no_declaration_is_a_module_export_name, no_binding_pattern_is_a_module_export_name, no_statement_is_a_module_export_name, no_assignment_target_is_a_module_export_name, no_class_element_is_a_module_export_name)

pub ruleset takes_import_attribute_keys = (no_declaration_is_an_import_attribute_key, no_binding_pattern_is_an_import_attribute_key, no_statement_is_an_import_attribute_key, no_assignment_target_is_an_import_attribute_key, no_class_element_is_an_import_attribute_key)

pub ruleset takes_declarations = (each_declaration_is_a_declaration, no_binding_pattern_is_a_declaration, no_statement_is_a_declaration, no_expression_is_a_declaration, no_assignment_target_is_a_declaration, no_class_element_is_a_declaration)

pub ruleset takes_export_default_declaration_kinds = (no_declaration_is_an_export_default_declaration_kind, no_binding_pattern_is_an_export_default_declaration_kind, no_statement_is_an_export_default_declaration_kind, each_expression_is_an_export_default_declaration_kind, no_assignment_target_is_an_export_default_declaration_kind, no_class_element_is_an_export_default_declaration_kind)
