-- What a question of all types answers for those that it doesn't name.
use Rattle.std.proofs.Common.{◌≡◌, false, None, refl}
use Rattle.jsgen_tree.specs.Tree.{span_of}
use Rattle.jsgen_tree.specs.Inside.{ends_open}
use Rattle.jsgen_tree.specs.Plain.{node_plain}
use Rattle.jsgen_tree.specs.Rows.{expression_plain, statement_plain, declaration_plain, binding_pattern_plain, class_element_plain, assignment_target_plain}
use Rattle.jsgen_tree.specs.declared.nodes.Node.{Node}
use Rattle.jsgen_tree.specs.declared.sets.Expression.{Expression}
use Rattle.jsgen_tree.specs.declared.sets.AssignmentTarget.{AssignmentTarget}
use Rattle.jsgen_tree.specs.declared.sets.Statement.{Statement}
use Rattle.jsgen_tree.specs.declared.sets.Declaration.{Declaration}
use Rattle.jsgen_tree.specs.declared.sets.BindingPattern.{BindingPattern}
use Rattle.jsgen_tree.specs.declared.sets.ClassElement.{ClassElement}
use Rattle.jsgen_tree.specs.declared.sets.Expression.TheVariants as expressions
use Rattle.jsgen_tree.specs.declared.sets.AssignmentTarget.TheVariants as targets
use Rattle.jsgen_tree.specs.declared.sets.Statement.TheVariants as statements
use Rattle.jsgen_tree.specs.declared.sets.Declaration.TheVariants as declarations
use Rattle.jsgen_tree.specs.declared.sets.BindingPattern.TheVariants as binding_patterns
use Rattle.jsgen_tree.specs.declared.sets.ClassElement.TheVariants as class_elements
use Rattle.jsgen_model.specs.Spell.{string_statement, span_inside}

-- a member of a set is none of a type
abbrev pub IsNot : {B S : Type 0} → S → (B → S) → Type 0
IsNot {B} n variant = (b : B) → n ≡ variant b → ⊥

-- ---- what ends in an `if` without `else`

pub no_open_expression : (n : Expression Node) → false ≡ ends_open (expression_plain node_plain n)
no_open_expression (expressions.StringLiteral b) = refl
no_open_expression n = refl

pub no_open_target : (n : AssignmentTarget Node) → false ≡ ends_open (assignment_target_plain node_plain n)
no_open_target (targets.IdentifierReference b) = refl
no_open_target (targets.StaticMemberExpression b) = refl
no_open_target (targets.ComputedMemberExpression b) = refl
no_open_target (targets.PrivateFieldExpression b) = refl
no_open_target (targets.ArrayAssignmentTarget b) = refl
no_open_target (targets.ObjectAssignmentTarget b) = refl

pub no_open_declaration : (n : Declaration Node) → false ≡ ends_open (declaration_plain node_plain n)
no_open_declaration (declarations.VariableDeclaration b) = refl
no_open_declaration (declarations.Function b) = refl
no_open_declaration (declarations.Class b) = refl

pub no_open_pattern : (n : BindingPattern Node) → false ≡ ends_open (binding_pattern_plain node_plain n)
no_open_pattern (binding_patterns.BindingIdentifier b) = refl
no_open_pattern (binding_patterns.ObjectPattern b) = refl
no_open_pattern (binding_patterns.ArrayPattern b) = refl
no_open_pattern (binding_patterns.AssignmentPattern b) = refl

pub no_open_element : (n : ClassElement Node) → false ≡ ends_open (class_element_plain node_plain n)
no_open_element (class_elements.StaticBlock b) = refl
no_open_element (class_elements.MethodDefinition b) = refl
no_open_element (class_elements.PropertyDefinition b) = refl

pub no_open_statement : (n : Statement Node) → IsNot n statements.Declaration → IsNot n statements.IfStatement → IsNot n statements.ForStatement → IsNot n statements.ForInStatement → IsNot n statements.ForOfStatement → IsNot n statements.WhileStatement → IsNot n statements.LabeledStatement → false ≡ ends_open (statement_plain node_plain n)
no_open_statement (statements.Declaration b) no_declaration no_if no_for no_for_in no_for_of no_while no_label = absurd (no_declaration b refl)
no_open_statement (statements.IfStatement b) no_declaration no_if no_for no_for_in no_for_of no_while no_label = absurd (no_if b refl)
no_open_statement (statements.ForStatement b) no_declaration no_if no_for no_for_in no_for_of no_while no_label = absurd (no_for b refl)
no_open_statement (statements.ForInStatement b) no_declaration no_if no_for no_for_in no_for_of no_while no_label = absurd (no_for_in b refl)
no_open_statement (statements.ForOfStatement b) no_declaration no_if no_for no_for_in no_for_of no_while no_label = absurd (no_for_of b refl)
no_open_statement (statements.WhileStatement b) no_declaration no_if no_for no_for_in no_for_of no_while no_label = absurd (no_while b refl)
no_open_statement (statements.LabeledStatement b) no_declaration no_if no_for no_for_in no_for_of no_while no_label = absurd (no_label b refl)
no_open_statement n no_declaration no_if no_for no_for_in no_for_of no_while no_label = refl

-- ---- the string that is the whole of a statement

pub no_expression_string : (n : Expression Node) → None ≡ string_statement (expression_plain node_plain n)
no_expression_string (expressions.StringLiteral b) = refl
no_expression_string n = refl

pub no_target_string : (n : AssignmentTarget Node) → None ≡ string_statement (assignment_target_plain node_plain n)
no_target_string (targets.IdentifierReference b) = refl
no_target_string (targets.StaticMemberExpression b) = refl
no_target_string (targets.ComputedMemberExpression b) = refl
no_target_string (targets.PrivateFieldExpression b) = refl
no_target_string (targets.ArrayAssignmentTarget b) = refl
no_target_string (targets.ObjectAssignmentTarget b) = refl

pub no_declaration_string : (n : Declaration Node) → None ≡ string_statement (declaration_plain node_plain n)
no_declaration_string (declarations.VariableDeclaration b) = refl
no_declaration_string (declarations.Function b) = refl
no_declaration_string (declarations.Class b) = refl

pub no_pattern_string : (n : BindingPattern Node) → None ≡ string_statement (binding_pattern_plain node_plain n)
no_pattern_string (binding_patterns.BindingIdentifier b) = refl
no_pattern_string (binding_patterns.ObjectPattern b) = refl
no_pattern_string (binding_patterns.ArrayPattern b) = refl
no_pattern_string (binding_patterns.AssignmentPattern b) = refl

pub no_element_string : (n : ClassElement Node) → None ≡ string_statement (class_element_plain node_plain n)
no_element_string (class_elements.StaticBlock b) = refl
no_element_string (class_elements.MethodDefinition b) = refl
no_element_string (class_elements.PropertyDefinition b) = refl

pub no_string_statement : (n : Statement Node) → IsNot n statements.Declaration → IsNot n statements.ExpressionStatement → None ≡ string_statement (statement_plain node_plain n)
no_string_statement (statements.Declaration b) no_declaration no_expression = absurd (no_declaration b refl)
no_string_statement (statements.ExpressionStatement b) no_declaration no_expression = absurd (no_expression b refl)
no_string_statement n no_declaration no_expression = refl

-- ---- where what is no expression statement stands: where it does itself

pub expression_itself : (n : Expression Node) → span_of (expression_plain node_plain n) ≡ span_inside (expression_plain node_plain n)
expression_itself (expressions.StringLiteral b) = refl
expression_itself n = refl

pub target_itself : (n : AssignmentTarget Node) → span_of (assignment_target_plain node_plain n) ≡ span_inside (assignment_target_plain node_plain n)
target_itself (targets.IdentifierReference b) = refl
target_itself (targets.StaticMemberExpression b) = refl
target_itself (targets.ComputedMemberExpression b) = refl
target_itself (targets.PrivateFieldExpression b) = refl
target_itself (targets.ArrayAssignmentTarget b) = refl
target_itself (targets.ObjectAssignmentTarget b) = refl

pub declaration_itself : (n : Declaration Node) → span_of (declaration_plain node_plain n) ≡ span_inside (declaration_plain node_plain n)
declaration_itself (declarations.VariableDeclaration b) = refl
declaration_itself (declarations.Function b) = refl
declaration_itself (declarations.Class b) = refl

pub pattern_itself : (n : BindingPattern Node) → span_of (binding_pattern_plain node_plain n) ≡ span_inside (binding_pattern_plain node_plain n)
pattern_itself (binding_patterns.BindingIdentifier b) = refl
pattern_itself (binding_patterns.ObjectPattern b) = refl
pattern_itself (binding_patterns.ArrayPattern b) = refl
pattern_itself (binding_patterns.AssignmentPattern b) = refl

pub element_itself : (n : ClassElement Node) → span_of (class_element_plain node_plain n) ≡ span_inside (class_element_plain node_plain n)
element_itself (class_elements.StaticBlock b) = refl
element_itself (class_elements.MethodDefinition b) = refl
element_itself (class_elements.PropertyDefinition b) = refl

pub statement_itself : (n : Statement Node) → IsNot n statements.Declaration → IsNot n statements.ExpressionStatement → span_of (statement_plain node_plain n) ≡ span_inside (statement_plain node_plain n)
statement_itself (statements.Declaration b) no_declaration no_expression = absurd (no_declaration b refl)
statement_itself (statements.ExpressionStatement b) no_declaration no_expression = absurd (no_expression b refl)
statement_itself n no_declaration no_expression = refl
