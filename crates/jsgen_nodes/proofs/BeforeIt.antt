-- The comments before what is in no parentheses, and what is no function.
use Rattle.std.proofs.Common.{◌≡◌, false, refl}
use Rattle.jsgen_tree.specs.Plain.{node_plain}
use Rattle.jsgen_tree.specs.Rows.{expression_plain, assignment_target_plain, statement_plain, declaration_plain, binding_pattern_plain, class_element_plain}
use Rattle.jsgen_tree.specs.declared.nodes.Node.{Node}
use Rattle.jsgen_tree.specs.declared.sets.Expression.{Expression}
use Rattle.jsgen_tree.specs.declared.sets.AssignmentTarget.{AssignmentTarget}
use Rattle.jsgen_tree.specs.declared.sets.Statement.{Statement}
use Rattle.jsgen_tree.specs.declared.sets.Declaration.{Declaration}
use Rattle.jsgen_tree.specs.declared.sets.BindingPattern.{BindingPattern}
use Rattle.jsgen_tree.specs.declared.sets.ClassElement.{ClassElement}
use Rattle.jsgen_tree.specs.declared.sets.Expression.TheVariants as expressions
use Rattle.jsgen_tree.specs.declared.sets.AssignmentTarget.TheVariants as targets
use Rattle.jsgen_tree.specs.declared.sets.Statement.TheVariants as statements
use Rattle.jsgen_tree.specs.declared.sets.Declaration.TheVariants as declarations
use Rattle.jsgen_tree.specs.declared.sets.BindingPattern.TheVariants as patterns
use Rattle.jsgen_tree.specs.declared.sets.ClassElement.TheVariants as elements
use Rattle.jsgen_nodes.proofs.IsNot.{IsNot}
use Rattle.jsgen_nodes.specs.Calls.{own_comments}
use Rattle.jsgen_model.specs.Items.{Manner}
use Rattle.jsgen_model.specs.Spell.{before_expression, is_marked_as_called}

pub expression_own : (m : Manner) (n : Expression Node) → IsNot n expressions.ParenthesizedExpression → own_comments m (expression_plain node_plain n) ≡ before_expression m (expression_plain node_plain n)
expression_own m (expressions.ParenthesizedExpression b) bare = absurd (bare b refl)
expression_own m n bare = refl

pub statement_own : (m : Manner) (n : Statement Node) → IsNot n statements.Declaration → own_comments m (statement_plain node_plain n) ≡ before_expression m (statement_plain node_plain n)
statement_own m (statements.Declaration b) bare = absurd (bare b refl)
statement_own m n bare = refl

pub target_own : (m : Manner) (n : AssignmentTarget Node) → own_comments m (assignment_target_plain node_plain n) ≡ before_expression m (assignment_target_plain node_plain n)
target_own m (targets.IdentifierReference b) = refl
target_own m (targets.StaticMemberExpression b) = refl
target_own m (targets.ComputedMemberExpression b) = refl
target_own m (targets.PrivateFieldExpression b) = refl
target_own m (targets.ArrayAssignmentTarget b) = refl
target_own m (targets.ObjectAssignmentTarget b) = refl

pub declaration_own : (m : Manner) (n : Declaration Node) → own_comments m (declaration_plain node_plain n) ≡ before_expression m (declaration_plain node_plain n)
declaration_own m (declarations.VariableDeclaration b) = refl
declaration_own m (declarations.Function b) = refl
declaration_own m (declarations.Class b) = refl

pub pattern_own : (m : Manner) (n : BindingPattern Node) → own_comments m (binding_pattern_plain node_plain n) ≡ before_expression m (binding_pattern_plain node_plain n)
pattern_own m (patterns.BindingIdentifier b) = refl
pattern_own m (patterns.ObjectPattern b) = refl
pattern_own m (patterns.ArrayPattern b) = refl
pattern_own m (patterns.AssignmentPattern b) = refl

pub element_own : (m : Manner) (n : ClassElement Node) → own_comments m (class_element_plain node_plain n) ≡ before_expression m (class_element_plain node_plain n)
element_own m (elements.StaticBlock b) = refl
element_own m (elements.MethodDefinition b) = refl
element_own m (elements.PropertyDefinition b) = refl

-- ---- what is no function isn't marked as called

pub expression_unmarked : (n : Expression Node) → IsNot n expressions.Function → IsNot n expressions.ArrowFunctionExpression → false ≡ is_marked_as_called (expression_plain node_plain n)
expression_unmarked (expressions.Function b) no_function no_arrow = absurd (no_function b refl)
expression_unmarked (expressions.ArrowFunctionExpression b) no_function no_arrow = absurd (no_arrow b refl)
expression_unmarked n no_function no_arrow = refl

pub statement_unmarked : (n : Statement Node) → IsNot n statements.Declaration → false ≡ is_marked_as_called (statement_plain node_plain n)
statement_unmarked (statements.Declaration b) bare = absurd (bare b refl)
statement_unmarked n bare = refl

pub declaration_unmarked : (n : Declaration Node) → IsNot n declarations.Function → false ≡ is_marked_as_called (declaration_plain node_plain n)
declaration_unmarked (declarations.VariableDeclaration b) no_function = refl
declaration_unmarked (declarations.Function b) no_function = absurd (no_function b refl)
declaration_unmarked (declarations.Class b) no_function = refl

pub target_unmarked : (n : AssignmentTarget Node) → false ≡ is_marked_as_called (assignment_target_plain node_plain n)
target_unmarked (targets.IdentifierReference b) = refl
target_unmarked (targets.StaticMemberExpression b) = refl
target_unmarked (targets.ComputedMemberExpression b) = refl
target_unmarked (targets.PrivateFieldExpression b) = refl
target_unmarked (targets.ArrayAssignmentTarget b) = refl
target_unmarked (targets.ObjectAssignmentTarget b) = refl

pub pattern_unmarked : (n : BindingPattern Node) → false ≡ is_marked_as_called (binding_pattern_plain node_plain n)
pattern_unmarked (patterns.BindingIdentifier b) = refl
pattern_unmarked (patterns.ObjectPattern b) = refl
pattern_unmarked (patterns.ArrayPattern b) = refl
pattern_unmarked (patterns.AssignmentPattern b) = refl

pub element_unmarked : (n : ClassElement Node) → false ≡ is_marked_as_called (class_element_plain node_plain n)
element_unmarked (elements.StaticBlock b) = refl
element_unmarked (elements.MethodDefinition b) = refl
element_unmarked (elements.PropertyDefinition b) = refl
