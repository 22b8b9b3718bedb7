use Rattle.std.proofs.Common.{◌≡◌, true, refl, Box, rules}
use Rattle.std.specs.declared.alloc.Global.{Global}
use Rattle.jsgen_tree.specs.Tree.{Tree, type_of}
use Rattle.jsgen_tree.specs.Rows.{expression_plain, assignment_target_plain}
use Rattle.jsgen_tree.specs.Plain.{node_plain}
use Rattle.jsgen_tree.specs.Inside.{is_only_expression, IsInside}
use Rattle.jsgen_tree.specs.declared.nodes.Node.{Node}
use Rattle.jsgen_tree.specs.declared.functions.Function.{Function}
use Rattle.jsgen_tree.specs.declared.classes.Class.{Class}
use Rattle.jsgen_tree.specs.declared.sets.Expression.{Expression}
use Rattle.jsgen_tree.specs.declared.sets.Expression.TheVariants as expressions
use Rattle.jsgen_tree.proofs.Knot.{plain_expression, plain_statement, plain_assignment_target}
use Rattle.jsgen_asked.proofs.Members.{declaration_is_none, binding_pattern_is_none, class_element_is_none}
use Rattle.jsgen_tree.specs.declared.sets.AssignmentTarget.{AssignmentTarget}
use Rattle.jsgen_tree.specs.declared.sets.AssignmentTarget.TheVariants as targets
use Rattle.jsgen_tree.specs.declared.targets.ArrayAssignmentTarget.{ArrayAssignmentTarget}
use Rattle.jsgen_tree.specs.declared.targets.ObjectAssignmentTarget.{ObjectAssignmentTarget}
use Rattle.jsgen_asked.proofs.inside.+inner.Goals as goal

-- an expression that is no function and no class
only_expression : (h : Node → Tree) (n : Expression Node) → ((b : Box (Function Node) Global) → n ≡ expressions.Function b → ⊥) → ((b : Box (Class Node) Global) → n ≡ expressions.Class b → ⊥) → is_only_expression (type_of (expression_plain h n)) ≡ true
only_expression h (expressions.Function b) no_function no_class = absurd (no_function b refl)
only_expression h (expressions.Class b) no_function no_class = absurd (no_class b refl)
only_expression h n no_function no_class = refl

-- a target that is no pattern
simple_target : (h : Node → Tree) (n : AssignmentTarget Node) → ((b : Box (ArrayAssignmentTarget Node) Global) → n ≡ targets.ArrayAssignmentTarget b → ⊥) → ((b : Box (ObjectAssignmentTarget Node) Global) → n ≡ targets.ObjectAssignmentTarget b → ⊥) → IsInside (assignment_target_plain h n) (assignment_target_plain h n)
simple_target h (targets.ArrayAssignmentTarget b) no_array no_object = absurd (no_array b refl)
simple_target h (targets.ObjectAssignmentTarget b) no_array no_object = absurd (no_object b refl)
simple_target h n no_array no_object = (refl, refl)

pub inner_expression-returns-in-Function : goal.inner_expression-returns-in-Function
inner_expression-returns-in-Function t c = search (rules, plain_expression)

pub inner_expression-returns-in-Class : goal.inner_expression-returns-in-Class
inner_expression-returns-in-Class t c = search (rules, plain_expression)

pub inner_expression-returns-in_default : goal.inner_expression-returns-in_default
inner_expression-returns-in_default t c = rw (c.in-Expression.is, plain_expression c.in-Expression.expression) (only_expression _ c.in-Expression.expression c.in_default.not-Function c.in_default.not-Class, c.inside_parentheses.ensures)

pub inner_expression-returns-in-ArrayAssignmentTarget : goal.inner_expression-returns-in-ArrayAssignmentTarget
inner_expression-returns-in-ArrayAssignmentTarget t c = search (rules, plain_assignment_target)

pub inner_expression-returns-in-ObjectAssignmentTarget : goal.inner_expression-returns-in-ObjectAssignmentTarget
inner_expression-returns-in-ObjectAssignmentTarget t c = search (rules, plain_assignment_target)

pub inner_expression-returns-in_default-target : goal.inner_expression-returns-in_default-target
inner_expression-returns-in_default-target t c = rw (c.in-AssignmentTarget.is, plain_assignment_target c.in-AssignmentTarget.target) (simple_target node_plain c.in-AssignmentTarget.target c.in_default-target.not-ArrayAssignmentTarget c.in_default-target.not-ObjectAssignmentTarget)

pub inner_expression-returns-in-Declaration-statement : goal.inner_expression-returns-in-Declaration-statement
inner_expression-returns-in-Declaration-statement t c = search (rules, plain_statement)

pub inner_expression-returns-in_default-statement : goal.inner_expression-returns-in_default-statement
inner_expression-returns-in_default-statement t c = search (rules, plain_statement)

pub inner_expression-returns-in-Declaration : goal.inner_expression-returns-in-Declaration
inner_expression-returns-in-Declaration t c = search (rules, declaration_is_none)

pub inner_expression-returns-in-BindingPattern : goal.inner_expression-returns-in-BindingPattern
inner_expression-returns-in-BindingPattern t c = search (rules, binding_pattern_is_none)

pub inner_expression-returns-in-ClassElement : goal.inner_expression-returns-in-ClassElement
inner_expression-returns-in-ClassElement t c = search (rules, class_element_is_none)
