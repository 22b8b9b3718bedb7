use Rattle.std.proofs.Common.{◌≡◌, refl, sym, subst, ◌∙◌, Box, rules}
use Rattle.std.specs.declared.alloc.Global.{Global}
use Rattle.jsgen_tree.specs.Tree.{Tree, span_of}
use Rattle.jsgen_tree.specs.Rows.{expression_plain, assignment_target_plain, statement_plain, binding_pattern_plain, class_element_plain}
use Rattle.jsgen_tree.specs.Plain.{node_plain}
use Rattle.jsgen_tree.specs.Spans.{expression_span, assignment_target_span, statement_span, binding_pattern_span, class_element_span}
use Rattle.jsgen_tree.specs.declared.nodes.Node.{Node}
use Rattle.jsgen_tree.specs.declared.nodes.DeclarationNode.{DeclarationNode}
use Rattle.jsgen_tree.specs.declared.nodes.Node.TheVariants as nodes
use Rattle.jsgen_tree.specs.declared.sets.Expression.{Expression}
use Rattle.jsgen_tree.specs.declared.sets.AssignmentTarget.{AssignmentTarget}
use Rattle.jsgen_tree.specs.declared.sets.AssignmentTarget.TheVariants as targets
use Rattle.jsgen_tree.specs.declared.sets.Statement.{Statement}
use Rattle.jsgen_tree.specs.declared.sets.Statement.TheVariants as statements
use Rattle.jsgen_tree.specs.declared.sets.BindingPattern.{BindingPattern}
use Rattle.jsgen_tree.specs.declared.sets.BindingPattern.TheVariants as patterns
use Rattle.jsgen_tree.specs.declared.sets.ClassElement.{ClassElement}
use Rattle.jsgen_tree.specs.declared.sets.ClassElement.TheVariants as elements
use Rattle.jsgen_tree.proofs.Knot.{plain_expression, plain_statement, plain_declaration, plain_binding_pattern, plain_class_element, plain_assignment_target, expression_spans, statement_spans, binding_pattern_spans, class_element_spans, assignment_target_spans}
use Rattle.jsgen_model.specs.Valid.{unbound}
use Rattle.jsgen_check.proofs.Bare.{expression_unbound}
use Rattle.jsgen_check.proofs.rules.patterns.+unbound.Goals as goal

abbrev IsItself : Tree → Type 0
IsItself t = unbound t ≡ span_of t

expression_at : (n : Expression Node) → expression_span n ≡ unbound (node_plain (nodes.Expression n))
expression_at n = expression_spans n ∙ sym (subst IsItself (sym (plain_expression n)) (expression_unbound node_plain n))

target_unbound : (h : Node → Tree) (n : AssignmentTarget Node) → IsItself (assignment_target_plain h n)
target_unbound h (targets.IdentifierReference b) = refl
target_unbound h n = refl

target_at : (n : AssignmentTarget Node) → assignment_target_span n ≡ unbound (node_plain (nodes.AssignmentTarget n))
target_at n = assignment_target_spans n ∙ sym (subst IsItself (sym (plain_assignment_target n)) (target_unbound node_plain n))

pattern_unbound : (h : Node → Tree) (n : BindingPattern Node) → IsItself (binding_pattern_plain h n)
pattern_unbound h (patterns.BindingIdentifier b) = refl
pattern_unbound h n = refl

pattern_at : (n : BindingPattern Node) → binding_pattern_span n ≡ unbound (node_plain (nodes.BindingPattern n))
pattern_at n = binding_pattern_spans n ∙ sym (subst IsItself (sym (plain_binding_pattern n)) (pattern_unbound node_plain n))

element_unbound : (h : Node → Tree) (n : ClassElement Node) → IsItself (class_element_plain h n)
element_unbound h (elements.StaticBlock b) = refl
element_unbound h n = refl

element_at : (n : ClassElement Node) → class_element_span n ≡ unbound (node_plain (nodes.ClassElement n))
element_at n = class_element_spans n ∙ sym (subst IsItself (sym (plain_class_element n)) (element_unbound node_plain n))

statement_unbound : (h : Node → Tree) (n : Statement Node) → ((b : Box (DeclarationNode Node) Global) → n ≡ statements.Declaration b → ⊥) → IsItself (statement_plain h n)
statement_unbound h (statements.Declaration b) no_declaration = absurd (no_declaration b refl)
statement_unbound h n no_declaration = refl

statement_at : (n : Statement Node) → ((b : Box (DeclarationNode Node) Global) → n ≡ statements.Declaration b → ⊥) → statement_span (λ n. span_of (node_plain n)) n ≡ unbound (node_plain (nodes.Statement n))
statement_at n no_declaration = statement_spans n ∙ sym (subst IsItself (sym (plain_statement n)) (statement_unbound node_plain n no_declaration))

pub returns-in-Expression : goal.returns-in-Expression
returns-in-Expression t c = rw c.in-Expression.is (c.span.ensures ∙ expression_at c.in-Expression.expression)

pub returns-in-AssignmentTarget : goal.returns-in-AssignmentTarget
returns-in-AssignmentTarget t c = rw c.in-AssignmentTarget.is (c.span-in-AssignmentTarget.ensures ∙ target_at c.in-AssignmentTarget.target)

pub returns-in-Declaration-statement : goal.returns-in-Declaration-statement
returns-in-Declaration-statement t c = search (rules, plain_statement)

pub returns-in_default : goal.returns-in_default
returns-in_default t c = rw c.in-Statement.is (c.span-in_default.ensures ∙ statement_at c.in-Statement.statement c.in_default.not-Declaration)

pub returns-in-VariableDeclaration : goal.returns-in-VariableDeclaration
returns-in-VariableDeclaration t c = rw (c.in-Declaration.is, plain_declaration c.in-Declaration.declaration, c.in-VariableDeclaration.is, ← c.deref-in-VariableDeclaration.ensures) c.declaration_unbound.ensures

pub returns-in-Function : goal.returns-in-Function
returns-in-Function t c = rw (c.in-Declaration.is, plain_declaration c.in-Declaration.declaration, c.in-Function.is, ← c.deref-in-Function.ensures) refl

pub returns-in-Class : goal.returns-in-Class
returns-in-Class t c = rw (c.in-Declaration.is, plain_declaration c.in-Declaration.declaration, c.in-Class.is, ← c.deref-in-Class.ensures) refl

pub returns-in-BindingPattern : goal.returns-in-BindingPattern
returns-in-BindingPattern t c = rw c.in-BindingPattern.is (c.span-in-BindingPattern.ensures ∙ pattern_at c.in-BindingPattern.pattern)

pub returns-in-ClassElement : goal.returns-in-ClassElement
returns-in-ClassElement t c = rw c.in-ClassElement.is (c.span-in-ClassElement.ensures ∙ element_at c.in-ClassElement.element)
