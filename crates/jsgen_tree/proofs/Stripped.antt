-- What has no parentheses is what stands within them.
use Rattle.std.proofs.Common.{◌≡◌, refl, Box}
use Rattle.std.specs.declared.alloc.Global.{Global}
use Rattle.jsgen_tree.specs.Tree.{Tree}
use Rattle.jsgen_tree.specs.Inside.{without_parentheses}
use Rattle.jsgen_tree.specs.Rows.{expression_plain, assignment_target_plain, declaration_plain, statement_plain, binding_pattern_plain, class_element_plain}
use Rattle.jsgen_tree.specs.declared.nodes.Node.{Node}
use Rattle.jsgen_tree.specs.declared.nodes.DeclarationNode.{DeclarationNode}
use Rattle.jsgen_tree.specs.declared.expressions.ParenthesizedExpression.{ParenthesizedExpression}
use Rattle.jsgen_tree.specs.declared.sets.Expression.{Expression}
use Rattle.jsgen_tree.specs.declared.sets.AssignmentTarget.{AssignmentTarget}
use Rattle.jsgen_tree.specs.declared.sets.Declaration.{Declaration}
use Rattle.jsgen_tree.specs.declared.sets.Statement.{Statement}
use Rattle.jsgen_tree.specs.declared.sets.BindingPattern.{BindingPattern}
use Rattle.jsgen_tree.specs.declared.sets.ClassElement.{ClassElement}
use Rattle.jsgen_tree.specs.declared.sets.Expression.TheVariants as expressions
use Rattle.jsgen_tree.specs.declared.sets.AssignmentTarget.TheVariants as targets
use Rattle.jsgen_tree.specs.declared.sets.Declaration.TheVariants as declarations
use Rattle.jsgen_tree.specs.declared.sets.Statement.TheVariants as statements
use Rattle.jsgen_tree.specs.declared.sets.BindingPattern.TheVariants as patterns
use Rattle.jsgen_tree.specs.declared.sets.ClassElement.TheVariants as elements

pub bare_expression : (h : Node → Tree) (n : Expression Node) → ((b : Box (ParenthesizedExpression Node) Global) → n ≡ expressions.ParenthesizedExpression b → ⊥) → expression_plain h n ≡ without_parentheses (expression_plain h n)
bare_expression h (expressions.ParenthesizedExpression b) other = absurd (other b refl)
bare_expression h n other = refl

pub bare_target : (h : Node → Tree) (n : AssignmentTarget Node) → assignment_target_plain h n ≡ without_parentheses (assignment_target_plain h n)
bare_target h (targets.ArrayAssignmentTarget b) = refl
bare_target h n = refl

pub bare_declaration : (h : Node → Tree) (n : Declaration Node) → declaration_plain h n ≡ without_parentheses (declaration_plain h n)
bare_declaration h (declarations.Function b) = refl
bare_declaration h n = refl

pub bare_statement : (h : Node → Tree) (n : Statement Node) → ((d : Box (DeclarationNode Node) Global) → n ≡ statements.Declaration d → ⊥) → statement_plain h n ≡ without_parentheses (statement_plain h n)
bare_statement h (statements.Declaration d) other = absurd (other d refl)
bare_statement h n other = refl

pub bare_pattern : (h : Node → Tree) (n : BindingPattern Node) → binding_pattern_plain h n ≡ without_parentheses (binding_pattern_plain h n)
bare_pattern h (patterns.ObjectPattern b) = refl
bare_pattern h n = refl

pub bare_element : (h : Node → Tree) (n : ClassElement Node) → class_element_plain h n ≡ without_parentheses (class_element_plain h n)
bare_element h (elements.StaticBlock b) = refl
bare_element h n = refl
