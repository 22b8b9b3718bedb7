-- Generated from tools/nodes/table.txt; edit that and run tools/nodes/generate.
-- The types of the members of a set.
use Rattle.std.proofs.Common.{◌≡◌, false, refl, ap, ◌∙◌}
use Rattle.jsgen_tree.specs.Inside.{is_only_expression}
use Rattle.jsgen_tree.specs.Plain.{node_plain}
use Rattle.jsgen_tree.proofs.Knot.{plain_declaration, plain_binding_pattern, plain_class_element}
use Rattle.jsgen_tree.specs.declared.nodes.Node.{Node}
use Rattle.jsgen_tree.specs.Tree.{Tree, type_of}
use Rattle.jsgen_tree.specs.Rows.{declaration_plain, binding_pattern_plain, class_element_plain}
use Rattle.jsgen_tree.specs.declared.sets.Declaration.{Declaration}
use Rattle.jsgen_tree.specs.declared.sets.BindingPattern.{BindingPattern}
use Rattle.jsgen_tree.specs.declared.sets.ClassElement.{ClassElement}
use Rattle.jsgen_tree.specs.declared.nodes.Node.TheVariants as nodes
use Rattle.jsgen_tree.specs.declared.sets.Declaration.TheVariants as declarations
use Rattle.jsgen_tree.specs.declared.sets.BindingPattern.TheVariants as binding_patterns
use Rattle.jsgen_tree.specs.declared.sets.ClassElement.TheVariants as class_elements

of_declaration : (h : Node → Tree) (n : Declaration Node) → is_only_expression (type_of (declaration_plain h n)) ≡ false
of_declaration h (declarations.VariableDeclaration b) = refl
of_declaration h (declarations.Function b) = refl
of_declaration h (declarations.Class b) = refl

pub declaration_is_none : (n : Declaration Node) → is_only_expression (type_of (node_plain (nodes.Declaration n))) ≡ false
declaration_is_none n = ap (λ t. is_only_expression (type_of t)) (plain_declaration n) ∙ of_declaration node_plain n

of_binding_pattern : (h : Node → Tree) (n : BindingPattern Node) → is_only_expression (type_of (binding_pattern_plain h n)) ≡ false
of_binding_pattern h (binding_patterns.BindingIdentifier b) = refl
of_binding_pattern h (binding_patterns.ObjectPattern b) = refl
of_binding_pattern h (binding_patterns.ArrayPattern b) = refl
of_binding_pattern h (binding_patterns.AssignmentPattern b) = refl

pub binding_pattern_is_none : (n : BindingPattern Node) → is_only_expression (type_of (node_plain (nodes.BindingPattern n))) ≡ false
binding_pattern_is_none n = ap (λ t. is_only_expression (type_of t)) (plain_binding_pattern n) ∙ of_binding_pattern node_plain n

of_class_element : (h : Node → Tree) (n : ClassElement Node) → is_only_expression (type_of (class_element_plain h n)) ≡ false
of_class_element h (class_elements.StaticBlock b) = refl
of_class_element h (class_elements.MethodDefinition b) = refl
of_class_element h (class_elements.PropertyDefinition b) = refl

pub class_element_is_none : (n : ClassElement Node) → is_only_expression (type_of (node_plain (nodes.ClassElement n))) ≡ false
class_element_is_none n = ap (λ t. is_only_expression (type_of t)) (plain_class_element n) ∙ of_class_element node_plain n
