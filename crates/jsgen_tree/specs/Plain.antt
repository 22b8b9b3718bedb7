-- Generated from tools/nodes/table.txt; edit that and run tools/nodes/generate.
-- The plain data of the recursive type.
use Rattle.jsgen_tree.specs.Tree.{Tree}
use Rattle.jsgen_tree.specs.Rows.{program_row, expression_plain, assignment_target_plain, declaration_plain, statement_plain, binding_pattern_plain, class_element_plain}
use Rattle.jsgen_tree.specs.declared.statements.Program.{Program}
use Rattle.jsgen_tree.specs.declared.nodes.Node.{Node, Node-F, fold-Node}
use Rattle.jsgen_tree.specs.declared.nodes.Node.TheOpen as layers

-- one layer, whose children are plain data already
abbrev pub layer : Node-F Tree → Tree
layer (layers.Expression b) = expression_plain (λ t. t) b
layer (layers.AssignmentTarget b) = assignment_target_plain (λ t. t) b
layer (layers.Declaration b) = declaration_plain (λ t. t) b
layer (layers.Statement b) = statement_plain (λ t. t) b
layer (layers.BindingPattern b) = binding_pattern_plain (λ t. t) b
layer (layers.ClassElement b) = class_element_plain (λ t. t) b

unfoldable pub node_plain : Node → Tree
node_plain = fold-Node Tree layer

-- the plain data of a program
abbrev pub program_plain : Program Node → Tree
program_plain p = program_row node_plain p
