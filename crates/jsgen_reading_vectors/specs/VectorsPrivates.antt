-- Generated from tools/vectors/chosen.json; edit that and run tools/vectors/generate.
-- What texts are read as by ECMA-262: privates.
use Rattle.std.specs.Prelude.{[], ◌∷◌, true, false, codes}
use Rattle.jsgen_syntax.specs.declared.operator.BinaryOperator.TheVariants as operators
use Rattle.jsgen_syntax.specs.declared.operator.LogicalOperator.TheVariants.{And}
use Rattle.jsgen_syntax.specs.declared.operator.UpdateOperator.TheVariants as update_operators
use Rattle.jsgen_syntax.specs.declared.operator.AssignmentOperator.TheVariants as assignment_operators
use Rattle.jsgen_tree.specs.declared.collections.PropertyKind.TheVariants.{Init, Get, Set}
use Rattle.jsgen_tree.specs.declared.functions.FunctionKind.TheVariants as kinds
use Rattle.jsgen_tree.specs.declared.classes.ClassKind.TheVariants as class_kinds
use Rattle.jsgen_tree.specs.Atom.{flag, binary_operator, logical_operator, update_operator, assignment_operator}
use Rattle.jsgen_tree.specs.Tree.{absent, given, no_trees, more}
use Rattle.jsgen_tree.specs.Places.{bare}
use Rattle.jsgen_tree.specs.Nodes as tree
use Rattle.jsgen_model.specs.Normal.{nothing_of, link_values}
use Rattle.jsgen_model.specs.Grammar.{function_of, class_of, member_values, field_values, computed_values, private_name}
use Rattle.jsgen_reading_vectors.specs.Reading.{IsRead, program_of, statement_of, reference_of, name_of, key_of}

pub record VectorsPrivates : Type 0 where
  -- a method with all words may have a private name (15.7)
  pub private_generator : IsRead (codes "class A { static async *#x(){} }") (program_of no_trees (more (class_of class_kinds.Declaration (given (name_of (codes "A"))) absent (more (tree.method_definition (member_values Init true false) (private_name (codes "x")) (function_of kinds.Expression true true absent no_trees absent no_trees no_trees)) no_trees)) no_trees))
  -- so may accessors (15.4)
  pub private_accessors : IsRead (codes "class A { get #x() {} set #x(a) {} }") (program_of no_trees (more (class_of class_kinds.Declaration (given (name_of (codes "A"))) absent (more (tree.method_definition (member_values Get false false) (private_name (codes "x")) (function_of kinds.Expression false false absent no_trees absent no_trees no_trees)) (more (tree.method_definition (member_values Set false false) (private_name (codes "x")) (function_of kinds.Expression false false absent (more (tree.formal_parameter (nothing_of 3) (name_of (codes "a")) absent) no_trees) absent no_trees no_trees)) no_trees))) no_trees))
  -- any word may be a private name (12.7)
  pub reserved_private_names : IsRead (codes "class A { #await; #yield; #static; #let; #if }") (program_of no_trees (more (class_of class_kinds.Declaration (given (name_of (codes "A"))) absent (more (tree.property_definition (field_values false false) (private_name (codes "await")) absent) (more (tree.property_definition (field_values false false) (private_name (codes "yield")) absent) (more (tree.property_definition (field_values false false) (private_name (codes "static")) absent) (more (tree.property_definition (field_values false false) (private_name (codes "let")) absent) (more (tree.property_definition (field_values false false) (private_name (codes "if")) absent) no_trees)))))) no_trees))
  -- members by private names, also in chains (13.3.2)
  pub private_members : IsRead (codes "class A { #x; m(a) { a.#x; a?.#x; a.b?.c.#x; a.#x = b; a.#x++; } }") (program_of no_trees (more (class_of class_kinds.Declaration (given (name_of (codes "A"))) absent (more (tree.property_definition (field_values false false) (private_name (codes "x")) absent) (more (tree.method_definition (member_values Init false false) (key_of (codes "m")) (function_of kinds.Expression false false absent (more (tree.formal_parameter (nothing_of 3) (name_of (codes "a")) absent) no_trees) absent no_trees (more (statement_of (tree.private_member (link_values false) (reference_of (codes "a")) (private_name (codes "x")))) (more (statement_of (tree.chain (nothing_of 0) (tree.private_member (link_values true) (reference_of (codes "a")) (private_name (codes "x"))))) (more (statement_of (tree.chain (nothing_of 0) (tree.private_member (link_values false) (tree.static_member (link_values true) (tree.static_member (link_values false) (reference_of (codes "a")) (key_of (codes "b"))) (key_of (codes "c"))) (private_name (codes "x"))))) (more (statement_of (tree.assignment (bare (assignment_operator assignment_operators.Assign ∷ [])) (tree.private_member (link_values false) (reference_of (codes "a")) (private_name (codes "x"))) (reference_of (codes "b")))) (more (statement_of (tree.update (bare (update_operator update_operators.Increment ∷ flag false ∷ [])) (tree.private_member (link_values false) (reference_of (codes "a")) (private_name (codes "x"))))) no_trees))))))) no_trees))) no_trees))
  -- a member by one is a target (13.15.5)
  pub private_targets : IsRead (codes "class A { #x; m() { [this.#x, {a: this.#x = b}, ...this.#x] = c; } }") (program_of no_trees (more (class_of class_kinds.Declaration (given (name_of (codes "A"))) absent (more (tree.property_definition (field_values false false) (private_name (codes "x")) absent) (more (tree.method_definition (member_values Init false false) (key_of (codes "m")) (function_of kinds.Expression false false absent no_trees absent no_trees (more (statement_of (tree.assignment (bare (assignment_operator assignment_operators.Assign ∷ [])) (tree.array_target (nothing_of 0) (more (tree.private_member (link_values false) (tree.this_expression (nothing_of 0)) (private_name (codes "x"))) (more (tree.object_target (nothing_of 0) (more (tree.target_property (computed_values false) (key_of (codes "a")) (tree.target_with_default (nothing_of 0) (tree.private_member (link_values false) (tree.this_expression (nothing_of 0)) (private_name (codes "x"))) (reference_of (codes "b")))) no_trees) absent) no_trees)) (given (tree.target_rest (nothing_of 0) (tree.private_member (link_values false) (tree.this_expression (nothing_of 0)) (private_name (codes "x")))))) (reference_of (codes "c")))) no_trees))) no_trees))) no_trees))
  -- and stands under `new` (13.3.5)
  pub private_callees : IsRead (codes "class A { #x; m() { new this.#x; new this.#x.y(); } }") (program_of no_trees (more (class_of class_kinds.Declaration (given (name_of (codes "A"))) absent (more (tree.property_definition (field_values false false) (private_name (codes "x")) absent) (more (tree.method_definition (member_values Init false false) (key_of (codes "m")) (function_of kinds.Expression false false absent no_trees absent no_trees (more (statement_of (tree.new_expression (nothing_of 1) (tree.private_member (link_values false) (tree.this_expression (nothing_of 0)) (private_name (codes "x"))) no_trees)) (more (statement_of (tree.new_expression (nothing_of 1) (tree.static_member (link_values false) (tree.private_member (link_values false) (tree.this_expression (nothing_of 0)) (private_name (codes "x"))) (key_of (codes "y"))) no_trees)) no_trees)))) no_trees))) no_trees))
  -- behind the `in` of a test stands what is tighter (13.10)
  pub private_test_of_sum : IsRead (codes "class A { #x; m() { #x in a + b } }") (program_of no_trees (more (class_of class_kinds.Declaration (given (name_of (codes "A"))) absent (more (tree.property_definition (field_values false false) (private_name (codes "x")) absent) (more (tree.method_definition (member_values Init false false) (key_of (codes "m")) (function_of kinds.Expression false false absent no_trees absent no_trees (more (statement_of (tree.private_in (nothing_of 0) (private_name (codes "x")) (tree.binary (bare (binary_operator operators.Addition ∷ [])) (reference_of (codes "a")) (reference_of (codes "b"))))) no_trees))) no_trees))) no_trees))
  -- and looser operators behind it
  pub private_tests_in_choice : IsRead (codes "class A { #x; m() { #x in this && #x in a ? b : c } }") (program_of no_trees (more (class_of class_kinds.Declaration (given (name_of (codes "A"))) absent (more (tree.property_definition (field_values false false) (private_name (codes "x")) absent) (more (tree.method_definition (member_values Init false false) (key_of (codes "m")) (function_of kinds.Expression false false absent no_trees absent no_trees (more (statement_of (tree.conditional (nothing_of 0) (tree.logical (bare (logical_operator And ∷ [])) (tree.private_in (nothing_of 0) (private_name (codes "x")) (tree.this_expression (nothing_of 0))) (tree.private_in (nothing_of 0) (private_name (codes "x")) (reference_of (codes "a")))) (reference_of (codes "b")) (reference_of (codes "c")))) no_trees))) no_trees))) no_trees))
  -- a test is an operand of `in`
  pub private_test_as_operand : IsRead (codes "class A { #x; m() { #x in this in this } }") (program_of no_trees (more (class_of class_kinds.Declaration (given (name_of (codes "A"))) absent (more (tree.property_definition (field_values false false) (private_name (codes "x")) absent) (more (tree.method_definition (member_values Init false false) (key_of (codes "m")) (function_of kinds.Expression false false absent no_trees absent no_trees (more (statement_of (tree.binary (bare (binary_operator operators.In ∷ [])) (tree.private_in (nothing_of 0) (private_name (codes "x")) (tree.this_expression (nothing_of 0))) (tree.this_expression (nothing_of 0)))) no_trees))) no_trees))) no_trees))
  -- in the head of a loop it stands in parentheses (14.7.4)
  pub private_test_in_head : IsRead (codes "class A { #x; m() { for ((#x in a);;); } }") (program_of no_trees (more (class_of class_kinds.Declaration (given (name_of (codes "A"))) absent (more (tree.property_definition (field_values false false) (private_name (codes "x")) absent) (more (tree.method_definition (member_values Init false false) (key_of (codes "m")) (function_of kinds.Expression false false absent no_trees absent no_trees (more (tree.for_statement (nothing_of 0) (given (tree.parenthesized (nothing_of 0) (tree.private_in (nothing_of 0) (private_name (codes "x")) (reference_of (codes "a"))))) absent absent (tree.empty_statement (nothing_of 0))) no_trees))) no_trees))) no_trees))
