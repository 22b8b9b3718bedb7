-- Generated from tools/vectors/chosen.json; edit that and run tools/vectors/generate.
-- What texts are read as by ECMA-262: patterns.
use Rattle.std.specs.Prelude.{[], ◌∷◌, true, false, codes}
use Rattle.jsgen_syntax.specs.declared.operator.AssignmentOperator.TheVariants as assignment_operators
use Rattle.jsgen_tree.specs.declared.collections.PropertyKind.TheVariants.{Init}
use Rattle.jsgen_tree.specs.declared.functions.FunctionKind.TheVariants as kinds
use Rattle.jsgen_tree.specs.Atom.{assignment_operator}
use Rattle.jsgen_tree.specs.Tree.{absent, given, no_trees, more}
use Rattle.jsgen_tree.specs.Places.{bare}
use Rattle.jsgen_tree.specs.Nodes as tree
use Rattle.jsgen_model.specs.Normal.{nothing_of, link_values, by_text, property_values}
use Rattle.jsgen_model.specs.Grammar.{function_of, loop_values, computed_values}
use Rattle.jsgen_reading_vectors.specs.Reading.{IsRead, program_of, statement_of, reference_of, name_of, key_of}

pub record VectorsPatterns : Type 0 where
  -- a member of an object is a target (13.15.1)
  pub object_pattern_first : IsRead (codes "({a}.b = c);") (program_of no_trees (more (statement_of (tree.parenthesized (nothing_of 0) (tree.assignment (bare (assignment_operator assignment_operators.Assign ∷ [])) (tree.static_member (link_values false) (tree.object_expression (nothing_of 0) (more (tree.object_property (property_values Init false true false) (key_of (codes "a")) (reference_of (codes "a"))) no_trees)) (key_of (codes "b"))) (reference_of (codes "c"))))) no_trees))
  -- in a pattern too, be there a default (13.15.5)
  pub members_in_pattern : IsRead (codes "({a: {b}.c, d: [e].f = 1} = g);") (program_of no_trees (more (statement_of (tree.parenthesized (nothing_of 0) (tree.assignment (bare (assignment_operator assignment_operators.Assign ∷ [])) (tree.object_target (nothing_of 0) (more (tree.target_property (computed_values false) (key_of (codes "a")) (tree.static_member (link_values false) (tree.object_expression (nothing_of 0) (more (tree.object_property (property_values Init false true false) (key_of (codes "b")) (reference_of (codes "b"))) no_trees)) (key_of (codes "c")))) (more (tree.target_property (computed_values false) (key_of (codes "d")) (tree.target_with_default (nothing_of 0) (tree.static_member (link_values false) (tree.array (nothing_of 0) (more (reference_of (codes "e")) no_trees)) (key_of (codes "f"))) (tree.numeric_literal (by_text (codes "1"))))) no_trees)) absent) (reference_of (codes "g"))))) no_trees))
  -- and before `of` (14.7.5)
  pub object_before_of : IsRead (codes "for ({}.x of y);") (program_of no_trees (more (tree.for_of_statement (loop_values false) (tree.static_member (link_values false) (tree.object_expression (nothing_of 0) no_trees) (key_of (codes "x"))) (reference_of (codes "y")) (tree.empty_statement (nothing_of 0))) no_trees))
  -- patterns stand on both sides of a colon (13.14)
  pub patterns_in_choice : IsRead (codes "a ? [b] = c : {d} = e;") (program_of no_trees (more (statement_of (tree.conditional (nothing_of 0) (reference_of (codes "a")) (tree.assignment (bare (assignment_operator assignment_operators.Assign ∷ [])) (tree.array_target (nothing_of 0) (more (reference_of (codes "b")) no_trees) absent) (reference_of (codes "c"))) (tree.assignment (bare (assignment_operator assignment_operators.Assign ∷ [])) (tree.object_target (nothing_of 0) (more (tree.target_property (computed_values false) (key_of (codes "d")) (reference_of (codes "d"))) no_trees) absent) (reference_of (codes "e"))))) no_trees))
  -- what is assigned to a pattern is a value
  pub pattern_as_value : IsRead (codes "x = {a = 1} = b;") (program_of no_trees (more (statement_of (tree.assignment (bare (assignment_operator assignment_operators.Assign ∷ [])) (reference_of (codes "x")) (tree.assignment (bare (assignment_operator assignment_operators.Assign ∷ [])) (tree.object_target (nothing_of 0) (more (tree.target_property (computed_values false) (key_of (codes "a")) (tree.target_with_default (nothing_of 0) (reference_of (codes "a")) (tree.numeric_literal (by_text (codes "1"))))) no_trees) absent) (reference_of (codes "b"))))) no_trees))
  -- over a line end brackets are a pattern (12.10)
  pub pattern_over_line_end : IsRead (codes "[a]\n= b;") (program_of no_trees (more (statement_of (tree.assignment (bare (assignment_operator assignment_operators.Assign ∷ [])) (tree.array_target (nothing_of 0) (more (reference_of (codes "a")) no_trees) absent) (reference_of (codes "b")))) no_trees))
  -- a target in parentheses is given a function that has a name (13.15.5.4)
  pub named_function_to_target : IsRead (codes "[(a) = function b(){}] = c;") (program_of no_trees (more (statement_of (tree.assignment (bare (assignment_operator assignment_operators.Assign ∷ [])) (tree.array_target (nothing_of 0) (more (tree.target_with_default (nothing_of 0) (reference_of (codes "a")) (function_of kinds.Expression false false (given (name_of (codes "b"))) no_trees absent no_trees no_trees)) no_trees) absent) (reference_of (codes "c")))) no_trees))
