-- Generated from tools/vectors/chosen.json; edit that and run tools/vectors/generate.
-- What texts are read as by ECMA-262: slashes.
use Rattle.std.specs.Prelude.{[], ◌∷◌, false, codes}
use Rattle.jsgen_syntax.specs.declared.operator.BinaryOperator.TheVariants as operators
use Rattle.jsgen_syntax.specs.declared.operator.AssignmentOperator.TheVariants as assignment_operators
use Rattle.jsgen_tree.specs.declared.collections.PropertyKind.TheVariants.{Init}
use Rattle.jsgen_tree.specs.declared.functions.FunctionKind.TheVariants as kinds
use Rattle.jsgen_tree.specs.Atom.{binary_operator, assignment_operator, text}
use Rattle.jsgen_tree.specs.Tree.{absent, given, no_trees, more}
use Rattle.jsgen_tree.specs.Places.{bare}
use Rattle.jsgen_tree.specs.Nodes as tree
use Rattle.jsgen_model.specs.Normal.{nothing_of, named, property_values}
use Rattle.jsgen_model.specs.Grammar.{function_of}
use Rattle.jsgen_reading_vectors.specs.Reading.{IsRead, program_of, statement_of, reference_of, name_of, key_of}

pub record VectorsSlashes : Type 0 where
  -- a regular expression is divided (12.9.5)
  pub division_of_expression : IsRead (codes "x = /b/ / c;") (program_of no_trees (more (statement_of (tree.assignment (bare (assignment_operator assignment_operators.Assign ∷ [])) (reference_of (codes "x")) (tree.binary (bare (binary_operator operators.Division ∷ [])) (tree.reg_exp_literal (bare (text (codes "b") ∷ text [] ∷ []))) (reference_of (codes "c"))))) no_trees))
  -- and divides
  pub division_by_expression : IsRead (codes "a = b / /c/;") (program_of no_trees (more (statement_of (tree.assignment (bare (assignment_operator assignment_operators.Assign ∷ [])) (reference_of (codes "a")) (tree.binary (bare (binary_operator operators.Division ∷ [])) (reference_of (codes "b")) (tree.reg_exp_literal (bare (text (codes "c") ∷ text [] ∷ [])))))) no_trees))
  -- behind a block a slash begins one
  pub expression_behind_block : IsRead (codes "{a: /b/}/c/g;") (program_of no_trees (more (tree.block (nothing_of 0) (more (tree.labeled_statement (nothing_of 0) (tree.label_identifier (named (codes "a"))) (statement_of (tree.reg_exp_literal (bare (text (codes "b") ∷ text [] ∷ []))))) no_trees)) (more (statement_of (tree.reg_exp_literal (bare (text (codes "c") ∷ text (codes "g") ∷ [])))) no_trees)))
  -- behind a declaration too
  pub expression_behind_function : IsRead (codes "function f() {} /a/g;") (program_of no_trees (more (function_of kinds.Declaration false false (given (name_of (codes "f"))) no_trees absent no_trees no_trees) (more (statement_of (tree.reg_exp_literal (bare (text (codes "a") ∷ text (codes "g") ∷ [])))) no_trees)))
  -- an object is divided
  pub object_divided : IsRead (codes "({a: /b/}/c/g);") (program_of no_trees (more (statement_of (tree.parenthesized (nothing_of 0) (tree.binary (bare (binary_operator operators.Division ∷ [])) (tree.binary (bare (binary_operator operators.Division ∷ [])) (tree.object_expression (nothing_of 0) (more (tree.object_property (property_values Init false false false) (key_of (codes "a")) (tree.reg_exp_literal (bare (text (codes "b") ∷ text [] ∷ [])))) no_trees)) (reference_of (codes "c"))) (reference_of (codes "g"))))) no_trees))
  -- a slash in brackets ends nothing
  pub slash_in_brackets : IsRead (codes "a = /[/]/;") (program_of no_trees (more (statement_of (tree.assignment (bare (assignment_operator assignment_operators.Assign ∷ [])) (reference_of (codes "a")) (tree.reg_exp_literal (bare (text (codes "[/]") ∷ text [] ∷ []))))) no_trees))
  -- nor one behind a backslash
  pub slash_escaped : IsRead (codes "a = /\\//;") (program_of no_trees (more (statement_of (tree.assignment (bare (assignment_operator assignment_operators.Assign ∷ [])) (reference_of (codes "a")) (tree.reg_exp_literal (bare (text (codes "\\/") ∷ text [] ∷ []))))) no_trees))
