-- Generated from tools/vectors/chosen.json; edit that and run tools/vectors/generate.
-- What texts are read as by ECMA-262: names.
use Rattle.std.specs.Prelude.{false, codes}
use Rattle.jsgen_tree.specs.declared.statements.VariableDeclarationKind.TheVariants.{Let, Var}
use Rattle.jsgen_tree.specs.Tree.{absent, given, no_trees, more}
use Rattle.jsgen_tree.specs.Nodes as tree
use Rattle.jsgen_model.specs.Normal.{nothing_of, named, link_values, call_values, by_text, declared_as}
use Rattle.jsgen_model.specs.Grammar.{loop_values}
use Rattle.jsgen_reading_vectors.specs.Reading.{IsRead, program_of, statement_of, reference_of, name_of, key_of}

pub record VectorsNames : Type 0 where
  -- words that aren't reserved are bound (12.7.2)
  pub bound_words : IsRead (codes "let async = 1, of = 2, get, set, from, as;") (program_of no_trees (more (tree.variable_declaration (declared_as Let) (more (tree.variable_declarator (nothing_of 1) (name_of (codes "async")) (given (tree.numeric_literal (by_text (codes "1"))))) (more (tree.variable_declarator (nothing_of 1) (name_of (codes "of")) (given (tree.numeric_literal (by_text (codes "2"))))) (more (tree.variable_declarator (nothing_of 1) (name_of (codes "get")) absent) (more (tree.variable_declarator (nothing_of 1) (name_of (codes "set")) absent) (more (tree.variable_declarator (nothing_of 1) (name_of (codes "from")) absent) (more (tree.variable_declarator (nothing_of 1) (name_of (codes "as")) absent) no_trees))))))) no_trees))
  -- behind `let` a line may end (14.3.1)
  pub bound_on_next_line : IsRead (codes "let\nasync;") (program_of no_trees (more (tree.variable_declaration (declared_as Let) (more (tree.variable_declarator (nothing_of 1) (name_of (codes "async")) absent) no_trees)) no_trees))
  -- such words are labels (14.13)
  pub labels : IsRead (codes "of: async: a;") (program_of no_trees (more (tree.labeled_statement (nothing_of 0) (tree.label_identifier (named (codes "of"))) (tree.labeled_statement (nothing_of 0) (tree.label_identifier (named (codes "async"))) (statement_of (reference_of (codes "a"))))) no_trees))
  -- `async` is called over a line end, where no arrow follows (15.9)
  pub call_over_line_end : IsRead (codes "async\n(a);") (program_of no_trees (more (statement_of (tree.call (call_values false) (reference_of (codes "async")) (more (reference_of (codes "a")) no_trees))) no_trees))
  -- `of` stands before `of` and behind it (14.7.5)
  pub of_over_of : IsRead (codes "for (of of of);") (program_of no_trees (more (tree.for_of_statement (loop_values false) (reference_of (codes "of")) (reference_of (codes "of")) (tree.empty_statement (nothing_of 0))) no_trees))
  -- and in the head of a loop with conditions (14.7.4)
  pub of_in_head : IsRead (codes "for (of;;);") (program_of no_trees (more (tree.for_statement (nothing_of 0) (given (reference_of (codes "of"))) absent absent (tree.empty_statement (nothing_of 0))) no_trees))
  -- it is declared before `of` (14.7.5)
  pub of_bound_over : IsRead (codes "for (var of of a);") (program_of no_trees (more (tree.for_of_statement (loop_values false) (tree.variable_declaration (declared_as Var) (more (tree.variable_declarator (nothing_of 1) (name_of (codes "of")) absent) no_trees)) (reference_of (codes "a")) (tree.empty_statement (nothing_of 0))) no_trees))
  -- a member of `async` is a target before `of` (14.7.5)
  pub member_of_async_before_of : IsRead (codes "for (async.a of b);") (program_of no_trees (more (tree.for_of_statement (loop_values false) (tree.static_member (link_values false) (reference_of (codes "async")) (key_of (codes "a"))) (reference_of (codes "b")) (tree.empty_statement (nothing_of 0))) no_trees))
  -- as is `async` in parentheses
  pub async_in_parentheses_before_of : IsRead (codes "for ((async) of x);") (program_of no_trees (more (tree.for_of_statement (loop_values false) (reference_of (codes "async")) (reference_of (codes "x")) (tree.empty_statement (nothing_of 0))) no_trees))
  -- before `in` it needs none
  pub async_before_in : IsRead (codes "for (async in a);") (program_of no_trees (more (tree.for_in_statement (nothing_of 0) (reference_of (codes "async")) (reference_of (codes "a")) (tree.empty_statement (nothing_of 0))) no_trees))
