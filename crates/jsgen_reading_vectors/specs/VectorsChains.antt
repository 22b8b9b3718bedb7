-- Generated from tools/vectors/chosen.json; edit that and run tools/vectors/generate.
-- What texts are read as by ECMA-262: chains.
use Rattle.std.specs.Prelude.{[], ◌∷◌, true, false, codes}
use Rattle.jsgen_syntax.specs.declared.operator.UnaryOperator.TheVariants as unary_operators
use Rattle.jsgen_tree.specs.declared.functions.FunctionKind.TheVariants as kinds
use Rattle.jsgen_tree.specs.Atom.{unary_operator}
use Rattle.jsgen_tree.specs.Tree.{absent, given, no_trees, more}
use Rattle.jsgen_tree.specs.Places.{bare}
use Rattle.jsgen_tree.specs.Nodes as tree
use Rattle.jsgen_model.specs.Normal.{nothing_of, link_values}
use Rattle.jsgen_model.specs.Grammar.{function_of, arrow_values}
use Rattle.jsgen_reading_vectors.specs.Reading.{IsRead, program_of, statement_of, reference_of, name_of, key_of}

pub record VectorsChains : Type 0 where
  -- the first arguments behind `new` are its own (13.3.5)
  pub arguments_of_new : IsRead (codes "new a.b.c(d).e;") (program_of no_trees (more (statement_of (tree.static_member (link_values false) (tree.new_expression (nothing_of 1) (tree.static_member (link_values false) (tree.static_member (link_values false) (reference_of (codes "a")) (key_of (codes "b"))) (key_of (codes "c"))) (more (reference_of (codes "d")) no_trees)) (key_of (codes "e")))) no_trees))
  -- the next are those of a `new` before it
  pub two_arguments_of_new : IsRead (codes "new new a()();") (program_of no_trees (more (statement_of (tree.new_expression (nothing_of 1) (tree.new_expression (nothing_of 1) (reference_of (codes "a")) no_trees) no_trees)) no_trees))
  -- or they are left out
  pub new_without_arguments : IsRead (codes "new new a;") (program_of no_trees (more (statement_of (tree.new_expression (nothing_of 1) (tree.new_expression (nothing_of 1) (reference_of (codes "a")) no_trees) no_trees)) no_trees))
  -- they may be on the next line
  pub arguments_on_next_line : IsRead (codes "new a\n(b);") (program_of no_trees (more (statement_of (tree.new_expression (nothing_of 1) (reference_of (codes "a")) (more (reference_of (codes "b")) no_trees))) no_trees))
  -- an optional link goes on from `new` with arguments (13.3)
  pub optional_link_behind_new : IsRead (codes "new a()?.b;") (program_of no_trees (more (statement_of (tree.chain (nothing_of 0) (tree.static_member (link_values true) (tree.new_expression (nothing_of 1) (reference_of (codes "a")) no_trees) (key_of (codes "b"))))) no_trees))
  -- a brace under `new` begins an object
  pub new_of_object : IsRead (codes "new {}.a();") (program_of no_trees (more (statement_of (tree.new_expression (nothing_of 1) (tree.static_member (link_values false) (tree.object_expression (nothing_of 0) no_trees) (key_of (codes "a"))) no_trees)) no_trees))
  -- `new.target` is constructed (13.3.12)
  pub new_of_target : IsRead (codes "function f() { new new.target(); }") (program_of no_trees (more (function_of kinds.Declaration false false (given (name_of (codes "f"))) no_trees absent no_trees (more (statement_of (tree.new_expression (nothing_of 1) (tree.new_target (nothing_of 0)) no_trees)) no_trees)) no_trees))
  -- behind an arrow an object stands in parentheses (15.3)
  pub object_behind_arrow : IsRead (codes "() => ({}).a;") (program_of no_trees (more (statement_of (tree.arrow_function (arrow_values false) (tree.formal_parameters (nothing_of 0) no_trees absent) (tree.static_member (link_values false) (tree.parenthesized (nothing_of 0) (tree.object_expression (nothing_of 0) no_trees)) (key_of (codes "a"))))) no_trees))
  -- where a statement begins a brace begins a block (14.5)
  pub block_before_sign : IsRead (codes "{} + a;") (program_of no_trees (more (tree.block (nothing_of 0) no_trees) (more (statement_of (tree.unary (bare (unary_operator unary_operators.UnaryPlus ∷ [])) (reference_of (codes "a")))) no_trees)))
