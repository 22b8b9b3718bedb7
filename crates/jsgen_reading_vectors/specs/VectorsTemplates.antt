-- Generated from tools/vectors/chosen.json; edit that and run tools/vectors/generate.
-- What texts are read as by ECMA-262: templates.
use Rattle.std.specs.Prelude.{[], ◌∷◌, true, false, codes}
use Rattle.jsgen_syntax.specs.declared.operator.BinaryOperator.TheVariants as operators
use Rattle.jsgen_syntax.specs.declared.operator.AssignmentOperator.TheVariants as assignment_operators
use Rattle.jsgen_tree.specs.declared.collections.PropertyKind.TheVariants.{Init}
use Rattle.jsgen_tree.specs.declared.functions.FunctionKind.TheVariants as kinds
use Rattle.jsgen_tree.specs.Atom.{flag, binary_operator, assignment_operator}
use Rattle.jsgen_tree.specs.Tree.{absent, given, no_trees, more}
use Rattle.jsgen_tree.specs.Places.{bare}
use Rattle.jsgen_tree.specs.Nodes as tree
use Rattle.jsgen_model.specs.Normal.{nothing_of, link_values, property_values}
use Rattle.jsgen_model.specs.Grammar.{function_of, raw_piece, cooked_piece}
use Rattle.jsgen_reading_vectors.specs.Reading.{IsRead, program_of, statement_of, reference_of, name_of, key_of}

pub record VectorsTemplates : Type 0 where
  -- values stand between the pieces of a template (13.2.8)
  pub values_between_pieces : IsRead (codes "`a${b}c${d}e`;") (program_of no_trees (more (statement_of (tree.template_literal (nothing_of 0) (more (cooked_piece (codes "a")) (more (cooked_piece (codes "c")) (more (cooked_piece (codes "e")) no_trees))) (more (reference_of (codes "b")) (more (reference_of (codes "d")) no_trees)))) no_trees))
  -- a template within another
  pub template_in_template : IsRead (codes "`${`${a}`}`;") (program_of no_trees (more (statement_of (tree.template_literal (nothing_of 0) (more (cooked_piece []) (more (cooked_piece []) no_trees)) (more (tree.template_literal (nothing_of 0) (more (cooked_piece []) (more (cooked_piece []) no_trees)) (more (reference_of (codes "a")) no_trees)) no_trees))) no_trees))
  -- in its braces `in` is an operator, also in the head of a loop
  pub relation_in_template : IsRead (codes "for (`${a in b}`;;);") (program_of no_trees (more (tree.for_statement (nothing_of 0) (given (tree.template_literal (nothing_of 0) (more (cooked_piece []) (more (cooked_piece []) no_trees)) (more (tree.binary (bare (binary_operator operators.In ∷ [])) (reference_of (codes "a")) (reference_of (codes "b"))) no_trees))) absent absent (tree.empty_statement (nothing_of 0))) no_trees))
  -- signs by themselves in its pieces
  pub signs_in_pieces : IsRead (codes "`}$${a}$}\\${`;") (program_of no_trees (more (statement_of (tree.template_literal (nothing_of 0) (more (cooked_piece (codes "}$")) (more (cooked_piece (codes "$}${")) no_trees)) (more (reference_of (codes "a")) no_trees))) no_trees))
  -- objects in its braces
  pub object_in_template : IsRead (codes "`a${{b: `c${{}}`}}d`;") (program_of no_trees (more (statement_of (tree.template_literal (nothing_of 0) (more (cooked_piece (codes "a")) (more (cooked_piece (codes "d")) no_trees)) (more (tree.object_expression (nothing_of 0) (more (tree.object_property (property_values Init false false false) (key_of (codes "b")) (tree.template_literal (nothing_of 0) (more (cooked_piece (codes "c")) (more (cooked_piece []) no_trees)) (more (tree.object_expression (nothing_of 0) no_trees) no_trees))) no_trees)) no_trees))) no_trees))
  -- behind a tag what stands behind a backslash may be no escape (13.2.8.1)
  pub no_escape_behind_tag : IsRead (codes "a`\\u`;") (program_of no_trees (more (statement_of (tree.tagged_template (nothing_of 0) (reference_of (codes "a")) (tree.template_literal (nothing_of 0) (more (raw_piece (codes "\\u")) no_trees) no_trees))) no_trees))
  -- a chain is a tag in parentheses (13.3.1.1)
  pub tag_in_parentheses : IsRead (codes "(a?.b)`c`;") (program_of no_trees (more (statement_of (tree.tagged_template (nothing_of 0) (tree.parenthesized (nothing_of 0) (tree.chain (nothing_of 0) (tree.static_member (link_values true) (reference_of (codes "a")) (key_of (codes "b"))))) (tree.template_literal (nothing_of 0) (more (raw_piece (codes "c")) no_trees) no_trees))) no_trees))
  -- behind a line end a template has a tag too
  pub tag_over_line_end : IsRead (codes "a\n`b`;") (program_of no_trees (more (statement_of (tree.tagged_template (nothing_of 0) (reference_of (codes "a")) (tree.template_literal (nothing_of 0) (more (raw_piece (codes "b")) no_trees) no_trees))) no_trees))
  -- under `new` a template has a tag (13.3.5)
  pub tag_under_new : IsRead (codes "new a`b`(c);") (program_of no_trees (more (statement_of (tree.new_expression (nothing_of 1) (tree.tagged_template (nothing_of 0) (reference_of (codes "a")) (tree.template_literal (nothing_of 0) (more (raw_piece (codes "b")) no_trees) no_trees)) (more (reference_of (codes "c")) no_trees))) no_trees))
  -- and behind arguments
  pub tag_of_instance : IsRead (codes "new a()`b`;") (program_of no_trees (more (statement_of (tree.tagged_template (nothing_of 0) (tree.new_expression (nothing_of 1) (reference_of (codes "a")) no_trees) (tree.template_literal (nothing_of 0) (more (raw_piece (codes "b")) no_trees) no_trees))) no_trees))
  -- a member of what a tag gives is a target
  pub member_of_tagged : IsRead (codes "a`b`.c = d;") (program_of no_trees (more (statement_of (tree.assignment (bare (assignment_operator assignment_operators.Assign ∷ [])) (tree.static_member (link_values false) (tree.tagged_template (nothing_of 0) (reference_of (codes "a")) (tree.template_literal (nothing_of 0) (more (raw_piece (codes "b")) no_trees) no_trees)) (key_of (codes "c"))) (reference_of (codes "d")))) no_trees))
  -- `yield` is no tag (15.5)
  pub yield_of_template : IsRead (codes "function* g() { yield`a${yield}b`; }") (program_of no_trees (more (function_of kinds.Declaration false true (given (name_of (codes "g"))) no_trees absent no_trees (more (statement_of (tree.yield_expression (bare (flag false ∷ [])) (given (tree.template_literal (nothing_of 0) (more (cooked_piece (codes "a")) (more (cooked_piece (codes "b")) no_trees)) (more (tree.yield_expression (bare (flag false ∷ [])) absent) no_trees))))) no_trees)) no_trees))
