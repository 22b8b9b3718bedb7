-- Generated from tools/vectors/chosen.json; edit that and run tools/vectors/generate.
-- What texts are read as by ECMA-262: imports.
use Rattle.std.specs.Prelude.{[], ◌∷◌, true, false, codes}
use Rattle.jsgen_syntax.specs.declared.operator.BinaryOperator.TheVariants as operators
use Rattle.jsgen_syntax.specs.declared.operator.AssignmentOperator.TheVariants as assignment_operators
use Rattle.jsgen_tree.specs.Atom.{binary_operator, assignment_operator}
use Rattle.jsgen_tree.specs.Tree.{absent, given, no_trees, more}
use Rattle.jsgen_tree.specs.Places.{bare}
use Rattle.jsgen_tree.specs.Nodes as tree
use Rattle.jsgen_model.specs.Normal.{nothing_of, link_values}
use Rattle.jsgen_reading_vectors.specs.Reading.{IsRead, program_of, statement_of, reference_of, key_of}

pub record VectorsImports : Type 0 where
  -- `import(` begins a statement that is an expression (13.3.10)
  pub import_first : IsRead (codes "import(a);") (program_of no_trees (more (statement_of (tree.import_call (nothing_of 0) (reference_of (codes "a")) absent)) no_trees))
  -- options follow what is imported, and a comma may end them
  pub import_with_options : IsRead (codes "import(a, b,);") (program_of no_trees (more (statement_of (tree.import_call (nothing_of 0) (reference_of (codes "a")) (given (reference_of (codes "b"))))) no_trees))
  -- round the parentheses lines may end
  pub import_on_three_lines : IsRead (codes "import\n(a)\n.b;") (program_of no_trees (more (statement_of (tree.static_member (link_values false) (tree.import_call (nothing_of 0) (reference_of (codes "a")) absent) (key_of (codes "b")))) no_trees))
  -- an optional link goes on from an import
  pub optional_link_behind_import : IsRead (codes "import(a)?.b;") (program_of no_trees (more (statement_of (tree.chain (nothing_of 0) (tree.static_member (link_values true) (tree.import_call (nothing_of 0) (reference_of (codes "a")) absent) (key_of (codes "b"))))) no_trees))
  -- within the parentheses `in` is an operator, be it in the head of a loop (14.7.4)
  pub import_in_head : IsRead (codes "for (import(a in b);;);") (program_of no_trees (more (tree.for_statement (nothing_of 0) (given (tree.import_call (nothing_of 0) (tree.binary (bare (binary_operator operators.In ∷ [])) (reference_of (codes "a")) (reference_of (codes "b"))) absent)) absent absent (tree.empty_statement (nothing_of 0))) no_trees))
  -- `import.meta` begins a statement that is an expression (13.3.12)
  pub meta : IsRead (codes "import.meta;") (program_of no_trees (more (statement_of (tree.import_meta (nothing_of 0))) no_trees))
  -- an optional link goes on from it
  pub optional_link_behind_meta : IsRead (codes "import.meta?.a;") (program_of no_trees (more (statement_of (tree.chain (nothing_of 0) (tree.static_member (link_values true) (tree.import_meta (nothing_of 0)) (key_of (codes "a"))))) no_trees))
  -- a member of it is a target
  pub member_of_meta_as_target : IsRead (codes "[import.meta.a] = b;") (program_of no_trees (more (statement_of (tree.assignment (bare (assignment_operator assignment_operators.Assign ∷ [])) (tree.array_target (nothing_of 0) (more (tree.static_member (link_values false) (tree.import_meta (nothing_of 0)) (key_of (codes "a"))) no_trees) absent) (reference_of (codes "b")))) no_trees))
  -- `new` constructs a member of it
  pub new_of_member_of_meta : IsRead (codes "new import.meta.a;") (program_of no_trees (more (statement_of (tree.new_expression (nothing_of 1) (tree.static_member (link_values false) (tree.import_meta (nothing_of 0)) (key_of (codes "a"))) no_trees)) no_trees))
