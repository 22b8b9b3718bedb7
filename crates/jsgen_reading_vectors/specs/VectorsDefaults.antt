-- Generated from tools/vectors/chosen.json; edit that and run tools/vectors/generate.
-- What texts are read as by ECMA-262: defaults.
use Rattle.std.specs.Prelude.{[], ◌∷◌, true, false, codes}
use Rattle.jsgen_syntax.specs.declared.operator.AssignmentOperator.TheVariants as assignment_operators
use Rattle.jsgen_tree.specs.declared.collections.PropertyKind.TheVariants.{Init}
use Rattle.jsgen_tree.specs.declared.functions.FunctionKind.TheVariants as kinds
use Rattle.jsgen_tree.specs.declared.classes.ClassKind.TheVariants as class_kinds
use Rattle.jsgen_tree.specs.Atom.{units, assignment_operator}
use Rattle.jsgen_tree.specs.Tree.{absent, given, no_trees, more}
use Rattle.jsgen_tree.specs.Places.{bare}
use Rattle.jsgen_tree.specs.Nodes as tree
use Rattle.jsgen_model.specs.Normal.{nothing_of, link_values, call_values, property_values}
use Rattle.jsgen_model.specs.Grammar.{function_of, class_of, computed_values}
use Rattle.jsgen_reading_vectors.specs.Reading.{IsRead, program_of, statement_of, reference_of, name_of, key_of}

pub record VectorsDefaults : Type 0 where
  -- a function that is the default needs no name (16.2.3)
  pub default_async_function : IsRead (codes "export default async function () {}") (program_of no_trees (more (tree.export_default_declaration (nothing_of 0) (function_of kinds.Declaration true false absent no_trees absent no_trees no_trees)) no_trees))
  -- it is a declaration, and isn't called
  pub default_function_and_parentheses : IsRead (codes "export default function () {}\n(a);") (program_of no_trees (more (tree.export_default_declaration (nothing_of 0) (function_of kinds.Declaration false false absent no_trees absent no_trees no_trees)) (more (statement_of (tree.parenthesized (nothing_of 0) (reference_of (codes "a")))) no_trees)))
  -- nor is a member taken of a class there
  pub default_class_and_array : IsRead (codes "export default class {}\n[a];") (program_of no_trees (more (tree.export_default_declaration (nothing_of 0) (class_of class_kinds.Declaration absent absent no_trees)) (more (statement_of (tree.array (nothing_of 0) (more (reference_of (codes "a")) no_trees))) no_trees)))
  -- what is declared needs no semicolon
  pub default_generator : IsRead (codes "export default async function* g() {} a;") (program_of no_trees (more (tree.export_default_declaration (nothing_of 0) (function_of kinds.Declaration true true (given (name_of (codes "g"))) no_trees absent no_trees no_trees)) (more (statement_of (reference_of (codes "a"))) no_trees)))
  -- in parentheses a function is called
  pub default_call : IsRead (codes "export default (function () {})();") (program_of no_trees (more (tree.export_default_declaration (nothing_of 0) (tree.call (call_values false) (tree.parenthesized (nothing_of 0) (function_of kinds.Expression false false absent no_trees absent no_trees no_trees)) no_trees)) no_trees))
  -- `async` by itself is a reference
  pub default_async : IsRead (codes "export default async;") (program_of no_trees (more (tree.export_default_declaration (nothing_of 0) (reference_of (codes "async"))) no_trees))
  -- a brace begins an object, and no block
  pub default_method_called : IsRead (codes "export default {a, b() {}}.b();") (program_of no_trees (more (tree.export_default_declaration (nothing_of 0) (tree.call (call_values false) (tree.static_member (link_values false) (tree.object_expression (nothing_of 0) (more (tree.object_property (property_values Init false true false) (key_of (codes "a")) (reference_of (codes "a"))) (more (tree.object_property (property_values Init true false false) (key_of (codes "b")) (function_of kinds.Expression false false absent no_trees absent no_trees no_trees)) no_trees))) (key_of (codes "b"))) no_trees)) no_trees))
  -- or a pattern that is given a value (13.15.5)
  pub default_pattern : IsRead (codes "export default {a} = b;") (program_of no_trees (more (tree.export_default_declaration (nothing_of 0) (tree.assignment (bare (assignment_operator assignment_operators.Assign ∷ [])) (tree.object_target (nothing_of 0) (more (tree.target_property (computed_values false) (key_of (codes "a")) (reference_of (codes "a"))) no_trees) absent) (reference_of (codes "b")))) no_trees))
  -- a string is the default, and no directive
  pub default_string : IsRead (codes "export default \"use strict\";") (program_of no_trees (more (tree.export_default_declaration (nothing_of 0) (tree.string_literal (bare (units (codes "use strict") ∷ [])))) no_trees))
  -- what begins with `import` is an expression there
  pub default_import : IsRead (codes "export default import(a);") (program_of no_trees (more (tree.export_default_declaration (nothing_of 0) (tree.import_call (nothing_of 0) (reference_of (codes "a")) absent)) no_trees))
