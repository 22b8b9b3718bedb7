-- Generated from tools/vectors/chosen.json; edit that and run tools/vectors/generate.
-- What texts are read as by ECMA-262: methods.
use Rattle.std.specs.Prelude.{[], ◌∷◌, true, false, codes}
use Rattle.jsgen_syntax.specs.declared.operator.AssignmentOperator.TheVariants as assignment_operators
use Rattle.jsgen_tree.specs.declared.collections.PropertyKind.TheVariants.{Init, Get, Set}
use Rattle.jsgen_tree.specs.declared.functions.FunctionKind.TheVariants as kinds
use Rattle.jsgen_tree.specs.Atom.{units, assignment_operator}
use Rattle.jsgen_tree.specs.Tree.{absent, no_trees, more}
use Rattle.jsgen_tree.specs.Places.{bare}
use Rattle.jsgen_tree.specs.Nodes as tree
use Rattle.jsgen_model.specs.Normal.{nothing_of, named, by_text, property_values}
use Rattle.jsgen_model.specs.Grammar.{function_of, computed_values}
use Rattle.jsgen_reading_vectors.specs.Reading.{IsRead, program_of, statement_of, reference_of, name_of, key_of}

pub record VectorsMethods : Type 0 where
  -- methods are `async`, generators, or both (15.4 to 15.6 and 15.8)
  pub methods_with_words : IsRead (codes "({async a() {}, *b() {}, async *c() {}});") (program_of no_trees (more (statement_of (tree.parenthesized (nothing_of 0) (tree.object_expression (nothing_of 0) (more (tree.object_property (property_values Init true false false) (key_of (codes "a")) (function_of kinds.Expression true false absent no_trees absent no_trees no_trees)) (more (tree.object_property (property_values Init true false false) (key_of (codes "b")) (function_of kinds.Expression false true absent no_trees absent no_trees no_trees)) (more (tree.object_property (property_values Init true false false) (key_of (codes "c")) (function_of kinds.Expression true true absent no_trees absent no_trees no_trees)) no_trees)))))) no_trees))
  -- before parentheses any word is a method's name
  pub methods_named_by_words : IsRead (codes "({async() {}, get() {}, set() {}, static() {}, await() {}, yield() {}, let() {}});") (program_of no_trees (more (statement_of (tree.parenthesized (nothing_of 0) (tree.object_expression (nothing_of 0) (more (tree.object_property (property_values Init true false false) (key_of (codes "async")) (function_of kinds.Expression false false absent no_trees absent no_trees no_trees)) (more (tree.object_property (property_values Init true false false) (key_of (codes "get")) (function_of kinds.Expression false false absent no_trees absent no_trees no_trees)) (more (tree.object_property (property_values Init true false false) (key_of (codes "set")) (function_of kinds.Expression false false absent no_trees absent no_trees no_trees)) (more (tree.object_property (property_values Init true false false) (key_of (codes "static")) (function_of kinds.Expression false false absent no_trees absent no_trees no_trees)) (more (tree.object_property (property_values Init true false false) (key_of (codes "await")) (function_of kinds.Expression false false absent no_trees absent no_trees no_trees)) (more (tree.object_property (property_values Init true false false) (key_of (codes "yield")) (function_of kinds.Expression false false absent no_trees absent no_trees no_trees)) (more (tree.object_property (property_values Init true false false) (key_of (codes "let")) (function_of kinds.Expression false false absent no_trees absent no_trees no_trees)) no_trees)))))))))) no_trees))
  -- a word by itself is a key and a reference, where it is a free name (13.2.5)
  pub words_as_shorthands : IsRead (codes "({async, get, set, of, a: async});") (program_of no_trees (more (statement_of (tree.parenthesized (nothing_of 0) (tree.object_expression (nothing_of 0) (more (tree.object_property (property_values Init false true false) (key_of (codes "async")) (reference_of (codes "async"))) (more (tree.object_property (property_values Init false true false) (key_of (codes "get")) (reference_of (codes "get"))) (more (tree.object_property (property_values Init false true false) (key_of (codes "set")) (reference_of (codes "set"))) (more (tree.object_property (property_values Init false true false) (key_of (codes "of")) (reference_of (codes "of"))) (more (tree.object_property (property_values Init false false false) (key_of (codes "a")) (reference_of (codes "async"))) no_trees)))))))) no_trees))
  -- in a pattern it is a key and a target (13.15.5)
  pub words_as_targets : IsRead (codes "({async = 1, get: set = 2} = a);") (program_of no_trees (more (statement_of (tree.parenthesized (nothing_of 0) (tree.assignment (bare (assignment_operator assignment_operators.Assign ∷ [])) (tree.object_target (nothing_of 0) (more (tree.target_property (computed_values false) (key_of (codes "async")) (tree.target_with_default (nothing_of 0) (reference_of (codes "async")) (tree.numeric_literal (by_text (codes "1"))))) (more (tree.target_property (computed_values false) (key_of (codes "get")) (tree.target_with_default (nothing_of 0) (reference_of (codes "set")) (tree.numeric_literal (by_text (codes "2"))))) no_trees)) absent) (reference_of (codes "a"))))) no_trees))
  -- before parentheses on the next line `async` is the method's name
  pub async_as_key : IsRead (codes "({async\n() {}});") (program_of no_trees (more (statement_of (tree.parenthesized (nothing_of 0) (tree.object_expression (nothing_of 0) (more (tree.object_property (property_values Init true false false) (key_of (codes "async")) (function_of kinds.Expression false false absent no_trees absent no_trees no_trees)) no_trees)))) no_trees))
  -- a line end behind `get` or `set` ends nothing (15.4)
  pub accessors_on_two_lines : IsRead (codes "({get\na() {}, set\nb(c) {}});") (program_of no_trees (more (statement_of (tree.parenthesized (nothing_of 0) (tree.object_expression (nothing_of 0) (more (tree.object_property (property_values Get false false false) (key_of (codes "a")) (function_of kinds.Expression false false absent no_trees absent no_trees no_trees)) (more (tree.object_property (property_values Set false false false) (key_of (codes "b")) (function_of kinds.Expression false false absent (more (tree.formal_parameter (nothing_of 3) (name_of (codes "c")) absent) no_trees) absent no_trees no_trees)) no_trees))))) no_trees))
  -- methods have keys of each kind (13.2.5)
  pub keys_of_methods : IsRead (codes "({async 1() {}, async 'a'() {}, async [b]() {}, *[c]() {}, *1n() {}});") (program_of no_trees (more (statement_of (tree.parenthesized (nothing_of 0) (tree.object_expression (nothing_of 0) (more (tree.object_property (property_values Init true false false) (tree.numeric_literal (by_text (codes "1"))) (function_of kinds.Expression true false absent no_trees absent no_trees no_trees)) (more (tree.object_property (property_values Init true false false) (tree.string_literal (bare (units (codes "a") ∷ []))) (function_of kinds.Expression true false absent no_trees absent no_trees no_trees)) (more (tree.object_property (property_values Init true false true) (reference_of (codes "b")) (function_of kinds.Expression true false absent no_trees absent no_trees no_trees)) (more (tree.object_property (property_values Init true false true) (reference_of (codes "c")) (function_of kinds.Expression false true absent no_trees absent no_trees no_trees)) (more (tree.object_property (property_values Init true false false) (tree.big_int_literal (named (codes "1"))) (function_of kinds.Expression false true absent no_trees absent no_trees no_trees)) no_trees)))))))) no_trees))
  -- a key is what its word spells, be it reserved (12.7.1)
  pub escaped_keys : IsRead (codes "({g\\u0065t() {}, s\\u0065t: a, if\\u0066: b, i\\u0066: c});") (program_of no_trees (more (statement_of (tree.parenthesized (nothing_of 0) (tree.object_expression (nothing_of 0) (more (tree.object_property (property_values Init true false false) (key_of (codes "get")) (function_of kinds.Expression false false absent no_trees absent no_trees no_trees)) (more (tree.object_property (property_values Init false false false) (key_of (codes "set")) (reference_of (codes "a"))) (more (tree.object_property (property_values Init false false false) (key_of (codes "iff")) (reference_of (codes "b"))) (more (tree.object_property (property_values Init false false false) (key_of (codes "if")) (reference_of (codes "c"))) no_trees))))))) no_trees))
