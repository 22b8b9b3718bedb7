-- Generated from tools/vectors/chosen.json; edit that and run tools/vectors/generate.
-- What texts are read as by ECMA-262: modules.
use Rattle.std.specs.Prelude.{[], ◌∷◌, false, codes}
use Rattle.jsgen_tree.specs.declared.statements.VariableDeclarationKind.TheVariants.{Let, Var}
use Rattle.jsgen_tree.specs.declared.modules.WithKeyword.TheVariants as with_keywords
use Rattle.jsgen_tree.specs.Atom.{units, with_keyword}
use Rattle.jsgen_tree.specs.Tree.{absent, given, no_trees, more, no_list, listed}
use Rattle.jsgen_tree.specs.Places.{bare}
use Rattle.jsgen_tree.specs.Nodes as tree
use Rattle.jsgen_model.specs.Normal.{nothing_of, declared_as}
use Rattle.jsgen_model.specs.Grammar.{computed_values, of_values}
use Rattle.jsgen_reading_vectors.specs.Reading.{IsRead, program_of, reference_of, name_of, key_of}

pub record VectorsModules : Type 0 where
  -- a module is imported for what it does (16.2.2)
  pub import_alone : IsRead (codes "import \"x\";") (program_of no_trees (more (tree.import_declaration of_values no_list (tree.string_literal (bare (units (codes "x") ∷ []))) absent) no_trees))
  -- which is another tree than an import of no names
  pub imports_none : IsRead (codes "import {} from \"x\";") (program_of no_trees (more (tree.import_declaration of_values (listed no_trees) (tree.string_literal (bare (units (codes "x") ∷ []))) absent) no_trees))
  -- `from`, `as` and `of` are names
  pub imports_named_by_words : IsRead (codes "import from, {as, as as of, from as async} from \"x\";") (program_of no_trees (more (tree.import_declaration of_values (listed (more (tree.import_default_specifier (nothing_of 0) (name_of (codes "from"))) (more (tree.import_specifier of_values (tree.string_literal (bare (units (codes "as") ∷ []))) (name_of (codes "as"))) (more (tree.import_specifier of_values (tree.string_literal (bare (units (codes "as") ∷ []))) (name_of (codes "of"))) (more (tree.import_specifier of_values (tree.string_literal (bare (units (codes "from") ∷ []))) (name_of (codes "async"))) no_trees))))) (tree.string_literal (bare (units (codes "x") ∷ []))) absent) no_trees))
  -- a default is imported beside names
  pub default_and_names : IsRead (codes "import a, {b, default as c} from \"x\";") (program_of no_trees (more (tree.import_declaration of_values (listed (more (tree.import_default_specifier (nothing_of 0) (name_of (codes "a"))) (more (tree.import_specifier of_values (tree.string_literal (bare (units (codes "b") ∷ []))) (name_of (codes "b"))) (more (tree.import_specifier of_values (tree.string_literal (bare (units (codes "default") ∷ []))) (name_of (codes "c"))) no_trees)))) (tree.string_literal (bare (units (codes "x") ∷ []))) absent) no_trees))
  -- a name is imported by a string
  pub import_by_string : IsRead (codes "import {a as b, \"c\" as d} from \"x\";") (program_of no_trees (more (tree.import_declaration of_values (listed (more (tree.import_specifier of_values (tree.string_literal (bare (units (codes "a") ∷ []))) (name_of (codes "b"))) (more (tree.import_specifier of_values (tree.string_literal (bare (units (codes "c") ∷ []))) (name_of (codes "d"))) no_trees))) (tree.string_literal (bare (units (codes "x") ∷ []))) absent) no_trees))
  -- what words with escapes spell counts (12.7.1)
  pub import_by_escaped_words : IsRead (codes "import {d\\u0065fault as a, \\u0061s as \\u0062} from \"x\";") (program_of no_trees (more (tree.import_declaration of_values (listed (more (tree.import_specifier of_values (tree.string_literal (bare (units (codes "default") ∷ []))) (name_of (codes "a"))) (more (tree.import_specifier of_values (tree.string_literal (bare (units (codes "as") ∷ []))) (name_of (codes "b"))) no_trees))) (tree.string_literal (bare (units (codes "x") ∷ []))) absent) no_trees))
  -- attributes have keys that are names or strings, and a comma may end them (16.2.2)
  pub attributes : IsRead (codes "import a from \"x\" with {type: \"json\", \"k\": 'v',};") (program_of no_trees (more (tree.import_declaration of_values (listed (more (tree.import_default_specifier (nothing_of 0) (name_of (codes "a"))) no_trees)) (tree.string_literal (bare (units (codes "x") ∷ []))) (given (tree.with_clause (bare (with_keyword with_keywords.With ∷ [])) (more (tree.import_attribute (nothing_of 0) (key_of (codes "type")) (tree.string_literal (bare (units (codes "json") ∷ [])))) (more (tree.import_attribute (nothing_of 0) (tree.string_literal (bare (units (codes "k") ∷ []))) (tree.string_literal (bare (units (codes "v") ∷ [])))) no_trees))))) no_trees))
  -- before `with` a line may end
  pub attributes_on_next_line : IsRead (codes "import \"x\"\nwith {a: \"b\"};") (program_of no_trees (more (tree.import_declaration of_values no_list (tree.string_literal (bare (units (codes "x") ∷ []))) (given (tree.with_clause (bare (with_keyword with_keywords.With ∷ [])) (more (tree.import_attribute (nothing_of 0) (key_of (codes "a")) (tree.string_literal (bare (units (codes "b") ∷ [])))) no_trees)))) no_trees))
  -- a reference is exported by itself, by a reserved word or by a string (16.2.3)
  pub export_by_all_names : IsRead (codes "let a; export {a, a as if, a as default, a as \"b c\"};") (program_of no_trees (more (tree.variable_declaration (declared_as Let) (more (tree.variable_declarator (nothing_of 1) (name_of (codes "a")) absent) no_trees)) (more (tree.export_named_declaration of_values (more (tree.export_specifier of_values (tree.string_literal (bare (units (codes "a") ∷ []))) (tree.string_literal (bare (units (codes "a") ∷ [])))) (more (tree.export_specifier of_values (tree.string_literal (bare (units (codes "a") ∷ []))) (tree.string_literal (bare (units (codes "if") ∷ [])))) (more (tree.export_specifier of_values (tree.string_literal (bare (units (codes "a") ∷ []))) (tree.string_literal (bare (units (codes "default") ∷ [])))) (more (tree.export_specifier of_values (tree.string_literal (bare (units (codes "a") ∷ []))) (tree.string_literal (bare (units (codes "b c") ∷ [])))) no_trees))))) no_trees)))
  -- what another module exports needn't be a reference
  pub export_of_reserved_from : IsRead (codes "export {\"c\" as d, e as \"f g\", if, default as of} from \"x\";") (program_of no_trees (more (tree.export_from_declaration of_values (more (tree.export_specifier of_values (tree.string_literal (bare (units (codes "c") ∷ []))) (tree.string_literal (bare (units (codes "d") ∷ [])))) (more (tree.export_specifier of_values (tree.string_literal (bare (units (codes "e") ∷ []))) (tree.string_literal (bare (units (codes "f g") ∷ [])))) (more (tree.export_specifier of_values (tree.string_literal (bare (units (codes "if") ∷ []))) (tree.string_literal (bare (units (codes "if") ∷ [])))) (more (tree.export_specifier of_values (tree.string_literal (bare (units (codes "default") ∷ []))) (tree.string_literal (bare (units (codes "of") ∷ [])))) no_trees)))) (tree.string_literal (bare (units (codes "x") ∷ []))) absent) no_trees))
  -- all of a module is exported by a reserved word
  pub export_all_as_default : IsRead (codes "export * as default from \"x\" with {a: \"b\"};") (program_of no_trees (more (tree.export_all_declaration of_values (given (tree.string_literal (bare (units (codes "default") ∷ [])))) (tree.string_literal (bare (units (codes "x") ∷ []))) (given (tree.with_clause (bare (with_keyword with_keywords.With ∷ [])) (more (tree.import_attribute (nothing_of 0) (key_of (codes "a")) (tree.string_literal (bare (units (codes "b") ∷ [])))) no_trees)))) no_trees))
  -- variables are exported with their declaration (16.2.3)
  pub export_of_pattern : IsRead (codes "export var a, {b} = c;") (program_of no_trees (more (tree.export_declaration (nothing_of 0) (tree.variable_declaration (declared_as Var) (more (tree.variable_declarator (nothing_of 1) (name_of (codes "a")) absent) (more (tree.variable_declarator (nothing_of 1) (tree.object_pattern (nothing_of 0) (more (tree.binding_property (computed_values false) (key_of (codes "b")) (name_of (codes "b"))) no_trees) absent) (given (reference_of (codes "c")))) no_trees)))) no_trees))
