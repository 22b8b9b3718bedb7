-- The items of a module over which the induction goes: its statements, its imports and its exports.
use Rattle.std.proofs.Common.{◌≡◌, Bool, true, false}
use Rattle.std.specs.Str.{all_scalars}
use Rattle.jsgen_syntax.specs.Name.{spells_name, is_free_name}
use Rattle.jsgen_syntax.specs.Wtf8.{are_units}
use Rattle.jsgen_tree.specs.declared.functions.FunctionKind.TheVariants as kinds
use Rattle.jsgen_tree.specs.declared.classes.ClassKind.TheVariants as class_kinds
use Rattle.jsgen_tree.specs.Inside.{reference_named, binding_named}
use Rattle.jsgen_tree.specs.Job.{Tables}
use Rattle.jsgen_tree.specs.Named.{printed_name}
use Rattle.jsgen_tree.specs.Nodes as tree
use Rattle.jsgen_tree.specs.Tree.{Tree, Maybe, absent, given, Trees, no_trees, more, MaybeTrees, no_list, listed, Atoms}
use Rattle.jsgen_tree.specs.Values.{identifier_name_name, string_literal_value, variable_declaration_declare, hashbang_value}
use Rattle.jsgen_model.specs.Grammar.{in_module}
use Rattle.jsgen_model.specs.Spell.{is_declared}
use Rattle.jsgen_model.specs.Tokens.{has_line_end}
use Rattle.jsgen_row_laws.proofs.Families.{IsExpression, IsFunction, IsClass, AreDeclarators, IsItem, AreDirectives}

-- ---- names, sources and attributes

-- a name that is bound, by how it is printed
pub data IsLocal : Tables → Tree → Type 0 where
  a_local_name : {names : Tables} {a : Atoms} → is_free_name (printed_name names (binding_named a)) ≡ true → IsLocal names (tree.binding_identifier a)

-- a name of an import or an export: as it is written, as it is printed, or a string
pub data IsModuleName : Tables → Tree → Type 0 where
  a_written_name : {names : Tables} {a : Atoms} → spells_name (identifier_name_name a) ≡ true → IsModuleName names (tree.identifier_name a)
  a_printed_name : {names : Tables} {a : Atoms} → is_free_name (printed_name names (reference_named a)) ≡ true → IsModuleName names (tree.identifier_reference a)
  a_string_name : {names : Tables} {a : Atoms} → are_units (string_literal_value a) ≡ true → IsModuleName names (tree.string_literal a)

-- the name that all exports have together
pub data IsNamespace : Tables → Maybe → Type 0 where
  no_namespace : {names : Tables} → IsNamespace names absent
  a_namespace_name : {names : Tables} {t : Tree} → IsModuleName names t → IsNamespace names (given t)

pub data IsString : Tree → Type 0 where
  a_string : {a : Atoms} → are_units (string_literal_value a) ≡ true → IsString (tree.string_literal a)

-- an attribute by its key and its value
pub data IsAttribute : Tree → Type 0 where
  an_attribute : {a b : Atoms} {v : Tree} → spells_name (identifier_name_name b) ≡ true → IsString v → IsAttribute (tree.import_attribute a (tree.identifier_name b) v)
  an_attribute_by_string : {a b : Atoms} {v : Tree} → are_units (string_literal_value b) ≡ true → IsString v → IsAttribute (tree.import_attribute a (tree.string_literal b) v)

pub data AreAttributes : Trees → Type 0 where
  no_attribute : AreAttributes no_trees
  first_attribute : {t : Tree} {ts : Trees} → IsAttribute t → AreAttributes ts → AreAttributes (more t ts)

pub data IsWith : Maybe → Type 0 where
  no_attributes : IsWith absent
  some_attributes : {a : Atoms} {ts : Trees} → AreAttributes ts → IsWith (given (tree.with_clause a ts))

-- ---- imports

pub data IsSpecifier : Tables → Tree → Type 0 where
  a_specifier : {names : Tables} {a : Atoms} {t u : Tree} → IsModuleName names t → IsLocal names u → IsSpecifier names (tree.import_specifier a t u)

pub data AreSpecifiers : Tables → Trees → Type 0 where
  no_specifier : {names : Tables} → AreSpecifiers names no_trees
  first_specifier : {names : Tables} {t : Tree} {ts : Trees} → IsSpecifier names t → AreSpecifiers names ts → AreSpecifiers names (more t ts)

-- some exports by their names, or all by one
pub data AreNamed : Tables → Trees → Type 0 where
  some_specifiers : {names : Tables} {ts : Trees} → AreSpecifiers names ts → AreNamed names ts
  a_namespace : {names : Tables} {a : Atoms} {t : Tree} → IsLocal names t → AreNamed names (more (tree.import_namespace_specifier a t) no_trees)

-- behind a default, or without one
pub data AreImports : Tables → Trees → Type 0 where
  without_default : {names : Tables} {ts : Trees} → AreNamed names ts → AreImports names ts
  behind_default : {names : Tables} {a : Atoms} {t : Tree} {ts : Trees} → IsLocal names t → AreNamed names ts → AreImports names (more (tree.import_default_specifier a t) ts)

pub data AreListed : Tables → MaybeTrees → Type 0 where
  not_listed : {names : Tables} → AreListed names no_list
  imports_listed : {names : Tables} {ts : Trees} → AreImports names ts → AreListed names (listed ts)

-- ---- exports

-- the flag tells that a source follows, without which what is exported is a reference
pub data IsExported : Tables → Bool → Tree → Type 0 where
  exported_from_here : {names : Tables} {a b : Atoms} {u : Tree} → is_free_name (printed_name names (reference_named b)) ≡ true → IsModuleName names u → IsExported names false (tree.export_specifier a (tree.identifier_reference b) u)
  exported_from_there : {names : Tables} {a : Atoms} {t u : Tree} → IsModuleName names t → IsModuleName names u → IsExported names true (tree.export_specifier a t u)

pub data AreExported : Tables → Bool → Trees → Type 0 where
  none_exported : {names : Tables} {source : Bool} → AreExported names source no_trees
  first_exported : {names : Tables} {source : Bool} {t : Tree} {ts : Trees} → IsExported names source t → AreExported names source ts → AreExported names source (more t ts)

-- ---- the whole

pub data IsModuleItem : Tables → Tree → Type 0 where
  a_statement : {names : Tables} {t : Tree} → IsItem names in_module t → IsModuleItem names t
  an_import : {names : Tables} {a : Atoms} {m : MaybeTrees} {t : Tree} {clause : Maybe} → AreListed names m → IsString t → IsWith clause → IsModuleItem names (tree.import_declaration a m t clause)
  exported_variables : {names : Tables} {a b : Atoms} {ds : Trees} → variable_declaration_declare b ≡ false → AreDeclarators names in_module ds → IsModuleItem names (tree.export_declaration a (tree.variable_declaration b ds))
  an_exported_function : {names : Tables} {a b : Atoms} {id body : Maybe} {ps : Tree} → IsFunction names kinds.Declaration false (tree.function b id ps body) → IsModuleItem names (tree.export_declaration a (tree.function b id ps body))
  an_exported_class : {names : Tables} {a b : Atoms} {id heritage : Maybe} {body : Tree} → IsClass names in_module class_kinds.Declaration false (tree.class b id heritage body) → IsModuleItem names (tree.export_declaration a (tree.class b id heritage body))
  exported_names : {names : Tables} {a : Atoms} {ts : Trees} → AreExported names false ts → IsModuleItem names (tree.export_named_declaration a ts)
  exported_names_from : {names : Tables} {a : Atoms} {ts : Trees} {t : Tree} {clause : Maybe} → AreExported names true ts → IsString t → IsWith clause → IsModuleItem names (tree.export_from_declaration a ts t clause)
  all_exported : {names : Tables} {a : Atoms} {m : Maybe} {t : Tree} {clause : Maybe} → IsNamespace names m → IsString t → IsWith clause → IsModuleItem names (tree.export_all_declaration a m t clause)
  a_default_function : {names : Tables} {a b : Atoms} {id body : Maybe} {ps : Tree} → IsFunction names kinds.Declaration true (tree.function b id ps body) → IsModuleItem names (tree.export_default_declaration a (tree.function b id ps body))
  a_default_class : {names : Tables} {a b : Atoms} {id heritage : Maybe} {body : Tree} → IsClass names in_module class_kinds.Declaration true (tree.class b id heritage body) → IsModuleItem names (tree.export_default_declaration a (tree.class b id heritage body))
  a_default_expression : {names : Tables} {a : Atoms} {t : Tree} → is_declared t ≡ false → IsExpression names in_module t → IsModuleItem names (tree.export_default_declaration a t)

pub data AreModuleItems : Tables → Trees → Type 0 where
  no_module_item : {names : Tables} → AreModuleItems names no_trees
  first_module_item : {names : Tables} {t : Tree} {ts : Trees} → IsModuleItem names t → AreModuleItems names ts → AreModuleItems names (more t ts)

-- the first line, where there is one: it is one line, of characters
pub data IsFirstLine : Maybe → Type 0 where
  no_first_line : IsFirstLine absent
  a_first_line : {a : Atoms} → has_line_end (hashbang_value a) ≡ false → all_scalars (hashbang_value a) ≡ true → IsFirstLine (given (tree.hashbang a))

pub data IsModule : Tables → Tree → Type 0 where
  a_module : {names : Tables} {a : Atoms} {hashbang : Maybe} {comments directives body : Trees} → IsFirstLine hashbang → AreDirectives directives → AreModuleItems names body → IsModule names (tree.program a comments hashbang directives body)
