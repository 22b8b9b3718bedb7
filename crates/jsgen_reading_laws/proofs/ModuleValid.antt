-- Why a valid module is of the families over which the induction goes.
use Rattle.std.proofs.Common.{◌≡◌, ℕ, Bool, true, false, not, ◌&&◌, ◌||◌, List, [], ◌∷◌, refl, sym, ap, subst}
use Rattle.std.proofs.lemmas.Bool.{and_parts, and_from, not-true}
use Rattle.jsgen_syntax.specs.Name.{spells_name}
use Rattle.jsgen_tree.specs.Tree.{Tree, node, Maybe, absent, given, Trees, no_trees, more, hole, MaybeTrees, no_list, listed, Atoms, type_of, span_of}
use Rattle.jsgen_tree.specs.Job.{Tables}
use Rattle.jsgen_tree.specs.Nodes as tree
use Rattle.jsgen_tree.specs.Values.{program_kind, function_kind, class_kind, function_is_async, function_generator, identifier_name_name, hashbang_value}
use Rattle.jsgen_tree.specs.Inside.{reference_named, binding_named, has_name}
use Rattle.jsgen_tree.specs.Everywhere.{EverywhereIfGiven, EverywhereInTrees, EverywhereIfListed}
use Rattle.jsgen_tree.specs.Sets.{is_statement, is_hashbang, is_binding_identifier, is_module_export_name, is_import_attribute_key, is_import_attribute, is_string_literal, is_with_clause, is_export_specifier}
use Rattle.jsgen_tree.specs.declared.functions.FunctionKind.{FunctionKind}
use Rattle.jsgen_tree.specs.declared.functions.FunctionKind.TheVariants as kinds
use Rattle.jsgen_tree.specs.declared.classes.ClassKind.{ClassKind}
use Rattle.jsgen_tree.specs.declared.classes.ClassKind.TheVariants as class_kinds
use Rattle.jsgen_tree.specs.declared.types.NodeType.{NodeType}
use Rattle.jsgen_tree.specs.declared.types.NodeType.TheVariants as types
use Rattle.jsgen_tree.specs.declared.types.NodeSet.TheVariants as sets
use Rattle.jsgen_model.specs.declared.fault.TreeFault.TheVariants as faults
use Rattle.jsgen_model.specs.Grammar.{in_module}
use Rattle.jsgen_model.specs.Plain.{is_module, has_no_hole, has_no_hole_if_listed}
use Rattle.jsgen_model.specs.Tokens.{has_line_end}
use Rattle.jsgen_row_laws.proofs.CoreIn.{IsCoreIn, is_core_row}
use Rattle.jsgen_model.specs.Spell.{is_declared_function, is_declared_class}
use Rattle.jsgen_model.specs.Valid.{Surroundings, ChildPlace, within_nothing, within_function, breaches, in_maybe, in_trees, in_maybe_trees, span_faults, own_faults, name_faults, written_name_faults, import_faults, export_faults, hashbang_faults, specifier_faults, behind_default_faults, misplaced_faults, is_named_import, fits_source, fault_if, may_stand, has_place, is_module_item, any_lacks_value, function_faults, same_kind, as_function_kind, has_uncooked, fits_kind}
use Rattle.jsgen_row_laws.proofs.Families.{allowed_in, IsExpression, IsClass, AreDeclarators, IsItem}
use Rattle.jsgen_row_laws.proofs.Families as families
use Rattle.jsgen_row_laws.proofs.ModuleFamilies.{IsLocal, IsModuleName, IsNamespace, IsString, IsAttribute, AreAttributes, IsWith, IsSpecifier, AreSpecifiers, AreNamed, AreImports, AreListed, IsExported, AreExported, IsModuleItem, AreModuleItems, IsFirstLine, IsModule}
use Rattle.jsgen_row_laws.proofs.ModuleFamilies as family
use Rattle.jsgen_row_laws.proofs.Faultless.{none_both, none_if, none_unless, parts, standing, placed, placed_if_given, StandsAt, place_of, is_own_statement, fits_statement, no_truth, no_falsehood, no_truth_behind, free_since, variables_parts, function_fits, function_parts, bodiless, directives_valid}
use Rattle.jsgen_row_laws.proofs.FaultlessClasses.{class_fits}
use Rattle.jsgen_reading_laws.proofs.Valid.{expression_valid, expressions_if_given, expressions_below, items_below, declarators_valid, parameters_valid, function_body_valid, item_valid}
use Rattle.jsgen_reading_laws.proofs.ValidClasses.{class_valid}

-- ---- names, sources and attributes

string_valid : (names : Tables) (t : Tree) → IsCoreIn names t → is_string_literal (type_of t) ≡ true → IsString t
string_valid names (tree.string_literal a) p s = family.a_string p.0
string_valid names t p s = absurd (search no_truth)

local_valid : (next : ℕ) (around : Surroundings) (t : Tree) → IsCoreIn around.tables t → is_binding_identifier (type_of t) ≡ true → breaches around next t ≡ [] → IsLocal around.tables t
local_valid next around (tree.binding_identifier a) p s e = family.a_local_name (free_since around a.span (binding_named a) (parts (span_faults around a.span) (name_faults around.tables a.span (binding_named a)) [] e).0)
local_valid next around t p s e = absurd (search no_truth)

name_valid : (next : ℕ) (around : Surroundings) (t : Tree) → IsCoreIn around.tables t → is_module_export_name (type_of t) ≡ true → breaches around next t ≡ [] → IsModuleName around.tables t
name_valid next around (tree.identifier_name a) p s e = family.a_written_name (none_unless (spells_name (identifier_name_name a)) (faults.Name a.span.start) (parts (span_faults around a.span) (written_name_faults a.span (identifier_name_name a)) [] e).0)
name_valid next around (tree.identifier_reference a) p s e = family.a_printed_name (free_since around a.span (reference_named a) (parts (span_faults around a.span) (name_faults around.tables a.span (reference_named a)) [] e).0)
name_valid next around (tree.string_literal a) p s e = family.a_string_name p.0
name_valid next around t p s e = absurd (search no_truth)

key_valid : (next : ℕ) (around : Surroundings) (a : Atoms) (k v : Tree) → IsCoreIn around.tables k → is_import_attribute_key (type_of k) ≡ true → breaches around next k ≡ [] → IsString v → IsAttribute (tree.import_attribute a k v)
key_valid next around a (tree.identifier_name b) v p s e w = family.an_attribute (none_unless (spells_name (identifier_name_name b)) (faults.Name b.span.start) (parts (span_faults around b.span) (written_name_faults b.span (identifier_name_name b)) [] e).0) w
key_valid next around a (tree.string_literal b) v p s e w = family.an_attribute_by_string p.0 w
key_valid next around a k v p s e w = absurd (search no_truth)

attribute_valid : (next : ℕ) (around : Surroundings) (t : Tree) → IsCoreIn around.tables t → is_import_attribute (type_of t) ≡ true → breaches around next t ≡ [] → IsAttribute t
attribute_valid next around (tree.import_attribute a k v) p s e =
    let i = placed _ around sets.ImportAttributeKey k _ (parts (span_faults around a.span) [] _ e).1 in
    let j = placed _ around sets.StringLiteral v [] i.2 in
    key_valid _ around a k v p.1.0 i.0 i.1 (string_valid around.tables v p.1.1.0 j.0)
attribute_valid next around t p s e = absurd (search no_truth)

attributes_valid : (next : ℕ) (around : Surroundings) (ts : Trees) → has_no_hole ts ≡ true → EverywhereInTrees (is_core_row around.tables) ts → in_trees around (place_of sets.ImportAttribute around ∷ []) next ts ≡ [] → AreAttributes ts
attributes_valid next around no_trees n p e = family.no_attribute
attributes_valid next around (more t ts) n p e = let k = placed _ around sets.ImportAttribute t _ e in family.first_attribute (attribute_valid _ around t p.0 k.0 k.1) (attributes_valid _ around ts n p.1 k.2)
attributes_valid next around (hole ts) n p e = absurd (no_truth n)

clause_valid : (next : ℕ) (around : Surroundings) (t : Tree) → IsCoreIn around.tables t → is_with_clause (type_of t) ≡ true → breaches around next t ≡ [] → IsWith (given t)
clause_valid next around (tree.with_clause a ts) p s e = family.some_attributes (attributes_valid _ around ts p.0 p.1.0 (none_both (in_trees around (place_of sets.ImportAttribute around ∷ []) _ ts) [] (parts (span_faults around a.span) [] _ e).1).0)
clause_valid next around t p s e = absurd (search no_truth)

with_valid : (next : ℕ) (around : Surroundings) (m : Maybe) → EverywhereIfGiven (is_core_row around.tables) m → in_maybe around (place_of sets.WithClause around ∷ []) next m ≡ [] → IsWith m
with_valid next around absent p e = family.no_attributes
with_valid next around (given t) p e = let k = placed_if_given _ around sets.WithClause t e in clause_valid _ around t p k.0 k.1

namespace_valid : (next : ℕ) (around : Surroundings) (others : List ChildPlace) (m : Maybe) → EverywhereIfGiven (is_core_row around.tables) m → in_maybe around (place_of sets.ModuleExportName around ∷ others) next m ≡ [] → IsNamespace around.tables m
namespace_valid next around others absent p e = family.no_namespace
namespace_valid next around others (given t) p e = let k = placed_if_given _ around sets.ModuleExportName t e in family.a_namespace_name (name_valid _ around t p k.0 k.1)

-- ---- imports

-- what is imported stands at places of this set
abbrev imports_place : Surroundings → List ChildPlace → List ChildPlace
imports_place around others = place_of sets.ImportDeclarationSpecifier around ∷ others

specifier_valid : (next : ℕ) (around : Surroundings) (t : Tree) → IsCoreIn around.tables t → is_named_import (type_of t) ≡ true → breaches around next t ≡ [] → IsSpecifier around.tables t
specifier_valid next around (tree.import_specifier a t u) p s e =
    let k = placed _ around sets.ModuleExportName t _ (parts (span_faults around a.span) [] _ e).1 in
    let j = placed _ around sets.BindingIdentifier u [] k.2 in
    family.a_specifier (name_valid _ around t p.1.0 k.0 k.1) (local_valid _ around u p.1.1.0 j.0 j.1)
specifier_valid next around t p s e = absurd (search no_truth)

specifiers_valid : (next : ℕ) (around : Surroundings) (others : List ChildPlace) (ts : Trees) → has_no_hole ts ≡ true → EverywhereInTrees (is_core_row around.tables) ts → misplaced_faults is_named_import ts ≡ [] → in_trees around (imports_place around others) next ts ≡ [] → AreSpecifiers around.tables ts
specifiers_valid next around others no_trees n p s e = family.no_specifier
specifiers_valid next around others (more t ts) n p s e =
    let k = placed _ around sets.ImportDeclarationSpecifier t _ e in
    let i = none_both (fault_if (not (is_named_import (type_of t))) (faults.Place (span_of t).start)) (misplaced_faults is_named_import ts) s in
    family.first_specifier (specifier_valid _ around t p.0 (none_unless (is_named_import (type_of t)) (faults.Place (span_of t).start) i.0) k.1) (specifiers_valid _ around others ts n p.1 i.1 k.2)
specifiers_valid next around others (hole ts) n p s e = absurd (no_truth n)

named_valid : (next : ℕ) (around : Surroundings) (others : List ChildPlace) (ts : Trees) → has_no_hole ts ≡ true → EverywhereInTrees (is_core_row around.tables) ts → behind_default_faults ts ≡ [] → in_trees around (imports_place around others) next ts ≡ [] → AreNamed around.tables ts
named_valid next around others (more (tree.import_namespace_specifier a t) no_trees) n p s e =
    let k = placed _ around sets.ImportDeclarationSpecifier (tree.import_namespace_specifier a t) _ e in
    let j = placed _ around sets.BindingIdentifier t [] (parts (span_faults around a.span) [] _ k.1).1 in
    family.a_namespace (local_valid _ around t p.0.1.0 j.0 j.1)
named_valid next around others (more (tree.import_namespace_specifier a t) (more u us)) n p s e = absurd (cc)
named_valid next around others (more (tree.import_namespace_specifier a t) (hole us)) n p s e = absurd (no_truth n)
named_valid next around others ts n p s e = family.some_specifiers (specifiers_valid next around others ts n p s e)

imports_valid : (next : ℕ) (around : Surroundings) (others : List ChildPlace) (ts : Trees) → has_no_hole ts ≡ true → EverywhereInTrees (is_core_row around.tables) ts → specifier_faults ts ≡ [] → in_trees around (imports_place around others) next ts ≡ [] → AreImports around.tables ts
imports_valid next around others (more (tree.import_default_specifier a t) ts) n p s e =
    let k = placed _ around sets.ImportDeclarationSpecifier (tree.import_default_specifier a t) _ e in
    let j = placed _ around sets.BindingIdentifier t [] (parts (span_faults around a.span) [] _ k.1).1 in
    family.behind_default (local_valid _ around t p.0.1.0 j.0 j.1) (named_valid _ around others ts n p.1 s k.2)
imports_valid next around others ts n p s e = family.without_default (named_valid next around others ts n p s e)

listed_valid : (next : ℕ) (around : Surroundings) (others : List ChildPlace) (m : MaybeTrees) → has_no_hole_if_listed m ≡ true → EverywhereIfListed (is_core_row around.tables) m → import_faults m ≡ [] → in_maybe_trees around (imports_place around others) next m ≡ [] → AreListed around.tables m
listed_valid next around others no_list n p f e = family.not_listed
listed_valid next around others (listed ts) n p f e = family.imports_listed (imports_valid next around others ts n p f e)

-- ---- exports

reference_valid : (next : ℕ) (around : Surroundings) (a : Atoms) (t u : Tree) → IsCoreIn around.tables t → fits_source false (type_of t) ≡ true → breaches around next t ≡ [] → IsModuleName around.tables u → IsExported around.tables false (tree.export_specifier a t u)
reference_valid next around a (tree.identifier_reference b) u p s e v = family.exported_from_here (free_since around b.span (reference_named b) (parts (span_faults around b.span) (name_faults around.tables b.span (reference_named b)) [] e).0) v
reference_valid next around a t u p s e v = absurd (search no_truth)

-- of a specifier, that it fits
abbrev fits_one : Bool → Tree → Bool
fits_one source (tree.export_specifier a t u) = fits_source source (type_of t)
fits_one source t = false

fit_parts : (names : Tables) (source : Bool) (t : Tree) (ts : Trees) → IsCoreIn names t → is_export_specifier (type_of t) ≡ true → export_faults source (more t ts) ≡ [] → (fits_one source t ≡ true) × (export_faults source ts ≡ [])
fit_parts names source (tree.export_specifier a t u) ts p s f =
    let h = none_both (fault_if (not (fits_source source (type_of t))) (faults.Place a.span.start)) (export_faults source ts) f in
    (none_unless (fits_source source (type_of t)) (faults.Place a.span.start) h.0, h.1)
fit_parts names source t ts p s f = absurd (search no_truth)

exported_valid : (next : ℕ) (around : Surroundings) (source : Bool) (t : Tree) → IsCoreIn around.tables t → is_export_specifier (type_of t) ≡ true → breaches around next t ≡ [] → fits_one source t ≡ true → IsExported around.tables source t
exported_valid next around true (tree.export_specifier a t u) p s e f =
    let k = placed _ around sets.ModuleExportName t _ (parts (span_faults around a.span) [] _ e).1 in
    let j = placed _ around sets.ModuleExportName u [] k.2 in
    family.exported_from_there (name_valid _ around t p.1.0 k.0 k.1) (name_valid _ around u p.1.1.0 j.0 j.1)
exported_valid next around false (tree.export_specifier a t u) p s e f =
    let k = placed _ around sets.ModuleExportName t _ (parts (span_faults around a.span) [] _ e).1 in
    let j = placed _ around sets.ModuleExportName u [] k.2 in
    reference_valid _ around a t u p.1.0 f k.1 (name_valid _ around u p.1.1.0 j.0 j.1)
exported_valid next around source t p s e f = absurd (search no_truth)

all_exported_valid : (next : ℕ) (around : Surroundings) (source : Bool) (others : List ChildPlace) (ts : Trees) → has_no_hole ts ≡ true → EverywhereInTrees (is_core_row around.tables) ts → export_faults source ts ≡ [] → in_trees around (place_of sets.ExportSpecifier around ∷ others) next ts ≡ [] → AreExported around.tables source ts
all_exported_valid next around source others no_trees n p f e = family.none_exported
all_exported_valid next around source others (more t ts) n p f e =
    let k = placed _ around sets.ExportSpecifier t _ e in
    let i = fit_parts around.tables source t ts p.0 k.0 f in
    family.first_exported (exported_valid _ around source t p.0 k.0 k.1 i.0) (all_exported_valid _ around source others ts n p.1 i.1 k.2)
all_exported_valid next around source others (hole ts) n p f e = absurd (no_truth n)

declaration_valid : (next : ℕ) (around : Surroundings) → allowed_in around ≡ in_module → (a : Atoms) (t : Tree) → IsCoreIn around.tables t → StandsAt sets.Declaration t → breaches around next t ≡ [] → IsModuleItem around.tables (tree.export_declaration a t)
declaration_valid next around at_top a (tree.variable_declaration b ds) p s e = let k = variables_parts _ around b ds p e in family.exported_variables k.0 (subst (λ c. AreDeclarators around.tables c ds) at_top (declarators_valid _ around b ds k.1 (not-true (any_lacks_value ds) s.2) k.2 k.3 k.4))
declaration_valid next around at_top a (tree.function b id ps (given u)) p s e =
    let h = function_fits kinds.Declaration b id s.2 in
    let k = function_parts _ around false b id ps u h.1 p e in
    family.an_exported_function (families.some_function h.0 k.undeclared k.name (parameters_valid _ (within_nothing around) ps k.core_parameters k.are_parameters k.parameters.1) (function_body_valid _ (within_function (function_is_async b) (function_generator b) around) u k.core_body k.is_body k.body.1))
declaration_valid next around at_top a (tree.class b id heritage u) p s e =
    let h = class_fits class_kinds.Declaration b id s.2 in
    family.an_exported_class (subst (λ c. IsClass around.tables c class_kinds.Declaration false (tree.class b id heritage u)) at_top (class_valid next around class_kinds.Declaration false b id heritage u (expressions_if_given heritage) (expressions_below u) (items_below u) h.0 h.1 p e))
declaration_valid next around at_top a (tree.function b id ps absent) p s e = absurd (bodiless b.span (parts (span_faults around b.span) (function_faults b.span absent) _ e).0)
declaration_valid next around at_top a t p s e = absurd (search (no_truth, no_truth_behind))

or_true : (o : Bool) → (o || true) ≡ true
or_true true = refl
or_true false = refl

-- what is exported by default: a function or a class that is declared, or an expression
default_valid : (next : ℕ) (around : Surroundings) → allowed_in around ≡ in_module → (a : Atoms) (t : Tree) → IsCoreIn around.tables t → StandsAt sets.ExportDefaultDeclarationKind t → breaches around next t ≡ [] → IsModuleItem around.tables (tree.export_default_declaration a t)
default_valid next around at_top a (tree.function b id ps (given u)) p s e = by (function_kind b) refl
  where
    by : (k : FunctionKind) → function_kind b ≡ k → IsModuleItem around.tables (tree.export_default_declaration a (tree.function b id ps (given u)))
    by kinds.Expression h = family.a_default_expression (ap is_declared_function h) (subst (λ c. IsExpression around.tables c (tree.function b id ps (given u))) at_top (expression_valid _ around (tree.function b id ps (given u)) p (s.0, s.1, subst (λ k. (same_kind k kinds.Expression && (has_name id || same_kind k kinds.Expression)) ≡ true) (sym h) (or_true (has_name id))) e))
    by kinds.Declaration h =
        let k = function_parts _ around true b id ps u (or_true (has_name id)) p e in
        family.a_default_function (families.some_function h k.undeclared k.name (parameters_valid _ (within_nothing around) ps k.core_parameters k.are_parameters k.parameters.1) (function_body_valid _ (within_function (function_is_async b) (function_generator b) around) u k.core_body k.is_body k.body.1))
default_valid next around at_top a (tree.function b id ps absent) p s e = absurd (bodiless b.span (parts (span_faults around b.span) (function_faults b.span absent) _ e).0)
default_valid next around at_top a (tree.class b id heritage u) p s e = by (class_kind b) refl
  where
    by : (k : ClassKind) → class_kind b ≡ k → IsModuleItem around.tables (tree.export_default_declaration a (tree.class b id heritage u))
    by class_kinds.Expression h = family.a_default_expression (ap is_declared_class h) (subst (λ c. IsExpression around.tables c (tree.class b id heritage u)) at_top (expression_valid next around (tree.class b id heritage u) p (s.0, s.1, subst (λ k. (same_kind (as_function_kind k) kinds.Expression && (has_name id || same_kind (as_function_kind k) kinds.Expression)) ≡ true) (sym h) (or_true (has_name id))) e))
    by class_kinds.Declaration h = family.a_default_class (subst (λ c. IsClass around.tables c class_kinds.Declaration true (tree.class b id heritage u)) at_top (class_valid next around class_kinds.Declaration true b id heritage u (expressions_if_given heritage) (expressions_below u) (items_below u) h (or_true (has_name id)) p e))
default_valid next around at_top a (node types.Function b slots) p s e = absurd (search (no_truth, no_truth_behind))
default_valid next around at_top a (node types.Class b slots) p s e = absurd (search (no_truth, no_truth_behind))
default_valid next around at_top a (node types.VariableDeclaration b slots) p s e = absurd (no_truth s.0)
default_valid next around at_top a t p s e = family.a_default_expression refl (subst (λ c. IsExpression around.tables c t) at_top (expression_valid _ around t p (s.0, s.1, and_from (not (has_uncooked t)) (fits_kind sets.Expression t) (and_parts (not (has_uncooked t)) (fits_kind sets.ExportDefaultDeclarationKind t) s.2).0 refl) e))

-- ---- the whole

-- what isn't one of these is a statement, or what stands among statements
abbrev is_module_row : Tree → Bool
is_module_row (tree.import_declaration a m t clause) = true
is_module_row (tree.export_declaration a t) = true
is_module_row (tree.export_named_declaration a ts) = true
is_module_row (tree.export_from_declaration a ts t clause) = true
is_module_row (tree.export_all_declaration a m t clause) = true
is_module_row (tree.export_default_declaration a t) = true
is_module_row t = false

no_other_row : (names : Tables) (t : Tree) → is_core_row names t ≡ true → is_module_row t ≡ false → is_module_item (type_of t) ≡ true → ⊥
no_other_row names (tree.import_declaration a m t clause) p n s = no_falsehood n
no_other_row names (tree.export_declaration a t) p n s = no_falsehood n
no_other_row names (tree.export_named_declaration a ts) p n s = no_falsehood n
no_other_row names (tree.export_from_declaration a ts t clause) p n s = no_falsehood n
no_other_row names (tree.export_all_declaration a m t clause) p n s = no_falsehood n
no_other_row names (tree.export_default_declaration a t) p n s = no_falsehood n
no_other_row names t p n s = search (no_truth, no_truth_behind)

own_item : (names : Tables) (t : Tree) → is_core_row names t ≡ true → is_module_row t ≡ false → may_stand sets.ModuleItem (type_of t) ≡ true → is_own_statement (type_of t) ≡ true
own_item names t p n s = by (is_module_item (type_of t)) refl
  where
    by : (b : Bool) → is_module_item (type_of t) ≡ b → is_own_statement (type_of t) ≡ true
    by true h = absurd (no_other_row names t p n h)
    by false h = and_from (is_statement (type_of t)) (not (is_module_item (type_of t))) (and_parts (is_statement (type_of t)) (has_place sets.ModuleItem (type_of t)) s).0 (ap not h)

module_item_valid : (next : ℕ) (around : Surroundings) → allowed_in around ≡ in_module → (t : Tree) → IsCoreIn around.tables t → StandsAt sets.ModuleItem t → breaches around next t ≡ [] → IsModuleItem around.tables t
module_item_valid next around at_top (tree.import_declaration a m t clause) p s e =
    let behind : List ChildPlace = place_of sets.StringLiteral around ∷ place_of sets.WithClause around ∷ [] in
    let h = parts (span_faults around a.span) (import_faults m) _ e in
    let k = none_both (in_maybe_trees around (imports_place around behind) _ m) _ h.1 in
    let j = placed _ around sets.StringLiteral t _ k.1 in
    let i = none_both (in_maybe around (place_of sets.WithClause around ∷ []) _ clause) [] j.2 in
    family.an_import (listed_valid _ around behind m p.0 p.1.0 h.0 k.0) (string_valid around.tables t p.1.1.0 j.0) (with_valid _ around clause p.1.1.1.0 i.0)
module_item_valid next around at_top (tree.export_declaration a t) p s e = let k = standing _ around sets.Declaration t [] (parts (span_faults around a.span) [] _ e).1 in declaration_valid _ around at_top a t p.1.0 k.0 k.1
module_item_valid next around at_top (tree.export_named_declaration a ts) p s e =
    let h = parts (span_faults around a.span) (export_faults false ts) _ e in
    let k = none_both (in_trees around (place_of sets.ExportSpecifier around ∷ []) _ ts) [] h.1 in
    family.exported_names (all_exported_valid _ around false [] ts p.0 p.1.0 h.0 k.0)
module_item_valid next around at_top (tree.export_from_declaration a ts t clause) p s e =
    let behind : List ChildPlace = place_of sets.StringLiteral around ∷ place_of sets.WithClause around ∷ [] in
    let h = parts (span_faults around a.span) (export_faults true ts) _ e in
    let k = none_both (in_trees around (place_of sets.ExportSpecifier around ∷ behind) _ ts) _ h.1 in
    let j = placed _ around sets.StringLiteral t _ k.1 in
    let i = none_both (in_maybe around (place_of sets.WithClause around ∷ []) _ clause) [] j.2 in
    family.exported_names_from (all_exported_valid _ around true behind ts p.0 p.1.0 h.0 k.0) (string_valid around.tables t p.1.1.0 j.0) (with_valid _ around clause p.1.1.1.0 i.0)
module_item_valid next around at_top (tree.export_all_declaration a m t clause) p s e =
    let behind : List ChildPlace = place_of sets.StringLiteral around ∷ place_of sets.WithClause around ∷ [] in
    let k = none_both (in_maybe around (place_of sets.ModuleExportName around ∷ behind) _ m) _ (parts (span_faults around a.span) [] _ e).1 in
    let j = placed _ around sets.StringLiteral t _ k.1 in
    let i = none_both (in_maybe around (place_of sets.WithClause around ∷ []) _ clause) [] j.2 in
    family.all_exported (namespace_valid _ around behind m p.1.0 k.0) (string_valid around.tables t p.1.1.0 j.0) (with_valid _ around clause p.1.1.1.0 i.0)
module_item_valid next around at_top (tree.export_default_declaration a t) p s e = let k = standing _ around sets.ExportDefaultDeclarationKind t [] (parts (span_faults around a.span) [] _ e).1 in default_valid _ around at_top a t p.1.0 k.0 k.1
module_item_valid next around at_top t p s e = family.a_statement (subst (λ c. IsItem around.tables c t) at_top (item_valid next around t p (own_item around.tables t p.0 refl s.0) (fits_statement t (and_parts (not (has_uncooked t)) (fits_kind sets.ModuleItem t) s.2).1) e))

module_items_valid : (next : ℕ) (around : Surroundings) → allowed_in around ≡ in_module → (ss : Trees) → has_no_hole ss ≡ true → EverywhereInTrees (is_core_row around.tables) ss → in_trees around (place_of sets.ModuleItem around ∷ []) next ss ≡ [] → AreModuleItems around.tables ss
module_items_valid next around at_top no_trees n p e = family.no_module_item
module_items_valid next around at_top (more s ss) n p e = let k = standing _ around sets.ModuleItem s _ e in family.first_module_item (module_item_valid _ around at_top s p.0 k.0 k.1) (module_items_valid _ around at_top ss n p.1 k.2)
module_items_valid next around at_top (hole ss) n p e = absurd (no_truth n)

abbrev pub is_program : NodeType → Bool
is_program types.Program = true
is_program other = false

-- what may stand behind the hashbang of a program, and behind its comments
abbrev from_directives : Surroundings → List ChildPlace
from_directives around = place_of sets.Directive around ∷ place_of sets.ModuleItem around ∷ []

abbrev from_hashbang : Surroundings → List ChildPlace
from_hashbang around = place_of sets.Hashbang around ∷ from_directives around

-- what stands in the place of a hashbang is one, of one line
hashbang_valid : (next : ℕ) (around : Surroundings) (t : Tree) → IsCoreIn around.tables t → is_hashbang (type_of t) ≡ true → breaches around next t ≡ [] → IsFirstLine (given t)
hashbang_valid next around (tree.hashbang a) p s e =
    let h = parts (span_faults around a.span) (hashbang_faults a.span (hashbang_value a)) [] e in
    family.a_first_line (none_if (has_line_end (hashbang_value a)) (faults.Literal a.span.start) h.0) p.0
hashbang_valid next around t p s e = absurd (search no_truth)

first_line_valid : (next : ℕ) (around : Surroundings) (m : Maybe) → EverywhereIfGiven (is_core_row around.tables) m → in_maybe around (from_hashbang around) next m ≡ [] → IsFirstLine m
first_line_valid next around absent p e = family.no_first_line
first_line_valid next around (given t) p e = let k = placed_if_given _ around sets.Hashbang t e in hashbang_valid _ around t p k.0 k.1

pub program_valid : (next : ℕ) (around : Surroundings) → allowed_in around ≡ in_module → (t : Tree) → IsCoreIn around.tables t → is_program (type_of t) ≡ true → breaches around next t ≡ [] → IsModule around.tables t
program_valid next around at_top (tree.program a comments hashbang directives body) p s e =
    let h = parts (span_faults around a.span) (own_faults around (tree.program a comments hashbang directives body)) _ e in
    let b = none_both (in_trees around (place_of sets.Comment around ∷ from_hashbang around) _ comments) _ h.1 in
    let f = none_both (in_maybe around (from_hashbang around) _ hashbang) _ b.1 in
    let d = none_both (in_trees around (from_directives around) _ directives) _ f.1 in
    let k = none_both (in_trees around (place_of sets.ModuleItem around ∷ []) _ body) [] d.1 in
    let lists = and_parts ((is_module (program_kind a) && has_no_hole body) && has_no_hole directives) (has_no_hole comments) p.0 in
    let m = and_parts (is_module (program_kind a) && has_no_hole body) (has_no_hole directives) lists.0 in
    let n = and_parts (is_module (program_kind a)) (has_no_hole body) m.0 in
    family.a_module (first_line_valid _ around hashbang p.1.1.0 f.0) (directives_valid _ around (place_of sets.ModuleItem around ∷ []) directives m.1 p.1.1.1.0 d.0) (module_items_valid _ around at_top body n.1 p.1.1.1.1.0 k.0)
program_valid next around at_top t p s e = absurd (search no_truth)
