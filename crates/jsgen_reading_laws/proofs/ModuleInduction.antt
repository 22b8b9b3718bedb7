-- Each item of a module is printed so that it is read, and so are all of them.
use Rattle.std.proofs.Common.{◌≡◌, Bool, false, refl, ap, ◌∙◌}
use Rattle.jsgen_tree.specs.Job.{Tables}
use Rattle.jsgen_tree.specs.Nodes as tree
use Rattle.jsgen_tree.specs.Tree.{Tree, Trees, given}
use Rattle.jsgen_model.specs.Tokens.{Tokens}
use Rattle.jsgen_model.specs.Grammar.{in_module, ReadsDeclared, ReadsDefault, ReadsModuleItem, ReadsModuleItems, ReadsModuleBody}
use Rattle.jsgen_model.specs.Grammar as grammar
use Rattle.jsgen_model.specs.Normal.{normal}
use Rattle.jsgen_model.specs.Renamed.{renamed}
use Rattle.jsgen_place.specs.Place.{among_statements, within_statement}
use Rattle.jsgen_model.specs.Spell.{spell, spell_statements, spell_body, first_statement, is_declared_function, is_declared_class}
use Rattle.jsgen_row_laws.proofs.Families as families
use Rattle.jsgen_row_laws.proofs.ModuleFamilies.{IsModuleItem, AreModuleItems}
use Rattle.jsgen_row_laws.proofs.ModuleFamilies as family
use Rattle.jsgen_row_laws.proofs.Stands.{StandsAt, SameTree, stands_since}
use Rattle.jsgen_row_laws.proofs.Rows.{JoinsRow, GivesRest, rest_none, rest_more}
use Rattle.jsgen_row_laws.proofs.Declarations.{variables_from}
use Rattle.jsgen_row_laws.proofs.Directives.{Apart, FirstAs, JoinsBody, BodyAsAt, is_string_statement, end_apart, item_apart, first_stated, no_body_as, some_body_as}
use Rattle.jsgen_row_laws.proofs.Imports.{ModuleListed, good_import}
use Rattle.jsgen_row_laws.proofs.Exports.{good_exported_names, good_exported_from, good_all_exported, good_exported_variables, good_exported_function, good_exported_class, good_default_expression, good_default_declaration, declared_stretch}
use Rattle.jsgen_row_laws.proofs.Functions.{good_declared}
use Rattle.jsgen_row_laws.proofs.Classes.{good_declared_class}
use Rattle.jsgen_reading_laws.proofs.Induction.{printed_expression, printed_value, printed_members, list_declared, group_of, body_of, listed}

module_listed : {names : Tables} {t : Tree} → IsModuleItem names t → ModuleListed names t
module_listed (family.a_statement v) = λ p l z y k. stands_since (λ e ts u s r. grammar.a_module_statement r) (λ u s. s) (listed v p l z y k)
module_listed (family.an_import {a = a} v w x) = good_import a v w x
module_listed (family.exported_variables {a = a} {b = b} {ds = ds} m v) = good_exported_variables a b ds (variables_from in_module b ds m (list_declared v) within_statement)
module_listed (family.an_exported_function {a = a} {b = b} {id = id} (families.some_function {ps = ps} {body = body} h m n v w)) = good_exported_function a b id (given body) ps (declared_stretch ReadsDeclared (λ last ts x r. grammar.a_declared_function r) (good_declared b ps body h (refl, refl, m) n (group_of v) (body_of w)))
module_listed (family.an_exported_class {a = a} {b = b} {id = id} {heritage = heritage} (families.some_class {b = d} {ms = ms} h k s n v w)) = good_exported_class a b id heritage (tree.class_body d ms) (declared_stretch ReadsDeclared (λ last ts x r. grammar.a_declared_class r) (good_declared_class in_module b d heritage ms (h, k, s) n (printed_value v) (printed_members w)))
module_listed (family.exported_names {a = a} v) = good_exported_names a v
module_listed (family.exported_names_from {a = a} v w x) = good_exported_from a v w x
module_listed (family.all_exported {a = a} v w x) = good_all_exported a v w x
module_listed (family.a_default_function {a = a} {b = b} {id = id} (families.some_function {ps = ps} {body = body} h m n v w)) = good_default_declaration a (tree.function b id ps (given body)) (ap is_declared_function h) (declared_stretch ReadsDefault (λ last ts x r. grammar.a_default_function r) (good_declared b ps body h (refl, refl, m) n (group_of v) (body_of w)))
module_listed (family.a_default_class {a = a} {b = b} {id = id} {heritage = heritage} (families.some_class {b = d} {ms = ms} h k s n v w)) = good_default_declaration a (tree.class b id heritage (tree.class_body d ms)) (ap is_declared_class h) (declared_stretch ReadsDefault (λ last ts x r. grammar.a_default_class r) (good_declared_class in_module b d heritage ms (h, k, s) n (printed_value v) (printed_members w)))
module_listed (family.a_default_expression {a = a} {t = t} e v) = good_default_expression a t e (printed_expression v)

-- ---- the first item of a module

module_apart : {last : Bool} {ts : Tokens} {u : Tree} → ReadsModuleItem last ts u → is_string_statement (normal u) ≡ false → Apart ts
module_apart (grammar.a_module_statement r) n = item_apart r n
module_apart (grammar.an_import h r) n = end_apart h (λ x. refl)
module_apart (grammar.an_export r) n = λ x. refl

no_string_first : {names : Tables} (t : Tree) → ModuleListed names t → is_string_statement (normal (renamed names t)) ≡ false → StandsAt names (FirstAs ReadsModuleItem) (SameTree names t) (spell t among_statements)
no_string_first t f n p l z y k = stands_since (λ e ts u s r. (r, module_apart r (ap is_string_statement s ∙ n))) (λ u s. s) (f p l z y k)

first_of_module : {names : Tables} {t : Tree} → IsModuleItem names t → ModuleListed names t → StandsAt names (FirstAs ReadsModuleItem) (SameTree names t) (first_statement t (spell t among_statements))
first_of_module (family.a_statement v) f = λ p l z y k. stands_since (λ e ts u s r. (grammar.a_module_statement r.0, r.1)) (λ u s. s) (first_stated v (listed v) p l z y k)
first_of_module {t = t} (family.an_import v w x) f = no_string_first t f refl
first_of_module {t = t} (family.exported_variables m v) f = no_string_first t f refl
first_of_module {t = t} (family.an_exported_function v) f = no_string_first t f refl
first_of_module {t = t} (family.an_exported_class v) f = no_string_first t f refl
first_of_module {t = t} (family.exported_names v) f = no_string_first t f refl
first_of_module {t = t} (family.exported_names_from v w x) f = no_string_first t f refl
first_of_module {t = t} (family.all_exported v w x) f = no_string_first t f refl
first_of_module {t = t} (family.a_default_function v) f = no_string_first t f refl
first_of_module {t = t} (family.a_default_class v) f = no_string_first t f refl
first_of_module {t = t} (family.a_default_expression e v) f = no_string_first t f refl

-- ---- all of them

module_items_join : JoinsRow ReadsModuleItem ReadsModuleItems ReadsModuleItems
module_items_join = record { one = λ e ts t r. grammar.last_module_item r; first = λ e a b t us r s. grammar.first_module_item refl r s }

pub module_items_body : JoinsBody ReadsModuleItems ReadsModuleBody
module_items_body = record { directive = λ p v r. grammar.a_module_directive p v r; nothing_there = λ e. grammar.no_module_item; row = λ e ts ss n r. grammar.module_items n r }

module_rest : {names : Tables} {ss : Trees} → AreModuleItems names ss → GivesRest names ReadsModuleItem ReadsModuleItems (spell_statements ss) ss
module_rest family.no_module_item = rest_none module_items_join
module_rest (family.first_module_item {t = s} {ts = ss} v w) = rest_more module_items_join s ss (spell s among_statements) (spell_statements ss) (module_listed v) (module_rest w)

pub module_stated : {names : Tables} {ss : Trees} → AreModuleItems names ss → BodyAsAt names ReadsModuleBody (spell_body ss) ss
module_stated family.no_module_item = no_body_as module_items_body
module_stated (family.first_module_item {t = s} {ts = ss} v w) = some_body_as module_items_body s ss (first_of_module v (module_listed v)) (module_rest w)
