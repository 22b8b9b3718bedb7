-- Generated from tools/vectors/chosen.json; edit that and run tools/vectors/generate.
-- That they are read so: defaults.
use Rattle.std.proofs.Common.{[], ◌∷◌, true, false, codes, refl}
use Rattle.unicode_ident.proofs.Computing.{unicode_ident}
use Rattle.jsgen_syntax.specs.Escapes.{word_value}
use Rattle.jsgen_syntax.specs.Strings.{string_value}
use Rattle.jsgen_syntax.specs.declared.quote.Quote.TheVariants.{Double}
use Rattle.jsgen_syntax.specs.declared.operator.AssignmentOperator.TheVariants as assignment_operators
use Rattle.jsgen_tree.specs.declared.collections.PropertyKind.TheVariants.{Init}
use Rattle.jsgen_tree.specs.declared.functions.FunctionKind.TheVariants as kinds
use Rattle.jsgen_tree.specs.declared.classes.ClassKind.TheVariants as class_kinds
use Rattle.jsgen_tree.specs.Atom.{units, assignment_operator}
use Rattle.jsgen_tree.specs.Tree.{absent, given, no_trees, more}
use Rattle.jsgen_tree.specs.Places.{bare}
use Rattle.jsgen_tree.specs.Nodes as tree
use Rattle.jsgen_model.specs.Normal.{nothing_of, link_values, call_values, property_values}
use Rattle.jsgen_model.specs.Punctuator.{star, dot, comma, semicolon, equal, Round, Square, Brace}
use Rattle.jsgen_model.specs.Tokens.{done, piece, group, Quoted, longer_stands}
use Rattle.jsgen_model.specs.Grammar.{function_of, class_of, computed_values}
use Rattle.jsgen_model.specs.Grammar as grammar
use Rattle.jsgen_reading_vectors.specs.Reading.{IsRead, program_of, statement_of, reference_of, name_of, key_of}
use Rattle.jsgen_reading_vectors.proofs.Written.{word, sign}
use Rattle.jsgen_reading_vectors.proofs.Levels.{primary_value, call_value}
use Rattle.jsgen_reading_vectors.proofs.Names.{free_a, free_async, free_b, free_g, value_a, value_async, value_b, value_g}

pub default_async_function : IsRead (codes "export default async function () {}") (program_of no_trees (more (tree.export_default_declaration (nothing_of 0) (function_of kinds.Declaration true false absent no_trees absent no_trees no_trees)) no_trees))
unfolding unicode_ident longer_stands word_value
default_async_function = (
  word (codes "export") (word (codes "default") (word (codes "async") (word (codes "function") (group false Round done (group false Brace done done))))),
  ([], codes " default async function () {}", refl, refl, refl, refl, refl, (codes " ", codes " async function () {}", refl, refl, refl, refl, refl, (codes " ", codes " function () {}", refl, refl, refl, refl, refl, (codes " ", codes " () {}", refl, refl, refl, refl, refl, (codes " ", [], codes " {}", refl, refl, refl, refl, (codes " ", [], [], refl, refl, refl, refl, refl)))))),
  grammar.a_module (grammar.module_items refl (grammar.last_module_item (grammar.an_export (grammar.a_default_export (grammar.a_default_function (grammar.an_async_function (grammar.a_nameless_function grammar.no_parameter (grammar.statements refl grammar.no_statement)))))))),
)

pub default_function_and_parentheses : IsRead (codes "export default function () {}\n(a);") (program_of no_trees (more (tree.export_default_declaration (nothing_of 0) (function_of kinds.Declaration false false absent no_trees absent no_trees no_trees)) (more (statement_of (tree.parenthesized (nothing_of 0) (reference_of (codes "a")))) no_trees)))
unfolding unicode_ident longer_stands word_value
default_function_and_parentheses = (
  word (codes "export") (word (codes "default") (word (codes "function") (group false Round done (group false Brace done (group true Round (word (codes "a") done) (sign semicolon done)))))),
  ([], codes " default function () {}\n(a);", refl, refl, refl, refl, refl, (codes " ", codes " function () {}\n(a);", refl, refl, refl, refl, refl, (codes " ", codes " () {}\n(a);", refl, refl, refl, refl, refl, (codes " ", [], codes " {}\n(a);", refl, refl, refl, refl, (codes " ", [], codes "\n(a);", refl, refl, refl, refl, (codes "\n", codes "a", codes ";", refl, refl, refl, ([], [], refl, refl, refl, refl, refl, refl), ([], [], refl, refl, refl, refl, refl, refl))))))),
  grammar.a_module (grammar.module_items refl (grammar.first_module_item {a = word (codes "export") (word (codes "default") (word (codes "function") (group false Round done (group false Brace done done))))} refl (grammar.an_export (grammar.a_default_export (grammar.a_default_function (grammar.a_plain_function (grammar.a_nameless_function grammar.no_parameter (grammar.statements refl grammar.no_statement)))))) (grammar.last_module_item (grammar.a_module_statement (grammar.a_statement (grammar.an_expression_statement (grammar.a_semicolon {a = group true Round (word (codes "a") done) done} false refl) refl (grammar.an_assignment (primary_value (grammar.in_parentheses (grammar.an_assignment (primary_value (grammar.a_reference value_a free_a)))))))))))),
)

pub default_class_and_array : IsRead (codes "export default class {}\n[a];") (program_of no_trees (more (tree.export_default_declaration (nothing_of 0) (class_of class_kinds.Declaration absent absent no_trees)) (more (statement_of (tree.array (nothing_of 0) (more (reference_of (codes "a")) no_trees))) no_trees)))
unfolding unicode_ident longer_stands word_value
default_class_and_array = (
  word (codes "export") (word (codes "default") (word (codes "class") (group false Brace done (group true Square (word (codes "a") done) (sign semicolon done))))),
  ([], codes " default class {}\n[a];", refl, refl, refl, refl, refl, (codes " ", codes " class {}\n[a];", refl, refl, refl, refl, refl, (codes " ", codes " {}\n[a];", refl, refl, refl, refl, refl, (codes " ", [], codes "\n[a];", refl, refl, refl, refl, (codes "\n", codes "a", codes ";", refl, refl, refl, ([], [], refl, refl, refl, refl, refl, refl), ([], [], refl, refl, refl, refl, refl, refl)))))),
  grammar.a_module (grammar.module_items refl (grammar.first_module_item {a = word (codes "export") (word (codes "default") (word (codes "class") (group false Brace done done)))} refl (grammar.an_export (grammar.a_default_export (grammar.a_default_class (grammar.a_nameless_class (grammar.without_heritage grammar.no_member))))) (grammar.last_module_item (grammar.a_module_statement (grammar.a_statement (grammar.an_expression_statement (grammar.a_semicolon {a = group true Square (word (codes "a") done) done} false refl) refl (grammar.an_assignment (primary_value (grammar.an_array (grammar.last_element (grammar.an_element (primary_value (grammar.a_reference value_a free_a))))))))))))),
)

pub default_generator : IsRead (codes "export default async function* g() {} a;") (program_of no_trees (more (tree.export_default_declaration (nothing_of 0) (function_of kinds.Declaration true true (given (name_of (codes "g"))) no_trees absent no_trees no_trees)) (more (statement_of (reference_of (codes "a"))) no_trees)))
unfolding unicode_ident longer_stands word_value
default_generator = (
  word (codes "export") (word (codes "default") (word (codes "async") (word (codes "function") (sign star (word (codes "g") (group false Round done (group false Brace done (word (codes "a") (sign semicolon done))))))))),
  ([], codes " default async function* g() {} a;", refl, refl, refl, refl, refl, (codes " ", codes " async function* g() {} a;", refl, refl, refl, refl, refl, (codes " ", codes " function* g() {} a;", refl, refl, refl, refl, refl, (codes " ", codes "* g() {} a;", refl, refl, refl, refl, refl, ([], codes " g() {} a;", refl, refl, refl, refl, refl, (codes " ", codes "() {} a;", refl, refl, refl, refl, refl, ([], [], codes " {} a;", refl, refl, refl, refl, (codes " ", [], codes " a;", refl, refl, refl, refl, (codes " ", codes ";", refl, refl, refl, refl, refl, ([], [], refl, refl, refl, refl, refl, refl)))))))))),
  grammar.a_module (grammar.module_items refl (grammar.first_module_item {a = word (codes "export") (word (codes "default") (word (codes "async") (word (codes "function") (sign star (word (codes "g") (group false Round done (group false Brace done done)))))))} refl (grammar.an_export (grammar.a_default_export (grammar.a_default_function (grammar.an_async_generator (grammar.a_named_function value_g free_g grammar.no_parameter (grammar.statements refl grammar.no_statement)))))) (grammar.last_module_item (grammar.a_module_statement (grammar.a_statement (grammar.an_expression_statement (grammar.a_semicolon {a = word (codes "a") done} false refl) refl (grammar.an_assignment (primary_value (grammar.a_reference value_a free_a))))))))),
)

pub default_call : IsRead (codes "export default (function () {})();") (program_of no_trees (more (tree.export_default_declaration (nothing_of 0) (tree.call (call_values false) (tree.parenthesized (nothing_of 0) (function_of kinds.Expression false false absent no_trees absent no_trees no_trees)) no_trees)) no_trees))
unfolding unicode_ident longer_stands word_value
default_call = (
  word (codes "export") (word (codes "default") (group false Round (word (codes "function") (group false Round done (group false Brace done done))) (group false Round done (sign semicolon done)))),
  ([], codes " default (function () {})();", refl, refl, refl, refl, refl, (codes " ", codes " (function () {})();", refl, refl, refl, refl, refl, (codes " ", codes "function () {}", codes "();", refl, refl, refl, ([], codes " () {}", refl, refl, refl, refl, refl, (codes " ", [], codes " {}", refl, refl, refl, refl, (codes " ", [], [], refl, refl, refl, refl, refl))), ([], [], codes ";", refl, refl, refl, refl, ([], [], refl, refl, refl, refl, refl, refl))))),
  grammar.a_module (grammar.module_items refl (grammar.last_module_item (grammar.an_export (grammar.a_default_export (grammar.a_default_expression (grammar.a_semicolon {a = group false Round (word (codes "function") (group false Round done (group false Brace done done))) (group false Round done done)} false refl) refl (call_value (grammar.with_arguments {a = group false Round (word (codes "function") (group false Round done (group false Brace done done))) done} false refl (grammar.a_called_member (grammar.a_primary (grammar.in_parentheses (grammar.an_assignment (primary_value (grammar.a_function (grammar.a_plain_function (grammar.a_nameless_function grammar.no_parameter (grammar.statements refl grammar.no_statement))))))))) grammar.no_argument))))))),
)

pub default_async : IsRead (codes "export default async;") (program_of no_trees (more (tree.export_default_declaration (nothing_of 0) (reference_of (codes "async"))) no_trees))
unfolding unicode_ident longer_stands word_value
default_async = (
  word (codes "export") (word (codes "default") (word (codes "async") (sign semicolon done))),
  ([], codes " default async;", refl, refl, refl, refl, refl, (codes " ", codes " async;", refl, refl, refl, refl, refl, (codes " ", codes ";", refl, refl, refl, refl, refl, ([], [], refl, refl, refl, refl, refl, refl)))),
  grammar.a_module (grammar.module_items refl (grammar.last_module_item (grammar.an_export (grammar.a_default_export (grammar.a_default_expression (grammar.a_semicolon {a = word (codes "async") done} false refl) refl (primary_value (grammar.a_reference value_async free_async))))))),
)

pub default_method_called : IsRead (codes "export default {a, b() {}}.b();") (program_of no_trees (more (tree.export_default_declaration (nothing_of 0) (tree.call (call_values false) (tree.static_member (link_values false) (tree.object_expression (nothing_of 0) (more (tree.object_property (property_values Init false true false) (key_of (codes "a")) (reference_of (codes "a"))) (more (tree.object_property (property_values Init true false false) (key_of (codes "b")) (function_of kinds.Expression false false absent no_trees absent no_trees no_trees)) no_trees))) (key_of (codes "b"))) no_trees)) no_trees))
unfolding unicode_ident longer_stands word_value
default_method_called = (
  word (codes "export") (word (codes "default") (group false Brace (word (codes "a") (sign comma (word (codes "b") (group false Round done (group false Brace done done))))) (sign dot (word (codes "b") (group false Round done (sign semicolon done)))))),
  ([], codes " default {a, b() {}}.b();", refl, refl, refl, refl, refl, (codes " ", codes " {a, b() {}}.b();", refl, refl, refl, refl, refl, (codes " ", codes "a, b() {}", codes ".b();", refl, refl, refl, ([], codes ", b() {}", refl, refl, refl, refl, refl, ([], codes " b() {}", refl, refl, refl, refl, refl, (codes " ", codes "() {}", refl, refl, refl, refl, refl, ([], [], codes " {}", refl, refl, refl, refl, (codes " ", [], [], refl, refl, refl, refl, refl))))), ([], codes "b();", refl, refl, refl, refl, refl, ([], codes "();", refl, refl, refl, refl, refl, ([], [], codes ";", refl, refl, refl, refl, ([], [], refl, refl, refl, refl, refl, refl))))))),
  grammar.a_module (grammar.module_items refl (grammar.last_module_item (grammar.an_export (grammar.a_default_export (grammar.a_default_expression (grammar.a_semicolon {a = group false Brace (word (codes "a") (sign comma (word (codes "b") (group false Round done (group false Brace done done))))) (sign dot (word (codes "b") (group false Round done done)))} false refl) refl (call_value (grammar.with_arguments {a = group false Brace (word (codes "a") (sign comma (word (codes "b") (group false Round done (group false Brace done done))))) (sign dot (word (codes "b") done))} false refl (grammar.a_called_member (grammar.a_named_member {a = group false Brace (word (codes "a") (sign comma (word (codes "b") (group false Round done (group false Brace done done))))) done} (codes "b") false false refl value_b (grammar.a_primary (grammar.an_object (grammar.first_property {a = word (codes "a") done} false refl (grammar.a_shorthand value_a free_a) (grammar.last_property (grammar.a_method (grammar.a_plain_method (grammar.a_method_behind_words {a = word (codes "b") done} false false refl (grammar.a_public_key (grammar.a_name_key value_b)) grammar.no_parameter (grammar.statements refl grammar.no_statement)))))))))) grammar.no_argument))))))),
)

pub default_pattern : IsRead (codes "export default {a} = b;") (program_of no_trees (more (tree.export_default_declaration (nothing_of 0) (tree.assignment (bare (assignment_operator assignment_operators.Assign ∷ [])) (tree.object_target (nothing_of 0) (more (tree.target_property (computed_values false) (key_of (codes "a")) (reference_of (codes "a"))) no_trees) absent) (reference_of (codes "b")))) no_trees))
unfolding unicode_ident longer_stands word_value
default_pattern = (
  word (codes "export") (word (codes "default") (group false Brace (word (codes "a") done) (sign equal (word (codes "b") (sign semicolon done))))),
  ([], codes " default {a} = b;", refl, refl, refl, refl, refl, (codes " ", codes " {a} = b;", refl, refl, refl, refl, refl, (codes " ", codes "a", codes " = b;", refl, refl, refl, ([], [], refl, refl, refl, refl, refl, refl), (codes " ", codes " b;", refl, refl, refl, refl, refl, (codes " ", codes ";", refl, refl, refl, refl, refl, ([], [], refl, refl, refl, refl, refl, refl)))))),
  grammar.a_module (grammar.module_items refl (grammar.last_module_item (grammar.an_export (grammar.a_default_export (grammar.a_default_expression (grammar.a_semicolon {a = group false Brace (word (codes "a") done) (sign equal (word (codes "b") done))} false refl) refl (grammar.an_assignment_to_pattern {a = group false Brace (word (codes "a") done) done} false refl (grammar.an_object_target (grammar.last_target_property (grammar.a_target_shorthand value_a free_a))) (primary_value (grammar.a_reference value_b free_b)))))))),
)

pub default_string : IsRead (codes "export default \"use strict\";") (program_of no_trees (more (tree.export_default_declaration (nothing_of 0) (tree.string_literal (bare (units (codes "use strict") ∷ [])))) no_trees))
unfolding unicode_ident longer_stands word_value string_value
default_string = (
  word (codes "export") (word (codes "default") (piece false (Quoted Double (codes "use strict")) (sign semicolon done))),
  ([], codes " default \"use strict\";", refl, refl, refl, refl, refl, (codes " ", codes " \"use strict\";", refl, refl, refl, refl, refl, (codes " ", codes ";", refl, refl, refl, refl, refl, ([], [], refl, refl, refl, refl, refl, refl)))),
  grammar.a_module (grammar.module_items refl (grammar.last_module_item (grammar.an_export (grammar.a_default_export (grammar.a_default_expression (grammar.a_semicolon {a = piece false (Quoted Double (codes "use strict")) done} false refl) refl (primary_value (grammar.a_string refl))))))),
)

pub default_import : IsRead (codes "export default import(a);") (program_of no_trees (more (tree.export_default_declaration (nothing_of 0) (tree.import_call (nothing_of 0) (reference_of (codes "a")) absent)) no_trees))
unfolding unicode_ident longer_stands word_value
default_import = (
  word (codes "export") (word (codes "default") (word (codes "import") (group false Round (word (codes "a") done) (sign semicolon done)))),
  ([], codes " default import(a);", refl, refl, refl, refl, refl, (codes " ", codes " import(a);", refl, refl, refl, refl, refl, (codes " ", codes "(a);", refl, refl, refl, refl, refl, ([], codes "a", codes ";", refl, refl, refl, ([], [], refl, refl, refl, refl, refl, refl), ([], [], refl, refl, refl, refl, refl, refl))))),
  grammar.a_module (grammar.module_items refl (grammar.last_module_item (grammar.an_export (grammar.a_default_export (grammar.a_default_expression (grammar.a_semicolon {a = word (codes "import") (group false Round (word (codes "a") done) done)} false refl) refl (call_value (grammar.an_import_call (grammar.an_imported (primary_value (grammar.a_reference value_a free_a)))))))))),
)
