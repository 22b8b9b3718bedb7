-- Generated from tools/vectors/chosen.json; edit that and run tools/vectors/generate.
-- That they are read so: methods.
use Rattle.std.proofs.Common.{[], ◌∷◌, true, false, codes, refl}
use Rattle.unicode_ident.proofs.Computing.{unicode_ident}
use Rattle.jsgen_syntax.specs.Escapes.{word_value}
use Rattle.jsgen_syntax.specs.Strings.{string_value}
use Rattle.jsgen_syntax.specs.declared.quote.Quote.TheVariants.{Single}
use Rattle.jsgen_syntax.specs.declared.operator.AssignmentOperator.TheVariants as assignment_operators
use Rattle.jsgen_tree.specs.declared.collections.PropertyKind.TheVariants.{Init, Get, Set}
use Rattle.jsgen_tree.specs.declared.functions.FunctionKind.TheVariants as kinds
use Rattle.jsgen_tree.specs.Atom.{units, assignment_operator}
use Rattle.jsgen_tree.specs.Tree.{absent, no_trees, more}
use Rattle.jsgen_tree.specs.Places.{bare}
use Rattle.jsgen_tree.specs.Nodes as tree
use Rattle.jsgen_model.specs.Normal.{nothing_of, named, by_text, property_values}
use Rattle.jsgen_model.specs.Numbers.{spells_number}
use Rattle.jsgen_model.specs.Punctuator.{star, comma, semicolon, colon, equal, Round, Square, Brace}
use Rattle.jsgen_model.specs.Tokens.{done, piece, group, Word, Number, Quoted, longer_stands, longer_number_stands}
use Rattle.jsgen_model.specs.Grammar.{function_of, computed_values}
use Rattle.jsgen_model.specs.Grammar as grammar
use Rattle.jsgen_reading_vectors.specs.Reading.{IsRead, program_of, statement_of, reference_of, name_of, key_of}
use Rattle.jsgen_reading_vectors.proofs.Written.{word, sign}
use Rattle.jsgen_reading_vectors.proofs.Levels.{primary_value, primary_left}
use Rattle.jsgen_reading_vectors.proofs.Names.{free_a, free_async, free_b, free_c, free_get, free_of, free_set, value_a, value_async, value_await, value_b, value_c, value_g_u0065t, value_get, value_i_u0066, value_if_u0066, value_let, value_of, value_s_u0065t, value_set, value_static, value_yield}

pub methods_with_words : IsRead (codes "({async a() {}, *b() {}, async *c() {}});") (program_of no_trees (more (statement_of (tree.parenthesized (nothing_of 0) (tree.object_expression (nothing_of 0) (more (tree.object_property (property_values Init true false false) (key_of (codes "a")) (function_of kinds.Expression true false absent no_trees absent no_trees no_trees)) (more (tree.object_property (property_values Init true false false) (key_of (codes "b")) (function_of kinds.Expression false true absent no_trees absent no_trees no_trees)) (more (tree.object_property (property_values Init true false false) (key_of (codes "c")) (function_of kinds.Expression true true absent no_trees absent no_trees no_trees)) no_trees)))))) no_trees))
unfolding unicode_ident longer_stands word_value
methods_with_words = (
  group false Round (group false Brace (word (codes "async") (word (codes "a") (group false Round done (group false Brace done (sign comma (sign star (word (codes "b") (group false Round done (group false Brace done (sign comma (word (codes "async") (sign star (word (codes "c") (group false Round done (group false Brace done done))))))))))))))) done) (sign semicolon done),
  ([], codes "{async a() {}, *b() {}, async *c() {}}", codes ";", refl, refl, refl, ([], codes "async a() {}, *b() {}, async *c() {}", [], refl, refl, refl, ([], codes " a() {}, *b() {}, async *c() {}", refl, refl, refl, refl, refl, (codes " ", codes "() {}, *b() {}, async *c() {}", refl, refl, refl, refl, refl, ([], [], codes " {}, *b() {}, async *c() {}", refl, refl, refl, refl, (codes " ", [], codes ", *b() {}, async *c() {}", refl, refl, refl, refl, ([], codes " *b() {}, async *c() {}", refl, refl, refl, refl, refl, (codes " ", codes "b() {}, async *c() {}", refl, refl, refl, refl, refl, ([], codes "() {}, async *c() {}", refl, refl, refl, refl, refl, ([], [], codes " {}, async *c() {}", refl, refl, refl, refl, (codes " ", [], codes ", async *c() {}", refl, refl, refl, refl, ([], codes " async *c() {}", refl, refl, refl, refl, refl, (codes " ", codes " *c() {}", refl, refl, refl, refl, refl, (codes " ", codes "c() {}", refl, refl, refl, refl, refl, ([], codes "() {}", refl, refl, refl, refl, refl, ([], [], codes " {}", refl, refl, refl, refl, (codes " ", [], [], refl, refl, refl, refl, refl))))))))))))))), refl), ([], [], refl, refl, refl, refl, refl, refl)),
  grammar.a_module (grammar.module_items refl (grammar.last_module_item (grammar.a_module_statement (grammar.a_statement (grammar.an_expression_statement (grammar.a_semicolon {a = group false Round (group false Brace (word (codes "async") (word (codes "a") (group false Round done (group false Brace done (sign comma (sign star (word (codes "b") (group false Round done (group false Brace done (sign comma (word (codes "async") (sign star (word (codes "c") (group false Round done (group false Brace done done))))))))))))))) done) done} false refl) refl (grammar.an_assignment (primary_value (grammar.in_parentheses (grammar.an_assignment (primary_value (grammar.an_object (grammar.first_property {a = word (codes "async") (word (codes "a") (group false Round done (group false Brace done done)))} false refl (grammar.a_method (grammar.an_async_method refl (grammar.a_method_behind_words {a = word (codes "a") done} false false refl (grammar.a_public_key (grammar.a_name_key value_a)) grammar.no_parameter (grammar.statements refl grammar.no_statement)))) (grammar.first_property {a = sign star (word (codes "b") (group false Round done (group false Brace done done)))} false refl (grammar.a_method (grammar.a_generator_method (grammar.a_method_behind_words {a = word (codes "b") done} false false refl (grammar.a_public_key (grammar.a_name_key value_b)) grammar.no_parameter (grammar.statements refl grammar.no_statement)))) (grammar.last_property (grammar.a_method (grammar.an_async_generator_method (grammar.a_method_behind_words {a = word (codes "c") done} false false refl (grammar.a_public_key (grammar.a_name_key value_c)) grammar.no_parameter (grammar.statements refl grammar.no_statement)))))))))))))))))),
)

pub methods_named_by_words : IsRead (codes "({async() {}, get() {}, set() {}, static() {}, await() {}, yield() {}, let() {}});") (program_of no_trees (more (statement_of (tree.parenthesized (nothing_of 0) (tree.object_expression (nothing_of 0) (more (tree.object_property (property_values Init true false false) (key_of (codes "async")) (function_of kinds.Expression false false absent no_trees absent no_trees no_trees)) (more (tree.object_property (property_values Init true false false) (key_of (codes "get")) (function_of kinds.Expression false false absent no_trees absent no_trees no_trees)) (more (tree.object_property (property_values Init true false false) (key_of (codes "set")) (function_of kinds.Expression false false absent no_trees absent no_trees no_trees)) (more (tree.object_property (property_values Init true false false) (key_of (codes "static")) (function_of kinds.Expression false false absent no_trees absent no_trees no_trees)) (more (tree.object_property (property_values Init true false false) (key_of (codes "await")) (function_of kinds.Expression false false absent no_trees absent no_trees no_trees)) (more (tree.object_property (property_values Init true false false) (key_of (codes "yield")) (function_of kinds.Expression false false absent no_trees absent no_trees no_trees)) (more (tree.object_property (property_values Init true false false) (key_of (codes "let")) (function_of kinds.Expression false false absent no_trees absent no_trees no_trees)) no_trees)))))))))) no_trees))
unfolding unicode_ident longer_stands word_value
methods_named_by_words = (
  group false Round (group false Brace (word (codes "async") (group false Round done (group false Brace done (sign comma (word (codes "get") (group false Round done (group false Brace done (sign comma (word (codes "set") (group false Round done (group false Brace done (sign comma (word (codes "static") (group false Round done (group false Brace done (sign comma (word (codes "await") (group false Round done (group false Brace done (sign comma (word (codes "yield") (group false Round done (group false Brace done (sign comma (word (codes "let") (group false Round done (group false Brace done done))))))))))))))))))))))))))) done) (sign semicolon done),
  ([], codes "{async() {}, get() {}, set() {}, static() {}, await() {}, yield() {}, let() {}}", codes ";", refl, refl, refl, ([], codes "async() {}, get() {}, set() {}, static() {}, await() {}, yield() {}, let() {}", [], refl, refl, refl, ([], codes "() {}, get() {}, set() {}, static() {}, await() {}, yield() {}, let() {}", refl, refl, refl, refl, refl, ([], [], codes " {}, get() {}, set() {}, static() {}, await() {}, yield() {}, let() {}", refl, refl, refl, refl, (codes " ", [], codes ", get() {}, set() {}, static() {}, await() {}, yield() {}, let() {}", refl, refl, refl, refl, ([], codes " get() {}, set() {}, static() {}, await() {}, yield() {}, let() {}", refl, refl, refl, refl, refl, (codes " ", codes "() {}, set() {}, static() {}, await() {}, yield() {}, let() {}", refl, refl, refl, refl, refl, ([], [], codes " {}, set() {}, static() {}, await() {}, yield() {}, let() {}", refl, refl, refl, refl, (codes " ", [], codes ", set() {}, static() {}, await() {}, yield() {}, let() {}", refl, refl, refl, refl, ([], codes " set() {}, static() {}, await() {}, yield() {}, let() {}", refl, refl, refl, refl, refl, (codes " ", codes "() {}, static() {}, await() {}, yield() {}, let() {}", refl, refl, refl, refl, refl, ([], [], codes " {}, static() {}, await() {}, yield() {}, let() {}", refl, refl, refl, refl, (codes " ", [], codes ", static() {}, await() {}, yield() {}, let() {}", refl, refl, refl, refl, ([], codes " static() {}, await() {}, yield() {}, let() {}", refl, refl, refl, refl, refl, (codes " ", codes "() {}, await() {}, yield() {}, let() {}", refl, refl, refl, refl, refl, ([], [], codes " {}, await() {}, yield() {}, let() {}", refl, refl, refl, refl, (codes " ", [], codes ", await() {}, yield() {}, let() {}", refl, refl, refl, refl, ([], codes " await() {}, yield() {}, let() {}", refl, refl, refl, refl, refl, (codes " ", codes "() {}, yield() {}, let() {}", refl, refl, refl, refl, refl, ([], [], codes " {}, yield() {}, let() {}", refl, refl, refl, refl, (codes " ", [], codes ", yield() {}, let() {}", refl, refl, refl, refl, ([], codes " yield() {}, let() {}", refl, refl, refl, refl, refl, (codes " ", codes "() {}, let() {}", refl, refl, refl, refl, refl, ([], [], codes " {}, let() {}", refl, refl, refl, refl, (codes " ", [], codes ", let() {}", refl, refl, refl, refl, ([], codes " let() {}", refl, refl, refl, refl, refl, (codes " ", codes "() {}", refl, refl, refl, refl, refl, ([], [], codes " {}", refl, refl, refl, refl, (codes " ", [], [], refl, refl, refl, refl, refl))))))))))))))))))))))))))), refl), ([], [], refl, refl, refl, refl, refl, refl)),
  grammar.a_module (grammar.module_items refl (grammar.last_module_item (grammar.a_module_statement (grammar.a_statement (grammar.an_expression_statement (grammar.a_semicolon {a = group false Round (group false Brace (word (codes "async") (group false Round done (group false Brace done (sign comma (word (codes "get") (group false Round done (group false Brace done (sign comma (word (codes "set") (group false Round done (group false Brace done (sign comma (word (codes "static") (group false Round done (group false Brace done (sign comma (word (codes "await") (group false Round done (group false Brace done (sign comma (word (codes "yield") (group false Round done (group false Brace done (sign comma (word (codes "let") (group false Round done (group false Brace done done))))))))))))))))))))))))))) done) done} false refl) refl (grammar.an_assignment (primary_value (grammar.in_parentheses (grammar.an_assignment (primary_value (grammar.an_object (grammar.first_property {a = word (codes "async") (group false Round done (group false Brace done done))} false refl (grammar.a_method (grammar.a_plain_method (grammar.a_method_behind_words {a = word (codes "async") done} false false refl (grammar.a_public_key (grammar.a_name_key value_async)) grammar.no_parameter (grammar.statements refl grammar.no_statement)))) (grammar.first_property {a = word (codes "get") (group false Round done (group false Brace done done))} false refl (grammar.a_method (grammar.a_plain_method (grammar.a_method_behind_words {a = word (codes "get") done} false false refl (grammar.a_public_key (grammar.a_name_key value_get)) grammar.no_parameter (grammar.statements refl grammar.no_statement)))) (grammar.first_property {a = word (codes "set") (group false Round done (group false Brace done done))} false refl (grammar.a_method (grammar.a_plain_method (grammar.a_method_behind_words {a = word (codes "set") done} false false refl (grammar.a_public_key (grammar.a_name_key value_set)) grammar.no_parameter (grammar.statements refl grammar.no_statement)))) (grammar.first_property {a = word (codes "static") (group false Round done (group false Brace done done))} false refl (grammar.a_method (grammar.a_plain_method (grammar.a_method_behind_words {a = word (codes "static") done} false false refl (grammar.a_public_key (grammar.a_name_key value_static)) grammar.no_parameter (grammar.statements refl grammar.no_statement)))) (grammar.first_property {a = word (codes "await") (group false Round done (group false Brace done done))} false refl (grammar.a_method (grammar.a_plain_method (grammar.a_method_behind_words {a = word (codes "await") done} false false refl (grammar.a_public_key (grammar.a_name_key value_await)) grammar.no_parameter (grammar.statements refl grammar.no_statement)))) (grammar.first_property {a = word (codes "yield") (group false Round done (group false Brace done done))} false refl (grammar.a_method (grammar.a_plain_method (grammar.a_method_behind_words {a = word (codes "yield") done} false false refl (grammar.a_public_key (grammar.a_name_key value_yield)) grammar.no_parameter (grammar.statements refl grammar.no_statement)))) (grammar.last_property (grammar.a_method (grammar.a_plain_method (grammar.a_method_behind_words {a = word (codes "let") done} false false refl (grammar.a_public_key (grammar.a_name_key value_let)) grammar.no_parameter (grammar.statements refl grammar.no_statement)))))))))))))))))))))),
)

pub words_as_shorthands : IsRead (codes "({async, get, set, of, a: async});") (program_of no_trees (more (statement_of (tree.parenthesized (nothing_of 0) (tree.object_expression (nothing_of 0) (more (tree.object_property (property_values Init false true false) (key_of (codes "async")) (reference_of (codes "async"))) (more (tree.object_property (property_values Init false true false) (key_of (codes "get")) (reference_of (codes "get"))) (more (tree.object_property (property_values Init false true false) (key_of (codes "set")) (reference_of (codes "set"))) (more (tree.object_property (property_values Init false true false) (key_of (codes "of")) (reference_of (codes "of"))) (more (tree.object_property (property_values Init false false false) (key_of (codes "a")) (reference_of (codes "async"))) no_trees)))))))) no_trees))
unfolding unicode_ident longer_stands word_value
words_as_shorthands = (
  group false Round (group false Brace (word (codes "async") (sign comma (word (codes "get") (sign comma (word (codes "set") (sign comma (word (codes "of") (sign comma (word (codes "a") (sign colon (word (codes "async") done))))))))))) done) (sign semicolon done),
  ([], codes "{async, get, set, of, a: async}", codes ";", refl, refl, refl, ([], codes "async, get, set, of, a: async", [], refl, refl, refl, ([], codes ", get, set, of, a: async", refl, refl, refl, refl, refl, ([], codes " get, set, of, a: async", refl, refl, refl, refl, refl, (codes " ", codes ", set, of, a: async", refl, refl, refl, refl, refl, ([], codes " set, of, a: async", refl, refl, refl, refl, refl, (codes " ", codes ", of, a: async", refl, refl, refl, refl, refl, ([], codes " of, a: async", refl, refl, refl, refl, refl, (codes " ", codes ", a: async", refl, refl, refl, refl, refl, ([], codes " a: async", refl, refl, refl, refl, refl, (codes " ", codes ": async", refl, refl, refl, refl, refl, ([], codes " async", refl, refl, refl, refl, refl, (codes " ", [], refl, refl, refl, refl, refl, refl))))))))))), refl), ([], [], refl, refl, refl, refl, refl, refl)),
  grammar.a_module (grammar.module_items refl (grammar.last_module_item (grammar.a_module_statement (grammar.a_statement (grammar.an_expression_statement (grammar.a_semicolon {a = group false Round (group false Brace (word (codes "async") (sign comma (word (codes "get") (sign comma (word (codes "set") (sign comma (word (codes "of") (sign comma (word (codes "a") (sign colon (word (codes "async") done))))))))))) done) done} false refl) refl (grammar.an_assignment (primary_value (grammar.in_parentheses (grammar.an_assignment (primary_value (grammar.an_object (grammar.first_property {a = word (codes "async") done} false refl (grammar.a_shorthand value_async free_async) (grammar.first_property {a = word (codes "get") done} false refl (grammar.a_shorthand value_get free_get) (grammar.first_property {a = word (codes "set") done} false refl (grammar.a_shorthand value_set free_set) (grammar.first_property {a = word (codes "of") done} false refl (grammar.a_shorthand value_of free_of) (grammar.last_property (grammar.a_property {a = word (codes "a") done} false refl (grammar.a_name_key value_a) (primary_value (grammar.a_reference value_async free_async))))))))))))))))))),
)

pub words_as_targets : IsRead (codes "({async = 1, get: set = 2} = a);") (program_of no_trees (more (statement_of (tree.parenthesized (nothing_of 0) (tree.assignment (bare (assignment_operator assignment_operators.Assign ∷ [])) (tree.object_target (nothing_of 0) (more (tree.target_property (computed_values false) (key_of (codes "async")) (tree.target_with_default (nothing_of 0) (reference_of (codes "async")) (tree.numeric_literal (by_text (codes "1"))))) (more (tree.target_property (computed_values false) (key_of (codes "get")) (tree.target_with_default (nothing_of 0) (reference_of (codes "set")) (tree.numeric_literal (by_text (codes "2"))))) no_trees)) absent) (reference_of (codes "a"))))) no_trees))
unfolding unicode_ident longer_stands word_value longer_number_stands spells_number
words_as_targets = (
  group false Round (group false Brace (word (codes "async") (sign equal (piece false (Number (codes "1")) (sign comma (word (codes "get") (sign colon (word (codes "set") (sign equal (piece false (Number (codes "2")) done))))))))) (sign equal (word (codes "a") done))) (sign semicolon done),
  ([], codes "{async = 1, get: set = 2} = a", codes ";", refl, refl, refl, ([], codes "async = 1, get: set = 2", codes " = a", refl, refl, refl, ([], codes " = 1, get: set = 2", refl, refl, refl, refl, refl, (codes " ", codes " 1, get: set = 2", refl, refl, refl, refl, refl, (codes " ", codes ", get: set = 2", refl, refl, refl, refl, refl, ([], codes " get: set = 2", refl, refl, refl, refl, refl, (codes " ", codes ": set = 2", refl, refl, refl, refl, refl, ([], codes " set = 2", refl, refl, refl, refl, refl, (codes " ", codes " = 2", refl, refl, refl, refl, refl, (codes " ", codes " 2", refl, refl, refl, refl, refl, (codes " ", [], refl, refl, refl, refl, refl, refl))))))))), (codes " ", codes " a", refl, refl, refl, refl, refl, (codes " ", [], refl, refl, refl, refl, refl, refl))), ([], [], refl, refl, refl, refl, refl, refl)),
  grammar.a_module (grammar.module_items refl (grammar.last_module_item (grammar.a_module_statement (grammar.a_statement (grammar.an_expression_statement (grammar.a_semicolon {a = group false Round (group false Brace (word (codes "async") (sign equal (piece false (Number (codes "1")) (sign comma (word (codes "get") (sign colon (word (codes "set") (sign equal (piece false (Number (codes "2")) done))))))))) (sign equal (word (codes "a") done))) done} false refl) refl (grammar.an_assignment (primary_value (grammar.in_parentheses (grammar.an_assignment (grammar.an_assignment_to_pattern {a = group false Brace (word (codes "async") (sign equal (piece false (Number (codes "1")) (sign comma (word (codes "get") (sign colon (word (codes "set") (sign equal (piece false (Number (codes "2")) done))))))))) done} false refl (grammar.an_object_target (grammar.first_target_property {a = word (codes "async") (sign equal (piece false (Number (codes "1")) done))} false refl (grammar.a_target_shorthand_with_default value_async free_async (primary_value (grammar.a_number refl))) (grammar.last_target_property (grammar.a_target_property {a = word (codes "get") done} false refl (grammar.a_name_key value_get) (grammar.a_target_with_default {a = word (codes "set") done} false refl (primary_left (grammar.a_reference value_set free_set)) refl (primary_value (grammar.a_number refl)) refl))))) (primary_value (grammar.a_reference value_a free_a)))))))))))),
)

pub async_as_key : IsRead (codes "({async\n() {}});") (program_of no_trees (more (statement_of (tree.parenthesized (nothing_of 0) (tree.object_expression (nothing_of 0) (more (tree.object_property (property_values Init true false false) (key_of (codes "async")) (function_of kinds.Expression false false absent no_trees absent no_trees no_trees)) no_trees)))) no_trees))
unfolding unicode_ident longer_stands word_value
async_as_key = (
  group false Round (group false Brace (word (codes "async") (group true Round done (group false Brace done done))) done) (sign semicolon done),
  ([], codes "{async\n() {}}", codes ";", refl, refl, refl, ([], codes "async\n() {}", [], refl, refl, refl, ([], codes "\n() {}", refl, refl, refl, refl, refl, (codes "\n", [], codes " {}", refl, refl, refl, refl, (codes " ", [], [], refl, refl, refl, refl, refl))), refl), ([], [], refl, refl, refl, refl, refl, refl)),
  grammar.a_module (grammar.module_items refl (grammar.last_module_item (grammar.a_module_statement (grammar.a_statement (grammar.an_expression_statement (grammar.a_semicolon {a = group false Round (group false Brace (word (codes "async") (group true Round done (group false Brace done done))) done) done} false refl) refl (grammar.an_assignment (primary_value (grammar.in_parentheses (grammar.an_assignment (primary_value (grammar.an_object (grammar.last_property (grammar.a_method (grammar.a_plain_method (grammar.a_method_behind_words {a = word (codes "async") done} true false refl (grammar.a_public_key (grammar.a_name_key value_async)) grammar.no_parameter (grammar.statements refl grammar.no_statement)))))))))))))))),
)

pub accessors_on_two_lines : IsRead (codes "({get\na() {}, set\nb(c) {}});") (program_of no_trees (more (statement_of (tree.parenthesized (nothing_of 0) (tree.object_expression (nothing_of 0) (more (tree.object_property (property_values Get false false false) (key_of (codes "a")) (function_of kinds.Expression false false absent no_trees absent no_trees no_trees)) (more (tree.object_property (property_values Set false false false) (key_of (codes "b")) (function_of kinds.Expression false false absent (more (tree.formal_parameter (nothing_of 3) (name_of (codes "c")) absent) no_trees) absent no_trees no_trees)) no_trees))))) no_trees))
unfolding unicode_ident longer_stands word_value
accessors_on_two_lines = (
  group false Round (group false Brace (word (codes "get") (piece true (Word (codes "a")) (group false Round done (group false Brace done (sign comma (word (codes "set") (piece true (Word (codes "b")) (group false Round (word (codes "c") done) (group false Brace done done))))))))) done) (sign semicolon done),
  ([], codes "{get\na() {}, set\nb(c) {}}", codes ";", refl, refl, refl, ([], codes "get\na() {}, set\nb(c) {}", [], refl, refl, refl, ([], codes "\na() {}, set\nb(c) {}", refl, refl, refl, refl, refl, (codes "\n", codes "() {}, set\nb(c) {}", refl, refl, refl, refl, refl, ([], [], codes " {}, set\nb(c) {}", refl, refl, refl, refl, (codes " ", [], codes ", set\nb(c) {}", refl, refl, refl, refl, ([], codes " set\nb(c) {}", refl, refl, refl, refl, refl, (codes " ", codes "\nb(c) {}", refl, refl, refl, refl, refl, (codes "\n", codes "(c) {}", refl, refl, refl, refl, refl, ([], codes "c", codes " {}", refl, refl, refl, ([], [], refl, refl, refl, refl, refl, refl), (codes " ", [], [], refl, refl, refl, refl, refl))))))))), refl), ([], [], refl, refl, refl, refl, refl, refl)),
  grammar.a_module (grammar.module_items refl (grammar.last_module_item (grammar.a_module_statement (grammar.a_statement (grammar.an_expression_statement (grammar.a_semicolon {a = group false Round (group false Brace (word (codes "get") (piece true (Word (codes "a")) (group false Round done (group false Brace done (sign comma (word (codes "set") (piece true (Word (codes "b")) (group false Round (word (codes "c") done) (group false Brace done done))))))))) done) done} false refl) refl (grammar.an_assignment (primary_value (grammar.in_parentheses (grammar.an_assignment (primary_value (grammar.an_object (grammar.first_property {a = word (codes "get") (piece true (Word (codes "a")) (group false Round done (group false Brace done done)))} false refl (grammar.a_method (grammar.a_getter {a = piece true (Word (codes "a")) done} false false refl (grammar.a_public_key (grammar.a_name_key value_a)) (grammar.statements refl grammar.no_statement))) (grammar.last_property (grammar.a_method (grammar.a_setter {a = piece true (Word (codes "b")) done} false false refl (grammar.a_public_key (grammar.a_name_key value_b)) (grammar.a_parameter (grammar.a_bound_name value_c free_c)) (grammar.statements refl grammar.no_statement)))))))))))))))),
)

pub keys_of_methods : IsRead (codes "({async 1() {}, async 'a'() {}, async [b]() {}, *[c]() {}, *1n() {}});") (program_of no_trees (more (statement_of (tree.parenthesized (nothing_of 0) (tree.object_expression (nothing_of 0) (more (tree.object_property (property_values Init true false false) (tree.numeric_literal (by_text (codes "1"))) (function_of kinds.Expression true false absent no_trees absent no_trees no_trees)) (more (tree.object_property (property_values Init true false false) (tree.string_literal (bare (units (codes "a") ∷ []))) (function_of kinds.Expression true false absent no_trees absent no_trees no_trees)) (more (tree.object_property (property_values Init true false true) (reference_of (codes "b")) (function_of kinds.Expression true false absent no_trees absent no_trees no_trees)) (more (tree.object_property (property_values Init true false true) (reference_of (codes "c")) (function_of kinds.Expression false true absent no_trees absent no_trees no_trees)) (more (tree.object_property (property_values Init true false false) (tree.big_int_literal (named (codes "1"))) (function_of kinds.Expression false true absent no_trees absent no_trees no_trees)) no_trees)))))))) no_trees))
unfolding unicode_ident longer_stands word_value string_value longer_number_stands spells_number
keys_of_methods = (
  group false Round (group false Brace (word (codes "async") (piece false (Number (codes "1")) (group false Round done (group false Brace done (sign comma (word (codes "async") (piece false (Quoted Single (codes "a")) (group false Round done (group false Brace done (sign comma (word (codes "async") (group false Square (word (codes "b") done) (group false Round done (group false Brace done (sign comma (sign star (group false Square (word (codes "c") done) (group false Round done (group false Brace done (sign comma (sign star (piece false (Number (codes "1n")) (group false Round done (group false Brace done done)))))))))))))))))))))))) done) (sign semicolon done),
  ([], codes "{async 1() {}, async 'a'() {}, async [b]() {}, *[c]() {}, *1n() {}}", codes ";", refl, refl, refl, ([], codes "async 1() {}, async 'a'() {}, async [b]() {}, *[c]() {}, *1n() {}", [], refl, refl, refl, ([], codes " 1() {}, async 'a'() {}, async [b]() {}, *[c]() {}, *1n() {}", refl, refl, refl, refl, refl, (codes " ", codes "() {}, async 'a'() {}, async [b]() {}, *[c]() {}, *1n() {}", refl, refl, refl, refl, refl, ([], [], codes " {}, async 'a'() {}, async [b]() {}, *[c]() {}, *1n() {}", refl, refl, refl, refl, (codes " ", [], codes ", async 'a'() {}, async [b]() {}, *[c]() {}, *1n() {}", refl, refl, refl, refl, ([], codes " async 'a'() {}, async [b]() {}, *[c]() {}, *1n() {}", refl, refl, refl, refl, refl, (codes " ", codes " 'a'() {}, async [b]() {}, *[c]() {}, *1n() {}", refl, refl, refl, refl, refl, (codes " ", codes "() {}, async [b]() {}, *[c]() {}, *1n() {}", refl, refl, refl, refl, refl, ([], [], codes " {}, async [b]() {}, *[c]() {}, *1n() {}", refl, refl, refl, refl, (codes " ", [], codes ", async [b]() {}, *[c]() {}, *1n() {}", refl, refl, refl, refl, ([], codes " async [b]() {}, *[c]() {}, *1n() {}", refl, refl, refl, refl, refl, (codes " ", codes " [b]() {}, *[c]() {}, *1n() {}", refl, refl, refl, refl, refl, (codes " ", codes "b", codes "() {}, *[c]() {}, *1n() {}", refl, refl, refl, ([], [], refl, refl, refl, refl, refl, refl), ([], [], codes " {}, *[c]() {}, *1n() {}", refl, refl, refl, refl, (codes " ", [], codes ", *[c]() {}, *1n() {}", refl, refl, refl, refl, ([], codes " *[c]() {}, *1n() {}", refl, refl, refl, refl, refl, (codes " ", codes "[c]() {}, *1n() {}", refl, refl, refl, refl, refl, ([], codes "c", codes "() {}, *1n() {}", refl, refl, refl, ([], [], refl, refl, refl, refl, refl, refl), ([], [], codes " {}, *1n() {}", refl, refl, refl, refl, (codes " ", [], codes ", *1n() {}", refl, refl, refl, refl, ([], codes " *1n() {}", refl, refl, refl, refl, refl, (codes " ", codes "1n() {}", refl, refl, refl, refl, refl, ([], codes "() {}", refl, refl, refl, refl, refl, ([], [], codes " {}", refl, refl, refl, refl, (codes " ", [], [], refl, refl, refl, refl, refl)))))))))))))))))))))))), refl), ([], [], refl, refl, refl, refl, refl, refl)),
  grammar.a_module (grammar.module_items refl (grammar.last_module_item (grammar.a_module_statement (grammar.a_statement (grammar.an_expression_statement (grammar.a_semicolon {a = group false Round (group false Brace (word (codes "async") (piece false (Number (codes "1")) (group false Round done (group false Brace done (sign comma (word (codes "async") (piece false (Quoted Single (codes "a")) (group false Round done (group false Brace done (sign comma (word (codes "async") (group false Square (word (codes "b") done) (group false Round done (group false Brace done (sign comma (sign star (group false Square (word (codes "c") done) (group false Round done (group false Brace done (sign comma (sign star (piece false (Number (codes "1n")) (group false Round done (group false Brace done done)))))))))))))))))))))))) done) done} false refl) refl (grammar.an_assignment (primary_value (grammar.in_parentheses (grammar.an_assignment (primary_value (grammar.an_object (grammar.first_property {a = word (codes "async") (piece false (Number (codes "1")) (group false Round done (group false Brace done done)))} false refl (grammar.a_method (grammar.an_async_method refl (grammar.a_method_behind_words {a = piece false (Number (codes "1")) done} false false refl (grammar.a_public_key (grammar.a_number_key refl)) grammar.no_parameter (grammar.statements refl grammar.no_statement)))) (grammar.first_property {a = word (codes "async") (piece false (Quoted Single (codes "a")) (group false Round done (group false Brace done done)))} false refl (grammar.a_method (grammar.an_async_method refl (grammar.a_method_behind_words {a = piece false (Quoted Single (codes "a")) done} false false refl (grammar.a_public_key (grammar.a_string_key refl refl)) grammar.no_parameter (grammar.statements refl grammar.no_statement)))) (grammar.first_property {a = word (codes "async") (group false Square (word (codes "b") done) (group false Round done (group false Brace done done)))} false refl (grammar.a_method (grammar.an_async_method refl (grammar.a_method_behind_words {a = group false Square (word (codes "b") done) done} false false refl (grammar.a_public_key (grammar.a_computed_key (primary_value (grammar.a_reference value_b free_b)))) grammar.no_parameter (grammar.statements refl grammar.no_statement)))) (grammar.first_property {a = sign star (group false Square (word (codes "c") done) (group false Round done (group false Brace done done)))} false refl (grammar.a_method (grammar.a_generator_method (grammar.a_method_behind_words {a = group false Square (word (codes "c") done) done} false false refl (grammar.a_public_key (grammar.a_computed_key (primary_value (grammar.a_reference value_c free_c)))) grammar.no_parameter (grammar.statements refl grammar.no_statement)))) (grammar.last_property (grammar.a_method (grammar.a_generator_method (grammar.a_method_behind_words {a = piece false (Number (codes "1n")) done} false false refl (grammar.a_public_key (grammar.a_big_integer_key refl)) grammar.no_parameter (grammar.statements refl grammar.no_statement)))))))))))))))))))),
)

pub escaped_keys : IsRead (codes "({g\\u0065t() {}, s\\u0065t: a, if\\u0066: b, i\\u0066: c});") (program_of no_trees (more (statement_of (tree.parenthesized (nothing_of 0) (tree.object_expression (nothing_of 0) (more (tree.object_property (property_values Init true false false) (key_of (codes "get")) (function_of kinds.Expression false false absent no_trees absent no_trees no_trees)) (more (tree.object_property (property_values Init false false false) (key_of (codes "set")) (reference_of (codes "a"))) (more (tree.object_property (property_values Init false false false) (key_of (codes "iff")) (reference_of (codes "b"))) (more (tree.object_property (property_values Init false false false) (key_of (codes "if")) (reference_of (codes "c"))) no_trees))))))) no_trees))
unfolding unicode_ident longer_stands word_value
escaped_keys = (
  group false Round (group false Brace (word (codes "g\\u0065t") (group false Round done (group false Brace done (sign comma (word (codes "s\\u0065t") (sign colon (word (codes "a") (sign comma (word (codes "if\\u0066") (sign colon (word (codes "b") (sign comma (word (codes "i\\u0066") (sign colon (word (codes "c") done))))))))))))))) done) (sign semicolon done),
  ([], codes "{g\\u0065t() {}, s\\u0065t: a, if\\u0066: b, i\\u0066: c}", codes ";", refl, refl, refl, ([], codes "g\\u0065t() {}, s\\u0065t: a, if\\u0066: b, i\\u0066: c", [], refl, refl, refl, ([], codes "() {}, s\\u0065t: a, if\\u0066: b, i\\u0066: c", refl, refl, refl, refl, refl, ([], [], codes " {}, s\\u0065t: a, if\\u0066: b, i\\u0066: c", refl, refl, refl, refl, (codes " ", [], codes ", s\\u0065t: a, if\\u0066: b, i\\u0066: c", refl, refl, refl, refl, ([], codes " s\\u0065t: a, if\\u0066: b, i\\u0066: c", refl, refl, refl, refl, refl, (codes " ", codes ": a, if\\u0066: b, i\\u0066: c", refl, refl, refl, refl, refl, ([], codes " a, if\\u0066: b, i\\u0066: c", refl, refl, refl, refl, refl, (codes " ", codes ", if\\u0066: b, i\\u0066: c", refl, refl, refl, refl, refl, ([], codes " if\\u0066: b, i\\u0066: c", refl, refl, refl, refl, refl, (codes " ", codes ": b, i\\u0066: c", refl, refl, refl, refl, refl, ([], codes " b, i\\u0066: c", refl, refl, refl, refl, refl, (codes " ", codes ", i\\u0066: c", refl, refl, refl, refl, refl, ([], codes " i\\u0066: c", refl, refl, refl, refl, refl, (codes " ", codes ": c", refl, refl, refl, refl, refl, ([], codes " c", refl, refl, refl, refl, refl, (codes " ", [], refl, refl, refl, refl, refl, refl))))))))))))))), refl), ([], [], refl, refl, refl, refl, refl, refl)),
  grammar.a_module (grammar.module_items refl (grammar.last_module_item (grammar.a_module_statement (grammar.a_statement (grammar.an_expression_statement (grammar.a_semicolon {a = group false Round (group false Brace (word (codes "g\\u0065t") (group false Round done (group false Brace done (sign comma (word (codes "s\\u0065t") (sign colon (word (codes "a") (sign comma (word (codes "if\\u0066") (sign colon (word (codes "b") (sign comma (word (codes "i\\u0066") (sign colon (word (codes "c") done))))))))))))))) done) done} false refl) refl (grammar.an_assignment (primary_value (grammar.in_parentheses (grammar.an_assignment (primary_value (grammar.an_object (grammar.first_property {a = word (codes "g\\u0065t") (group false Round done (group false Brace done done))} false refl (grammar.a_method (grammar.a_plain_method (grammar.a_method_behind_words {a = word (codes "g\\u0065t") done} false false refl (grammar.a_public_key (grammar.a_name_key value_g_u0065t)) grammar.no_parameter (grammar.statements refl grammar.no_statement)))) (grammar.first_property {a = word (codes "s\\u0065t") (sign colon (word (codes "a") done))} false refl (grammar.a_property {a = word (codes "s\\u0065t") done} false refl (grammar.a_name_key value_s_u0065t) (primary_value (grammar.a_reference value_a free_a))) (grammar.first_property {a = word (codes "if\\u0066") (sign colon (word (codes "b") done))} false refl (grammar.a_property {a = word (codes "if\\u0066") done} false refl (grammar.a_name_key value_if_u0066) (primary_value (grammar.a_reference value_b free_b))) (grammar.last_property (grammar.a_property {a = word (codes "i\\u0066") done} false refl (grammar.a_name_key value_i_u0066) (primary_value (grammar.a_reference value_c free_c)))))))))))))))))),
)
