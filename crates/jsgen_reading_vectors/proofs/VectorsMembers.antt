-- Generated from tools/vectors/chosen.json; edit that and run tools/vectors/generate.
-- That they are read so: members.
use Rattle.std.proofs.Common.{[], ◌∷◌, true, false, codes, refl}
use Rattle.unicode_ident.proofs.Computing.{unicode_ident}
use Rattle.jsgen_syntax.specs.Escapes.{word_value}
use Rattle.jsgen_syntax.specs.Strings.{string_value}
use Rattle.jsgen_syntax.specs.declared.quote.Quote.TheVariants.{Single}
use Rattle.jsgen_tree.specs.declared.collections.PropertyKind.TheVariants.{Init, Get, Set}
use Rattle.jsgen_tree.specs.declared.functions.FunctionKind.TheVariants as kinds
use Rattle.jsgen_tree.specs.declared.classes.ClassKind.TheVariants as class_kinds
use Rattle.jsgen_tree.specs.Atom.{units}
use Rattle.jsgen_tree.specs.Tree.{absent, given, no_trees, more}
use Rattle.jsgen_tree.specs.Places.{bare}
use Rattle.jsgen_tree.specs.Nodes as tree
use Rattle.jsgen_model.specs.Normal.{nothing_of, named, link_values, by_text}
use Rattle.jsgen_model.specs.Numbers.{spells_number}
use Rattle.jsgen_model.specs.Punctuator.{star, semicolon, equal, arrow, Round, Square, Brace}
use Rattle.jsgen_model.specs.Tokens.{done, piece, group, Word, Number, Quoted, Sign, longer_stands, longer_number_stands}
use Rattle.jsgen_model.specs.Grammar.{function_of, class_of, member_values, field_values, arrow_values}
use Rattle.jsgen_model.specs.Grammar as grammar
use Rattle.jsgen_reading_vectors.specs.Reading.{IsRead, program_of, reference_of, name_of, key_of}
use Rattle.jsgen_reading_vectors.proofs.Written.{word, sign}
use Rattle.jsgen_reading_vectors.proofs.Levels.{primary_value, member_value, unary_value, primary_left, left_unary}
use Rattle.jsgen_reading_vectors.proofs.Names.{free_A, free_a, free_b, free_c, free_d, value_A, value__u0061sync, value_a, value_async, value_await, value_b, value_c, value_d, value_e, value_g_u0065t, value_get, value_if, value_let, value_of, value_set, value_st_u0061tic, value_static, value_x, value_yield}

pub getter_on_two_lines : IsRead (codes "class A { get\nx(){} }") (program_of no_trees (more (class_of class_kinds.Declaration (given (name_of (codes "A"))) absent (more (tree.method_definition (member_values Get false false) (key_of (codes "x")) (function_of kinds.Expression false false absent no_trees absent no_trees no_trees)) no_trees)) no_trees))
unfolding unicode_ident longer_stands word_value
getter_on_two_lines = (
  word (codes "class") (word (codes "A") (group false Brace (word (codes "get") (piece true (Word (codes "x")) (group false Round done (group false Brace done done)))) done)),
  ([], codes " A { get\nx(){} }", refl, refl, refl, refl, refl, (codes " ", codes " { get\nx(){} }", refl, refl, refl, refl, refl, (codes " ", codes " get\nx(){} ", [], refl, refl, refl, (codes " ", codes "\nx(){} ", refl, refl, refl, refl, refl, (codes "\n", codes "(){} ", refl, refl, refl, refl, refl, ([], [], codes "{} ", refl, refl, refl, refl, ([], [], codes " ", refl, refl, refl, refl, refl)))), refl))),
  grammar.a_module (grammar.module_items refl (grammar.last_module_item (grammar.a_module_statement (grammar.a_class_declaration (grammar.a_named_class value_A free_A (grammar.without_heritage (grammar.a_first_member {a = word (codes "get") (piece true (Word (codes "x")) (group false Round done (group false Brace done done)))} refl (grammar.a_member_method (grammar.a_getter {a = piece true (Word (codes "x")) done} false false refl (grammar.a_public_key (grammar.a_name_key value_x)) (grammar.statements refl grammar.no_statement))) grammar.no_member))))))),
)

pub static_field_on_two_lines : IsRead (codes "class A { static\na }") (program_of no_trees (more (class_of class_kinds.Declaration (given (name_of (codes "A"))) absent (more (tree.property_definition (field_values true false) (key_of (codes "a")) absent) no_trees)) no_trees))
unfolding unicode_ident longer_stands word_value
static_field_on_two_lines = (
  word (codes "class") (word (codes "A") (group false Brace (word (codes "static") (piece true (Word (codes "a")) done)) done)),
  ([], codes " A { static\na }", refl, refl, refl, refl, refl, (codes " ", codes " { static\na }", refl, refl, refl, refl, refl, (codes " ", codes " static\na ", [], refl, refl, refl, (codes " ", codes "\na ", refl, refl, refl, refl, refl, (codes "\n", codes " ", refl, refl, refl, refl, refl, refl)), refl))),
  grammar.a_module (grammar.module_items refl (grammar.last_module_item (grammar.a_module_statement (grammar.a_class_declaration (grammar.a_named_class value_A free_A (grammar.without_heritage (grammar.a_last_field (grammar.a_static_field (grammar.a_field_alone (grammar.a_public_key (grammar.a_name_key value_a))))))))))),
)

pub static_generator_on_two_lines : IsRead (codes "class A { static\n*a() {} }") (program_of no_trees (more (class_of class_kinds.Declaration (given (name_of (codes "A"))) absent (more (tree.method_definition (member_values Init true false) (key_of (codes "a")) (function_of kinds.Expression false true absent no_trees absent no_trees no_trees)) no_trees)) no_trees))
unfolding unicode_ident longer_stands word_value
static_generator_on_two_lines = (
  word (codes "class") (word (codes "A") (group false Brace (word (codes "static") (piece true (Sign star) (word (codes "a") (group false Round done (group false Brace done done))))) done)),
  ([], codes " A { static\n*a() {} }", refl, refl, refl, refl, refl, (codes " ", codes " { static\n*a() {} }", refl, refl, refl, refl, refl, (codes " ", codes " static\n*a() {} ", [], refl, refl, refl, (codes " ", codes "\n*a() {} ", refl, refl, refl, refl, refl, (codes "\n", codes "a() {} ", refl, refl, refl, refl, refl, ([], codes "() {} ", refl, refl, refl, refl, refl, ([], [], codes " {} ", refl, refl, refl, refl, (codes " ", [], codes " ", refl, refl, refl, refl, refl))))), refl))),
  grammar.a_module (grammar.module_items refl (grammar.last_module_item (grammar.a_module_statement (grammar.a_class_declaration (grammar.a_named_class value_A free_A (grammar.without_heritage (grammar.a_first_member {a = word (codes "static") (piece true (Sign star) (word (codes "a") (group false Round done (group false Brace done done))))} refl (grammar.a_static_method (grammar.a_generator_method (grammar.a_method_behind_words {a = word (codes "a") done} false false refl (grammar.a_public_key (grammar.a_name_key value_a)) grammar.no_parameter (grammar.statements refl grammar.no_statement)))) grammar.no_member))))))),
)

pub field_named_static : IsRead (codes "class A { static\n}") (program_of no_trees (more (class_of class_kinds.Declaration (given (name_of (codes "A"))) absent (more (tree.property_definition (field_values false false) (key_of (codes "static")) absent) no_trees)) no_trees))
unfolding unicode_ident longer_stands word_value
field_named_static = (
  word (codes "class") (word (codes "A") (group false Brace (word (codes "static") done) done)),
  ([], codes " A { static\n}", refl, refl, refl, refl, refl, (codes " ", codes " { static\n}", refl, refl, refl, refl, refl, (codes " ", codes " static\n", [], refl, refl, refl, (codes " ", codes "\n", refl, refl, refl, refl, refl, refl), refl))),
  grammar.a_module (grammar.module_items refl (grammar.last_module_item (grammar.a_module_statement (grammar.a_class_declaration (grammar.a_named_class value_A free_A (grammar.without_heritage (grammar.a_last_field (grammar.a_field (grammar.a_field_alone (grammar.a_public_key (grammar.a_name_key value_static))))))))))),
)

pub value_of_static : IsRead (codes "class A { static = {} }") (program_of no_trees (more (class_of class_kinds.Declaration (given (name_of (codes "A"))) absent (more (tree.property_definition (field_values false false) (key_of (codes "static")) (given (tree.object_expression (nothing_of 0) no_trees))) no_trees)) no_trees))
unfolding unicode_ident longer_stands word_value
value_of_static = (
  word (codes "class") (word (codes "A") (group false Brace (word (codes "static") (sign equal (group false Brace done done))) done)),
  ([], codes " A { static = {} }", refl, refl, refl, refl, refl, (codes " ", codes " { static = {} }", refl, refl, refl, refl, refl, (codes " ", codes " static = {} ", [], refl, refl, refl, (codes " ", codes " = {} ", refl, refl, refl, refl, refl, (codes " ", codes " {} ", refl, refl, refl, refl, refl, (codes " ", [], codes " ", refl, refl, refl, refl, refl))), refl))),
  grammar.a_module (grammar.module_items refl (grammar.last_module_item (grammar.a_module_statement (grammar.a_class_declaration (grammar.a_named_class value_A free_A (grammar.without_heritage (grammar.a_last_field (grammar.a_field (grammar.a_field_with_value {a = word (codes "static") done} false refl (grammar.a_public_key (grammar.a_name_key value_static)) (primary_value (grammar.an_object grammar.no_property))))))))))),
)

pub method_named_get : IsRead (codes "class A { get\n() {} }") (program_of no_trees (more (class_of class_kinds.Declaration (given (name_of (codes "A"))) absent (more (tree.method_definition (member_values Init false false) (key_of (codes "get")) (function_of kinds.Expression false false absent no_trees absent no_trees no_trees)) no_trees)) no_trees))
unfolding unicode_ident longer_stands word_value
method_named_get = (
  word (codes "class") (word (codes "A") (group false Brace (word (codes "get") (group true Round done (group false Brace done done))) done)),
  ([], codes " A { get\n() {} }", refl, refl, refl, refl, refl, (codes " ", codes " { get\n() {} }", refl, refl, refl, refl, refl, (codes " ", codes " get\n() {} ", [], refl, refl, refl, (codes " ", codes "\n() {} ", refl, refl, refl, refl, refl, (codes "\n", [], codes " {} ", refl, refl, refl, refl, (codes " ", [], codes " ", refl, refl, refl, refl, refl))), refl))),
  grammar.a_module (grammar.module_items refl (grammar.last_module_item (grammar.a_module_statement (grammar.a_class_declaration (grammar.a_named_class value_A free_A (grammar.without_heritage (grammar.a_first_member {a = word (codes "get") (group true Round done (group false Brace done done))} refl (grammar.a_member_method (grammar.a_plain_method (grammar.a_method_behind_words {a = word (codes "get") done} true false refl (grammar.a_public_key (grammar.a_name_key value_get)) grammar.no_parameter (grammar.statements refl grammar.no_statement)))) grammar.no_member))))))),
)

pub fields_named_by_words : IsRead (codes "class A { get; set; async; static; of; await; yield; let }") (program_of no_trees (more (class_of class_kinds.Declaration (given (name_of (codes "A"))) absent (more (tree.property_definition (field_values false false) (key_of (codes "get")) absent) (more (tree.property_definition (field_values false false) (key_of (codes "set")) absent) (more (tree.property_definition (field_values false false) (key_of (codes "async")) absent) (more (tree.property_definition (field_values false false) (key_of (codes "static")) absent) (more (tree.property_definition (field_values false false) (key_of (codes "of")) absent) (more (tree.property_definition (field_values false false) (key_of (codes "await")) absent) (more (tree.property_definition (field_values false false) (key_of (codes "yield")) absent) (more (tree.property_definition (field_values false false) (key_of (codes "let")) absent) no_trees))))))))) no_trees))
unfolding unicode_ident longer_stands word_value
fields_named_by_words = (
  word (codes "class") (word (codes "A") (group false Brace (word (codes "get") (sign semicolon (word (codes "set") (sign semicolon (word (codes "async") (sign semicolon (word (codes "static") (sign semicolon (word (codes "of") (sign semicolon (word (codes "await") (sign semicolon (word (codes "yield") (sign semicolon (word (codes "let") done))))))))))))))) done)),
  ([], codes " A { get; set; async; static; of; await; yield; let }", refl, refl, refl, refl, refl, (codes " ", codes " { get; set; async; static; of; await; yield; let }", refl, refl, refl, refl, refl, (codes " ", codes " get; set; async; static; of; await; yield; let ", [], refl, refl, refl, (codes " ", codes "; set; async; static; of; await; yield; let ", refl, refl, refl, refl, refl, ([], codes " set; async; static; of; await; yield; let ", refl, refl, refl, refl, refl, (codes " ", codes "; async; static; of; await; yield; let ", refl, refl, refl, refl, refl, ([], codes " async; static; of; await; yield; let ", refl, refl, refl, refl, refl, (codes " ", codes "; static; of; await; yield; let ", refl, refl, refl, refl, refl, ([], codes " static; of; await; yield; let ", refl, refl, refl, refl, refl, (codes " ", codes "; of; await; yield; let ", refl, refl, refl, refl, refl, ([], codes " of; await; yield; let ", refl, refl, refl, refl, refl, (codes " ", codes "; await; yield; let ", refl, refl, refl, refl, refl, ([], codes " await; yield; let ", refl, refl, refl, refl, refl, (codes " ", codes "; yield; let ", refl, refl, refl, refl, refl, ([], codes " yield; let ", refl, refl, refl, refl, refl, (codes " ", codes "; let ", refl, refl, refl, refl, refl, ([], codes " let ", refl, refl, refl, refl, refl, (codes " ", codes " ", refl, refl, refl, refl, refl, refl))))))))))))))), refl))),
  grammar.a_module (grammar.module_items refl (grammar.last_module_item (grammar.a_module_statement (grammar.a_class_declaration (grammar.a_named_class value_A free_A (grammar.without_heritage (grammar.a_first_field {a = word (codes "get") done} false refl (grammar.a_field (grammar.a_field_alone (grammar.a_public_key (grammar.a_name_key value_get)))) (grammar.a_first_field {a = word (codes "set") done} false refl (grammar.a_field (grammar.a_field_alone (grammar.a_public_key (grammar.a_name_key value_set)))) (grammar.a_first_field {a = word (codes "async") done} false refl (grammar.a_field (grammar.a_field_alone (grammar.a_public_key (grammar.a_name_key value_async)))) (grammar.a_first_field {a = word (codes "static") done} false refl (grammar.a_field (grammar.a_field_alone (grammar.a_public_key (grammar.a_name_key value_static)))) (grammar.a_first_field {a = word (codes "of") done} false refl (grammar.a_field (grammar.a_field_alone (grammar.a_public_key (grammar.a_name_key value_of)))) (grammar.a_first_field {a = word (codes "await") done} false refl (grammar.a_field (grammar.a_field_alone (grammar.a_public_key (grammar.a_name_key value_await)))) (grammar.a_first_field {a = word (codes "yield") done} false refl (grammar.a_field (grammar.a_field_alone (grammar.a_public_key (grammar.a_name_key value_yield)))) (grammar.a_last_field (grammar.a_field (grammar.a_field_alone (grammar.a_public_key (grammar.a_name_key value_let)))))))))))))))))),
)

pub methods_of_class : IsRead (codes "class A { get a() {} set a(b) {} async c() {} *d() {} async *e() {} }") (program_of no_trees (more (class_of class_kinds.Declaration (given (name_of (codes "A"))) absent (more (tree.method_definition (member_values Get false false) (key_of (codes "a")) (function_of kinds.Expression false false absent no_trees absent no_trees no_trees)) (more (tree.method_definition (member_values Set false false) (key_of (codes "a")) (function_of kinds.Expression false false absent (more (tree.formal_parameter (nothing_of 3) (name_of (codes "b")) absent) no_trees) absent no_trees no_trees)) (more (tree.method_definition (member_values Init false false) (key_of (codes "c")) (function_of kinds.Expression true false absent no_trees absent no_trees no_trees)) (more (tree.method_definition (member_values Init false false) (key_of (codes "d")) (function_of kinds.Expression false true absent no_trees absent no_trees no_trees)) (more (tree.method_definition (member_values Init false false) (key_of (codes "e")) (function_of kinds.Expression true true absent no_trees absent no_trees no_trees)) no_trees)))))) no_trees))
unfolding unicode_ident longer_stands word_value
methods_of_class = (
  word (codes "class") (word (codes "A") (group false Brace (word (codes "get") (word (codes "a") (group false Round done (group false Brace done (word (codes "set") (word (codes "a") (group false Round (word (codes "b") done) (group false Brace done (word (codes "async") (word (codes "c") (group false Round done (group false Brace done (sign star (word (codes "d") (group false Round done (group false Brace done (word (codes "async") (sign star (word (codes "e") (group false Round done (group false Brace done done))))))))))))))))))))) done)),
  ([], codes " A { get a() {} set a(b) {} async c() {} *d() {} async *e() {} }", refl, refl, refl, refl, refl, (codes " ", codes " { get a() {} set a(b) {} async c() {} *d() {} async *e() {} }", refl, refl, refl, refl, refl, (codes " ", codes " get a() {} set a(b) {} async c() {} *d() {} async *e() {} ", [], refl, refl, refl, (codes " ", codes " a() {} set a(b) {} async c() {} *d() {} async *e() {} ", refl, refl, refl, refl, refl, (codes " ", codes "() {} set a(b) {} async c() {} *d() {} async *e() {} ", refl, refl, refl, refl, refl, ([], [], codes " {} set a(b) {} async c() {} *d() {} async *e() {} ", refl, refl, refl, refl, (codes " ", [], codes " set a(b) {} async c() {} *d() {} async *e() {} ", refl, refl, refl, refl, (codes " ", codes " a(b) {} async c() {} *d() {} async *e() {} ", refl, refl, refl, refl, refl, (codes " ", codes "(b) {} async c() {} *d() {} async *e() {} ", refl, refl, refl, refl, refl, ([], codes "b", codes " {} async c() {} *d() {} async *e() {} ", refl, refl, refl, ([], [], refl, refl, refl, refl, refl, refl), (codes " ", [], codes " async c() {} *d() {} async *e() {} ", refl, refl, refl, refl, (codes " ", codes " c() {} *d() {} async *e() {} ", refl, refl, refl, refl, refl, (codes " ", codes "() {} *d() {} async *e() {} ", refl, refl, refl, refl, refl, ([], [], codes " {} *d() {} async *e() {} ", refl, refl, refl, refl, (codes " ", [], codes " *d() {} async *e() {} ", refl, refl, refl, refl, (codes " ", codes "d() {} async *e() {} ", refl, refl, refl, refl, refl, ([], codes "() {} async *e() {} ", refl, refl, refl, refl, refl, ([], [], codes " {} async *e() {} ", refl, refl, refl, refl, (codes " ", [], codes " async *e() {} ", refl, refl, refl, refl, (codes " ", codes " *e() {} ", refl, refl, refl, refl, refl, (codes " ", codes "e() {} ", refl, refl, refl, refl, refl, ([], codes "() {} ", refl, refl, refl, refl, refl, ([], [], codes " {} ", refl, refl, refl, refl, (codes " ", [], codes " ", refl, refl, refl, refl, refl))))))))))))))))))))), refl))),
  grammar.a_module (grammar.module_items refl (grammar.last_module_item (grammar.a_module_statement (grammar.a_class_declaration (grammar.a_named_class value_A free_A (grammar.without_heritage (grammar.a_first_member {a = word (codes "get") (word (codes "a") (group false Round done (group false Brace done done)))} refl (grammar.a_member_method (grammar.a_getter {a = word (codes "a") done} false false refl (grammar.a_public_key (grammar.a_name_key value_a)) (grammar.statements refl grammar.no_statement))) (grammar.a_first_member {a = word (codes "set") (word (codes "a") (group false Round (word (codes "b") done) (group false Brace done done)))} refl (grammar.a_member_method (grammar.a_setter {a = word (codes "a") done} false false refl (grammar.a_public_key (grammar.a_name_key value_a)) (grammar.a_parameter (grammar.a_bound_name value_b free_b)) (grammar.statements refl grammar.no_statement))) (grammar.a_first_member {a = word (codes "async") (word (codes "c") (group false Round done (group false Brace done done)))} refl (grammar.a_member_method (grammar.an_async_method refl (grammar.a_method_behind_words {a = word (codes "c") done} false false refl (grammar.a_public_key (grammar.a_name_key value_c)) grammar.no_parameter (grammar.statements refl grammar.no_statement)))) (grammar.a_first_member {a = sign star (word (codes "d") (group false Round done (group false Brace done done)))} refl (grammar.a_member_method (grammar.a_generator_method (grammar.a_method_behind_words {a = word (codes "d") done} false false refl (grammar.a_public_key (grammar.a_name_key value_d)) grammar.no_parameter (grammar.statements refl grammar.no_statement)))) (grammar.a_first_member {a = word (codes "async") (sign star (word (codes "e") (group false Round done (group false Brace done done))))} refl (grammar.a_member_method (grammar.an_async_generator_method (grammar.a_method_behind_words {a = word (codes "e") done} false false refl (grammar.a_public_key (grammar.a_name_key value_e)) grammar.no_parameter (grammar.statements refl grammar.no_statement)))) grammar.no_member))))))))))),
)

pub member_on_next_line : IsRead (codes "class A { a = b\n[c] }") (program_of no_trees (more (class_of class_kinds.Declaration (given (name_of (codes "A"))) absent (more (tree.property_definition (field_values false false) (key_of (codes "a")) (given (tree.computed_member (link_values false) (reference_of (codes "b")) (reference_of (codes "c"))))) no_trees)) no_trees))
unfolding unicode_ident longer_stands word_value
member_on_next_line = (
  word (codes "class") (word (codes "A") (group false Brace (word (codes "a") (sign equal (word (codes "b") (group true Square (word (codes "c") done) done)))) done)),
  ([], codes " A { a = b\n[c] }", refl, refl, refl, refl, refl, (codes " ", codes " { a = b\n[c] }", refl, refl, refl, refl, refl, (codes " ", codes " a = b\n[c] ", [], refl, refl, refl, (codes " ", codes " = b\n[c] ", refl, refl, refl, refl, refl, (codes " ", codes " b\n[c] ", refl, refl, refl, refl, refl, (codes " ", codes "\n[c] ", refl, refl, refl, refl, refl, (codes "\n", codes "c", codes " ", refl, refl, refl, ([], [], refl, refl, refl, refl, refl, refl), refl)))), refl))),
  grammar.a_module (grammar.module_items refl (grammar.last_module_item (grammar.a_module_statement (grammar.a_class_declaration (grammar.a_named_class value_A free_A (grammar.without_heritage (grammar.a_last_field (grammar.a_field (grammar.a_field_with_value {a = word (codes "a") done} false refl (grammar.a_public_key (grammar.a_name_key value_a)) (member_value (grammar.a_computed_member {a = word (codes "b") done} true refl (grammar.a_primary (grammar.a_reference value_b free_b)) (grammar.an_assignment (primary_value (grammar.a_reference value_c free_c)))))))))))))),
)

pub semicolons_alone : IsRead (codes "class A { ; ; a; ; b() {}; }") (program_of no_trees (more (class_of class_kinds.Declaration (given (name_of (codes "A"))) absent (more (tree.property_definition (field_values false false) (key_of (codes "a")) absent) (more (tree.method_definition (member_values Init false false) (key_of (codes "b")) (function_of kinds.Expression false false absent no_trees absent no_trees no_trees)) no_trees))) no_trees))
unfolding unicode_ident longer_stands word_value
semicolons_alone = (
  word (codes "class") (word (codes "A") (group false Brace (sign semicolon (sign semicolon (word (codes "a") (sign semicolon (sign semicolon (word (codes "b") (group false Round done (group false Brace done (sign semicolon done))))))))) done)),
  ([], codes " A { ; ; a; ; b() {}; }", refl, refl, refl, refl, refl, (codes " ", codes " { ; ; a; ; b() {}; }", refl, refl, refl, refl, refl, (codes " ", codes " ; ; a; ; b() {}; ", [], refl, refl, refl, (codes " ", codes " ; a; ; b() {}; ", refl, refl, refl, refl, refl, (codes " ", codes " a; ; b() {}; ", refl, refl, refl, refl, refl, (codes " ", codes "; ; b() {}; ", refl, refl, refl, refl, refl, ([], codes " ; b() {}; ", refl, refl, refl, refl, refl, (codes " ", codes " b() {}; ", refl, refl, refl, refl, refl, (codes " ", codes "() {}; ", refl, refl, refl, refl, refl, ([], [], codes " {}; ", refl, refl, refl, refl, (codes " ", [], codes "; ", refl, refl, refl, refl, ([], codes " ", refl, refl, refl, refl, refl, refl))))))))), refl))),
  grammar.a_module (grammar.module_items refl (grammar.last_module_item (grammar.a_module_statement (grammar.a_class_declaration (grammar.a_named_class value_A free_A (grammar.without_heritage (grammar.a_semicolon_alone (grammar.a_semicolon_alone (grammar.a_first_field {a = word (codes "a") done} false refl (grammar.a_field (grammar.a_field_alone (grammar.a_public_key (grammar.a_name_key value_a)))) (grammar.a_semicolon_alone (grammar.a_first_member {a = word (codes "b") (group false Round done (group false Brace done done))} refl (grammar.a_member_method (grammar.a_plain_method (grammar.a_method_behind_words {a = word (codes "b") done} false false refl (grammar.a_public_key (grammar.a_name_key value_b)) grammar.no_parameter (grammar.statements refl grammar.no_statement)))) (grammar.a_semicolon_alone grammar.no_member)))))))))))),
)

pub keys_of_members : IsRead (codes "class A { 1 = 2; 1n; 'use strict'; [a]; [b] = c; if = d }") (program_of no_trees (more (class_of class_kinds.Declaration (given (name_of (codes "A"))) absent (more (tree.property_definition (field_values false false) (tree.numeric_literal (by_text (codes "1"))) (given (tree.numeric_literal (by_text (codes "2"))))) (more (tree.property_definition (field_values false false) (tree.big_int_literal (named (codes "1"))) absent) (more (tree.property_definition (field_values false false) (tree.string_literal (bare (units (codes "use strict") ∷ []))) absent) (more (tree.property_definition (field_values false true) (reference_of (codes "a")) absent) (more (tree.property_definition (field_values false true) (reference_of (codes "b")) (given (reference_of (codes "c")))) (more (tree.property_definition (field_values false false) (key_of (codes "if")) (given (reference_of (codes "d")))) no_trees))))))) no_trees))
unfolding unicode_ident longer_stands word_value string_value longer_number_stands spells_number
keys_of_members = (
  word (codes "class") (word (codes "A") (group false Brace (piece false (Number (codes "1")) (sign equal (piece false (Number (codes "2")) (sign semicolon (piece false (Number (codes "1n")) (sign semicolon (piece false (Quoted Single (codes "use strict")) (sign semicolon (group false Square (word (codes "a") done) (sign semicolon (group false Square (word (codes "b") done) (sign equal (word (codes "c") (sign semicolon (word (codes "if") (sign equal (word (codes "d") done))))))))))))))))) done)),
  ([], codes " A { 1 = 2; 1n; 'use strict'; [a]; [b] = c; if = d }", refl, refl, refl, refl, refl, (codes " ", codes " { 1 = 2; 1n; 'use strict'; [a]; [b] = c; if = d }", refl, refl, refl, refl, refl, (codes " ", codes " 1 = 2; 1n; 'use strict'; [a]; [b] = c; if = d ", [], refl, refl, refl, (codes " ", codes " = 2; 1n; 'use strict'; [a]; [b] = c; if = d ", refl, refl, refl, refl, refl, (codes " ", codes " 2; 1n; 'use strict'; [a]; [b] = c; if = d ", refl, refl, refl, refl, refl, (codes " ", codes "; 1n; 'use strict'; [a]; [b] = c; if = d ", refl, refl, refl, refl, refl, ([], codes " 1n; 'use strict'; [a]; [b] = c; if = d ", refl, refl, refl, refl, refl, (codes " ", codes "; 'use strict'; [a]; [b] = c; if = d ", refl, refl, refl, refl, refl, ([], codes " 'use strict'; [a]; [b] = c; if = d ", refl, refl, refl, refl, refl, (codes " ", codes "; [a]; [b] = c; if = d ", refl, refl, refl, refl, refl, ([], codes " [a]; [b] = c; if = d ", refl, refl, refl, refl, refl, (codes " ", codes "a", codes "; [b] = c; if = d ", refl, refl, refl, ([], [], refl, refl, refl, refl, refl, refl), ([], codes " [b] = c; if = d ", refl, refl, refl, refl, refl, (codes " ", codes "b", codes " = c; if = d ", refl, refl, refl, ([], [], refl, refl, refl, refl, refl, refl), (codes " ", codes " c; if = d ", refl, refl, refl, refl, refl, (codes " ", codes "; if = d ", refl, refl, refl, refl, refl, ([], codes " if = d ", refl, refl, refl, refl, refl, (codes " ", codes " = d ", refl, refl, refl, refl, refl, (codes " ", codes " d ", refl, refl, refl, refl, refl, (codes " ", codes " ", refl, refl, refl, refl, refl, refl))))))))))))))))), refl))),
  grammar.a_module (grammar.module_items refl (grammar.last_module_item (grammar.a_module_statement (grammar.a_class_declaration (grammar.a_named_class value_A free_A (grammar.without_heritage (grammar.a_first_field {a = piece false (Number (codes "1")) (sign equal (piece false (Number (codes "2")) done))} false refl (grammar.a_field (grammar.a_field_with_value {a = piece false (Number (codes "1")) done} false refl (grammar.a_public_key (grammar.a_number_key refl)) (primary_value (grammar.a_number refl)))) (grammar.a_first_field {a = piece false (Number (codes "1n")) done} false refl (grammar.a_field (grammar.a_field_alone (grammar.a_public_key (grammar.a_big_integer_key refl)))) (grammar.a_first_field {a = piece false (Quoted Single (codes "use strict")) done} false refl (grammar.a_field (grammar.a_field_alone (grammar.a_public_key (grammar.a_string_key refl refl)))) (grammar.a_first_field {a = group false Square (word (codes "a") done) done} false refl (grammar.a_field (grammar.a_field_alone (grammar.a_public_key (grammar.a_computed_key (primary_value (grammar.a_reference value_a free_a)))))) (grammar.a_first_field {a = group false Square (word (codes "b") done) (sign equal (word (codes "c") done))} false refl (grammar.a_field (grammar.a_field_with_value {a = group false Square (word (codes "b") done) done} false refl (grammar.a_public_key (grammar.a_computed_key (primary_value (grammar.a_reference value_b free_b)))) (primary_value (grammar.a_reference value_c free_c)))) (grammar.a_last_field (grammar.a_field (grammar.a_field_with_value {a = word (codes "if") done} false refl (grammar.a_public_key (grammar.a_name_key value_if)) (primary_value (grammar.a_reference value_d free_d)))))))))))))))),
)

pub key_awaited : IsRead (codes "class A { [await 1]() {} }") (program_of no_trees (more (class_of class_kinds.Declaration (given (name_of (codes "A"))) absent (more (tree.method_definition (member_values Init false true) (tree.await_expression (nothing_of 0) (tree.numeric_literal (by_text (codes "1")))) (function_of kinds.Expression false false absent no_trees absent no_trees no_trees)) no_trees)) no_trees))
unfolding unicode_ident longer_stands word_value longer_number_stands spells_number
key_awaited = (
  word (codes "class") (word (codes "A") (group false Brace (group false Square (word (codes "await") (piece false (Number (codes "1")) done)) (group false Round done (group false Brace done done))) done)),
  ([], codes " A { [await 1]() {} }", refl, refl, refl, refl, refl, (codes " ", codes " { [await 1]() {} }", refl, refl, refl, refl, refl, (codes " ", codes " [await 1]() {} ", [], refl, refl, refl, (codes " ", codes "await 1", codes "() {} ", refl, refl, refl, ([], codes " 1", refl, refl, refl, refl, refl, (codes " ", [], refl, refl, refl, refl, refl, refl)), ([], [], codes " {} ", refl, refl, refl, refl, (codes " ", [], codes " ", refl, refl, refl, refl, refl))), refl))),
  grammar.a_module (grammar.module_items refl (grammar.last_module_item (grammar.a_module_statement (grammar.a_class_declaration (grammar.a_named_class value_A free_A (grammar.without_heritage (grammar.a_first_member {a = group false Square (word (codes "await") (piece false (Number (codes "1")) done)) (group false Round done (group false Brace done done))} refl (grammar.a_member_method (grammar.a_plain_method (grammar.a_method_behind_words {a = group false Square (word (codes "await") (piece false (Number (codes "1")) done)) done} false false refl (grammar.a_public_key (grammar.a_computed_key (unary_value (grammar.an_await refl (left_unary (primary_left (grammar.a_number refl))))))) grammar.no_parameter (grammar.statements refl grammar.no_statement)))) grammar.no_member))))))),
)

pub async_arrow_as_value : IsRead (codes "class A { a = async () => await b }") (program_of no_trees (more (class_of class_kinds.Declaration (given (name_of (codes "A"))) absent (more (tree.property_definition (field_values false false) (key_of (codes "a")) (given (tree.arrow_function (arrow_values true) (tree.formal_parameters (nothing_of 0) no_trees absent) (tree.await_expression (nothing_of 0) (reference_of (codes "b")))))) no_trees)) no_trees))
unfolding unicode_ident longer_stands word_value
async_arrow_as_value = (
  word (codes "class") (word (codes "A") (group false Brace (word (codes "a") (sign equal (word (codes "async") (group false Round done (sign arrow (word (codes "await") (word (codes "b") done))))))) done)),
  ([], codes " A { a = async () => await b }", refl, refl, refl, refl, refl, (codes " ", codes " { a = async () => await b }", refl, refl, refl, refl, refl, (codes " ", codes " a = async () => await b ", [], refl, refl, refl, (codes " ", codes " = async () => await b ", refl, refl, refl, refl, refl, (codes " ", codes " async () => await b ", refl, refl, refl, refl, refl, (codes " ", codes " () => await b ", refl, refl, refl, refl, refl, (codes " ", [], codes " => await b ", refl, refl, refl, refl, (codes " ", codes " await b ", refl, refl, refl, refl, refl, (codes " ", codes " b ", refl, refl, refl, refl, refl, (codes " ", codes " ", refl, refl, refl, refl, refl, refl))))))), refl))),
  grammar.a_module (grammar.module_items refl (grammar.last_module_item (grammar.a_module_statement (grammar.a_class_declaration (grammar.a_named_class value_A free_A (grammar.without_heritage (grammar.a_last_field (grammar.a_field (grammar.a_field_with_value {a = word (codes "a") done} false refl (grammar.a_public_key (grammar.a_name_key value_a)) (grammar.an_async_arrow refl (grammar.an_arrow_function {a = group false Round done done} refl (grammar.grouped_parameters grammar.no_parameter) refl (unary_value (grammar.an_await refl (left_unary (primary_left (grammar.a_reference value_b free_b)))))))))))))))),
)

pub escaped_words : IsRead (codes "class A { st\\u0061tic; g\\u0065t = a; \\u0061sync() {} }") (program_of no_trees (more (class_of class_kinds.Declaration (given (name_of (codes "A"))) absent (more (tree.property_definition (field_values false false) (key_of (codes "static")) absent) (more (tree.property_definition (field_values false false) (key_of (codes "get")) (given (reference_of (codes "a")))) (more (tree.method_definition (member_values Init false false) (key_of (codes "async")) (function_of kinds.Expression false false absent no_trees absent no_trees no_trees)) no_trees)))) no_trees))
unfolding unicode_ident longer_stands word_value
escaped_words = (
  word (codes "class") (word (codes "A") (group false Brace (word (codes "st\\u0061tic") (sign semicolon (word (codes "g\\u0065t") (sign equal (word (codes "a") (sign semicolon (word (codes "\\u0061sync") (group false Round done (group false Brace done done))))))))) done)),
  ([], codes " A { st\\u0061tic; g\\u0065t = a; \\u0061sync() {} }", refl, refl, refl, refl, refl, (codes " ", codes " { st\\u0061tic; g\\u0065t = a; \\u0061sync() {} }", refl, refl, refl, refl, refl, (codes " ", codes " st\\u0061tic; g\\u0065t = a; \\u0061sync() {} ", [], refl, refl, refl, (codes " ", codes "; g\\u0065t = a; \\u0061sync() {} ", refl, refl, refl, refl, refl, ([], codes " g\\u0065t = a; \\u0061sync() {} ", refl, refl, refl, refl, refl, (codes " ", codes " = a; \\u0061sync() {} ", refl, refl, refl, refl, refl, (codes " ", codes " a; \\u0061sync() {} ", refl, refl, refl, refl, refl, (codes " ", codes "; \\u0061sync() {} ", refl, refl, refl, refl, refl, ([], codes " \\u0061sync() {} ", refl, refl, refl, refl, refl, (codes " ", codes "() {} ", refl, refl, refl, refl, refl, ([], [], codes " {} ", refl, refl, refl, refl, (codes " ", [], codes " ", refl, refl, refl, refl, refl))))))))), refl))),
  grammar.a_module (grammar.module_items refl (grammar.last_module_item (grammar.a_module_statement (grammar.a_class_declaration (grammar.a_named_class value_A free_A (grammar.without_heritage (grammar.a_first_field {a = word (codes "st\\u0061tic") done} false refl (grammar.a_field (grammar.a_field_alone (grammar.a_public_key (grammar.a_name_key value_st_u0061tic)))) (grammar.a_first_field {a = word (codes "g\\u0065t") (sign equal (word (codes "a") done))} false refl (grammar.a_field (grammar.a_field_with_value {a = word (codes "g\\u0065t") done} false refl (grammar.a_public_key (grammar.a_name_key value_g_u0065t)) (primary_value (grammar.a_reference value_a free_a)))) (grammar.a_first_member {a = word (codes "\\u0061sync") (group false Round done (group false Brace done done))} refl (grammar.a_member_method (grammar.a_plain_method (grammar.a_method_behind_words {a = word (codes "\\u0061sync") done} false false refl (grammar.a_public_key (grammar.a_name_key value__u0061sync)) grammar.no_parameter (grammar.statements refl grammar.no_statement)))) grammar.no_member))))))))),
)
