-- Generated from tools/vectors/chosen.json; edit that and run tools/vectors/generate.
-- That they are read so: classes.
use Rattle.std.proofs.Common.{[], ◌∷◌, true, false, codes, refl}
use Rattle.unicode_ident.proofs.Computing.{unicode_ident}
use Rattle.jsgen_syntax.specs.Escapes.{word_value}
use Rattle.jsgen_syntax.specs.declared.operator.BinaryOperator.TheVariants as operators
use Rattle.jsgen_tree.specs.declared.collections.PropertyKind.TheVariants.{Init}
use Rattle.jsgen_tree.specs.declared.functions.FunctionKind.TheVariants as kinds
use Rattle.jsgen_tree.specs.declared.classes.ClassKind.TheVariants as class_kinds
use Rattle.jsgen_tree.specs.Atom.{flag, binary_operator}
use Rattle.jsgen_tree.specs.Tree.{absent, given, no_trees, more}
use Rattle.jsgen_tree.specs.Places.{bare}
use Rattle.jsgen_tree.specs.Nodes as tree
use Rattle.jsgen_model.specs.Normal.{nothing_of, link_values, call_values}
use Rattle.jsgen_model.specs.Punctuator.{star, dot, comma, semicolon, equal, arrow, Round, Square, Brace}
use Rattle.jsgen_model.specs.Tokens.{done, group, longer_stands}
use Rattle.jsgen_model.specs.Grammar.{function_of, class_of, member_values, field_values, arrow_values, loop_values}
use Rattle.jsgen_model.specs.Grammar as grammar
use Rattle.jsgen_reading_vectors.specs.Reading.{IsRead, program_of, statement_of, reference_of, name_of, key_of}
use Rattle.jsgen_reading_vectors.proofs.Written.{word, sign}
use Rattle.jsgen_reading_vectors.proofs.Levels.{primary_value, member_value, call_value, unary_value, primary_left, member_left, left_unary}
use Rattle.jsgen_reading_vectors.proofs.Names.{free_A, free_B, free_a, free_b, free_c, free_g, value_A, value_B, value_a, value_b, value_c, value_constructor, value_d, value_g}

pub extends_parentheses : IsRead (codes "class A extends (a, b) {}") (program_of no_trees (more (class_of class_kinds.Declaration (given (name_of (codes "A"))) (given (tree.parenthesized (nothing_of 0) (tree.sequence (nothing_of 0) (more (reference_of (codes "a")) (more (reference_of (codes "b")) no_trees))))) no_trees) no_trees))
unfolding unicode_ident longer_stands word_value
extends_parentheses = (
  word (codes "class") (word (codes "A") (word (codes "extends") (group false Round (word (codes "a") (sign comma (word (codes "b") done))) (group false Brace done done)))),
  ([], codes " A extends (a, b) {}", refl, refl, refl, refl, refl, (codes " ", codes " extends (a, b) {}", refl, refl, refl, refl, refl, (codes " ", codes " (a, b) {}", refl, refl, refl, refl, refl, (codes " ", codes "a, b", codes " {}", refl, refl, refl, ([], codes ", b", refl, refl, refl, refl, refl, ([], codes " b", refl, refl, refl, refl, refl, (codes " ", [], refl, refl, refl, refl, refl, refl))), (codes " ", [], [], refl, refl, refl, refl, refl))))),
  grammar.a_module (grammar.module_items refl (grammar.last_module_item (grammar.a_module_statement (grammar.a_class_declaration (grammar.a_named_class value_A free_A (grammar.with_heritage {a = group false Round (word (codes "a") (sign comma (word (codes "b") done))) done} false refl (primary_left (grammar.in_parentheses (grammar.a_sequence {a = word (codes "a") done} false refl (primary_value (grammar.a_reference value_a free_a)) (grammar.last_part (primary_value (grammar.a_reference value_b free_b)))))) grammar.no_member)))))),
)

pub extends_object : IsRead (codes "class A extends {} {}") (program_of no_trees (more (class_of class_kinds.Declaration (given (name_of (codes "A"))) (given (tree.object_expression (nothing_of 0) no_trees)) no_trees) no_trees))
unfolding unicode_ident longer_stands word_value
extends_object = (
  word (codes "class") (word (codes "A") (word (codes "extends") (group false Brace done (group false Brace done done)))),
  ([], codes " A extends {} {}", refl, refl, refl, refl, refl, (codes " ", codes " extends {} {}", refl, refl, refl, refl, refl, (codes " ", codes " {} {}", refl, refl, refl, refl, refl, (codes " ", [], codes " {}", refl, refl, refl, refl, (codes " ", [], [], refl, refl, refl, refl, refl))))),
  grammar.a_module (grammar.module_items refl (grammar.last_module_item (grammar.a_module_statement (grammar.a_class_declaration (grammar.a_named_class value_A free_A (grammar.with_heritage {a = group false Brace done done} false refl (primary_left (grammar.an_object grammar.no_property)) grammar.no_member)))))),
)

pub parentheses_behind_declaration : IsRead (codes "class A {}\n(a);") (program_of no_trees (more (class_of class_kinds.Declaration (given (name_of (codes "A"))) absent no_trees) (more (statement_of (tree.parenthesized (nothing_of 0) (reference_of (codes "a")))) no_trees)))
unfolding unicode_ident longer_stands word_value
parentheses_behind_declaration = (
  word (codes "class") (word (codes "A") (group false Brace done (group true Round (word (codes "a") done) (sign semicolon done)))),
  ([], codes " A {}\n(a);", refl, refl, refl, refl, refl, (codes " ", codes " {}\n(a);", refl, refl, refl, refl, refl, (codes " ", [], codes "\n(a);", refl, refl, refl, refl, (codes "\n", codes "a", codes ";", refl, refl, refl, ([], [], refl, refl, refl, refl, refl, refl), ([], [], refl, refl, refl, refl, refl, refl))))),
  grammar.a_module (grammar.module_items refl (grammar.first_module_item {a = word (codes "class") (word (codes "A") (group false Brace done done))} refl (grammar.a_module_statement (grammar.a_class_declaration (grammar.a_named_class value_A free_A (grammar.without_heritage grammar.no_member)))) (grammar.last_module_item (grammar.a_module_statement (grammar.a_statement (grammar.an_expression_statement (grammar.a_semicolon {a = group true Round (word (codes "a") done) done} false refl) refl (grammar.an_assignment (primary_value (grammar.in_parentheses (grammar.an_assignment (primary_value (grammar.a_reference value_a free_a)))))))))))),
)

pub member_of_class : IsRead (codes "(class {}).a;") (program_of no_trees (more (statement_of (tree.static_member (link_values false) (tree.parenthesized (nothing_of 0) (class_of class_kinds.Expression absent absent no_trees)) (key_of (codes "a")))) no_trees))
unfolding unicode_ident longer_stands word_value
member_of_class = (
  group false Round (word (codes "class") (group false Brace done done)) (sign dot (word (codes "a") (sign semicolon done))),
  ([], codes "class {}", codes ".a;", refl, refl, refl, ([], codes " {}", refl, refl, refl, refl, refl, (codes " ", [], [], refl, refl, refl, refl, refl)), ([], codes "a;", refl, refl, refl, refl, refl, ([], codes ";", refl, refl, refl, refl, refl, ([], [], refl, refl, refl, refl, refl, refl)))),
  grammar.a_module (grammar.module_items refl (grammar.last_module_item (grammar.a_module_statement (grammar.a_statement (grammar.an_expression_statement (grammar.a_semicolon {a = group false Round (word (codes "class") (group false Brace done done)) (sign dot (word (codes "a") done))} false refl) refl (grammar.an_assignment (member_value (grammar.a_named_member {a = group false Round (word (codes "class") (group false Brace done done)) done} (codes "a") false false refl value_a (grammar.a_primary (grammar.in_parentheses (grammar.an_assignment (primary_value (grammar.a_class (grammar.a_nameless_class (grammar.without_heritage grammar.no_member))))))))))))))),
)

pub new_class : IsRead (codes "new class { a }\n(b);") (program_of no_trees (more (statement_of (tree.new_expression (nothing_of 1) (class_of class_kinds.Expression absent absent (more (tree.property_definition (field_values false false) (key_of (codes "a")) absent) no_trees)) (more (reference_of (codes "b")) no_trees))) no_trees))
unfolding unicode_ident longer_stands word_value
new_class = (
  word (codes "new") (word (codes "class") (group false Brace (word (codes "a") done) (group true Round (word (codes "b") done) (sign semicolon done)))),
  ([], codes " class { a }\n(b);", refl, refl, refl, refl, refl, (codes " ", codes " { a }\n(b);", refl, refl, refl, refl, refl, (codes " ", codes " a ", codes "\n(b);", refl, refl, refl, (codes " ", codes " ", refl, refl, refl, refl, refl, refl), (codes "\n", codes "b", codes ";", refl, refl, refl, ([], [], refl, refl, refl, refl, refl, refl), ([], [], refl, refl, refl, refl, refl, refl))))),
  grammar.a_module (grammar.module_items refl (grammar.last_module_item (grammar.a_module_statement (grammar.a_statement (grammar.an_expression_statement (grammar.a_semicolon {a = word (codes "new") (word (codes "class") (group false Brace (word (codes "a") done) (group true Round (word (codes "b") done) done)))} false refl) refl (grammar.an_assignment (member_value (grammar.new_with_arguments {a = word (codes "class") (group false Brace (word (codes "a") done) done)} false true refl (grammar.a_primary (grammar.a_class (grammar.a_nameless_class (grammar.without_heritage (grammar.a_last_field (grammar.a_field (grammar.a_field_alone (grammar.a_public_key (grammar.a_name_key value_a))))))))) (grammar.some_arguments (grammar.last_argument (grammar.an_element (primary_value (grammar.a_reference value_b free_b))))))))))))),
)

pub class_first_in_head : IsRead (codes "for (class { a = b in c }.d;;);") (program_of no_trees (more (tree.for_statement (nothing_of 0) (given (tree.static_member (link_values false) (class_of class_kinds.Expression absent absent (more (tree.property_definition (field_values false false) (key_of (codes "a")) (given (tree.binary (bare (binary_operator operators.In ∷ [])) (reference_of (codes "b")) (reference_of (codes "c"))))) no_trees)) (key_of (codes "d")))) absent absent (tree.empty_statement (nothing_of 0))) no_trees))
unfolding unicode_ident longer_stands word_value
class_first_in_head = (
  word (codes "for") (group false Round (word (codes "class") (group false Brace (word (codes "a") (sign equal (word (codes "b") (word (codes "in") (word (codes "c") done))))) (sign dot (word (codes "d") (sign semicolon (sign semicolon done)))))) (sign semicolon done)),
  ([], codes " (class { a = b in c }.d;;);", refl, refl, refl, refl, refl, (codes " ", codes "class { a = b in c }.d;;", codes ";", refl, refl, refl, ([], codes " { a = b in c }.d;;", refl, refl, refl, refl, refl, (codes " ", codes " a = b in c ", codes ".d;;", refl, refl, refl, (codes " ", codes " = b in c ", refl, refl, refl, refl, refl, (codes " ", codes " b in c ", refl, refl, refl, refl, refl, (codes " ", codes " in c ", refl, refl, refl, refl, refl, (codes " ", codes " c ", refl, refl, refl, refl, refl, (codes " ", codes " ", refl, refl, refl, refl, refl, refl))))), ([], codes "d;;", refl, refl, refl, refl, refl, ([], codes ";;", refl, refl, refl, refl, refl, ([], codes ";", refl, refl, refl, refl, refl, ([], [], refl, refl, refl, refl, refl, refl)))))), ([], [], refl, refl, refl, refl, refl, refl))),
  grammar.a_module (grammar.module_items refl (grammar.last_module_item (grammar.a_module_statement (grammar.a_statement (grammar.a_for {a = word (codes "class") (group false Brace (word (codes "a") (sign equal (word (codes "b") (word (codes "in") (word (codes "c") done))))) (sign dot (word (codes "d") done)))} {b = done} false false refl (grammar.first_expression (grammar.an_assignment (member_value (grammar.a_named_member {a = word (codes "class") (group false Brace (word (codes "a") (sign equal (word (codes "b") (word (codes "in") (word (codes "c") done))))) done)} (codes "d") false false refl value_d (grammar.a_primary (grammar.a_class (grammar.a_nameless_class (grammar.without_heritage (grammar.a_last_field (grammar.a_field (grammar.a_field_with_value {a = word (codes "a") done} false refl (grammar.a_public_key (grammar.a_name_key value_a)) (grammar.a_conditional (grammar.a_short_circuit (grammar.a_logical_or (grammar.a_logical_and (grammar.a_bit_or (grammar.a_bit_xor (grammar.a_bit_and (grammar.an_equality (grammar.a_relation (grammar.an_operation {a = word (codes "b") done} operators.In false refl refl refl (grammar.a_shift (grammar.an_additive (grammar.a_multiplicative (grammar.an_exponent (grammar.a_unary (left_unary (primary_left (grammar.a_reference value_b free_b)))))))) (grammar.an_additive (grammar.a_multiplicative (grammar.an_exponent (grammar.a_unary (left_unary (primary_left (grammar.a_reference value_c free_c)))))))))))))))))))))))))))) grammar.nothing_there grammar.nothing_there grammar.an_empty_statement))))),
)

pub class_before_of : IsRead (codes "for (class {}.a of b);") (program_of no_trees (more (tree.for_of_statement (loop_values false) (tree.static_member (link_values false) (class_of class_kinds.Expression absent absent no_trees) (key_of (codes "a"))) (reference_of (codes "b")) (tree.empty_statement (nothing_of 0))) no_trees))
unfolding unicode_ident longer_stands word_value
class_before_of = (
  word (codes "for") (group false Round (word (codes "class") (group false Brace done (sign dot (word (codes "a") (word (codes "of") (word (codes "b") done)))))) (sign semicolon done)),
  ([], codes " (class {}.a of b);", refl, refl, refl, refl, refl, (codes " ", codes "class {}.a of b", codes ";", refl, refl, refl, ([], codes " {}.a of b", refl, refl, refl, refl, refl, (codes " ", [], codes ".a of b", refl, refl, refl, refl, ([], codes "a of b", refl, refl, refl, refl, refl, ([], codes " of b", refl, refl, refl, refl, refl, (codes " ", codes " b", refl, refl, refl, refl, refl, (codes " ", [], refl, refl, refl, refl, refl, refl)))))), ([], [], refl, refl, refl, refl, refl, refl))),
  grammar.a_module (grammar.module_items refl (grammar.last_module_item (grammar.a_module_statement (grammar.a_statement (grammar.a_for_of {a = word (codes "class") (group false Brace done (sign dot (word (codes "a") done)))} false refl (grammar.a_target refl (member_left (grammar.a_named_member {a = word (codes "class") (group false Brace done done)} (codes "a") false false refl value_a (grammar.a_primary (grammar.a_class (grammar.a_nameless_class (grammar.without_heritage grammar.no_member)))))) refl) (primary_value (grammar.a_reference value_b free_b)) grammar.an_empty_statement))))),
)

pub static_blocks : IsRead (codes "class A { static {} static { a } static\n{} }") (program_of no_trees (more (class_of class_kinds.Declaration (given (name_of (codes "A"))) absent (more (tree.static_block (nothing_of 0) no_trees) (more (tree.static_block (nothing_of 0) (more (statement_of (reference_of (codes "a"))) no_trees)) (more (tree.static_block (nothing_of 0) no_trees) no_trees)))) no_trees))
unfolding unicode_ident longer_stands word_value
static_blocks = (
  word (codes "class") (word (codes "A") (group false Brace (word (codes "static") (group false Brace done (word (codes "static") (group false Brace (word (codes "a") done) (word (codes "static") (group true Brace done done)))))) done)),
  ([], codes " A { static {} static { a } static\n{} }", refl, refl, refl, refl, refl, (codes " ", codes " { static {} static { a } static\n{} }", refl, refl, refl, refl, refl, (codes " ", codes " static {} static { a } static\n{} ", [], refl, refl, refl, (codes " ", codes " {} static { a } static\n{} ", refl, refl, refl, refl, refl, (codes " ", [], codes " static { a } static\n{} ", refl, refl, refl, refl, (codes " ", codes " { a } static\n{} ", refl, refl, refl, refl, refl, (codes " ", codes " a ", codes " static\n{} ", refl, refl, refl, (codes " ", codes " ", refl, refl, refl, refl, refl, refl), (codes " ", codes "\n{} ", refl, refl, refl, refl, refl, (codes "\n", [], codes " ", refl, refl, refl, refl, refl)))))), refl))),
  grammar.a_module (grammar.module_items refl (grammar.last_module_item (grammar.a_module_statement (grammar.a_class_declaration (grammar.a_named_class value_A free_A (grammar.without_heritage (grammar.a_first_member {a = word (codes "static") (group false Brace done done)} refl (grammar.a_static_block grammar.no_statement) (grammar.a_first_member {a = word (codes "static") (group false Brace (word (codes "a") done) done)} refl (grammar.a_static_block (grammar.last_statement (grammar.a_statement (grammar.an_expression_statement grammar.the_brace refl (grammar.an_assignment (primary_value (grammar.a_reference value_a free_a))))))) (grammar.a_first_member {a = word (codes "static") (group true Brace done done)} refl (grammar.a_static_block grammar.no_statement) grammar.no_member))))))))),
)

pub async_arrow_in_static_block : IsRead (codes "class A { static { async () => await a; } }") (program_of no_trees (more (class_of class_kinds.Declaration (given (name_of (codes "A"))) absent (more (tree.static_block (nothing_of 0) (more (statement_of (tree.arrow_function (arrow_values true) (tree.formal_parameters (nothing_of 0) no_trees absent) (tree.await_expression (nothing_of 0) (reference_of (codes "a"))))) no_trees)) no_trees)) no_trees))
unfolding unicode_ident longer_stands word_value
async_arrow_in_static_block = (
  word (codes "class") (word (codes "A") (group false Brace (word (codes "static") (group false Brace (word (codes "async") (group false Round done (sign arrow (word (codes "await") (word (codes "a") (sign semicolon done)))))) done)) done)),
  ([], codes " A { static { async () => await a; } }", refl, refl, refl, refl, refl, (codes " ", codes " { static { async () => await a; } }", refl, refl, refl, refl, refl, (codes " ", codes " static { async () => await a; } ", [], refl, refl, refl, (codes " ", codes " { async () => await a; } ", refl, refl, refl, refl, refl, (codes " ", codes " async () => await a; ", codes " ", refl, refl, refl, (codes " ", codes " () => await a; ", refl, refl, refl, refl, refl, (codes " ", [], codes " => await a; ", refl, refl, refl, refl, (codes " ", codes " await a; ", refl, refl, refl, refl, refl, (codes " ", codes " a; ", refl, refl, refl, refl, refl, (codes " ", codes "; ", refl, refl, refl, refl, refl, ([], codes " ", refl, refl, refl, refl, refl, refl)))))), refl)), refl))),
  grammar.a_module (grammar.module_items refl (grammar.last_module_item (grammar.a_module_statement (grammar.a_class_declaration (grammar.a_named_class value_A free_A (grammar.without_heritage (grammar.a_first_member {a = word (codes "static") (group false Brace (word (codes "async") (group false Round done (sign arrow (word (codes "await") (word (codes "a") (sign semicolon done)))))) done)} refl (grammar.a_static_block (grammar.last_statement (grammar.a_statement (grammar.an_expression_statement (grammar.a_semicolon {a = word (codes "async") (group false Round done (sign arrow (word (codes "await") (word (codes "a") done))))} false refl) refl (grammar.an_assignment (grammar.an_async_arrow refl (grammar.an_arrow_function {a = group false Round done done} refl (grammar.grouped_parameters grammar.no_parameter) refl (unary_value (grammar.an_await refl (left_unary (primary_left (grammar.a_reference value_a free_a)))))))))))) grammar.no_member))))))),
)

pub members_of_super : IsRead (codes "class A extends B { constructor() { super(); } a() { super.b; } static c = super.d }") (program_of no_trees (more (class_of class_kinds.Declaration (given (name_of (codes "A"))) (given (reference_of (codes "B"))) (more (tree.method_definition (member_values Init false false) (key_of (codes "constructor")) (function_of kinds.Expression false false absent no_trees absent no_trees (more (statement_of (tree.call (call_values false) (tree.super (nothing_of 0)) no_trees)) no_trees))) (more (tree.method_definition (member_values Init false false) (key_of (codes "a")) (function_of kinds.Expression false false absent no_trees absent no_trees (more (statement_of (tree.static_member (link_values false) (tree.super (nothing_of 0)) (key_of (codes "b")))) no_trees))) (more (tree.property_definition (field_values true false) (key_of (codes "c")) (given (tree.static_member (link_values false) (tree.super (nothing_of 0)) (key_of (codes "d"))))) no_trees)))) no_trees))
unfolding unicode_ident longer_stands word_value
members_of_super = (
  word (codes "class") (word (codes "A") (word (codes "extends") (word (codes "B") (group false Brace (word (codes "constructor") (group false Round done (group false Brace (word (codes "super") (group false Round done (sign semicolon done))) (word (codes "a") (group false Round done (group false Brace (word (codes "super") (sign dot (word (codes "b") (sign semicolon done)))) (word (codes "static") (word (codes "c") (sign equal (word (codes "super") (sign dot (word (codes "d") done)))))))))))) done)))),
  ([], codes " A extends B { constructor() { super(); } a() { super.b; } static c = super.d }", refl, refl, refl, refl, refl, (codes " ", codes " extends B { constructor() { super(); } a() { super.b; } static c = super.d }", refl, refl, refl, refl, refl, (codes " ", codes " B { constructor() { super(); } a() { super.b; } static c = super.d }", refl, refl, refl, refl, refl, (codes " ", codes " { constructor() { super(); } a() { super.b; } static c = super.d }", refl, refl, refl, refl, refl, (codes " ", codes " constructor() { super(); } a() { super.b; } static c = super.d ", [], refl, refl, refl, (codes " ", codes "() { super(); } a() { super.b; } static c = super.d ", refl, refl, refl, refl, refl, ([], [], codes " { super(); } a() { super.b; } static c = super.d ", refl, refl, refl, refl, (codes " ", codes " super(); ", codes " a() { super.b; } static c = super.d ", refl, refl, refl, (codes " ", codes "(); ", refl, refl, refl, refl, refl, ([], [], codes "; ", refl, refl, refl, refl, ([], codes " ", refl, refl, refl, refl, refl, refl))), (codes " ", codes "() { super.b; } static c = super.d ", refl, refl, refl, refl, refl, ([], [], codes " { super.b; } static c = super.d ", refl, refl, refl, refl, (codes " ", codes " super.b; ", codes " static c = super.d ", refl, refl, refl, (codes " ", codes ".b; ", refl, refl, refl, refl, refl, ([], codes "b; ", refl, refl, refl, refl, refl, ([], codes "; ", refl, refl, refl, refl, refl, ([], codes " ", refl, refl, refl, refl, refl, refl)))), (codes " ", codes " c = super.d ", refl, refl, refl, refl, refl, (codes " ", codes " = super.d ", refl, refl, refl, refl, refl, (codes " ", codes " super.d ", refl, refl, refl, refl, refl, (codes " ", codes ".d ", refl, refl, refl, refl, refl, ([], codes "d ", refl, refl, refl, refl, refl, ([], codes " ", refl, refl, refl, refl, refl, refl)))))))))))), refl))))),
  grammar.a_module (grammar.module_items refl (grammar.last_module_item (grammar.a_module_statement (grammar.a_class_declaration (grammar.a_named_class value_A free_A (grammar.with_heritage {a = word (codes "B") done} false refl (primary_left (grammar.a_reference value_B free_B)) (grammar.a_first_member {a = word (codes "constructor") (group false Round done (group false Brace (word (codes "super") (group false Round done (sign semicolon done))) done))} refl (grammar.a_member_method (grammar.a_plain_method (grammar.a_method_behind_words {a = word (codes "constructor") done} false false refl (grammar.a_public_key (grammar.a_name_key value_constructor)) grammar.no_parameter (grammar.statements refl (grammar.last_statement (grammar.a_statement (grammar.an_expression_statement (grammar.a_semicolon {a = word (codes "super") (group false Round done done)} false refl) refl (grammar.an_assignment (call_value (grammar.a_call_of_super grammar.no_argument)))))))))) (grammar.a_first_member {a = word (codes "a") (group false Round done (group false Brace (word (codes "super") (sign dot (word (codes "b") (sign semicolon done)))) done))} refl (grammar.a_member_method (grammar.a_plain_method (grammar.a_method_behind_words {a = word (codes "a") done} false false refl (grammar.a_public_key (grammar.a_name_key value_a)) grammar.no_parameter (grammar.statements refl (grammar.last_statement (grammar.a_statement (grammar.an_expression_statement (grammar.a_semicolon {a = word (codes "super") (sign dot (word (codes "b") done))} false refl) refl (grammar.an_assignment (member_value (grammar.a_named_member_of_super (codes "b") false false false value_b)))))))))) (grammar.a_last_field (grammar.a_static_field (grammar.a_field_with_value {a = word (codes "c") done} false refl (grammar.a_public_key (grammar.a_name_key value_c)) (member_value (grammar.a_named_member_of_super (codes "d") false false false value_d))))))))))))),
)

pub keys_in_generator : IsRead (codes "function* g() { class A extends (yield) { [yield]() {} static [yield a] = b } }") (program_of no_trees (more (function_of kinds.Declaration false true (given (name_of (codes "g"))) no_trees absent no_trees (more (class_of class_kinds.Declaration (given (name_of (codes "A"))) (given (tree.parenthesized (nothing_of 0) (tree.yield_expression (bare (flag false ∷ [])) absent))) (more (tree.method_definition (member_values Init false true) (tree.yield_expression (bare (flag false ∷ [])) absent) (function_of kinds.Expression false false absent no_trees absent no_trees no_trees)) (more (tree.property_definition (field_values true true) (tree.yield_expression (bare (flag false ∷ [])) (given (reference_of (codes "a")))) (given (reference_of (codes "b")))) no_trees))) no_trees)) no_trees))
unfolding unicode_ident longer_stands word_value
keys_in_generator = (
  word (codes "function") (sign star (word (codes "g") (group false Round done (group false Brace (word (codes "class") (word (codes "A") (word (codes "extends") (group false Round (word (codes "yield") done) (group false Brace (group false Square (word (codes "yield") done) (group false Round done (group false Brace done (word (codes "static") (group false Square (word (codes "yield") (word (codes "a") done)) (sign equal (word (codes "b") done))))))) done))))) done)))),
  ([], codes "* g() { class A extends (yield) { [yield]() {} static [yield a] = b } }", refl, refl, refl, refl, refl, ([], codes " g() { class A extends (yield) { [yield]() {} static [yield a] = b } }", refl, refl, refl, refl, refl, (codes " ", codes "() { class A extends (yield) { [yield]() {} static [yield a] = b } }", refl, refl, refl, refl, refl, ([], [], codes " { class A extends (yield) { [yield]() {} static [yield a] = b } }", refl, refl, refl, refl, (codes " ", codes " class A extends (yield) { [yield]() {} static [yield a] = b } ", [], refl, refl, refl, (codes " ", codes " A extends (yield) { [yield]() {} static [yield a] = b } ", refl, refl, refl, refl, refl, (codes " ", codes " extends (yield) { [yield]() {} static [yield a] = b } ", refl, refl, refl, refl, refl, (codes " ", codes " (yield) { [yield]() {} static [yield a] = b } ", refl, refl, refl, refl, refl, (codes " ", codes "yield", codes " { [yield]() {} static [yield a] = b } ", refl, refl, refl, ([], [], refl, refl, refl, refl, refl, refl), (codes " ", codes " [yield]() {} static [yield a] = b ", codes " ", refl, refl, refl, (codes " ", codes "yield", codes "() {} static [yield a] = b ", refl, refl, refl, ([], [], refl, refl, refl, refl, refl, refl), ([], [], codes " {} static [yield a] = b ", refl, refl, refl, refl, (codes " ", [], codes " static [yield a] = b ", refl, refl, refl, refl, (codes " ", codes " [yield a] = b ", refl, refl, refl, refl, refl, (codes " ", codes "yield a", codes " = b ", refl, refl, refl, ([], codes " a", refl, refl, refl, refl, refl, (codes " ", [], refl, refl, refl, refl, refl, refl)), (codes " ", codes " b ", refl, refl, refl, refl, refl, (codes " ", codes " ", refl, refl, refl, refl, refl, refl))))))), refl))))), refl))))),
  grammar.a_module (grammar.module_items refl (grammar.last_module_item (grammar.a_module_statement (grammar.a_function_declaration (grammar.a_generator (grammar.a_named_function value_g free_g grammar.no_parameter (grammar.statements refl (grammar.last_statement (grammar.a_class_declaration (grammar.a_named_class value_A free_A (grammar.with_heritage {a = group false Round (word (codes "yield") done) done} false refl (primary_left (grammar.in_parentheses (grammar.an_assignment (grammar.a_yield_alone refl)))) (grammar.a_first_member {a = group false Square (word (codes "yield") done) (group false Round done (group false Brace done done))} refl (grammar.a_member_method (grammar.a_plain_method (grammar.a_method_behind_words {a = group false Square (word (codes "yield") done) done} false false refl (grammar.a_public_key (grammar.a_computed_key (grammar.a_yield_alone refl))) grammar.no_parameter (grammar.statements refl grammar.no_statement)))) (grammar.a_last_field (grammar.a_static_field (grammar.a_field_with_value {a = group false Square (word (codes "yield") (word (codes "a") done)) done} false refl (grammar.a_public_key (grammar.a_computed_key (grammar.a_yield refl refl (primary_value (grammar.a_reference value_a free_a))))) (primary_value (grammar.a_reference value_b free_b))))))))))))))))),
)
