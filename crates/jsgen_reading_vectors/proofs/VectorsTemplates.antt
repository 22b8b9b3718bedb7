-- Generated from tools/vectors/chosen.json; edit that and run tools/vectors/generate.
-- That they are read so: templates.
use Rattle.std.proofs.Common.{[], ◌∷◌, true, false, codes, refl}
use Rattle.unicode_ident.proofs.Computing.{unicode_ident}
use Rattle.jsgen_syntax.specs.Escapes.{word_value}
use Rattle.jsgen_syntax.specs.Strings.{string_value}
use Rattle.jsgen_syntax.specs.declared.quote.Quote.TheVariants.{Backtick}
use Rattle.jsgen_syntax.specs.declared.operator.BinaryOperator.TheVariants as operators
use Rattle.jsgen_syntax.specs.declared.operator.AssignmentOperator.TheVariants as assignment_operators
use Rattle.jsgen_tree.specs.declared.collections.PropertyKind.TheVariants.{Init}
use Rattle.jsgen_tree.specs.declared.functions.FunctionKind.TheVariants as kinds
use Rattle.jsgen_tree.specs.Atom.{flag, binary_operator, assignment_operator}
use Rattle.jsgen_tree.specs.Tree.{absent, given, no_trees, more}
use Rattle.jsgen_tree.specs.Places.{bare}
use Rattle.jsgen_tree.specs.Nodes as tree
use Rattle.jsgen_model.specs.Normal.{nothing_of, link_values, property_values}
use Rattle.jsgen_model.specs.Punctuator.{star, dot, semicolon, colon, question_dot, equal, Round, Brace}
use Rattle.jsgen_model.specs.Tokens.{done, piece, group, Quoted, Beyond, Whole, Head, Middle, Tail, longer_stands}
use Rattle.jsgen_model.specs.Grammar.{function_of, raw_piece, cooked_piece}
use Rattle.jsgen_model.specs.Grammar as grammar
use Rattle.jsgen_reading_vectors.specs.Reading.{IsRead, program_of, statement_of, reference_of, name_of, key_of}
use Rattle.jsgen_reading_vectors.proofs.Written.{word, sign}
use Rattle.jsgen_reading_vectors.proofs.Levels.{primary_value, member_value, left_value, primary_left, member_left, left_unary}
use Rattle.jsgen_reading_vectors.proofs.Names.{free_a, free_b, free_c, free_d, free_g, value_a, value_b, value_c, value_d, value_g}

pub values_between_pieces : IsRead (codes "`a${b}c${d}e`;") (program_of no_trees (more (statement_of (tree.template_literal (nothing_of 0) (more (cooked_piece (codes "a")) (more (cooked_piece (codes "c")) (more (cooked_piece (codes "e")) no_trees))) (more (reference_of (codes "b")) (more (reference_of (codes "d")) no_trees)))) no_trees))
unfolding unicode_ident longer_stands word_value string_value
values_between_pieces = (
  piece false (Beyond (Head (codes "a"))) (word (codes "b") (piece false (Beyond (Middle (codes "c"))) (word (codes "d") (piece false (Beyond (Tail (codes "e"))) (sign semicolon done))))),
  ([], codes "b}c${d}e`;", refl, refl, refl, refl, refl, ([], codes "}c${d}e`;", refl, refl, refl, refl, refl, ([], codes "d}e`;", refl, refl, refl, refl, refl, ([], codes "}e`;", refl, refl, refl, refl, refl, ([], codes ";", refl, refl, refl, refl, refl, ([], [], refl, refl, refl, refl, refl, refl)))))),
  grammar.a_module (grammar.module_items refl (grammar.last_module_item (grammar.a_module_statement (grammar.a_statement (grammar.an_expression_statement (grammar.a_semicolon {a = piece false (Beyond (Head (codes "a"))) (word (codes "b") (piece false (Beyond (Middle (codes "c"))) (word (codes "d") (piece false (Beyond (Tail (codes "e"))) done))))} false refl) refl (grammar.an_assignment (primary_value (grammar.a_template refl (grammar.a_piece_between {a = word (codes "b") done} (codes "c") false refl (grammar.an_assignment (primary_value (grammar.a_reference value_b free_b))) refl (grammar.a_last_piece {a = word (codes "d") done} (codes "e") false refl (grammar.an_assignment (primary_value (grammar.a_reference value_d free_d))) refl)))))))))),
)

pub template_in_template : IsRead (codes "`${`${a}`}`;") (program_of no_trees (more (statement_of (tree.template_literal (nothing_of 0) (more (cooked_piece []) (more (cooked_piece []) no_trees)) (more (tree.template_literal (nothing_of 0) (more (cooked_piece []) (more (cooked_piece []) no_trees)) (more (reference_of (codes "a")) no_trees)) no_trees))) no_trees))
unfolding unicode_ident longer_stands word_value string_value
template_in_template = (
  piece false (Beyond (Head [])) (piece false (Beyond (Head [])) (word (codes "a") (piece false (Beyond (Tail [])) (piece false (Beyond (Tail [])) (sign semicolon done))))),
  ([], codes "`${a}`}`;", refl, refl, refl, refl, refl, ([], codes "a}`}`;", refl, refl, refl, refl, refl, ([], codes "}`}`;", refl, refl, refl, refl, refl, ([], codes "}`;", refl, refl, refl, refl, refl, ([], codes ";", refl, refl, refl, refl, refl, ([], [], refl, refl, refl, refl, refl, refl)))))),
  grammar.a_module (grammar.module_items refl (grammar.last_module_item (grammar.a_module_statement (grammar.a_statement (grammar.an_expression_statement (grammar.a_semicolon {a = piece false (Beyond (Head [])) (piece false (Beyond (Head [])) (word (codes "a") (piece false (Beyond (Tail [])) (piece false (Beyond (Tail [])) done))))} false refl) refl (grammar.an_assignment (primary_value (grammar.a_template refl (grammar.a_last_piece {a = piece false (Beyond (Head [])) (word (codes "a") (piece false (Beyond (Tail [])) done))} [] false refl (grammar.an_assignment (primary_value (grammar.a_template refl (grammar.a_last_piece {a = word (codes "a") done} [] false refl (grammar.an_assignment (primary_value (grammar.a_reference value_a free_a))) refl)))) refl))))))))),
)

pub relation_in_template : IsRead (codes "for (`${a in b}`;;);") (program_of no_trees (more (tree.for_statement (nothing_of 0) (given (tree.template_literal (nothing_of 0) (more (cooked_piece []) (more (cooked_piece []) no_trees)) (more (tree.binary (bare (binary_operator operators.In ∷ [])) (reference_of (codes "a")) (reference_of (codes "b"))) no_trees))) absent absent (tree.empty_statement (nothing_of 0))) no_trees))
unfolding unicode_ident longer_stands word_value string_value
relation_in_template = (
  word (codes "for") (group false Round (piece false (Beyond (Head [])) (word (codes "a") (word (codes "in") (word (codes "b") (piece false (Beyond (Tail [])) (sign semicolon (sign semicolon done))))))) (sign semicolon done)),
  ([], codes " (`${a in b}`;;);", refl, refl, refl, refl, refl, (codes " ", codes "`${a in b}`;;", codes ";", refl, refl, refl, ([], codes "a in b}`;;", refl, refl, refl, refl, refl, ([], codes " in b}`;;", refl, refl, refl, refl, refl, (codes " ", codes " b}`;;", refl, refl, refl, refl, refl, (codes " ", codes "}`;;", refl, refl, refl, refl, refl, ([], codes ";;", refl, refl, refl, refl, refl, ([], codes ";", refl, refl, refl, refl, refl, ([], [], refl, refl, refl, refl, refl, refl))))))), ([], [], refl, refl, refl, refl, refl, refl))),
  grammar.a_module (grammar.module_items refl (grammar.last_module_item (grammar.a_module_statement (grammar.a_statement (grammar.a_for {a = piece false (Beyond (Head [])) (word (codes "a") (word (codes "in") (word (codes "b") (piece false (Beyond (Tail [])) done))))} {b = done} false false refl (grammar.first_expression (grammar.an_assignment (primary_value (grammar.a_template refl (grammar.a_last_piece {a = word (codes "a") (word (codes "in") (word (codes "b") done))} [] false refl (grammar.an_assignment (grammar.a_conditional (grammar.a_short_circuit (grammar.a_logical_or (grammar.a_logical_and (grammar.a_bit_or (grammar.a_bit_xor (grammar.a_bit_and (grammar.an_equality (grammar.a_relation (grammar.an_operation {a = word (codes "a") done} operators.In false refl refl refl (grammar.a_shift (grammar.an_additive (grammar.a_multiplicative (grammar.an_exponent (grammar.a_unary (left_unary (primary_left (grammar.a_reference value_a free_a)))))))) (grammar.an_additive (grammar.a_multiplicative (grammar.an_exponent (grammar.a_unary (left_unary (primary_left (grammar.a_reference value_b free_b)))))))))))))))))) refl))))) grammar.nothing_there grammar.nothing_there grammar.an_empty_statement))))),
)

pub signs_in_pieces : IsRead (codes "`}$${a}$}\\${`;") (program_of no_trees (more (statement_of (tree.template_literal (nothing_of 0) (more (cooked_piece (codes "}$")) (more (cooked_piece (codes "$}${")) no_trees)) (more (reference_of (codes "a")) no_trees))) no_trees))
unfolding unicode_ident longer_stands word_value string_value
signs_in_pieces = (
  piece false (Beyond (Head (codes "}$"))) (word (codes "a") (piece false (Beyond (Tail (codes "$}\\${"))) (sign semicolon done))),
  ([], codes "a}$}\\${`;", refl, refl, refl, refl, refl, ([], codes "}$}\\${`;", refl, refl, refl, refl, refl, ([], codes ";", refl, refl, refl, refl, refl, ([], [], refl, refl, refl, refl, refl, refl)))),
  grammar.a_module (grammar.module_items refl (grammar.last_module_item (grammar.a_module_statement (grammar.a_statement (grammar.an_expression_statement (grammar.a_semicolon {a = piece false (Beyond (Head (codes "}$"))) (word (codes "a") (piece false (Beyond (Tail (codes "$}\\${"))) done))} false refl) refl (grammar.an_assignment (primary_value (grammar.a_template refl (grammar.a_last_piece {a = word (codes "a") done} (codes "$}\\${") false refl (grammar.an_assignment (primary_value (grammar.a_reference value_a free_a))) refl))))))))),
)

pub object_in_template : IsRead (codes "`a${{b: `c${{}}`}}d`;") (program_of no_trees (more (statement_of (tree.template_literal (nothing_of 0) (more (cooked_piece (codes "a")) (more (cooked_piece (codes "d")) no_trees)) (more (tree.object_expression (nothing_of 0) (more (tree.object_property (property_values Init false false false) (key_of (codes "b")) (tree.template_literal (nothing_of 0) (more (cooked_piece (codes "c")) (more (cooked_piece []) no_trees)) (more (tree.object_expression (nothing_of 0) no_trees) no_trees))) no_trees)) no_trees))) no_trees))
unfolding unicode_ident longer_stands word_value string_value
object_in_template = (
  piece false (Beyond (Head (codes "a"))) (group false Brace (word (codes "b") (sign colon (piece false (Beyond (Head (codes "c"))) (group false Brace done (piece false (Beyond (Tail [])) done))))) (piece false (Beyond (Tail (codes "d"))) (sign semicolon done))),
  ([], codes "{b: `c${{}}`}}d`;", refl, refl, refl, refl, refl, ([], codes "b: `c${{}}`", codes "}d`;", refl, refl, refl, ([], codes ": `c${{}}`", refl, refl, refl, refl, refl, ([], codes " `c${{}}`", refl, refl, refl, refl, refl, (codes " ", codes "{}}`", refl, refl, refl, refl, refl, ([], [], codes "}`", refl, refl, refl, refl, ([], [], refl, refl, refl, refl, refl, refl))))), ([], codes ";", refl, refl, refl, refl, refl, ([], [], refl, refl, refl, refl, refl, refl)))),
  grammar.a_module (grammar.module_items refl (grammar.last_module_item (grammar.a_module_statement (grammar.a_statement (grammar.an_expression_statement (grammar.a_semicolon {a = piece false (Beyond (Head (codes "a"))) (group false Brace (word (codes "b") (sign colon (piece false (Beyond (Head (codes "c"))) (group false Brace done (piece false (Beyond (Tail [])) done))))) (piece false (Beyond (Tail (codes "d"))) done))} false refl) refl (grammar.an_assignment (primary_value (grammar.a_template refl (grammar.a_last_piece {a = group false Brace (word (codes "b") (sign colon (piece false (Beyond (Head (codes "c"))) (group false Brace done (piece false (Beyond (Tail [])) done))))) done} (codes "d") false refl (grammar.an_assignment (primary_value (grammar.an_object (grammar.last_property (grammar.a_property {a = word (codes "b") done} false refl (grammar.a_name_key value_b) (primary_value (grammar.a_template refl (grammar.a_last_piece {a = group false Brace done done} [] false refl (grammar.an_assignment (primary_value (grammar.an_object grammar.no_property))) refl)))))))) refl))))))))),
)

pub no_escape_behind_tag : IsRead (codes "a`\\u`;") (program_of no_trees (more (statement_of (tree.tagged_template (nothing_of 0) (reference_of (codes "a")) (tree.template_literal (nothing_of 0) (more (raw_piece (codes "\\u")) no_trees) no_trees))) no_trees))
unfolding unicode_ident longer_stands word_value string_value
no_escape_behind_tag = (
  word (codes "a") (piece false (Beyond (Whole (codes "\\u"))) (sign semicolon done)),
  ([], codes "`\\u`;", refl, refl, refl, refl, refl, ([], codes ";", refl, refl, refl, refl, refl, ([], [], refl, refl, refl, refl, refl, refl))),
  grammar.a_module (grammar.module_items refl (grammar.last_module_item (grammar.a_module_statement (grammar.a_statement (grammar.an_expression_statement (grammar.a_semicolon {a = word (codes "a") (piece false (Beyond (Whole (codes "\\u"))) done)} false refl) refl (grammar.an_assignment (member_value (grammar.a_tagged_template {a = word (codes "a") done} refl grammar.a_whole_template (grammar.a_primary (grammar.a_reference value_a free_a)))))))))),
)

pub tag_in_parentheses : IsRead (codes "(a?.b)`c`;") (program_of no_trees (more (statement_of (tree.tagged_template (nothing_of 0) (tree.parenthesized (nothing_of 0) (tree.chain (nothing_of 0) (tree.static_member (link_values true) (reference_of (codes "a")) (key_of (codes "b"))))) (tree.template_literal (nothing_of 0) (more (raw_piece (codes "c")) no_trees) no_trees))) no_trees))
unfolding unicode_ident longer_stands word_value string_value
tag_in_parentheses = (
  group false Round (word (codes "a") (sign question_dot (word (codes "b") done))) (piece false (Quoted Backtick (codes "c")) (sign semicolon done)),
  ([], codes "a?.b", codes "`c`;", refl, refl, refl, ([], codes "?.b", refl, refl, refl, refl, refl, ([], codes "b", refl, refl, refl, refl, refl, ([], [], refl, refl, refl, refl, refl, refl))), ([], codes ";", refl, refl, refl, refl, refl, ([], [], refl, refl, refl, refl, refl, refl))),
  grammar.a_module (grammar.module_items refl (grammar.last_module_item (grammar.a_module_statement (grammar.a_statement (grammar.an_expression_statement (grammar.a_semicolon {a = group false Round (word (codes "a") (sign question_dot (word (codes "b") done))) (piece false (Quoted Backtick (codes "c")) done)} false refl) refl (grammar.an_assignment (member_value (grammar.a_tagged_template {a = group false Round (word (codes "a") (sign question_dot (word (codes "b") done))) done} refl grammar.a_template_of_a_string (grammar.a_primary (grammar.in_parentheses (grammar.an_assignment (left_value (grammar.an_optional_chain (grammar.an_optional_named_member {a = word (codes "a") done} (codes "b") false false refl value_b (grammar.a_first_link (grammar.a_called_member (grammar.a_primary (grammar.a_reference value_a free_a)))))))))))))))))),
)

pub tag_over_line_end : IsRead (codes "a\n`b`;") (program_of no_trees (more (statement_of (tree.tagged_template (nothing_of 0) (reference_of (codes "a")) (tree.template_literal (nothing_of 0) (more (raw_piece (codes "b")) no_trees) no_trees))) no_trees))
unfolding unicode_ident longer_stands word_value string_value
tag_over_line_end = (
  word (codes "a") (piece true (Quoted Backtick (codes "b")) (sign semicolon done)),
  ([], codes "\n`b`;", refl, refl, refl, refl, refl, (codes "\n", codes ";", refl, refl, refl, refl, refl, ([], [], refl, refl, refl, refl, refl, refl))),
  grammar.a_module (grammar.module_items refl (grammar.last_module_item (grammar.a_module_statement (grammar.a_statement (grammar.an_expression_statement (grammar.a_semicolon {a = word (codes "a") (piece true (Quoted Backtick (codes "b")) done)} false refl) refl (grammar.an_assignment (member_value (grammar.a_tagged_template {a = word (codes "a") done} refl grammar.a_template_of_a_string (grammar.a_primary (grammar.a_reference value_a free_a)))))))))),
)

pub tag_under_new : IsRead (codes "new a`b`(c);") (program_of no_trees (more (statement_of (tree.new_expression (nothing_of 1) (tree.tagged_template (nothing_of 0) (reference_of (codes "a")) (tree.template_literal (nothing_of 0) (more (raw_piece (codes "b")) no_trees) no_trees)) (more (reference_of (codes "c")) no_trees))) no_trees))
unfolding unicode_ident longer_stands word_value string_value
tag_under_new = (
  word (codes "new") (word (codes "a") (piece false (Quoted Backtick (codes "b")) (group false Round (word (codes "c") done) (sign semicolon done)))),
  ([], codes " a`b`(c);", refl, refl, refl, refl, refl, (codes " ", codes "`b`(c);", refl, refl, refl, refl, refl, ([], codes "(c);", refl, refl, refl, refl, refl, ([], codes "c", codes ";", refl, refl, refl, ([], [], refl, refl, refl, refl, refl, refl), ([], [], refl, refl, refl, refl, refl, refl))))),
  grammar.a_module (grammar.module_items refl (grammar.last_module_item (grammar.a_module_statement (grammar.a_statement (grammar.an_expression_statement (grammar.a_semicolon {a = word (codes "new") (word (codes "a") (piece false (Quoted Backtick (codes "b")) (group false Round (word (codes "c") done) done)))} false refl) refl (grammar.an_assignment (member_value (grammar.new_with_arguments {a = word (codes "a") (piece false (Quoted Backtick (codes "b")) done)} false false refl (grammar.a_tagged_template {a = word (codes "a") done} refl grammar.a_template_of_a_string (grammar.a_primary (grammar.a_reference value_a free_a))) (grammar.some_arguments (grammar.last_argument (grammar.an_element (primary_value (grammar.a_reference value_c free_c))))))))))))),
)

pub tag_of_instance : IsRead (codes "new a()`b`;") (program_of no_trees (more (statement_of (tree.tagged_template (nothing_of 0) (tree.new_expression (nothing_of 1) (reference_of (codes "a")) no_trees) (tree.template_literal (nothing_of 0) (more (raw_piece (codes "b")) no_trees) no_trees))) no_trees))
unfolding unicode_ident longer_stands word_value string_value
tag_of_instance = (
  word (codes "new") (word (codes "a") (group false Round done (piece false (Quoted Backtick (codes "b")) (sign semicolon done)))),
  ([], codes " a()`b`;", refl, refl, refl, refl, refl, (codes " ", codes "()`b`;", refl, refl, refl, refl, refl, ([], [], codes "`b`;", refl, refl, refl, refl, ([], codes ";", refl, refl, refl, refl, refl, ([], [], refl, refl, refl, refl, refl, refl))))),
  grammar.a_module (grammar.module_items refl (grammar.last_module_item (grammar.a_module_statement (grammar.a_statement (grammar.an_expression_statement (grammar.a_semicolon {a = word (codes "new") (word (codes "a") (group false Round done (piece false (Quoted Backtick (codes "b")) done)))} false refl) refl (grammar.an_assignment (member_value (grammar.a_tagged_template {a = word (codes "new") (word (codes "a") (group false Round done done))} refl grammar.a_template_of_a_string (grammar.new_with_arguments {a = word (codes "a") done} false false refl (grammar.a_primary (grammar.a_reference value_a free_a)) grammar.no_argument))))))))),
)

pub member_of_tagged : IsRead (codes "a`b`.c = d;") (program_of no_trees (more (statement_of (tree.assignment (bare (assignment_operator assignment_operators.Assign ∷ [])) (tree.static_member (link_values false) (tree.tagged_template (nothing_of 0) (reference_of (codes "a")) (tree.template_literal (nothing_of 0) (more (raw_piece (codes "b")) no_trees) no_trees)) (key_of (codes "c"))) (reference_of (codes "d")))) no_trees))
unfolding unicode_ident longer_stands word_value string_value
member_of_tagged = (
  word (codes "a") (piece false (Quoted Backtick (codes "b")) (sign dot (word (codes "c") (sign equal (word (codes "d") (sign semicolon done)))))),
  ([], codes "`b`.c = d;", refl, refl, refl, refl, refl, ([], codes ".c = d;", refl, refl, refl, refl, refl, ([], codes "c = d;", refl, refl, refl, refl, refl, ([], codes " = d;", refl, refl, refl, refl, refl, (codes " ", codes " d;", refl, refl, refl, refl, refl, (codes " ", codes ";", refl, refl, refl, refl, refl, ([], [], refl, refl, refl, refl, refl, refl))))))),
  grammar.a_module (grammar.module_items refl (grammar.last_module_item (grammar.a_module_statement (grammar.a_statement (grammar.an_expression_statement (grammar.a_semicolon {a = word (codes "a") (piece false (Quoted Backtick (codes "b")) (sign dot (word (codes "c") (sign equal (word (codes "d") done)))))} false refl) refl (grammar.an_assignment (grammar.an_assignment_to {a = word (codes "a") (piece false (Quoted Backtick (codes "b")) (sign dot (word (codes "c") done)))} assignment_operators.Assign false refl (member_left (grammar.a_named_member {a = word (codes "a") (piece false (Quoted Backtick (codes "b")) done)} (codes "c") false false refl value_c (grammar.a_tagged_template {a = word (codes "a") done} refl grammar.a_template_of_a_string (grammar.a_primary (grammar.a_reference value_a free_a))))) refl (primary_value (grammar.a_reference value_d free_d)) refl))))))),
)

pub yield_of_template : IsRead (codes "function* g() { yield`a${yield}b`; }") (program_of no_trees (more (function_of kinds.Declaration false true (given (name_of (codes "g"))) no_trees absent no_trees (more (statement_of (tree.yield_expression (bare (flag false ∷ [])) (given (tree.template_literal (nothing_of 0) (more (cooked_piece (codes "a")) (more (cooked_piece (codes "b")) no_trees)) (more (tree.yield_expression (bare (flag false ∷ [])) absent) no_trees))))) no_trees)) no_trees))
unfolding unicode_ident longer_stands word_value string_value
yield_of_template = (
  word (codes "function") (sign star (word (codes "g") (group false Round done (group false Brace (word (codes "yield") (piece false (Beyond (Head (codes "a"))) (word (codes "yield") (piece false (Beyond (Tail (codes "b"))) (sign semicolon done))))) done)))),
  ([], codes "* g() { yield`a${yield}b`; }", refl, refl, refl, refl, refl, ([], codes " g() { yield`a${yield}b`; }", refl, refl, refl, refl, refl, (codes " ", codes "() { yield`a${yield}b`; }", refl, refl, refl, refl, refl, ([], [], codes " { yield`a${yield}b`; }", refl, refl, refl, refl, (codes " ", codes " yield`a${yield}b`; ", [], refl, refl, refl, (codes " ", codes "`a${yield}b`; ", refl, refl, refl, refl, refl, ([], codes "yield}b`; ", refl, refl, refl, refl, refl, ([], codes "}b`; ", refl, refl, refl, refl, refl, ([], codes "; ", refl, refl, refl, refl, refl, ([], codes " ", refl, refl, refl, refl, refl, refl))))), refl))))),
  grammar.a_module (grammar.module_items refl (grammar.last_module_item (grammar.a_module_statement (grammar.a_function_declaration (grammar.a_generator (grammar.a_named_function value_g free_g grammar.no_parameter (grammar.statements refl (grammar.last_statement (grammar.a_statement (grammar.an_expression_statement (grammar.a_semicolon {a = word (codes "yield") (piece false (Beyond (Head (codes "a"))) (word (codes "yield") (piece false (Beyond (Tail (codes "b"))) done)))} false refl) refl (grammar.an_assignment (grammar.a_yield refl refl (primary_value (grammar.a_template refl (grammar.a_last_piece {a = word (codes "yield") done} (codes "b") false refl (grammar.an_assignment (grammar.a_yield_alone refl)) refl))))))))))))))),
)
