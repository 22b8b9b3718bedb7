-- Generated from tools/vectors/chosen.json; edit that and run tools/vectors/generate.
-- That they are read so: patterns.
use Rattle.std.proofs.Common.{[], ◌∷◌, true, false, codes, refl}
use Rattle.unicode_ident.proofs.Computing.{unicode_ident}
use Rattle.jsgen_syntax.specs.Escapes.{word_value}
use Rattle.jsgen_syntax.specs.declared.operator.AssignmentOperator.TheVariants as assignment_operators
use Rattle.jsgen_tree.specs.declared.collections.PropertyKind.TheVariants.{Init}
use Rattle.jsgen_tree.specs.declared.functions.FunctionKind.TheVariants as kinds
use Rattle.jsgen_tree.specs.Atom.{assignment_operator}
use Rattle.jsgen_tree.specs.Tree.{absent, given, no_trees, more}
use Rattle.jsgen_tree.specs.Places.{bare}
use Rattle.jsgen_tree.specs.Nodes as tree
use Rattle.jsgen_model.specs.Normal.{nothing_of, link_values, by_text, property_values}
use Rattle.jsgen_model.specs.Numbers.{spells_number}
use Rattle.jsgen_model.specs.Punctuator.{dot, comma, semicolon, colon, question, equal, Round, Square, Brace}
use Rattle.jsgen_model.specs.Tokens.{done, piece, group, Number, Sign, longer_stands, longer_number_stands}
use Rattle.jsgen_model.specs.Grammar.{function_of, loop_values, computed_values}
use Rattle.jsgen_model.specs.Grammar as grammar
use Rattle.jsgen_reading_vectors.specs.Reading.{IsRead, program_of, statement_of, reference_of, name_of, key_of}
use Rattle.jsgen_reading_vectors.proofs.Written.{word, sign}
use Rattle.jsgen_reading_vectors.proofs.Levels.{primary_value, primary_left, member_left, left_unary}
use Rattle.jsgen_reading_vectors.proofs.Names.{free_a, free_b, free_c, free_d, free_e, free_g, free_x, free_y, value_a, value_b, value_c, value_d, value_e, value_f, value_g, value_x, value_y}

pub object_pattern_first : IsRead (codes "({a}.b = c);") (program_of no_trees (more (statement_of (tree.parenthesized (nothing_of 0) (tree.assignment (bare (assignment_operator assignment_operators.Assign ∷ [])) (tree.static_member (link_values false) (tree.object_expression (nothing_of 0) (more (tree.object_property (property_values Init false true false) (key_of (codes "a")) (reference_of (codes "a"))) no_trees)) (key_of (codes "b"))) (reference_of (codes "c"))))) no_trees))
unfolding unicode_ident longer_stands word_value
object_pattern_first = (
  group false Round (group false Brace (word (codes "a") done) (sign dot (word (codes "b") (sign equal (word (codes "c") done))))) (sign semicolon done),
  ([], codes "{a}.b = c", codes ";", refl, refl, refl, ([], codes "a", codes ".b = c", refl, refl, refl, ([], [], refl, refl, refl, refl, refl, refl), ([], codes "b = c", refl, refl, refl, refl, refl, ([], codes " = c", refl, refl, refl, refl, refl, (codes " ", codes " c", refl, refl, refl, refl, refl, (codes " ", [], refl, refl, refl, refl, refl, refl))))), ([], [], refl, refl, refl, refl, refl, refl)),
  grammar.a_module (grammar.module_items refl (grammar.last_module_item (grammar.a_module_statement (grammar.a_statement (grammar.an_expression_statement (grammar.a_semicolon {a = group false Round (group false Brace (word (codes "a") done) (sign dot (word (codes "b") (sign equal (word (codes "c") done))))) done} false refl) refl (grammar.an_assignment (primary_value (grammar.in_parentheses (grammar.an_assignment (grammar.an_assignment_to {a = group false Brace (word (codes "a") done) (sign dot (word (codes "b") done))} assignment_operators.Assign false refl (member_left (grammar.a_named_member {a = group false Brace (word (codes "a") done) done} (codes "b") false false refl value_b (grammar.a_primary (grammar.an_object (grammar.last_property (grammar.a_shorthand value_a free_a)))))) refl (primary_value (grammar.a_reference value_c free_c)) refl)))))))))),
)

pub members_in_pattern : IsRead (codes "({a: {b}.c, d: [e].f = 1} = g);") (program_of no_trees (more (statement_of (tree.parenthesized (nothing_of 0) (tree.assignment (bare (assignment_operator assignment_operators.Assign ∷ [])) (tree.object_target (nothing_of 0) (more (tree.target_property (computed_values false) (key_of (codes "a")) (tree.static_member (link_values false) (tree.object_expression (nothing_of 0) (more (tree.object_property (property_values Init false true false) (key_of (codes "b")) (reference_of (codes "b"))) no_trees)) (key_of (codes "c")))) (more (tree.target_property (computed_values false) (key_of (codes "d")) (tree.target_with_default (nothing_of 0) (tree.static_member (link_values false) (tree.array (nothing_of 0) (more (reference_of (codes "e")) no_trees)) (key_of (codes "f"))) (tree.numeric_literal (by_text (codes "1"))))) no_trees)) absent) (reference_of (codes "g"))))) no_trees))
unfolding unicode_ident longer_stands word_value longer_number_stands spells_number
members_in_pattern = (
  group false Round (group false Brace (word (codes "a") (sign colon (group false Brace (word (codes "b") done) (sign dot (word (codes "c") (sign comma (word (codes "d") (sign colon (group false Square (word (codes "e") done) (sign dot (word (codes "f") (sign equal (piece false (Number (codes "1")) done))))))))))))) (sign equal (word (codes "g") done))) (sign semicolon done),
  ([], codes "{a: {b}.c, d: [e].f = 1} = g", codes ";", refl, refl, refl, ([], codes "a: {b}.c, d: [e].f = 1", codes " = g", refl, refl, refl, ([], codes ": {b}.c, d: [e].f = 1", refl, refl, refl, refl, refl, ([], codes " {b}.c, d: [e].f = 1", refl, refl, refl, refl, refl, (codes " ", codes "b", codes ".c, d: [e].f = 1", refl, refl, refl, ([], [], refl, refl, refl, refl, refl, refl), ([], codes "c, d: [e].f = 1", refl, refl, refl, refl, refl, ([], codes ", d: [e].f = 1", refl, refl, refl, refl, refl, ([], codes " d: [e].f = 1", refl, refl, refl, refl, refl, (codes " ", codes ": [e].f = 1", refl, refl, refl, refl, refl, ([], codes " [e].f = 1", refl, refl, refl, refl, refl, (codes " ", codes "e", codes ".f = 1", refl, refl, refl, ([], [], refl, refl, refl, refl, refl, refl), ([], codes "f = 1", refl, refl, refl, refl, refl, ([], codes " = 1", refl, refl, refl, refl, refl, (codes " ", codes " 1", refl, refl, refl, refl, refl, (codes " ", [], refl, refl, refl, refl, refl, refl))))))))))))), (codes " ", codes " g", refl, refl, refl, refl, refl, (codes " ", [], refl, refl, refl, refl, refl, refl))), ([], [], refl, refl, refl, refl, refl, refl)),
  grammar.a_module (grammar.module_items refl (grammar.last_module_item (grammar.a_module_statement (grammar.a_statement (grammar.an_expression_statement (grammar.a_semicolon {a = group false Round (group false Brace (word (codes "a") (sign colon (group false Brace (word (codes "b") done) (sign dot (word (codes "c") (sign comma (word (codes "d") (sign colon (group false Square (word (codes "e") done) (sign dot (word (codes "f") (sign equal (piece false (Number (codes "1")) done))))))))))))) (sign equal (word (codes "g") done))) done} false refl) refl (grammar.an_assignment (primary_value (grammar.in_parentheses (grammar.an_assignment (grammar.an_assignment_to_pattern {a = group false Brace (word (codes "a") (sign colon (group false Brace (word (codes "b") done) (sign dot (word (codes "c") (sign comma (word (codes "d") (sign colon (group false Square (word (codes "e") done) (sign dot (word (codes "f") (sign equal (piece false (Number (codes "1")) done))))))))))))) done} false refl (grammar.an_object_target (grammar.first_target_property {a = word (codes "a") (sign colon (group false Brace (word (codes "b") done) (sign dot (word (codes "c") done))))} false refl (grammar.a_target_property {a = word (codes "a") done} false refl (grammar.a_name_key value_a) (grammar.a_target_alone (grammar.a_simple_target (member_left (grammar.a_named_member {a = group false Brace (word (codes "b") done) done} (codes "c") false false refl value_c (grammar.a_primary (grammar.an_object (grammar.last_property (grammar.a_shorthand value_b free_b)))))) refl))) (grammar.last_target_property (grammar.a_target_property {a = word (codes "d") done} false refl (grammar.a_name_key value_d) (grammar.a_target_with_default {a = group false Square (word (codes "e") done) (sign dot (word (codes "f") done))} false refl (member_left (grammar.a_named_member {a = group false Square (word (codes "e") done) done} (codes "f") false false refl value_f (grammar.a_primary (grammar.an_array (grammar.last_element (grammar.an_element (primary_value (grammar.a_reference value_e free_e)))))))) refl (primary_value (grammar.a_number refl)) refl))))) (primary_value (grammar.a_reference value_g free_g)))))))))))),
)

pub object_before_of : IsRead (codes "for ({}.x of y);") (program_of no_trees (more (tree.for_of_statement (loop_values false) (tree.static_member (link_values false) (tree.object_expression (nothing_of 0) no_trees) (key_of (codes "x"))) (reference_of (codes "y")) (tree.empty_statement (nothing_of 0))) no_trees))
unfolding unicode_ident longer_stands word_value
object_before_of = (
  word (codes "for") (group false Round (group false Brace done (sign dot (word (codes "x") (word (codes "of") (word (codes "y") done))))) (sign semicolon done)),
  ([], codes " ({}.x of y);", refl, refl, refl, refl, refl, (codes " ", codes "{}.x of y", codes ";", refl, refl, refl, ([], [], codes ".x of y", refl, refl, refl, refl, ([], codes "x of y", refl, refl, refl, refl, refl, ([], codes " of y", refl, refl, refl, refl, refl, (codes " ", codes " y", refl, refl, refl, refl, refl, (codes " ", [], refl, refl, refl, refl, refl, refl))))), ([], [], refl, refl, refl, refl, refl, refl))),
  grammar.a_module (grammar.module_items refl (grammar.last_module_item (grammar.a_module_statement (grammar.a_statement (grammar.a_for_of {a = group false Brace done (sign dot (word (codes "x") done))} false refl (grammar.a_target refl (member_left (grammar.a_named_member {a = group false Brace done done} (codes "x") false false refl value_x (grammar.a_primary (grammar.an_object grammar.no_property)))) refl) (primary_value (grammar.a_reference value_y free_y)) grammar.an_empty_statement))))),
)

pub patterns_in_choice : IsRead (codes "a ? [b] = c : {d} = e;") (program_of no_trees (more (statement_of (tree.conditional (nothing_of 0) (reference_of (codes "a")) (tree.assignment (bare (assignment_operator assignment_operators.Assign ∷ [])) (tree.array_target (nothing_of 0) (more (reference_of (codes "b")) no_trees) absent) (reference_of (codes "c"))) (tree.assignment (bare (assignment_operator assignment_operators.Assign ∷ [])) (tree.object_target (nothing_of 0) (more (tree.target_property (computed_values false) (key_of (codes "d")) (reference_of (codes "d"))) no_trees) absent) (reference_of (codes "e"))))) no_trees))
unfolding unicode_ident longer_stands word_value
patterns_in_choice = (
  word (codes "a") (sign question (group false Square (word (codes "b") done) (sign equal (word (codes "c") (sign colon (group false Brace (word (codes "d") done) (sign equal (word (codes "e") (sign semicolon done))))))))),
  ([], codes " ? [b] = c : {d} = e;", refl, refl, refl, refl, refl, (codes " ", codes " [b] = c : {d} = e;", refl, refl, refl, refl, refl, (codes " ", codes "b", codes " = c : {d} = e;", refl, refl, refl, ([], [], refl, refl, refl, refl, refl, refl), (codes " ", codes " c : {d} = e;", refl, refl, refl, refl, refl, (codes " ", codes " : {d} = e;", refl, refl, refl, refl, refl, (codes " ", codes " {d} = e;", refl, refl, refl, refl, refl, (codes " ", codes "d", codes " = e;", refl, refl, refl, ([], [], refl, refl, refl, refl, refl, refl), (codes " ", codes " e;", refl, refl, refl, refl, refl, (codes " ", codes ";", refl, refl, refl, refl, refl, ([], [], refl, refl, refl, refl, refl, refl)))))))))),
  grammar.a_module (grammar.module_items refl (grammar.last_module_item (grammar.a_module_statement (grammar.a_statement (grammar.an_expression_statement (grammar.a_semicolon {a = word (codes "a") (sign question (group false Square (word (codes "b") done) (sign equal (word (codes "c") (sign colon (group false Brace (word (codes "d") done) (sign equal (word (codes "e") done))))))))} false refl) refl (grammar.an_assignment (grammar.a_conditional (grammar.a_choice {a = word (codes "a") done} {b = group false Square (word (codes "b") done) (sign equal (word (codes "c") done))} false false refl (grammar.a_logical_or (grammar.a_logical_and (grammar.a_bit_or (grammar.a_bit_xor (grammar.a_bit_and (grammar.an_equality (grammar.a_relation (grammar.a_shift (grammar.an_additive (grammar.a_multiplicative (grammar.an_exponent (grammar.a_unary (left_unary (primary_left (grammar.a_reference value_a free_a))))))))))))))) (grammar.an_assignment_to_pattern {a = group false Square (word (codes "b") done) done} false refl (grammar.an_array_target (grammar.last_target_element (grammar.a_target_alone (grammar.a_simple_target (primary_left (grammar.a_reference value_b free_b)) refl)))) (primary_value (grammar.a_reference value_c free_c))) (grammar.an_assignment_to_pattern {a = group false Brace (word (codes "d") done) done} false refl (grammar.an_object_target (grammar.last_target_property (grammar.a_target_shorthand value_d free_d))) (primary_value (grammar.a_reference value_e free_e))))))))))),
)

pub pattern_as_value : IsRead (codes "x = {a = 1} = b;") (program_of no_trees (more (statement_of (tree.assignment (bare (assignment_operator assignment_operators.Assign ∷ [])) (reference_of (codes "x")) (tree.assignment (bare (assignment_operator assignment_operators.Assign ∷ [])) (tree.object_target (nothing_of 0) (more (tree.target_property (computed_values false) (key_of (codes "a")) (tree.target_with_default (nothing_of 0) (reference_of (codes "a")) (tree.numeric_literal (by_text (codes "1"))))) no_trees) absent) (reference_of (codes "b"))))) no_trees))
unfolding unicode_ident longer_stands word_value longer_number_stands spells_number
pattern_as_value = (
  word (codes "x") (sign equal (group false Brace (word (codes "a") (sign equal (piece false (Number (codes "1")) done))) (sign equal (word (codes "b") (sign semicolon done))))),
  ([], codes " = {a = 1} = b;", refl, refl, refl, refl, refl, (codes " ", codes " {a = 1} = b;", refl, refl, refl, refl, refl, (codes " ", codes "a = 1", codes " = b;", refl, refl, refl, ([], codes " = 1", refl, refl, refl, refl, refl, (codes " ", codes " 1", refl, refl, refl, refl, refl, (codes " ", [], refl, refl, refl, refl, refl, refl))), (codes " ", codes " b;", refl, refl, refl, refl, refl, (codes " ", codes ";", refl, refl, refl, refl, refl, ([], [], refl, refl, refl, refl, refl, refl)))))),
  grammar.a_module (grammar.module_items refl (grammar.last_module_item (grammar.a_module_statement (grammar.a_statement (grammar.an_expression_statement (grammar.a_semicolon {a = word (codes "x") (sign equal (group false Brace (word (codes "a") (sign equal (piece false (Number (codes "1")) done))) (sign equal (word (codes "b") done))))} false refl) refl (grammar.an_assignment (grammar.an_assignment_to {a = word (codes "x") done} assignment_operators.Assign false refl (primary_left (grammar.a_reference value_x free_x)) refl (grammar.an_assignment_to_pattern {a = group false Brace (word (codes "a") (sign equal (piece false (Number (codes "1")) done))) done} false refl (grammar.an_object_target (grammar.last_target_property (grammar.a_target_shorthand_with_default value_a free_a (primary_value (grammar.a_number refl))))) (primary_value (grammar.a_reference value_b free_b))) refl))))))),
)

pub pattern_over_line_end : IsRead (codes "[a]\n= b;") (program_of no_trees (more (statement_of (tree.assignment (bare (assignment_operator assignment_operators.Assign ∷ [])) (tree.array_target (nothing_of 0) (more (reference_of (codes "a")) no_trees) absent) (reference_of (codes "b")))) no_trees))
unfolding unicode_ident longer_stands word_value
pattern_over_line_end = (
  group false Square (word (codes "a") done) (piece true (Sign equal) (word (codes "b") (sign semicolon done))),
  ([], codes "a", codes "\n= b;", refl, refl, refl, ([], [], refl, refl, refl, refl, refl, refl), (codes "\n", codes " b;", refl, refl, refl, refl, refl, (codes " ", codes ";", refl, refl, refl, refl, refl, ([], [], refl, refl, refl, refl, refl, refl)))),
  grammar.a_module (grammar.module_items refl (grammar.last_module_item (grammar.a_module_statement (grammar.a_statement (grammar.an_expression_statement (grammar.a_semicolon {a = group false Square (word (codes "a") done) (piece true (Sign equal) (word (codes "b") done))} false refl) refl (grammar.an_assignment (grammar.an_assignment_to_pattern {a = group false Square (word (codes "a") done) done} true refl (grammar.an_array_target (grammar.last_target_element (grammar.a_target_alone (grammar.a_simple_target (primary_left (grammar.a_reference value_a free_a)) refl)))) (primary_value (grammar.a_reference value_b free_b))))))))),
)

pub named_function_to_target : IsRead (codes "[(a) = function b(){}] = c;") (program_of no_trees (more (statement_of (tree.assignment (bare (assignment_operator assignment_operators.Assign ∷ [])) (tree.array_target (nothing_of 0) (more (tree.target_with_default (nothing_of 0) (reference_of (codes "a")) (function_of kinds.Expression false false (given (name_of (codes "b"))) no_trees absent no_trees no_trees)) no_trees) absent) (reference_of (codes "c")))) no_trees))
unfolding unicode_ident longer_stands word_value
named_function_to_target = (
  group false Square (group false Round (word (codes "a") done) (sign equal (word (codes "function") (word (codes "b") (group false Round done (group false Brace done done)))))) (sign equal (word (codes "c") (sign semicolon done))),
  ([], codes "(a) = function b(){}", codes " = c;", refl, refl, refl, ([], codes "a", codes " = function b(){}", refl, refl, refl, ([], [], refl, refl, refl, refl, refl, refl), (codes " ", codes " function b(){}", refl, refl, refl, refl, refl, (codes " ", codes " b(){}", refl, refl, refl, refl, refl, (codes " ", codes "(){}", refl, refl, refl, refl, refl, ([], [], codes "{}", refl, refl, refl, refl, ([], [], [], refl, refl, refl, refl, refl)))))), (codes " ", codes " c;", refl, refl, refl, refl, refl, (codes " ", codes ";", refl, refl, refl, refl, refl, ([], [], refl, refl, refl, refl, refl, refl)))),
  grammar.a_module (grammar.module_items refl (grammar.last_module_item (grammar.a_module_statement (grammar.a_statement (grammar.an_expression_statement (grammar.a_semicolon {a = group false Square (group false Round (word (codes "a") done) (sign equal (word (codes "function") (word (codes "b") (group false Round done (group false Brace done done)))))) (sign equal (word (codes "c") done))} false refl) refl (grammar.an_assignment (grammar.an_assignment_to_pattern {a = group false Square (group false Round (word (codes "a") done) (sign equal (word (codes "function") (word (codes "b") (group false Round done (group false Brace done done)))))) done} false refl (grammar.an_array_target (grammar.last_target_element (grammar.a_target_with_default {a = group false Round (word (codes "a") done) done} false refl (primary_left (grammar.in_parentheses (grammar.an_assignment (primary_value (grammar.a_reference value_a free_a))))) refl (primary_value (grammar.a_function (grammar.a_plain_function (grammar.a_named_function value_b free_b grammar.no_parameter (grammar.statements refl grammar.no_statement))))) refl))) (primary_value (grammar.a_reference value_c free_c))))))))),
)
