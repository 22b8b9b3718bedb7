-- Patterns of assignment targets that are read.
use Rattle.std.proofs.Common.{false, [], codes, refl}
use Rattle.unicode_ident.proofs.Computing.{unicode_ident}
use Rattle.jsgen_syntax.specs.Escapes.{word_value}
use Rattle.jsgen_syntax.specs.declared.operator.AssignmentOperator.TheVariants.{Assign}
use Rattle.jsgen_tree.specs.Tree.{absent, given, no_trees, more, hole}
use Rattle.jsgen_model.specs.Numbers.{spells_number}
use Rattle.jsgen_model.specs.Punctuator.{ellipsis, arrow, dot, comma, semicolon, colon, equal, Round, Square, Brace}
use Rattle.jsgen_model.specs.Tokens.{done, piece, group, Number, longer_stands, longer_number_stands}
use Rattle.jsgen_model.specs.Grammar as grammar
use Rattle.jsgen_reading_samples.specs.ReadPatterns.{IsRead}
use Rattle.jsgen_reading_samples.specs.ReadPatterns as samples
use Rattle.jsgen_reading_samples.proofs.Written.{word, sign}
use Rattle.jsgen_reading_samples.proofs.Parts.{of_member, related, valued, read_arrow, only, item, free_a, value_a, free_b, value_b, free_c, value_c, free_d, value_d, free_x, value_x, free_y, value_y}

pub object_at_start : IsRead (codes "({a,b:[c=1]}=d);") (samples.module_of (samples.statement_of (samples.in_parentheses (samples.assignment_of (samples.object_target (more (samples.target_property false (samples.key_of (codes "a")) samples.a) (more (samples.target_property false (samples.key_of (codes "b")) (samples.array_target (more (samples.target_with_default samples.c (samples.number_of (codes "1"))) no_trees) absent)) no_trees)) absent) samples.d))))
unfolding unicode_ident longer_stands longer_number_stands spells_number word_value
object_at_start = (
  group false Round (group false Brace (word (codes "a") (sign comma (word (codes "b") (sign colon (group false Square (word (codes "c") (sign equal (piece false (Number (codes "1")) done))) done))))) (sign equal (word (codes "d") done))) (sign semicolon done),
  ([], codes "{a,b:[c=1]}=d", codes ";", refl, refl, refl, ([], codes "a,b:[c=1]", codes "=d", refl, refl, refl, ([], codes ",b:[c=1]", refl, refl, refl, refl, refl, ([], codes "b:[c=1]", refl, refl, refl, refl, refl, ([], codes ":[c=1]", refl, refl, refl, refl, refl, ([], codes "[c=1]", refl, refl, refl, refl, refl, ([], codes "c=1", [], refl, refl, refl, ([], codes "=1", refl, refl, refl, refl, refl, ([], codes "1", refl, refl, refl, refl, refl, ([], [], refl, refl, refl, refl, refl, refl))), refl))))), ([], codes "d", refl, refl, refl, refl, refl, ([], [], refl, refl, refl, refl, refl, refl))), ([], [], refl, refl, refl, refl, refl, refl)),
  only refl (item {a = group false Round (group false Brace (word (codes "a") (sign comma (word (codes "b") (sign colon (group false Square (word (codes "c") (sign equal (piece false (Number (codes "1")) done))) done))))) (sign equal (word (codes "d") done))) done} refl (grammar.an_assignment (valued (related (of_member (grammar.a_primary (grammar.in_parentheses (grammar.an_assignment (grammar.an_assignment_to_pattern {a = group false Brace (word (codes "a") (sign comma (word (codes "b") (sign colon (group false Square (word (codes "c") (sign equal (piece false (Number (codes "1")) done))) done))))) done} {b = word (codes "d") done} false refl (grammar.an_object_target (grammar.first_target_property {a = word (codes "a") done} {b = word (codes "b") (sign colon (group false Square (word (codes "c") (sign equal (piece false (Number (codes "1")) done))) done))} false refl (grammar.a_target_shorthand value_a free_a) (grammar.last_target_property (grammar.a_target_property {a = word (codes "b") done} {b = group false Square (word (codes "c") (sign equal (piece false (Number (codes "1")) done))) done} false refl (grammar.a_name_key value_b) (grammar.a_target_alone (grammar.a_target_pattern (grammar.an_array_target (grammar.last_target_element (grammar.a_target_with_default {a = word (codes "c") done} {b = piece false (Number (codes "1")) done} false refl (of_member (grammar.a_primary (grammar.a_reference value_c free_c))) refl (valued (related (of_member (grammar.a_primary (grammar.a_number refl))))) refl))))))))) (valued (related (of_member (grammar.a_primary (grammar.a_reference value_d free_d)))))))))))))),
)

pub object_at_start_with_spaces : IsRead (codes "({a, b: [c = 1]} = d);") (samples.module_of (samples.statement_of (samples.in_parentheses (samples.assignment_of (samples.object_target (more (samples.target_property false (samples.key_of (codes "a")) samples.a) (more (samples.target_property false (samples.key_of (codes "b")) (samples.array_target (more (samples.target_with_default samples.c (samples.number_of (codes "1"))) no_trees) absent)) no_trees)) absent) samples.d))))
unfolding unicode_ident longer_stands longer_number_stands spells_number word_value
object_at_start_with_spaces = (
  group false Round (group false Brace (word (codes "a") (sign comma (word (codes "b") (sign colon (group false Square (word (codes "c") (sign equal (piece false (Number (codes "1")) done))) done))))) (sign equal (word (codes "d") done))) (sign semicolon done),
  ([], codes "{a, b: [c = 1]} = d", codes ";", refl, refl, refl, ([], codes "a, b: [c = 1]", codes " = d", refl, refl, refl, ([], codes ", b: [c = 1]", refl, refl, refl, refl, refl, ([], codes " b: [c = 1]", refl, refl, refl, refl, refl, (codes " ", codes ": [c = 1]", refl, refl, refl, refl, refl, ([], codes " [c = 1]", refl, refl, refl, refl, refl, (codes " ", codes "c = 1", [], refl, refl, refl, ([], codes " = 1", refl, refl, refl, refl, refl, (codes " ", codes " 1", refl, refl, refl, refl, refl, (codes " ", [], refl, refl, refl, refl, refl, refl))), refl))))), (codes " ", codes " d", refl, refl, refl, refl, refl, (codes " ", [], refl, refl, refl, refl, refl, refl))), ([], [], refl, refl, refl, refl, refl, refl)),
  only refl (item {a = group false Round (group false Brace (word (codes "a") (sign comma (word (codes "b") (sign colon (group false Square (word (codes "c") (sign equal (piece false (Number (codes "1")) done))) done))))) (sign equal (word (codes "d") done))) done} refl (grammar.an_assignment (valued (related (of_member (grammar.a_primary (grammar.in_parentheses (grammar.an_assignment (grammar.an_assignment_to_pattern {a = group false Brace (word (codes "a") (sign comma (word (codes "b") (sign colon (group false Square (word (codes "c") (sign equal (piece false (Number (codes "1")) done))) done))))) done} {b = word (codes "d") done} false refl (grammar.an_object_target (grammar.first_target_property {a = word (codes "a") done} {b = word (codes "b") (sign colon (group false Square (word (codes "c") (sign equal (piece false (Number (codes "1")) done))) done))} false refl (grammar.a_target_shorthand value_a free_a) (grammar.last_target_property (grammar.a_target_property {a = word (codes "b") done} {b = group false Square (word (codes "c") (sign equal (piece false (Number (codes "1")) done))) done} false refl (grammar.a_name_key value_b) (grammar.a_target_alone (grammar.a_target_pattern (grammar.an_array_target (grammar.last_target_element (grammar.a_target_with_default {a = word (codes "c") done} {b = piece false (Number (codes "1")) done} false refl (of_member (grammar.a_primary (grammar.a_reference value_c free_c))) refl (valued (related (of_member (grammar.a_primary (grammar.a_number refl))))) refl))))))))) (valued (related (of_member (grammar.a_primary (grammar.a_reference value_d free_d)))))))))))))),
)

pub left_out_and_rest : IsRead (codes "[a,,b,...c]=d;") (samples.module_of (samples.statement_of (samples.assignment_of (samples.array_target (more samples.a (hole (more samples.b no_trees))) (given (samples.target_rest samples.c))) samples.d)))
unfolding unicode_ident longer_stands word_value
left_out_and_rest = (
  group false Square (word (codes "a") (sign comma (sign comma (word (codes "b") (sign comma (sign ellipsis (word (codes "c") done))))))) (sign equal (word (codes "d") (sign semicolon done))),
  ([], codes "a,,b,...c", codes "=d;", refl, refl, refl, ([], codes ",,b,...c", refl, refl, refl, refl, refl, ([], codes ",b,...c", refl, refl, refl, refl, refl, ([], codes "b,...c", refl, refl, refl, refl, refl, ([], codes ",...c", refl, refl, refl, refl, refl, ([], codes "...c", refl, refl, refl, refl, refl, ([], codes "c", refl, refl, refl, refl, refl, ([], [], refl, refl, refl, refl, refl, refl))))))), ([], codes "d;", refl, refl, refl, refl, refl, ([], codes ";", refl, refl, refl, refl, refl, ([], [], refl, refl, refl, refl, refl, refl)))),
  only refl (item {a = group false Square (word (codes "a") (sign comma (sign comma (word (codes "b") (sign comma (sign ellipsis (word (codes "c") done))))))) (sign equal (word (codes "d") done))} refl (grammar.an_assignment (grammar.an_assignment_to_pattern {a = group false Square (word (codes "a") (sign comma (sign comma (word (codes "b") (sign comma (sign ellipsis (word (codes "c") done))))))) done} {b = word (codes "d") done} false refl (grammar.an_array_target (grammar.first_target_element {a = word (codes "a") done} {b = sign comma (word (codes "b") (sign comma (sign ellipsis (word (codes "c") done))))} false refl (grammar.a_target_alone (grammar.a_simple_target (of_member (grammar.a_primary (grammar.a_reference value_a free_a))) refl)) (grammar.a_target_elision (grammar.first_target_element {a = word (codes "b") done} {b = sign ellipsis (word (codes "c") done)} false refl (grammar.a_target_alone (grammar.a_simple_target (of_member (grammar.a_primary (grammar.a_reference value_b free_b))) refl)) (grammar.a_target_rest (grammar.a_simple_target (of_member (grammar.a_primary (grammar.a_reference value_c free_c))) refl)))))) (valued (related (of_member (grammar.a_primary (grammar.a_reference value_d free_d)))))))),
)

pub left_out_and_rest_with_spaces : IsRead (codes "[a, , b, ...c] = d;") (samples.module_of (samples.statement_of (samples.assignment_of (samples.array_target (more samples.a (hole (more samples.b no_trees))) (given (samples.target_rest samples.c))) samples.d)))
unfolding unicode_ident longer_stands word_value
left_out_and_rest_with_spaces = (
  group false Square (word (codes "a") (sign comma (sign comma (word (codes "b") (sign comma (sign ellipsis (word (codes "c") done))))))) (sign equal (word (codes "d") (sign semicolon done))),
  ([], codes "a, , b, ...c", codes " = d;", refl, refl, refl, ([], codes ", , b, ...c", refl, refl, refl, refl, refl, ([], codes " , b, ...c", refl, refl, refl, refl, refl, (codes " ", codes " b, ...c", refl, refl, refl, refl, refl, (codes " ", codes ", ...c", refl, refl, refl, refl, refl, ([], codes " ...c", refl, refl, refl, refl, refl, (codes " ", codes "c", refl, refl, refl, refl, refl, ([], [], refl, refl, refl, refl, refl, refl))))))), (codes " ", codes " d;", refl, refl, refl, refl, refl, (codes " ", codes ";", refl, refl, refl, refl, refl, ([], [], refl, refl, refl, refl, refl, refl)))),
  only refl (item {a = group false Square (word (codes "a") (sign comma (sign comma (word (codes "b") (sign comma (sign ellipsis (word (codes "c") done))))))) (sign equal (word (codes "d") done))} refl (grammar.an_assignment (grammar.an_assignment_to_pattern {a = group false Square (word (codes "a") (sign comma (sign comma (word (codes "b") (sign comma (sign ellipsis (word (codes "c") done))))))) done} {b = word (codes "d") done} false refl (grammar.an_array_target (grammar.first_target_element {a = word (codes "a") done} {b = sign comma (word (codes "b") (sign comma (sign ellipsis (word (codes "c") done))))} false refl (grammar.a_target_alone (grammar.a_simple_target (of_member (grammar.a_primary (grammar.a_reference value_a free_a))) refl)) (grammar.a_target_elision (grammar.first_target_element {a = word (codes "b") done} {b = sign ellipsis (word (codes "c") done)} false refl (grammar.a_target_alone (grammar.a_simple_target (of_member (grammar.a_primary (grammar.a_reference value_b free_b))) refl)) (grammar.a_target_rest (grammar.a_simple_target (of_member (grammar.a_primary (grammar.a_reference value_c free_c))) refl)))))) (valued (related (of_member (grammar.a_primary (grammar.a_reference value_d free_d)))))))),
)

pub last_left_out : IsRead (codes "[,]=a;") (samples.module_of (samples.statement_of (samples.assignment_of (samples.array_target (hole no_trees) absent) samples.a)))
unfolding unicode_ident longer_stands word_value
last_left_out = (
  group false Square (sign comma done) (sign equal (word (codes "a") (sign semicolon done))),
  ([], codes ",", codes "=a;", refl, refl, refl, ([], [], refl, refl, refl, refl, refl, refl), ([], codes "a;", refl, refl, refl, refl, refl, ([], codes ";", refl, refl, refl, refl, refl, ([], [], refl, refl, refl, refl, refl, refl)))),
  only refl (item {a = group false Square (sign comma done) (sign equal (word (codes "a") done))} refl (grammar.an_assignment (grammar.an_assignment_to_pattern {a = group false Square (sign comma done) done} {b = word (codes "a") done} false refl (grammar.an_array_target (grammar.a_target_elision grammar.no_target_element)) (valued (related (of_member (grammar.a_primary (grammar.a_reference value_a free_a)))))))),
)

pub last_left_out_with_spaces : IsRead (codes "[,] = a;") (samples.module_of (samples.statement_of (samples.assignment_of (samples.array_target (hole no_trees) absent) samples.a)))
unfolding unicode_ident longer_stands word_value
last_left_out_with_spaces = (
  group false Square (sign comma done) (sign equal (word (codes "a") (sign semicolon done))),
  ([], codes ",", codes " = a;", refl, refl, refl, ([], [], refl, refl, refl, refl, refl, refl), (codes " ", codes " a;", refl, refl, refl, refl, refl, (codes " ", codes ";", refl, refl, refl, refl, refl, ([], [], refl, refl, refl, refl, refl, refl)))),
  only refl (item {a = group false Square (sign comma done) (sign equal (word (codes "a") done))} refl (grammar.an_assignment (grammar.an_assignment_to_pattern {a = group false Square (sign comma done) done} {b = word (codes "a") done} false refl (grammar.an_array_target (grammar.a_target_elision grammar.no_target_element)) (valued (related (of_member (grammar.a_primary (grammar.a_reference value_a free_a)))))))),
)

pub names_alone : IsRead (codes "({a=1,b=2,c}=d);") (samples.module_of (samples.statement_of (samples.in_parentheses (samples.assignment_of (samples.object_target (more (samples.target_property false (samples.key_of (codes "a")) (samples.target_with_default samples.a (samples.number_of (codes "1")))) (more (samples.target_property false (samples.key_of (codes "b")) (samples.target_with_default samples.b (samples.number_of (codes "2")))) (more (samples.target_property false (samples.key_of (codes "c")) samples.c) no_trees))) absent) samples.d))))
unfolding unicode_ident longer_stands longer_number_stands spells_number word_value
names_alone = (
  group false Round (group false Brace (word (codes "a") (sign equal (piece false (Number (codes "1")) (sign comma (word (codes "b") (sign equal (piece false (Number (codes "2")) (sign comma (word (codes "c") done))))))))) (sign equal (word (codes "d") done))) (sign semicolon done),
  ([], codes "{a=1,b=2,c}=d", codes ";", refl, refl, refl, ([], codes "a=1,b=2,c", codes "=d", refl, refl, refl, ([], codes "=1,b=2,c", refl, refl, refl, refl, refl, ([], codes "1,b=2,c", refl, refl, refl, refl, refl, ([], codes ",b=2,c", refl, refl, refl, refl, refl, ([], codes "b=2,c", refl, refl, refl, refl, refl, ([], codes "=2,c", refl, refl, refl, refl, refl, ([], codes "2,c", refl, refl, refl, refl, refl, ([], codes ",c", refl, refl, refl, refl, refl, ([], codes "c", refl, refl, refl, refl, refl, ([], [], refl, refl, refl, refl, refl, refl))))))))), ([], codes "d", refl, refl, refl, refl, refl, ([], [], refl, refl, refl, refl, refl, refl))), ([], [], refl, refl, refl, refl, refl, refl)),
  only refl (item {a = group false Round (group false Brace (word (codes "a") (sign equal (piece false (Number (codes "1")) (sign comma (word (codes "b") (sign equal (piece false (Number (codes "2")) (sign comma (word (codes "c") done))))))))) (sign equal (word (codes "d") done))) done} refl (grammar.an_assignment (valued (related (of_member (grammar.a_primary (grammar.in_parentheses (grammar.an_assignment (grammar.an_assignment_to_pattern {a = group false Brace (word (codes "a") (sign equal (piece false (Number (codes "1")) (sign comma (word (codes "b") (sign equal (piece false (Number (codes "2")) (sign comma (word (codes "c") done))))))))) done} {b = word (codes "d") done} false refl (grammar.an_object_target (grammar.first_target_property {a = word (codes "a") (sign equal (piece false (Number (codes "1")) done))} {b = word (codes "b") (sign equal (piece false (Number (codes "2")) (sign comma (word (codes "c") done))))} false refl (grammar.a_target_shorthand_with_default value_a free_a (valued (related (of_member (grammar.a_primary (grammar.a_number refl)))))) (grammar.first_target_property {a = word (codes "b") (sign equal (piece false (Number (codes "2")) done))} {b = word (codes "c") done} false refl (grammar.a_target_shorthand_with_default value_b free_b (valued (related (of_member (grammar.a_primary (grammar.a_number refl)))))) (grammar.last_target_property (grammar.a_target_shorthand value_c free_c))))) (valued (related (of_member (grammar.a_primary (grammar.a_reference value_d free_d)))))))))))))),
)

pub names_behind_keys : IsRead (codes "({a = 1, b: b = 2, c: c} = d);") (samples.module_of (samples.statement_of (samples.in_parentheses (samples.assignment_of (samples.object_target (more (samples.target_property false (samples.key_of (codes "a")) (samples.target_with_default samples.a (samples.number_of (codes "1")))) (more (samples.target_property false (samples.key_of (codes "b")) (samples.target_with_default samples.b (samples.number_of (codes "2")))) (more (samples.target_property false (samples.key_of (codes "c")) samples.c) no_trees))) absent) samples.d))))
unfolding unicode_ident longer_stands longer_number_stands spells_number word_value
names_behind_keys = (
  group false Round (group false Brace (word (codes "a") (sign equal (piece false (Number (codes "1")) (sign comma (word (codes "b") (sign colon (word (codes "b") (sign equal (piece false (Number (codes "2")) (sign comma (word (codes "c") (sign colon (word (codes "c") done))))))))))))) (sign equal (word (codes "d") done))) (sign semicolon done),
  ([], codes "{a = 1, b: b = 2, c: c} = d", codes ";", refl, refl, refl, ([], codes "a = 1, b: b = 2, c: c", codes " = d", refl, refl, refl, ([], codes " = 1, b: b = 2, c: c", refl, refl, refl, refl, refl, (codes " ", codes " 1, b: b = 2, c: c", refl, refl, refl, refl, refl, (codes " ", codes ", b: b = 2, c: c", refl, refl, refl, refl, refl, ([], codes " b: b = 2, c: c", refl, refl, refl, refl, refl, (codes " ", codes ": b = 2, c: c", refl, refl, refl, refl, refl, ([], codes " b = 2, c: c", refl, refl, refl, refl, refl, (codes " ", codes " = 2, c: c", refl, refl, refl, refl, refl, (codes " ", codes " 2, c: c", refl, refl, refl, refl, refl, (codes " ", codes ", c: c", refl, refl, refl, refl, refl, ([], codes " c: c", refl, refl, refl, refl, refl, (codes " ", codes ": c", refl, refl, refl, refl, refl, ([], codes " c", refl, refl, refl, refl, refl, (codes " ", [], refl, refl, refl, refl, refl, refl))))))))))))), (codes " ", codes " d", refl, refl, refl, refl, refl, (codes " ", [], refl, refl, refl, refl, refl, refl))), ([], [], refl, refl, refl, refl, refl, refl)),
  only refl (item {a = group false Round (group false Brace (word (codes "a") (sign equal (piece false (Number (codes "1")) (sign comma (word (codes "b") (sign colon (word (codes "b") (sign equal (piece false (Number (codes "2")) (sign comma (word (codes "c") (sign colon (word (codes "c") done))))))))))))) (sign equal (word (codes "d") done))) done} refl (grammar.an_assignment (valued (related (of_member (grammar.a_primary (grammar.in_parentheses (grammar.an_assignment (grammar.an_assignment_to_pattern {a = group false Brace (word (codes "a") (sign equal (piece false (Number (codes "1")) (sign comma (word (codes "b") (sign colon (word (codes "b") (sign equal (piece false (Number (codes "2")) (sign comma (word (codes "c") (sign colon (word (codes "c") done))))))))))))) done} {b = word (codes "d") done} false refl (grammar.an_object_target (grammar.first_target_property {a = word (codes "a") (sign equal (piece false (Number (codes "1")) done))} {b = word (codes "b") (sign colon (word (codes "b") (sign equal (piece false (Number (codes "2")) (sign comma (word (codes "c") (sign colon (word (codes "c") done))))))))} false refl (grammar.a_target_shorthand_with_default value_a free_a (valued (related (of_member (grammar.a_primary (grammar.a_number refl)))))) (grammar.first_target_property {a = word (codes "b") (sign colon (word (codes "b") (sign equal (piece false (Number (codes "2")) done))))} {b = word (codes "c") (sign colon (word (codes "c") done))} false refl (grammar.a_target_property {a = word (codes "b") done} {b = word (codes "b") (sign equal (piece false (Number (codes "2")) done))} false refl (grammar.a_name_key value_b) (grammar.a_target_with_default {a = word (codes "b") done} {b = piece false (Number (codes "2")) done} false refl (of_member (grammar.a_primary (grammar.a_reference value_b free_b))) refl (valued (related (of_member (grammar.a_primary (grammar.a_number refl))))) refl)) (grammar.last_target_property (grammar.a_target_property {a = word (codes "c") done} {b = word (codes "c") done} false refl (grammar.a_name_key value_c) (grammar.a_target_alone (grammar.a_simple_target (of_member (grammar.a_primary (grammar.a_reference value_c free_c))) refl))))))) (valued (related (of_member (grammar.a_primary (grammar.a_reference value_d free_d)))))))))))))),
)

pub body_of_arrow : IsRead (codes "()=>({a}=b);") (samples.module_of (samples.statement_of (samples.arrow_of (samples.parameters_of no_trees absent) (samples.in_parentheses (samples.assignment_of (samples.object_target (more (samples.target_property false (samples.key_of (codes "a")) samples.a) no_trees) absent) samples.b)))))
unfolding unicode_ident longer_stands word_value
body_of_arrow = (
  group false Round done (sign arrow (group false Round (group false Brace (word (codes "a") done) (sign equal (word (codes "b") done))) (sign semicolon done))),
  ([], [], codes "=>({a}=b);", refl, refl, refl, refl, ([], codes "({a}=b);", refl, refl, refl, refl, refl, ([], codes "{a}=b", codes ";", refl, refl, refl, ([], codes "a", codes "=b", refl, refl, refl, ([], [], refl, refl, refl, refl, refl, refl), ([], codes "b", refl, refl, refl, refl, refl, ([], [], refl, refl, refl, refl, refl, refl))), ([], [], refl, refl, refl, refl, refl, refl)))),
  only refl (item {a = group false Round done (sign arrow (group false Round (group false Brace (word (codes "a") done) (sign equal (word (codes "b") done))) done))} refl (grammar.an_assignment (read_arrow {a = group false Round done done} {b = group false Round (group false Brace (word (codes "a") done) (sign equal (word (codes "b") done))) done} refl (grammar.grouped_parameters grammar.no_parameter) refl (valued (related (of_member (grammar.a_primary (grammar.in_parentheses (grammar.an_assignment (grammar.an_assignment_to_pattern {a = group false Brace (word (codes "a") done) done} {b = word (codes "b") done} false refl (grammar.an_object_target (grammar.last_target_property (grammar.a_target_shorthand value_a free_a))) (valued (related (of_member (grammar.a_primary (grammar.a_reference value_b free_b))))))))))))))),
)

pub body_of_arrow_with_spaces : IsRead (codes "() => ({a} = b);") (samples.module_of (samples.statement_of (samples.arrow_of (samples.parameters_of no_trees absent) (samples.in_parentheses (samples.assignment_of (samples.object_target (more (samples.target_property false (samples.key_of (codes "a")) samples.a) no_trees) absent) samples.b)))))
unfolding unicode_ident longer_stands word_value
body_of_arrow_with_spaces = (
  group false Round done (sign arrow (group false Round (group false Brace (word (codes "a") done) (sign equal (word (codes "b") done))) (sign semicolon done))),
  ([], [], codes " => ({a} = b);", refl, refl, refl, refl, (codes " ", codes " ({a} = b);", refl, refl, refl, refl, refl, (codes " ", codes "{a} = b", codes ";", refl, refl, refl, ([], codes "a", codes " = b", refl, refl, refl, ([], [], refl, refl, refl, refl, refl, refl), (codes " ", codes " b", refl, refl, refl, refl, refl, (codes " ", [], refl, refl, refl, refl, refl, refl))), ([], [], refl, refl, refl, refl, refl, refl)))),
  only refl (item {a = group false Round done (sign arrow (group false Round (group false Brace (word (codes "a") done) (sign equal (word (codes "b") done))) done))} refl (grammar.an_assignment (read_arrow {a = group false Round done done} {b = group false Round (group false Brace (word (codes "a") done) (sign equal (word (codes "b") done))) done} refl (grammar.grouped_parameters grammar.no_parameter) refl (valued (related (of_member (grammar.a_primary (grammar.in_parentheses (grammar.an_assignment (grammar.an_assignment_to_pattern {a = group false Brace (word (codes "a") done) done} {b = word (codes "b") done} false refl (grammar.an_object_target (grammar.last_target_property (grammar.a_target_shorthand value_a free_a))) (valued (related (of_member (grammar.a_primary (grammar.a_reference value_b free_b))))))))))))))),
)

pub first_part_of_value : IsRead (codes "x=({a}=b,c);") (samples.module_of (samples.statement_of (samples.assignment_of (samples.reference_of (codes "x")) (samples.in_parentheses (samples.sequence_of (samples.assignment_of (samples.object_target (more (samples.target_property false (samples.key_of (codes "a")) samples.a) no_trees) absent) samples.b) samples.c)))))
unfolding unicode_ident longer_stands word_value
first_part_of_value = (
  word (codes "x") (sign equal (group false Round (group false Brace (word (codes "a") done) (sign equal (word (codes "b") (sign comma (word (codes "c") done))))) (sign semicolon done))),
  ([], codes "=({a}=b,c);", refl, refl, refl, refl, refl, ([], codes "({a}=b,c);", refl, refl, refl, refl, refl, ([], codes "{a}=b,c", codes ";", refl, refl, refl, ([], codes "a", codes "=b,c", refl, refl, refl, ([], [], refl, refl, refl, refl, refl, refl), ([], codes "b,c", refl, refl, refl, refl, refl, ([], codes ",c", refl, refl, refl, refl, refl, ([], codes "c", refl, refl, refl, refl, refl, ([], [], refl, refl, refl, refl, refl, refl))))), ([], [], refl, refl, refl, refl, refl, refl)))),
  only refl (item {a = word (codes "x") (sign equal (group false Round (group false Brace (word (codes "a") done) (sign equal (word (codes "b") (sign comma (word (codes "c") done))))) done))} refl (grammar.an_assignment (grammar.an_assignment_to {a = word (codes "x") done} {b = group false Round (group false Brace (word (codes "a") done) (sign equal (word (codes "b") (sign comma (word (codes "c") done))))) done} Assign false refl (of_member (grammar.a_primary (grammar.a_reference value_x free_x))) refl (valued (related (of_member (grammar.a_primary (grammar.in_parentheses (grammar.a_sequence {a = group false Brace (word (codes "a") done) (sign equal (word (codes "b") done))} {b = word (codes "c") done} false refl (grammar.an_assignment_to_pattern {a = group false Brace (word (codes "a") done) done} {b = word (codes "b") done} false refl (grammar.an_object_target (grammar.last_target_property (grammar.a_target_shorthand value_a free_a))) (valued (related (of_member (grammar.a_primary (grammar.a_reference value_b free_b)))))) (grammar.last_part (valued (related (of_member (grammar.a_primary (grammar.a_reference value_c free_c)))))))))))) refl))),
)

pub first_part_of_value_with_spaces : IsRead (codes "x = ({a} = b, c);") (samples.module_of (samples.statement_of (samples.assignment_of (samples.reference_of (codes "x")) (samples.in_parentheses (samples.sequence_of (samples.assignment_of (samples.object_target (more (samples.target_property false (samples.key_of (codes "a")) samples.a) no_trees) absent) samples.b) samples.c)))))
unfolding unicode_ident longer_stands word_value
first_part_of_value_with_spaces = (
  word (codes "x") (sign equal (group false Round (group false Brace (word (codes "a") done) (sign equal (word (codes "b") (sign comma (word (codes "c") done))))) (sign semicolon done))),
  ([], codes " = ({a} = b, c);", refl, refl, refl, refl, refl, (codes " ", codes " ({a} = b, c);", refl, refl, refl, refl, refl, (codes " ", codes "{a} = b, c", codes ";", refl, refl, refl, ([], codes "a", codes " = b, c", refl, refl, refl, ([], [], refl, refl, refl, refl, refl, refl), (codes " ", codes " b, c", refl, refl, refl, refl, refl, (codes " ", codes ", c", refl, refl, refl, refl, refl, ([], codes " c", refl, refl, refl, refl, refl, (codes " ", [], refl, refl, refl, refl, refl, refl))))), ([], [], refl, refl, refl, refl, refl, refl)))),
  only refl (item {a = word (codes "x") (sign equal (group false Round (group false Brace (word (codes "a") done) (sign equal (word (codes "b") (sign comma (word (codes "c") done))))) done))} refl (grammar.an_assignment (grammar.an_assignment_to {a = word (codes "x") done} {b = group false Round (group false Brace (word (codes "a") done) (sign equal (word (codes "b") (sign comma (word (codes "c") done))))) done} Assign false refl (of_member (grammar.a_primary (grammar.a_reference value_x free_x))) refl (valued (related (of_member (grammar.a_primary (grammar.in_parentheses (grammar.a_sequence {a = group false Brace (word (codes "a") done) (sign equal (word (codes "b") done))} {b = word (codes "c") done} false refl (grammar.an_assignment_to_pattern {a = group false Brace (word (codes "a") done) done} {b = word (codes "b") done} false refl (grammar.an_object_target (grammar.last_target_property (grammar.a_target_shorthand value_a free_a))) (valued (related (of_member (grammar.a_primary (grammar.a_reference value_b free_b)))))) (grammar.last_part (valued (related (of_member (grammar.a_primary (grammar.a_reference value_c free_c)))))))))))) refl))),
)

pub first_part_of_statement : IsRead (codes "({a}=b),c;") (samples.module_of (samples.statement_of (samples.sequence_of (samples.in_parentheses (samples.assignment_of (samples.object_target (more (samples.target_property false (samples.key_of (codes "a")) samples.a) no_trees) absent) samples.b)) samples.c)))
unfolding unicode_ident longer_stands word_value
first_part_of_statement = (
  group false Round (group false Brace (word (codes "a") done) (sign equal (word (codes "b") done))) (sign comma (word (codes "c") (sign semicolon done))),
  ([], codes "{a}=b", codes ",c;", refl, refl, refl, ([], codes "a", codes "=b", refl, refl, refl, ([], [], refl, refl, refl, refl, refl, refl), ([], codes "b", refl, refl, refl, refl, refl, ([], [], refl, refl, refl, refl, refl, refl))), ([], codes "c;", refl, refl, refl, refl, refl, ([], codes ";", refl, refl, refl, refl, refl, ([], [], refl, refl, refl, refl, refl, refl)))),
  only refl (item {a = group false Round (group false Brace (word (codes "a") done) (sign equal (word (codes "b") done))) (sign comma (word (codes "c") done))} refl (grammar.a_sequence {a = group false Round (group false Brace (word (codes "a") done) (sign equal (word (codes "b") done))) done} {b = word (codes "c") done} false refl (valued (related (of_member (grammar.a_primary (grammar.in_parentheses (grammar.an_assignment (grammar.an_assignment_to_pattern {a = group false Brace (word (codes "a") done) done} {b = word (codes "b") done} false refl (grammar.an_object_target (grammar.last_target_property (grammar.a_target_shorthand value_a free_a))) (valued (related (of_member (grammar.a_primary (grammar.a_reference value_b free_b)))))))))))) (grammar.last_part (valued (related (of_member (grammar.a_primary (grammar.a_reference value_c free_c)))))))),
)

pub first_part_of_statement_with_spaces : IsRead (codes "({a} = b), c;") (samples.module_of (samples.statement_of (samples.sequence_of (samples.in_parentheses (samples.assignment_of (samples.object_target (more (samples.target_property false (samples.key_of (codes "a")) samples.a) no_trees) absent) samples.b)) samples.c)))
unfolding unicode_ident longer_stands word_value
first_part_of_statement_with_spaces = (
  group false Round (group false Brace (word (codes "a") done) (sign equal (word (codes "b") done))) (sign comma (word (codes "c") (sign semicolon done))),
  ([], codes "{a} = b", codes ", c;", refl, refl, refl, ([], codes "a", codes " = b", refl, refl, refl, ([], [], refl, refl, refl, refl, refl, refl), (codes " ", codes " b", refl, refl, refl, refl, refl, (codes " ", [], refl, refl, refl, refl, refl, refl))), ([], codes " c;", refl, refl, refl, refl, refl, (codes " ", codes ";", refl, refl, refl, refl, refl, ([], [], refl, refl, refl, refl, refl, refl)))),
  only refl (item {a = group false Round (group false Brace (word (codes "a") done) (sign equal (word (codes "b") done))) (sign comma (word (codes "c") done))} refl (grammar.a_sequence {a = group false Round (group false Brace (word (codes "a") done) (sign equal (word (codes "b") done))) done} {b = word (codes "c") done} false refl (valued (related (of_member (grammar.a_primary (grammar.in_parentheses (grammar.an_assignment (grammar.an_assignment_to_pattern {a = group false Brace (word (codes "a") done) done} {b = word (codes "b") done} false refl (grammar.an_object_target (grammar.last_target_property (grammar.a_target_shorthand value_a free_a))) (valued (related (of_member (grammar.a_primary (grammar.a_reference value_b free_b)))))))))))) (grammar.last_part (valued (related (of_member (grammar.a_primary (grammar.a_reference value_c free_c)))))))),
)

pub member_of_empty_object : IsRead (codes "({}).x=1;") (samples.module_of (samples.statement_of (samples.assignment_of (samples.member_of (samples.in_parentheses (samples.object_of no_trees)) (codes "x")) (samples.number_of (codes "1")))))
unfolding unicode_ident longer_stands longer_number_stands spells_number word_value
member_of_empty_object = (
  group false Round (group false Brace done done) (sign dot (word (codes "x") (sign equal (piece false (Number (codes "1")) (sign semicolon done))))),
  ([], codes "{}", codes ".x=1;", refl, refl, refl, ([], [], [], refl, refl, refl, refl, refl), ([], codes "x=1;", refl, refl, refl, refl, refl, ([], codes "=1;", refl, refl, refl, refl, refl, ([], codes "1;", refl, refl, refl, refl, refl, ([], codes ";", refl, refl, refl, refl, refl, ([], [], refl, refl, refl, refl, refl, refl)))))),
  only refl (item {a = group false Round (group false Brace done done) (sign dot (word (codes "x") (sign equal (piece false (Number (codes "1")) done))))} refl (grammar.an_assignment (grammar.an_assignment_to {a = group false Round (group false Brace done done) (sign dot (word (codes "x") done))} {b = piece false (Number (codes "1")) done} Assign false refl (of_member (grammar.a_named_member {a = group false Round (group false Brace done done) done} (codes "x") false false refl value_x (grammar.a_primary (grammar.in_parentheses (grammar.an_assignment (valued (related (of_member (grammar.a_primary (grammar.an_object grammar.no_property)))))))))) refl (valued (related (of_member (grammar.a_primary (grammar.a_number refl))))) refl))),
)

pub member_of_empty_object_with_spaces : IsRead (codes "({}).x = 1;") (samples.module_of (samples.statement_of (samples.assignment_of (samples.member_of (samples.in_parentheses (samples.object_of no_trees)) (codes "x")) (samples.number_of (codes "1")))))
unfolding unicode_ident longer_stands longer_number_stands spells_number word_value
member_of_empty_object_with_spaces = (
  group false Round (group false Brace done done) (sign dot (word (codes "x") (sign equal (piece false (Number (codes "1")) (sign semicolon done))))),
  ([], codes "{}", codes ".x = 1;", refl, refl, refl, ([], [], [], refl, refl, refl, refl, refl), ([], codes "x = 1;", refl, refl, refl, refl, refl, ([], codes " = 1;", refl, refl, refl, refl, refl, (codes " ", codes " 1;", refl, refl, refl, refl, refl, (codes " ", codes ";", refl, refl, refl, refl, refl, ([], [], refl, refl, refl, refl, refl, refl)))))),
  only refl (item {a = group false Round (group false Brace done done) (sign dot (word (codes "x") (sign equal (piece false (Number (codes "1")) done))))} refl (grammar.an_assignment (grammar.an_assignment_to {a = group false Round (group false Brace done done) (sign dot (word (codes "x") done))} {b = piece false (Number (codes "1")) done} Assign false refl (of_member (grammar.a_named_member {a = group false Round (group false Brace done done) done} (codes "x") false false refl value_x (grammar.a_primary (grammar.in_parentheses (grammar.an_assignment (valued (related (of_member (grammar.a_primary (grammar.an_object grammar.no_property)))))))))) refl (valued (related (of_member (grammar.a_primary (grammar.a_number refl))))) refl))),
)

pub element_that_begins_with_brace : IsRead (codes "[{}.x]=y;") (samples.module_of (samples.statement_of (samples.assignment_of (samples.array_target (more (samples.member_of (samples.object_of no_trees) (codes "x")) no_trees) absent) (samples.reference_of (codes "y")))))
unfolding unicode_ident longer_stands word_value
element_that_begins_with_brace = (
  group false Square (group false Brace done (sign dot (word (codes "x") done))) (sign equal (word (codes "y") (sign semicolon done))),
  ([], codes "{}.x", codes "=y;", refl, refl, refl, ([], [], codes ".x", refl, refl, refl, refl, ([], codes "x", refl, refl, refl, refl, refl, ([], [], refl, refl, refl, refl, refl, refl))), ([], codes "y;", refl, refl, refl, refl, refl, ([], codes ";", refl, refl, refl, refl, refl, ([], [], refl, refl, refl, refl, refl, refl)))),
  only refl (item {a = group false Square (group false Brace done (sign dot (word (codes "x") done))) (sign equal (word (codes "y") done))} refl (grammar.an_assignment (grammar.an_assignment_to_pattern {a = group false Square (group false Brace done (sign dot (word (codes "x") done))) done} {b = word (codes "y") done} false refl (grammar.an_array_target (grammar.last_target_element (grammar.a_target_alone (grammar.a_simple_target (of_member (grammar.a_named_member {a = group false Brace done done} (codes "x") false false refl value_x (grammar.a_primary (grammar.an_object grammar.no_property)))) refl)))) (valued (related (of_member (grammar.a_primary (grammar.a_reference value_y free_y)))))))),
)

pub element_that_begins_with_brace_with_spaces : IsRead (codes "[{}.x] = y;") (samples.module_of (samples.statement_of (samples.assignment_of (samples.array_target (more (samples.member_of (samples.object_of no_trees) (codes "x")) no_trees) absent) (samples.reference_of (codes "y")))))
unfolding unicode_ident longer_stands word_value
element_that_begins_with_brace_with_spaces = (
  group false Square (group false Brace done (sign dot (word (codes "x") done))) (sign equal (word (codes "y") (sign semicolon done))),
  ([], codes "{}.x", codes " = y;", refl, refl, refl, ([], [], codes ".x", refl, refl, refl, refl, ([], codes "x", refl, refl, refl, refl, refl, ([], [], refl, refl, refl, refl, refl, refl))), (codes " ", codes " y;", refl, refl, refl, refl, refl, (codes " ", codes ";", refl, refl, refl, refl, refl, ([], [], refl, refl, refl, refl, refl, refl)))),
  only refl (item {a = group false Square (group false Brace done (sign dot (word (codes "x") done))) (sign equal (word (codes "y") done))} refl (grammar.an_assignment (grammar.an_assignment_to_pattern {a = group false Square (group false Brace done (sign dot (word (codes "x") done))) done} {b = word (codes "y") done} false refl (grammar.an_array_target (grammar.last_target_element (grammar.a_target_alone (grammar.a_simple_target (of_member (grammar.a_named_member {a = group false Brace done done} (codes "x") false false refl value_x (grammar.a_primary (grammar.an_object grammar.no_property)))) refl)))) (valued (related (of_member (grammar.a_primary (grammar.a_reference value_y free_y)))))))),
)

pub other_name_with_default : IsRead (codes "({a:b=1}=d);") (samples.module_of (samples.statement_of (samples.in_parentheses (samples.assignment_of (samples.object_target (more (samples.target_property false (samples.key_of (codes "a")) (samples.target_with_default samples.b (samples.number_of (codes "1")))) no_trees) absent) samples.d))))
unfolding unicode_ident longer_stands longer_number_stands spells_number word_value
other_name_with_default = (
  group false Round (group false Brace (word (codes "a") (sign colon (word (codes "b") (sign equal (piece false (Number (codes "1")) done))))) (sign equal (word (codes "d") done))) (sign semicolon done),
  ([], codes "{a:b=1}=d", codes ";", refl, refl, refl, ([], codes "a:b=1", codes "=d", refl, refl, refl, ([], codes ":b=1", refl, refl, refl, refl, refl, ([], codes "b=1", refl, refl, refl, refl, refl, ([], codes "=1", refl, refl, refl, refl, refl, ([], codes "1", refl, refl, refl, refl, refl, ([], [], refl, refl, refl, refl, refl, refl))))), ([], codes "d", refl, refl, refl, refl, refl, ([], [], refl, refl, refl, refl, refl, refl))), ([], [], refl, refl, refl, refl, refl, refl)),
  only refl (item {a = group false Round (group false Brace (word (codes "a") (sign colon (word (codes "b") (sign equal (piece false (Number (codes "1")) done))))) (sign equal (word (codes "d") done))) done} refl (grammar.an_assignment (valued (related (of_member (grammar.a_primary (grammar.in_parentheses (grammar.an_assignment (grammar.an_assignment_to_pattern {a = group false Brace (word (codes "a") (sign colon (word (codes "b") (sign equal (piece false (Number (codes "1")) done))))) done} {b = word (codes "d") done} false refl (grammar.an_object_target (grammar.last_target_property (grammar.a_target_property {a = word (codes "a") done} {b = word (codes "b") (sign equal (piece false (Number (codes "1")) done))} false refl (grammar.a_name_key value_a) (grammar.a_target_with_default {a = word (codes "b") done} {b = piece false (Number (codes "1")) done} false refl (of_member (grammar.a_primary (grammar.a_reference value_b free_b))) refl (valued (related (of_member (grammar.a_primary (grammar.a_number refl))))) refl)))) (valued (related (of_member (grammar.a_primary (grammar.a_reference value_d free_d)))))))))))))),
)

pub other_name_with_default_with_spaces : IsRead (codes "({a: b = 1} = d);") (samples.module_of (samples.statement_of (samples.in_parentheses (samples.assignment_of (samples.object_target (more (samples.target_property false (samples.key_of (codes "a")) (samples.target_with_default samples.b (samples.number_of (codes "1")))) no_trees) absent) samples.d))))
unfolding unicode_ident longer_stands longer_number_stands spells_number word_value
other_name_with_default_with_spaces = (
  group false Round (group false Brace (word (codes "a") (sign colon (word (codes "b") (sign equal (piece false (Number (codes "1")) done))))) (sign equal (word (codes "d") done))) (sign semicolon done),
  ([], codes "{a: b = 1} = d", codes ";", refl, refl, refl, ([], codes "a: b = 1", codes " = d", refl, refl, refl, ([], codes ": b = 1", refl, refl, refl, refl, refl, ([], codes " b = 1", refl, refl, refl, refl, refl, (codes " ", codes " = 1", refl, refl, refl, refl, refl, (codes " ", codes " 1", refl, refl, refl, refl, refl, (codes " ", [], refl, refl, refl, refl, refl, refl))))), (codes " ", codes " d", refl, refl, refl, refl, refl, (codes " ", [], refl, refl, refl, refl, refl, refl))), ([], [], refl, refl, refl, refl, refl, refl)),
  only refl (item {a = group false Round (group false Brace (word (codes "a") (sign colon (word (codes "b") (sign equal (piece false (Number (codes "1")) done))))) (sign equal (word (codes "d") done))) done} refl (grammar.an_assignment (valued (related (of_member (grammar.a_primary (grammar.in_parentheses (grammar.an_assignment (grammar.an_assignment_to_pattern {a = group false Brace (word (codes "a") (sign colon (word (codes "b") (sign equal (piece false (Number (codes "1")) done))))) done} {b = word (codes "d") done} false refl (grammar.an_object_target (grammar.last_target_property (grammar.a_target_property {a = word (codes "a") done} {b = word (codes "b") (sign equal (piece false (Number (codes "1")) done))} false refl (grammar.a_name_key value_a) (grammar.a_target_with_default {a = word (codes "b") done} {b = piece false (Number (codes "1")) done} false refl (of_member (grammar.a_primary (grammar.a_reference value_b free_b))) refl (valued (related (of_member (grammar.a_primary (grammar.a_number refl))))) refl)))) (valued (related (of_member (grammar.a_primary (grammar.a_reference value_d free_d)))))))))))))),
)

pub own_name_behind_key : IsRead (codes "({b: b} = d);") (samples.module_of (samples.statement_of (samples.in_parentheses (samples.assignment_of (samples.object_target (more (samples.target_property false (samples.key_of (codes "b")) samples.b) no_trees) absent) samples.d))))
unfolding unicode_ident longer_stands word_value
own_name_behind_key = (
  group false Round (group false Brace (word (codes "b") (sign colon (word (codes "b") done))) (sign equal (word (codes "d") done))) (sign semicolon done),
  ([], codes "{b: b} = d", codes ";", refl, refl, refl, ([], codes "b: b", codes " = d", refl, refl, refl, ([], codes ": b", refl, refl, refl, refl, refl, ([], codes " b", refl, refl, refl, refl, refl, (codes " ", [], refl, refl, refl, refl, refl, refl))), (codes " ", codes " d", refl, refl, refl, refl, refl, (codes " ", [], refl, refl, refl, refl, refl, refl))), ([], [], refl, refl, refl, refl, refl, refl)),
  only refl (item {a = group false Round (group false Brace (word (codes "b") (sign colon (word (codes "b") done))) (sign equal (word (codes "d") done))) done} refl (grammar.an_assignment (valued (related (of_member (grammar.a_primary (grammar.in_parentheses (grammar.an_assignment (grammar.an_assignment_to_pattern {a = group false Brace (word (codes "b") (sign colon (word (codes "b") done))) done} {b = word (codes "d") done} false refl (grammar.an_object_target (grammar.last_target_property (grammar.a_target_property {a = word (codes "b") done} {b = word (codes "b") done} false refl (grammar.a_name_key value_b) (grammar.a_target_alone (grammar.a_simple_target (of_member (grammar.a_primary (grammar.a_reference value_b free_b))) refl))))) (valued (related (of_member (grammar.a_primary (grammar.a_reference value_d free_d)))))))))))))),
)

pub own_name : IsRead (codes "({b}=d);") (samples.module_of (samples.statement_of (samples.in_parentheses (samples.assignment_of (samples.object_target (more (samples.target_property false (samples.key_of (codes "b")) samples.b) no_trees) absent) samples.d))))
unfolding unicode_ident longer_stands word_value
own_name = (
  group false Round (group false Brace (word (codes "b") done) (sign equal (word (codes "d") done))) (sign semicolon done),
  ([], codes "{b}=d", codes ";", refl, refl, refl, ([], codes "b", codes "=d", refl, refl, refl, ([], [], refl, refl, refl, refl, refl, refl), ([], codes "d", refl, refl, refl, refl, refl, ([], [], refl, refl, refl, refl, refl, refl))), ([], [], refl, refl, refl, refl, refl, refl)),
  only refl (item {a = group false Round (group false Brace (word (codes "b") done) (sign equal (word (codes "d") done))) done} refl (grammar.an_assignment (valued (related (of_member (grammar.a_primary (grammar.in_parentheses (grammar.an_assignment (grammar.an_assignment_to_pattern {a = group false Brace (word (codes "b") done) done} {b = word (codes "d") done} false refl (grammar.an_object_target (grammar.last_target_property (grammar.a_target_shorthand value_b free_b))) (valued (related (of_member (grammar.a_primary (grammar.a_reference value_d free_d)))))))))))))),
)

pub own_name_with_spaces : IsRead (codes "({b} = d);") (samples.module_of (samples.statement_of (samples.in_parentheses (samples.assignment_of (samples.object_target (more (samples.target_property false (samples.key_of (codes "b")) samples.b) no_trees) absent) samples.d))))
unfolding unicode_ident longer_stands word_value
own_name_with_spaces = (
  group false Round (group false Brace (word (codes "b") done) (sign equal (word (codes "d") done))) (sign semicolon done),
  ([], codes "{b} = d", codes ";", refl, refl, refl, ([], codes "b", codes " = d", refl, refl, refl, ([], [], refl, refl, refl, refl, refl, refl), (codes " ", codes " d", refl, refl, refl, refl, refl, (codes " ", [], refl, refl, refl, refl, refl, refl))), ([], [], refl, refl, refl, refl, refl, refl)),
  only refl (item {a = group false Round (group false Brace (word (codes "b") done) (sign equal (word (codes "d") done))) done} refl (grammar.an_assignment (valued (related (of_member (grammar.a_primary (grammar.in_parentheses (grammar.an_assignment (grammar.an_assignment_to_pattern {a = group false Brace (word (codes "b") done) done} {b = word (codes "d") done} false refl (grammar.an_object_target (grammar.last_target_property (grammar.a_target_shorthand value_b free_b))) (valued (related (of_member (grammar.a_primary (grammar.a_reference value_d free_d)))))))))))))),
)

pub rest_into_array : IsRead (codes "[...[a]] = b;") (samples.module_of (samples.statement_of (samples.assignment_of (samples.array_target no_trees (given (samples.target_rest (samples.array_target (more samples.a no_trees) absent)))) samples.b)))
unfolding unicode_ident longer_stands word_value
rest_into_array = (
  group false Square (sign ellipsis (group false Square (word (codes "a") done) done)) (sign equal (word (codes "b") (sign semicolon done))),
  ([], codes "...[a]", codes " = b;", refl, refl, refl, ([], codes "[a]", refl, refl, refl, refl, refl, ([], codes "a", [], refl, refl, refl, ([], [], refl, refl, refl, refl, refl, refl), refl)), (codes " ", codes " b;", refl, refl, refl, refl, refl, (codes " ", codes ";", refl, refl, refl, refl, refl, ([], [], refl, refl, refl, refl, refl, refl)))),
  only refl (item {a = group false Square (sign ellipsis (group false Square (word (codes "a") done) done)) (sign equal (word (codes "b") done))} refl (grammar.an_assignment (grammar.an_assignment_to_pattern {a = group false Square (sign ellipsis (group false Square (word (codes "a") done) done)) done} {b = word (codes "b") done} false refl (grammar.an_array_target (grammar.a_target_rest (grammar.a_target_pattern (grammar.an_array_target (grammar.last_target_element (grammar.a_target_alone (grammar.a_simple_target (of_member (grammar.a_primary (grammar.a_reference value_a free_a))) refl))))))) (valued (related (of_member (grammar.a_primary (grammar.a_reference value_b free_b)))))))),
)
