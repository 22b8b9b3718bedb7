-- Generated from tools/vectors/chosen.json; edit that and run tools/vectors/generate.
-- That they are read so: slashes.
use Rattle.std.proofs.Common.{[], ◌∷◌, false, codes, refl}
use Rattle.unicode_ident.proofs.Computing.{unicode_ident}
use Rattle.jsgen_syntax.specs.Escapes.{word_value}
use Rattle.jsgen_syntax.specs.declared.operator.BinaryOperator.TheVariants as operators
use Rattle.jsgen_syntax.specs.declared.operator.AssignmentOperator.TheVariants as assignment_operators
use Rattle.jsgen_tree.specs.declared.collections.PropertyKind.TheVariants.{Init}
use Rattle.jsgen_tree.specs.declared.functions.FunctionKind.TheVariants as kinds
use Rattle.jsgen_tree.specs.Atom.{binary_operator, assignment_operator, text}
use Rattle.jsgen_tree.specs.Tree.{absent, given, no_trees, more}
use Rattle.jsgen_tree.specs.Places.{bare}
use Rattle.jsgen_tree.specs.Nodes as tree
use Rattle.jsgen_model.specs.Normal.{nothing_of, named, property_values}
use Rattle.jsgen_model.specs.Punctuator.{slash, semicolon, colon, equal, Round, Brace}
use Rattle.jsgen_model.specs.Tokens.{done, piece, group, Beyond, Pattern, longer_stands}
use Rattle.jsgen_model.specs.Grammar.{function_of}
use Rattle.jsgen_model.specs.Grammar as grammar
use Rattle.jsgen_reading_vectors.specs.Reading.{IsRead, program_of, statement_of, reference_of, name_of, key_of}
use Rattle.jsgen_reading_vectors.proofs.Written.{word, sign}
use Rattle.jsgen_reading_vectors.proofs.Levels.{primary_value, primary_left, left_unary}
use Rattle.jsgen_reading_vectors.proofs.Names.{free_a, free_b, free_c, free_f, free_g, free_x, value_a, value_b, value_c, value_f, value_g, value_x}

pub division_of_expression : IsRead (codes "x = /b/ / c;") (program_of no_trees (more (statement_of (tree.assignment (bare (assignment_operator assignment_operators.Assign ∷ [])) (reference_of (codes "x")) (tree.binary (bare (binary_operator operators.Division ∷ [])) (tree.reg_exp_literal (bare (text (codes "b") ∷ text [] ∷ []))) (reference_of (codes "c"))))) no_trees))
unfolding unicode_ident longer_stands word_value
division_of_expression = (
  word (codes "x") (sign equal (piece false (Beyond (Pattern (codes "b") [])) (sign slash (word (codes "c") (sign semicolon done))))),
  ([], codes " = /b/ / c;", refl, refl, refl, refl, refl, (codes " ", codes " /b/ / c;", refl, refl, refl, refl, refl, (codes " ", codes " / c;", refl, refl, refl, refl, refl, (codes " ", codes " c;", refl, refl, refl, refl, refl, (codes " ", codes ";", refl, refl, refl, refl, refl, ([], [], refl, refl, refl, refl, refl, refl)))))),
  grammar.a_module (grammar.module_items refl (grammar.last_module_item (grammar.a_module_statement (grammar.a_statement (grammar.an_expression_statement (grammar.a_semicolon {a = word (codes "x") (sign equal (piece false (Beyond (Pattern (codes "b") [])) (sign slash (word (codes "c") done))))} false refl) refl (grammar.an_assignment (grammar.an_assignment_to {a = word (codes "x") done} assignment_operators.Assign false refl (primary_left (grammar.a_reference value_x free_x)) refl (grammar.a_conditional (grammar.a_short_circuit (grammar.a_logical_or (grammar.a_logical_and (grammar.a_bit_or (grammar.a_bit_xor (grammar.a_bit_and (grammar.an_equality (grammar.a_relation (grammar.a_shift (grammar.an_additive (grammar.a_multiplicative (grammar.an_operation {a = piece false (Beyond (Pattern (codes "b") [])) done} operators.Division false refl refl refl (grammar.an_exponent (grammar.a_unary (left_unary (primary_left grammar.a_regular_expression)))) (grammar.a_unary (left_unary (primary_left (grammar.a_reference value_c free_c))))))))))))))))) refl))))))),
)

pub division_by_expression : IsRead (codes "a = b / /c/;") (program_of no_trees (more (statement_of (tree.assignment (bare (assignment_operator assignment_operators.Assign ∷ [])) (reference_of (codes "a")) (tree.binary (bare (binary_operator operators.Division ∷ [])) (reference_of (codes "b")) (tree.reg_exp_literal (bare (text (codes "c") ∷ text [] ∷ [])))))) no_trees))
unfolding unicode_ident longer_stands word_value
division_by_expression = (
  word (codes "a") (sign equal (word (codes "b") (sign slash (piece false (Beyond (Pattern (codes "c") [])) (sign semicolon done))))),
  ([], codes " = b / /c/;", refl, refl, refl, refl, refl, (codes " ", codes " b / /c/;", refl, refl, refl, refl, refl, (codes " ", codes " / /c/;", refl, refl, refl, refl, refl, (codes " ", codes " /c/;", refl, refl, refl, refl, refl, (codes " ", codes ";", refl, refl, refl, refl, refl, ([], [], refl, refl, refl, refl, refl, refl)))))),
  grammar.a_module (grammar.module_items refl (grammar.last_module_item (grammar.a_module_statement (grammar.a_statement (grammar.an_expression_statement (grammar.a_semicolon {a = word (codes "a") (sign equal (word (codes "b") (sign slash (piece false (Beyond (Pattern (codes "c") [])) done))))} false refl) refl (grammar.an_assignment (grammar.an_assignment_to {a = word (codes "a") done} assignment_operators.Assign false refl (primary_left (grammar.a_reference value_a free_a)) refl (grammar.a_conditional (grammar.a_short_circuit (grammar.a_logical_or (grammar.a_logical_and (grammar.a_bit_or (grammar.a_bit_xor (grammar.a_bit_and (grammar.an_equality (grammar.a_relation (grammar.a_shift (grammar.an_additive (grammar.a_multiplicative (grammar.an_operation {a = word (codes "b") done} operators.Division false refl refl refl (grammar.an_exponent (grammar.a_unary (left_unary (primary_left (grammar.a_reference value_b free_b))))) (grammar.a_unary (left_unary (primary_left grammar.a_regular_expression)))))))))))))))) refl))))))),
)

pub expression_behind_block : IsRead (codes "{a: /b/}/c/g;") (program_of no_trees (more (tree.block (nothing_of 0) (more (tree.labeled_statement (nothing_of 0) (tree.label_identifier (named (codes "a"))) (statement_of (tree.reg_exp_literal (bare (text (codes "b") ∷ text [] ∷ []))))) no_trees)) (more (statement_of (tree.reg_exp_literal (bare (text (codes "c") ∷ text (codes "g") ∷ [])))) no_trees)))
unfolding unicode_ident longer_stands word_value
expression_behind_block = (
  group false Brace (word (codes "a") (sign colon (piece false (Beyond (Pattern (codes "b") [])) done))) (piece false (Beyond (Pattern (codes "c") (codes "g"))) (sign semicolon done)),
  ([], codes "a: /b/", codes "/c/g;", refl, refl, refl, ([], codes ": /b/", refl, refl, refl, refl, refl, ([], codes " /b/", refl, refl, refl, refl, refl, (codes " ", [], refl, refl, refl, refl, refl, refl))), ([], codes ";", refl, refl, refl, refl, refl, ([], [], refl, refl, refl, refl, refl, refl))),
  grammar.a_module (grammar.module_items refl (grammar.first_module_item {a = group false Brace (word (codes "a") (sign colon (piece false (Beyond (Pattern (codes "b") [])) done))) done} refl (grammar.a_module_statement (grammar.a_statement (grammar.a_block (grammar.last_statement (grammar.a_statement (grammar.a_labelled_statement value_a free_a (grammar.an_expression_statement grammar.the_brace refl (grammar.an_assignment (primary_value grammar.a_regular_expression))))))))) (grammar.last_module_item (grammar.a_module_statement (grammar.a_statement (grammar.an_expression_statement (grammar.a_semicolon {a = piece false (Beyond (Pattern (codes "c") (codes "g"))) done} false refl) refl (grammar.an_assignment (primary_value grammar.a_regular_expression)))))))),
)

pub expression_behind_function : IsRead (codes "function f() {} /a/g;") (program_of no_trees (more (function_of kinds.Declaration false false (given (name_of (codes "f"))) no_trees absent no_trees no_trees) (more (statement_of (tree.reg_exp_literal (bare (text (codes "a") ∷ text (codes "g") ∷ [])))) no_trees)))
unfolding unicode_ident longer_stands word_value
expression_behind_function = (
  word (codes "function") (word (codes "f") (group false Round done (group false Brace done (piece false (Beyond (Pattern (codes "a") (codes "g"))) (sign semicolon done))))),
  ([], codes " f() {} /a/g;", refl, refl, refl, refl, refl, (codes " ", codes "() {} /a/g;", refl, refl, refl, refl, refl, ([], [], codes " {} /a/g;", refl, refl, refl, refl, (codes " ", [], codes " /a/g;", refl, refl, refl, refl, (codes " ", codes ";", refl, refl, refl, refl, refl, ([], [], refl, refl, refl, refl, refl, refl)))))),
  grammar.a_module (grammar.module_items refl (grammar.first_module_item {a = word (codes "function") (word (codes "f") (group false Round done (group false Brace done done)))} refl (grammar.a_module_statement (grammar.a_function_declaration (grammar.a_plain_function (grammar.a_named_function value_f free_f grammar.no_parameter (grammar.statements refl grammar.no_statement))))) (grammar.last_module_item (grammar.a_module_statement (grammar.a_statement (grammar.an_expression_statement (grammar.a_semicolon {a = piece false (Beyond (Pattern (codes "a") (codes "g"))) done} false refl) refl (grammar.an_assignment (primary_value grammar.a_regular_expression)))))))),
)

pub object_divided : IsRead (codes "({a: /b/}/c/g);") (program_of no_trees (more (statement_of (tree.parenthesized (nothing_of 0) (tree.binary (bare (binary_operator operators.Division ∷ [])) (tree.binary (bare (binary_operator operators.Division ∷ [])) (tree.object_expression (nothing_of 0) (more (tree.object_property (property_values Init false false false) (key_of (codes "a")) (tree.reg_exp_literal (bare (text (codes "b") ∷ text [] ∷ [])))) no_trees)) (reference_of (codes "c"))) (reference_of (codes "g"))))) no_trees))
unfolding unicode_ident longer_stands word_value
object_divided = (
  group false Round (group false Brace (word (codes "a") (sign colon (piece false (Beyond (Pattern (codes "b") [])) done))) (sign slash (word (codes "c") (sign slash (word (codes "g") done))))) (sign semicolon done),
  ([], codes "{a: /b/}/c/g", codes ";", refl, refl, refl, ([], codes "a: /b/", codes "/c/g", refl, refl, refl, ([], codes ": /b/", refl, refl, refl, refl, refl, ([], codes " /b/", refl, refl, refl, refl, refl, (codes " ", [], refl, refl, refl, refl, refl, refl))), ([], codes "c/g", refl, refl, refl, refl, refl, ([], codes "/g", refl, refl, refl, refl, refl, ([], codes "g", refl, refl, refl, refl, refl, ([], [], refl, refl, refl, refl, refl, refl))))), ([], [], refl, refl, refl, refl, refl, refl)),
  grammar.a_module (grammar.module_items refl (grammar.last_module_item (grammar.a_module_statement (grammar.a_statement (grammar.an_expression_statement (grammar.a_semicolon {a = group false Round (group false Brace (word (codes "a") (sign colon (piece false (Beyond (Pattern (codes "b") [])) done))) (sign slash (word (codes "c") (sign slash (word (codes "g") done))))) done} false refl) refl (grammar.an_assignment (primary_value (grammar.in_parentheses (grammar.an_assignment (grammar.a_conditional (grammar.a_short_circuit (grammar.a_logical_or (grammar.a_logical_and (grammar.a_bit_or (grammar.a_bit_xor (grammar.a_bit_and (grammar.an_equality (grammar.a_relation (grammar.a_shift (grammar.an_additive (grammar.a_multiplicative (grammar.an_operation {a = group false Brace (word (codes "a") (sign colon (piece false (Beyond (Pattern (codes "b") [])) done))) (sign slash (word (codes "c") done))} operators.Division false refl refl refl (grammar.an_operation {a = group false Brace (word (codes "a") (sign colon (piece false (Beyond (Pattern (codes "b") [])) done))) done} operators.Division false refl refl refl (grammar.an_exponent (grammar.a_unary (left_unary (primary_left (grammar.an_object (grammar.last_property (grammar.a_property {a = word (codes "a") done} false refl (grammar.a_name_key value_a) (primary_value grammar.a_regular_expression)))))))) (grammar.a_unary (left_unary (primary_left (grammar.a_reference value_c free_c))))) (grammar.a_unary (left_unary (primary_left (grammar.a_reference value_g free_g)))))))))))))))))))))))))),
)

pub slash_in_brackets : IsRead (codes "a = /[/]/;") (program_of no_trees (more (statement_of (tree.assignment (bare (assignment_operator assignment_operators.Assign ∷ [])) (reference_of (codes "a")) (tree.reg_exp_literal (bare (text (codes "[/]") ∷ text [] ∷ []))))) no_trees))
unfolding unicode_ident longer_stands word_value
slash_in_brackets = (
  word (codes "a") (sign equal (piece false (Beyond (Pattern (codes "[/]") [])) (sign semicolon done))),
  ([], codes " = /[/]/;", refl, refl, refl, refl, refl, (codes " ", codes " /[/]/;", refl, refl, refl, refl, refl, (codes " ", codes ";", refl, refl, refl, refl, refl, ([], [], refl, refl, refl, refl, refl, refl)))),
  grammar.a_module (grammar.module_items refl (grammar.last_module_item (grammar.a_module_statement (grammar.a_statement (grammar.an_expression_statement (grammar.a_semicolon {a = word (codes "a") (sign equal (piece false (Beyond (Pattern (codes "[/]") [])) done))} false refl) refl (grammar.an_assignment (grammar.an_assignment_to {a = word (codes "a") done} assignment_operators.Assign false refl (primary_left (grammar.a_reference value_a free_a)) refl (primary_value grammar.a_regular_expression) refl))))))),
)

pub slash_escaped : IsRead (codes "a = /\\//;") (program_of no_trees (more (statement_of (tree.assignment (bare (assignment_operator assignment_operators.Assign ∷ [])) (reference_of (codes "a")) (tree.reg_exp_literal (bare (text (codes "\\/") ∷ text [] ∷ []))))) no_trees))
unfolding unicode_ident longer_stands word_value
slash_escaped = (
  word (codes "a") (sign equal (piece false (Beyond (Pattern (codes "\\/") [])) (sign semicolon done))),
  ([], codes " = /\\//;", refl, refl, refl, refl, refl, (codes " ", codes " /\\//;", refl, refl, refl, refl, refl, (codes " ", codes ";", refl, refl, refl, refl, refl, ([], [], refl, refl, refl, refl, refl, refl)))),
  grammar.a_module (grammar.module_items refl (grammar.last_module_item (grammar.a_module_statement (grammar.a_statement (grammar.an_expression_statement (grammar.a_semicolon {a = word (codes "a") (sign equal (piece false (Beyond (Pattern (codes "\\/") [])) done))} false refl) refl (grammar.an_assignment (grammar.an_assignment_to {a = word (codes "a") done} assignment_operators.Assign false refl (primary_left (grammar.a_reference value_a free_a)) refl (primary_value grammar.a_regular_expression) refl))))))),
)
