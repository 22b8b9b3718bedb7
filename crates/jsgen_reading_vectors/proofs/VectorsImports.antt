-- Generated from tools/vectors/chosen.json; edit that and run tools/vectors/generate.
-- That they are read so: imports.
use Rattle.std.proofs.Common.{[], ◌∷◌, true, false, codes, refl}
use Rattle.unicode_ident.proofs.Computing.{unicode_ident}
use Rattle.jsgen_syntax.specs.Escapes.{word_value}
use Rattle.jsgen_syntax.specs.declared.operator.BinaryOperator.TheVariants as operators
use Rattle.jsgen_syntax.specs.declared.operator.AssignmentOperator.TheVariants as assignment_operators
use Rattle.jsgen_tree.specs.Atom.{binary_operator, assignment_operator}
use Rattle.jsgen_tree.specs.Tree.{absent, given, no_trees, more}
use Rattle.jsgen_tree.specs.Places.{bare}
use Rattle.jsgen_tree.specs.Nodes as tree
use Rattle.jsgen_model.specs.Normal.{nothing_of, link_values}
use Rattle.jsgen_model.specs.Punctuator.{dot, comma, semicolon, question_dot, equal, Round, Square}
use Rattle.jsgen_model.specs.Tokens.{done, piece, group, Sign, longer_stands}
use Rattle.jsgen_model.specs.Grammar as grammar
use Rattle.jsgen_reading_vectors.specs.Reading.{IsRead, program_of, statement_of, reference_of, key_of}
use Rattle.jsgen_reading_vectors.proofs.Written.{word, sign}
use Rattle.jsgen_reading_vectors.proofs.Levels.{primary_value, member_value, call_value, left_value, primary_left, member_left, left_unary}
use Rattle.jsgen_reading_vectors.proofs.Names.{free_a, free_b, value_a, value_b}

pub import_first : IsRead (codes "import(a);") (program_of no_trees (more (statement_of (tree.import_call (nothing_of 0) (reference_of (codes "a")) absent)) no_trees))
unfolding unicode_ident longer_stands word_value
import_first = (
  word (codes "import") (group false Round (word (codes "a") done) (sign semicolon done)),
  ([], codes "(a);", refl, refl, refl, refl, refl, ([], codes "a", codes ";", refl, refl, refl, ([], [], refl, refl, refl, refl, refl, refl), ([], [], refl, refl, refl, refl, refl, refl))),
  grammar.a_module (grammar.module_items refl (grammar.last_module_item (grammar.a_module_statement (grammar.a_statement (grammar.an_expression_statement (grammar.a_semicolon {a = word (codes "import") (group false Round (word (codes "a") done) done)} false refl) refl (grammar.an_assignment (call_value (grammar.an_import_call (grammar.an_imported (primary_value (grammar.a_reference value_a free_a))))))))))),
)

pub import_with_options : IsRead (codes "import(a, b,);") (program_of no_trees (more (statement_of (tree.import_call (nothing_of 0) (reference_of (codes "a")) (given (reference_of (codes "b"))))) no_trees))
unfolding unicode_ident longer_stands word_value
import_with_options = (
  word (codes "import") (group false Round (word (codes "a") (sign comma (word (codes "b") (sign comma done)))) (sign semicolon done)),
  ([], codes "(a, b,);", refl, refl, refl, refl, refl, ([], codes "a, b,", codes ";", refl, refl, refl, ([], codes ", b,", refl, refl, refl, refl, refl, ([], codes " b,", refl, refl, refl, refl, refl, (codes " ", codes ",", refl, refl, refl, refl, refl, ([], [], refl, refl, refl, refl, refl, refl)))), ([], [], refl, refl, refl, refl, refl, refl))),
  grammar.a_module (grammar.module_items refl (grammar.last_module_item (grammar.a_module_statement (grammar.a_statement (grammar.an_expression_statement (grammar.a_semicolon {a = word (codes "import") (group false Round (word (codes "a") (sign comma (word (codes "b") (sign comma done)))) done)} false refl) refl (grammar.an_assignment (call_value (grammar.an_import_call (grammar.with_options_and_a_comma {a = word (codes "a") done} {b = word (codes "b") done} false false refl (primary_value (grammar.a_reference value_a free_a)) (primary_value (grammar.a_reference value_b free_b))))))))))),
)

pub import_on_three_lines : IsRead (codes "import\n(a)\n.b;") (program_of no_trees (more (statement_of (tree.static_member (link_values false) (tree.import_call (nothing_of 0) (reference_of (codes "a")) absent) (key_of (codes "b")))) no_trees))
unfolding unicode_ident longer_stands word_value
import_on_three_lines = (
  word (codes "import") (group true Round (word (codes "a") done) (piece true (Sign dot) (word (codes "b") (sign semicolon done)))),
  ([], codes "\n(a)\n.b;", refl, refl, refl, refl, refl, (codes "\n", codes "a", codes "\n.b;", refl, refl, refl, ([], [], refl, refl, refl, refl, refl, refl), (codes "\n", codes "b;", refl, refl, refl, refl, refl, ([], codes ";", refl, refl, refl, refl, refl, ([], [], refl, refl, refl, refl, refl, refl))))),
  grammar.a_module (grammar.module_items refl (grammar.last_module_item (grammar.a_module_statement (grammar.a_statement (grammar.an_expression_statement (grammar.a_semicolon {a = word (codes "import") (group true Round (word (codes "a") done) (piece true (Sign dot) (word (codes "b") done)))} false refl) refl (grammar.an_assignment (call_value (grammar.a_named_member_of_call {a = word (codes "import") (group true Round (word (codes "a") done) done)} (codes "b") true false refl value_b (grammar.an_import_call (grammar.an_imported (primary_value (grammar.a_reference value_a free_a)))))))))))),
)

pub optional_link_behind_import : IsRead (codes "import(a)?.b;") (program_of no_trees (more (statement_of (tree.chain (nothing_of 0) (tree.static_member (link_values true) (tree.import_call (nothing_of 0) (reference_of (codes "a")) absent) (key_of (codes "b"))))) no_trees))
unfolding unicode_ident longer_stands word_value
optional_link_behind_import = (
  word (codes "import") (group false Round (word (codes "a") done) (sign question_dot (word (codes "b") (sign semicolon done)))),
  ([], codes "(a)?.b;", refl, refl, refl, refl, refl, ([], codes "a", codes "?.b;", refl, refl, refl, ([], [], refl, refl, refl, refl, refl, refl), ([], codes "b;", refl, refl, refl, refl, refl, ([], codes ";", refl, refl, refl, refl, refl, ([], [], refl, refl, refl, refl, refl, refl))))),
  grammar.a_module (grammar.module_items refl (grammar.last_module_item (grammar.a_module_statement (grammar.a_statement (grammar.an_expression_statement (grammar.a_semicolon {a = word (codes "import") (group false Round (word (codes "a") done) (sign question_dot (word (codes "b") done)))} false refl) refl (grammar.an_assignment (left_value (grammar.an_optional_chain (grammar.an_optional_named_member {a = word (codes "import") (group false Round (word (codes "a") done) done)} (codes "b") false false refl value_b (grammar.a_first_link (grammar.a_called_call (grammar.an_import_call (grammar.an_imported (primary_value (grammar.a_reference value_a free_a))))))))))))))),
)

pub import_in_head : IsRead (codes "for (import(a in b);;);") (program_of no_trees (more (tree.for_statement (nothing_of 0) (given (tree.import_call (nothing_of 0) (tree.binary (bare (binary_operator operators.In ∷ [])) (reference_of (codes "a")) (reference_of (codes "b"))) absent)) absent absent (tree.empty_statement (nothing_of 0))) no_trees))
unfolding unicode_ident longer_stands word_value
import_in_head = (
  word (codes "for") (group false Round (word (codes "import") (group false Round (word (codes "a") (word (codes "in") (word (codes "b") done))) (sign semicolon (sign semicolon done)))) (sign semicolon done)),
  ([], codes " (import(a in b);;);", refl, refl, refl, refl, refl, (codes " ", codes "import(a in b);;", codes ";", refl, refl, refl, ([], codes "(a in b);;", refl, refl, refl, refl, refl, ([], codes "a in b", codes ";;", refl, refl, refl, ([], codes " in b", refl, refl, refl, refl, refl, (codes " ", codes " b", refl, refl, refl, refl, refl, (codes " ", [], refl, refl, refl, refl, refl, refl))), ([], codes ";", refl, refl, refl, refl, refl, ([], [], refl, refl, refl, refl, refl, refl)))), ([], [], refl, refl, refl, refl, refl, refl))),
  grammar.a_module (grammar.module_items refl (grammar.last_module_item (grammar.a_module_statement (grammar.a_statement (grammar.a_for {a = word (codes "import") (group false Round (word (codes "a") (word (codes "in") (word (codes "b") done))) done)} {b = done} false false refl (grammar.first_expression (grammar.an_assignment (call_value (grammar.an_import_call (grammar.an_imported (grammar.a_conditional (grammar.a_short_circuit (grammar.a_logical_or (grammar.a_logical_and (grammar.a_bit_or (grammar.a_bit_xor (grammar.a_bit_and (grammar.an_equality (grammar.a_relation (grammar.an_operation {a = word (codes "a") done} operators.In false refl refl refl (grammar.a_shift (grammar.an_additive (grammar.a_multiplicative (grammar.an_exponent (grammar.a_unary (left_unary (primary_left (grammar.a_reference value_a free_a)))))))) (grammar.an_additive (grammar.a_multiplicative (grammar.an_exponent (grammar.a_unary (left_unary (primary_left (grammar.a_reference value_b free_b)))))))))))))))))))))) grammar.nothing_there grammar.nothing_there grammar.an_empty_statement))))),
)

pub meta : IsRead (codes "import.meta;") (program_of no_trees (more (statement_of (tree.import_meta (nothing_of 0))) no_trees))
unfolding unicode_ident longer_stands word_value
meta = (
  word (codes "import") (sign dot (word (codes "meta") (sign semicolon done))),
  ([], codes ".meta;", refl, refl, refl, refl, refl, ([], codes "meta;", refl, refl, refl, refl, refl, ([], codes ";", refl, refl, refl, refl, refl, ([], [], refl, refl, refl, refl, refl, refl)))),
  grammar.a_module (grammar.module_items refl (grammar.last_module_item (grammar.a_module_statement (grammar.a_statement (grammar.an_expression_statement (grammar.a_semicolon {a = word (codes "import") (sign dot (word (codes "meta") done))} false refl) refl (grammar.an_assignment (member_value grammar.an_import_meta))))))),
)

pub optional_link_behind_meta : IsRead (codes "import.meta?.a;") (program_of no_trees (more (statement_of (tree.chain (nothing_of 0) (tree.static_member (link_values true) (tree.import_meta (nothing_of 0)) (key_of (codes "a"))))) no_trees))
unfolding unicode_ident longer_stands word_value
optional_link_behind_meta = (
  word (codes "import") (sign dot (word (codes "meta") (sign question_dot (word (codes "a") (sign semicolon done))))),
  ([], codes ".meta?.a;", refl, refl, refl, refl, refl, ([], codes "meta?.a;", refl, refl, refl, refl, refl, ([], codes "?.a;", refl, refl, refl, refl, refl, ([], codes "a;", refl, refl, refl, refl, refl, ([], codes ";", refl, refl, refl, refl, refl, ([], [], refl, refl, refl, refl, refl, refl)))))),
  grammar.a_module (grammar.module_items refl (grammar.last_module_item (grammar.a_module_statement (grammar.a_statement (grammar.an_expression_statement (grammar.a_semicolon {a = word (codes "import") (sign dot (word (codes "meta") (sign question_dot (word (codes "a") done))))} false refl) refl (grammar.an_assignment (left_value (grammar.an_optional_chain (grammar.an_optional_named_member {a = word (codes "import") (sign dot (word (codes "meta") done))} (codes "a") false false refl value_a (grammar.a_first_link (grammar.a_called_member grammar.an_import_meta))))))))))),
)

pub member_of_meta_as_target : IsRead (codes "[import.meta.a] = b;") (program_of no_trees (more (statement_of (tree.assignment (bare (assignment_operator assignment_operators.Assign ∷ [])) (tree.array_target (nothing_of 0) (more (tree.static_member (link_values false) (tree.import_meta (nothing_of 0)) (key_of (codes "a"))) no_trees) absent) (reference_of (codes "b")))) no_trees))
unfolding unicode_ident longer_stands word_value
member_of_meta_as_target = (
  group false Square (word (codes "import") (sign dot (word (codes "meta") (sign dot (word (codes "a") done))))) (sign equal (word (codes "b") (sign semicolon done))),
  ([], codes "import.meta.a", codes " = b;", refl, refl, refl, ([], codes ".meta.a", refl, refl, refl, refl, refl, ([], codes "meta.a", refl, refl, refl, refl, refl, ([], codes ".a", refl, refl, refl, refl, refl, ([], codes "a", refl, refl, refl, refl, refl, ([], [], refl, refl, refl, refl, refl, refl))))), (codes " ", codes " b;", refl, refl, refl, refl, refl, (codes " ", codes ";", refl, refl, refl, refl, refl, ([], [], refl, refl, refl, refl, refl, refl)))),
  grammar.a_module (grammar.module_items refl (grammar.last_module_item (grammar.a_module_statement (grammar.a_statement (grammar.an_expression_statement (grammar.a_semicolon {a = group false Square (word (codes "import") (sign dot (word (codes "meta") (sign dot (word (codes "a") done))))) (sign equal (word (codes "b") done))} false refl) refl (grammar.an_assignment (grammar.an_assignment_to_pattern {a = group false Square (word (codes "import") (sign dot (word (codes "meta") (sign dot (word (codes "a") done))))) done} false refl (grammar.an_array_target (grammar.last_target_element (grammar.a_target_alone (grammar.a_simple_target (member_left (grammar.a_named_member {a = word (codes "import") (sign dot (word (codes "meta") done))} (codes "a") false false refl value_a grammar.an_import_meta)) refl)))) (primary_value (grammar.a_reference value_b free_b))))))))),
)

pub new_of_member_of_meta : IsRead (codes "new import.meta.a;") (program_of no_trees (more (statement_of (tree.new_expression (nothing_of 1) (tree.static_member (link_values false) (tree.import_meta (nothing_of 0)) (key_of (codes "a"))) no_trees)) no_trees))
unfolding unicode_ident longer_stands word_value
new_of_member_of_meta = (
  word (codes "new") (word (codes "import") (sign dot (word (codes "meta") (sign dot (word (codes "a") (sign semicolon done)))))),
  ([], codes " import.meta.a;", refl, refl, refl, refl, refl, (codes " ", codes ".meta.a;", refl, refl, refl, refl, refl, ([], codes "meta.a;", refl, refl, refl, refl, refl, ([], codes ".a;", refl, refl, refl, refl, refl, ([], codes "a;", refl, refl, refl, refl, refl, ([], codes ";", refl, refl, refl, refl, refl, ([], [], refl, refl, refl, refl, refl, refl))))))),
  grammar.a_module (grammar.module_items refl (grammar.last_module_item (grammar.a_module_statement (grammar.a_statement (grammar.an_expression_statement (grammar.a_semicolon {a = word (codes "new") (word (codes "import") (sign dot (word (codes "meta") (sign dot (word (codes "a") done)))))} false refl) refl (grammar.an_assignment (left_value (grammar.a_new (grammar.new_alone (grammar.a_member (grammar.a_named_member {a = word (codes "import") (sign dot (word (codes "meta") done))} (codes "a") false false refl value_a grammar.an_import_meta))))))))))),
)
