-- Generated from tools/vectors/chosen.json; edit that and run tools/vectors/generate.
-- That they are read so: chains.
use Rattle.std.proofs.Common.{[], ◌∷◌, true, false, codes, refl}
use Rattle.unicode_ident.proofs.Computing.{unicode_ident}
use Rattle.jsgen_syntax.specs.Escapes.{word_value}
use Rattle.jsgen_syntax.specs.declared.operator.UnaryOperator.TheVariants as unary_operators
use Rattle.jsgen_tree.specs.declared.functions.FunctionKind.TheVariants as kinds
use Rattle.jsgen_tree.specs.Atom.{unary_operator}
use Rattle.jsgen_tree.specs.Tree.{absent, given, no_trees, more}
use Rattle.jsgen_tree.specs.Places.{bare}
use Rattle.jsgen_tree.specs.Nodes as tree
use Rattle.jsgen_model.specs.Normal.{nothing_of, link_values}
use Rattle.jsgen_model.specs.Punctuator.{plus, dot, semicolon, question_dot, arrow, Round, Brace}
use Rattle.jsgen_model.specs.Tokens.{done, group, longer_stands}
use Rattle.jsgen_model.specs.Grammar.{function_of, arrow_values}
use Rattle.jsgen_model.specs.Grammar as grammar
use Rattle.jsgen_reading_vectors.specs.Reading.{IsRead, program_of, statement_of, reference_of, name_of, key_of}
use Rattle.jsgen_reading_vectors.proofs.Written.{word, sign}
use Rattle.jsgen_reading_vectors.proofs.Levels.{primary_value, member_value, left_value, unary_value, primary_left, left_unary}
use Rattle.jsgen_reading_vectors.proofs.Names.{free_a, free_b, free_d, free_f, value_a, value_b, value_c, value_d, value_e, value_f}

pub arguments_of_new : IsRead (codes "new a.b.c(d).e;") (program_of no_trees (more (statement_of (tree.static_member (link_values false) (tree.new_expression (nothing_of 1) (tree.static_member (link_values false) (tree.static_member (link_values false) (reference_of (codes "a")) (key_of (codes "b"))) (key_of (codes "c"))) (more (reference_of (codes "d")) no_trees)) (key_of (codes "e")))) no_trees))
unfolding unicode_ident longer_stands word_value
arguments_of_new = (
  word (codes "new") (word (codes "a") (sign dot (word (codes "b") (sign dot (word (codes "c") (group false Round (word (codes "d") done) (sign dot (word (codes "e") (sign semicolon done))))))))),
  ([], codes " a.b.c(d).e;", refl, refl, refl, refl, refl, (codes " ", codes ".b.c(d).e;", refl, refl, refl, refl, refl, ([], codes "b.c(d).e;", refl, refl, refl, refl, refl, ([], codes ".c(d).e;", refl, refl, refl, refl, refl, ([], codes "c(d).e;", refl, refl, refl, refl, refl, ([], codes "(d).e;", refl, refl, refl, refl, refl, ([], codes "d", codes ".e;", refl, refl, refl, ([], [], refl, refl, refl, refl, refl, refl), ([], codes "e;", refl, refl, refl, refl, refl, ([], codes ";", refl, refl, refl, refl, refl, ([], [], refl, refl, refl, refl, refl, refl)))))))))),
  grammar.a_module (grammar.module_items refl (grammar.last_module_item (grammar.a_module_statement (grammar.a_statement (grammar.an_expression_statement (grammar.a_semicolon {a = word (codes "new") (word (codes "a") (sign dot (word (codes "b") (sign dot (word (codes "c") (group false Round (word (codes "d") done) (sign dot (word (codes "e") done))))))))} false refl) refl (grammar.an_assignment (member_value (grammar.a_named_member {a = word (codes "new") (word (codes "a") (sign dot (word (codes "b") (sign dot (word (codes "c") (group false Round (word (codes "d") done) done))))))} (codes "e") false false refl value_e (grammar.new_with_arguments {a = word (codes "a") (sign dot (word (codes "b") (sign dot (word (codes "c") done))))} false false refl (grammar.a_named_member {a = word (codes "a") (sign dot (word (codes "b") done))} (codes "c") false false refl value_c (grammar.a_named_member {a = word (codes "a") done} (codes "b") false false refl value_b (grammar.a_primary (grammar.a_reference value_a free_a)))) (grammar.some_arguments (grammar.last_argument (grammar.an_element (primary_value (grammar.a_reference value_d free_d)))))))))))))),
)

pub two_arguments_of_new : IsRead (codes "new new a()();") (program_of no_trees (more (statement_of (tree.new_expression (nothing_of 1) (tree.new_expression (nothing_of 1) (reference_of (codes "a")) no_trees) no_trees)) no_trees))
unfolding unicode_ident longer_stands word_value
two_arguments_of_new = (
  word (codes "new") (word (codes "new") (word (codes "a") (group false Round done (group false Round done (sign semicolon done))))),
  ([], codes " new a()();", refl, refl, refl, refl, refl, (codes " ", codes " a()();", refl, refl, refl, refl, refl, (codes " ", codes "()();", refl, refl, refl, refl, refl, ([], [], codes "();", refl, refl, refl, refl, ([], [], codes ";", refl, refl, refl, refl, ([], [], refl, refl, refl, refl, refl, refl)))))),
  grammar.a_module (grammar.module_items refl (grammar.last_module_item (grammar.a_module_statement (grammar.a_statement (grammar.an_expression_statement (grammar.a_semicolon {a = word (codes "new") (word (codes "new") (word (codes "a") (group false Round done (group false Round done done))))} false refl) refl (grammar.an_assignment (member_value (grammar.new_with_arguments {a = word (codes "new") (word (codes "a") (group false Round done done))} false false refl (grammar.new_with_arguments {a = word (codes "a") done} false false refl (grammar.a_primary (grammar.a_reference value_a free_a)) grammar.no_argument) grammar.no_argument)))))))),
)

pub new_without_arguments : IsRead (codes "new new a;") (program_of no_trees (more (statement_of (tree.new_expression (nothing_of 1) (tree.new_expression (nothing_of 1) (reference_of (codes "a")) no_trees) no_trees)) no_trees))
unfolding unicode_ident longer_stands word_value
new_without_arguments = (
  word (codes "new") (word (codes "new") (word (codes "a") (sign semicolon done))),
  ([], codes " new a;", refl, refl, refl, refl, refl, (codes " ", codes " a;", refl, refl, refl, refl, refl, (codes " ", codes ";", refl, refl, refl, refl, refl, ([], [], refl, refl, refl, refl, refl, refl)))),
  grammar.a_module (grammar.module_items refl (grammar.last_module_item (grammar.a_module_statement (grammar.a_statement (grammar.an_expression_statement (grammar.a_semicolon {a = word (codes "new") (word (codes "new") (word (codes "a") done))} false refl) refl (grammar.an_assignment (left_value (grammar.a_new (grammar.new_alone (grammar.new_alone (grammar.a_member (grammar.a_primary (grammar.a_reference value_a free_a))))))))))))),
)

pub arguments_on_next_line : IsRead (codes "new a\n(b);") (program_of no_trees (more (statement_of (tree.new_expression (nothing_of 1) (reference_of (codes "a")) (more (reference_of (codes "b")) no_trees))) no_trees))
unfolding unicode_ident longer_stands word_value
arguments_on_next_line = (
  word (codes "new") (word (codes "a") (group true Round (word (codes "b") done) (sign semicolon done))),
  ([], codes " a\n(b);", refl, refl, refl, refl, refl, (codes " ", codes "\n(b);", refl, refl, refl, refl, refl, (codes "\n", codes "b", codes ";", refl, refl, refl, ([], [], refl, refl, refl, refl, refl, refl), ([], [], refl, refl, refl, refl, refl, refl)))),
  grammar.a_module (grammar.module_items refl (grammar.last_module_item (grammar.a_module_statement (grammar.a_statement (grammar.an_expression_statement (grammar.a_semicolon {a = word (codes "new") (word (codes "a") (group true Round (word (codes "b") done) done))} false refl) refl (grammar.an_assignment (member_value (grammar.new_with_arguments {a = word (codes "a") done} false true refl (grammar.a_primary (grammar.a_reference value_a free_a)) (grammar.some_arguments (grammar.last_argument (grammar.an_element (primary_value (grammar.a_reference value_b free_b))))))))))))),
)

pub optional_link_behind_new : IsRead (codes "new a()?.b;") (program_of no_trees (more (statement_of (tree.chain (nothing_of 0) (tree.static_member (link_values true) (tree.new_expression (nothing_of 1) (reference_of (codes "a")) no_trees) (key_of (codes "b"))))) no_trees))
unfolding unicode_ident longer_stands word_value
optional_link_behind_new = (
  word (codes "new") (word (codes "a") (group false Round done (sign question_dot (word (codes "b") (sign semicolon done))))),
  ([], codes " a()?.b;", refl, refl, refl, refl, refl, (codes " ", codes "()?.b;", refl, refl, refl, refl, refl, ([], [], codes "?.b;", refl, refl, refl, refl, ([], codes "b;", refl, refl, refl, refl, refl, ([], codes ";", refl, refl, refl, refl, refl, ([], [], refl, refl, refl, refl, refl, refl)))))),
  grammar.a_module (grammar.module_items refl (grammar.last_module_item (grammar.a_module_statement (grammar.a_statement (grammar.an_expression_statement (grammar.a_semicolon {a = word (codes "new") (word (codes "a") (group false Round done (sign question_dot (word (codes "b") done))))} false refl) refl (grammar.an_assignment (left_value (grammar.an_optional_chain (grammar.an_optional_named_member {a = word (codes "new") (word (codes "a") (group false Round done done))} (codes "b") false false refl value_b (grammar.a_first_link (grammar.a_called_member (grammar.new_with_arguments {a = word (codes "a") done} false false refl (grammar.a_primary (grammar.a_reference value_a free_a)) grammar.no_argument)))))))))))),
)

pub new_of_object : IsRead (codes "new {}.a();") (program_of no_trees (more (statement_of (tree.new_expression (nothing_of 1) (tree.static_member (link_values false) (tree.object_expression (nothing_of 0) no_trees) (key_of (codes "a"))) no_trees)) no_trees))
unfolding unicode_ident longer_stands word_value
new_of_object = (
  word (codes "new") (group false Brace done (sign dot (word (codes "a") (group false Round done (sign semicolon done))))),
  ([], codes " {}.a();", refl, refl, refl, refl, refl, (codes " ", [], codes ".a();", refl, refl, refl, refl, ([], codes "a();", refl, refl, refl, refl, refl, ([], codes "();", refl, refl, refl, refl, refl, ([], [], codes ";", refl, refl, refl, refl, ([], [], refl, refl, refl, refl, refl, refl)))))),
  grammar.a_module (grammar.module_items refl (grammar.last_module_item (grammar.a_module_statement (grammar.a_statement (grammar.an_expression_statement (grammar.a_semicolon {a = word (codes "new") (group false Brace done (sign dot (word (codes "a") (group false Round done done))))} false refl) refl (grammar.an_assignment (member_value (grammar.new_with_arguments {a = group false Brace done (sign dot (word (codes "a") done))} false false refl (grammar.a_named_member {a = group false Brace done done} (codes "a") false false refl value_a (grammar.a_primary (grammar.an_object grammar.no_property))) grammar.no_argument)))))))),
)

pub new_of_target : IsRead (codes "function f() { new new.target(); }") (program_of no_trees (more (function_of kinds.Declaration false false (given (name_of (codes "f"))) no_trees absent no_trees (more (statement_of (tree.new_expression (nothing_of 1) (tree.new_target (nothing_of 0)) no_trees)) no_trees)) no_trees))
unfolding unicode_ident longer_stands word_value
new_of_target = (
  word (codes "function") (word (codes "f") (group false Round done (group false Brace (word (codes "new") (word (codes "new") (sign dot (word (codes "target") (group false Round done (sign semicolon done)))))) done))),
  ([], codes " f() { new new.target(); }", refl, refl, refl, refl, refl, (codes " ", codes "() { new new.target(); }", refl, refl, refl, refl, refl, ([], [], codes " { new new.target(); }", refl, refl, refl, refl, (codes " ", codes " new new.target(); ", [], refl, refl, refl, (codes " ", codes " new.target(); ", refl, refl, refl, refl, refl, (codes " ", codes ".target(); ", refl, refl, refl, refl, refl, ([], codes "target(); ", refl, refl, refl, refl, refl, ([], codes "(); ", refl, refl, refl, refl, refl, ([], [], codes "; ", refl, refl, refl, refl, ([], codes " ", refl, refl, refl, refl, refl, refl)))))), refl)))),
  grammar.a_module (grammar.module_items refl (grammar.last_module_item (grammar.a_module_statement (grammar.a_function_declaration (grammar.a_plain_function (grammar.a_named_function value_f free_f grammar.no_parameter (grammar.statements refl (grammar.last_statement (grammar.a_statement (grammar.an_expression_statement (grammar.a_semicolon {a = word (codes "new") (word (codes "new") (sign dot (word (codes "target") (group false Round done done))))} false refl) refl (grammar.an_assignment (member_value (grammar.new_with_arguments {a = word (codes "new") (sign dot (word (codes "target") done))} false false refl grammar.a_new_target grammar.no_argument))))))))))))),
)

pub object_behind_arrow : IsRead (codes "() => ({}).a;") (program_of no_trees (more (statement_of (tree.arrow_function (arrow_values false) (tree.formal_parameters (nothing_of 0) no_trees absent) (tree.static_member (link_values false) (tree.parenthesized (nothing_of 0) (tree.object_expression (nothing_of 0) no_trees)) (key_of (codes "a"))))) no_trees))
unfolding unicode_ident longer_stands word_value
object_behind_arrow = (
  group false Round done (sign arrow (group false Round (group false Brace done done) (sign dot (word (codes "a") (sign semicolon done))))),
  ([], [], codes " => ({}).a;", refl, refl, refl, refl, (codes " ", codes " ({}).a;", refl, refl, refl, refl, refl, (codes " ", codes "{}", codes ".a;", refl, refl, refl, ([], [], [], refl, refl, refl, refl, refl), ([], codes "a;", refl, refl, refl, refl, refl, ([], codes ";", refl, refl, refl, refl, refl, ([], [], refl, refl, refl, refl, refl, refl)))))),
  grammar.a_module (grammar.module_items refl (grammar.last_module_item (grammar.a_module_statement (grammar.a_statement (grammar.an_expression_statement (grammar.a_semicolon {a = group false Round done (sign arrow (group false Round (group false Brace done done) (sign dot (word (codes "a") done))))} false refl) refl (grammar.an_assignment (grammar.an_arrow (grammar.an_arrow_function {a = group false Round done done} refl (grammar.grouped_parameters grammar.no_parameter) refl (member_value (grammar.a_named_member {a = group false Round (group false Brace done done) done} (codes "a") false false refl value_a (grammar.a_primary (grammar.in_parentheses (grammar.an_assignment (primary_value (grammar.an_object grammar.no_property))))))))))))))),
)

pub block_before_sign : IsRead (codes "{} + a;") (program_of no_trees (more (tree.block (nothing_of 0) no_trees) (more (statement_of (tree.unary (bare (unary_operator unary_operators.UnaryPlus ∷ [])) (reference_of (codes "a")))) no_trees)))
unfolding unicode_ident longer_stands word_value
block_before_sign = (
  group false Brace done (sign plus (word (codes "a") (sign semicolon done))),
  ([], [], codes " + a;", refl, refl, refl, refl, (codes " ", codes " a;", refl, refl, refl, refl, refl, (codes " ", codes ";", refl, refl, refl, refl, refl, ([], [], refl, refl, refl, refl, refl, refl)))),
  grammar.a_module (grammar.module_items refl (grammar.first_module_item {a = group false Brace done done} refl (grammar.a_module_statement (grammar.a_statement (grammar.a_block grammar.no_statement))) (grammar.last_module_item (grammar.a_module_statement (grammar.a_statement (grammar.an_expression_statement (grammar.a_semicolon {a = sign plus (word (codes "a") done)} false refl) refl (grammar.an_assignment (unary_value (grammar.a_unary_operation unary_operators.UnaryPlus (left_unary (primary_left (grammar.a_reference value_a free_a)))))))))))),
)
