-- Conditionals, sequences, assignments and chains that are read.
use Rattle.std.proofs.Common.{false, [], codes, refl}
use Rattle.unicode_ident.proofs.Computing.{unicode_ident}
use Rattle.jsgen_syntax.specs.Escapes.{word_value}
use Rattle.jsgen_syntax.specs.declared.operator.AssignmentOperator.TheVariants.{Assign}
use Rattle.jsgen_tree.specs.Tree.{no_trees, more}
use Rattle.jsgen_model.specs.Punctuator.{comma, colon, question, question_dot, dot, equal, semicolon, Round, Square}
use Rattle.jsgen_model.specs.Numbers.{spells_number}
use Rattle.jsgen_model.specs.Tokens.{done, piece, group, Number, longer_stands, longer_number_stands}
use Rattle.jsgen_model.specs.Grammar as grammar
use Rattle.jsgen_oracle.specs.Samples.{IsRead}
use Rattle.jsgen_oracle.specs.Samples as samples
use Rattle.jsgen_oracle.proofs.Samples.{whole, first_of_sum, value, test, of_left, undirected, item, word, sign, value_b, value_c, read_a, read_b, read_c, read_d, read_e}

pub choices_to_the_right : IsRead (codes "a?b:c?d:e;") (samples.module_of (more (samples.statement_of (samples.conditional_of samples.a samples.b (samples.conditional_of samples.c samples.d samples.e))) no_trees))
unfolding unicode_ident longer_stands word_value
choices_to_the_right = (
  word (codes "a") (sign question (word (codes "b") (sign colon (word (codes "c") (sign question (word (codes "d") (sign colon (word (codes "e") (sign semicolon done))))))))),
  ([], codes "?b:c?d:e;", refl, refl, refl, refl, refl, ([], codes "b:c?d:e;", refl, refl, refl, refl, refl, ([], codes ":c?d:e;", refl, refl, refl, refl, refl, ([], codes "c?d:e;", refl, refl, refl, refl, refl, ([], codes "?d:e;", refl, refl, refl, refl, refl, ([], codes "d:e;", refl, refl, refl, refl, refl, ([], codes ":e;", refl, refl, refl, refl, refl, ([], codes "e;", refl, refl, refl, refl, refl, ([], codes ";", refl, refl, refl, refl, refl, ([], [], refl, refl, refl, refl, refl, refl)))))))))),
  undirected refl (grammar.last_statement (item {a = word (codes "a") (sign question (word (codes "b") (sign colon (word (codes "c") (sign question (word (codes "d") (sign colon (word (codes "e") done))))))))} refl (grammar.an_assignment (grammar.a_conditional (grammar.a_choice {a = word (codes "a") done} {b = word (codes "b") done} {d = word (codes "c") (sign question (word (codes "d") (sign colon (word (codes "e") done))))} false false refl (test (first_of_sum read_a)) (value (first_of_sum read_b)) (grammar.a_conditional (grammar.a_choice {a = word (codes "c") done} {b = word (codes "d") done} {d = word (codes "e") done} false false refl (test (first_of_sum read_c)) (value (first_of_sum read_d)) (value (first_of_sum read_e))))))))),
)

pub number_behind_question : IsRead (codes "a?.5:b;") (samples.module_of (more (samples.statement_of (samples.conditional_of samples.a samples.half samples.b)) no_trees))
unfolding unicode_ident longer_stands longer_number_stands spells_number word_value
number_behind_question = (
  word (codes "a") (sign question (piece false (Number (codes ".5")) (sign colon (word (codes "b") (sign semicolon done))))),
  ([], codes "?.5:b;", refl, refl, refl, refl, refl, ([], codes ".5:b;", refl, refl, refl, refl, refl, ([], codes ":b;", refl, refl, refl, refl, refl, ([], codes "b;", refl, refl, refl, refl, refl, ([], codes ";", refl, refl, refl, refl, refl, ([], [], refl, refl, refl, refl, refl, refl)))))),
  undirected refl (grammar.last_statement (item {a = word (codes "a") (sign question (piece false (Number (codes ".5")) (sign colon (word (codes "b") done))))} refl (grammar.an_assignment (grammar.a_conditional (grammar.a_choice {a = word (codes "a") done} {b = piece false (Number (codes ".5")) done} {d = word (codes "b") done} false false refl (test (first_of_sum read_a)) (value (first_of_sum (grammar.a_number refl))) (value (first_of_sum read_b))))))),
)

pub sequence : IsRead (codes "a,b;") (samples.module_of (more (samples.statement_of (samples.sequence_of (more samples.a (more samples.b no_trees)))) no_trees))
unfolding unicode_ident longer_stands word_value
sequence = (
  word (codes "a") (sign comma (word (codes "b") (sign semicolon done))),
  ([], codes ",b;", refl, refl, refl, refl, refl, ([], codes "b;", refl, refl, refl, refl, refl, ([], codes ";", refl, refl, refl, refl, refl, ([], [], refl, refl, refl, refl, refl, refl)))),
  undirected refl (grammar.last_statement (item {a = word (codes "a") (sign comma (word (codes "b") done))} refl (grammar.a_sequence {a = word (codes "a") done} {b = word (codes "b") done} false refl (value (first_of_sum read_a)) (grammar.last_part (value (first_of_sum read_b)))))),
)

pub assignments_to_the_right : IsRead (codes "a=b=c;") (samples.module_of (more (samples.statement_of (samples.assignment_of samples.a (samples.assignment_of samples.b samples.c))) no_trees))
unfolding unicode_ident longer_stands word_value
assignments_to_the_right = (
  word (codes "a") (sign equal (word (codes "b") (sign equal (word (codes "c") (sign semicolon done))))),
  ([], codes "=b=c;", refl, refl, refl, refl, refl, ([], codes "b=c;", refl, refl, refl, refl, refl, ([], codes "=c;", refl, refl, refl, refl, refl, ([], codes "c;", refl, refl, refl, refl, refl, ([], codes ";", refl, refl, refl, refl, refl, ([], [], refl, refl, refl, refl, refl, refl)))))),
  undirected refl (grammar.last_statement (item {a = word (codes "a") (sign equal (word (codes "b") (sign equal (word (codes "c") done))))} refl (grammar.an_assignment (grammar.an_assignment_to {a = word (codes "a") done} {b = word (codes "b") (sign equal (word (codes "c") done))} Assign false refl (grammar.a_new (grammar.a_member (grammar.a_primary read_a))) refl (grammar.an_assignment_to {a = word (codes "b") done} {b = word (codes "c") done} Assign false refl (grammar.a_new (grammar.a_member (grammar.a_primary read_b))) refl (value (first_of_sum read_c)) refl) refl)))),
)

pub assignment_to_parentheses : IsRead (codes "(a)=b;") (samples.module_of (more (samples.statement_of (samples.assignment_of samples.a samples.b)) no_trees))
unfolding unicode_ident longer_stands word_value
assignment_to_parentheses = (
  group false Round (word (codes "a") done) (sign equal (word (codes "b") (sign semicolon done))),
  ([], codes "a", codes "=b;", refl, refl, refl, ([], [], refl, refl, refl, refl, refl, refl), ([], codes "b;", refl, refl, refl, refl, refl, ([], codes ";", refl, refl, refl, refl, refl, ([], [], refl, refl, refl, refl, refl, refl)))),
  undirected refl (grammar.last_statement (item {a = group false Round (word (codes "a") done) (sign equal (word (codes "b") done))} refl (grammar.an_assignment (grammar.an_assignment_to {a = group false Round (word (codes "a") done) done} {b = word (codes "b") done} Assign false refl (grammar.a_new (grammar.a_member (grammar.a_primary (grammar.in_parentheses (whole (first_of_sum read_a)))))) refl (value (first_of_sum read_b)) refl)))),
)

pub assignment_in_alternate : IsRead (codes "a?b:c=d;") (samples.module_of (more (samples.statement_of (samples.conditional_of samples.a samples.b (samples.assignment_of samples.c samples.d))) no_trees))
unfolding unicode_ident longer_stands word_value
assignment_in_alternate = (
  word (codes "a") (sign question (word (codes "b") (sign colon (word (codes "c") (sign equal (word (codes "d") (sign semicolon done))))))),
  ([], codes "?b:c=d;", refl, refl, refl, refl, refl, ([], codes "b:c=d;", refl, refl, refl, refl, refl, ([], codes ":c=d;", refl, refl, refl, refl, refl, ([], codes "c=d;", refl, refl, refl, refl, refl, ([], codes "=d;", refl, refl, refl, refl, refl, ([], codes "d;", refl, refl, refl, refl, refl, ([], codes ";", refl, refl, refl, refl, refl, ([], [], refl, refl, refl, refl, refl, refl)))))))),
  undirected refl (grammar.last_statement (item {a = word (codes "a") (sign question (word (codes "b") (sign colon (word (codes "c") (sign equal (word (codes "d") done))))))} refl (grammar.an_assignment (grammar.a_conditional (grammar.a_choice {a = word (codes "a") done} {b = word (codes "b") done} {d = word (codes "c") (sign equal (word (codes "d") done))} false false refl (test (first_of_sum read_a)) (value (first_of_sum read_b)) (grammar.an_assignment_to {a = word (codes "c") done} {b = word (codes "d") done} Assign false refl (grammar.a_new (grammar.a_member (grammar.a_primary read_c))) refl (value (first_of_sum read_d)) refl)))))),
)

pub chain : IsRead (codes "a?.b.c;") (samples.module_of (more (samples.statement_of (samples.chain_of (samples.member_of (samples.optional_member_of samples.a (codes "b")) (codes "c")))) no_trees))
unfolding unicode_ident longer_stands word_value
chain = (
  word (codes "a") (sign question_dot (word (codes "b") (sign dot (word (codes "c") (sign semicolon done))))),
  ([], codes "?.b.c;", refl, refl, refl, refl, refl, ([], codes "b.c;", refl, refl, refl, refl, refl, ([], codes ".c;", refl, refl, refl, refl, refl, ([], codes "c;", refl, refl, refl, refl, refl, ([], codes ";", refl, refl, refl, refl, refl, ([], [], refl, refl, refl, refl, refl, refl)))))),
  undirected refl (grammar.last_statement (item {a = word (codes "a") (sign question_dot (word (codes "b") (sign dot (word (codes "c") done))))} refl (of_left (grammar.an_optional_chain (grammar.a_further_named_member {a = word (codes "a") (sign question_dot (word (codes "b") done))} (codes "c") false false refl value_c (grammar.an_optional_named_member {a = word (codes "a") done} (codes "b") false false refl value_b (grammar.a_first_link (grammar.a_called_member (grammar.a_primary read_a))))))))),
)

pub optional_element : IsRead (codes "a?.[b];") (samples.module_of (more (samples.statement_of (samples.chain_of (samples.optional_element_of samples.a samples.b))) no_trees))
unfolding unicode_ident longer_stands word_value
optional_element = (
  word (codes "a") (sign question_dot (group false Square (word (codes "b") done) (sign semicolon done))),
  ([], codes "?.[b];", refl, refl, refl, refl, refl, ([], codes "[b];", refl, refl, refl, refl, refl, ([], codes "b", codes ";", refl, refl, refl, ([], [], refl, refl, refl, refl, refl, refl), ([], [], refl, refl, refl, refl, refl, refl)))),
  undirected refl (grammar.last_statement (item {a = word (codes "a") (sign question_dot (group false Square (word (codes "b") done) done))} refl (of_left (grammar.an_optional_chain (grammar.an_optional_computed_member {a = word (codes "a") done} {inside = word (codes "b") done} false false refl (grammar.a_first_link (grammar.a_called_member (grammar.a_primary read_a))) (whole (first_of_sum read_b))))))),
)
