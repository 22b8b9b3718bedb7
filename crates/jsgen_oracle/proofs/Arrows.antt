-- Arrow functions that are read.
use Rattle.std.proofs.Common.{false, [], codes, refl}
use Rattle.unicode_ident.proofs.Computing.{unicode_ident}
use Rattle.jsgen_syntax.specs.Escapes.{word_value}
use Rattle.jsgen_tree.specs.Tree.{absent, given, no_trees, more}
use Rattle.jsgen_model.specs.Punctuator.{arrow, comma, colon, question, ellipsis, equal, semicolon, Round, Brace}
use Rattle.jsgen_model.specs.Numbers.{spells_number}
use Rattle.jsgen_model.specs.Tokens.{done, piece, group, Number, longer_stands, longer_number_stands}
use Rattle.jsgen_model.specs.Grammar as grammar
use Rattle.jsgen_oracle.specs.Samples.{IsRead}
use Rattle.jsgen_oracle.specs.Samples as samples
use Rattle.jsgen_oracle.proofs.Samples.{whole, first_of_sum, value, test, undirected, item, word, sign, value_a, value_b, value_c, free_a, free_b, free_c, read_a, read_b, read_c, read_d}
use Rattle.jsgen_oracle.proofs.Functions.{read_arrow}

pub arrow_with_name : IsRead (codes "a=>b;") (samples.module_of (more (samples.statement_of (samples.arrow_of (samples.one_parameter (codes "a")) samples.b)) no_trees))
unfolding unicode_ident longer_stands word_value
arrow_with_name = (
  word (codes "a") (sign arrow (word (codes "b") (sign semicolon done))),
  ([], codes "=>b;", refl, refl, refl, refl, refl, ([], codes "b;", refl, refl, refl, refl, refl, ([], codes ";", refl, refl, refl, refl, refl, ([], [], refl, refl, refl, refl, refl, refl)))),
  undirected refl (grammar.last_statement (item {a = word (codes "a") (sign arrow (word (codes "b") done))} refl (grammar.an_assignment (read_arrow {a = word (codes "a") done} {b = word (codes "b") done} refl (grammar.a_parameter_name value_a free_a) refl (value (first_of_sum read_b)))))),
)

pub parameters : IsRead (codes "(a,b=1,...c)=>a;") (samples.module_of (more (samples.statement_of (samples.arrow_of (samples.parameters_of (more (samples.parameter (codes "a") absent) (more (samples.parameter (codes "b") (given samples.one)) no_trees)) (given (samples.rest_in (codes "c")))) samples.a)) no_trees))
unfolding unicode_ident longer_stands longer_number_stands spells_number word_value
parameters = (
  group false Round (word (codes "a") (sign comma (word (codes "b") (sign equal (piece false (Number (codes "1")) (sign comma (sign ellipsis (word (codes "c") done)))))))) (sign arrow (word (codes "a") (sign semicolon done))),
  ([], codes "a,b=1,...c", codes "=>a;", refl, refl, refl, ([], codes ",b=1,...c", refl, refl, refl, refl, refl, ([], codes "b=1,...c", refl, refl, refl, refl, refl, ([], codes "=1,...c", refl, refl, refl, refl, refl, ([], codes "1,...c", refl, refl, refl, refl, refl, ([], codes ",...c", refl, refl, refl, refl, refl, ([], codes "...c", refl, refl, refl, refl, refl, ([], codes "c", refl, refl, refl, refl, refl, ([], [], refl, refl, refl, refl, refl, refl)))))))), ([], codes "a;", refl, refl, refl, refl, refl, ([], codes ";", refl, refl, refl, refl, refl, ([], [], refl, refl, refl, refl, refl, refl)))),
  undirected refl (grammar.last_statement (item {a = group false Round (word (codes "a") (sign comma (word (codes "b") (sign equal (piece false (Number (codes "1")) (sign comma (sign ellipsis (word (codes "c") done)))))))) (sign arrow (word (codes "a") done))} refl (grammar.an_assignment (read_arrow {a = group false Round (word (codes "a") (sign comma (word (codes "b") (sign equal (piece false (Number (codes "1")) (sign comma (sign ellipsis (word (codes "c") done)))))))) done} {b = word (codes "a") done} refl (grammar.grouped_parameters {inside = word (codes "a") (sign comma (word (codes "b") (sign equal (piece false (Number (codes "1")) (sign comma (sign ellipsis (word (codes "c") done)))))))} (grammar.first_parameter {a = word (codes "a") done} {b = word (codes "b") (sign equal (piece false (Number (codes "1")) (sign comma (sign ellipsis (word (codes "c") done)))))} false refl (grammar.a_parameter (grammar.a_bound_name value_a free_a)) (grammar.first_parameter {a = word (codes "b") (sign equal (piece false (Number (codes "1")) done))} {b = sign ellipsis (word (codes "c") done)} false refl (grammar.with_initializer {a = word (codes "b") done} {v = piece false (Number (codes "1")) done} false refl (grammar.a_bound_name value_b free_b) (value (first_of_sum (grammar.a_number refl)))) (grammar.a_rest (grammar.a_bound_name value_c free_c))))) refl (value (first_of_sum read_a)))))),
)

pub arrow_to_object : IsRead (codes "()=>({});") (samples.module_of (more (samples.statement_of (samples.arrow_of (samples.parameters_of no_trees absent) (samples.in_parentheses samples.empty_object))) no_trees))
unfolding unicode_ident longer_stands word_value
arrow_to_object = (
  group false Round done (sign arrow (group false Round (group false Brace done done) (sign semicolon done))),
  ([], [], codes "=>({});", refl, refl, refl, refl, ([], codes "({});", refl, refl, refl, refl, refl, ([], codes "{}", codes ";", refl, refl, refl, ([], [], [], refl, refl, refl, refl, refl), ([], [], refl, refl, refl, refl, refl, refl)))),
  undirected refl (grammar.last_statement (item {a = group false Round done (sign arrow (group false Round (group false Brace done done) done))} refl (grammar.an_assignment (read_arrow {a = group false Round done done} {b = group false Round (group false Brace done done) done} refl (grammar.grouped_parameters grammar.no_parameter) refl (value (first_of_sum (grammar.in_parentheses (whole (first_of_sum (grammar.an_object grammar.no_property)))))))))),
)

pub comma_behind_parameters : IsRead (codes "(a,)=>b;") (samples.module_of (more (samples.statement_of (samples.arrow_of (samples.one_parameter (codes "a")) samples.b)) no_trees))
unfolding unicode_ident longer_stands word_value
comma_behind_parameters = (
  group false Round (word (codes "a") (sign comma done)) (sign arrow (word (codes "b") (sign semicolon done))),
  ([], codes "a,", codes "=>b;", refl, refl, refl, ([], codes ",", refl, refl, refl, refl, refl, ([], [], refl, refl, refl, refl, refl, refl)), ([], codes "b;", refl, refl, refl, refl, refl, ([], codes ";", refl, refl, refl, refl, refl, ([], [], refl, refl, refl, refl, refl, refl)))),
  undirected refl (grammar.last_statement (item {a = group false Round (word (codes "a") (sign comma done)) (sign arrow (word (codes "b") done))} refl (grammar.an_assignment (read_arrow {a = group false Round (word (codes "a") (sign comma done)) done} {b = word (codes "b") done} refl (grammar.grouped_parameters {inside = word (codes "a") (sign comma done)} (grammar.first_parameter {a = word (codes "a") done} {b = done} false refl (grammar.a_parameter (grammar.a_bound_name value_a free_a)) grammar.no_parameter)) refl (value (first_of_sum read_b)))))),
)

pub arrow_to_arrow : IsRead (codes "a=>b=>c;") (samples.module_of (more (samples.statement_of (samples.arrow_of (samples.one_parameter (codes "a")) (samples.arrow_of (samples.one_parameter (codes "b")) samples.c))) no_trees))
unfolding unicode_ident longer_stands word_value
arrow_to_arrow = (
  word (codes "a") (sign arrow (word (codes "b") (sign arrow (word (codes "c") (sign semicolon done))))),
  ([], codes "=>b=>c;", refl, refl, refl, refl, refl, ([], codes "b=>c;", refl, refl, refl, refl, refl, ([], codes "=>c;", refl, refl, refl, refl, refl, ([], codes "c;", refl, refl, refl, refl, refl, ([], codes ";", refl, refl, refl, refl, refl, ([], [], refl, refl, refl, refl, refl, refl)))))),
  undirected refl (grammar.last_statement (item {a = word (codes "a") (sign arrow (word (codes "b") (sign arrow (word (codes "c") done))))} refl (grammar.an_assignment (read_arrow {a = word (codes "a") done} {b = word (codes "b") (sign arrow (word (codes "c") done))} refl (grammar.a_parameter_name value_a free_a) refl (read_arrow {a = word (codes "b") done} {b = word (codes "c") done} refl (grammar.a_parameter_name value_b free_b) refl (value (first_of_sum read_c))))))),
)

pub arrow_to_choice : IsRead (codes "(a)=>a?b:c;") (samples.module_of (more (samples.statement_of (samples.arrow_of (samples.one_parameter (codes "a")) (samples.conditional_of samples.a samples.b samples.c))) no_trees))
unfolding unicode_ident longer_stands word_value
arrow_to_choice = (
  group false Round (word (codes "a") done) (sign arrow (word (codes "a") (sign question (word (codes "b") (sign colon (word (codes "c") (sign semicolon done))))))),
  ([], codes "a", codes "=>a?b:c;", refl, refl, refl, ([], [], refl, refl, refl, refl, refl, refl), ([], codes "a?b:c;", refl, refl, refl, refl, refl, ([], codes "?b:c;", refl, refl, refl, refl, refl, ([], codes "b:c;", refl, refl, refl, refl, refl, ([], codes ":c;", refl, refl, refl, refl, refl, ([], codes "c;", refl, refl, refl, refl, refl, ([], codes ";", refl, refl, refl, refl, refl, ([], [], refl, refl, refl, refl, refl, refl)))))))),
  undirected refl (grammar.last_statement (item {a = group false Round (word (codes "a") done) (sign arrow (word (codes "a") (sign question (word (codes "b") (sign colon (word (codes "c") done))))))} refl (grammar.an_assignment (read_arrow {a = group false Round (word (codes "a") done) done} {b = word (codes "a") (sign question (word (codes "b") (sign colon (word (codes "c") done))))} refl (grammar.grouped_parameters (grammar.last_parameter (grammar.a_parameter (grammar.a_bound_name value_a free_a)))) refl (grammar.a_conditional (grammar.a_choice {a = word (codes "a") done} {b = word (codes "b") done} {d = word (codes "c") done} false false refl (test (first_of_sum read_a)) (value (first_of_sum read_b)) (value (first_of_sum read_c)))))))),
)

pub arrow_in_alternate : IsRead (codes "a?(b):c=>d;") (samples.module_of (more (samples.statement_of (samples.conditional_of samples.a (samples.in_parentheses samples.b) (samples.arrow_of (samples.one_parameter (codes "c")) samples.d))) no_trees))
unfolding unicode_ident longer_stands word_value
arrow_in_alternate = (
  word (codes "a") (sign question (group false Round (word (codes "b") done) (sign colon (word (codes "c") (sign arrow (word (codes "d") (sign semicolon done))))))),
  ([], codes "?(b):c=>d;", refl, refl, refl, refl, refl, ([], codes "(b):c=>d;", refl, refl, refl, refl, refl, ([], codes "b", codes ":c=>d;", refl, refl, refl, ([], [], refl, refl, refl, refl, refl, refl), ([], codes "c=>d;", refl, refl, refl, refl, refl, ([], codes "=>d;", refl, refl, refl, refl, refl, ([], codes "d;", refl, refl, refl, refl, refl, ([], codes ";", refl, refl, refl, refl, refl, ([], [], refl, refl, refl, refl, refl, refl)))))))),
  undirected refl (grammar.last_statement (item {a = word (codes "a") (sign question (group false Round (word (codes "b") done) (sign colon (word (codes "c") (sign arrow (word (codes "d") done))))))} refl (grammar.an_assignment (grammar.a_conditional (grammar.a_choice {a = word (codes "a") done} {b = group false Round (word (codes "b") done) done} {d = word (codes "c") (sign arrow (word (codes "d") done))} false false refl (test (first_of_sum read_a)) (value (first_of_sum (grammar.in_parentheses (whole (first_of_sum read_b))))) (read_arrow {a = word (codes "c") done} {b = word (codes "d") done} refl (grammar.a_parameter_name value_c free_c) refl (value (first_of_sum read_d)))))))),
)
