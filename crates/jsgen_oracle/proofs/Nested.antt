-- Statements in a row and within others that are read: which `if` an `else` goes with, and where a statement ends.
use Rattle.std.proofs.Common.{false, [], codes, refl}
use Rattle.unicode_ident.proofs.Computing.{unicode_ident}
use Rattle.jsgen_syntax.specs.Escapes.{word_value}
use Rattle.jsgen_syntax.specs.declared.operator.UpdateOperator.TheVariants.{Increment}
use Rattle.jsgen_tree.specs.Tree.{absent, given, no_trees, more}
use Rattle.jsgen_model.specs.Punctuator.{plus_plus, colon, semicolon, Round, Brace}
use Rattle.jsgen_model.specs.Tokens.{done, group, longer_stands}
use Rattle.jsgen_model.specs.Grammar as grammar
use Rattle.jsgen_oracle.specs.Samples.{IsRead}
use Rattle.jsgen_oracle.specs.Samples as samples
use Rattle.jsgen_oracle.specs.StatementSamples as statements
use Rattle.jsgen_oracle.proofs.Samples.{whole, first_of_sum, undirected, ended, item, word, sign, update, of_unary, value_b, free_b, read_a, read_b, read_c, read_d, read_e}

pub else_within_while : IsRead (codes "if(a)while(b)if(c)d;else e;") (samples.module_of (more (samples.if_of samples.a (statements.while_of samples.b (samples.if_of samples.c (samples.statement_of samples.d) (given (samples.statement_of samples.e)))) absent) no_trees))
unfolding unicode_ident longer_stands word_value
else_within_while = (
  word (codes "if") (group false Round (word (codes "a") done) (word (codes "while") (group false Round (word (codes "b") done) (word (codes "if") (group false Round (word (codes "c") done) (word (codes "d") (sign semicolon (word (codes "else") (word (codes "e") (sign semicolon done)))))))))),
  ([], codes "(a)while(b)if(c)d;else e;", refl, refl, refl, refl, refl, ([], codes "a", codes "while(b)if(c)d;else e;", refl, refl, refl, ([], [], refl, refl, refl, refl, refl, refl), ([], codes "(b)if(c)d;else e;", refl, refl, refl, refl, refl, ([], codes "b", codes "if(c)d;else e;", refl, refl, refl, ([], [], refl, refl, refl, refl, refl, refl), ([], codes "(c)d;else e;", refl, refl, refl, refl, refl, ([], codes "c", codes "d;else e;", refl, refl, refl, ([], [], refl, refl, refl, refl, refl, refl), ([], codes ";else e;", refl, refl, refl, refl, refl, ([], codes "else e;", refl, refl, refl, refl, refl, ([], codes " e;", refl, refl, refl, refl, refl, (codes " ", codes ";", refl, refl, refl, refl, refl, ([], [], refl, refl, refl, refl, refl, refl))))))))))),
  undirected refl (grammar.last_statement (grammar.a_statement (grammar.an_if (whole (first_of_sum read_a)) (grammar.a_while (whole (first_of_sum read_b)) (grammar.an_if_with_else {a = word (codes "d") (sign semicolon done)} {b = word (codes "e") (sign semicolon done)} false refl (whole (first_of_sum read_c)) (ended {a = word (codes "d") done} refl (whole (first_of_sum read_d))) (ended {a = word (codes "e") done} refl (whole (first_of_sum read_e)))))))),
)

pub else_within_for : IsRead (codes "if(a)for(;;)if(b)c;else d;") (samples.module_of (more (samples.if_of samples.a (statements.for_of_parts absent absent absent (samples.if_of samples.b (samples.statement_of samples.c) (given (samples.statement_of samples.d)))) absent) no_trees))
unfolding unicode_ident longer_stands word_value
else_within_for = (
  word (codes "if") (group false Round (word (codes "a") done) (word (codes "for") (group false Round (sign semicolon (sign semicolon done)) (word (codes "if") (group false Round (word (codes "b") done) (word (codes "c") (sign semicolon (word (codes "else") (word (codes "d") (sign semicolon done)))))))))),
  ([], codes "(a)for(;;)if(b)c;else d;", refl, refl, refl, refl, refl, ([], codes "a", codes "for(;;)if(b)c;else d;", refl, refl, refl, ([], [], refl, refl, refl, refl, refl, refl), ([], codes "(;;)if(b)c;else d;", refl, refl, refl, refl, refl, ([], codes ";;", codes "if(b)c;else d;", refl, refl, refl, ([], codes ";", refl, refl, refl, refl, refl, ([], [], refl, refl, refl, refl, refl, refl)), ([], codes "(b)c;else d;", refl, refl, refl, refl, refl, ([], codes "b", codes "c;else d;", refl, refl, refl, ([], [], refl, refl, refl, refl, refl, refl), ([], codes ";else d;", refl, refl, refl, refl, refl, ([], codes "else d;", refl, refl, refl, refl, refl, ([], codes " d;", refl, refl, refl, refl, refl, (codes " ", codes ";", refl, refl, refl, refl, refl, ([], [], refl, refl, refl, refl, refl, refl))))))))))),
  undirected refl (grammar.last_statement (grammar.a_statement (grammar.an_if (whole (first_of_sum read_a)) (grammar.a_for {a = done} {b = done} {d = done} false false refl grammar.no_init grammar.nothing_there grammar.nothing_there (grammar.an_if_with_else {a = word (codes "c") (sign semicolon done)} {b = word (codes "d") (sign semicolon done)} false refl (whole (first_of_sum read_b)) (ended {a = word (codes "c") done} refl (whole (first_of_sum read_c))) (ended {a = word (codes "d") done} refl (whole (first_of_sum read_d)))))))),
)

pub else_within_label : IsRead (codes "if(a)b:if(c)d;else e;") (samples.module_of (more (samples.if_of samples.a (statements.labelled (codes "b") (samples.if_of samples.c (samples.statement_of samples.d) (given (samples.statement_of samples.e)))) absent) no_trees))
unfolding unicode_ident longer_stands word_value
else_within_label = (
  word (codes "if") (group false Round (word (codes "a") done) (word (codes "b") (sign colon (word (codes "if") (group false Round (word (codes "c") done) (word (codes "d") (sign semicolon (word (codes "else") (word (codes "e") (sign semicolon done)))))))))),
  ([], codes "(a)b:if(c)d;else e;", refl, refl, refl, refl, refl, ([], codes "a", codes "b:if(c)d;else e;", refl, refl, refl, ([], [], refl, refl, refl, refl, refl, refl), ([], codes ":if(c)d;else e;", refl, refl, refl, refl, refl, ([], codes "if(c)d;else e;", refl, refl, refl, refl, refl, ([], codes "(c)d;else e;", refl, refl, refl, refl, refl, ([], codes "c", codes "d;else e;", refl, refl, refl, ([], [], refl, refl, refl, refl, refl, refl), ([], codes ";else e;", refl, refl, refl, refl, refl, ([], codes "else e;", refl, refl, refl, refl, refl, ([], codes " e;", refl, refl, refl, refl, refl, (codes " ", codes ";", refl, refl, refl, refl, refl, ([], [], refl, refl, refl, refl, refl, refl))))))))))),
  undirected refl (grammar.last_statement (grammar.a_statement (grammar.an_if (whole (first_of_sum read_a)) (grammar.a_labelled_statement value_b free_b (grammar.an_if_with_else {a = word (codes "d") (sign semicolon done)} {b = word (codes "e") (sign semicolon done)} false refl (whole (first_of_sum read_c)) (ended {a = word (codes "d") done} refl (whole (first_of_sum read_d))) (ended {a = word (codes "e") done} refl (whole (first_of_sum read_e)))))))),
)

pub else_behind_block : IsRead (codes "if(a){if(b)c}else d;") (samples.module_of (more (samples.if_of samples.a (samples.block_of (more (samples.if_of samples.b (samples.statement_of samples.c) absent) no_trees)) (given (samples.statement_of samples.d))) no_trees))
unfolding unicode_ident longer_stands word_value
else_behind_block = (
  word (codes "if") (group false Round (word (codes "a") done) (group false Brace (word (codes "if") (group false Round (word (codes "b") done) (word (codes "c") done))) (word (codes "else") (word (codes "d") (sign semicolon done))))),
  ([], codes "(a){if(b)c}else d;", refl, refl, refl, refl, refl, ([], codes "a", codes "{if(b)c}else d;", refl, refl, refl, ([], [], refl, refl, refl, refl, refl, refl), ([], codes "if(b)c", codes "else d;", refl, refl, refl, ([], codes "(b)c", refl, refl, refl, refl, refl, ([], codes "b", codes "c", refl, refl, refl, ([], [], refl, refl, refl, refl, refl, refl), ([], [], refl, refl, refl, refl, refl, refl))), ([], codes " d;", refl, refl, refl, refl, refl, (codes " ", codes ";", refl, refl, refl, refl, refl, ([], [], refl, refl, refl, refl, refl, refl)))))),
  undirected refl (grammar.last_statement (grammar.a_statement (grammar.an_if_with_else {a = group false Brace (word (codes "if") (group false Round (word (codes "b") done) (word (codes "c") done))) done} {b = word (codes "d") (sign semicolon done)} false refl (whole (first_of_sum read_a)) (grammar.a_block (grammar.last_statement (grammar.a_statement (grammar.an_if (whole (first_of_sum read_b)) (grammar.an_expression_statement grammar.the_brace refl (whole (first_of_sum read_c))))))) (ended {a = word (codes "d") done} refl (whole (first_of_sum read_d)))))),
)

pub else_behind_while : IsRead (codes "if(a)while(b){if(c)d;}else e;") (samples.module_of (more (samples.if_of samples.a (statements.while_of samples.b (samples.block_of (more (samples.if_of samples.c (samples.statement_of samples.d) absent) no_trees))) (given (samples.statement_of samples.e))) no_trees))
unfolding unicode_ident longer_stands word_value
else_behind_while = (
  word (codes "if") (group false Round (word (codes "a") done) (word (codes "while") (group false Round (word (codes "b") done) (group false Brace (word (codes "if") (group false Round (word (codes "c") done) (word (codes "d") (sign semicolon done)))) (word (codes "else") (word (codes "e") (sign semicolon done))))))),
  ([], codes "(a)while(b){if(c)d;}else e;", refl, refl, refl, refl, refl, ([], codes "a", codes "while(b){if(c)d;}else e;", refl, refl, refl, ([], [], refl, refl, refl, refl, refl, refl), ([], codes "(b){if(c)d;}else e;", refl, refl, refl, refl, refl, ([], codes "b", codes "{if(c)d;}else e;", refl, refl, refl, ([], [], refl, refl, refl, refl, refl, refl), ([], codes "if(c)d;", codes "else e;", refl, refl, refl, ([], codes "(c)d;", refl, refl, refl, refl, refl, ([], codes "c", codes "d;", refl, refl, refl, ([], [], refl, refl, refl, refl, refl, refl), ([], codes ";", refl, refl, refl, refl, refl, ([], [], refl, refl, refl, refl, refl, refl)))), ([], codes " e;", refl, refl, refl, refl, refl, (codes " ", codes ";", refl, refl, refl, refl, refl, ([], [], refl, refl, refl, refl, refl, refl)))))))),
  undirected refl (grammar.last_statement (grammar.a_statement (grammar.an_if_with_else {a = word (codes "while") (group false Round (word (codes "b") done) (group false Brace (word (codes "if") (group false Round (word (codes "c") done) (word (codes "d") (sign semicolon done)))) done))} {b = word (codes "e") (sign semicolon done)} false refl (whole (first_of_sum read_a)) (grammar.a_while (whole (first_of_sum read_b)) (grammar.a_block (grammar.last_statement (grammar.a_statement (grammar.an_if (whole (first_of_sum read_c)) (ended {a = word (codes "d") done} refl (whole (first_of_sum read_d)))))))) (ended {a = word (codes "e") done} refl (whole (first_of_sum read_e)))))),
)

pub else_behind_do : IsRead (codes "if(a)do if(b)c;while(d);else e;") (samples.module_of (more (samples.if_of samples.a (statements.do_of (samples.if_of samples.b (samples.statement_of samples.c) absent) samples.d) (given (samples.statement_of samples.e))) no_trees))
unfolding unicode_ident longer_stands word_value
else_behind_do = (
  word (codes "if") (group false Round (word (codes "a") done) (word (codes "do") (word (codes "if") (group false Round (word (codes "b") done) (word (codes "c") (sign semicolon (word (codes "while") (group false Round (word (codes "d") done) (sign semicolon (word (codes "else") (word (codes "e") (sign semicolon done)))))))))))),
  ([], codes "(a)do if(b)c;while(d);else e;", refl, refl, refl, refl, refl, ([], codes "a", codes "do if(b)c;while(d);else e;", refl, refl, refl, ([], [], refl, refl, refl, refl, refl, refl), ([], codes " if(b)c;while(d);else e;", refl, refl, refl, refl, refl, (codes " ", codes "(b)c;while(d);else e;", refl, refl, refl, refl, refl, ([], codes "b", codes "c;while(d);else e;", refl, refl, refl, ([], [], refl, refl, refl, refl, refl, refl), ([], codes ";while(d);else e;", refl, refl, refl, refl, refl, ([], codes "while(d);else e;", refl, refl, refl, refl, refl, ([], codes "(d);else e;", refl, refl, refl, refl, refl, ([], codes "d", codes ";else e;", refl, refl, refl, ([], [], refl, refl, refl, refl, refl, refl), ([], codes "else e;", refl, refl, refl, refl, refl, ([], codes " e;", refl, refl, refl, refl, refl, (codes " ", codes ";", refl, refl, refl, refl, refl, ([], [], refl, refl, refl, refl, refl, refl))))))))))))),
  undirected refl (grammar.last_statement (grammar.a_statement (grammar.an_if_with_else {a = word (codes "do") (word (codes "if") (group false Round (word (codes "b") done) (word (codes "c") (sign semicolon (word (codes "while") (group false Round (word (codes "d") done) (sign semicolon done)))))))} {b = word (codes "e") (sign semicolon done)} false refl (whole (first_of_sum read_a)) (grammar.a_do_while {b = word (codes "if") (group false Round (word (codes "b") done) (word (codes "c") (sign semicolon done)))} false false (grammar.a_semicolon {a = word (codes "do") (word (codes "if") (group false Round (word (codes "b") done) (word (codes "c") (sign semicolon (word (codes "while") (group false Round (word (codes "d") done) done))))))} false refl) refl (grammar.an_if (whole (first_of_sum read_b)) (ended {a = word (codes "c") done} refl (whole (first_of_sum read_c)))) (whole (first_of_sum read_d))) (ended {a = word (codes "e") done} refl (whole (first_of_sum read_e)))))),
)

pub statement_behind_do : IsRead (codes "do a;while(b);c;") (samples.module_of (more (statements.do_of (samples.statement_of samples.a) samples.b) (more (samples.statement_of samples.c) no_trees)))
unfolding unicode_ident longer_stands word_value
statement_behind_do = (
  word (codes "do") (word (codes "a") (sign semicolon (word (codes "while") (group false Round (word (codes "b") done) (sign semicolon (word (codes "c") (sign semicolon done))))))),
  ([], codes " a;while(b);c;", refl, refl, refl, refl, refl, (codes " ", codes ";while(b);c;", refl, refl, refl, refl, refl, ([], codes "while(b);c;", refl, refl, refl, refl, refl, ([], codes "(b);c;", refl, refl, refl, refl, refl, ([], codes "b", codes ";c;", refl, refl, refl, ([], [], refl, refl, refl, refl, refl, refl), ([], codes "c;", refl, refl, refl, refl, refl, ([], codes ";", refl, refl, refl, refl, refl, ([], [], refl, refl, refl, refl, refl, refl)))))))),
  undirected refl (grammar.first_statement {a = word (codes "do") (word (codes "a") (sign semicolon (word (codes "while") (group false Round (word (codes "b") done) (sign semicolon done)))))} {b = word (codes "c") (sign semicolon done)} refl (grammar.a_statement (grammar.a_do_while {b = word (codes "a") (sign semicolon done)} false false (grammar.a_semicolon {a = word (codes "do") (word (codes "a") (sign semicolon (word (codes "while") (group false Round (word (codes "b") done) done))))} false refl) refl (ended {a = word (codes "a") done} refl (whole (first_of_sum read_a))) (whole (first_of_sum read_b)))) (grammar.last_statement (item {a = word (codes "c") done} refl (whole (first_of_sum read_c))))),
)

pub do_before_brace : IsRead (codes "{do a;while(b)}") (samples.module_of (more (samples.block_of (more (statements.do_of (samples.statement_of samples.a) samples.b) no_trees)) no_trees))
unfolding unicode_ident longer_stands word_value
do_before_brace = (
  group false Brace (word (codes "do") (word (codes "a") (sign semicolon (word (codes "while") (group false Round (word (codes "b") done) done))))) done,
  ([], codes "do a;while(b)", [], refl, refl, refl, ([], codes " a;while(b)", refl, refl, refl, refl, refl, (codes " ", codes ";while(b)", refl, refl, refl, refl, refl, ([], codes "while(b)", refl, refl, refl, refl, refl, ([], codes "(b)", refl, refl, refl, refl, refl, ([], codes "b", [], refl, refl, refl, ([], [], refl, refl, refl, refl, refl, refl), refl))))), refl),
  undirected refl (grammar.last_statement (grammar.a_statement (grammar.a_block (grammar.last_statement (grammar.a_statement (grammar.a_do_while {b = word (codes "a") (sign semicolon done)} false false grammar.the_brace refl (ended {a = word (codes "a") done} refl (whole (first_of_sum read_a))) (whole (first_of_sum read_b)))))))),
)

pub update_behind_semicolon : IsRead (codes "{a;++b}") (samples.module_of (more (samples.block_of (more (samples.statement_of samples.a) (more (samples.statement_of (samples.incremented_before samples.b)) no_trees))) no_trees))
unfolding unicode_ident longer_stands word_value
update_behind_semicolon = (
  group false Brace (word (codes "a") (sign semicolon (sign plus_plus (word (codes "b") done)))) done,
  ([], codes "a;++b", [], refl, refl, refl, ([], codes ";++b", refl, refl, refl, refl, refl, ([], codes "++b", refl, refl, refl, refl, refl, ([], codes "b", refl, refl, refl, refl, refl, ([], [], refl, refl, refl, refl, refl, refl)))), refl),
  undirected refl (grammar.last_statement (grammar.a_statement (grammar.a_block (grammar.first_statement {a = word (codes "a") (sign semicolon done)} {b = sign plus_plus (word (codes "b") done)} refl (item {a = word (codes "a") done} refl (whole (first_of_sum read_a))) (grammar.last_statement (grammar.a_statement (grammar.an_expression_statement grammar.the_brace refl (of_unary (grammar.an_update (grammar.an_update_before Increment (grammar.an_update (update read_b)) refl)))))))))),
)
