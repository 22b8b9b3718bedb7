-- Loops, labels, jumps, choices between cases and handlers that are read.
use Rattle.std.proofs.Common.{◌≡◌, ℕ, Bool, true, false, Some, List, [], codes, refl}
use Rattle.unicode_ident.proofs.Computing.{unicode_ident}
use Rattle.jsgen_syntax.specs.Escapes.{word_value}
use Rattle.jsgen_syntax.specs.Name.{is_free_name}
use Rattle.jsgen_tree.specs.declared.statements.VariableDeclarationKind.{VariableDeclarationKind}
use Rattle.jsgen_tree.specs.declared.statements.VariableDeclarationKind.TheVariants.{Const, Let, Var}
use Rattle.jsgen_tree.specs.Tree.{Tree, absent, given, no_trees, more}
use Rattle.jsgen_tree.specs.Nodes as tree
use Rattle.jsgen_model.specs.Normal.{unnumbered}
use Rattle.jsgen_model.specs.Punctuator.{colon, semicolon, Round, Brace}
use Rattle.jsgen_model.specs.Tokens.{Tokens, done, piece, group, Word, longer_stands}
use Rattle.jsgen_model.specs.Grammar.{Allowed, LeftHandSide, Primary, declaring, ReadsExpression, ReadsVariables}
use Rattle.jsgen_model.specs.Grammar as grammar
use Rattle.jsgen_oracle.specs.Samples.{IsRead}
use Rattle.jsgen_oracle.specs.Samples as samples
use Rattle.jsgen_oracle.specs.StatementSamples as statements
use Rattle.jsgen_oracle.proofs.Samples.{whole, first_of_sum, value, undirected, ended, item, word, sign, value_a, value_b, free_a, free_b, read_a, read_b, read_c}

target : {c : Allowed} {ts : Tokens} {t : Tree} → ReadsExpression c Primary ts t → ReadsExpression c LeftHandSide ts t
target r = grammar.a_new (grammar.a_member (grammar.a_primary r))

one_name : {c : Allowed} {kind : VariableDeclarationKind} {mark next : Bool} {w v : List ℕ} → word_value w ≡ Some v → is_free_name v ≡ true → ReadsVariables c kind (piece mark (Word (declaring kind)) (piece next (Word w) done)) (statements.declaration_of kind v)
one_name e h = grammar.some_variables (grammar.last_declarator (grammar.without_value e h))

pub let_declaration : IsRead (codes "let a;") (samples.module_of (more (statements.declaration_of Let (codes "a")) no_trees))
unfolding unicode_ident longer_stands word_value
let_declaration = (
  word (codes "let") (word (codes "a") (sign semicolon done)),
  ([], codes " a;", refl, refl, refl, refl, refl, (codes " ", codes ";", refl, refl, refl, refl, refl, ([], [], refl, refl, refl, refl, refl, refl))),
  undirected refl (grammar.last_statement (grammar.a_declaration Let refl (grammar.a_semicolon {a = word (codes "let") (word (codes "a") done)} false refl) (one_name value_a free_a))),
)

pub var_behind_if : IsRead (codes "if(a)var b;") (samples.module_of (more (samples.if_of samples.a (statements.declaration_of Var (codes "b")) absent) no_trees))
unfolding unicode_ident longer_stands word_value
var_behind_if = (
  word (codes "if") (group false Round (word (codes "a") done) (word (codes "var") (word (codes "b") (sign semicolon done)))),
  ([], codes "(a)var b;", refl, refl, refl, refl, refl, ([], codes "a", codes "var b;", refl, refl, refl, ([], [], refl, refl, refl, refl, refl, refl), ([], codes " b;", refl, refl, refl, refl, refl, (codes " ", codes ";", refl, refl, refl, refl, refl, ([], [], refl, refl, refl, refl, refl, refl))))),
  undirected refl (grammar.last_statement (grammar.a_statement (grammar.an_if (whole (first_of_sum read_a)) (grammar.a_variable_statement (grammar.a_semicolon {a = word (codes "var") (word (codes "b") done)} false refl) (one_name value_b free_b))))),
)

pub endless_loop : IsRead (codes "for(;;);") (samples.module_of (more (statements.for_of_parts absent absent absent samples.empty) no_trees))
unfolding unicode_ident longer_stands word_value
endless_loop = (
  word (codes "for") (group false Round (sign semicolon (sign semicolon done)) (sign semicolon done)),
  ([], codes "(;;);", refl, refl, refl, refl, refl, ([], codes ";;", codes ";", refl, refl, refl, ([], codes ";", refl, refl, refl, refl, refl, ([], [], refl, refl, refl, refl, refl, refl)), ([], [], refl, refl, refl, refl, refl, refl))),
  undirected refl (grammar.last_statement (grammar.a_statement (grammar.a_for {a = done} {b = done} {d = done} false false refl grammar.no_init grammar.nothing_there grammar.nothing_there grammar.an_empty_statement))),
)

pub loop_with_declaration : IsRead (codes "for(let a;b;c)a;") (samples.module_of (more (statements.for_of_parts (given (statements.declaration_of Let (codes "a"))) (given samples.b) (given samples.c) (samples.statement_of samples.a)) no_trees))
unfolding unicode_ident longer_stands word_value
loop_with_declaration = (
  word (codes "for") (group false Round (word (codes "let") (word (codes "a") (sign semicolon (word (codes "b") (sign semicolon (word (codes "c") done)))))) (word (codes "a") (sign semicolon done))),
  ([], codes "(let a;b;c)a;", refl, refl, refl, refl, refl, ([], codes "let a;b;c", codes "a;", refl, refl, refl, ([], codes " a;b;c", refl, refl, refl, refl, refl, (codes " ", codes ";b;c", refl, refl, refl, refl, refl, ([], codes "b;c", refl, refl, refl, refl, refl, ([], codes ";c", refl, refl, refl, refl, refl, ([], codes "c", refl, refl, refl, refl, refl, ([], [], refl, refl, refl, refl, refl, refl)))))), ([], codes ";", refl, refl, refl, refl, refl, ([], [], refl, refl, refl, refl, refl, refl)))),
  undirected refl (grammar.last_statement (grammar.a_statement (grammar.a_for {a = word (codes "let") (word (codes "a") done)} {b = word (codes "b") done} {d = word (codes "c") done} false false refl (grammar.first_variables Let (one_name value_a free_a)) (grammar.an_expression_there (whole (first_of_sum read_b))) (grammar.an_expression_there (whole (first_of_sum read_c))) (ended {a = word (codes "a") done} refl (whole (first_of_sum read_a)))))),
)

pub loop_over_keys : IsRead (codes "for(a in b)c;") (samples.module_of (more (statements.over_keys samples.a samples.b (samples.statement_of samples.c)) no_trees))
unfolding unicode_ident longer_stands word_value
loop_over_keys = (
  word (codes "for") (group false Round (word (codes "a") (word (codes "in") (word (codes "b") done))) (word (codes "c") (sign semicolon done))),
  ([], codes "(a in b)c;", refl, refl, refl, refl, refl, ([], codes "a in b", codes "c;", refl, refl, refl, ([], codes " in b", refl, refl, refl, refl, refl, (codes " ", codes " b", refl, refl, refl, refl, refl, (codes " ", [], refl, refl, refl, refl, refl, refl))), ([], codes ";", refl, refl, refl, refl, refl, ([], [], refl, refl, refl, refl, refl, refl)))),
  undirected refl (grammar.last_statement (grammar.a_statement (grammar.a_for_in {a = word (codes "a") done} {b = word (codes "b") done} false refl (grammar.a_target refl (target read_a) refl) (whole (first_of_sum read_b)) (ended {a = word (codes "c") done} refl (whole (first_of_sum read_c)))))),
)

pub loop_over_values : IsRead (codes "for(const a of b)c;") (samples.module_of (more (statements.over_values (statements.declaration_of Const (codes "a")) samples.b (samples.statement_of samples.c)) no_trees))
unfolding unicode_ident longer_stands word_value
loop_over_values = (
  word (codes "for") (group false Round (word (codes "const") (word (codes "a") (word (codes "of") (word (codes "b") done)))) (word (codes "c") (sign semicolon done))),
  ([], codes "(const a of b)c;", refl, refl, refl, refl, refl, ([], codes "const a of b", codes "c;", refl, refl, refl, ([], codes " a of b", refl, refl, refl, refl, refl, (codes " ", codes " of b", refl, refl, refl, refl, refl, (codes " ", codes " b", refl, refl, refl, refl, refl, (codes " ", [], refl, refl, refl, refl, refl, refl)))), ([], codes ";", refl, refl, refl, refl, refl, ([], [], refl, refl, refl, refl, refl, refl)))),
  undirected refl (grammar.last_statement (grammar.a_statement (grammar.a_for_of {a = word (codes "const") (word (codes "a") done)} {b = word (codes "b") done} false refl (grammar.a_declared_name Const (grammar.a_bound_name value_a free_a)) (value (first_of_sum read_b)) (ended {a = word (codes "c") done} refl (whole (first_of_sum read_c)))))),
)

pub while_loop : IsRead (codes "while(a)b;") (samples.module_of (more (statements.while_of samples.a (samples.statement_of samples.b)) no_trees))
unfolding unicode_ident longer_stands word_value
while_loop = (
  word (codes "while") (group false Round (word (codes "a") done) (word (codes "b") (sign semicolon done))),
  ([], codes "(a)b;", refl, refl, refl, refl, refl, ([], codes "a", codes "b;", refl, refl, refl, ([], [], refl, refl, refl, refl, refl, refl), ([], codes ";", refl, refl, refl, refl, refl, ([], [], refl, refl, refl, refl, refl, refl)))),
  undirected refl (grammar.last_statement (grammar.a_statement (grammar.a_while (whole (first_of_sum read_a)) (ended {a = word (codes "b") done} refl (whole (first_of_sum read_b)))))),
)

pub do_loop : IsRead (codes "do a;while(b);") (samples.module_of (more (statements.do_of (samples.statement_of samples.a) samples.b) no_trees))
unfolding unicode_ident longer_stands word_value
do_loop = (
  word (codes "do") (word (codes "a") (sign semicolon (word (codes "while") (group false Round (word (codes "b") done) (sign semicolon done))))),
  ([], codes " a;while(b);", refl, refl, refl, refl, refl, (codes " ", codes ";while(b);", refl, refl, refl, refl, refl, ([], codes "while(b);", refl, refl, refl, refl, refl, ([], codes "(b);", refl, refl, refl, refl, refl, ([], codes "b", codes ";", refl, refl, refl, ([], [], refl, refl, refl, refl, refl, refl), ([], [], refl, refl, refl, refl, refl, refl)))))),
  undirected refl (grammar.last_statement (grammar.a_statement (grammar.a_do_while {b = word (codes "a") (sign semicolon done)} false false (grammar.a_semicolon {a = word (codes "do") (word (codes "a") (sign semicolon (word (codes "while") (group false Round (word (codes "b") done) done))))} false refl) refl (ended {a = word (codes "a") done} refl (whole (first_of_sum read_a))) (whole (first_of_sum read_b))))),
)

pub label_and_jump : IsRead (codes "a:break a;") (samples.module_of (more (statements.labelled (codes "a") (statements.break_of (given (statements.label_of (codes "a"))))) no_trees))
unfolding unicode_ident longer_stands word_value
label_and_jump = (
  word (codes "a") (sign colon (word (codes "break") (word (codes "a") (sign semicolon done)))),
  ([], codes ":break a;", refl, refl, refl, refl, refl, ([], codes "break a;", refl, refl, refl, refl, refl, ([], codes " a;", refl, refl, refl, refl, refl, (codes " ", codes ";", refl, refl, refl, refl, refl, ([], [], refl, refl, refl, refl, refl, refl))))),
  undirected refl (grammar.last_statement (grammar.a_statement (grammar.a_labelled_statement value_a free_a (grammar.a_break {a = word (codes "a") done} (grammar.a_semicolon {a = word (codes "break") (word (codes "a") done)} false refl) (grammar.a_label value_a free_a))))),
)

pub jump_without_label : IsRead (codes "continue;") (samples.module_of (more (statements.continue_of absent) no_trees))
unfolding unicode_ident longer_stands word_value
jump_without_label = (
  word (codes "continue") (sign semicolon done),
  ([], codes ";", refl, refl, refl, refl, refl, ([], [], refl, refl, refl, refl, refl, refl)),
  undirected refl (grammar.last_statement (grammar.a_statement (grammar.a_continue {a = done} (grammar.a_semicolon {a = word (codes "continue") done} false refl) grammar.no_label))),
)

pub thrown : IsRead (codes "throw a;") (samples.module_of (more (statements.throw_of samples.a) no_trees))
unfolding unicode_ident longer_stands word_value
thrown = (
  word (codes "throw") (word (codes "a") (sign semicolon done)),
  ([], codes " a;", refl, refl, refl, refl, refl, (codes " ", codes ";", refl, refl, refl, refl, refl, ([], [], refl, refl, refl, refl, refl, refl))),
  undirected refl (grammar.last_statement (grammar.a_statement (grammar.a_throw {a = word (codes "a") done} (grammar.a_semicolon {a = word (codes "throw") (word (codes "a") done)} false refl) refl (whole (first_of_sum read_a))))),
)

pub debugger_alone : IsRead (codes "debugger;") (samples.module_of (more (statements.debugger) no_trees))
unfolding unicode_ident longer_stands word_value
debugger_alone = (
  word (codes "debugger") (sign semicolon done),
  ([], codes ";", refl, refl, refl, refl, refl, ([], [], refl, refl, refl, refl, refl, refl)),
  undirected refl (grammar.last_statement (grammar.a_statement (grammar.a_debugger (grammar.a_semicolon {a = word (codes "debugger") done} false refl)))),
)

pub cases : IsRead (codes "switch(a){case b:c;default:}") (samples.module_of (more (statements.switch_of samples.a (more (statements.case_of (given samples.b) (more (samples.statement_of samples.c) no_trees)) (more (statements.case_of absent no_trees) no_trees))) no_trees))
unfolding unicode_ident longer_stands word_value
cases = (
  word (codes "switch") (group false Round (word (codes "a") done) (group false Brace (word (codes "case") (word (codes "b") (sign colon (word (codes "c") (sign semicolon (word (codes "default") (sign colon done))))))) done)),
  ([], codes "(a){case b:c;default:}", refl, refl, refl, refl, refl, ([], codes "a", codes "{case b:c;default:}", refl, refl, refl, ([], [], refl, refl, refl, refl, refl, refl), ([], codes "case b:c;default:", [], refl, refl, refl, ([], codes " b:c;default:", refl, refl, refl, refl, refl, (codes " ", codes ":c;default:", refl, refl, refl, refl, refl, ([], codes "c;default:", refl, refl, refl, refl, refl, ([], codes ";default:", refl, refl, refl, refl, refl, ([], codes "default:", refl, refl, refl, refl, refl, ([], codes ":", refl, refl, refl, refl, refl, ([], [], refl, refl, refl, refl, refl, refl))))))), refl))),
  undirected refl (grammar.last_statement (grammar.a_statement (grammar.a_switch (whole (first_of_sum read_a)) (grammar.first_case {a = word (codes "case") (word (codes "b") (sign colon (word (codes "c") (sign semicolon done))))} {b = word (codes "default") (sign colon done)} refl (grammar.a_case {a = word (codes "b") done} {b = word (codes "c") (sign semicolon done)} false refl (whole (first_of_sum read_b)) (grammar.last_statement (item {a = word (codes "c") done} refl (whole (first_of_sum read_c))))) (grammar.last_case (grammar.a_default grammar.no_statement)))))),
)

pub handler_and_finalizer : IsRead (codes "try{}catch(a){}finally{}") (samples.module_of (more (statements.try_of (given (statements.catch_of (given (tree.binding_identifier (unnumbered (codes "a")))))) (given (samples.block_of no_trees))) no_trees))
unfolding unicode_ident longer_stands word_value
handler_and_finalizer = (
  word (codes "try") (group false Brace done (word (codes "catch") (group false Round (word (codes "a") done) (group false Brace done (word (codes "finally") (group false Brace done done)))))),
  ([], codes "{}catch(a){}finally{}", refl, refl, refl, refl, refl, ([], [], codes "catch(a){}finally{}", refl, refl, refl, refl, ([], codes "(a){}finally{}", refl, refl, refl, refl, refl, ([], codes "a", codes "{}finally{}", refl, refl, refl, ([], [], refl, refl, refl, refl, refl, refl), ([], [], codes "finally{}", refl, refl, refl, refl, ([], codes "{}", refl, refl, refl, refl, refl, ([], [], [], refl, refl, refl, refl, refl))))))),
  undirected refl (grammar.last_statement (grammar.a_statement (grammar.a_try grammar.no_statement (grammar.a_handler_and_a_finalizer {a = word (codes "catch") (group false Round (word (codes "a") done) (group false Brace done done))} {b = word (codes "finally") (group false Brace done done)} refl (grammar.a_catch_by_name (grammar.a_bound_name value_a free_a) grammar.no_statement) (grammar.a_finally grammar.no_statement))))),
)

pub handler_without_name : IsRead (codes "try{}catch{}") (samples.module_of (more (statements.try_of (given (statements.catch_of absent)) absent) no_trees))
unfolding unicode_ident longer_stands word_value
handler_without_name = (
  word (codes "try") (group false Brace done (word (codes "catch") (group false Brace done done))),
  ([], codes "{}catch{}", refl, refl, refl, refl, refl, ([], [], codes "catch{}", refl, refl, refl, refl, ([], codes "{}", refl, refl, refl, refl, refl, ([], [], [], refl, refl, refl, refl, refl)))),
  undirected refl (grammar.last_statement (grammar.a_statement (grammar.a_try grammar.no_statement (grammar.a_handler (grammar.a_catch grammar.no_statement))))),
)
