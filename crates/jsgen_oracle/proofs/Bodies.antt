-- Functions, methods and accessors that are read.
use Rattle.std.proofs.Common.{◌≡◌, true, false, Some, [], codes, refl}
use lib.Utf8.{encode}
use Rattle.unicode_ident.proofs.Computing.{unicode_ident}
use Rattle.jsgen_syntax.specs.Escapes.{word_value}
use Rattle.jsgen_syntax.specs.Name.{is_reserved, is_strict_reserved, is_free_name}
use Rattle.jsgen_syntax.specs.Strings.{string_value}
use Rattle.jsgen_syntax.specs.declared.quote.Quote.TheVariants.{Double}
use Rattle.jsgen_syntax.specs.declared.operator.AssignmentOperator.TheVariants.{Assign}
use Rattle.jsgen_tree.specs.declared.collections.PropertyKind.TheVariants.{Init, Get, Set}
use Rattle.jsgen_tree.specs.declared.functions.FunctionKind.TheVariants.{Declaration, Expression}
use Rattle.jsgen_tree.specs.Tree.{Tree, absent, given, no_trees, more}
use Rattle.jsgen_model.specs.Numbers.{spells_number}
use Rattle.jsgen_model.specs.Punctuator.{comma, ellipsis, equal, arrow, semicolon, Round, Square, Brace}
use Rattle.jsgen_model.specs.Tokens.{Tokens, done, piece, group, Number, Quoted, longer_stands, longer_number_stands}
use Rattle.jsgen_model.specs.Grammar.{Allowed, ReadsStatement, ReadsBody, in_body, starts_with_directive}
use Rattle.jsgen_model.specs.Grammar as grammar
use Rattle.jsgen_oracle.specs.Samples.{IsRead}
use Rattle.jsgen_oracle.specs.Samples as samples
use Rattle.jsgen_oracle.specs.FunctionSamples as functions
use Rattle.jsgen_oracle.proofs.Samples.{whole, first_of_sum, value, of_left, undirected, item, word, sign, value_a, value_b, value_c, value_d, free_a, free_b, free_c, free_d, read_a, read_b}
use Rattle.jsgen_oracle.proofs.Functions.{read_declaration, read_function, read_arrow_with_body, read_method, read_getter, read_setter}

free_f : is_free_name (codes "f") ≡ true
unfolding unicode_ident is_reserved is_strict_reserved encode
free_f = refl

value_f : word_value (codes "f") ≡ Some (codes "f")
unfolding word_value
value_f = refl

-- a body without statements, and one with a statement alone
no_statements : {c : Allowed} → ReadsBody c true done no_trees no_trees
no_statements = grammar.statements refl grammar.no_statement

last_of : {ts : Tokens} {s : Tree} → starts_with_directive ts ≡ false → ReadsStatement (in_body false false) true false ts s → ReadsBody (in_body false false) true ts no_trees (more s no_trees)
last_of n r = grammar.statements n (grammar.last_statement (grammar.a_statement r))

pub declaration : IsRead (codes "function f(){}") (samples.module_of (more (functions.function_with Declaration (functions.name_of (codes "f")) functions.no_parameters samples.empty_body) no_trees))
unfolding unicode_ident longer_stands word_value
declaration = (
  word (codes "function") (word (codes "f") (group false Round done (group false Brace done done))),
  ([], codes " f(){}", refl, refl, refl, refl, refl, (codes " ", codes "(){}", refl, refl, refl, refl, refl, ([], [], codes "{}", refl, refl, refl, refl, ([], [], [], refl, refl, refl, refl, refl)))),
  undirected refl (grammar.last_statement (read_declaration (grammar.a_named_function value_f free_f grammar.no_parameter no_statements))),
)

pub parameters : IsRead (codes "function f(a,b=1,...c){return a}") (samples.module_of (more (functions.function_with Declaration (functions.name_of (codes "f")) (samples.parameters_of (more (samples.parameter (codes "a") absent) (more (samples.parameter (codes "b") (given samples.one)) no_trees)) (given (samples.rest_in (codes "c")))) (functions.body_with (more (samples.return_of (given samples.a)) no_trees))) no_trees))
unfolding unicode_ident longer_stands longer_number_stands spells_number word_value
parameters = (
  word (codes "function") (word (codes "f") (group false Round (word (codes "a") (sign comma (word (codes "b") (sign equal (piece false (Number (codes "1")) (sign comma (sign ellipsis (word (codes "c") done)))))))) (group false Brace (word (codes "return") (word (codes "a") done)) done))),
  ([], codes " f(a,b=1,...c){return a}", refl, refl, refl, refl, refl, (codes " ", codes "(a,b=1,...c){return a}", refl, refl, refl, refl, refl, ([], codes "a,b=1,...c", codes "{return a}", refl, refl, refl, ([], codes ",b=1,...c", refl, refl, refl, refl, refl, ([], codes "b=1,...c", refl, refl, refl, refl, refl, ([], codes "=1,...c", refl, refl, refl, refl, refl, ([], codes "1,...c", refl, refl, refl, refl, refl, ([], codes ",...c", refl, refl, refl, refl, refl, ([], codes "...c", refl, refl, refl, refl, refl, ([], codes "c", refl, refl, refl, refl, refl, ([], [], refl, refl, refl, refl, refl, refl)))))))), ([], codes "return a", [], refl, refl, refl, ([], codes " a", refl, refl, refl, refl, refl, (codes " ", [], refl, refl, refl, refl, refl, refl)), refl)))),
  undirected refl (grammar.last_statement (read_declaration (grammar.a_named_function value_f free_f (grammar.first_parameter {a = word (codes "a") done} {b = word (codes "b") (sign equal (piece false (Number (codes "1")) (sign comma (sign ellipsis (word (codes "c") done)))))} false refl (grammar.a_parameter (grammar.a_bound_name value_a free_a)) (grammar.first_parameter {a = word (codes "b") (sign equal (piece false (Number (codes "1")) done))} {b = sign ellipsis (word (codes "c") done)} false refl (grammar.with_initializer {a = word (codes "b") done} {v = piece false (Number (codes "1")) done} false refl (grammar.a_bound_name value_b free_b) (value (first_of_sum (grammar.a_number refl)))) (grammar.a_rest (grammar.a_bound_name value_c free_c)))) (last_of refl (grammar.a_return {a = word (codes "a") done} refl grammar.the_brace (grammar.a_returned_value refl (whole (first_of_sum read_a)))))))),
)

pub comma_behind_parameters : IsRead (codes "function f(a,){}") (samples.module_of (more (functions.function_with Declaration (functions.name_of (codes "f")) (samples.one_parameter (codes "a")) samples.empty_body) no_trees))
unfolding unicode_ident longer_stands word_value
comma_behind_parameters = (
  word (codes "function") (word (codes "f") (group false Round (word (codes "a") (sign comma done)) (group false Brace done done))),
  ([], codes " f(a,){}", refl, refl, refl, refl, refl, (codes " ", codes "(a,){}", refl, refl, refl, refl, refl, ([], codes "a,", codes "{}", refl, refl, refl, ([], codes ",", refl, refl, refl, refl, refl, ([], [], refl, refl, refl, refl, refl, refl)), ([], [], [], refl, refl, refl, refl, refl)))),
  undirected refl (grammar.last_statement (read_declaration (grammar.a_named_function value_f free_f (grammar.first_parameter {a = word (codes "a") done} {b = done} false refl (grammar.a_parameter (grammar.a_bound_name value_a free_a)) grammar.no_parameter) no_statements))),
)

pub declaration_and_statement : IsRead (codes "function f(){}a;") (samples.module_of (more (functions.function_with Declaration (functions.name_of (codes "f")) functions.no_parameters samples.empty_body) (more (samples.statement_of samples.a) no_trees)))
unfolding unicode_ident longer_stands word_value
declaration_and_statement = (
  word (codes "function") (word (codes "f") (group false Round done (group false Brace done (word (codes "a") (sign semicolon done))))),
  ([], codes " f(){}a;", refl, refl, refl, refl, refl, (codes " ", codes "(){}a;", refl, refl, refl, refl, refl, ([], [], codes "{}a;", refl, refl, refl, refl, ([], [], codes "a;", refl, refl, refl, refl, ([], codes ";", refl, refl, refl, refl, refl, ([], [], refl, refl, refl, refl, refl, refl)))))),
  undirected refl (grammar.first_statement {a = word (codes "function") (word (codes "f") (group false Round done (group false Brace done done)))} {b = word (codes "a") (sign semicolon done)} refl (read_declaration (grammar.a_named_function value_f free_f grammar.no_parameter no_statements)) (grammar.last_statement (item {a = word (codes "a") done} refl (whole (first_of_sum read_a))))),
)

pub declaration_in_block : IsRead (codes "{function f(){}}") (samples.module_of (more (samples.block_of (more (functions.function_with Declaration (functions.name_of (codes "f")) functions.no_parameters samples.empty_body) no_trees)) no_trees))
unfolding unicode_ident longer_stands word_value
declaration_in_block = (
  group false Brace (word (codes "function") (word (codes "f") (group false Round done (group false Brace done done)))) done,
  ([], codes "function f(){}", [], refl, refl, refl, ([], codes " f(){}", refl, refl, refl, refl, refl, (codes " ", codes "(){}", refl, refl, refl, refl, refl, ([], [], codes "{}", refl, refl, refl, refl, ([], [], [], refl, refl, refl, refl, refl)))), refl),
  undirected refl (grammar.last_statement (grammar.a_statement (grammar.a_block (grammar.last_statement (read_declaration (grammar.a_named_function value_f free_f grammar.no_parameter no_statements)))))),
)

pub declaration_in_body : IsRead (codes "function f(){function a(){}}") (samples.module_of (more (functions.function_with Declaration (functions.name_of (codes "f")) functions.no_parameters (functions.body_with (more (functions.function_with Declaration (functions.name_of (codes "a")) functions.no_parameters samples.empty_body) no_trees))) no_trees))
unfolding unicode_ident longer_stands word_value
declaration_in_body = (
  word (codes "function") (word (codes "f") (group false Round done (group false Brace (word (codes "function") (word (codes "a") (group false Round done (group false Brace done done)))) done))),
  ([], codes " f(){function a(){}}", refl, refl, refl, refl, refl, (codes " ", codes "(){function a(){}}", refl, refl, refl, refl, refl, ([], [], codes "{function a(){}}", refl, refl, refl, refl, ([], codes "function a(){}", [], refl, refl, refl, ([], codes " a(){}", refl, refl, refl, refl, refl, (codes " ", codes "(){}", refl, refl, refl, refl, refl, ([], [], codes "{}", refl, refl, refl, refl, ([], [], [], refl, refl, refl, refl, refl)))), refl)))),
  undirected refl (grammar.last_statement (read_declaration (grammar.a_named_function value_f free_f grammar.no_parameter (grammar.statements refl (grammar.last_statement (read_declaration (grammar.a_named_function value_a free_a grammar.no_parameter no_statements))))))),
)

pub nameless : IsRead (codes "(function(){});") (samples.module_of (more (samples.statement_of (samples.in_parentheses (functions.function_with Expression absent functions.no_parameters samples.empty_body))) no_trees))
unfolding unicode_ident longer_stands word_value
nameless = (
  group false Round (word (codes "function") (group false Round done (group false Brace done done))) (sign semicolon done),
  ([], codes "function(){}", codes ";", refl, refl, refl, ([], codes "(){}", refl, refl, refl, refl, refl, ([], [], codes "{}", refl, refl, refl, refl, ([], [], [], refl, refl, refl, refl, refl))), ([], [], refl, refl, refl, refl, refl, refl)),
  undirected refl (grammar.last_statement (item {a = group false Round (word (codes "function") (group false Round done (group false Brace done done))) done} refl (whole (first_of_sum (grammar.in_parentheses (whole (first_of_sum (read_function (grammar.a_nameless_function grammar.no_parameter no_statements))))))))),
)

pub named_in_assignment : IsRead (codes "a=function b(){};") (samples.module_of (more (samples.statement_of (samples.assignment_of samples.a (functions.function_with Expression (functions.name_of (codes "b")) functions.no_parameters samples.empty_body))) no_trees))
unfolding unicode_ident longer_stands word_value
named_in_assignment = (
  word (codes "a") (sign equal (word (codes "function") (word (codes "b") (group false Round done (group false Brace done (sign semicolon done)))))),
  ([], codes "=function b(){};", refl, refl, refl, refl, refl, ([], codes "function b(){};", refl, refl, refl, refl, refl, ([], codes " b(){};", refl, refl, refl, refl, refl, (codes " ", codes "(){};", refl, refl, refl, refl, refl, ([], [], codes "{};", refl, refl, refl, refl, ([], [], codes ";", refl, refl, refl, refl, ([], [], refl, refl, refl, refl, refl, refl))))))),
  undirected refl (grammar.last_statement (item {a = word (codes "a") (sign equal (word (codes "function") (word (codes "b") (group false Round done (group false Brace done done)))))} refl (grammar.an_assignment (grammar.an_assignment_to {a = word (codes "a") done} {b = word (codes "function") (word (codes "b") (group false Round done (group false Brace done done)))} Assign false refl (grammar.a_new (grammar.a_member (grammar.a_primary read_a))) refl (value (first_of_sum (read_function (grammar.a_named_function value_b free_b grammar.no_parameter no_statements)))) refl)))),
)

pub called : IsRead (codes "(function(){})();") (samples.module_of (more (samples.statement_of (samples.call_of (samples.in_parentheses (functions.function_with Expression absent functions.no_parameters samples.empty_body)) no_trees)) no_trees))
unfolding unicode_ident longer_stands word_value
called = (
  group false Round (word (codes "function") (group false Round done (group false Brace done done))) (group false Round done (sign semicolon done)),
  ([], codes "function(){}", codes "();", refl, refl, refl, ([], codes "(){}", refl, refl, refl, refl, refl, ([], [], codes "{}", refl, refl, refl, refl, ([], [], [], refl, refl, refl, refl, refl))), ([], [], codes ";", refl, refl, refl, refl, ([], [], refl, refl, refl, refl, refl, refl))),
  undirected refl (grammar.last_statement (item {a = group false Round (word (codes "function") (group false Round done (group false Brace done done))) (group false Round done done)} refl (of_left (grammar.a_call (grammar.with_arguments {a = group false Round (word (codes "function") (group false Round done (group false Brace done done))) done} {inside = done} false refl (grammar.a_called_member (grammar.a_primary (grammar.in_parentheses (whole (first_of_sum (read_function (grammar.a_nameless_function grammar.no_parameter no_statements))))))) grammar.no_argument))))),
)

pub arrow_with_body : IsRead (codes "a=>{};") (samples.module_of (more (samples.statement_of (samples.arrow_of (samples.one_parameter (codes "a")) samples.empty_body)) no_trees))
unfolding unicode_ident longer_stands word_value
arrow_with_body = (
  word (codes "a") (sign arrow (group false Brace done (sign semicolon done))),
  ([], codes "=>{};", refl, refl, refl, refl, refl, ([], codes "{};", refl, refl, refl, refl, refl, ([], [], codes ";", refl, refl, refl, refl, ([], [], refl, refl, refl, refl, refl, refl)))),
  undirected refl (grammar.last_statement (item {a = word (codes "a") (sign arrow (group false Brace done done))} refl (grammar.an_assignment (read_arrow_with_body {a = word (codes "a") done} {inside = done} false refl (grammar.a_parameter_name value_a free_a) no_statements)))),
)

pub arrow_that_returns : IsRead (codes "a=>{return b};") (samples.module_of (more (samples.statement_of (samples.arrow_of (samples.one_parameter (codes "a")) (functions.body_with (more (samples.return_of (given samples.b)) no_trees)))) no_trees))
unfolding unicode_ident longer_stands word_value
arrow_that_returns = (
  word (codes "a") (sign arrow (group false Brace (word (codes "return") (word (codes "b") done)) (sign semicolon done))),
  ([], codes "=>{return b};", refl, refl, refl, refl, refl, ([], codes "{return b};", refl, refl, refl, refl, refl, ([], codes "return b", codes ";", refl, refl, refl, ([], codes " b", refl, refl, refl, refl, refl, (codes " ", [], refl, refl, refl, refl, refl, refl)), ([], [], refl, refl, refl, refl, refl, refl)))),
  undirected refl (grammar.last_statement (item {a = word (codes "a") (sign arrow (group false Brace (word (codes "return") (word (codes "b") done)) done))} refl (grammar.an_assignment (read_arrow_with_body {a = word (codes "a") done} {inside = word (codes "return") (word (codes "b") done)} false refl (grammar.a_parameter_name value_a free_a) (last_of refl (grammar.a_return {a = word (codes "b") done} refl grammar.the_brace (grammar.a_returned_value refl (whole (first_of_sum read_b))))))))),
)

pub return_and_statement : IsRead (codes "function f(){return;a}") (samples.module_of (more (functions.function_with Declaration (functions.name_of (codes "f")) functions.no_parameters (functions.body_with (more (samples.return_of absent) (more (samples.statement_of samples.a) no_trees)))) no_trees))
unfolding unicode_ident longer_stands word_value
return_and_statement = (
  word (codes "function") (word (codes "f") (group false Round done (group false Brace (word (codes "return") (sign semicolon (word (codes "a") done))) done))),
  ([], codes " f(){return;a}", refl, refl, refl, refl, refl, (codes " ", codes "(){return;a}", refl, refl, refl, refl, refl, ([], [], codes "{return;a}", refl, refl, refl, refl, ([], codes "return;a", [], refl, refl, refl, ([], codes ";a", refl, refl, refl, refl, refl, ([], codes "a", refl, refl, refl, refl, refl, ([], [], refl, refl, refl, refl, refl, refl))), refl)))),
  undirected refl (grammar.last_statement (read_declaration (grammar.a_named_function value_f free_f grammar.no_parameter (grammar.statements refl (grammar.first_statement {a = word (codes "return") (sign semicolon done)} {b = word (codes "a") done} refl (grammar.a_statement (grammar.a_return {a = done} refl (grammar.a_semicolon {a = word (codes "return") done} false refl) grammar.nothing_returned)) (grammar.last_statement (grammar.a_statement (grammar.an_expression_statement grammar.the_brace refl (whole (first_of_sum read_a)))))))))),
)

pub methods : IsRead (codes "({get a(){return 1},set a(b){},c(d){}});") (samples.module_of (more (samples.statement_of (samples.in_parentheses (functions.object_of (more (functions.accessor_of Get false (functions.key_of (codes "a")) functions.no_parameters (functions.body_with (more (samples.return_of (given samples.one)) no_trees))) (more (functions.accessor_of Set false (functions.key_of (codes "a")) (samples.one_parameter (codes "b")) samples.empty_body) (more (functions.accessor_of Init true (functions.key_of (codes "c")) (samples.one_parameter (codes "d")) samples.empty_body) no_trees)))))) no_trees))
unfolding unicode_ident longer_stands longer_number_stands spells_number word_value
methods = (
  group false Round (group false Brace (word (codes "get") (word (codes "a") (group false Round done (group false Brace (word (codes "return") (piece false (Number (codes "1")) done)) (sign comma (word (codes "set") (word (codes "a") (group false Round (word (codes "b") done) (group false Brace done (sign comma (word (codes "c") (group false Round (word (codes "d") done) (group false Brace done done))))))))))))) done) (sign semicolon done),
  ([], codes "{get a(){return 1},set a(b){},c(d){}}", codes ";", refl, refl, refl, ([], codes "get a(){return 1},set a(b){},c(d){}", [], refl, refl, refl, ([], codes " a(){return 1},set a(b){},c(d){}", refl, refl, refl, refl, refl, (codes " ", codes "(){return 1},set a(b){},c(d){}", refl, refl, refl, refl, refl, ([], [], codes "{return 1},set a(b){},c(d){}", refl, refl, refl, refl, ([], codes "return 1", codes ",set a(b){},c(d){}", refl, refl, refl, ([], codes " 1", refl, refl, refl, refl, refl, (codes " ", [], refl, refl, refl, refl, refl, refl)), ([], codes "set a(b){},c(d){}", refl, refl, refl, refl, refl, ([], codes " a(b){},c(d){}", refl, refl, refl, refl, refl, (codes " ", codes "(b){},c(d){}", refl, refl, refl, refl, refl, ([], codes "b", codes "{},c(d){}", refl, refl, refl, ([], [], refl, refl, refl, refl, refl, refl), ([], [], codes ",c(d){}", refl, refl, refl, refl, ([], codes "c(d){}", refl, refl, refl, refl, refl, ([], codes "(d){}", refl, refl, refl, refl, refl, ([], codes "d", codes "{}", refl, refl, refl, ([], [], refl, refl, refl, refl, refl, refl), ([], [], [], refl, refl, refl, refl, refl))))))))))))), refl), ([], [], refl, refl, refl, refl, refl, refl)),
  undirected refl (grammar.last_statement (item {a = group false Round (group false Brace (word (codes "get") (word (codes "a") (group false Round done (group false Brace (word (codes "return") (piece false (Number (codes "1")) done)) (sign comma (word (codes "set") (word (codes "a") (group false Round (word (codes "b") done) (group false Brace done (sign comma (word (codes "c") (group false Round (word (codes "d") done) (group false Brace done done))))))))))))) done) done} refl (whole (first_of_sum (grammar.in_parentheses (whole (first_of_sum (grammar.an_object (grammar.first_property {a = word (codes "get") (word (codes "a") (group false Round done (group false Brace (word (codes "return") (piece false (Number (codes "1")) done)) done)))} {b = word (codes "set") (word (codes "a") (group false Round (word (codes "b") done) (group false Brace done (sign comma (word (codes "c") (group false Round (word (codes "d") done) (group false Brace done done)))))))} false refl (read_getter {a = word (codes "a") done} {inside = word (codes "return") (piece false (Number (codes "1")) done)} false false refl (grammar.a_name_key value_a) (last_of refl (grammar.a_return {a = piece false (Number (codes "1")) done} refl grammar.the_brace (grammar.a_returned_value refl (whole (first_of_sum (grammar.a_number refl))))))) (grammar.first_property {a = word (codes "set") (word (codes "a") (group false Round (word (codes "b") done) (group false Brace done done)))} {b = word (codes "c") (group false Round (word (codes "d") done) (group false Brace done done))} false refl (read_setter {a = word (codes "a") done} {head = word (codes "b") done} {inside = done} false false refl (grammar.a_name_key value_a) (grammar.a_parameter (grammar.a_bound_name value_b free_b)) no_statements) (grammar.last_property (read_method {a = word (codes "c") done} {head = word (codes "d") done} {inside = done} false false refl (grammar.a_name_key value_c) (grammar.last_parameter (grammar.a_parameter (grammar.a_bound_name value_d free_d))) no_statements)))))))))))),
)

pub method_get : IsRead (codes "({get(){}});") (samples.module_of (more (samples.statement_of (samples.in_parentheses (functions.object_of (more (functions.accessor_of Init true (functions.key_of (codes "get")) functions.no_parameters samples.empty_body) no_trees)))) no_trees))
unfolding unicode_ident longer_stands word_value
method_get = (
  group false Round (group false Brace (word (codes "get") (group false Round done (group false Brace done done))) done) (sign semicolon done),
  ([], codes "{get(){}}", codes ";", refl, refl, refl, ([], codes "get(){}", [], refl, refl, refl, ([], codes "(){}", refl, refl, refl, refl, refl, ([], [], codes "{}", refl, refl, refl, refl, ([], [], [], refl, refl, refl, refl, refl))), refl), ([], [], refl, refl, refl, refl, refl, refl)),
  undirected refl (grammar.last_statement (item {a = group false Round (group false Brace (word (codes "get") (group false Round done (group false Brace done done))) done) done} refl (whole (first_of_sum (grammar.in_parentheses (whole (first_of_sum (grammar.an_object (grammar.last_property (read_method {a = word (codes "get") done} {head = done} {inside = done} false false refl (grammar.a_name_key {w = codes "get"} {v = codes "get"} refl) grammar.no_parameter no_statements)))))))))),
)

pub computed_getter : IsRead (codes "({get[a](){}});") (samples.module_of (more (samples.statement_of (samples.in_parentheses (functions.object_of (more (functions.computed_of Get false samples.a samples.empty_body) no_trees)))) no_trees))
unfolding unicode_ident longer_stands word_value
computed_getter = (
  group false Round (group false Brace (word (codes "get") (group false Square (word (codes "a") done) (group false Round done (group false Brace done done)))) done) (sign semicolon done),
  ([], codes "{get[a](){}}", codes ";", refl, refl, refl, ([], codes "get[a](){}", [], refl, refl, refl, ([], codes "[a](){}", refl, refl, refl, refl, refl, ([], codes "a", codes "(){}", refl, refl, refl, ([], [], refl, refl, refl, refl, refl, refl), ([], [], codes "{}", refl, refl, refl, refl, ([], [], [], refl, refl, refl, refl, refl)))), refl), ([], [], refl, refl, refl, refl, refl, refl)),
  undirected refl (grammar.last_statement (item {a = group false Round (group false Brace (word (codes "get") (group false Square (word (codes "a") done) (group false Round done (group false Brace done done)))) done) done} refl (whole (first_of_sum (grammar.in_parentheses (whole (first_of_sum (grammar.an_object (grammar.last_property (read_getter {a = group false Square (word (codes "a") done) done} {inside = done} false false refl (grammar.a_computed_key (value (first_of_sum read_a))) no_statements)))))))))),
)

pub directive_in_body : IsRead (codes "function f(){\"use strict\";a}") (samples.module_of (more (functions.function_with Declaration (functions.name_of (codes "f")) functions.no_parameters (functions.directed_body (more (samples.statement_of samples.a) no_trees))) no_trees))
unfolding unicode_ident longer_stands word_value string_value
directive_in_body = (
  word (codes "function") (word (codes "f") (group false Round done (group false Brace (piece false (Quoted Double (codes "use strict")) (sign semicolon (word (codes "a") done))) done))),
  ([], codes " f(){\"use strict\";a}", refl, refl, refl, refl, refl, (codes " ", codes "(){\"use strict\";a}", refl, refl, refl, refl, refl, ([], [], codes "{\"use strict\";a}", refl, refl, refl, refl, ([], codes "\"use strict\";a", [], refl, refl, refl, ([], codes ";a", refl, refl, refl, refl, refl, ([], codes "a", refl, refl, refl, refl, refl, ([], [], refl, refl, refl, refl, refl, refl))), refl)))),
  undirected refl (grammar.last_statement (read_declaration (grammar.a_named_function value_f free_f grammar.no_parameter (grammar.a_directive {q = Double} {w = codes "use strict"} {us = codes "use strict"} refl refl (grammar.statements refl (grammar.last_statement (grammar.a_statement (grammar.an_expression_statement grammar.the_brace refl (whole (first_of_sum read_a)))))))))),
)

pub last_directive : IsRead (codes "function f(){\"use strict\"}") (samples.module_of (more (functions.function_with Declaration (functions.name_of (codes "f")) functions.no_parameters (functions.directed_body no_trees)) no_trees))
unfolding unicode_ident longer_stands word_value string_value
last_directive = (
  word (codes "function") (word (codes "f") (group false Round done (group false Brace (piece false (Quoted Double (codes "use strict")) done) done))),
  ([], codes " f(){\"use strict\"}", refl, refl, refl, refl, refl, (codes " ", codes "(){\"use strict\"}", refl, refl, refl, refl, refl, ([], [], codes "{\"use strict\"}", refl, refl, refl, refl, ([], codes "\"use strict\"", [], refl, refl, refl, ([], [], refl, refl, refl, refl, refl, refl), refl)))),
  undirected refl (grammar.last_statement (read_declaration (grammar.a_named_function value_f free_f grammar.no_parameter (grammar.a_last_directive {q = Double} {w = codes "use strict"} {us = codes "use strict"} refl refl)))),
)

pub keys : IsRead (codes "({\"a\"(){},1(){},[b](){}});") (samples.module_of (more (samples.statement_of (samples.in_parentheses (functions.object_of (more (functions.accessor_of Init true (samples.string_of (codes "a")) functions.no_parameters samples.empty_body) (more (functions.accessor_of Init true samples.one functions.no_parameters samples.empty_body) (more (functions.computed_of Init true samples.b samples.empty_body) no_trees)))))) no_trees))
unfolding unicode_ident longer_stands longer_number_stands spells_number word_value string_value
keys = (
  group false Round (group false Brace (piece false (Quoted Double (codes "a")) (group false Round done (group false Brace done (sign comma (piece false (Number (codes "1")) (group false Round done (group false Brace done (sign comma (group false Square (word (codes "b") done) (group false Round done (group false Brace done done))))))))))) done) (sign semicolon done),
  ([], codes "{\"a\"(){},1(){},[b](){}}", codes ";", refl, refl, refl, ([], codes "\"a\"(){},1(){},[b](){}", [], refl, refl, refl, ([], codes "(){},1(){},[b](){}", refl, refl, refl, refl, refl, ([], [], codes "{},1(){},[b](){}", refl, refl, refl, refl, ([], [], codes ",1(){},[b](){}", refl, refl, refl, refl, ([], codes "1(){},[b](){}", refl, refl, refl, refl, refl, ([], codes "(){},[b](){}", refl, refl, refl, refl, refl, ([], [], codes "{},[b](){}", refl, refl, refl, refl, ([], [], codes ",[b](){}", refl, refl, refl, refl, ([], codes "[b](){}", refl, refl, refl, refl, refl, ([], codes "b", codes "(){}", refl, refl, refl, ([], [], refl, refl, refl, refl, refl, refl), ([], [], codes "{}", refl, refl, refl, refl, ([], [], [], refl, refl, refl, refl, refl))))))))))), refl), ([], [], refl, refl, refl, refl, refl, refl)),
  undirected refl (grammar.last_statement (item {a = group false Round (group false Brace (piece false (Quoted Double (codes "a")) (group false Round done (group false Brace done (sign comma (piece false (Number (codes "1")) (group false Round done (group false Brace done (sign comma (group false Square (word (codes "b") done) (group false Round done (group false Brace done done))))))))))) done) done} refl (whole (first_of_sum (grammar.in_parentheses (whole (first_of_sum (grammar.an_object (grammar.first_property {a = piece false (Quoted Double (codes "a")) (group false Round done (group false Brace done done))} {b = piece false (Number (codes "1")) (group false Round done (group false Brace done (sign comma (group false Square (word (codes "b") done) (group false Round done (group false Brace done done))))))} false refl (read_method {a = piece false (Quoted Double (codes "a")) done} {head = done} {inside = done} false false refl (grammar.a_string_key {q = Double} {w = codes "a"} {us = codes "a"} refl refl) grammar.no_parameter no_statements) (grammar.first_property {a = piece false (Number (codes "1")) (group false Round done (group false Brace done done))} {b = group false Square (word (codes "b") done) (group false Round done (group false Brace done done))} false refl (read_method {a = piece false (Number (codes "1")) done} {head = done} {inside = done} false false refl (grammar.a_number_key refl) grammar.no_parameter no_statements) (grammar.last_property (read_method {a = group false Square (word (codes "b") done) done} {head = done} {inside = done} false false refl (grammar.a_computed_key (value (first_of_sum read_b))) grammar.no_parameter no_statements)))))))))))),
)

pub setter_with_value : IsRead (codes "({set a(b=1){}});") (samples.module_of (more (samples.statement_of (samples.in_parentheses (functions.object_of (more (functions.accessor_of Set false (functions.key_of (codes "a")) (samples.parameters_of (more (samples.parameter (codes "b") (given samples.one)) no_trees) absent) samples.empty_body) no_trees)))) no_trees))
unfolding unicode_ident longer_stands longer_number_stands spells_number word_value
setter_with_value = (
  group false Round (group false Brace (word (codes "set") (word (codes "a") (group false Round (word (codes "b") (sign equal (piece false (Number (codes "1")) done))) (group false Brace done done)))) done) (sign semicolon done),
  ([], codes "{set a(b=1){}}", codes ";", refl, refl, refl, ([], codes "set a(b=1){}", [], refl, refl, refl, ([], codes " a(b=1){}", refl, refl, refl, refl, refl, (codes " ", codes "(b=1){}", refl, refl, refl, refl, refl, ([], codes "b=1", codes "{}", refl, refl, refl, ([], codes "=1", refl, refl, refl, refl, refl, ([], codes "1", refl, refl, refl, refl, refl, ([], [], refl, refl, refl, refl, refl, refl))), ([], [], [], refl, refl, refl, refl, refl)))), refl), ([], [], refl, refl, refl, refl, refl, refl)),
  undirected refl (grammar.last_statement (item {a = group false Round (group false Brace (word (codes "set") (word (codes "a") (group false Round (word (codes "b") (sign equal (piece false (Number (codes "1")) done))) (group false Brace done done)))) done) done} refl (whole (first_of_sum (grammar.in_parentheses (whole (first_of_sum (grammar.an_object (grammar.last_property (read_setter {a = word (codes "a") done} {head = word (codes "b") (sign equal (piece false (Number (codes "1")) done))} {inside = done} false false refl (grammar.a_name_key value_a) (grammar.with_initializer {a = word (codes "b") done} {v = piece false (Number (codes "1")) done} false refl (grammar.a_bound_name value_b free_b) (value (first_of_sum (grammar.a_number refl)))) no_statements)))))))))),
)

pub function_in_parameter : IsRead (codes "function f(a=function(){}){}") (samples.module_of (more (functions.function_with Declaration (functions.name_of (codes "f")) (samples.parameters_of (more (samples.parameter (codes "a") (given (functions.function_with Expression absent functions.no_parameters samples.empty_body))) no_trees) absent) samples.empty_body) no_trees))
unfolding unicode_ident longer_stands word_value
function_in_parameter = (
  word (codes "function") (word (codes "f") (group false Round (word (codes "a") (sign equal (word (codes "function") (group false Round done (group false Brace done done))))) (group false Brace done done))),
  ([], codes " f(a=function(){}){}", refl, refl, refl, refl, refl, (codes " ", codes "(a=function(){}){}", refl, refl, refl, refl, refl, ([], codes "a=function(){}", codes "{}", refl, refl, refl, ([], codes "=function(){}", refl, refl, refl, refl, refl, ([], codes "function(){}", refl, refl, refl, refl, refl, ([], codes "(){}", refl, refl, refl, refl, refl, ([], [], codes "{}", refl, refl, refl, refl, ([], [], [], refl, refl, refl, refl, refl))))), ([], [], [], refl, refl, refl, refl, refl)))),
  undirected refl (grammar.last_statement (read_declaration (grammar.a_named_function value_f free_f (grammar.last_parameter (grammar.with_initializer {a = word (codes "a") done} {v = word (codes "function") (group false Round done (group false Brace done done))} false refl (grammar.a_bound_name value_a free_a) (value (first_of_sum (read_function (grammar.a_nameless_function grammar.no_parameter no_statements)))))) no_statements))),
)

pub arrow_with_rest : IsRead (codes "(a,...b)=>{return};") (samples.module_of (more (samples.statement_of (samples.arrow_of (samples.parameters_of (more (samples.parameter (codes "a") absent) no_trees) (given (samples.rest_in (codes "b")))) (functions.body_with (more (samples.return_of absent) no_trees)))) no_trees))
unfolding unicode_ident longer_stands word_value
arrow_with_rest = (
  group false Round (word (codes "a") (sign comma (sign ellipsis (word (codes "b") done)))) (sign arrow (group false Brace (word (codes "return") done) (sign semicolon done))),
  ([], codes "a,...b", codes "=>{return};", refl, refl, refl, ([], codes ",...b", refl, refl, refl, refl, refl, ([], codes "...b", refl, refl, refl, refl, refl, ([], codes "b", refl, refl, refl, refl, refl, ([], [], refl, refl, refl, refl, refl, refl)))), ([], codes "{return};", refl, refl, refl, refl, refl, ([], codes "return", codes ";", refl, refl, refl, ([], [], refl, refl, refl, refl, refl, refl), ([], [], refl, refl, refl, refl, refl, refl)))),
  undirected refl (grammar.last_statement (item {a = group false Round (word (codes "a") (sign comma (sign ellipsis (word (codes "b") done)))) (sign arrow (group false Brace (word (codes "return") done) done))} refl (grammar.an_assignment (read_arrow_with_body {a = group false Round (word (codes "a") (sign comma (sign ellipsis (word (codes "b") done)))) done} {inside = word (codes "return") done} false refl (grammar.grouped_parameters {inside = word (codes "a") (sign comma (sign ellipsis (word (codes "b") done)))} (grammar.first_parameter {a = word (codes "a") done} {b = sign ellipsis (word (codes "b") done)} false refl (grammar.a_parameter (grammar.a_bound_name value_a free_a)) (grammar.a_rest (grammar.a_bound_name value_b free_b)))) (last_of refl (grammar.a_return {a = done} refl grammar.the_brace grammar.nothing_returned)))))),
)
