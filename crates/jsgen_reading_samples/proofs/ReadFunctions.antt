-- Async functions, generators, `await`, `yield` and loops that wait that are read.
use Rattle.std.proofs.Common.{true, false, [], codes, refl}
use Rattle.unicode_ident.proofs.Computing.{unicode_ident}
use Rattle.jsgen_syntax.specs.Escapes.{word_value}
use Rattle.jsgen_tree.specs.declared.functions.FunctionKind.TheVariants.{Declaration}
use Rattle.jsgen_tree.specs.Tree.{absent, given, no_trees, more}
use Rattle.jsgen_model.specs.Punctuator.{arrow, comma, semicolon, star, Round, Brace}
use Rattle.jsgen_model.specs.Tokens.{done, group, longer_stands}
use Rattle.jsgen_model.specs.Grammar.{Allowed, ReadsBody}
use Rattle.jsgen_model.specs.Grammar as grammar
use Rattle.jsgen_reading_samples.specs.ReadPatterns.{IsRead}
use Rattle.jsgen_reading_samples.specs.ReadPatterns as samples
use Rattle.jsgen_reading_samples.specs.ReadFunctions as functions
use Rattle.jsgen_reading_samples.proofs.Written.{word, sign}
use Rattle.jsgen_reading_samples.proofs.Parts.{of_member, as_unary, of_unary, related, valued, only, item, free_a, value_a, value_b, value_c, free_g, value_g, free_x, value_x, free_async, value_async}

-- a body without statements
no_statements : {c : Allowed} → ReadsBody c true done no_trees no_trees
no_statements = grammar.statements refl grammar.no_statement

pub await_in_module : IsRead (codes "await a;") (samples.module_of (samples.statement_of (functions.await_of samples.a)))
unfolding unicode_ident longer_stands word_value
await_in_module = (
  word (codes "await") (word (codes "a") (sign semicolon done)),
  ([], codes " a;", refl, refl, refl, refl, refl, (codes " ", codes ";", refl, refl, refl, refl, refl, ([], [], refl, refl, refl, refl, refl, refl))),
  only refl (item {a = word (codes "await") (word (codes "a") done)} refl (grammar.an_assignment (of_unary (grammar.an_await refl (as_unary (of_member (grammar.a_primary (grammar.a_reference value_a free_a)))))))),
)

pub loop_that_waits : IsRead (codes "for await (async of x);") (samples.module_of (functions.over_awaited (samples.reference_of (codes "async")) (samples.reference_of (codes "x"))))
unfolding unicode_ident longer_stands word_value
loop_that_waits = (
  word (codes "for") (word (codes "await") (group false Round (word (codes "async") (word (codes "of") (word (codes "x") done))) (sign semicolon done))),
  ([], codes " await (async of x);", refl, refl, refl, refl, refl, (codes " ", codes " (async of x);", refl, refl, refl, refl, refl, (codes " ", codes "async of x", codes ";", refl, refl, refl, ([], codes " of x", refl, refl, refl, refl, refl, (codes " ", codes " x", refl, refl, refl, refl, refl, (codes " ", [], refl, refl, refl, refl, refl, refl))), ([], [], refl, refl, refl, refl, refl, refl)))),
  only refl (grammar.a_statement (grammar.a_for_await {a = word (codes "async") done} {b = word (codes "x") done} false refl refl (grammar.a_target refl (of_member (grammar.a_primary (grammar.a_reference value_async free_async))) refl) (valued (related (of_member (grammar.a_primary (grammar.a_reference value_x free_x))))) grammar.an_empty_statement)),
)

pub async_arrow : IsRead (codes "async () => await a;") (samples.module_of (samples.statement_of (functions.async_arrow_of (samples.parameters_of no_trees absent) (functions.await_of samples.a))))
unfolding unicode_ident longer_stands word_value
async_arrow = (
  word (codes "async") (group false Round done (sign arrow (word (codes "await") (word (codes "a") (sign semicolon done))))),
  ([], codes " () => await a;", refl, refl, refl, refl, refl, (codes " ", [], codes " => await a;", refl, refl, refl, refl, (codes " ", codes " await a;", refl, refl, refl, refl, refl, (codes " ", codes " a;", refl, refl, refl, refl, refl, (codes " ", codes ";", refl, refl, refl, refl, refl, ([], [], refl, refl, refl, refl, refl, refl)))))),
  only refl (item {a = word (codes "async") (group false Round done (sign arrow (word (codes "await") (word (codes "a") done))))} refl (grammar.an_assignment (grammar.an_async_arrow refl (grammar.an_arrow_function {a = group false Round done done} {b = word (codes "await") (word (codes "a") done)} refl (grammar.grouped_parameters grammar.no_parameter) refl (of_unary (grammar.an_await refl (as_unary (of_member (grammar.a_primary (grammar.a_reference value_a free_a)))))))))),
)

pub async_function : IsRead (codes "async function async() { async(); }") (samples.module_of (functions.function_with Declaration true false (given (samples.name_of (codes "async"))) (more (samples.statement_of (functions.call_of (samples.reference_of (codes "async")))) no_trees)))
unfolding unicode_ident longer_stands word_value
async_function = (
  word (codes "async") (word (codes "function") (word (codes "async") (group false Round done (group false Brace (word (codes "async") (group false Round done (sign semicolon done))) done)))),
  ([], codes " function async() { async(); }", refl, refl, refl, refl, refl, (codes " ", codes " async() { async(); }", refl, refl, refl, refl, refl, (codes " ", codes "() { async(); }", refl, refl, refl, refl, refl, ([], [], codes " { async(); }", refl, refl, refl, refl, (codes " ", codes " async(); ", [], refl, refl, refl, (codes " ", codes "(); ", refl, refl, refl, refl, refl, ([], [], codes "; ", refl, refl, refl, refl, ([], codes " ", refl, refl, refl, refl, refl, refl))), refl))))),
  only refl (grammar.a_function_declaration (grammar.an_async_function (grammar.a_named_function value_async free_async grammar.no_parameter (grammar.statements refl (grammar.last_statement (item {a = word (codes "async") (group false Round done done)} refl (grammar.an_assignment (valued (related (grammar.a_call (grammar.with_arguments {a = word (codes "async") done} false refl (grammar.a_called_member (grammar.a_primary (grammar.a_reference value_async free_async))) grammar.no_argument))))))))))),
)

pub yields_in_generator : IsRead (codes "function* g() { yield yield yield; }") (samples.module_of (functions.function_with Declaration false true (given (samples.name_of (codes "g"))) (more (samples.statement_of (functions.yield_of (given (functions.yield_of (given (functions.yield_of absent)))))) no_trees)))
unfolding unicode_ident longer_stands word_value
yields_in_generator = (
  word (codes "function") (sign star (word (codes "g") (group false Round done (group false Brace (word (codes "yield") (word (codes "yield") (word (codes "yield") (sign semicolon done)))) done)))),
  ([], codes "* g() { yield yield yield; }", refl, refl, refl, refl, refl, ([], codes " g() { yield yield yield; }", refl, refl, refl, refl, refl, (codes " ", codes "() { yield yield yield; }", refl, refl, refl, refl, refl, ([], [], codes " { yield yield yield; }", refl, refl, refl, refl, (codes " ", codes " yield yield yield; ", [], refl, refl, refl, (codes " ", codes " yield yield; ", refl, refl, refl, refl, refl, (codes " ", codes " yield; ", refl, refl, refl, refl, refl, (codes " ", codes "; ", refl, refl, refl, refl, refl, ([], codes " ", refl, refl, refl, refl, refl, refl)))), refl))))),
  only refl (grammar.a_function_declaration (grammar.a_generator (grammar.a_named_function value_g free_g grammar.no_parameter (grammar.statements refl (grammar.last_statement (item {a = word (codes "yield") (word (codes "yield") (word (codes "yield") done))} refl (grammar.an_assignment (grammar.a_yield refl refl (grammar.a_yield refl refl (grammar.a_yield_alone refl)))))))))),
)

pub delegations : IsRead (codes "function* g() { yield* yield* a; }") (samples.module_of (functions.function_with Declaration false true (given (samples.name_of (codes "g"))) (more (samples.statement_of (functions.delegation_of (functions.delegation_of samples.a))) no_trees)))
unfolding unicode_ident longer_stands word_value
delegations = (
  word (codes "function") (sign star (word (codes "g") (group false Round done (group false Brace (word (codes "yield") (sign star (word (codes "yield") (sign star (word (codes "a") (sign semicolon done)))))) done)))),
  ([], codes "* g() { yield* yield* a; }", refl, refl, refl, refl, refl, ([], codes " g() { yield* yield* a; }", refl, refl, refl, refl, refl, (codes " ", codes "() { yield* yield* a; }", refl, refl, refl, refl, refl, ([], [], codes " { yield* yield* a; }", refl, refl, refl, refl, (codes " ", codes " yield* yield* a; ", [], refl, refl, refl, (codes " ", codes "* yield* a; ", refl, refl, refl, refl, refl, ([], codes " yield* a; ", refl, refl, refl, refl, refl, (codes " ", codes "* a; ", refl, refl, refl, refl, refl, ([], codes " a; ", refl, refl, refl, refl, refl, (codes " ", codes "; ", refl, refl, refl, refl, refl, ([], codes " ", refl, refl, refl, refl, refl, refl)))))), refl))))),
  only refl (grammar.a_function_declaration (grammar.a_generator (grammar.a_named_function value_g free_g grammar.no_parameter (grammar.statements refl (grammar.last_statement (item {a = word (codes "yield") (sign star (word (codes "yield") (sign star (word (codes "a") done))))} refl (grammar.an_assignment (grammar.a_delegation refl (grammar.a_delegation refl (valued (related (of_member (grammar.a_primary (grammar.a_reference value_a free_a)))))))))))))),
)

pub async_methods : IsRead (codes "({async a() {}, *b() {}, async *c() {}});") (samples.module_of (samples.statement_of (samples.in_parentheses (samples.object_of (more (functions.method_of true false (samples.key_of (codes "a"))) (more (functions.method_of false true (samples.key_of (codes "b"))) (more (functions.method_of true true (samples.key_of (codes "c"))) no_trees)))))))
unfolding unicode_ident longer_stands word_value
async_methods = (
  group false Round (group false Brace (word (codes "async") (word (codes "a") (group false Round done (group false Brace done (sign comma (sign star (word (codes "b") (group false Round done (group false Brace done (sign comma (word (codes "async") (sign star (word (codes "c") (group false Round done (group false Brace done done))))))))))))))) done) (sign semicolon done),
  ([], codes "{async a() {}, *b() {}, async *c() {}}", codes ";", refl, refl, refl, ([], codes "async a() {}, *b() {}, async *c() {}", [], refl, refl, refl, ([], codes " a() {}, *b() {}, async *c() {}", refl, refl, refl, refl, refl, (codes " ", codes "() {}, *b() {}, async *c() {}", refl, refl, refl, refl, refl, ([], [], codes " {}, *b() {}, async *c() {}", refl, refl, refl, refl, (codes " ", [], codes ", *b() {}, async *c() {}", refl, refl, refl, refl, ([], codes " *b() {}, async *c() {}", refl, refl, refl, refl, refl, (codes " ", codes "b() {}, async *c() {}", refl, refl, refl, refl, refl, ([], codes "() {}, async *c() {}", refl, refl, refl, refl, refl, ([], [], codes " {}, async *c() {}", refl, refl, refl, refl, (codes " ", [], codes ", async *c() {}", refl, refl, refl, refl, ([], codes " async *c() {}", refl, refl, refl, refl, refl, (codes " ", codes " *c() {}", refl, refl, refl, refl, refl, (codes " ", codes "c() {}", refl, refl, refl, refl, refl, ([], codes "() {}", refl, refl, refl, refl, refl, ([], [], codes " {}", refl, refl, refl, refl, (codes " ", [], [], refl, refl, refl, refl, refl))))))))))))))), refl), ([], [], refl, refl, refl, refl, refl, refl)),
  only refl (item {a = group false Round (group false Brace (word (codes "async") (word (codes "a") (group false Round done (group false Brace done (sign comma (sign star (word (codes "b") (group false Round done (group false Brace done (sign comma (word (codes "async") (sign star (word (codes "c") (group false Round done (group false Brace done done))))))))))))))) done) done} refl (grammar.an_assignment (valued (related (of_member (grammar.a_primary (grammar.in_parentheses (grammar.an_assignment (valued (related (of_member (grammar.a_primary (grammar.an_object (grammar.first_property {a = word (codes "async") (word (codes "a") (group false Round done (group false Brace done done)))} {b = sign star (word (codes "b") (group false Round done (group false Brace done (sign comma (word (codes "async") (sign star (word (codes "c") (group false Round done (group false Brace done done)))))))))} false refl (grammar.a_method (grammar.an_async_method refl (grammar.a_method_behind_words {a = word (codes "a") done} false false refl (grammar.a_public_key (grammar.a_name_key value_a)) grammar.no_parameter no_statements))) (grammar.first_property {a = sign star (word (codes "b") (group false Round done (group false Brace done done)))} {b = word (codes "async") (sign star (word (codes "c") (group false Round done (group false Brace done done))))} false refl (grammar.a_method (grammar.a_generator_method (grammar.a_method_behind_words {a = word (codes "b") done} false false refl (grammar.a_public_key (grammar.a_name_key value_b)) grammar.no_parameter no_statements))) (grammar.last_property (grammar.a_method (grammar.an_async_generator_method (grammar.a_method_behind_words {a = word (codes "c") done} false false refl (grammar.a_public_key (grammar.a_name_key value_c)) grammar.no_parameter no_statements))))))))))))))))))),
)
