-- Generated from tools/vectors/refused.json; edit that and run tools/vectors/generate.
-- That they aren't: of their tokens the reader answers that they are no module.
use Rattle.std.proofs.Common.{[], true, false, codes, refl}
use lib.Utf8.{encode}
use Rattle.unicode_ident.proofs.Computing.{unicode_ident}
use Rattle.jsgen_syntax.specs.Escapes.{word_value}
use Rattle.jsgen_syntax.specs.Name.{is_reserved, is_strict_reserved}
use Rattle.jsgen_syntax.specs.Strings.{string_value}
use Rattle.jsgen_syntax.specs.declared.quote.Quote.TheVariants.{Double}
use Rattle.jsgen_model.specs.Numbers.{spells_number}
use Rattle.jsgen_model.specs.Punctuator.{minus, star, or_or, dot, ellipsis, comma, semicolon, colon, equal, plus_plus, arrow, Round, Square, Brace}
use Rattle.jsgen_model.specs.Tokens.{done, piece, group, Word, Number, Quoted, Sign, longer_stands, longer_number_stands}
use Rattle.jsgen_reading_samples.specs.RefusedPatterns.{IsNotRead}
use Rattle.jsgen_reading_samples.proofs.Written.{word, sign}
use Rattle.jsgen_reading_samples.proofs.Refused.{refused}

pub escaped_async : IsNotRead (codes "\\u0061sync function f() {}")
unfolding unicode_ident longer_stands word_value is_reserved is_strict_reserved encode
escaped_async = refused (codes "\\u0061sync function f() {}") (word (codes "\\u0061sync") (word (codes "function") (word (codes "f") (group false Round done (group false Brace done done))))) ([], codes " function f() {}", refl, refl, refl, refl, refl, (codes " ", codes " f() {}", refl, refl, refl, refl, refl, (codes " ", codes "() {}", refl, refl, refl, refl, refl, ([], [], codes " {}", refl, refl, refl, refl, (codes " ", [], [], refl, refl, refl, refl, refl))))) refl refl

pub escaped_await : IsNotRead (codes "\\u0061wait a;")
unfolding unicode_ident longer_stands word_value is_reserved is_strict_reserved encode
escaped_await = refused (codes "\\u0061wait a;") (word (codes "\\u0061wait") (word (codes "a") (sign semicolon done))) ([], codes " a;", refl, refl, refl, refl, refl, (codes " ", codes ";", refl, refl, refl, refl, refl, ([], [], refl, refl, refl, refl, refl, refl))) refl refl

pub escaped_yield : IsNotRead (codes "function* g() { yi\\u0065ld a; }")
unfolding unicode_ident longer_stands word_value is_reserved is_strict_reserved encode
escaped_yield = refused (codes "function* g() { yi\\u0065ld a; }") (word (codes "function") (sign star (word (codes "g") (group false Round done (group false Brace (word (codes "yi\\u0065ld") (word (codes "a") (sign semicolon done))) done))))) ([], codes "* g() { yi\\u0065ld a; }", refl, refl, refl, refl, refl, ([], codes " g() { yi\\u0065ld a; }", refl, refl, refl, refl, refl, (codes " ", codes "() { yi\\u0065ld a; }", refl, refl, refl, refl, refl, ([], [], codes " { yi\\u0065ld a; }", refl, refl, refl, refl, (codes " ", codes " yi\\u0065ld a; ", [], refl, refl, refl, (codes " ", codes " a; ", refl, refl, refl, refl, refl, (codes " ", codes "; ", refl, refl, refl, refl, refl, ([], codes " ", refl, refl, refl, refl, refl, refl))), refl))))) refl refl

pub loop_that_waits_in : IsNotRead (codes "for await (a in b);")
unfolding unicode_ident longer_stands word_value is_reserved is_strict_reserved encode
loop_that_waits_in = refused (codes "for await (a in b);") (word (codes "for") (word (codes "await") (group false Round (word (codes "a") (word (codes "in") (word (codes "b") done))) (sign semicolon done)))) ([], codes " await (a in b);", refl, refl, refl, refl, refl, (codes " ", codes " (a in b);", refl, refl, refl, refl, refl, (codes " ", codes "a in b", codes ";", refl, refl, refl, ([], codes " in b", refl, refl, refl, refl, refl, (codes " ", codes " b", refl, refl, refl, refl, refl, (codes " ", [], refl, refl, refl, refl, refl, refl))), ([], [], refl, refl, refl, refl, refl, refl)))) refl refl

pub sequence_behind_of : IsNotRead (codes "for await (a of b, c);")
unfolding unicode_ident longer_stands word_value is_reserved is_strict_reserved encode
sequence_behind_of = refused (codes "for await (a of b, c);") (word (codes "for") (word (codes "await") (group false Round (word (codes "a") (word (codes "of") (word (codes "b") (sign comma (word (codes "c") done))))) (sign semicolon done)))) ([], codes " await (a of b, c);", refl, refl, refl, refl, refl, (codes " ", codes " (a of b, c);", refl, refl, refl, refl, refl, (codes " ", codes "a of b, c", codes ";", refl, refl, refl, ([], codes " of b, c", refl, refl, refl, refl, refl, (codes " ", codes " b, c", refl, refl, refl, refl, refl, (codes " ", codes ", c", refl, refl, refl, refl, refl, ([], codes " c", refl, refl, refl, refl, refl, (codes " ", [], refl, refl, refl, refl, refl, refl))))), ([], [], refl, refl, refl, refl, refl, refl)))) refl refl

pub value_before_awaited_of : IsNotRead (codes "for await (let a = b of c);")
unfolding unicode_ident longer_stands word_value is_reserved is_strict_reserved encode
value_before_awaited_of = refused (codes "for await (let a = b of c);") (word (codes "for") (word (codes "await") (group false Round (word (codes "let") (word (codes "a") (sign equal (word (codes "b") (word (codes "of") (word (codes "c") done)))))) (sign semicolon done)))) ([], codes " await (let a = b of c);", refl, refl, refl, refl, refl, (codes " ", codes " (let a = b of c);", refl, refl, refl, refl, refl, (codes " ", codes "let a = b of c", codes ";", refl, refl, refl, ([], codes " a = b of c", refl, refl, refl, refl, refl, (codes " ", codes " = b of c", refl, refl, refl, refl, refl, (codes " ", codes " b of c", refl, refl, refl, refl, refl, (codes " ", codes " of c", refl, refl, refl, refl, refl, (codes " ", codes " c", refl, refl, refl, refl, refl, (codes " ", [], refl, refl, refl, refl, refl, refl)))))), ([], [], refl, refl, refl, refl, refl, refl)))) refl refl

pub arrow_before_of : IsNotRead (codes "for (async () => {} of a);")
unfolding unicode_ident longer_stands word_value is_reserved is_strict_reserved encode
arrow_before_of = refused (codes "for (async () => {} of a);") (word (codes "for") (group false Round (word (codes "async") (group false Round done (sign arrow (group false Brace done (word (codes "of") (word (codes "a") done)))))) (sign semicolon done))) ([], codes " (async () => {} of a);", refl, refl, refl, refl, refl, (codes " ", codes "async () => {} of a", codes ";", refl, refl, refl, ([], codes " () => {} of a", refl, refl, refl, refl, refl, (codes " ", [], codes " => {} of a", refl, refl, refl, refl, (codes " ", codes " {} of a", refl, refl, refl, refl, refl, (codes " ", [], codes " of a", refl, refl, refl, refl, (codes " ", codes " a", refl, refl, refl, refl, refl, (codes " ", [], refl, refl, refl, refl, refl, refl)))))), ([], [], refl, refl, refl, refl, refl, refl))) refl refl

pub await_without_operand : IsNotRead (codes "await;")
unfolding unicode_ident longer_stands word_value is_reserved is_strict_reserved encode
await_without_operand = refused (codes "await;") (word (codes "await") (sign semicolon done)) ([], codes ";", refl, refl, refl, refl, refl, ([], [], refl, refl, refl, refl, refl, refl)) refl refl

pub await_as_label : IsNotRead (codes "await: a;")
unfolding unicode_ident longer_stands word_value is_reserved is_strict_reserved encode
await_as_label = refused (codes "await: a;") (word (codes "await") (sign colon (word (codes "a") (sign semicolon done)))) ([], codes ": a;", refl, refl, refl, refl, refl, ([], codes " a;", refl, refl, refl, refl, refl, (codes " ", codes ";", refl, refl, refl, refl, refl, ([], [], refl, refl, refl, refl, refl, refl)))) refl refl

pub update_of_await : IsNotRead (codes "++await a;")
unfolding unicode_ident longer_stands word_value is_reserved is_strict_reserved encode
update_of_await = refused (codes "++await a;") (sign plus_plus (word (codes "await") (word (codes "a") (sign semicolon done)))) ([], codes "await a;", refl, refl, refl, refl, refl, ([], codes " a;", refl, refl, refl, refl, refl, (codes " ", codes ";", refl, refl, refl, refl, refl, ([], [], refl, refl, refl, refl, refl, refl)))) refl refl

pub await_under_new : IsNotRead (codes "new await a;")
unfolding unicode_ident longer_stands word_value is_reserved is_strict_reserved encode
await_under_new = refused (codes "new await a;") (word (codes "new") (word (codes "await") (word (codes "a") (sign semicolon done)))) ([], codes " await a;", refl, refl, refl, refl, refl, (codes " ", codes " a;", refl, refl, refl, refl, refl, (codes " ", codes ";", refl, refl, refl, refl, refl, ([], [], refl, refl, refl, refl, refl, refl)))) refl refl

pub await_of_arrow : IsNotRead (codes "await async () => {};")
unfolding unicode_ident longer_stands word_value is_reserved is_strict_reserved encode
await_of_arrow = refused (codes "await async () => {};") (word (codes "await") (word (codes "async") (group false Round done (sign arrow (group false Brace done (sign semicolon done)))))) ([], codes " async () => {};", refl, refl, refl, refl, refl, (codes " ", codes " () => {};", refl, refl, refl, refl, refl, (codes " ", [], codes " => {};", refl, refl, refl, refl, (codes " ", codes " {};", refl, refl, refl, refl, refl, (codes " ", [], codes ";", refl, refl, refl, refl, ([], [], refl, refl, refl, refl, refl, refl)))))) refl refl

pub await_in_function : IsNotRead (codes "function f() { await a; }")
unfolding unicode_ident longer_stands word_value is_reserved is_strict_reserved encode
await_in_function = refused (codes "function f() { await a; }") (word (codes "function") (word (codes "f") (group false Round done (group false Brace (word (codes "await") (word (codes "a") (sign semicolon done))) done)))) ([], codes " f() { await a; }", refl, refl, refl, refl, refl, (codes " ", codes "() { await a; }", refl, refl, refl, refl, refl, ([], [], codes " { await a; }", refl, refl, refl, refl, (codes " ", codes " await a; ", [], refl, refl, refl, (codes " ", codes " a; ", refl, refl, refl, refl, refl, (codes " ", codes "; ", refl, refl, refl, refl, refl, ([], codes " ", refl, refl, refl, refl, refl, refl))), refl)))) refl refl

pub await_in_inner_arrow : IsNotRead (codes "async () => () => await a;")
unfolding unicode_ident longer_stands word_value is_reserved is_strict_reserved encode
await_in_inner_arrow = refused (codes "async () => () => await a;") (word (codes "async") (group false Round done (sign arrow (group false Round done (sign arrow (word (codes "await") (word (codes "a") (sign semicolon done)))))))) ([], codes " () => () => await a;", refl, refl, refl, refl, refl, (codes " ", [], codes " => () => await a;", refl, refl, refl, refl, (codes " ", codes " () => await a;", refl, refl, refl, refl, refl, (codes " ", [], codes " => await a;", refl, refl, refl, refl, (codes " ", codes " await a;", refl, refl, refl, refl, refl, (codes " ", codes " a;", refl, refl, refl, refl, refl, (codes " ", codes ";", refl, refl, refl, refl, refl, ([], [], refl, refl, refl, refl, refl, refl)))))))) refl refl

pub await_in_inner_function : IsNotRead (codes "async function f() { function g() { await a; } }")
unfolding unicode_ident longer_stands word_value is_reserved is_strict_reserved encode
await_in_inner_function = refused (codes "async function f() { function g() { await a; } }") (word (codes "async") (word (codes "function") (word (codes "f") (group false Round done (group false Brace (word (codes "function") (word (codes "g") (group false Round done (group false Brace (word (codes "await") (word (codes "a") (sign semicolon done))) done)))) done))))) ([], codes " function f() { function g() { await a; } }", refl, refl, refl, refl, refl, (codes " ", codes " f() { function g() { await a; } }", refl, refl, refl, refl, refl, (codes " ", codes "() { function g() { await a; } }", refl, refl, refl, refl, refl, ([], [], codes " { function g() { await a; } }", refl, refl, refl, refl, (codes " ", codes " function g() { await a; } ", [], refl, refl, refl, (codes " ", codes " g() { await a; } ", refl, refl, refl, refl, refl, (codes " ", codes "() { await a; } ", refl, refl, refl, refl, refl, ([], [], codes " { await a; } ", refl, refl, refl, refl, (codes " ", codes " await a; ", codes " ", refl, refl, refl, (codes " ", codes " a; ", refl, refl, refl, refl, refl, (codes " ", codes "; ", refl, refl, refl, refl, refl, ([], codes " ", refl, refl, refl, refl, refl, refl))), refl)))), refl))))) refl refl

pub await_among_parameters : IsNotRead (codes "(a = await b) => a;")
unfolding unicode_ident longer_stands word_value is_reserved is_strict_reserved encode
await_among_parameters = refused (codes "(a = await b) => a;") (group false Round (word (codes "a") (sign equal (word (codes "await") (word (codes "b") done)))) (sign arrow (word (codes "a") (sign semicolon done)))) ([], codes "a = await b", codes " => a;", refl, refl, refl, ([], codes " = await b", refl, refl, refl, refl, refl, (codes " ", codes " await b", refl, refl, refl, refl, refl, (codes " ", codes " b", refl, refl, refl, refl, refl, (codes " ", [], refl, refl, refl, refl, refl, refl)))), (codes " ", codes " a;", refl, refl, refl, refl, refl, (codes " ", codes ";", refl, refl, refl, refl, refl, ([], [], refl, refl, refl, refl, refl, refl)))) refl refl

pub await_among_async_parameters : IsNotRead (codes "async (a = await b) => a;")
unfolding unicode_ident longer_stands word_value is_reserved is_strict_reserved encode
await_among_async_parameters = refused (codes "async (a = await b) => a;") (word (codes "async") (group false Round (word (codes "a") (sign equal (word (codes "await") (word (codes "b") done)))) (sign arrow (word (codes "a") (sign semicolon done))))) ([], codes " (a = await b) => a;", refl, refl, refl, refl, refl, (codes " ", codes "a = await b", codes " => a;", refl, refl, refl, ([], codes " = await b", refl, refl, refl, refl, refl, (codes " ", codes " await b", refl, refl, refl, refl, refl, (codes " ", codes " b", refl, refl, refl, refl, refl, (codes " ", [], refl, refl, refl, refl, refl, refl)))), (codes " ", codes " a;", refl, refl, refl, refl, refl, (codes " ", codes ";", refl, refl, refl, refl, refl, ([], [], refl, refl, refl, refl, refl, refl))))) refl refl

pub await_in_key_of_parameter : IsNotRead (codes "async function f({[await a]: b}) {}")
unfolding unicode_ident longer_stands word_value is_reserved is_strict_reserved encode
await_in_key_of_parameter = refused (codes "async function f({[await a]: b}) {}") (word (codes "async") (word (codes "function") (word (codes "f") (group false Round (group false Brace (group false Square (word (codes "await") (word (codes "a") done)) (sign colon (word (codes "b") done))) done) (group false Brace done done))))) ([], codes " function f({[await a]: b}) {}", refl, refl, refl, refl, refl, (codes " ", codes " f({[await a]: b}) {}", refl, refl, refl, refl, refl, (codes " ", codes "({[await a]: b}) {}", refl, refl, refl, refl, refl, ([], codes "{[await a]: b}", codes " {}", refl, refl, refl, ([], codes "[await a]: b", [], refl, refl, refl, ([], codes "await a", codes ": b", refl, refl, refl, ([], codes " a", refl, refl, refl, refl, refl, (codes " ", [], refl, refl, refl, refl, refl, refl)), ([], codes " b", refl, refl, refl, refl, refl, (codes " ", [], refl, refl, refl, refl, refl, refl))), refl), (codes " ", [], [], refl, refl, refl, refl, refl))))) refl refl

pub await_as_parameter : IsNotRead (codes "async await => a;")
unfolding unicode_ident longer_stands word_value is_reserved is_strict_reserved encode
await_as_parameter = refused (codes "async await => a;") (word (codes "async") (word (codes "await") (sign arrow (word (codes "a") (sign semicolon done))))) ([], codes " await => a;", refl, refl, refl, refl, refl, (codes " ", codes " => a;", refl, refl, refl, refl, refl, (codes " ", codes " a;", refl, refl, refl, refl, refl, (codes " ", codes ";", refl, refl, refl, refl, refl, ([], [], refl, refl, refl, refl, refl, refl))))) refl refl

pub await_as_function_name : IsNotRead (codes "async function await() {}")
unfolding unicode_ident longer_stands word_value is_reserved is_strict_reserved encode
await_as_function_name = refused (codes "async function await() {}") (word (codes "async") (word (codes "function") (word (codes "await") (group false Round done (group false Brace done done))))) ([], codes " function await() {}", refl, refl, refl, refl, refl, (codes " ", codes " await() {}", refl, refl, refl, refl, refl, (codes " ", codes "() {}", refl, refl, refl, refl, refl, ([], [], codes " {}", refl, refl, refl, refl, (codes " ", [], [], refl, refl, refl, refl, refl))))) refl refl

pub arrow_behind_call : IsNotRead (codes "async\n(x) => x;")
unfolding unicode_ident longer_stands word_value is_reserved is_strict_reserved encode
arrow_behind_call = refused (codes "async\n(x) => x;") (word (codes "async") (group true Round (word (codes "x") done) (sign arrow (word (codes "x") (sign semicolon done))))) ([], codes "\n(x) => x;", refl, refl, refl, refl, refl, (codes "\n", codes "x", codes " => x;", refl, refl, refl, ([], [], refl, refl, refl, refl, refl, refl), (codes " ", codes " x;", refl, refl, refl, refl, refl, (codes " ", codes ";", refl, refl, refl, refl, refl, ([], [], refl, refl, refl, refl, refl, refl))))) refl refl

pub operand_behind_arrow : IsNotRead (codes "async () => {} || a;")
unfolding unicode_ident longer_stands word_value is_reserved is_strict_reserved encode
operand_behind_arrow = refused (codes "async () => {} || a;") (word (codes "async") (group false Round done (sign arrow (group false Brace done (sign or_or (word (codes "a") (sign semicolon done))))))) ([], codes " () => {} || a;", refl, refl, refl, refl, refl, (codes " ", [], codes " => {} || a;", refl, refl, refl, refl, (codes " ", codes " {} || a;", refl, refl, refl, refl, refl, (codes " ", [], codes " || a;", refl, refl, refl, refl, (codes " ", codes " a;", refl, refl, refl, refl, refl, (codes " ", codes ";", refl, refl, refl, refl, refl, ([], [], refl, refl, refl, refl, refl, refl))))))) refl refl

pub async_function_as_branch : IsNotRead (codes "if (a) async function f() {}")
unfolding unicode_ident longer_stands word_value is_reserved is_strict_reserved encode
async_function_as_branch = refused (codes "if (a) async function f() {}") (word (codes "if") (group false Round (word (codes "a") done) (word (codes "async") (word (codes "function") (word (codes "f") (group false Round done (group false Brace done done))))))) ([], codes " (a) async function f() {}", refl, refl, refl, refl, refl, (codes " ", codes "a", codes " async function f() {}", refl, refl, refl, ([], [], refl, refl, refl, refl, refl, refl), (codes " ", codes " function f() {}", refl, refl, refl, refl, refl, (codes " ", codes " f() {}", refl, refl, refl, refl, refl, (codes " ", codes "() {}", refl, refl, refl, refl, refl, ([], [], codes " {}", refl, refl, refl, refl, (codes " ", [], [], refl, refl, refl, refl, refl))))))) refl refl

pub label_of_generator : IsNotRead (codes "a: function* f() {}")
unfolding unicode_ident longer_stands word_value is_reserved is_strict_reserved encode
label_of_generator = refused (codes "a: function* f() {}") (word (codes "a") (sign colon (word (codes "function") (sign star (word (codes "f") (group false Round done (group false Brace done done))))))) ([], codes ": function* f() {}", refl, refl, refl, refl, refl, ([], codes " function* f() {}", refl, refl, refl, refl, refl, (codes " ", codes "* f() {}", refl, refl, refl, refl, refl, ([], codes " f() {}", refl, refl, refl, refl, refl, (codes " ", codes "() {}", refl, refl, refl, refl, refl, ([], [], codes " {}", refl, refl, refl, refl, (codes " ", [], [], refl, refl, refl, refl, refl))))))) refl refl

pub nameless_declaration : IsNotRead (codes "async function () {}")
unfolding unicode_ident longer_stands word_value is_reserved is_strict_reserved encode
nameless_declaration = refused (codes "async function () {}") (word (codes "async") (word (codes "function") (group false Round done (group false Brace done done)))) ([], codes " function () {}", refl, refl, refl, refl, refl, (codes " ", codes " () {}", refl, refl, refl, refl, refl, (codes " ", [], codes " {}", refl, refl, refl, refl, (codes " ", [], [], refl, refl, refl, refl, refl)))) refl refl

pub generator_named_yield : IsNotRead (codes "function* yield() {}")
unfolding unicode_ident longer_stands word_value is_reserved is_strict_reserved encode
generator_named_yield = refused (codes "function* yield() {}") (word (codes "function") (sign star (word (codes "yield") (group false Round done (group false Brace done done))))) ([], codes "* yield() {}", refl, refl, refl, refl, refl, ([], codes " yield() {}", refl, refl, refl, refl, refl, (codes " ", codes "() {}", refl, refl, refl, refl, refl, ([], [], codes " {}", refl, refl, refl, refl, (codes " ", [], [], refl, refl, refl, refl, refl))))) refl refl

pub star_on_next_line : IsNotRead (codes "function* g() { yield\n* a }")
unfolding unicode_ident longer_stands word_value is_reserved is_strict_reserved encode
star_on_next_line = refused (codes "function* g() { yield\n* a }") (word (codes "function") (sign star (word (codes "g") (group false Round done (group false Brace (word (codes "yield") (piece true (Sign star) (word (codes "a") done))) done))))) ([], codes "* g() { yield\n* a }", refl, refl, refl, refl, refl, ([], codes " g() { yield\n* a }", refl, refl, refl, refl, refl, (codes " ", codes "() { yield\n* a }", refl, refl, refl, refl, refl, ([], [], codes " { yield\n* a }", refl, refl, refl, refl, (codes " ", codes " yield\n* a ", [], refl, refl, refl, (codes " ", codes "\n* a ", refl, refl, refl, refl, refl, (codes "\n", codes " a ", refl, refl, refl, refl, refl, (codes " ", codes " ", refl, refl, refl, refl, refl, refl))), refl))))) refl refl

pub two_stars_of_yield : IsNotRead (codes "function* g() { yield * * a; }")
unfolding unicode_ident longer_stands word_value is_reserved is_strict_reserved encode
two_stars_of_yield = refused (codes "function* g() { yield * * a; }") (word (codes "function") (sign star (word (codes "g") (group false Round done (group false Brace (word (codes "yield") (sign star (sign star (word (codes "a") (sign semicolon done))))) done))))) ([], codes "* g() { yield * * a; }", refl, refl, refl, refl, refl, ([], codes " g() { yield * * a; }", refl, refl, refl, refl, refl, (codes " ", codes "() { yield * * a; }", refl, refl, refl, refl, refl, ([], [], codes " { yield * * a; }", refl, refl, refl, refl, (codes " ", codes " yield * * a; ", [], refl, refl, refl, (codes " ", codes " * * a; ", refl, refl, refl, refl, refl, (codes " ", codes " * a; ", refl, refl, refl, refl, refl, (codes " ", codes " a; ", refl, refl, refl, refl, refl, (codes " ", codes "; ", refl, refl, refl, refl, refl, ([], codes " ", refl, refl, refl, refl, refl, refl))))), refl))))) refl refl

pub yield_before_in : IsNotRead (codes "function* g() { yield in a; }")
unfolding unicode_ident longer_stands word_value is_reserved is_strict_reserved encode
yield_before_in = refused (codes "function* g() { yield in a; }") (word (codes "function") (sign star (word (codes "g") (group false Round done (group false Brace (word (codes "yield") (word (codes "in") (word (codes "a") (sign semicolon done)))) done))))) ([], codes "* g() { yield in a; }", refl, refl, refl, refl, refl, ([], codes " g() { yield in a; }", refl, refl, refl, refl, refl, (codes " ", codes "() { yield in a; }", refl, refl, refl, refl, refl, ([], [], codes " { yield in a; }", refl, refl, refl, refl, (codes " ", codes " yield in a; ", [], refl, refl, refl, (codes " ", codes " in a; ", refl, refl, refl, refl, refl, (codes " ", codes " a; ", refl, refl, refl, refl, refl, (codes " ", codes "; ", refl, refl, refl, refl, refl, ([], codes " ", refl, refl, refl, refl, refl, refl)))), refl))))) refl refl

pub yield_in_inner_arrow : IsNotRead (codes "function* g() { () => yield; }")
unfolding unicode_ident longer_stands word_value is_reserved is_strict_reserved encode
yield_in_inner_arrow = refused (codes "function* g() { () => yield; }") (word (codes "function") (sign star (word (codes "g") (group false Round done (group false Brace (group false Round done (sign arrow (word (codes "yield") (sign semicolon done)))) done))))) ([], codes "* g() { () => yield; }", refl, refl, refl, refl, refl, ([], codes " g() { () => yield; }", refl, refl, refl, refl, refl, (codes " ", codes "() { () => yield; }", refl, refl, refl, refl, refl, ([], [], codes " { () => yield; }", refl, refl, refl, refl, (codes " ", codes " () => yield; ", [], refl, refl, refl, (codes " ", [], codes " => yield; ", refl, refl, refl, refl, (codes " ", codes " yield; ", refl, refl, refl, refl, refl, (codes " ", codes "; ", refl, refl, refl, refl, refl, ([], codes " ", refl, refl, refl, refl, refl, refl)))), refl))))) refl refl

pub yield_among_parameters : IsNotRead (codes "function* g(a = yield) {}")
unfolding unicode_ident longer_stands word_value is_reserved is_strict_reserved encode
yield_among_parameters = refused (codes "function* g(a = yield) {}") (word (codes "function") (sign star (word (codes "g") (group false Round (word (codes "a") (sign equal (word (codes "yield") done))) (group false Brace done done))))) ([], codes "* g(a = yield) {}", refl, refl, refl, refl, refl, ([], codes " g(a = yield) {}", refl, refl, refl, refl, refl, (codes " ", codes "(a = yield) {}", refl, refl, refl, refl, refl, ([], codes "a = yield", codes " {}", refl, refl, refl, ([], codes " = yield", refl, refl, refl, refl, refl, (codes " ", codes " yield", refl, refl, refl, refl, refl, (codes " ", [], refl, refl, refl, refl, refl, refl))), (codes " ", [], [], refl, refl, refl, refl, refl))))) refl refl

pub yield_as_target : IsNotRead (codes "function* g() { [yield] = a; }")
unfolding unicode_ident longer_stands word_value is_reserved is_strict_reserved encode
yield_as_target = refused (codes "function* g() { [yield] = a; }") (word (codes "function") (sign star (word (codes "g") (group false Round done (group false Brace (group false Square (word (codes "yield") done) (sign equal (word (codes "a") (sign semicolon done)))) done))))) ([], codes "* g() { [yield] = a; }", refl, refl, refl, refl, refl, ([], codes " g() { [yield] = a; }", refl, refl, refl, refl, refl, (codes " ", codes "() { [yield] = a; }", refl, refl, refl, refl, refl, ([], [], codes " { [yield] = a; }", refl, refl, refl, refl, (codes " ", codes " [yield] = a; ", [], refl, refl, refl, (codes " ", codes "yield", codes " = a; ", refl, refl, refl, ([], [], refl, refl, refl, refl, refl, refl), (codes " ", codes " a; ", refl, refl, refl, refl, refl, (codes " ", codes "; ", refl, refl, refl, refl, refl, ([], codes " ", refl, refl, refl, refl, refl, refl)))), refl))))) refl refl

pub await_in_generator : IsNotRead (codes "function* g() { await a; }")
unfolding unicode_ident longer_stands word_value is_reserved is_strict_reserved encode
await_in_generator = refused (codes "function* g() { await a; }") (word (codes "function") (sign star (word (codes "g") (group false Round done (group false Brace (word (codes "await") (word (codes "a") (sign semicolon done))) done))))) ([], codes "* g() { await a; }", refl, refl, refl, refl, refl, ([], codes " g() { await a; }", refl, refl, refl, refl, refl, (codes " ", codes "() { await a; }", refl, refl, refl, refl, refl, ([], [], codes " { await a; }", refl, refl, refl, refl, (codes " ", codes " await a; ", [], refl, refl, refl, (codes " ", codes " a; ", refl, refl, refl, refl, refl, (codes " ", codes "; ", refl, refl, refl, refl, refl, ([], codes " ", refl, refl, refl, refl, refl, refl))), refl))))) refl refl

pub await_of_yield : IsNotRead (codes "async function* g() { await yield a; }")
unfolding unicode_ident longer_stands word_value is_reserved is_strict_reserved encode
await_of_yield = refused (codes "async function* g() { await yield a; }") (word (codes "async") (word (codes "function") (sign star (word (codes "g") (group false Round done (group false Brace (word (codes "await") (word (codes "yield") (word (codes "a") (sign semicolon done)))) done)))))) ([], codes " function* g() { await yield a; }", refl, refl, refl, refl, refl, (codes " ", codes "* g() { await yield a; }", refl, refl, refl, refl, refl, ([], codes " g() { await yield a; }", refl, refl, refl, refl, refl, (codes " ", codes "() { await yield a; }", refl, refl, refl, refl, refl, ([], [], codes " { await yield a; }", refl, refl, refl, refl, (codes " ", codes " await yield a; ", [], refl, refl, refl, (codes " ", codes " yield a; ", refl, refl, refl, refl, refl, (codes " ", codes " a; ", refl, refl, refl, refl, refl, (codes " ", codes "; ", refl, refl, refl, refl, refl, ([], codes " ", refl, refl, refl, refl, refl, refl)))), refl)))))) refl refl

pub async_method_on_two_lines : IsNotRead (codes "({async\na() {}});")
unfolding unicode_ident longer_stands word_value is_reserved is_strict_reserved encode
async_method_on_two_lines = refused (codes "({async\na() {}});") (group false Round (group false Brace (word (codes "async") (piece true (Word (codes "a")) (group false Round done (group false Brace done done)))) done) (sign semicolon done)) ([], codes "{async\na() {}}", codes ";", refl, refl, refl, ([], codes "async\na() {}", [], refl, refl, refl, ([], codes "\na() {}", refl, refl, refl, refl, refl, (codes "\n", codes "() {}", refl, refl, refl, refl, refl, ([], [], codes " {}", refl, refl, refl, refl, (codes " ", [], [], refl, refl, refl, refl, refl)))), refl), ([], [], refl, refl, refl, refl, refl, refl)) refl refl

pub async_generator_on_two_lines : IsNotRead (codes "({async\n*a() {}});")
unfolding unicode_ident longer_stands word_value is_reserved is_strict_reserved encode
async_generator_on_two_lines = refused (codes "({async\n*a() {}});") (group false Round (group false Brace (word (codes "async") (piece true (Sign star) (word (codes "a") (group false Round done (group false Brace done done))))) done) (sign semicolon done)) ([], codes "{async\n*a() {}}", codes ";", refl, refl, refl, ([], codes "async\n*a() {}", [], refl, refl, refl, ([], codes "\n*a() {}", refl, refl, refl, refl, refl, (codes "\n", codes "a() {}", refl, refl, refl, refl, refl, ([], codes "() {}", refl, refl, refl, refl, refl, ([], [], codes " {}", refl, refl, refl, refl, (codes " ", [], [], refl, refl, refl, refl, refl))))), refl), ([], [], refl, refl, refl, refl, refl, refl)) refl refl

pub accessor_with_star : IsNotRead (codes "({get *a() {}});")
unfolding unicode_ident longer_stands word_value is_reserved is_strict_reserved encode
accessor_with_star = refused (codes "({get *a() {}});") (group false Round (group false Brace (word (codes "get") (sign star (word (codes "a") (group false Round done (group false Brace done done))))) done) (sign semicolon done)) ([], codes "{get *a() {}}", codes ";", refl, refl, refl, ([], codes "get *a() {}", [], refl, refl, refl, ([], codes " *a() {}", refl, refl, refl, refl, refl, (codes " ", codes "a() {}", refl, refl, refl, refl, refl, ([], codes "() {}", refl, refl, refl, refl, refl, ([], [], codes " {}", refl, refl, refl, refl, (codes " ", [], [], refl, refl, refl, refl, refl))))), refl), ([], [], refl, refl, refl, refl, refl, refl)) refl refl

pub value_behind_async : IsNotRead (codes "({async a: b});")
unfolding unicode_ident longer_stands word_value is_reserved is_strict_reserved encode
value_behind_async = refused (codes "({async a: b});") (group false Round (group false Brace (word (codes "async") (word (codes "a") (sign colon (word (codes "b") done)))) done) (sign semicolon done)) ([], codes "{async a: b}", codes ";", refl, refl, refl, ([], codes "async a: b", [], refl, refl, refl, ([], codes " a: b", refl, refl, refl, refl, refl, (codes " ", codes ": b", refl, refl, refl, refl, refl, ([], codes " b", refl, refl, refl, refl, refl, (codes " ", [], refl, refl, refl, refl, refl, refl)))), refl), ([], [], refl, refl, refl, refl, refl, refl)) refl refl

pub star_alone : IsNotRead (codes "({*a});")
unfolding unicode_ident longer_stands word_value is_reserved is_strict_reserved encode
star_alone = refused (codes "({*a});") (group false Round (group false Brace (sign star (word (codes "a") done)) done) (sign semicolon done)) ([], codes "{*a}", codes ";", refl, refl, refl, ([], codes "*a", [], refl, refl, refl, ([], codes "a", refl, refl, refl, refl, refl, ([], [], refl, refl, refl, refl, refl, refl)), refl), ([], [], refl, refl, refl, refl, refl, refl)) refl refl

pub escaped_static : IsNotRead (codes "class A { st\\u0061tic a() {} }")
unfolding unicode_ident longer_stands word_value is_reserved is_strict_reserved encode
escaped_static = refused (codes "class A { st\\u0061tic a() {} }") (word (codes "class") (word (codes "A") (group false Brace (word (codes "st\\u0061tic") (word (codes "a") (group false Round done (group false Brace done done)))) done))) ([], codes " A { st\\u0061tic a() {} }", refl, refl, refl, refl, refl, (codes " ", codes " { st\\u0061tic a() {} }", refl, refl, refl, refl, refl, (codes " ", codes " st\\u0061tic a() {} ", [], refl, refl, refl, (codes " ", codes " a() {} ", refl, refl, refl, refl, refl, (codes " ", codes "() {} ", refl, refl, refl, refl, refl, ([], [], codes " {} ", refl, refl, refl, refl, (codes " ", [], codes " ", refl, refl, refl, refl, refl)))), refl))) refl refl

pub two_fields_on_one_line : IsNotRead (codes "class A { a = 1 b = 2 }")
unfolding unicode_ident longer_stands word_value is_reserved is_strict_reserved encode longer_number_stands spells_number
two_fields_on_one_line = refused (codes "class A { a = 1 b = 2 }") (word (codes "class") (word (codes "A") (group false Brace (word (codes "a") (sign equal (piece false (Number (codes "1")) (word (codes "b") (sign equal (piece false (Number (codes "2")) done)))))) done))) ([], codes " A { a = 1 b = 2 }", refl, refl, refl, refl, refl, (codes " ", codes " { a = 1 b = 2 }", refl, refl, refl, refl, refl, (codes " ", codes " a = 1 b = 2 ", [], refl, refl, refl, (codes " ", codes " = 1 b = 2 ", refl, refl, refl, refl, refl, (codes " ", codes " 1 b = 2 ", refl, refl, refl, refl, refl, (codes " ", codes " b = 2 ", refl, refl, refl, refl, refl, (codes " ", codes " = 2 ", refl, refl, refl, refl, refl, (codes " ", codes " 2 ", refl, refl, refl, refl, refl, (codes " ", codes " ", refl, refl, refl, refl, refl, refl)))))), refl))) refl refl

pub two_extended : IsNotRead (codes "class A extends B, C {}")
unfolding unicode_ident longer_stands word_value is_reserved is_strict_reserved encode
two_extended = refused (codes "class A extends B, C {}") (word (codes "class") (word (codes "A") (word (codes "extends") (word (codes "B") (sign comma (word (codes "C") (group false Brace done done))))))) ([], codes " A extends B, C {}", refl, refl, refl, refl, refl, (codes " ", codes " extends B, C {}", refl, refl, refl, refl, refl, (codes " ", codes " B, C {}", refl, refl, refl, refl, refl, (codes " ", codes ", C {}", refl, refl, refl, refl, refl, ([], codes " C {}", refl, refl, refl, refl, refl, (codes " ", codes " {}", refl, refl, refl, refl, refl, (codes " ", [], [], refl, refl, refl, refl, refl))))))) refl refl

pub assignment_extended : IsNotRead (codes "class A extends a = b {}")
unfolding unicode_ident longer_stands word_value is_reserved is_strict_reserved encode
assignment_extended = refused (codes "class A extends a = b {}") (word (codes "class") (word (codes "A") (word (codes "extends") (word (codes "a") (sign equal (word (codes "b") (group false Brace done done))))))) ([], codes " A extends a = b {}", refl, refl, refl, refl, refl, (codes " ", codes " extends a = b {}", refl, refl, refl, refl, refl, (codes " ", codes " a = b {}", refl, refl, refl, refl, refl, (codes " ", codes " = b {}", refl, refl, refl, refl, refl, (codes " ", codes " b {}", refl, refl, refl, refl, refl, (codes " ", codes " {}", refl, refl, refl, refl, refl, (codes " ", [], [], refl, refl, refl, refl, refl))))))) refl refl

pub arrow_extended : IsNotRead (codes "class A extends a => a {}")
unfolding unicode_ident longer_stands word_value is_reserved is_strict_reserved encode
arrow_extended = refused (codes "class A extends a => a {}") (word (codes "class") (word (codes "A") (word (codes "extends") (word (codes "a") (sign arrow (word (codes "a") (group false Brace done done))))))) ([], codes " A extends a => a {}", refl, refl, refl, refl, refl, (codes " ", codes " extends a => a {}", refl, refl, refl, refl, refl, (codes " ", codes " a => a {}", refl, refl, refl, refl, refl, (codes " ", codes " => a {}", refl, refl, refl, refl, refl, (codes " ", codes " a {}", refl, refl, refl, refl, refl, (codes " ", codes " {}", refl, refl, refl, refl, refl, (codes " ", [], [], refl, refl, refl, refl, refl))))))) refl refl

pub sign_extended : IsNotRead (codes "class A extends -a {}")
unfolding unicode_ident longer_stands word_value is_reserved is_strict_reserved encode
sign_extended = refused (codes "class A extends -a {}") (word (codes "class") (word (codes "A") (word (codes "extends") (sign minus (word (codes "a") (group false Brace done done)))))) ([], codes " A extends -a {}", refl, refl, refl, refl, refl, (codes " ", codes " extends -a {}", refl, refl, refl, refl, refl, (codes " ", codes " -a {}", refl, refl, refl, refl, refl, (codes " ", codes "a {}", refl, refl, refl, refl, refl, ([], codes " {}", refl, refl, refl, refl, refl, (codes " ", [], [], refl, refl, refl, refl, refl)))))) refl refl

pub await_in_field : IsNotRead (codes "class A { x = await 1 }")
unfolding unicode_ident longer_stands word_value is_reserved is_strict_reserved encode longer_number_stands spells_number
await_in_field = refused (codes "class A { x = await 1 }") (word (codes "class") (word (codes "A") (group false Brace (word (codes "x") (sign equal (word (codes "await") (piece false (Number (codes "1")) done)))) done))) ([], codes " A { x = await 1 }", refl, refl, refl, refl, refl, (codes " ", codes " { x = await 1 }", refl, refl, refl, refl, refl, (codes " ", codes " x = await 1 ", [], refl, refl, refl, (codes " ", codes " = await 1 ", refl, refl, refl, refl, refl, (codes " ", codes " await 1 ", refl, refl, refl, refl, refl, (codes " ", codes " 1 ", refl, refl, refl, refl, refl, (codes " ", codes " ", refl, refl, refl, refl, refl, refl)))), refl))) refl refl

pub await_in_static_block : IsNotRead (codes "class A { static { await a; } }")
unfolding unicode_ident longer_stands word_value is_reserved is_strict_reserved encode
await_in_static_block = refused (codes "class A { static { await a; } }") (word (codes "class") (word (codes "A") (group false Brace (word (codes "static") (group false Brace (word (codes "await") (word (codes "a") (sign semicolon done))) done)) done))) ([], codes " A { static { await a; } }", refl, refl, refl, refl, refl, (codes " ", codes " { static { await a; } }", refl, refl, refl, refl, refl, (codes " ", codes " static { await a; } ", [], refl, refl, refl, (codes " ", codes " { await a; } ", refl, refl, refl, refl, refl, (codes " ", codes " await a; ", codes " ", refl, refl, refl, (codes " ", codes " a; ", refl, refl, refl, refl, refl, (codes " ", codes "; ", refl, refl, refl, refl, refl, ([], codes " ", refl, refl, refl, refl, refl, refl))), refl)), refl))) refl refl

pub return_in_static_block : IsNotRead (codes "class A { static { return; } }")
unfolding unicode_ident longer_stands word_value is_reserved is_strict_reserved encode
return_in_static_block = refused (codes "class A { static { return; } }") (word (codes "class") (word (codes "A") (group false Brace (word (codes "static") (group false Brace (word (codes "return") (sign semicolon done)) done)) done))) ([], codes " A { static { return; } }", refl, refl, refl, refl, refl, (codes " ", codes " { static { return; } }", refl, refl, refl, refl, refl, (codes " ", codes " static { return; } ", [], refl, refl, refl, (codes " ", codes " { return; } ", refl, refl, refl, refl, refl, (codes " ", codes " return; ", codes " ", refl, refl, refl, (codes " ", codes "; ", refl, refl, refl, refl, refl, ([], codes " ", refl, refl, refl, refl, refl, refl)), refl)), refl))) refl refl

pub yield_in_field : IsNotRead (codes "function* g() { class A { a = yield } }")
unfolding unicode_ident longer_stands word_value is_reserved is_strict_reserved encode
yield_in_field = refused (codes "function* g() { class A { a = yield } }") (word (codes "function") (sign star (word (codes "g") (group false Round done (group false Brace (word (codes "class") (word (codes "A") (group false Brace (word (codes "a") (sign equal (word (codes "yield") done))) done))) done))))) ([], codes "* g() { class A { a = yield } }", refl, refl, refl, refl, refl, ([], codes " g() { class A { a = yield } }", refl, refl, refl, refl, refl, (codes " ", codes "() { class A { a = yield } }", refl, refl, refl, refl, refl, ([], [], codes " { class A { a = yield } }", refl, refl, refl, refl, (codes " ", codes " class A { a = yield } ", [], refl, refl, refl, (codes " ", codes " A { a = yield } ", refl, refl, refl, refl, refl, (codes " ", codes " { a = yield } ", refl, refl, refl, refl, refl, (codes " ", codes " a = yield ", codes " ", refl, refl, refl, (codes " ", codes " = yield ", refl, refl, refl, refl, refl, (codes " ", codes " yield ", refl, refl, refl, refl, refl, (codes " ", codes " ", refl, refl, refl, refl, refl, refl))), refl))), refl))))) refl refl

pub three_statics : IsNotRead (codes "class A { static static static }")
unfolding unicode_ident longer_stands word_value is_reserved is_strict_reserved encode
three_statics = refused (codes "class A { static static static }") (word (codes "class") (word (codes "A") (group false Brace (word (codes "static") (word (codes "static") (word (codes "static") done))) done))) ([], codes " A { static static static }", refl, refl, refl, refl, refl, (codes " ", codes " { static static static }", refl, refl, refl, refl, refl, (codes " ", codes " static static static ", [], refl, refl, refl, (codes " ", codes " static static ", refl, refl, refl, refl, refl, (codes " ", codes " static ", refl, refl, refl, refl, refl, (codes " ", codes " ", refl, refl, refl, refl, refl, refl))), refl))) refl refl

pub getter_without_parameters : IsNotRead (codes "class A { get\na }")
unfolding unicode_ident longer_stands word_value is_reserved is_strict_reserved encode
getter_without_parameters = refused (codes "class A { get\na }") (word (codes "class") (word (codes "A") (group false Brace (word (codes "get") (piece true (Word (codes "a")) done)) done))) ([], codes " A { get\na }", refl, refl, refl, refl, refl, (codes " ", codes " { get\na }", refl, refl, refl, refl, refl, (codes " ", codes " get\na ", [], refl, refl, refl, (codes " ", codes "\na ", refl, refl, refl, refl, refl, (codes "\n", codes " ", refl, refl, refl, refl, refl, refl)), refl))) refl refl

pub commas_between_members : IsNotRead (codes "class A { a() {}, b() {} }")
unfolding unicode_ident longer_stands word_value is_reserved is_strict_reserved encode
commas_between_members = refused (codes "class A { a() {}, b() {} }") (word (codes "class") (word (codes "A") (group false Brace (word (codes "a") (group false Round done (group false Brace done (sign comma (word (codes "b") (group false Round done (group false Brace done done))))))) done))) ([], codes " A { a() {}, b() {} }", refl, refl, refl, refl, refl, (codes " ", codes " { a() {}, b() {} }", refl, refl, refl, refl, refl, (codes " ", codes " a() {}, b() {} ", [], refl, refl, refl, (codes " ", codes "() {}, b() {} ", refl, refl, refl, refl, refl, ([], [], codes " {}, b() {} ", refl, refl, refl, refl, (codes " ", [], codes ", b() {} ", refl, refl, refl, refl, ([], codes " b() {} ", refl, refl, refl, refl, refl, (codes " ", codes "() {} ", refl, refl, refl, refl, refl, ([], [], codes " {} ", refl, refl, refl, refl, (codes " ", [], codes " ", refl, refl, refl, refl, refl))))))), refl))) refl refl

pub operator_behind_key : IsNotRead (codes "class A { a in b }")
unfolding unicode_ident longer_stands word_value is_reserved is_strict_reserved encode
operator_behind_key = refused (codes "class A { a in b }") (word (codes "class") (word (codes "A") (group false Brace (word (codes "a") (word (codes "in") (word (codes "b") done))) done))) ([], codes " A { a in b }", refl, refl, refl, refl, refl, (codes " ", codes " { a in b }", refl, refl, refl, refl, refl, (codes " ", codes " a in b ", [], refl, refl, refl, (codes " ", codes " in b ", refl, refl, refl, refl, refl, (codes " ", codes " b ", refl, refl, refl, refl, refl, (codes " ", codes " ", refl, refl, refl, refl, refl, refl))), refl))) refl refl

pub class_as_target : IsNotRead (codes "for (class {} of a);")
unfolding unicode_ident longer_stands word_value is_reserved is_strict_reserved encode
class_as_target = refused (codes "for (class {} of a);") (word (codes "for") (group false Round (word (codes "class") (group false Brace done (word (codes "of") (word (codes "a") done)))) (sign semicolon done))) ([], codes " (class {} of a);", refl, refl, refl, refl, refl, (codes " ", codes "class {} of a", codes ";", refl, refl, refl, ([], codes " {} of a", refl, refl, refl, refl, refl, (codes " ", [], codes " of a", refl, refl, refl, refl, (codes " ", codes " a", refl, refl, refl, refl, refl, (codes " ", [], refl, refl, refl, refl, refl, refl)))), ([], [], refl, refl, refl, refl, refl, refl))) refl refl

pub nameless_class_declaration : IsNotRead (codes "class {}")
unfolding unicode_ident longer_stands word_value is_reserved is_strict_reserved encode
nameless_class_declaration = refused (codes "class {}") (word (codes "class") (group false Brace done done)) ([], codes " {}", refl, refl, refl, refl, refl, (codes " ", [], [], refl, refl, refl, refl, refl)) refl refl

pub class_named_static : IsNotRead (codes "class static {}")
unfolding unicode_ident longer_stands word_value is_reserved is_strict_reserved encode
class_named_static = refused (codes "class static {}") (word (codes "class") (word (codes "static") (group false Brace done done))) ([], codes " static {}", refl, refl, refl, refl, refl, (codes " ", codes " {}", refl, refl, refl, refl, refl, (codes " ", [], [], refl, refl, refl, refl, refl))) refl refl

pub member_of_declaration : IsNotRead (codes "class {}.a;")
unfolding unicode_ident longer_stands word_value is_reserved is_strict_reserved encode
member_of_declaration = refused (codes "class {}.a;") (word (codes "class") (group false Brace done (sign dot (word (codes "a") (sign semicolon done))))) ([], codes " {}.a;", refl, refl, refl, refl, refl, (codes " ", [], codes ".a;", refl, refl, refl, refl, ([], codes "a;", refl, refl, refl, refl, refl, ([], codes ";", refl, refl, refl, refl, refl, ([], [], refl, refl, refl, refl, refl, refl))))) refl refl

pub class_as_branch : IsNotRead (codes "if (a) class A {}")
unfolding unicode_ident longer_stands word_value is_reserved is_strict_reserved encode
class_as_branch = refused (codes "if (a) class A {}") (word (codes "if") (group false Round (word (codes "a") done) (word (codes "class") (word (codes "A") (group false Brace done done))))) ([], codes " (a) class A {}", refl, refl, refl, refl, refl, (codes " ", codes "a", codes " class A {}", refl, refl, refl, ([], [], refl, refl, refl, refl, refl, refl), (codes " ", codes " A {}", refl, refl, refl, refl, refl, (codes " ", codes " {}", refl, refl, refl, refl, refl, (codes " ", [], [], refl, refl, refl, refl, refl))))) refl refl

pub escaped_as : IsNotRead (codes "import {a \\u0061s b} from \"x\";")
unfolding unicode_ident longer_stands word_value is_reserved is_strict_reserved encode string_value
escaped_as = refused (codes "import {a \\u0061s b} from \"x\";") (word (codes "import") (group false Brace (word (codes "a") (word (codes "\\u0061s") (word (codes "b") done))) (word (codes "from") (piece false (Quoted Double (codes "x")) (sign semicolon done))))) ([], codes " {a \\u0061s b} from \"x\";", refl, refl, refl, refl, refl, (codes " ", codes "a \\u0061s b", codes " from \"x\";", refl, refl, refl, ([], codes " \\u0061s b", refl, refl, refl, refl, refl, (codes " ", codes " b", refl, refl, refl, refl, refl, (codes " ", [], refl, refl, refl, refl, refl, refl))), (codes " ", codes " \"x\";", refl, refl, refl, refl, refl, (codes " ", codes ";", refl, refl, refl, refl, refl, ([], [], refl, refl, refl, refl, refl, refl))))) refl refl

pub escaped_from : IsNotRead (codes "import a fr\\u006Fm \"x\";")
unfolding unicode_ident longer_stands word_value is_reserved is_strict_reserved encode string_value
escaped_from = refused (codes "import a fr\\u006Fm \"x\";") (word (codes "import") (word (codes "a") (word (codes "fr\\u006Fm") (piece false (Quoted Double (codes "x")) (sign semicolon done))))) ([], codes " a fr\\u006Fm \"x\";", refl, refl, refl, refl, refl, (codes " ", codes " fr\\u006Fm \"x\";", refl, refl, refl, refl, refl, (codes " ", codes " \"x\";", refl, refl, refl, refl, refl, (codes " ", codes ";", refl, refl, refl, refl, refl, ([], [], refl, refl, refl, refl, refl, refl))))) refl refl

pub string_bound : IsNotRead (codes "import {\"c\"} from \"x\";")
unfolding unicode_ident longer_stands word_value is_reserved is_strict_reserved encode string_value
string_bound = refused (codes "import {\"c\"} from \"x\";") (word (codes "import") (group false Brace (piece false (Quoted Double (codes "c")) done) (word (codes "from") (piece false (Quoted Double (codes "x")) (sign semicolon done))))) ([], codes " {\"c\"} from \"x\";", refl, refl, refl, refl, refl, (codes " ", codes "\"c\"", codes " from \"x\";", refl, refl, refl, ([], [], refl, refl, refl, refl, refl, refl), (codes " ", codes " \"x\";", refl, refl, refl, refl, refl, (codes " ", codes ";", refl, refl, refl, refl, refl, ([], [], refl, refl, refl, refl, refl, refl))))) refl refl

pub names_before_default : IsNotRead (codes "import {a}, b from \"x\";")
unfolding unicode_ident longer_stands word_value is_reserved is_strict_reserved encode string_value
names_before_default = refused (codes "import {a}, b from \"x\";") (word (codes "import") (group false Brace (word (codes "a") done) (sign comma (word (codes "b") (word (codes "from") (piece false (Quoted Double (codes "x")) (sign semicolon done))))))) ([], codes " {a}, b from \"x\";", refl, refl, refl, refl, refl, (codes " ", codes "a", codes ", b from \"x\";", refl, refl, refl, ([], [], refl, refl, refl, refl, refl, refl), ([], codes " b from \"x\";", refl, refl, refl, refl, refl, (codes " ", codes " from \"x\";", refl, refl, refl, refl, refl, (codes " ", codes " \"x\";", refl, refl, refl, refl, refl, (codes " ", codes ";", refl, refl, refl, refl, refl, ([], [], refl, refl, refl, refl, refl, refl))))))) refl refl

pub namespace_without_name : IsNotRead (codes "import * from \"x\";")
unfolding unicode_ident longer_stands word_value is_reserved is_strict_reserved encode string_value
namespace_without_name = refused (codes "import * from \"x\";") (word (codes "import") (sign star (word (codes "from") (piece false (Quoted Double (codes "x")) (sign semicolon done))))) ([], codes " * from \"x\";", refl, refl, refl, refl, refl, (codes " ", codes " from \"x\";", refl, refl, refl, refl, refl, (codes " ", codes " \"x\";", refl, refl, refl, refl, refl, (codes " ", codes ";", refl, refl, refl, refl, refl, ([], [], refl, refl, refl, refl, refl, refl))))) refl refl

pub comma_before_from : IsNotRead (codes "import a, from \"x\";")
unfolding unicode_ident longer_stands word_value is_reserved is_strict_reserved encode string_value
comma_before_from = refused (codes "import a, from \"x\";") (word (codes "import") (word (codes "a") (sign comma (word (codes "from") (piece false (Quoted Double (codes "x")) (sign semicolon done)))))) ([], codes " a, from \"x\";", refl, refl, refl, refl, refl, (codes " ", codes ", from \"x\";", refl, refl, refl, refl, refl, ([], codes " from \"x\";", refl, refl, refl, refl, refl, (codes " ", codes " \"x\";", refl, refl, refl, refl, refl, (codes " ", codes ";", refl, refl, refl, refl, refl, ([], [], refl, refl, refl, refl, refl, refl)))))) refl refl

pub source_without_quotes : IsNotRead (codes "import a from x;")
unfolding unicode_ident longer_stands word_value is_reserved is_strict_reserved encode
source_without_quotes = refused (codes "import a from x;") (word (codes "import") (word (codes "a") (word (codes "from") (word (codes "x") (sign semicolon done))))) ([], codes " a from x;", refl, refl, refl, refl, refl, (codes " ", codes " from x;", refl, refl, refl, refl, refl, (codes " ", codes " x;", refl, refl, refl, refl, refl, (codes " ", codes ";", refl, refl, refl, refl, refl, ([], [], refl, refl, refl, refl, refl, refl))))) refl refl

pub reserved_bound : IsNotRead (codes "import {a as if} from \"x\";")
unfolding unicode_ident longer_stands word_value is_reserved is_strict_reserved encode string_value
reserved_bound = refused (codes "import {a as if} from \"x\";") (word (codes "import") (group false Brace (word (codes "a") (word (codes "as") (word (codes "if") done))) (word (codes "from") (piece false (Quoted Double (codes "x")) (sign semicolon done))))) ([], codes " {a as if} from \"x\";", refl, refl, refl, refl, refl, (codes " ", codes "a as if", codes " from \"x\";", refl, refl, refl, ([], codes " as if", refl, refl, refl, refl, refl, (codes " ", codes " if", refl, refl, refl, refl, refl, (codes " ", [], refl, refl, refl, refl, refl, refl))), (codes " ", codes " \"x\";", refl, refl, refl, refl, refl, (codes " ", codes ";", refl, refl, refl, refl, refl, ([], [], refl, refl, refl, refl, refl, refl))))) refl refl

pub await_bound : IsNotRead (codes "import await from \"x\";")
unfolding unicode_ident longer_stands word_value is_reserved is_strict_reserved encode string_value
await_bound = refused (codes "import await from \"x\";") (word (codes "import") (word (codes "await") (word (codes "from") (piece false (Quoted Double (codes "x")) (sign semicolon done))))) ([], codes " await from \"x\";", refl, refl, refl, refl, refl, (codes " ", codes " from \"x\";", refl, refl, refl, refl, refl, (codes " ", codes " \"x\";", refl, refl, refl, refl, refl, (codes " ", codes ";", refl, refl, refl, refl, refl, ([], [], refl, refl, refl, refl, refl, refl))))) refl refl

pub import_in_block : IsNotRead (codes "{ import \"x\"; }")
unfolding unicode_ident longer_stands word_value is_reserved is_strict_reserved encode string_value
import_in_block = refused (codes "{ import \"x\"; }") (group false Brace (word (codes "import") (piece false (Quoted Double (codes "x")) (sign semicolon done))) done) ([], codes " import \"x\"; ", [], refl, refl, refl, (codes " ", codes " \"x\"; ", refl, refl, refl, refl, refl, (codes " ", codes "; ", refl, refl, refl, refl, refl, ([], codes " ", refl, refl, refl, refl, refl, refl))), refl) refl refl

pub import_as_branch : IsNotRead (codes "if (a) import \"x\";")
unfolding unicode_ident longer_stands word_value is_reserved is_strict_reserved encode string_value
import_as_branch = refused (codes "if (a) import \"x\";") (word (codes "if") (group false Round (word (codes "a") done) (word (codes "import") (piece false (Quoted Double (codes "x")) (sign semicolon done))))) ([], codes " (a) import \"x\";", refl, refl, refl, refl, refl, (codes " ", codes "a", codes " import \"x\";", refl, refl, refl, ([], [], refl, refl, refl, refl, refl, refl), (codes " ", codes " \"x\";", refl, refl, refl, refl, refl, (codes " ", codes ";", refl, refl, refl, refl, refl, ([], [], refl, refl, refl, refl, refl, refl))))) refl refl

pub attribute_with_number : IsNotRead (codes "import \"x\" with {a: 1};")
unfolding unicode_ident longer_stands word_value is_reserved is_strict_reserved encode string_value longer_number_stands spells_number
attribute_with_number = refused (codes "import \"x\" with {a: 1};") (word (codes "import") (piece false (Quoted Double (codes "x")) (word (codes "with") (group false Brace (word (codes "a") (sign colon (piece false (Number (codes "1")) done))) (sign semicolon done))))) ([], codes " \"x\" with {a: 1};", refl, refl, refl, refl, refl, (codes " ", codes " with {a: 1};", refl, refl, refl, refl, refl, (codes " ", codes " {a: 1};", refl, refl, refl, refl, refl, (codes " ", codes "a: 1", codes ";", refl, refl, refl, ([], codes ": 1", refl, refl, refl, refl, refl, ([], codes " 1", refl, refl, refl, refl, refl, (codes " ", [], refl, refl, refl, refl, refl, refl))), ([], [], refl, refl, refl, refl, refl, refl))))) refl refl

pub string_exported : IsNotRead (codes "export {\"c\"};")
unfolding unicode_ident longer_stands word_value is_reserved is_strict_reserved encode string_value
string_exported = refused (codes "export {\"c\"};") (word (codes "export") (group false Brace (piece false (Quoted Double (codes "c")) done) (sign semicolon done))) ([], codes " {\"c\"};", refl, refl, refl, refl, refl, (codes " ", codes "\"c\"", codes ";", refl, refl, refl, ([], [], refl, refl, refl, refl, refl, refl), ([], [], refl, refl, refl, refl, refl, refl))) refl refl

pub reserved_exported : IsNotRead (codes "export {if};")
unfolding unicode_ident longer_stands word_value is_reserved is_strict_reserved encode
reserved_exported = refused (codes "export {if};") (word (codes "export") (group false Brace (word (codes "if") done) (sign semicolon done))) ([], codes " {if};", refl, refl, refl, refl, refl, (codes " ", codes "if", codes ";", refl, refl, refl, ([], [], refl, refl, refl, refl, refl, refl), ([], [], refl, refl, refl, refl, refl, refl))) refl refl

pub attributes_without_source : IsNotRead (codes "export {} with {a: \"b\"};")
unfolding unicode_ident longer_stands word_value is_reserved is_strict_reserved encode string_value
attributes_without_source = refused (codes "export {} with {a: \"b\"};") (word (codes "export") (group false Brace done (word (codes "with") (group false Brace (word (codes "a") (sign colon (piece false (Quoted Double (codes "b")) done))) (sign semicolon done))))) ([], codes " {} with {a: \"b\"};", refl, refl, refl, refl, refl, (codes " ", [], codes " with {a: \"b\"};", refl, refl, refl, refl, (codes " ", codes " {a: \"b\"};", refl, refl, refl, refl, refl, (codes " ", codes "a: \"b\"", codes ";", refl, refl, refl, ([], codes ": \"b\"", refl, refl, refl, refl, refl, ([], codes " \"b\"", refl, refl, refl, refl, refl, (codes " ", [], refl, refl, refl, refl, refl, refl))), ([], [], refl, refl, refl, refl, refl, refl))))) refl refl

pub all_without_source : IsNotRead (codes "export * as a;")
unfolding unicode_ident longer_stands word_value is_reserved is_strict_reserved encode
all_without_source = refused (codes "export * as a;") (word (codes "export") (sign star (word (codes "as") (word (codes "a") (sign semicolon done))))) ([], codes " * as a;", refl, refl, refl, refl, refl, (codes " ", codes " as a;", refl, refl, refl, refl, refl, (codes " ", codes " a;", refl, refl, refl, refl, refl, (codes " ", codes ";", refl, refl, refl, refl, refl, ([], [], refl, refl, refl, refl, refl, refl))))) refl refl

pub reference_exported : IsNotRead (codes "export a;")
unfolding unicode_ident longer_stands word_value is_reserved is_strict_reserved encode
reference_exported = refused (codes "export a;") (word (codes "export") (word (codes "a") (sign semicolon done))) ([], codes " a;", refl, refl, refl, refl, refl, (codes " ", codes ";", refl, refl, refl, refl, refl, ([], [], refl, refl, refl, refl, refl, refl))) refl refl

pub async_export_on_two_lines : IsNotRead (codes "export async\nfunction f() {}")
unfolding unicode_ident longer_stands word_value is_reserved is_strict_reserved encode
async_export_on_two_lines = refused (codes "export async\nfunction f() {}") (word (codes "export") (word (codes "async") (piece true (Word (codes "function")) (word (codes "f") (group false Round done (group false Brace done done)))))) ([], codes " async\nfunction f() {}", refl, refl, refl, refl, refl, (codes " ", codes "\nfunction f() {}", refl, refl, refl, refl, refl, (codes "\n", codes " f() {}", refl, refl, refl, refl, refl, (codes " ", codes "() {}", refl, refl, refl, refl, refl, ([], [], codes " {}", refl, refl, refl, refl, (codes " ", [], [], refl, refl, refl, refl, refl)))))) refl refl

pub nameless_function_exported : IsNotRead (codes "export function () {}")
unfolding unicode_ident longer_stands word_value is_reserved is_strict_reserved encode
nameless_function_exported = refused (codes "export function () {}") (word (codes "export") (word (codes "function") (group false Round done (group false Brace done done)))) ([], codes " function () {}", refl, refl, refl, refl, refl, (codes " ", codes " () {}", refl, refl, refl, refl, refl, (codes " ", [], codes " {}", refl, refl, refl, refl, (codes " ", [], [], refl, refl, refl, refl, refl)))) refl refl

pub export_in_function : IsNotRead (codes "function f() { export default a; }")
unfolding unicode_ident longer_stands word_value is_reserved is_strict_reserved encode
export_in_function = refused (codes "function f() { export default a; }") (word (codes "function") (word (codes "f") (group false Round done (group false Brace (word (codes "export") (word (codes "default") (word (codes "a") (sign semicolon done)))) done)))) ([], codes " f() { export default a; }", refl, refl, refl, refl, refl, (codes " ", codes "() { export default a; }", refl, refl, refl, refl, refl, ([], [], codes " { export default a; }", refl, refl, refl, refl, (codes " ", codes " export default a; ", [], refl, refl, refl, (codes " ", codes " default a; ", refl, refl, refl, refl, refl, (codes " ", codes " a; ", refl, refl, refl, refl, refl, (codes " ", codes "; ", refl, refl, refl, refl, refl, ([], codes " ", refl, refl, refl, refl, refl, refl)))), refl)))) refl refl

pub member_of_default : IsNotRead (codes "export default class {}.a;")
unfolding unicode_ident longer_stands word_value is_reserved is_strict_reserved encode
member_of_default = refused (codes "export default class {}.a;") (word (codes "export") (word (codes "default") (word (codes "class") (group false Brace done (sign dot (word (codes "a") (sign semicolon done))))))) ([], codes " default class {}.a;", refl, refl, refl, refl, refl, (codes " ", codes " class {}.a;", refl, refl, refl, refl, refl, (codes " ", codes " {}.a;", refl, refl, refl, refl, refl, (codes " ", [], codes ".a;", refl, refl, refl, refl, ([], codes "a;", refl, refl, refl, refl, refl, ([], codes ";", refl, refl, refl, refl, refl, ([], [], refl, refl, refl, refl, refl, refl))))))) refl refl

pub sequence_as_default : IsNotRead (codes "export default a, b;")
unfolding unicode_ident longer_stands word_value is_reserved is_strict_reserved encode
sequence_as_default = refused (codes "export default a, b;") (word (codes "export") (word (codes "default") (word (codes "a") (sign comma (word (codes "b") (sign semicolon done)))))) ([], codes " default a, b;", refl, refl, refl, refl, refl, (codes " ", codes " a, b;", refl, refl, refl, refl, refl, (codes " ", codes ", b;", refl, refl, refl, refl, refl, ([], codes " b;", refl, refl, refl, refl, refl, (codes " ", codes ";", refl, refl, refl, refl, refl, ([], [], refl, refl, refl, refl, refl, refl)))))) refl refl

pub variable_as_default : IsNotRead (codes "export default var a;")
unfolding unicode_ident longer_stands word_value is_reserved is_strict_reserved encode
variable_as_default = refused (codes "export default var a;") (word (codes "export") (word (codes "default") (word (codes "var") (word (codes "a") (sign semicolon done))))) ([], codes " default var a;", refl, refl, refl, refl, refl, (codes " ", codes " var a;", refl, refl, refl, refl, refl, (codes " ", codes " a;", refl, refl, refl, refl, refl, (codes " ", codes ";", refl, refl, refl, refl, refl, ([], [], refl, refl, refl, refl, refl, refl))))) refl refl

pub let_as_default : IsNotRead (codes "export default let [a] = b;")
unfolding unicode_ident longer_stands word_value is_reserved is_strict_reserved encode
let_as_default = refused (codes "export default let [a] = b;") (word (codes "export") (word (codes "default") (word (codes "let") (group false Square (word (codes "a") done) (sign equal (word (codes "b") (sign semicolon done))))))) ([], codes " default let [a] = b;", refl, refl, refl, refl, refl, (codes " ", codes " let [a] = b;", refl, refl, refl, refl, refl, (codes " ", codes " [a] = b;", refl, refl, refl, refl, refl, (codes " ", codes "a", codes " = b;", refl, refl, refl, ([], [], refl, refl, refl, refl, refl, refl), (codes " ", codes " b;", refl, refl, refl, refl, refl, (codes " ", codes ";", refl, refl, refl, refl, refl, ([], [], refl, refl, refl, refl, refl, refl))))))) refl refl

pub three_arguments_of_import : IsNotRead (codes "import(a, b, c);")
unfolding unicode_ident longer_stands word_value is_reserved is_strict_reserved encode
three_arguments_of_import = refused (codes "import(a, b, c);") (word (codes "import") (group false Round (word (codes "a") (sign comma (word (codes "b") (sign comma (word (codes "c") done))))) (sign semicolon done))) ([], codes "(a, b, c);", refl, refl, refl, refl, refl, ([], codes "a, b, c", codes ";", refl, refl, refl, ([], codes ", b, c", refl, refl, refl, refl, refl, ([], codes " b, c", refl, refl, refl, refl, refl, (codes " ", codes ", c", refl, refl, refl, refl, refl, ([], codes " c", refl, refl, refl, refl, refl, (codes " ", [], refl, refl, refl, refl, refl, refl))))), ([], [], refl, refl, refl, refl, refl, refl))) refl refl

pub import_of_nothing : IsNotRead (codes "import();")
unfolding unicode_ident longer_stands word_value is_reserved is_strict_reserved encode
import_of_nothing = refused (codes "import();") (word (codes "import") (group false Round done (sign semicolon done))) ([], codes "();", refl, refl, refl, refl, refl, ([], [], codes ";", refl, refl, refl, refl, ([], [], refl, refl, refl, refl, refl, refl))) refl refl

pub spread_imported : IsNotRead (codes "import(...a);")
unfolding unicode_ident longer_stands word_value is_reserved is_strict_reserved encode
spread_imported = refused (codes "import(...a);") (word (codes "import") (group false Round (sign ellipsis (word (codes "a") done)) (sign semicolon done))) ([], codes "(...a);", refl, refl, refl, refl, refl, ([], codes "...a", codes ";", refl, refl, refl, ([], codes "a", refl, refl, refl, refl, refl, ([], [], refl, refl, refl, refl, refl, refl)), ([], [], refl, refl, refl, refl, refl, refl))) refl refl

pub import_under_new : IsNotRead (codes "new import(a);")
unfolding unicode_ident longer_stands word_value is_reserved is_strict_reserved encode
import_under_new = refused (codes "new import(a);") (word (codes "new") (word (codes "import") (group false Round (word (codes "a") done) (sign semicolon done)))) ([], codes " import(a);", refl, refl, refl, refl, refl, (codes " ", codes "(a);", refl, refl, refl, refl, refl, ([], codes "a", codes ";", refl, refl, refl, ([], [], refl, refl, refl, refl, refl, refl), ([], [], refl, refl, refl, refl, refl, refl)))) refl refl

pub import_as_target : IsNotRead (codes "import(a) = b;")
unfolding unicode_ident longer_stands word_value is_reserved is_strict_reserved encode
import_as_target = refused (codes "import(a) = b;") (word (codes "import") (group false Round (word (codes "a") done) (sign equal (word (codes "b") (sign semicolon done))))) ([], codes "(a) = b;", refl, refl, refl, refl, refl, ([], codes "a", codes " = b;", refl, refl, refl, ([], [], refl, refl, refl, refl, refl, refl), (codes " ", codes " b;", refl, refl, refl, refl, refl, (codes " ", codes ";", refl, refl, refl, refl, refl, ([], [], refl, refl, refl, refl, refl, refl))))) refl refl

pub other_meta : IsNotRead (codes "import.a;")
unfolding unicode_ident longer_stands word_value is_reserved is_strict_reserved encode
other_meta = refused (codes "import.a;") (word (codes "import") (sign dot (word (codes "a") (sign semicolon done)))) ([], codes ".a;", refl, refl, refl, refl, refl, ([], codes "a;", refl, refl, refl, refl, refl, ([], codes ";", refl, refl, refl, refl, refl, ([], [], refl, refl, refl, refl, refl, refl)))) refl refl

pub escaped_meta : IsNotRead (codes "import.m\\u0065ta;")
unfolding unicode_ident longer_stands word_value is_reserved is_strict_reserved encode
escaped_meta = refused (codes "import.m\\u0065ta;") (word (codes "import") (sign dot (word (codes "m\\u0065ta") (sign semicolon done)))) ([], codes ".m\\u0065ta;", refl, refl, refl, refl, refl, ([], codes "m\\u0065ta;", refl, refl, refl, refl, refl, ([], codes ";", refl, refl, refl, refl, refl, ([], [], refl, refl, refl, refl, refl, refl)))) refl refl

pub meta_as_target : IsNotRead (codes "import.meta = a;")
unfolding unicode_ident longer_stands word_value is_reserved is_strict_reserved encode
meta_as_target = refused (codes "import.meta = a;") (word (codes "import") (sign dot (word (codes "meta") (sign equal (word (codes "a") (sign semicolon done)))))) ([], codes ".meta = a;", refl, refl, refl, refl, refl, ([], codes "meta = a;", refl, refl, refl, refl, refl, ([], codes " = a;", refl, refl, refl, refl, refl, (codes " ", codes " a;", refl, refl, refl, refl, refl, (codes " ", codes ";", refl, refl, refl, refl, refl, ([], [], refl, refl, refl, refl, refl, refl)))))) refl refl

pub import_as_reference : IsNotRead (codes "({import});")
unfolding unicode_ident longer_stands word_value is_reserved is_strict_reserved encode
import_as_reference = refused (codes "({import});") (group false Round (group false Brace (word (codes "import") done) done) (sign semicolon done)) ([], codes "{import}", codes ";", refl, refl, refl, ([], codes "import", [], refl, refl, refl, ([], [], refl, refl, refl, refl, refl, refl), refl), ([], [], refl, refl, refl, refl, refl, refl)) refl refl
