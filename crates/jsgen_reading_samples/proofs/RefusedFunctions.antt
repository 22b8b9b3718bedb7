-- Texts with async functions, generators, `await`, `yield` and loops that wait that aren't read, of whose tokens the reader answers that
-- they are no module.
use Rattle.std.proofs.Common.{true, false, [], codes, refl}
use lib.Utf8.{encode}
use Rattle.unicode_ident.proofs.Computing.{unicode_ident}
use Rattle.jsgen_syntax.specs.Escapes.{word_value}
use Rattle.jsgen_syntax.specs.Name.{is_reserved, is_strict_reserved}
use Rattle.jsgen_model.specs.Punctuator.{arrow, plus, semicolon, star, star_star, Round, Brace}
use Rattle.jsgen_model.specs.Tokens.{done, piece, group, Sign, longer_stands}
use Rattle.jsgen_reading_samples.specs.RefusedPatterns.{IsNotRead}
use Rattle.jsgen_reading_samples.proofs.Written.{word, sign}
use Rattle.jsgen_reading_samples.proofs.Refused.{refused}

pub power_of_awaited : IsNotRead (codes "await a ** b;")
unfolding unicode_ident longer_stands word_value is_reserved is_strict_reserved encode
power_of_awaited = refused (codes "await a ** b;") (word (codes "await") (word (codes "a") (sign star_star (word (codes "b") (sign semicolon done))))) ([], codes " a ** b;", refl, refl, refl, refl, refl, (codes " ", codes " ** b;", refl, refl, refl, refl, refl, (codes " ", codes " b;", refl, refl, refl, refl, refl, (codes " ", codes ";", refl, refl, refl, refl, refl, ([], [], refl, refl, refl, refl, refl, refl))))) refl refl

pub await_in_plain_arrow : IsNotRead (codes "() => await a;")
unfolding unicode_ident longer_stands word_value is_reserved is_strict_reserved encode
await_in_plain_arrow = refused (codes "() => await a;") (group false Round done (sign arrow (word (codes "await") (word (codes "a") (sign semicolon done))))) ([], [], codes " => await a;", refl, refl, refl, refl, (codes " ", codes " await a;", refl, refl, refl, refl, refl, (codes " ", codes " a;", refl, refl, refl, refl, refl, (codes " ", codes ";", refl, refl, refl, refl, refl, ([], [], refl, refl, refl, refl, refl, refl))))) refl refl

pub waiting_in_plain_function : IsNotRead (codes "function f() { for await (a of b); }")
unfolding unicode_ident longer_stands word_value is_reserved is_strict_reserved encode
waiting_in_plain_function = refused (codes "function f() { for await (a of b); }") (word (codes "function") (word (codes "f") (group false Round done (group false Brace (word (codes "for") (word (codes "await") (group false Round (word (codes "a") (word (codes "of") (word (codes "b") done))) (sign semicolon done)))) done)))) ([], codes " f() { for await (a of b); }", refl, refl, refl, refl, refl, (codes " ", codes "() { for await (a of b); }", refl, refl, refl, refl, refl, ([], [], codes " { for await (a of b); }", refl, refl, refl, refl, (codes " ", codes " for await (a of b); ", [], refl, refl, refl, (codes " ", codes " await (a of b); ", refl, refl, refl, refl, refl, (codes " ", codes " (a of b); ", refl, refl, refl, refl, refl, (codes " ", codes "a of b", codes "; ", refl, refl, refl, ([], codes " of b", refl, refl, refl, refl, refl, (codes " ", codes " b", refl, refl, refl, refl, refl, (codes " ", [], refl, refl, refl, refl, refl, refl))), ([], codes " ", refl, refl, refl, refl, refl, refl)))), refl)))) refl refl

pub arrow_behind_line_end : IsNotRead (codes "async x\n=> x;")
unfolding unicode_ident longer_stands word_value is_reserved is_strict_reserved encode
arrow_behind_line_end = refused (codes "async x\n=> x;") (word (codes "async") (word (codes "x") (piece true (Sign arrow) (word (codes "x") (sign semicolon done))))) ([], codes " x\n=> x;", refl, refl, refl, refl, refl, (codes " ", codes "\n=> x;", refl, refl, refl, refl, refl, (codes "\n", codes " x;", refl, refl, refl, refl, refl, (codes " ", codes ";", refl, refl, refl, refl, refl, ([], [], refl, refl, refl, refl, refl, refl))))) refl refl

pub yield_as_operand : IsNotRead (codes "function* g() { a + yield b; }")
unfolding unicode_ident longer_stands word_value is_reserved is_strict_reserved encode
yield_as_operand = refused (codes "function* g() { a + yield b; }") (word (codes "function") (sign star (word (codes "g") (group false Round done (group false Brace (word (codes "a") (sign plus (word (codes "yield") (word (codes "b") (sign semicolon done))))) done))))) ([], codes "* g() { a + yield b; }", refl, refl, refl, refl, refl, ([], codes " g() { a + yield b; }", refl, refl, refl, refl, refl, (codes " ", codes "() { a + yield b; }", refl, refl, refl, refl, refl, ([], [], codes " { a + yield b; }", refl, refl, refl, refl, (codes " ", codes " a + yield b; ", [], refl, refl, refl, (codes " ", codes " + yield b; ", refl, refl, refl, refl, refl, (codes " ", codes " yield b; ", refl, refl, refl, refl, refl, (codes " ", codes " b; ", refl, refl, refl, refl, refl, (codes " ", codes "; ", refl, refl, refl, refl, refl, ([], codes " ", refl, refl, refl, refl, refl, refl))))), refl))))) refl refl
