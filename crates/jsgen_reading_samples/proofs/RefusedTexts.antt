-- Texts that aren't read, of whose tokens the reader answers that they are no module.
use Rattle.std.proofs.Common.{true, false, [], codes, refl}
use lib.Utf8.{encode}
use Rattle.unicode_ident.proofs.Computing.{unicode_ident}
use Rattle.jsgen_syntax.specs.Escapes.{word_value}
use Rattle.jsgen_syntax.specs.Name.{is_reserved, is_strict_reserved}
use Rattle.jsgen_model.specs.Punctuator.{semicolon, dot, question_dot, nullish, or_or, minus, star_star, equal, arrow, Round, Brace}
use Rattle.jsgen_model.specs.Tokens.{done, piece, group, Word, Sign, longer_stands}
use Rattle.jsgen_reading_samples.specs.RefusedPatterns.{IsNotRead}
use Rattle.jsgen_reading_samples.proofs.Written.{word, sign}
use Rattle.jsgen_reading_samples.proofs.Refused.{refused}

pub object_first : IsNotRead (codes "{}.a;")
unfolding unicode_ident longer_stands word_value is_reserved is_strict_reserved encode
object_first = refused (codes "{}.a;") (group false Brace done (sign dot (word (codes "a") (sign semicolon done)))) ([], [], codes ".a;", refl, refl, refl, refl, ([], codes "a;", refl, refl, refl, refl, refl, ([], codes ";", refl, refl, refl, refl, refl, ([], [], refl, refl, refl, refl, refl, refl)))) refl refl

pub function_first : IsNotRead (codes "function(){};")
unfolding unicode_ident longer_stands word_value is_reserved is_strict_reserved encode
function_first = refused (codes "function(){};") (word (codes "function") (group false Round done (group false Brace done (sign semicolon done)))) ([], codes "(){};", refl, refl, refl, refl, refl, ([], [], codes "{};", refl, refl, refl, refl, ([], [], codes ";", refl, refl, refl, refl, ([], [], refl, refl, refl, refl, refl, refl)))) refl refl

pub operator_in_first : IsNotRead (codes "for(a in b;;);")
unfolding unicode_ident longer_stands word_value is_reserved is_strict_reserved encode
operator_in_first = refused (codes "for(a in b;;);") (word (codes "for") (group false Round (word (codes "a") (word (codes "in") (word (codes "b") (sign semicolon (sign semicolon done))))) (sign semicolon done))) ([], codes "(a in b;;);", refl, refl, refl, refl, refl, ([], codes "a in b;;", codes ";", refl, refl, refl, ([], codes " in b;;", refl, refl, refl, refl, refl, (codes " ", codes " b;;", refl, refl, refl, refl, refl, (codes " ", codes ";;", refl, refl, refl, refl, refl, ([], codes ";", refl, refl, refl, refl, refl, ([], [], refl, refl, refl, refl, refl, refl))))), ([], [], refl, refl, refl, refl, refl, refl))) refl refl

pub async_before_of : IsNotRead (codes "for(async of b)c;")
unfolding unicode_ident longer_stands word_value is_reserved is_strict_reserved encode
async_before_of = refused (codes "for(async of b)c;") (word (codes "for") (group false Round (word (codes "async") (word (codes "of") (word (codes "b") done))) (word (codes "c") (sign semicolon done)))) ([], codes "(async of b)c;", refl, refl, refl, refl, refl, ([], codes "async of b", codes "c;", refl, refl, refl, ([], codes " of b", refl, refl, refl, refl, refl, (codes " ", codes " b", refl, refl, refl, refl, refl, (codes " ", [], refl, refl, refl, refl, refl, refl))), ([], codes ";", refl, refl, refl, refl, refl, ([], [], refl, refl, refl, refl, refl, refl)))) refl refl

pub coalesced_or : IsNotRead (codes "a??b||c;")
unfolding unicode_ident longer_stands word_value is_reserved is_strict_reserved encode
coalesced_or = refused (codes "a??b||c;") (word (codes "a") (sign nullish (word (codes "b") (sign or_or (word (codes "c") (sign semicolon done)))))) ([], codes "??b||c;", refl, refl, refl, refl, refl, ([], codes "b||c;", refl, refl, refl, refl, refl, ([], codes "||c;", refl, refl, refl, refl, refl, ([], codes "c;", refl, refl, refl, refl, refl, ([], codes ";", refl, refl, refl, refl, refl, ([], [], refl, refl, refl, refl, refl, refl)))))) refl refl

pub power_of_negation : IsNotRead (codes "-a**b;")
unfolding unicode_ident longer_stands word_value is_reserved is_strict_reserved encode
power_of_negation = refused (codes "-a**b;") (sign minus (word (codes "a") (sign star_star (word (codes "b") (sign semicolon done))))) ([], codes "a**b;", refl, refl, refl, refl, refl, ([], codes "**b;", refl, refl, refl, refl, refl, ([], codes "b;", refl, refl, refl, refl, refl, ([], codes ";", refl, refl, refl, refl, refl, ([], [], refl, refl, refl, refl, refl, refl))))) refl refl

pub optional_link_behind_new : IsNotRead (codes "new a?.b();")
unfolding unicode_ident longer_stands word_value is_reserved is_strict_reserved encode
optional_link_behind_new = refused (codes "new a?.b();") (word (codes "new") (word (codes "a") (sign question_dot (word (codes "b") (group false Round done (sign semicolon done)))))) ([], codes " a?.b();", refl, refl, refl, refl, refl, (codes " ", codes "?.b();", refl, refl, refl, refl, refl, ([], codes "b();", refl, refl, refl, refl, refl, ([], codes "();", refl, refl, refl, refl, refl, ([], [], codes ";", refl, refl, refl, refl, ([], [], refl, refl, refl, refl, refl, refl)))))) refl refl

pub optional_target : IsNotRead (codes "a?.b=c;")
unfolding unicode_ident longer_stands word_value is_reserved is_strict_reserved encode
optional_target = refused (codes "a?.b=c;") (word (codes "a") (sign question_dot (word (codes "b") (sign equal (word (codes "c") (sign semicolon done)))))) ([], codes "?.b=c;", refl, refl, refl, refl, refl, ([], codes "b=c;", refl, refl, refl, refl, refl, ([], codes "=c;", refl, refl, refl, refl, refl, ([], codes "c;", refl, refl, refl, refl, refl, ([], codes ";", refl, refl, refl, refl, refl, ([], [], refl, refl, refl, refl, refl, refl)))))) refl refl

pub unnamed_function : IsNotRead (codes "(a)=function(){};")
unfolding unicode_ident longer_stands word_value is_reserved is_strict_reserved encode
unnamed_function = refused (codes "(a)=function(){};") (group false Round (word (codes "a") done) (sign equal (word (codes "function") (group false Round done (group false Brace done (sign semicolon done)))))) ([], codes "a", codes "=function(){};", refl, refl, refl, ([], [], refl, refl, refl, refl, refl, refl), ([], codes "function(){};", refl, refl, refl, refl, refl, ([], codes "(){};", refl, refl, refl, refl, refl, ([], [], codes "{};", refl, refl, refl, refl, ([], [], codes ";", refl, refl, refl, refl, ([], [], refl, refl, refl, refl, refl, refl)))))) refl refl

pub called_body : IsNotRead (codes "a=>{}();")
unfolding unicode_ident longer_stands word_value is_reserved is_strict_reserved encode
called_body = refused (codes "a=>{}();") (word (codes "a") (sign arrow (group false Brace done (group false Round done (sign semicolon done))))) ([], codes "=>{}();", refl, refl, refl, refl, refl, ([], codes "{}();", refl, refl, refl, refl, refl, ([], [], codes "();", refl, refl, refl, refl, ([], [], codes ";", refl, refl, refl, refl, ([], [], refl, refl, refl, refl, refl, refl))))) refl refl

pub arrow_on_next_line : IsNotRead (codes "a\n=>b;")
unfolding unicode_ident longer_stands word_value is_reserved is_strict_reserved encode
arrow_on_next_line = refused (codes "a\n=>b;") (word (codes "a") (piece true (Sign arrow) (word (codes "b") (sign semicolon done)))) ([], codes "\n=>b;", refl, refl, refl, refl, refl, (codes "\n", codes "b;", refl, refl, refl, refl, refl, ([], codes ";", refl, refl, refl, refl, refl, ([], [], refl, refl, refl, refl, refl, refl)))) refl refl

pub throw_on_two_lines : IsNotRead (codes "throw\na;")
unfolding unicode_ident longer_stands word_value is_reserved is_strict_reserved encode
throw_on_two_lines = refused (codes "throw\na;") (word (codes "throw") (piece true (Word (codes "a")) (sign semicolon done))) ([], codes "\na;", refl, refl, refl, refl, refl, (codes "\n", codes ";", refl, refl, refl, refl, refl, ([], [], refl, refl, refl, refl, refl, refl))) refl refl

pub escaped_keyword : IsNotRead (codes "i\\u0066(a);")
unfolding unicode_ident longer_stands word_value is_reserved is_strict_reserved encode
escaped_keyword = refused (codes "i\\u0066(a);") (word (codes "i\\u0066") (group false Round (word (codes "a") done) (sign semicolon done))) ([], codes "(a);", refl, refl, refl, refl, refl, ([], codes "a", codes ";", refl, refl, refl, ([], [], refl, refl, refl, refl, refl, refl), ([], [], refl, refl, refl, refl, refl, refl))) refl refl
