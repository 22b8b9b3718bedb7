-- Patterns that aren't read: the reader answers whatever the grammar reads, and of the tokens of these texts it answers that they are
-- no module.
use Rattle.std.proofs.Common.{◌≡◌, ℕ, false, [], List, codes, refl, ap, sym, ◌∙◌}
use Rattle.std.specs.List.{list_any}
use lib.Utf8.{encode}
use Rattle.unicode_ident.proofs.Computing.{unicode_ident}
use Rattle.jsgen_syntax.specs.Escapes.{word_value}
use Rattle.jsgen_syntax.specs.Name.{is_reserved, is_strict_reserved}
use Rattle.jsgen_tree.specs.Tree.{Trees, no_trees}
use Rattle.jsgen_model.specs.Numbers.{spells_number}
use Rattle.jsgen_model.specs.Punctuator.{ellipsis, arrow, dot, question_dot, comma, semicolon, colon, equal, plus_equal, Round, Square, Brace}
use Rattle.jsgen_model.specs.Tokens.{Tokens, done, piece, group, Number, longer_stands, longer_number_stands, AreTokensOf}
use Rattle.jsgen_model.specs.Grammar.{a_module}
use Rattle.jsgen_token_laws.proofs.Plain.{marks_special, unmarked_tokens}
use Rattle.jsgen_token_laws.proofs.OneList.{one_token_list}
use Rattle.jsgen_one_reading.specs.States.{directives, wrong, a_body}
use Rattle.jsgen_one_reading.specs.Reader.{run}
use Rattle.jsgen_one_reading.proofs.Modules.{module_read}
use Rattle.jsgen_reading_samples.specs.RefusedPatterns.{IsNotRead}
use Rattle.jsgen_reading_samples.proofs.Written.{word, sign}

no_module : {ds ss : Trees} → wrong ≡ a_body ds ss → ⊥
no_module e = cc

-- What the reader answers so isn't read, since a text has one list of plain tokens, and one without the characters of other tokens has no
-- other list.
pub refused : (source : List ℕ) (ts : Tokens) → AreTokensOf source ts → run (directives false no_trees) ts ≡ wrong → list_any marks_special source ≡ false → IsNotRead source
refused source ts h w n us t g (a_module {directives = ds} {body = ss} d) =
    let e : us ≡ ts = one_token_list source us ts g (unmarked_tokens source us n g) h (unmarked_tokens source ts n h) in
    no_module (sym w ∙ (ap (run (directives false no_trees)) (sym e) ∙ module_read us ds ss (a_module d)))

pub pattern_without_value : IsNotRead (codes "let[a];")
unfolding unicode_ident longer_stands word_value is_reserved is_strict_reserved encode
pattern_without_value = refused (codes "let[a];") (word (codes "let") (group false Square (word (codes "a") done) (sign semicolon done))) ([], codes "[a];", refl, refl, refl, refl, refl, ([], codes "a", codes ";", refl, refl, refl, ([], [], refl, refl, refl, refl, refl, refl), ([], [], refl, refl, refl, refl, refl, refl))) refl refl

pub pattern_without_value_in_head : IsNotRead (codes "for(let{a};;);")
unfolding unicode_ident longer_stands word_value is_reserved is_strict_reserved encode
pattern_without_value_in_head = refused (codes "for(let{a};;);") (word (codes "for") (group false Round (word (codes "let") (group false Brace (word (codes "a") done) (sign semicolon (sign semicolon done)))) (sign semicolon done))) ([], codes "(let{a};;);", refl, refl, refl, refl, refl, ([], codes "let{a};;", codes ";", refl, refl, refl, ([], codes "{a};;", refl, refl, refl, refl, refl, ([], codes "a", codes ";;", refl, refl, refl, ([], [], refl, refl, refl, refl, refl, refl), ([], codes ";", refl, refl, refl, refl, refl, ([], [], refl, refl, refl, refl, refl, refl)))), ([], [], refl, refl, refl, refl, refl, refl))) refl refl

pub comma_behind_rest : IsNotRead (codes "let[...a,]=b;")
unfolding unicode_ident longer_stands word_value is_reserved is_strict_reserved encode
comma_behind_rest = refused (codes "let[...a,]=b;") (word (codes "let") (group false Square (sign ellipsis (word (codes "a") (sign comma done))) (sign equal (word (codes "b") (sign semicolon done))))) ([], codes "[...a,]=b;", refl, refl, refl, refl, refl, ([], codes "...a,", codes "=b;", refl, refl, refl, ([], codes "a,", refl, refl, refl, refl, refl, ([], codes ",", refl, refl, refl, refl, refl, ([], [], refl, refl, refl, refl, refl, refl))), ([], codes "b;", refl, refl, refl, refl, refl, ([], codes ";", refl, refl, refl, refl, refl, ([], [], refl, refl, refl, refl, refl, refl))))) refl refl

pub rest_with_default : IsNotRead (codes "let[...a=b]=c;")
unfolding unicode_ident longer_stands word_value is_reserved is_strict_reserved encode
rest_with_default = refused (codes "let[...a=b]=c;") (word (codes "let") (group false Square (sign ellipsis (word (codes "a") (sign equal (word (codes "b") done)))) (sign equal (word (codes "c") (sign semicolon done))))) ([], codes "[...a=b]=c;", refl, refl, refl, refl, refl, ([], codes "...a=b", codes "=c;", refl, refl, refl, ([], codes "a=b", refl, refl, refl, refl, refl, ([], codes "=b", refl, refl, refl, refl, refl, ([], codes "b", refl, refl, refl, refl, refl, ([], [], refl, refl, refl, refl, refl, refl)))), ([], codes "c;", refl, refl, refl, refl, refl, ([], codes ";", refl, refl, refl, refl, refl, ([], [], refl, refl, refl, refl, refl, refl))))) refl refl

pub pattern_of_rest_in_braces : IsNotRead (codes "let{...{a}}=b;")
unfolding unicode_ident longer_stands word_value is_reserved is_strict_reserved encode
pattern_of_rest_in_braces = refused (codes "let{...{a}}=b;") (word (codes "let") (group false Brace (sign ellipsis (group false Brace (word (codes "a") done) done)) (sign equal (word (codes "b") (sign semicolon done))))) ([], codes "{...{a}}=b;", refl, refl, refl, refl, refl, ([], codes "...{a}", codes "=b;", refl, refl, refl, ([], codes "{a}", refl, refl, refl, refl, refl, ([], codes "a", [], refl, refl, refl, ([], [], refl, refl, refl, refl, refl, refl), refl)), ([], codes "b;", refl, refl, refl, refl, refl, ([], codes ";", refl, refl, refl, refl, refl, ([], [], refl, refl, refl, refl, refl, refl))))) refl refl

pub reserved_shorthand : IsNotRead (codes "let{if}=a;")
unfolding unicode_ident longer_stands word_value is_reserved is_strict_reserved encode
reserved_shorthand = refused (codes "let{if}=a;") (word (codes "let") (group false Brace (word (codes "if") done) (sign equal (word (codes "a") (sign semicolon done))))) ([], codes "{if}=a;", refl, refl, refl, refl, refl, ([], codes "if", codes "=a;", refl, refl, refl, ([], [], refl, refl, refl, refl, refl, refl), ([], codes "a;", refl, refl, refl, refl, refl, ([], codes ";", refl, refl, refl, refl, refl, ([], [], refl, refl, refl, refl, refl, refl))))) refl refl

pub bound_member : IsNotRead (codes "let{a:b.c}=d;")
unfolding unicode_ident longer_stands word_value is_reserved is_strict_reserved encode
bound_member = refused (codes "let{a:b.c}=d;") (word (codes "let") (group false Brace (word (codes "a") (sign colon (word (codes "b") (sign dot (word (codes "c") done))))) (sign equal (word (codes "d") (sign semicolon done))))) ([], codes "{a:b.c}=d;", refl, refl, refl, refl, refl, ([], codes "a:b.c", codes "=d;", refl, refl, refl, ([], codes ":b.c", refl, refl, refl, refl, refl, ([], codes "b.c", refl, refl, refl, refl, refl, ([], codes ".c", refl, refl, refl, refl, refl, ([], codes "c", refl, refl, refl, refl, refl, ([], [], refl, refl, refl, refl, refl, refl))))), ([], codes "d;", refl, refl, refl, refl, refl, ([], codes ";", refl, refl, refl, refl, refl, ([], [], refl, refl, refl, refl, refl, refl))))) refl refl

pub bound_parentheses : IsNotRead (codes "let[(a)]=b;")
unfolding unicode_ident longer_stands word_value is_reserved is_strict_reserved encode
bound_parentheses = refused (codes "let[(a)]=b;") (word (codes "let") (group false Square (group false Round (word (codes "a") done) done) (sign equal (word (codes "b") (sign semicolon done))))) ([], codes "[(a)]=b;", refl, refl, refl, refl, refl, ([], codes "(a)", codes "=b;", refl, refl, refl, ([], codes "a", [], refl, refl, refl, ([], [], refl, refl, refl, refl, refl, refl), refl), ([], codes "b;", refl, refl, refl, refl, refl, ([], codes ";", refl, refl, refl, refl, refl, ([], [], refl, refl, refl, refl, refl, refl))))) refl refl

pub value_before_of : IsNotRead (codes "for(let[a]=b of c);")
unfolding unicode_ident longer_stands word_value is_reserved is_strict_reserved encode
value_before_of = refused (codes "for(let[a]=b of c);") (word (codes "for") (group false Round (word (codes "let") (group false Square (word (codes "a") done) (sign equal (word (codes "b") (word (codes "of") (word (codes "c") done)))))) (sign semicolon done))) ([], codes "(let[a]=b of c);", refl, refl, refl, refl, refl, ([], codes "let[a]=b of c", codes ";", refl, refl, refl, ([], codes "[a]=b of c", refl, refl, refl, refl, refl, ([], codes "a", codes "=b of c", refl, refl, refl, ([], [], refl, refl, refl, refl, refl, refl), ([], codes "b of c", refl, refl, refl, refl, refl, ([], codes " of c", refl, refl, refl, refl, refl, (codes " ", codes " c", refl, refl, refl, refl, refl, (codes " ", [], refl, refl, refl, refl, refl, refl)))))), ([], [], refl, refl, refl, refl, refl, refl))) refl refl

pub caught_with_value : IsNotRead (codes "try{}catch([a]=b){}")
unfolding unicode_ident longer_stands word_value is_reserved is_strict_reserved encode
caught_with_value = refused (codes "try{}catch([a]=b){}") (word (codes "try") (group false Brace done (word (codes "catch") (group false Round (group false Square (word (codes "a") done) (sign equal (word (codes "b") done))) (group false Brace done done))))) ([], codes "{}catch([a]=b){}", refl, refl, refl, refl, refl, ([], [], codes "catch([a]=b){}", refl, refl, refl, refl, ([], codes "([a]=b){}", refl, refl, refl, refl, refl, ([], codes "[a]=b", codes "{}", refl, refl, refl, ([], codes "a", codes "=b", refl, refl, refl, ([], [], refl, refl, refl, refl, refl, refl), ([], codes "b", refl, refl, refl, refl, refl, ([], [], refl, refl, refl, refl, refl, refl))), ([], [], [], refl, refl, refl, refl, refl))))) refl refl

pub parameter_without_parentheses : IsNotRead (codes "[a]=>b;")
unfolding unicode_ident longer_stands word_value is_reserved is_strict_reserved encode
parameter_without_parentheses = refused (codes "[a]=>b;") (group false Square (word (codes "a") done) (sign arrow (word (codes "b") (sign semicolon done)))) ([], codes "a", codes "=>b;", refl, refl, refl, ([], [], refl, refl, refl, refl, refl, refl), ([], codes "b;", refl, refl, refl, refl, refl, ([], codes ";", refl, refl, refl, refl, refl, ([], [], refl, refl, refl, refl, refl, refl)))) refl refl

pub member_as_parameter : IsNotRead (codes "([a.b])=>c;")
unfolding unicode_ident longer_stands word_value is_reserved is_strict_reserved encode
member_as_parameter = refused (codes "([a.b])=>c;") (group false Round (group false Square (word (codes "a") (sign dot (word (codes "b") done))) done) (sign arrow (word (codes "c") (sign semicolon done)))) ([], codes "[a.b]", codes "=>c;", refl, refl, refl, ([], codes "a.b", [], refl, refl, refl, ([], codes ".b", refl, refl, refl, refl, refl, ([], codes "b", refl, refl, refl, refl, refl, ([], [], refl, refl, refl, refl, refl, refl))), refl), ([], codes "c;", refl, refl, refl, refl, refl, ([], codes ";", refl, refl, refl, refl, refl, ([], [], refl, refl, refl, refl, refl, refl)))) refl refl

pub brace_first : IsNotRead (codes "{a}=b;")
unfolding unicode_ident longer_stands word_value is_reserved is_strict_reserved encode
brace_first = refused (codes "{a}=b;") (group false Brace (word (codes "a") done) (sign equal (word (codes "b") (sign semicolon done)))) ([], codes "a", codes "=b;", refl, refl, refl, ([], [], refl, refl, refl, refl, refl, refl), ([], codes "b;", refl, refl, refl, refl, refl, ([], codes ";", refl, refl, refl, refl, refl, ([], [], refl, refl, refl, refl, refl, refl)))) refl refl

pub pattern_in_parentheses : IsNotRead (codes "({a})=b;")
unfolding unicode_ident longer_stands word_value is_reserved is_strict_reserved encode
pattern_in_parentheses = refused (codes "({a})=b;") (group false Round (group false Brace (word (codes "a") done) done) (sign equal (word (codes "b") (sign semicolon done)))) ([], codes "{a}", codes "=b;", refl, refl, refl, ([], codes "a", [], refl, refl, refl, ([], [], refl, refl, refl, refl, refl, refl), refl), ([], codes "b;", refl, refl, refl, refl, refl, ([], codes ";", refl, refl, refl, refl, refl, ([], [], refl, refl, refl, refl, refl, refl)))) refl refl

pub pattern_in_parentheses_within : IsNotRead (codes "[([a])]=b;")
unfolding unicode_ident longer_stands word_value is_reserved is_strict_reserved encode
pattern_in_parentheses_within = refused (codes "[([a])]=b;") (group false Square (group false Round (group false Square (word (codes "a") done) done) done) (sign equal (word (codes "b") (sign semicolon done)))) ([], codes "([a])", codes "=b;", refl, refl, refl, ([], codes "[a]", [], refl, refl, refl, ([], codes "a", [], refl, refl, refl, ([], [], refl, refl, refl, refl, refl, refl), refl), refl), ([], codes "b;", refl, refl, refl, refl, refl, ([], codes ";", refl, refl, refl, refl, refl, ([], [], refl, refl, refl, refl, refl, refl)))) refl refl

pub comma_behind_rest_target : IsNotRead (codes "[...a,]=b;")
unfolding unicode_ident longer_stands word_value is_reserved is_strict_reserved encode
comma_behind_rest_target = refused (codes "[...a,]=b;") (group false Square (sign ellipsis (word (codes "a") (sign comma done))) (sign equal (word (codes "b") (sign semicolon done)))) ([], codes "...a,", codes "=b;", refl, refl, refl, ([], codes "a,", refl, refl, refl, refl, refl, ([], codes ",", refl, refl, refl, refl, refl, ([], [], refl, refl, refl, refl, refl, refl))), ([], codes "b;", refl, refl, refl, refl, refl, ([], codes ";", refl, refl, refl, refl, refl, ([], [], refl, refl, refl, refl, refl, refl)))) refl refl

pub pattern_of_rest_target_in_braces : IsNotRead (codes "({...{a}}=b);")
unfolding unicode_ident longer_stands word_value is_reserved is_strict_reserved encode
pattern_of_rest_target_in_braces = refused (codes "({...{a}}=b);") (group false Round (group false Brace (sign ellipsis (group false Brace (word (codes "a") done) done)) (sign equal (word (codes "b") done))) (sign semicolon done)) ([], codes "{...{a}}=b", codes ";", refl, refl, refl, ([], codes "...{a}", codes "=b", refl, refl, refl, ([], codes "{a}", refl, refl, refl, refl, refl, ([], codes "a", [], refl, refl, refl, ([], [], refl, refl, refl, refl, refl, refl), refl)), ([], codes "b", refl, refl, refl, refl, refl, ([], [], refl, refl, refl, refl, refl, refl))), ([], [], refl, refl, refl, refl, refl, refl)) refl refl

pub default_by_other_sign : IsNotRead (codes "[a+=b]=c;")
unfolding unicode_ident longer_stands word_value is_reserved is_strict_reserved encode
default_by_other_sign = refused (codes "[a+=b]=c;") (group false Square (word (codes "a") (sign plus_equal (word (codes "b") done))) (sign equal (word (codes "c") (sign semicolon done)))) ([], codes "a+=b", codes "=c;", refl, refl, refl, ([], codes "+=b", refl, refl, refl, refl, refl, ([], codes "b", refl, refl, refl, refl, refl, ([], [], refl, refl, refl, refl, refl, refl))), ([], codes "c;", refl, refl, refl, refl, refl, ([], codes ";", refl, refl, refl, refl, refl, ([], [], refl, refl, refl, refl, refl, refl)))) refl refl

pub assigned_by_other_sign : IsNotRead (codes "[a]+=b;")
unfolding unicode_ident longer_stands word_value is_reserved is_strict_reserved encode
assigned_by_other_sign = refused (codes "[a]+=b;") (group false Square (word (codes "a") done) (sign plus_equal (word (codes "b") (sign semicolon done)))) ([], codes "a", codes "+=b;", refl, refl, refl, ([], [], refl, refl, refl, refl, refl, refl), ([], codes "b;", refl, refl, refl, refl, refl, ([], codes ";", refl, refl, refl, refl, refl, ([], [], refl, refl, refl, refl, refl, refl)))) refl refl

pub default_in_object : IsNotRead (codes "({a=b});")
unfolding unicode_ident longer_stands word_value is_reserved is_strict_reserved encode
default_in_object = refused (codes "({a=b});") (group false Round (group false Brace (word (codes "a") (sign equal (word (codes "b") done))) done) (sign semicolon done)) ([], codes "{a=b}", codes ";", refl, refl, refl, ([], codes "a=b", [], refl, refl, refl, ([], codes "=b", refl, refl, refl, refl, refl, ([], codes "b", refl, refl, refl, refl, refl, ([], [], refl, refl, refl, refl, refl, refl))), refl), ([], [], refl, refl, refl, refl, refl, refl)) refl refl

pub default_in_object_of_member : IsNotRead (codes "[{a=b}.c]=d;")
unfolding unicode_ident longer_stands word_value is_reserved is_strict_reserved encode
default_in_object_of_member = refused (codes "[{a=b}.c]=d;") (group false Square (group false Brace (word (codes "a") (sign equal (word (codes "b") done))) (sign dot (word (codes "c") done))) (sign equal (word (codes "d") (sign semicolon done)))) ([], codes "{a=b}.c", codes "=d;", refl, refl, refl, ([], codes "a=b", codes ".c", refl, refl, refl, ([], codes "=b", refl, refl, refl, refl, refl, ([], codes "b", refl, refl, refl, refl, refl, ([], [], refl, refl, refl, refl, refl, refl))), ([], codes "c", refl, refl, refl, refl, refl, ([], [], refl, refl, refl, refl, refl, refl))), ([], codes "d;", refl, refl, refl, refl, refl, ([], codes ";", refl, refl, refl, refl, refl, ([], [], refl, refl, refl, refl, refl, refl)))) refl refl

pub unnamed_default : IsNotRead (codes "[(a)=function(){}]=b;")
unfolding unicode_ident longer_stands word_value is_reserved is_strict_reserved encode
unnamed_default = refused (codes "[(a)=function(){}]=b;") (group false Square (group false Round (word (codes "a") done) (sign equal (word (codes "function") (group false Round done (group false Brace done done))))) (sign equal (word (codes "b") (sign semicolon done)))) ([], codes "(a)=function(){}", codes "=b;", refl, refl, refl, ([], codes "a", codes "=function(){}", refl, refl, refl, ([], [], refl, refl, refl, refl, refl, refl), ([], codes "function(){}", refl, refl, refl, refl, refl, ([], codes "(){}", refl, refl, refl, refl, refl, ([], [], codes "{}", refl, refl, refl, refl, ([], [], [], refl, refl, refl, refl, refl))))), ([], codes "b;", refl, refl, refl, refl, refl, ([], codes ";", refl, refl, refl, refl, refl, ([], [], refl, refl, refl, refl, refl, refl)))) refl refl

pub call_as_target : IsNotRead (codes "[a()]=b;")
unfolding unicode_ident longer_stands word_value is_reserved is_strict_reserved encode
call_as_target = refused (codes "[a()]=b;") (group false Square (word (codes "a") (group false Round done done)) (sign equal (word (codes "b") (sign semicolon done)))) ([], codes "a()", codes "=b;", refl, refl, refl, ([], codes "()", refl, refl, refl, refl, refl, ([], [], [], refl, refl, refl, refl, refl)), ([], codes "b;", refl, refl, refl, refl, refl, ([], codes ";", refl, refl, refl, refl, refl, ([], [], refl, refl, refl, refl, refl, refl)))) refl refl

pub optional_link_as_target : IsNotRead (codes "[a?.b]=c;")
unfolding unicode_ident longer_stands word_value is_reserved is_strict_reserved encode
optional_link_as_target = refused (codes "[a?.b]=c;") (group false Square (word (codes "a") (sign question_dot (word (codes "b") done))) (sign equal (word (codes "c") (sign semicolon done)))) ([], codes "a?.b", codes "=c;", refl, refl, refl, ([], codes "?.b", refl, refl, refl, refl, refl, ([], codes "b", refl, refl, refl, refl, refl, ([], [], refl, refl, refl, refl, refl, refl))), ([], codes "c;", refl, refl, refl, refl, refl, ([], codes ";", refl, refl, refl, refl, refl, ([], [], refl, refl, refl, refl, refl, refl)))) refl refl

pub pattern_in_parentheses_before_of : IsNotRead (codes "for(([a])of b);")
unfolding unicode_ident longer_stands word_value is_reserved is_strict_reserved encode
pattern_in_parentheses_before_of = refused (codes "for(([a])of b);") (word (codes "for") (group false Round (group false Round (group false Square (word (codes "a") done) done) (word (codes "of") (word (codes "b") done))) (sign semicolon done))) ([], codes "(([a])of b);", refl, refl, refl, refl, refl, ([], codes "([a])of b", codes ";", refl, refl, refl, ([], codes "[a]", codes "of b", refl, refl, refl, ([], codes "a", [], refl, refl, refl, ([], [], refl, refl, refl, refl, refl, refl), refl), ([], codes " b", refl, refl, refl, refl, refl, (codes " ", [], refl, refl, refl, refl, refl, refl))), ([], [], refl, refl, refl, refl, refl, refl))) refl refl

pub number_behind_key : IsNotRead (codes "({a: 1} = b);")
unfolding unicode_ident longer_stands longer_number_stands spells_number word_value is_reserved is_strict_reserved encode
number_behind_key = refused (codes "({a: 1} = b);") (group false Round (group false Brace (word (codes "a") (sign colon (piece false (Number (codes "1")) done))) (sign equal (word (codes "b") done))) (sign semicolon done)) ([], codes "{a: 1} = b", codes ";", refl, refl, refl, ([], codes "a: 1", codes " = b", refl, refl, refl, ([], codes ": 1", refl, refl, refl, refl, refl, ([], codes " 1", refl, refl, refl, refl, refl, (codes " ", [], refl, refl, refl, refl, refl, refl))), (codes " ", codes " b", refl, refl, refl, refl, refl, (codes " ", [], refl, refl, refl, refl, refl, refl))), ([], [], refl, refl, refl, refl, refl, refl)) refl refl

pub number_as_default_in_object : IsNotRead (codes "({a = 1});")
unfolding unicode_ident longer_stands longer_number_stands spells_number word_value is_reserved is_strict_reserved encode
number_as_default_in_object = refused (codes "({a = 1});") (group false Round (group false Brace (word (codes "a") (sign equal (piece false (Number (codes "1")) done))) done) (sign semicolon done)) ([], codes "{a = 1}", codes ";", refl, refl, refl, ([], codes "a = 1", [], refl, refl, refl, ([], codes " = 1", refl, refl, refl, refl, refl, (codes " ", codes " 1", refl, refl, refl, refl, refl, (codes " ", [], refl, refl, refl, refl, refl, refl))), refl), ([], [], refl, refl, refl, refl, refl, refl)) refl refl

pub element_behind_rest : IsNotRead (codes "[a, ...b, c] = d;")
unfolding unicode_ident longer_stands word_value is_reserved is_strict_reserved encode
element_behind_rest = refused (codes "[a, ...b, c] = d;") (group false Square (word (codes "a") (sign comma (sign ellipsis (word (codes "b") (sign comma (word (codes "c") done)))))) (sign equal (word (codes "d") (sign semicolon done)))) ([], codes "a, ...b, c", codes " = d;", refl, refl, refl, ([], codes ", ...b, c", refl, refl, refl, refl, refl, ([], codes " ...b, c", refl, refl, refl, refl, refl, (codes " ", codes "b, c", refl, refl, refl, refl, refl, ([], codes ", c", refl, refl, refl, refl, refl, ([], codes " c", refl, refl, refl, refl, refl, (codes " ", [], refl, refl, refl, refl, refl, refl)))))), (codes " ", codes " d;", refl, refl, refl, refl, refl, (codes " ", codes ";", refl, refl, refl, refl, refl, ([], [], refl, refl, refl, refl, refl, refl)))) refl refl

pub pattern_of_rest_target_with_spaces : IsNotRead (codes "({...{a}} = b);")
unfolding unicode_ident longer_stands word_value is_reserved is_strict_reserved encode
pattern_of_rest_target_with_spaces = refused (codes "({...{a}} = b);") (group false Round (group false Brace (sign ellipsis (group false Brace (word (codes "a") done) done)) (sign equal (word (codes "b") done))) (sign semicolon done)) ([], codes "{...{a}} = b", codes ";", refl, refl, refl, ([], codes "...{a}", codes " = b", refl, refl, refl, ([], codes "{a}", refl, refl, refl, refl, refl, ([], codes "a", [], refl, refl, refl, ([], [], refl, refl, refl, refl, refl, refl), refl)), (codes " ", codes " b", refl, refl, refl, refl, refl, (codes " ", [], refl, refl, refl, refl, refl, refl))), ([], [], refl, refl, refl, refl, refl, refl)) refl refl

pub async_before_of : IsNotRead (codes "for (async of x);")
unfolding unicode_ident longer_stands word_value is_reserved is_strict_reserved encode
async_before_of = refused (codes "for (async of x);") (word (codes "for") (group false Round (word (codes "async") (word (codes "of") (word (codes "x") done))) (sign semicolon done))) ([], codes " (async of x);", refl, refl, refl, refl, refl, (codes " ", codes "async of x", codes ";", refl, refl, refl, ([], codes " of x", refl, refl, refl, refl, refl, (codes " ", codes " x", refl, refl, refl, refl, refl, (codes " ", [], refl, refl, refl, refl, refl, refl))), ([], [], refl, refl, refl, refl, refl, refl))) refl refl

pub let_before_of : IsNotRead (codes "for (let of x);")
unfolding unicode_ident longer_stands word_value is_reserved is_strict_reserved encode
let_before_of = refused (codes "for (let of x);") (word (codes "for") (group false Round (word (codes "let") (word (codes "of") (word (codes "x") done))) (sign semicolon done))) ([], codes " (let of x);", refl, refl, refl, refl, refl, (codes " ", codes "let of x", codes ";", refl, refl, refl, ([], codes " of x", refl, refl, refl, refl, refl, (codes " ", codes " x", refl, refl, refl, refl, refl, (codes " ", [], refl, refl, refl, refl, refl, refl))), ([], [], refl, refl, refl, refl, refl, refl))) refl refl

pub comma_behind_rest_property : IsNotRead (codes "let{...a,}=b;")
unfolding unicode_ident longer_stands word_value is_reserved is_strict_reserved encode
comma_behind_rest_property = refused (codes "let{...a,}=b;") (word (codes "let") (group false Brace (sign ellipsis (word (codes "a") (sign comma done))) (sign equal (word (codes "b") (sign semicolon done))))) ([], codes "{...a,}=b;", refl, refl, refl, refl, refl, ([], codes "...a,", codes "=b;", refl, refl, refl, ([], codes "a,", refl, refl, refl, refl, refl, ([], codes ",", refl, refl, refl, refl, refl, ([], [], refl, refl, refl, refl, refl, refl))), ([], codes "b;", refl, refl, refl, refl, refl, ([], codes ";", refl, refl, refl, refl, refl, ([], [], refl, refl, refl, refl, refl, refl))))) refl refl

pub rest_property_with_default : IsNotRead (codes "let{...a=b}=c;")
unfolding unicode_ident longer_stands word_value is_reserved is_strict_reserved encode
rest_property_with_default = refused (codes "let{...a=b}=c;") (word (codes "let") (group false Brace (sign ellipsis (word (codes "a") (sign equal (word (codes "b") done)))) (sign equal (word (codes "c") (sign semicolon done))))) ([], codes "{...a=b}=c;", refl, refl, refl, refl, refl, ([], codes "...a=b", codes "=c;", refl, refl, refl, ([], codes "a=b", refl, refl, refl, refl, refl, ([], codes "=b", refl, refl, refl, refl, refl, ([], codes "b", refl, refl, refl, refl, refl, ([], [], refl, refl, refl, refl, refl, refl)))), ([], codes "c;", refl, refl, refl, refl, refl, ([], codes ";", refl, refl, refl, refl, refl, ([], [], refl, refl, refl, refl, refl, refl))))) refl refl

pub hole_in_object : IsNotRead (codes "let{,}=a;")
unfolding unicode_ident longer_stands word_value is_reserved is_strict_reserved encode
hole_in_object = refused (codes "let{,}=a;") (word (codes "let") (group false Brace (sign comma done) (sign equal (word (codes "a") (sign semicolon done))))) ([], codes "{,}=a;", refl, refl, refl, refl, refl, ([], codes ",", codes "=a;", refl, refl, refl, ([], [], refl, refl, refl, refl, refl, refl), ([], codes "a;", refl, refl, refl, refl, refl, ([], codes ";", refl, refl, refl, refl, refl, ([], [], refl, refl, refl, refl, refl, refl))))) refl refl

pub computed_key_alone : IsNotRead (codes "let{[a]}=b;")
unfolding unicode_ident longer_stands word_value is_reserved is_strict_reserved encode
computed_key_alone = refused (codes "let{[a]}=b;") (word (codes "let") (group false Brace (group false Square (word (codes "a") done) done) (sign equal (word (codes "b") (sign semicolon done))))) ([], codes "{[a]}=b;", refl, refl, refl, refl, refl, ([], codes "[a]", codes "=b;", refl, refl, refl, ([], codes "a", [], refl, refl, refl, ([], [], refl, refl, refl, refl, refl, refl), refl), ([], codes "b;", refl, refl, refl, refl, refl, ([], codes ";", refl, refl, refl, refl, refl, ([], [], refl, refl, refl, refl, refl, refl))))) refl refl

pub comma_behind_rest_parameter : IsNotRead (codes "(...a,)=>b;")
unfolding unicode_ident longer_stands word_value is_reserved is_strict_reserved encode
comma_behind_rest_parameter = refused (codes "(...a,)=>b;") (group false Round (sign ellipsis (word (codes "a") (sign comma done))) (sign arrow (word (codes "b") (sign semicolon done)))) ([], codes "...a,", codes "=>b;", refl, refl, refl, ([], codes "a,", refl, refl, refl, refl, refl, ([], codes ",", refl, refl, refl, refl, refl, ([], [], refl, refl, refl, refl, refl, refl))), ([], codes "b;", refl, refl, refl, refl, refl, ([], codes ";", refl, refl, refl, refl, refl, ([], [], refl, refl, refl, refl, refl, refl)))) refl refl

pub rest_parameter_with_default : IsNotRead (codes "function f(...[a]=b){}")
unfolding unicode_ident longer_stands word_value is_reserved is_strict_reserved encode
rest_parameter_with_default = refused (codes "function f(...[a]=b){}") (word (codes "function") (word (codes "f") (group false Round (sign ellipsis (group false Square (word (codes "a") done) (sign equal (word (codes "b") done)))) (group false Brace done done)))) ([], codes " f(...[a]=b){}", refl, refl, refl, refl, refl, (codes " ", codes "(...[a]=b){}", refl, refl, refl, refl, refl, ([], codes "...[a]=b", codes "{}", refl, refl, refl, ([], codes "[a]=b", refl, refl, refl, refl, refl, ([], codes "a", codes "=b", refl, refl, refl, ([], [], refl, refl, refl, refl, refl, refl), ([], codes "b", refl, refl, refl, refl, refl, ([], [], refl, refl, refl, refl, refl, refl)))), ([], [], [], refl, refl, refl, refl, refl)))) refl refl

pub comma_behind_parameter_of_setter : IsNotRead (codes "({set a([b],){}});")
unfolding unicode_ident longer_stands word_value is_reserved is_strict_reserved encode
comma_behind_parameter_of_setter = refused (codes "({set a([b],){}});") (group false Round (group false Brace (word (codes "set") (word (codes "a") (group false Round (group false Square (word (codes "b") done) (sign comma done)) (group false Brace done done)))) done) (sign semicolon done)) ([], codes "{set a([b],){}}", codes ";", refl, refl, refl, ([], codes "set a([b],){}", [], refl, refl, refl, ([], codes " a([b],){}", refl, refl, refl, refl, refl, (codes " ", codes "([b],){}", refl, refl, refl, refl, refl, ([], codes "[b],", codes "{}", refl, refl, refl, ([], codes "b", codes ",", refl, refl, refl, ([], [], refl, refl, refl, refl, refl, refl), ([], [], refl, refl, refl, refl, refl, refl)), ([], [], [], refl, refl, refl, refl, refl)))), refl), ([], [], refl, refl, refl, refl, refl, refl)) refl refl

pub value_before_in : IsNotRead (codes "for(let[a]=b in c);")
unfolding unicode_ident longer_stands word_value is_reserved is_strict_reserved encode
value_before_in = refused (codes "for(let[a]=b in c);") (word (codes "for") (group false Round (word (codes "let") (group false Square (word (codes "a") done) (sign equal (word (codes "b") (word (codes "in") (word (codes "c") done)))))) (sign semicolon done))) ([], codes "(let[a]=b in c);", refl, refl, refl, refl, refl, ([], codes "let[a]=b in c", codes ";", refl, refl, refl, ([], codes "[a]=b in c", refl, refl, refl, refl, refl, ([], codes "a", codes "=b in c", refl, refl, refl, ([], [], refl, refl, refl, refl, refl, refl), ([], codes "b in c", refl, refl, refl, refl, refl, ([], codes " in c", refl, refl, refl, refl, refl, (codes " ", codes " c", refl, refl, refl, refl, refl, (codes " ", [], refl, refl, refl, refl, refl, refl)))))), ([], [], refl, refl, refl, refl, refl, refl))) refl refl

pub two_declared_before_of : IsNotRead (codes "for(let a,b of c);")
unfolding unicode_ident longer_stands word_value is_reserved is_strict_reserved encode
two_declared_before_of = refused (codes "for(let a,b of c);") (word (codes "for") (group false Round (word (codes "let") (word (codes "a") (sign comma (word (codes "b") (word (codes "of") (word (codes "c") done)))))) (sign semicolon done))) ([], codes "(let a,b of c);", refl, refl, refl, refl, refl, ([], codes "let a,b of c", codes ";", refl, refl, refl, ([], codes " a,b of c", refl, refl, refl, refl, refl, (codes " ", codes ",b of c", refl, refl, refl, refl, refl, ([], codes "b of c", refl, refl, refl, refl, refl, ([], codes " of c", refl, refl, refl, refl, refl, (codes " ", codes " c", refl, refl, refl, refl, refl, (codes " ", [], refl, refl, refl, refl, refl, refl)))))), ([], [], refl, refl, refl, refl, refl, refl))) refl refl

pub rest_target_with_default : IsNotRead (codes "[...a=b]=c;")
unfolding unicode_ident longer_stands word_value is_reserved is_strict_reserved encode
rest_target_with_default = refused (codes "[...a=b]=c;") (group false Square (sign ellipsis (word (codes "a") (sign equal (word (codes "b") done)))) (sign equal (word (codes "c") (sign semicolon done)))) ([], codes "...a=b", codes "=c;", refl, refl, refl, ([], codes "a=b", refl, refl, refl, refl, refl, ([], codes "=b", refl, refl, refl, refl, refl, ([], codes "b", refl, refl, refl, refl, refl, ([], [], refl, refl, refl, refl, refl, refl)))), ([], codes "c;", refl, refl, refl, refl, refl, ([], codes ";", refl, refl, refl, refl, refl, ([], [], refl, refl, refl, refl, refl, refl)))) refl refl

pub rest_target_property_with_default : IsNotRead (codes "({...a=b}=c);")
unfolding unicode_ident longer_stands word_value is_reserved is_strict_reserved encode
rest_target_property_with_default = refused (codes "({...a=b}=c);") (group false Round (group false Brace (sign ellipsis (word (codes "a") (sign equal (word (codes "b") done)))) (sign equal (word (codes "c") done))) (sign semicolon done)) ([], codes "{...a=b}=c", codes ";", refl, refl, refl, ([], codes "...a=b", codes "=c", refl, refl, refl, ([], codes "a=b", refl, refl, refl, refl, refl, ([], codes "=b", refl, refl, refl, refl, refl, ([], codes "b", refl, refl, refl, refl, refl, ([], [], refl, refl, refl, refl, refl, refl)))), ([], codes "c", refl, refl, refl, refl, refl, ([], [], refl, refl, refl, refl, refl, refl))), ([], [], refl, refl, refl, refl, refl, refl)) refl refl

pub comma_behind_rest_target_property : IsNotRead (codes "({...a,}=b);")
unfolding unicode_ident longer_stands word_value is_reserved is_strict_reserved encode
comma_behind_rest_target_property = refused (codes "({...a,}=b);") (group false Round (group false Brace (sign ellipsis (word (codes "a") (sign comma done))) (sign equal (word (codes "b") done))) (sign semicolon done)) ([], codes "{...a,}=b", codes ";", refl, refl, refl, ([], codes "...a,", codes "=b", refl, refl, refl, ([], codes "a,", refl, refl, refl, refl, refl, ([], codes ",", refl, refl, refl, refl, refl, ([], [], refl, refl, refl, refl, refl, refl))), ([], codes "b", refl, refl, refl, refl, refl, ([], [], refl, refl, refl, refl, refl, refl))), ([], [], refl, refl, refl, refl, refl, refl)) refl refl

pub hole_in_object_target : IsNotRead (codes "({,}=a);")
unfolding unicode_ident longer_stands word_value is_reserved is_strict_reserved encode
hole_in_object_target = refused (codes "({,}=a);") (group false Round (group false Brace (sign comma done) (sign equal (word (codes "a") done))) (sign semicolon done)) ([], codes "{,}=a", codes ";", refl, refl, refl, ([], codes ",", codes "=a", refl, refl, refl, ([], [], refl, refl, refl, refl, refl, refl), ([], codes "a", refl, refl, refl, refl, refl, ([], [], refl, refl, refl, refl, refl, refl))), ([], [], refl, refl, refl, refl, refl, refl)) refl refl

pub computed_key_of_target_alone : IsNotRead (codes "({[a]}=b);")
unfolding unicode_ident longer_stands word_value is_reserved is_strict_reserved encode
computed_key_of_target_alone = refused (codes "({[a]}=b);") (group false Round (group false Brace (group false Square (word (codes "a") done) done) (sign equal (word (codes "b") done))) (sign semicolon done)) ([], codes "{[a]}=b", codes ";", refl, refl, refl, ([], codes "[a]", codes "=b", refl, refl, refl, ([], codes "a", [], refl, refl, refl, ([], [], refl, refl, refl, refl, refl, refl), refl), ([], codes "b", refl, refl, refl, refl, refl, ([], [], refl, refl, refl, refl, refl, refl))), ([], [], refl, refl, refl, refl, refl, refl)) refl refl

pub reserved_target_shorthand : IsNotRead (codes "({if}=a);")
unfolding unicode_ident longer_stands word_value is_reserved is_strict_reserved encode
reserved_target_shorthand = refused (codes "({if}=a);") (group false Round (group false Brace (word (codes "if") done) (sign equal (word (codes "a") done))) (sign semicolon done)) ([], codes "{if}=a", codes ";", refl, refl, refl, ([], codes "if", codes "=a", refl, refl, refl, ([], [], refl, refl, refl, refl, refl, refl), ([], codes "a", refl, refl, refl, refl, refl, ([], [], refl, refl, refl, refl, refl, refl))), ([], [], refl, refl, refl, refl, refl, refl)) refl refl

pub this_as_target : IsNotRead (codes "[this]=a;")
unfolding unicode_ident longer_stands word_value is_reserved is_strict_reserved encode
this_as_target = refused (codes "[this]=a;") (group false Square (word (codes "this") done) (sign equal (word (codes "a") (sign semicolon done)))) ([], codes "this", codes "=a;", refl, refl, refl, ([], [], refl, refl, refl, refl, refl, refl), ([], codes "a;", refl, refl, refl, refl, refl, ([], codes ";", refl, refl, refl, refl, refl, ([], [], refl, refl, refl, refl, refl, refl)))) refl refl

pub unnamed_function : IsNotRead (codes "(a)=function(){};")
unfolding unicode_ident longer_stands word_value is_reserved is_strict_reserved encode
unnamed_function = refused (codes "(a)=function(){};") (group false Round (word (codes "a") done) (sign equal (word (codes "function") (group false Round done (group false Brace done (sign semicolon done)))))) ([], codes "a", codes "=function(){};", refl, refl, refl, ([], [], refl, refl, refl, refl, refl, refl), ([], codes "function(){};", refl, refl, refl, refl, refl, ([], codes "(){};", refl, refl, refl, refl, refl, ([], [], codes "{};", refl, refl, refl, refl, ([], [], codes ";", refl, refl, refl, refl, ([], [], refl, refl, refl, refl, refl, refl)))))) refl refl

pub unnamed_arrow_default : IsNotRead (codes "[(a)=()=>b]=c;")
unfolding unicode_ident longer_stands word_value is_reserved is_strict_reserved encode
unnamed_arrow_default = refused (codes "[(a)=()=>b]=c;") (group false Square (group false Round (word (codes "a") done) (sign equal (group false Round done (sign arrow (word (codes "b") done))))) (sign equal (word (codes "c") (sign semicolon done)))) ([], codes "(a)=()=>b", codes "=c;", refl, refl, refl, ([], codes "a", codes "=()=>b", refl, refl, refl, ([], [], refl, refl, refl, refl, refl, refl), ([], codes "()=>b", refl, refl, refl, refl, refl, ([], [], codes "=>b", refl, refl, refl, refl, ([], codes "b", refl, refl, refl, refl, refl, ([], [], refl, refl, refl, refl, refl, refl))))), ([], codes "c;", refl, refl, refl, refl, refl, ([], codes ";", refl, refl, refl, refl, refl, ([], [], refl, refl, refl, refl, refl, refl)))) refl refl

pub value_of_pattern_before_of : IsNotRead (codes "for([a]=b of c);")
unfolding unicode_ident longer_stands word_value is_reserved is_strict_reserved encode
value_of_pattern_before_of = refused (codes "for([a]=b of c);") (word (codes "for") (group false Round (group false Square (word (codes "a") done) (sign equal (word (codes "b") (word (codes "of") (word (codes "c") done))))) (sign semicolon done))) ([], codes "([a]=b of c);", refl, refl, refl, refl, refl, ([], codes "[a]=b of c", codes ";", refl, refl, refl, ([], codes "a", codes "=b of c", refl, refl, refl, ([], [], refl, refl, refl, refl, refl, refl), ([], codes "b of c", refl, refl, refl, refl, refl, ([], codes " of c", refl, refl, refl, refl, refl, (codes " ", codes " c", refl, refl, refl, refl, refl, (codes " ", [], refl, refl, refl, refl, refl, refl))))), ([], [], refl, refl, refl, refl, refl, refl))) refl refl
