-- Parts of derivations: levels of expressions, a program of one statement, and names.
use Rattle.std.proofs.Common.{◌≡◌, Bool, true, false, Some, codes, refl}
use lib.Utf8.{encode}
use Rattle.unicode_ident.proofs.Computing.{unicode_ident}
use Rattle.jsgen_syntax.specs.Escapes.{word_value}
use Rattle.jsgen_syntax.specs.Name.{is_reserved, is_strict_reserved, is_free_name}
use Rattle.jsgen_tree.specs.Tree.{Tree}
use Rattle.jsgen_tree.specs.Nodes as tree
use Rattle.jsgen_model.specs.Punctuator.{arrow, semicolon}
use Rattle.jsgen_model.specs.Tokens.{Tokens, done, piece, ◌⧺◌, Sign}
use Rattle.jsgen_model.specs.Grammar.{Allowed, Assignment, Expression, LeftHandSide, Member, Relational, Shift, ShortCircuit, Unary, arrow_values, in_arrow_body, in_module, with_in, ReadsArrowParameters, ReadsExpression, ReadsItem, ReadsModule, starts_in_brace, starts_statement, starts_with_directive}
use Rattle.jsgen_model.specs.Grammar as grammar
use Rattle.jsgen_reading_samples.specs.ReadPatterns.{IsRead}
use Rattle.jsgen_reading_samples.specs.ReadPatterns as samples
use Rattle.jsgen_reading_samples.proofs.Written.{sign}

-- ---- levels

pub of_member : {c : Allowed} {ts : Tokens} {t : Tree} → ReadsExpression c Member ts t → ReadsExpression c LeftHandSide ts t
of_member r = grammar.a_new (grammar.a_member r)

pub shifted : {c : Allowed} {ts : Tokens} {t : Tree} → ReadsExpression c LeftHandSide ts t → ReadsExpression c Shift ts t
shifted r = grammar.an_additive (grammar.a_multiplicative (grammar.an_exponent (grammar.a_unary (grammar.an_update (grammar.a_left_hand_side r)))))

pub related : {c : Allowed} {ts : Tokens} {t : Tree} → ReadsExpression c LeftHandSide ts t → ReadsExpression c Relational ts t
related r = grammar.a_shift (shifted r)

pub tested : {c : Allowed} {ts : Tokens} {t : Tree} → ReadsExpression c Relational ts t → ReadsExpression c ShortCircuit ts t
tested r = grammar.a_logical_or (grammar.a_logical_and (grammar.a_bit_or (grammar.a_bit_xor (grammar.a_bit_and (grammar.an_equality (grammar.a_relation r))))))

pub valued : {c : Allowed} {ts : Tokens} {t : Tree} → ReadsExpression c Relational ts t → ReadsExpression c Assignment ts t
valued r = grammar.a_conditional (grammar.a_short_circuit (tested r))

pub as_unary : {c : Allowed} {ts : Tokens} {t : Tree} → ReadsExpression c LeftHandSide ts t → ReadsExpression c Unary ts t
as_unary r = grammar.an_update (grammar.a_left_hand_side r)

pub of_unary : {c : Allowed} {ts : Tokens} {t : Tree} → ReadsExpression c Unary ts t → ReadsExpression c Assignment ts t
of_unary r = valued (grammar.a_shift (grammar.an_additive (grammar.a_multiplicative (grammar.an_exponent (grammar.a_unary r)))))

-- an arrow that isn't `async`
pub read_arrow : {c : Allowed} {ts a b : Tokens} {ps e : Tree} → ts ≡ a ⧺ piece false (Sign arrow) b → ReadsArrowParameters a ps → starts_in_brace b ≡ false → ReadsExpression (in_arrow_body false c) Assignment b e → ReadsExpression c Assignment ts (tree.arrow_function (arrow_values false) ps e)
read_arrow e r n s = grammar.an_arrow (grammar.an_arrow_function e r n s)

-- ---- statements

-- a program of one statement
pub only : {ts : Tokens} {s : Tree} → starts_with_directive ts ≡ false → ReadsItem in_module false ts s → ReadsModule ts (samples.module_of s)
only h r = grammar.a_module (grammar.module_items h (grammar.last_module_item (grammar.a_module_statement r)))

pub item : {c : Allowed} {last : Bool} {a : Tokens} {e : Tree} → starts_statement a ≡ true → ReadsExpression (with_in c) Expression a e → ReadsItem c last (a ⧺ sign semicolon done) (samples.statement_of e)
item h r = grammar.a_statement (grammar.an_expression_statement (grammar.a_semicolon false refl) h r)

-- ---- names

pub free_a : is_free_name (codes "a") ≡ true
unfolding unicode_ident is_reserved is_strict_reserved encode
free_a = refl

pub value_a : word_value (codes "a") ≡ Some (codes "a")
unfolding word_value
value_a = refl

pub free_b : is_free_name (codes "b") ≡ true
unfolding unicode_ident is_reserved is_strict_reserved encode
free_b = refl

pub value_b : word_value (codes "b") ≡ Some (codes "b")
unfolding word_value
value_b = refl

pub free_c : is_free_name (codes "c") ≡ true
unfolding unicode_ident is_reserved is_strict_reserved encode
free_c = refl

pub value_c : word_value (codes "c") ≡ Some (codes "c")
unfolding word_value
value_c = refl

pub free_d : is_free_name (codes "d") ≡ true
unfolding unicode_ident is_reserved is_strict_reserved encode
free_d = refl

pub value_d : word_value (codes "d") ≡ Some (codes "d")
unfolding word_value
value_d = refl

pub free_e : is_free_name (codes "e") ≡ true
unfolding unicode_ident is_reserved is_strict_reserved encode
free_e = refl

pub value_e : word_value (codes "e") ≡ Some (codes "e")
unfolding word_value
value_e = refl

pub free_f : is_free_name (codes "f") ≡ true
unfolding unicode_ident is_reserved is_strict_reserved encode
free_f = refl

pub value_f : word_value (codes "f") ≡ Some (codes "f")
unfolding word_value
value_f = refl

pub free_g : is_free_name (codes "g") ≡ true
unfolding unicode_ident is_reserved is_strict_reserved encode
free_g = refl

pub value_g : word_value (codes "g") ≡ Some (codes "g")
unfolding word_value
value_g = refl

pub free_h : is_free_name (codes "h") ≡ true
unfolding unicode_ident is_reserved is_strict_reserved encode
free_h = refl

pub value_h : word_value (codes "h") ≡ Some (codes "h")
unfolding word_value
value_h = refl

pub free_x : is_free_name (codes "x") ≡ true
unfolding unicode_ident is_reserved is_strict_reserved encode
free_x = refl

pub value_x : word_value (codes "x") ≡ Some (codes "x")
unfolding word_value
value_x = refl

pub free_y : is_free_name (codes "y") ≡ true
unfolding unicode_ident is_reserved is_strict_reserved encode
free_y = refl

pub value_y : word_value (codes "y") ≡ Some (codes "y")
unfolding word_value
value_y = refl

pub free_async : is_free_name (codes "async") ≡ true
unfolding unicode_ident is_reserved is_strict_reserved encode
free_async = refl

pub value_async : word_value (codes "async") ≡ Some (codes "async")
unfolding word_value
value_async = refl

pub value_if : word_value (codes "if") ≡ Some (codes "if")
unfolding word_value
value_if = refl
