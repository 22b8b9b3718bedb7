-- The machine says what a raw text stands for.
use Rattle.std.proofs.Common.{◌≡◌, ℕ, suc, zero, ◌+◌, ◌*◌, ◌<◌, Bool, true, false, not, cond, nat_le, ◌&&◌, ◌==◌, Option, Some, None, List, [], ◌∷◌, length, get_or, drop, ◌++◌, flat_map, refl, sym, ap, ◌∙◌, subst, arith}
use Rattle.std.specs.Str.{chars}
use Rattle.std.proofs.lemmas.Str.{chars-nil}
use Rattle.std.proofs.lemmas.Bool.{and_parts, eqb-true}
use Rattle.jsgen_rules.specs.UnitsLeft.{second_unit}
use Rattle.std.specs.Char.{is_ascii_digit, is_ascii_hexdigit, digit_value}
use Rattle.std.specs.Char.Escape.{encode_utf16}
use lib.Utf8.{scalar}
use Rattle.std.proofs.lemmas.List.{at_drop_all}
use Rattle.jsgen_syntax.specs.declared.quote.Quote.TheVariants.{Backtick}
use Rattle.jsgen_syntax.specs.Strings.{begins, begins_with, ends_line, and_then, escape_units, string_value, escape_value, hex_value, code_point_value, digits_value}
use Rattle.jsgen_rules.specs.declared.values.State.{State}
use Rattle.jsgen_rules.specs.declared.values.State.TheVariants.{Text, Dollar, Backslash, Nought, Unicode, OneDigit, TwoDigits, ThreeDigits, Opening, Digits}
use Rattle.jsgen_rules.specs.declared.values.Step.{Step}
use Rattle.jsgen_rules.specs.Values.{goes_to, completes, text_step, escape_code, escape_step, first_digit, second_digit, third_digit, fourth_digit, digits_step, next_step, may_end, value_from, value_behind, has_no_return}

unless_units : (b : Bool) (units : List ℕ) (o : Option (List ℕ)) → cond (not b) (and_then units o) None ≡ and_then units (cond b None o)
unless_units true units o = refl
unless_units false units o = refl

escaped_unit : (c : ℕ) → escape_units c ≡ encode_utf16 (escape_code c)
escaped_unit c = by (c == 98) (c == 116) (c == 110) (c == 118) (c == 102) (c == 114)
  where
    by : (b t n v f r : Bool) → cond b (8 ∷ []) (cond t (9 ∷ []) (cond n (10 ∷ []) (cond v (11 ∷ []) (cond f (12 ∷ []) (cond r (13 ∷ []) (encode_utf16 c)))))) ≡ encode_utf16 (cond b 8 (cond t 9 (cond n 10 (cond v 11 (cond f 12 (cond r 13 c))))))
    by true t n v f r = refl
    by false true n v f r = refl
    by false false true v f r = refl
    by false false false true f r = refl
    by false false false false true r = refl
    by false false false false false true = refl
    by false false false false false false = refl

text_is : (c : ℕ) (rest : List ℕ) → scalar c ≡ true → (c == 13) ≡ false → string_value Backtick (c ∷ rest) ≡ value_behind (text_step c) rest
unfolding string_value
text_is c rest is_scalar no_return = ap (λ s. given s (c == 13)) is_scalar ∙ (ap (λ r. given true r) no_return ∙ by (c == 92) (c == 96) (c == 36))
  where
    given : Bool → Bool → Option (List ℕ)
    given s r = cond (c == 92) (escape_value Backtick rest) (cond (s && not (c == 92) && not (c == 96) && not ((c == 36) && begins_with 123 rest)) (and_then (cond r (cond (begins_with 10 rest) [] (10 ∷ [])) (encode_utf16 c)) (string_value Backtick rest)) None)

    by : (n k d : Bool) → cond n (escape_value Backtick rest) (cond (true && not n && not k && not (d && begins_with 123 rest)) (and_then (encode_utf16 c) (string_value Backtick rest)) None) ≡ value_behind (cond n (goes_to Backslash) (cond k None (cond d (completes Dollar c) (completes Text c)))) rest
    by true k d = refl
    by false true d = refl
    by false false true = unless_units (begins_with 123 rest) (encode_utf16 c) (string_value Backtick rest)
    by false false false = refl

escape_is : (c : ℕ) (rest : List ℕ) → scalar c ≡ true → (c == 13) ≡ false → escape_value Backtick (c ∷ rest) ≡ value_behind (escape_step c) rest
unfolding string_value
escape_is c rest is_scalar no_return = ap (λ r. given (scalar c) r) no_return ∙ (ap (λ s. given s false) is_scalar ∙ by (ends_line c) (c == 120) (c == 117) (is_ascii_digit c) (c == 48))
  where
    given : Bool → Bool → Option (List ℕ)
    given s r = cond (r && begins_with 10 rest) (escape_value Backtick rest) (cond (ends_line c) (string_value Backtick rest) (cond (c == 120) (hex_value Backtick 2 0 rest) (cond (c == 117) (cond (begins_with 123 rest) (code_point_value Backtick rest) (hex_value Backtick 4 0 rest)) (cond (is_ascii_digit c) (cond ((c == 48) && not (begins is_ascii_digit rest)) (and_then (0 ∷ []) (string_value Backtick rest)) None) (cond s (and_then (escape_units c) (string_value Backtick rest)) None)))))

    by : (l x u d z : Bool) → cond l (string_value Backtick rest) (cond x (hex_value Backtick 2 0 rest) (cond u (cond (begins_with 123 rest) (code_point_value Backtick rest) (hex_value Backtick 4 0 rest)) (cond d (cond (z && not (begins is_ascii_digit rest)) (and_then (0 ∷ []) (string_value Backtick rest)) None) (and_then (escape_units c) (string_value Backtick rest)))))
        ≡ value_behind (cond l (goes_to Text) (cond x (goes_to (TwoDigits 0)) (cond u (goes_to Unicode) (cond d (cond z (completes Nought 0) None) (completes Text (escape_code c)))))) rest
    by true x u d z = refl
    by false true u d z = refl
    by false false true d z = refl
    by false false false true true = unless_units (begins is_ascii_digit rest) (0 ∷ []) (string_value Backtick rest)
    by false false false true false = refl
    by false false false false z = ap (λ us. and_then us (string_value Backtick rest)) (escaped_unit c)

first_is : (c : ℕ) (rest : List ℕ) → hex_value Backtick 4 0 (c ∷ rest) ≡ value_behind (first_digit c) rest
unfolding string_value
first_is c rest = by (is_ascii_hexdigit c)
  where
    by : (h : Bool) → cond (not h) None (hex_value Backtick 3 (0 * 16 + digit_value c) rest) ≡ value_behind (cond h (goes_to (OneDigit (digit_value c))) None) rest
    by true = ap (λ n. hex_value Backtick 3 n rest) (omega arith)
    by false = refl

second_is : (n c : ℕ) (rest : List ℕ) → hex_value Backtick 3 n (c ∷ rest) ≡ value_behind (second_digit n c) rest
unfolding string_value
second_is n c rest = by (is_ascii_hexdigit c)
  where
    by : (h : Bool) → cond (not h) None (hex_value Backtick 2 (n * 16 + digit_value c) rest) ≡ value_behind (cond h (goes_to (TwoDigits (n * 16 + digit_value c))) None) rest
    by true = refl
    by false = refl

third_is : (n c : ℕ) (rest : List ℕ) → hex_value Backtick 2 n (c ∷ rest) ≡ value_behind (third_digit n c) rest
unfolding string_value
third_is n c rest = by (is_ascii_hexdigit c)
  where
    by : (h : Bool) → cond (not h) None (hex_value Backtick 1 (n * 16 + digit_value c) rest) ≡ value_behind (cond h (goes_to (ThreeDigits (n * 16 + digit_value c))) None) rest
    by true = refl
    by false = refl

fourth_is : (n c : ℕ) (rest : List ℕ) → hex_value Backtick 1 n (c ∷ rest) ≡ value_behind (fourth_digit n c) rest
unfolding string_value
fourth_is n c rest = by (is_ascii_hexdigit c)
  where
    by : (h : Bool) → cond (not h) None (and_then (encode_utf16 (n * 16 + digit_value c)) (string_value Backtick rest)) ≡ value_behind (cond h (completes Text (n * 16 + digit_value c)) None) rest
    by true = refl
    by false = refl

digits_are : (n c : ℕ) (rest : List ℕ) → digits_value Backtick n (c ∷ rest) ≡ value_behind (digits_step n c) rest
unfolding string_value
digits_are n c rest = by (c == 125) (is_ascii_hexdigit c && nat_le (n * 16 + digit_value c) 0x10FFFF)
  where
    by : (e h : Bool) → cond e (and_then (encode_utf16 n) (string_value Backtick rest)) (cond h (digits_value Backtick (n * 16 + digit_value c) rest) None) ≡ value_behind (cond e (completes Text n) (cond h (goes_to (Digits (n * 16 + digit_value c))) None)) rest
    by true h = refl
    by false true = refl
    by false false = refl

point_is : (c : ℕ) (rest : List ℕ) → code_point_value Backtick (c ∷ rest) ≡ value_from Opening rest
unfolding string_value
point_is c rest = refl

unicode_is : (c : ℕ) (rest : List ℕ) → value_from Unicode (c ∷ rest) ≡ value_behind (next_step Unicode c) rest
unicode_is c rest = by (c == 123)
  where
    by : (b : Bool) → cond b (code_point_value Backtick (c ∷ rest)) (hex_value Backtick 4 0 (c ∷ rest)) ≡ value_behind (cond b (goes_to Opening) (first_digit c)) rest
    by true = point_is c rest
    by false = first_is c rest

-- a step is right where its branches are
unless : (b : Bool) (x : Option (List ℕ)) (o : Option Step) (rest : List ℕ) → x ≡ value_behind o rest → cond b None x ≡ value_behind (cond b None o) rest
unless true x o rest e = refl
unless false x o rest e = e

where_so : (b : Bool) (x : Option (List ℕ)) (o : Option Step) (rest : List ℕ) → x ≡ value_behind o rest → cond b x None ≡ value_behind (cond b o None) rest
where_so true x o rest e = e
where_so false x o rest e = refl

pub one_step : (s : State) (c : ℕ) (rest : List ℕ) → scalar c ≡ true → (c == 13) ≡ false → value_from s (c ∷ rest) ≡ value_behind (next_step s c) rest
one_step Text c rest h r = text_is c rest h r
one_step Dollar c rest h r = unless (c == 123) _ (text_step c) rest (text_is c rest h r)
one_step Backslash c rest h r = escape_is c rest h r
one_step Nought c rest h r = unless (is_ascii_digit c) _ (text_step c) rest (text_is c rest h r)
one_step Unicode c rest h r = unicode_is c rest
one_step (OneDigit n) c rest h r = second_is n c rest
one_step (TwoDigits n) c rest h r = third_is n c rest
one_step (ThreeDigits n) c rest h r = fourth_is n c rest
one_step Opening c rest h r = where_so (is_ascii_hexdigit c) _ (digits_step 0 c) rest (digits_are 0 c rest)
one_step (Digits n) c rest h r = digits_are n c rest

pub no_step : (s : State) → value_from s [] ≡ cond (may_end s) (Some []) None
unfolding string_value
no_step Text = refl
no_step Dollar = refl
no_step Backslash = refl
no_step Nought = refl
no_step Unicode = refl
no_step (OneDigit n) = refl
no_step (TwoDigits n) = refl
no_step (ThreeDigits n) = refl
no_step Opening = refl
no_step (Digits n) = refl

pub at_end : (f : List ℕ → Bool) (cs : List ℕ) (n : ℕ) → n ≡ length cs → f (drop n cs) ≡ f []
at_end f cs n e = at_drop_all f cs n (omega arith)

pub two_at_once : (u v : ℕ) (others : Option (List ℕ)) → and_then (u ∷ v ∷ []) others ≡ and_then (u ∷ []) (and_then (v ∷ []) others)
two_at_once u v None = refl
two_at_once u v (Some us) = refl

denied : (b : Bool) → not b ≡ true → b ≡ false
denied true e = absurd (cc)
denied false e = refl

no_return_get : (cs : List ℕ) (n c : ℕ) → has_no_return cs ≡ true → n < length cs → (get_or cs n c == 13) ≡ false
no_return_get [] n c s l = absurd (omega arith)
no_return_get (d ∷ cs) zero c s l = denied (d == 13) (and_parts (not (d == 13)) (has_no_return cs) s).0
no_return_get (d ∷ cs) (suc n) c s l = no_return_get cs n c (and_parts (not (d == 13)) (has_no_return cs) s).1 (omega arith)

pub no_return_at : (cs : List ℕ) (n c : ℕ) → has_no_return cs ≡ true → (n < length cs) × (c ≡ get_or cs n c) → (c == 13) ≡ false
no_return_at cs n c s h = subst (λ x. (x == 13) ≡ false) (sym h.1) (no_return_get cs n c s h.0)

-- no unit is left behind the last code point
pub none_left : (second : Option ℕ) (bytes : List ℕ) → second ≡ None → (length bytes == 0) ≡ true → second_unit second ++ flat_map encode_utf16 (chars bytes) ≡ []
none_left None [] a b = ap (λ cs. flat_map encode_utf16 cs) chars-nil
none_left None (x ∷ xs) a b = absurd (omega (arith, eqb-true (suc (length xs)) 0 b))
none_left (Some u) bytes a b = absurd (cc)
