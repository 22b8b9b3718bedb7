-- The machine accepts what spells a string.
use Rattle.std.proofs.Common.{◌≡◌, ℕ, ◌+◌, ◌-◌, ◌*◌, Bool, true, false, not, cond, nat_le, ◌&&◌, ◌||◌, ◌==◌, Option, Some, None, is_some, List, [], ◌∷◌, length, drop, refl, sym, ap, if◌then◌else◌, ◌∙◌, subst, arith}
use Rattle.std.specs.Char.{is_ascii_digit, is_ascii_hexdigit, digit_value}
use Rattle.std.specs.Char.Escape.{encode_utf16}
use lib.Utf8.{scalar}
use Rattle.std.proofs.lemmas.Bool.{eqb-true}
use Rattle.std.proofs.lemmas.List.{at_drop_all}
use Rattle.jsgen_syntax.specs.declared.quote.Quote.{Quote}
use Rattle.jsgen_syntax.specs.declared.quote.Quote.TheVariants.{Single, Double, Backtick}
use Rattle.jsgen_syntax.specs.Strings.{begins, begins_with, ends_line, and_then, bare_units, escape_units, string_value, escape_value, hex_value, code_point_value, digits_value}
use Rattle.jsgen_text.specs.declared.spelling.State.{State}
use Rattle.jsgen_text.specs.declared.spelling.State.TheVariants.{Text, Dollar, Backslash, Return, Nought, Unicode, Hex, Opening, Digits}
use Rattle.jsgen_text.specs.Machine.{text_step, escape_step, hex_step, digits_step, step, may_end}

-- whether the text goes on so from the state
abbrev pub spells_from : Quote → State → List ℕ → Bool
spells_from q Text rest = is_some (string_value q rest)
spells_from q Dollar rest = not (begins_with 123 rest) && is_some (string_value q rest)
spells_from q Backslash rest = is_some (escape_value q rest)
spells_from q Return rest = if begins_with 10 rest then is_some (escape_value q rest) else is_some (string_value q rest)
spells_from q Nought rest = not (begins is_ascii_digit rest) && is_some (string_value q rest)
spells_from q Unicode rest = is_some (if begins_with 123 rest then code_point_value q rest else hex_value q 4 0 rest)
spells_from q (Hex count) rest = is_some (hex_value q count 0 rest)
spells_from q Opening rest = begins is_ascii_hexdigit rest && is_some (digits_value q 0 rest)
spells_from q (Digits n) rest = is_some (digits_value q n rest)

abbrev pub spells_behind : Quote → Option State → List ℕ → Bool
spells_behind q None rest = false
spells_behind q (Some s) rest = spells_from q s rest

some_behind : (units : List ℕ) (o : Option (List ℕ)) → is_some (and_then units o) ≡ is_some o
some_behind units None = refl
some_behind units (Some us) = refl

some_unless : (b : Bool) (units : List ℕ) (o : Option (List ℕ)) → is_some (cond (not b) (and_then units o) None) ≡ (not b && is_some o)
some_unless true units o = refl
some_unless false units o = some_behind units o

some_if : (b : Bool) (o : Option (List ℕ)) → is_some (cond b o None) ≡ (b && is_some o)
some_if true o = refl
some_if false o = refl

module _ (q : Quote) (c : ℕ) (rest : List ℕ) (is_scalar : scalar c ≡ true) where
  -- between such quotes, with no quote of the kind (k) and no line end (l, r)
  plain_text : (n k l r : Bool) → is_some (cond n (escape_value q rest) (cond (scalar c && not n && not k && not (l || r)) (and_then (bare_units c rest) (string_value q rest)) None)) ≡ spells_behind q (cond n (Some Backslash) (cond k None (cond (l || r) None (Some Text)))) rest
  plain_text n k l r = ap (λ s. is_some (cond n (escape_value q rest) (cond (s && not n && not k && not (l || r)) (and_then (bare_units c rest) (string_value q rest)) None))) is_scalar ∙ by n k l r
    where
      by : (n k l r : Bool) → is_some (cond n (escape_value q rest) (cond (not n && not k && not (l || r)) (and_then (bare_units c rest) (string_value q rest)) None)) ≡ spells_behind q (cond n (Some Backslash) (cond k None (cond (l || r) None (Some Text)))) rest
      by true k l r = refl
      by false true l r = refl
      by false false true r = refl
      by false false false true = refl
      by false false false false = some_behind (bare_units c rest) (string_value q rest)

  -- in backticks, at a `$` (d) or not
  backtick_text : (n k d : Bool) → is_some (cond n (escape_value q rest) (cond (scalar c && not n && not k && not (d && begins_with 123 rest)) (and_then (bare_units c rest) (string_value q rest)) None)) ≡ spells_behind q (cond n (Some Backslash) (cond k None (Some (cond d Dollar Text)))) rest
  backtick_text n k d = ap (λ s. is_some (cond n (escape_value q rest) (cond (s && not n && not k && not (d && begins_with 123 rest)) (and_then (bare_units c rest) (string_value q rest)) None))) is_scalar ∙ by n k d
    where
      by : (n k d : Bool) → is_some (cond n (escape_value q rest) (cond (not n && not k && not (d && begins_with 123 rest)) (and_then (bare_units c rest) (string_value q rest)) None)) ≡ spells_behind q (cond n (Some Backslash) (cond k None (Some (cond d Dollar Text)))) rest
      by true k d = refl
      by false true d = refl
      by false false true = some_unless (begins_with 123 rest) (bare_units c rest) (string_value q rest)
      by false false false = some_behind (bare_units c rest) (string_value q rest)

text_is : (q : Quote) (c : ℕ) (rest : List ℕ) → scalar c ≡ true → is_some (string_value q (c ∷ rest)) ≡ spells_behind q (text_step q c) rest
unfolding string_value
text_is Single c rest s = plain_text Single c rest s (c == 92) (c == 39) (c == 10) (c == 13)
text_is Double c rest s = plain_text Double c rest s (c == 92) (c == 34) (c == 10) (c == 13)
text_is Backtick c rest s = backtick_text Backtick c rest s (c == 92) (c == 96) (c == 36)

behind_return : (q : Quote) (rest : List ℕ) → is_some (escape_value q (13 ∷ rest)) ≡ spells_from q Return rest
unfolding string_value
behind_return q rest = by (begins_with 10 rest)
  where
    by : (b : Bool) → is_some (cond b (escape_value q rest) (string_value q rest)) ≡ cond b (is_some (escape_value q rest)) (is_some (string_value q rest))
    by true = refl
    by false = refl

escape_is : (q : Quote) (c : ℕ) (rest : List ℕ) → scalar c ≡ true → is_some (escape_value q (c ∷ rest)) ≡ spells_behind q (escape_step c) rest
unfolding string_value
escape_is q c rest s = at_return (c == 13) refl
  where
    by : (l x u d z : Bool) → is_some (cond l (string_value q rest) (cond x (hex_value q 2 0 rest) (cond u (cond (begins_with 123 rest) (code_point_value q rest) (hex_value q 4 0 rest)) (cond d (cond (z && not (begins is_ascii_digit rest)) (and_then (0 ∷ []) (string_value q rest)) None) (and_then (escape_units c) (string_value q rest))))))
        ≡ spells_behind q (cond l (Some Text) (cond x (Some (Hex 2)) (cond u (Some Unicode) (cond d (cond z (Some Nought) None) (Some Text))))) rest
    by true x u d z = refl
    by false true u d z = refl
    by false false true d z = refl
    by false false false true true = some_unless (begins is_ascii_digit rest) (0 ∷ []) (string_value q rest)
    by false false false true false = refl
    by false false false false z = some_behind (escape_units c) (string_value q rest)

    at_return : (b : Bool) → (c == 13) ≡ b → is_some (escape_value q (c ∷ rest)) ≡ spells_behind q (cond b (Some Return) (cond (ends_line c) (Some Text) (cond (c == 120) (Some (Hex 2)) (cond (c == 117) (Some Unicode) (cond (is_ascii_digit c) (cond (c == 48) (Some Nought) None) (Some Text)))))) rest
    at_return true e = subst (λ x. is_some (escape_value q (x ∷ rest)) ≡ spells_from q Return rest) (sym (eqb-true c 13 e)) (behind_return q rest)
    at_return false e =
        ap (λ b. is_some (cond (b && begins_with 10 rest) (escape_value q rest) (cond (ends_line c) (string_value q rest) (cond (c == 120) (hex_value q 2 0 rest) (cond (c == 117) (cond (begins_with 123 rest) (code_point_value q rest) (hex_value q 4 0 rest)) (cond (is_ascii_digit c) (cond ((c == 48) && not (begins is_ascii_digit rest)) (and_then (0 ∷ []) (string_value q rest)) None) (cond (scalar c) (and_then (escape_units c) (string_value q rest)) None))))))) e
        ∙ (ap (λ b. is_some (cond (ends_line c) (string_value q rest) (cond (c == 120) (hex_value q 2 0 rest) (cond (c == 117) (cond (begins_with 123 rest) (code_point_value q rest) (hex_value q 4 0 rest)) (cond (is_ascii_digit c) (cond ((c == 48) && not (begins is_ascii_digit rest)) (and_then (0 ∷ []) (string_value q rest)) None) (cond b (and_then (escape_units c) (string_value q rest)) None)))))) s
        ∙ by (ends_line c) (c == 120) (c == 117) (is_ascii_digit c) (c == 48))

-- the number doesn't matter
hex_any : (q : Quote) (count n m : ℕ) (cs : List ℕ) → is_some (hex_value q count n cs) ≡ is_some (hex_value q count m cs)
unfolding string_value
hex_any q count n m [] = refl
hex_any q count n m (c ∷ cs) = by (is_ascii_hexdigit c) (count == 1) (hex_any q (count - 1) (n * 16 + digit_value c) (m * 16 + digit_value c) cs)
  where
    by : (h one : Bool) → is_some (hex_value q (count - 1) (n * 16 + digit_value c) cs) ≡ is_some (hex_value q (count - 1) (m * 16 + digit_value c) cs)
        → is_some (cond (not h) None (cond one (and_then (encode_utf16 (n * 16 + digit_value c)) (string_value q cs)) (hex_value q (count - 1) (n * 16 + digit_value c) cs)))
        ≡ is_some (cond (not h) None (cond one (and_then (encode_utf16 (m * 16 + digit_value c)) (string_value q cs)) (hex_value q (count - 1) (m * 16 + digit_value c) cs)))
    by false one i = refl
    by true true i = some_behind (encode_utf16 (n * 16 + digit_value c)) (string_value q cs) ∙ sym (some_behind (encode_utf16 (m * 16 + digit_value c)) (string_value q cs))
    by true false i = i

hex_is : (q : Quote) (count c : ℕ) (rest : List ℕ) → is_some (hex_value q count 0 (c ∷ rest)) ≡ spells_behind q (hex_step count c) rest
unfolding string_value
hex_is q count c rest = by (is_ascii_hexdigit c) (count == 1)
  where
    by : (h one : Bool) → is_some (cond (not h) None (cond one (and_then (encode_utf16 (0 * 16 + digit_value c)) (string_value q rest)) (hex_value q (count - 1) (0 * 16 + digit_value c) rest))) ≡ spells_behind q (cond h (Some (cond one Text (Hex (count - 1)))) None) rest
    by false one = refl
    by true true = some_behind (encode_utf16 (0 * 16 + digit_value c)) (string_value q rest)
    by true false = hex_any q (count - 1) (0 * 16 + digit_value c) 0 rest

digits_is : (q : Quote) (n c : ℕ) (rest : List ℕ) → is_some (digits_value q n (c ∷ rest)) ≡ spells_behind q (digits_step n c) rest
unfolding string_value
digits_is q n c rest = by (c == 125) (is_ascii_hexdigit c && nat_le (n * 16 + digit_value c) 0x10FFFF)
  where
    by : (e h : Bool) → is_some (cond e (and_then (encode_utf16 n) (string_value q rest)) (cond h (digits_value q (n * 16 + digit_value c) rest) None)) ≡ spells_behind q (cond e (Some Text) (cond h (Some (Digits (n * 16 + digit_value c))) None)) rest
    by true h = some_behind (encode_utf16 n) (string_value q rest)
    by false true = refl
    by false false = refl

code_point_is : (q : Quote) (c : ℕ) (rest : List ℕ) → is_some (code_point_value q (c ∷ rest)) ≡ spells_from q Opening rest
unfolding string_value
code_point_is q c rest = some_if (begins is_ascii_hexdigit rest) (digits_value q 0 rest)

-- a step is right where its branches are
unless : (q : Quote) (b x : Bool) (o : Option State) (rest : List ℕ) → x ≡ spells_behind q o rest → (not b && x) ≡ spells_behind q (cond b None o) rest
unless q true x o rest e = refl
unless q false x o rest e = e

where_so : (q : Quote) (b x : Bool) (o : Option State) (rest : List ℕ) → x ≡ spells_behind q o rest → (b && x) ≡ spells_behind q (cond b o None) rest
where_so q true x o rest e = e
where_so q false x o rest e = refl

return_is : (q : Quote) (c : ℕ) (rest : List ℕ) → scalar c ≡ true → spells_from q Return (c ∷ rest) ≡ spells_behind q (step q Return c) rest
unfolding string_value
return_is q c rest s = by (c == 10) refl
  where
    by : (b : Bool) → (c == 10) ≡ b → cond b (is_some (escape_value q (c ∷ rest))) (is_some (string_value q (c ∷ rest))) ≡ spells_behind q (cond b (Some Text) (text_step q c)) rest
    by true e = subst (λ x. is_some (escape_value q (x ∷ rest)) ≡ is_some (string_value q rest)) (sym (eqb-true c 10 e)) refl
    by false e = text_is q c rest s

unicode_is : (q : Quote) (c : ℕ) (rest : List ℕ) → spells_from q Unicode (c ∷ rest) ≡ spells_behind q (step q Unicode c) rest
unicode_is q c rest = by (c == 123)
  where
    by : (b : Bool) → is_some (cond b (code_point_value q (c ∷ rest)) (hex_value q 4 0 (c ∷ rest))) ≡ spells_behind q (cond b (Some Opening) (hex_step 4 c)) rest
    by true = code_point_is q c rest
    by false = hex_is q 4 c rest

pub machine_step : (q : Quote) (s : State) (c : ℕ) (rest : List ℕ) → scalar c ≡ true → spells_from q s (c ∷ rest) ≡ spells_behind q (step q s c) rest
machine_step q Text c rest h = text_is q c rest h
machine_step q Dollar c rest h = unless q (c == 123) _ (text_step q c) rest (text_is q c rest h)
machine_step q Backslash c rest h = escape_is q c rest h
machine_step q Return c rest h = return_is q c rest h
machine_step q Nought c rest h = unless q (is_ascii_digit c) _ (text_step q c) rest (text_is q c rest h)
machine_step q Unicode c rest h = unicode_is q c rest
machine_step q (Hex count) c rest h = hex_is q count c rest
machine_step q Opening c rest h = where_so q (is_ascii_hexdigit c) _ (digits_step 0 c) rest (digits_is q 0 c rest)
machine_step q (Digits n) c rest h = digits_is q n c rest

machine_end : (q : Quote) (s : State) → spells_from q s [] ≡ may_end s
unfolding string_value
machine_end q Text = refl
machine_end q Dollar = refl
machine_end q Backslash = refl
machine_end q Return = refl
machine_end q Nought = refl
machine_end q Unicode = refl
machine_end q (Hex count) = refl
machine_end q Opening = refl
machine_end q (Digits n) = refl

pub machine_ends : (q : Quote) (s : State) (cs : List ℕ) (n : ℕ) → n ≡ length cs → spells_from q s (drop n cs) ≡ may_end s
machine_ends q s cs n e = at_drop_all (spells_from q s) cs n (omega arith) ∙ machine_end q s
