-- What a raw text stands for, as the rule asks it.
use Rattle.std.proofs.Common.{◌≡◌, ℕ, Bool, true, false, not, cond, ◌&&◌, ◌==◌, Option, Some, None, is_some, List, [], ◌∷◌, refl, ap}
use Rattle.std.proofs.lemmas.Bool.{and_parts, eqb-true}
use Rattle.jsgen_syntax.specs.Escapes.{begins_with}
use Rattle.jsgen_model.specs.Templates.{is_raw, is_escaped, are_same}
use Rattle.jsgen_rules.specs.UnitsLeft.{is_value}
use Rattle.jsgen_rules.specs.Values.{has_no_return}

pub value_same : (o : Option (List ℕ)) (us : List ℕ) → is_value o us ≡ are_same o (Some us)
value_same None us = refl
value_same (Some vs) us = refl

pub none_same : (o : Option (List ℕ)) → not (is_some o) ≡ are_same o None
none_same None = refl
none_same (Some us) = refl

together : (a b : Bool) → a ≡ true → b ≡ true → (a && b) ≡ true
together true b h k = k
together false b h k = h

no_return : (c : ℕ) → (c == 92) ≡ true → not (c == 13) ≡ true
no_return c h = ap (λ d. not (d == 13)) (eqb-true c 92 h)

-- no CR stands in a raw text
record Free (cs : List ℕ) : Type 0 where
  raw : is_raw cs ≡ true → has_no_return cs ≡ true
  escaped : is_escaped cs ≡ true → has_no_return cs ≡ true

free_escaped : (c : ℕ) (cs : List ℕ) → Free cs → (not (c == 13) && is_raw cs) ≡ true → (not (c == 13) && has_no_return cs) ≡ true
free_escaped c cs f e = let h = and_parts (not (c == 13)) (is_raw cs) e in together (not (c == 13)) (has_no_return cs) h.0 (f.raw h.1)

free_raw : (c : ℕ) (cs : List ℕ) → Free cs → is_raw (c ∷ cs) ≡ true → (not (c == 13) && has_no_return cs) ≡ true
free_raw c cs f e = by (c == 92) refl e
  where
    plain : Bool
    plain = not (c == 96) && (not ((c == 36) && begins_with 123 cs) && is_raw cs)

    by : (b : Bool) → (c == 92) ≡ b → cond b (is_escaped cs) (not (c == 13) && plain) ≡ true → (not (c == 13) && has_no_return cs) ≡ true
    by true h k = together (not (c == 13)) (has_no_return cs) (no_return c h) (f.escaped k)
    by false h k =
        let r = and_parts (not (c == 13)) plain k in
        let s = and_parts (not (c == 96)) (not ((c == 36) && begins_with 123 cs) && is_raw cs) r.1 in
        together (not (c == 13)) (has_no_return cs) r.0 (f.raw (and_parts (not ((c == 36) && begins_with 123 cs)) (is_raw cs) s.1).1)

free : (cs : List ℕ) → Free cs
free [] = record { raw = λ e. refl; escaped = λ e. refl }
free (c ∷ cs) = let f = free cs in record { raw = free_raw c cs f; escaped = free_escaped c cs f }

pub raw_free : (cs : List ℕ) → is_raw cs ≡ true → has_no_return cs ≡ true
raw_free cs e = (free cs).raw e
