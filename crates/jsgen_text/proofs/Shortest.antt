-- The text in the cheapest quote is the shortest.
use Rattle.std.proofs.Common.{◌≡◌, ℕ, ◌+◌, ◌≤◌, ◌<◌, Bool, true, false, not, nat_le, nat_lt, ◌&&◌, ◌||◌, ◌==◌, List, [], ◌∷◌, length, if◌then◌else◌, refl, sym, ap, ◌∙◌, subst, arith, length-append}
use Rattle.std.proofs.lemmas.Bool.{both_ways, and_parts, or_from, and_left, leb-true, leb-false, ltb-true, ltb-false, eqb-true, ne_eqb}
use Rattle.jsgen_syntax.specs.declared.quote.Quote.{Quote}
use Rattle.jsgen_syntax.specs.declared.quote.Quote.TheVariants.{Single, Double, Backtick}
use Rattle.jsgen_syntax.specs.Strings.{quote_char, is_backtick, begins_with, begins_script, needs_backslash, control_text, ascii_text, past_ascii_text, point_text, escaped_after, escaped, quoted, costs_more, quote_cost, cheapest_of, cheapest}
use Rattle.jsgen_syntax.specs.Wtf8.{are_units, joined_units}
use Rattle.jsgen_syntax.proofs.Bytes.{costs_none, quote_cost-points}

-- a backslash that each quote needs
abbrev always : Bool → ℕ → List ℕ → Bool
always after_less c rest = (c == 92) || (after_less && (c == 47) && begins_script rest)

abbrev one_if : Bool → ℕ
one_if b = if b then 1 else 0

-- a backslash that this quote needs
abbrev here : Quote → ℕ → List ℕ → Bool
here q c rest = (c == quote_char q) || (is_backtick q && (c == 36) && begins_with 123 rest)

counted : (a x y z : Bool) → (a ≡ true → (x || y) ≡ false) → (z ≡ true → (x || y) ≡ false) → 1 + one_if (a || x || y || z) ≡ 1 + one_if (a || z) + one_if (x || y)
counted true x y z f g = ap (λ w. 2 + one_if w) (sym (f refl))
counted false true y true f g = absurd (both_ways true (g refl) refl)
counted false true y false f g = refl
counted false false true true f g = absurd (both_ways true (g refl) refl)
counted false false true false f g = refl
counted false false false true f g = refl
counted false false false false f g = refl

not_here : (q : Quote) (c : ℕ) (rest : List ℕ) (d : ℕ) → (c == d) ≡ true → ((p : Quote) → here p d rest ≡ false) → here q c rest ≡ false
not_here q c rest d e h = subst (λ x. here q x rest ≡ false) (sym (eqb-true c d e)) (h q)

backslash_apart : (rest : List ℕ) (q : Quote) → here q 92 rest ≡ false
backslash_apart rest Single = refl
backslash_apart rest Double = refl
backslash_apart rest Backtick = refl

slash_apart : (rest : List ℕ) (q : Quote) → here q 47 rest ≡ false
slash_apart rest Single = refl
slash_apart rest Double = refl
slash_apart rest Backtick = refl

-- but for an LF
costs_here : (q : Quote) (c : ℕ) (rest : List ℕ) → (c == 10) ≡ false → costs_more q c rest ≡ here q c rest
costs_here Single c rest e = ap (λ b. (c == 39) || b) e
costs_here Double c rest e = ap (λ b. (c == 34) || b) e
costs_here Backtick c rest e = refl

-- ---- one code point

-- its length in a quote where it costs nothing
abbrev shared_length : Bool → Bool → ℕ → List ℕ → ℕ
shared_length ascii after_less c rest =
    if nat_lt c 32 then length (control_text Backtick c rest)
    else (if nat_lt c 128 then 1 + one_if (always after_less c rest)
    else length (past_ascii_text ascii c))

line_end_length : (q : Quote) (rest : List ℕ) → length (control_text q 10 rest) ≡ length (control_text Backtick 10 rest) + one_if (costs_more q 10 rest)
line_end_length Single rest = refl
line_end_length Double rest = refl
line_end_length Backtick rest = refl

control_alike : (q : Quote) (c : ℕ) (rest : List ℕ) → (c == 10) ≡ false → control_text q c rest ≡ control_text Backtick c rest
control_alike q c rest e = rw e refl

control_free : (q : Quote) (c : ℕ) (rest : List ℕ) → c < 32 → here q c rest ≡ false
control_free Single c rest l = or_from (c == 39) false (ne_eqb c 39 (λ e. omega arith)) refl
control_free Double c rest l = or_from (c == 34) false (ne_eqb c 34 (λ e. omega arith)) refl
control_free Backtick c rest l = or_from (c == 96) ((c == 36) && begins_with 123 rest) (ne_eqb c 96 (λ e. omega arith)) (and_left (c == 36) (begins_with 123 rest) (ne_eqb c 36 (λ e. omega arith)))

control_length : (q : Quote) (c : ℕ) (rest : List ℕ) → c < 32 → length (control_text q c rest) ≡ length (control_text Backtick c rest) + one_if (costs_more q c rest)
control_length q c rest l = by (c == 10) refl
  where
    by : (b : Bool) → (c == 10) ≡ b → length (control_text q c rest) ≡ length (control_text Backtick c rest) + one_if (costs_more q c rest)
    by true e = subst (λ x. length (control_text q x rest) ≡ length (control_text Backtick x rest) + one_if (costs_more q x rest)) (sym (eqb-true c 10 e)) (line_end_length q rest)
    by false e =
        let alike = ap length (control_alike q c rest e) in
        let free = ap one_if (costs_here q c rest e ∙ control_free q c rest l) in
        omega arith

lengths : (b : Bool) (c : ℕ) → length (if b then 92 ∷ c ∷ [] else c ∷ []) ≡ 1 + one_if b
lengths true c = refl
lengths false c = refl

ascii_length : (q : Quote) (after_less : Bool) (c : ℕ) (rest : List ℕ) → 32 ≤ c → length (ascii_text q after_less c rest) ≡ 1 + one_if (always after_less c rest) + one_if (costs_more q c rest)
ascii_length q after_less c rest l =
    let e = costs_here q c rest (ne_eqb c 10 (λ k. omega arith)) in
    lengths (needs_backslash q after_less c rest) c
    ∙ (counted (c == 92) (c == quote_char q) (is_backtick q && (c == 36) && begins_with 123 rest) (after_less && (c == 47) && begins_script rest)
    (λ k. not_here q c rest 92 k (backslash_apart rest))
    (λ k. not_here q c rest 47 (and_parts after_less (c == 47) (and_parts (after_less && (c == 47)) (begins_script rest) k).0).1 (slash_apart rest))
    ∙ ap (λ b. 1 + one_if (always after_less c rest) + one_if b) (sym e))

past_length : (q : Quote) (ascii : Bool) (c : ℕ) (rest : List ℕ) → 128 ≤ c → length (past_ascii_text ascii c) ≡ length (past_ascii_text ascii c) + one_if (costs_more q c rest)
past_length q ascii c rest l = and_none (length (past_ascii_text ascii c)) (one_if (costs_more q c rest)) (ap one_if (costs_none q c rest l))
  where
    and_none : (n m : ℕ) → m ≡ 0 → n ≡ n + m
    and_none n m e = omega arith

point_length : (q : Quote) (ascii after_less : Bool) (c : ℕ) (rest : List ℕ) → length (point_text q ascii after_less c rest) ≡ shared_length ascii after_less c rest + one_if (costs_more q c rest)
point_length q ascii after_less c rest = by (nat_lt c 32) refl (nat_lt c 128) refl
  where
    by : (x : Bool) → nat_lt c 32 ≡ x → (y : Bool) → nat_lt c 128 ≡ y
        → length (if x then control_text q c rest else (if y then ascii_text q after_less c rest else past_ascii_text ascii c))
        ≡ (if x then length (control_text Backtick c rest) else (if y then 1 + one_if (always after_less c rest) else length (past_ascii_text ascii c))) + one_if (costs_more q c rest)
    by true e y f = control_length q c rest (ltb-true c 32 e)
    by false e true f = ascii_length q after_less c rest (ltb-false c 32 e)
    by false e false f = past_length q ascii c rest (ltb-false c 128 f)

-- ---- the whole text

-- what each quote's text has in common
shared : Bool → Bool → List ℕ → ℕ
shared ascii after_less [] = 0
shared ascii after_less (c ∷ cs) = shared_length ascii after_less c cs + shared ascii (c == 60) cs

escaped_length : (q : Quote) (ascii after_less : Bool) (cs : List ℕ) → length (escaped_after q ascii after_less cs) ≡ shared ascii after_less cs + quote_cost q cs
unfolding escaped_after quote_cost shared
escaped_length q ascii after_less [] = refl
escaped_length q ascii after_less (c ∷ cs) = summed _ _ _ _ _ _ _ (length-append (point_text q ascii after_less c cs) (escaped_after q ascii (c == 60) cs)) (point_length q ascii after_less c cs) (escaped_length q ascii (c == 60) cs)
  where
    summed : (n a b x y s k : ℕ) → n ≡ a + b → a ≡ x + y → b ≡ s + k → n ≡ x + s + (y + k)
    summed n a b x y s k e f g = omega arith

quoted_length : (q : Quote) (ascii : Bool) (us : List ℕ) → are_units us ≡ true → length (quoted q ascii us) ≡ shared ascii false (joined_units us) + 2 + quote_cost q us
quoted_length q ascii us h =
    let e = escaped_length q ascii false (joined_units us) in
    let same = quote_cost-points q us h in
    let k = length-append (escaped q ascii us) (quote_char q ∷ []) in
    omega arith

-- ---- the least cost

abbrev cost_of : ℕ → ℕ → ℕ → Quote → ℕ
cost_of s d k Single = s
cost_of s d k Double = d
cost_of s d k Backtick = k

least : (b : Bool) (s d k : ℕ) (q : Quote) → (b || not (is_backtick q)) ≡ true → cost_of s d k (cheapest_of b s d k) ≤ cost_of s d k q
least b s d k q allowed = by b (nat_le k d) refl (nat_le k s) refl (nat_le d s) refl q allowed
  where
    by : (b x : Bool) → nat_le k d ≡ x → (y : Bool) → nat_le k s ≡ y → (z : Bool) → nat_le d s ≡ z → (q : Quote) → (b || not (is_backtick q)) ≡ true → cost_of s d k (if b && x && y then Backtick else (if z then Double else Single)) ≤ cost_of s d k q
    by true true e true f z g Single h = leb-true k s f
    by true true e true f z g Double h = leb-true k d e
    by true true e true f z g Backtick h = omega arith
    by true true e false f true g Single h = leb-true d s g
    by true true e false f true g Double h = omega arith
    by true true e false f true g Backtick h = let a = leb-true d s g in let c = leb-true k d e in let l = leb-false k s f in omega arith
    by true true e false f false g Single h = omega arith
    by true true e false f false g Double h = let a = leb-false d s g in omega arith
    by true true e false f false g Backtick h = let a = leb-false k s f in omega arith
    by true false e y f true g Single h = leb-true d s g
    by true false e y f true g Double h = omega arith
    by true false e y f true g Backtick h = let a = leb-false k d e in omega arith
    by true false e y f false g Single h = omega arith
    by true false e y f false g Double h = let a = leb-false d s g in omega arith
    by true false e y f false g Backtick h = let a = leb-false d s g in let c = leb-false k d e in omega arith
    by false x e y f true g Single h = leb-true d s g
    by false x e y f true g Double h = omega arith
    by false x e y f false g Single h = omega arith
    by false x e y f false g Double h = let a = leb-false d s g in omega arith
    by false x e y f z g Backtick h = absurd (both_ways false refl h)

cost_is : (q : Quote) (us : List ℕ) → cost_of (quote_cost Single us) (quote_cost Double us) (quote_cost Backtick us) q ≡ quote_cost q us
cost_is Single us = refl
cost_is Double us = refl
cost_is Backtick us = refl

pub shortest : (b : Bool) (q : Quote) (ascii : Bool) (us : List ℕ) → are_units us ≡ true → (b || not (is_backtick q)) ≡ true → length (quoted (cheapest b us) ascii us) ≤ length (quoted q ascii us)
shortest b q ascii us h allowed =
    let least_cost = least b (quote_cost Single us) (quote_cost Double us) (quote_cost Backtick us) q allowed in
    ordered _ _ _ _ _ _ _ (quoted_length (cheapest b us) ascii us h) (quoted_length q ascii us h) (cost_is (cheapest b us) us) (cost_is q us) least_cost
  where
    ordered : (m n s x y a b : ℕ) → m ≡ s + 2 + x → n ≡ s + 2 + y → a ≡ x → b ≡ y → a ≤ b → m ≤ n
    ordered m n s x y a b e f g h l = omega arith
