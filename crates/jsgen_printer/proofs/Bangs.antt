-- The last two bytes of a text are two characters of ASCII, such as `<!`, just where its last two characters are.
use Rattle.std.proofs.Common.{◌≡◌, ℕ, suc, ◌+◌, ◌-◌, ◌/◌, ◌%◌, ◌≤◌, ◌<◌, ◌⊎◌, inl, inr, Bool, true, false, cond, nat_lt, ◌&&◌, ◌==◌, List, [], ◌∷◌, ◌++◌, length, drop, codes, refl, sym, ap, ◌∙◌, arith}
use Rattle.std.specs.Cmp.Lexicographic.{pointwise}
use Rattle.std.specs.List.{ends_with}
use Rattle.std.specs.Str.{IsUtf8, chars}
use Rattle.std.proofs.Math.Utf8.{encode, encodes}
use Rattle.std.proofs.lemmas.Bool.{cases_lt, lt-ltb, le-ltb}
use Rattle.std.proofs.lemmas.Bool.Decides.{nat_tests}
use Rattle.std.proofs.lemmas.Str.{encodes-chars}
use Rattle.jsgen_model.specs.Layout.{ends_in_less_bang}

-- the last two are these
abbrev pub ends_in_two : ℕ → ℕ → List ℕ → Bool
ends_in_two a b [] = false
ends_in_two a b (c ∷ []) = false
ends_in_two a b (c ∷ d ∷ []) = (c == a) && (d == b)
ends_in_two a b (c ∷ d ∷ cs) = ends_in_two a b (d ∷ cs)

-- what is known of the end so far: whether it is the first one, and whether it is both
record Seen : Type 0 where
  first : Bool
  both : Bool

abbrev none : Seen
none = record { first = false; both = false }

abbrev next : ℕ → ℕ → Seen → ℕ → Seen
next a b s c = record { first = c == a; both = s.first && (c == b) }

abbrev seen : ℕ → ℕ → Seen → List ℕ → Seen
seen a b s [] = s
seen a b s (c ∷ cs) = seen a b (next a b s c) cs

seen_append : (a b : ℕ) (s : Seen) (xs ys : List ℕ) → seen a b s (xs ++ ys) ≡ seen a b (seen a b s xs) ys
seen_append a b s [] ys = refl
seen_append a b s (x ∷ xs) ys = seen_append a b (next a b s x) xs ys

-- ---- the definition goes over the end alone

ends_so : (a b : ℕ) (cs : List ℕ) → ends_in_two a b cs ≡ (seen a b none cs).both
ends_so a b [] = refl
ends_so a b (c ∷ []) = refl
ends_so a b (c ∷ d ∷ []) = refl
ends_so a b (c ∷ d ∷ e ∷ cs) = ends_so a b (d ∷ e ∷ cs)

two_more : (n : ℕ) → suc (suc (suc n)) - 2 ≡ suc (suc (suc n) - 2)
two_more n = omega arith

pub same_test : (c : ℕ) (n : ℕ) → (n == c) ≡ (c == n)
same_test c n = grind (arith, nat_tests)

pub and_true : (b : Bool) → (b && true) ≡ b
and_true true = refl
and_true false = refl

pub and_false : (b : Bool) → (b && false) ≡ false
and_false true = refl
and_false false = refl

-- the slice's own test
ends_with_so : (a b : ℕ) (cs : List ℕ) → ends_with (λ x y. x == y) cs (a ∷ b ∷ []) ≡ ends_in_two a b cs
ends_with_so a b [] = refl
ends_with_so a b (c ∷ []) = and_false (a == c)
ends_with_so a b (c ∷ d ∷ []) = ap (λ t. t && ((b == d) && true)) (same_test c a) ∙ ap (λ t. (c == a) && t) (and_true (b == d) ∙ same_test d b)
ends_with_so a b (c ∷ d ∷ e ∷ cs) = ap (λ n. pointwise (λ x y. x == y) (a ∷ b ∷ []) (drop n (c ∷ d ∷ e ∷ cs))) (two_more (length cs)) ∙ ends_with_so a b (d ∷ e ∷ cs)

-- ---- bytes and characters

pub past : (a n : ℕ) → a < 128 → 128 ≤ n → (n == a) ≡ false
past a n k h = grind (arith, nat_tests)

-- behind what isn't ASCII nothing is known
nothing_known : (a b : ℕ) (s : Seen) (n : ℕ) → a < 128 → b < 128 → 128 ≤ n → next a b s n ≡ none
nothing_known a b s n k l h = ap (λ t. record { first = t; both = s.first && (n == b) }) (past a n k h) ∙ ap (λ t. record { first = false; both = t }) (ap (λ t. s.first && t) (past b n l h) ∙ and_false s.first)

pub high : (c : ℕ) → 128 ≤ 128 + c % 64
high c = omega arith

seen_character : (a b : ℕ) (s : Seen) (c : ℕ) → a < 128 → b < 128 → seen a b s (encode c) ≡ next a b s c
unfolding encode
seen_character a b s c k l = by (cases_lt c 128)
  where
    last : (t : Seen) → next a b t (128 + c % 64) ≡ none
    last t = nothing_known a b t (128 + c % 64) k l (high c)

    long : (y z : Bool) → seen a b s (cond y ((192 + c / 64) ∷ (128 + c % 64) ∷ []) (cond z ((224 + c / 4096) ∷ (128 + c / 64 % 64) ∷ (128 + c % 64) ∷ []) ((240 + c / 262144) ∷ (128 + c / 4096 % 64) ∷ (128 + c / 64 % 64) ∷ (128 + c % 64) ∷ []))) ≡ none
    long true z = last (next a b s (192 + c / 64))
    long false true = last (next a b (next a b s (224 + c / 4096)) (128 + c / 64 % 64))
    long false false = last (next a b (next a b (next a b s (240 + c / 262144)) (128 + c / 4096 % 64)) (128 + c / 64 % 64))

    by : (c < 128) ⊎ (128 ≤ c) → seen a b s (encode c) ≡ next a b s c
    by (inl h) = rw (lt-ltb c 128 h) refl
    by (inr h) = rw (le-ltb c 128 h) (long (nat_lt c 2048) (nat_lt c 65536)) ∙ sym (nothing_known a b s c k l h)

seen_text : (a b : ℕ) (s : Seen) (cs : List ℕ) → a < 128 → b < 128 → seen a b s (encodes cs) ≡ seen a b s cs
seen_text a b s [] k l = refl
seen_text a b s (c ∷ cs) k l = seen_append a b s (encode c) (encodes cs) ∙ (ap (λ t. seen a b t (encodes cs)) (seen_character a b s c k l) ∙ seen_text a b (next a b s c) cs k l)

pub two_by_bytes : (a b : ℕ) (bs : List ℕ) → a < 128 → b < 128 → IsUtf8 bs → ends_with (λ x y. x == y) bs (a ∷ b ∷ []) ≡ ends_in_two a b (chars bs)
two_by_bytes a b bs k l u =
    let cs : List ℕ = chars bs in
    ends_with_so a b bs ∙ (ends_so a b bs ∙ (ap (λ xs. (seen a b none xs).both) (sym (encodes-chars bs u)) ∙ (ap (λ t. t.both) (seen_text a b none cs k l) ∙ sym (ends_so a b cs))))

-- `<!`
bang_so : (cs : List ℕ) → ends_in_two 60 33 cs ≡ ends_in_less_bang cs
bang_so [] = refl
bang_so (c ∷ []) = refl
bang_so (c ∷ d ∷ []) = refl
bang_so (c ∷ d ∷ e ∷ cs) = bang_so (d ∷ e ∷ cs)

pub ends_by_bytes : (bs : List ℕ) → IsUtf8 bs → ends_with (λ x y. x == y) bs (codes "<!") ≡ ends_in_less_bang (chars bs)
ends_by_bytes bs u = two_by_bytes 60 33 bs (omega arith) (omega arith) u ∙ bang_so (chars bs)
