-- Lists of marks.
use Rattle.std.proofs.Common.{◌≡◌, ℕ, ◌≤◌, ◌<◌, nat_le, true, false, List, [], ◌∷◌, ◌++◌, Option, Some, None, unwrap_or, refl, ap, arith}
use Rattle.std.proofs.lemmas.Bool.{both_ways, eqb-true}
use Rattle.std.proofs.lemmas.Bool.Decides.{nat_tests}
use Rattle.jsgen_map.specs.Marks.{Mark, Ordered, OffsetsDiffer, last_from, is_last}
use Rattle.jsgen_mark_laws.specs.Names.{last_before, later_mark, if_before}

pub ordered_ends : (ms : List Mark) (a b : ℕ) → Ordered a ms b → a ≤ b
ordered_ends [] a b h = h
ordered_ends (m ∷ ms) a b h = omega (arith, h.0, ordered_ends ms m.bytes b h.1)

pub ordered_from : (ms : List Mark) (a b c : ℕ) → a ≤ b → Ordered b ms c → Ordered a ms c
ordered_from [] a b c h k = omega (arith, h, k)
ordered_from (m ∷ ms) a b c h k = (omega (arith, h, k.0), k.1)

pub ordered_to : (ms : List Mark) (a b c : ℕ) → b ≤ c → Ordered a ms b → Ordered a ms c
ordered_to [] a b c h k = omega (arith, h, k)
ordered_to (m ∷ ms) a b c h k = (k.0, ordered_to ms m.bytes b c h k.1)

pub ordered_append : (ms ns : List Mark) (a b c : ℕ) → Ordered a ms b → Ordered b ns c → Ordered a (ms ++ ns) c
ordered_append [] ns a b c h k = ordered_from ns a b c h k
ordered_append (m ∷ ms) ns a b c h k = (h.0, ordered_append ms ns m.bytes b c h.1 k)

pub last_append : (l : Option ℕ) (ms ns : List Mark) → last_from l (ms ++ ns) ≡ last_from (last_from l ms) ns
last_append l [] ns = refl
last_append l (m ∷ ms) ns = last_append (Some m.offset) ms ns

pub parted_append : (l : Option ℕ) (ms ns : List Mark) → OffsetsDiffer l ms → OffsetsDiffer (last_from l ms) ns → OffsetsDiffer l (ms ++ ns)
parted_append l [] ns h k = k
parted_append l (m ∷ ms) ns h k = (h.0, parted_append (Some m.offset) ms ns h.1 k)

some_same : (l o : ℕ) → l ≡ o → Some l ≡ Some o
some_same l o e = ap Some e

pub was_last : (l : Option ℕ) (o : ℕ) → is_last l o ≡ true → l ≡ Some o
was_last None o e = absurd (both_ways false refl e)
was_last (Some last) o e = some_same last o (eqb-true last o e)

-- ---- the last mark up to a place

up_to : (b n : ℕ) → b ≤ n → nat_le b n ≡ true
up_to b n h = grind (arith, nat_tests)

behind : (b n : ℕ) → n < b → nat_le b n ≡ false
behind b n h = grind (arith, nat_tests)

pub none_before : (n : ℕ) (ms : List Mark) (a c : ℕ) → Ordered a ms c → n < a → last_before n ms ≡ None
none_before n [] a c h k = refl
none_before n (m ∷ ms) a c h k = rw (behind m.bytes n (omega (arith, h.0, k)), none_before n ms m.bytes c h.1 (omega (arith, h.0, k))) refl

pub before_longer : (n : ℕ) (ms ns : List Mark) (a c : ℕ) → Ordered a ns c → n < a → last_before n (ms ++ ns) ≡ last_before n ms
before_longer n [] ns a c h k = none_before n ns a c h k
before_longer n (m ∷ ms) ns a c h k = ap (λ l. later_mark (if_before (nat_le m.bytes n) m) l) (before_longer n ms ns a c h k)

pub before_end : (n : ℕ) (ms : List Mark) (m : Mark) → m.bytes ≤ n → last_before n (ms ++ (m ∷ [])) ≡ Some m
before_end n [] m h = rw (up_to m.bytes n h) refl
before_end n (k ∷ ms) m h = ap (λ l. later_mark (if_before (nat_le k.bytes n) k) l) (before_end n ms m h)

pub last_is : (n o : ℕ) (m : Mark) (ms : List Mark) (a c : ℕ) → Ordered a (m ∷ ms) c → c ≤ n → last_from (Some m.offset) ms ≡ Some o → (k : Mark) × (last_before n (m ∷ ms) ≡ Some k) × (k.offset ≡ o)
last_is n o m [] a c h k e = (m, rw (up_to m.bytes n (omega (arith, h.1, k))) refl, ap (λ x. unwrap_or x 0) e)
last_is n o m (j ∷ ms) a c h k e =
    let i = last_is n o j ms m.bytes c h.1 k e in
    (i.0, ap (λ l. later_mark (if_before (nat_le m.bytes n) m) l) i.1, i.2)
