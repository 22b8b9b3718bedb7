-- Groups of comments by rising offsets, counted by any test of them.
use Rattle.std.specs.Prelude.{⊤}
use Rattle.std.proofs.Common.{◌≡◌, ℕ, ◌+◌, ◌≤◌, ◌<◌, ◌⊎◌, inl, inr, Bool, true, false, not, ◌&&◌, ◌==◌, nat_lt, if◌then◌else◌, List, [], ◌∷◌, ◌++◌, map, refl, sym, ap, subst, ◌∙◌, arith}
use Rattle.std.proofs.lemmas.Bool.{cases_order, eqb-true, eq-eqb, ne_eqb, eqb-false, ltb-true, ltb-false, true≢false}
use Rattle.jsgen_model.specs.Comments.{Comment, Groups, there, without, with_group, unless_none, is_outliving, outliving, others, without_outliving}
use Rattle.jsgen_comment_laws.specs.Stand.{Waiting, one_if, count}

-- ---- comments with their offsets

abbrev pub waiting : ℕ → Comment → Waiting
waiting o c = record { offset = o; comment = c }

abbrev pub waiting_at : ℕ → List Comment → List Waiting
waiting_at o cs = map (λ c. waiting o c) cs

abbrev pub waiting_in : Groups → List Waiting
waiting_in [] = []
waiting_in (g ∷ gs) = waiting_at g.0 g.1 ++ waiting_in gs

pub count_append : (test : Waiting → Bool) (vs ws : List Waiting) → count test (vs ++ ws) ≡ count test vs + count test ws
count_append test [] ws = omega arith
count_append test (v ∷ vs) ws = let rest = count_append test vs ws in omega (arith, rest)

-- those that pass two tests are no more than those that pass one
pub count_both : (f g : Waiting → Bool) (ws : List Waiting) → count (λ w. f w && g w) ws ≤ count f ws
count_both f g [] = omega arith
count_both f g (w ∷ ws) = by (f w) (g w) (count_both f g ws)
  where
    by : (a b : Bool) → count (λ v. f v && g v) ws ≤ count f ws → one_if (a && b) + count (λ v. f v && g v) ws ≤ one_if a + count f ws
    by true true rest = omega (arith, rest)
    by true false rest = omega (arith, rest)
    by false b rest = omega (arith, rest)

-- ---- rising offsets

-- none is below the number, and each is above the one before
abbrev pub From : ℕ → Groups → Type 0
From n [] = ⊤
From n (g ∷ gs) = (n ≤ g.0) × From (1 + g.0) gs

abbrev pub Lacks : ℕ → Groups → Type 0
Lacks o [] = ⊤
Lacks o (g ∷ gs) = ((o == g.0) ≡ false) × Lacks o gs

pub from_less : (m n : ℕ) (gs : Groups) → m ≤ n → From n gs → From m gs
from_less m n [] l h = tt
from_less m n (g ∷ gs) l h = let k = h.0 in (omega (arith, l, k), h.1)

lacks_above : (o n : ℕ) (gs : Groups) → o < n → From n gs → Lacks o gs
lacks_above o n [] l h = tt
lacks_above o n (g ∷ gs) l h = let k = h.0 in (ne_eqb o g.0 (λ e. omega (arith, l, k, e)), lacks_above o (1 + g.0) gs (omega (arith, l, k)) h.1)

pub lacks : (o n : ℕ) (gs : Groups) → From n gs → Lacks o (without o gs)
lacks o n [] h = tt
lacks o n (g ∷ gs) h = by (lacks o (1 + g.0) gs h.1) (g.0 == o) refl
  where
    by : Lacks o (without o gs) → (b : Bool) → (g.0 == o) ≡ b → Lacks o (if b then gs else g ∷ without o gs)
    by rest true e = let same = eqb-true g.0 o e in lacks_above o (1 + g.0) gs (omega (arith, same)) h.1
    by rest false e = (ne_eqb o g.0 (λ same. true≢false (sym (eq-eqb g.0 o (sym same)) ∙ e)), rest)

pub from_without : (o n : ℕ) (gs : Groups) → From n gs → From n (without o gs)
from_without o n [] h = tt
from_without o n (g ∷ gs) h = by (from_without o (1 + g.0) gs h.1) (g.0 == o)
  where
    by : From (1 + g.0) (without o gs) → (b : Bool) → From n (if b then gs else g ∷ without o gs)
    by rest true = let k = h.0 in from_less n (1 + g.0) gs (omega (arith, k)) h.1
    by rest false = (h.0, rest)

pub above : (o p : ℕ) → p ≤ o → (o ≡ p → ⊥) → (1 + p) ≤ o
above o p l other = by (cases_order o p)
  where
    by : (o ≡ p) ⊎ ((o < p) ⊎ (p < o)) → (1 + p) ≤ o
    by (inl e) = absurd (other e)
    by (inr (inl k)) = omega (arith, k, l)
    by (inr (inr k)) = omega (arith, k)

pub from_with : (o n : ℕ) (cs : List Comment) (gs : Groups) → n ≤ o → From n gs → From n (with_group o cs gs)
from_with o n cs [] l h = (l, tt)
from_with o n cs (g ∷ gs) l h = by (λ k. from_with o (1 + g.0) cs gs k h.1) (nat_lt o g.0) refl (o == g.0) refl
  where
    by : ((1 + g.0) ≤ o → From (1 + g.0) (with_group o cs gs)) → (a : Bool) → nat_lt o g.0 ≡ a → (b : Bool) → (o == g.0) ≡ b → From n (if a then (o, cs) ∷ (g ∷ gs) else (if b then (o, cs) ∷ gs else g ∷ with_group o cs gs))
    by rest true e b f = let k = ltb-true o g.0 e in (l, (omega (arith, k), h.1))
    by rest false e true f = let same = eqb-true o g.0 f in (l, subst (λ m. From (1 + m) gs) (sym same) h.1)
    by rest false e false f = let k = ltb-false o g.0 e in (h.0, rest (above o g.0 k (eqb-false o g.0 f)))

-- ---- what leaves, and what comes

pub count_taken : (test : Waiting → Bool) (o : ℕ) (gs : Groups) → count test (waiting_in gs) ≡ count test (waiting_in (without o gs)) + count test (waiting_at o (there o gs))
count_taken test o [] = refl
count_taken test o (g ∷ gs) = by (g.0 == o) refl (count_taken test o gs)
  where
    by : (b : Bool) → (g.0 == o) ≡ b → count test (waiting_in gs) ≡ count test (waiting_in (without o gs)) + count test (waiting_at o (there o gs)) → count test (waiting_at g.0 g.1 ++ waiting_in gs) ≡ count test (waiting_in (if b then gs else g ∷ without o gs)) + count test (waiting_at o (if b then g.1 else there o gs))
    by true e rest =
        let both = count_append test (waiting_at g.0 g.1) (waiting_in gs) in
        let same = ap (λ m. count test (waiting_at m g.1)) (eqb-true g.0 o e) in
        omega (arith, both, same)
    by false e rest =
        let both = count_append test (waiting_at g.0 g.1) (waiting_in gs) in
        let left = count_append test (waiting_at g.0 g.1) (waiting_in (without o gs)) in
        omega (arith, both, left, rest)

pub count_with : (test : Waiting → Bool) (o : ℕ) (cs : List Comment) (gs : Groups) → Lacks o gs → count test (waiting_in (with_group o cs gs)) ≡ count test (waiting_in gs) + count test (waiting_at o cs)
count_with test o cs [] h = let both = count_append test (waiting_at o cs) [] in omega (arith, both)
count_with test o cs (g ∷ gs) h = by (nat_lt o g.0) (o == g.0) refl (count_with test o cs gs h.1)
  where
    by : (a b : Bool) → (o == g.0) ≡ b → count test (waiting_in (with_group o cs gs)) ≡ count test (waiting_in gs) + count test (waiting_at o cs) → count test (waiting_in (if a then (o, cs) ∷ (g ∷ gs) else (if b then (o, cs) ∷ gs else g ∷ with_group o cs gs))) ≡ count test (waiting_at g.0 g.1 ++ waiting_in gs) + count test (waiting_at o cs)
    by true b e rest = let both = count_append test (waiting_at o cs) (waiting_at g.0 g.1 ++ waiting_in gs) in omega (arith, both)
    by false true e rest = absurd (true≢false (sym e ∙ h.0))
    by false false e rest =
        let both = count_append test (waiting_at g.0 g.1) (waiting_in gs) in
        let grown = count_append test (waiting_at g.0 g.1) (waiting_in (with_group o cs gs)) in
        omega (arith, both, grown, rest)

count_unless_none : (test : Waiting → Bool) (o : ℕ) (cs : List Comment) (gs : Groups) → Lacks o gs → count test (waiting_in (unless_none o cs gs)) ≡ count test (waiting_in gs) + count test (waiting_at o cs)
count_unless_none test o [] gs h = omega arith
count_unless_none test o (c ∷ cs) gs h = count_with test o (c ∷ cs) gs h

from_unless_none : (o n : ℕ) (cs : List Comment) (gs : Groups) → n ≤ o → From n gs → From n (unless_none o cs gs)
from_unless_none o n [] gs l h = h
from_unless_none o n (c ∷ cs) gs l h = from_with o n (c ∷ cs) gs l h

count_parts : (test : Waiting → Bool) (o : ℕ) (cs : List Comment) → count test (waiting_at o cs) ≡ count test (waiting_at o (outliving cs)) + count test (waiting_at o (others cs))
count_parts test o [] = refl
count_parts test o (c ∷ cs) = by (is_outliving c) (count_parts test o cs)
  where
    by : (b : Bool) → count test (waiting_at o cs) ≡ count test (waiting_at o (outliving cs)) + count test (waiting_at o (others cs)) → one_if (test (waiting o c)) + count test (waiting_at o cs) ≡ count test (waiting_at o (if b then c ∷ outliving cs else outliving cs)) + count test (waiting_at o (if not b then c ∷ others cs else others cs))
    by true rest = omega (arith, rest)
    by false rest = omega (arith, rest)

pub from_without_outliving : (o n : ℕ) (gs : Groups) → n ≤ o → From n gs → From n (without_outliving o gs)
from_without_outliving o n gs l h = from_unless_none o n (others (there o gs)) (without o gs) l (from_without o n gs h)

pub count_without_outliving : (test : Waiting → Bool) (o n : ℕ) (gs : Groups) → From n gs → count test (waiting_in gs) ≡ count test (waiting_in (without_outliving o gs)) + count test (waiting_at o (outliving (there o gs)))
count_without_outliving test o n gs h =
    let all = count_taken test o gs in
    let parts = count_parts test o (there o gs) in
    let left = count_unless_none test o (others (there o gs)) (without o gs) (lacks o n gs h) in
    omega (arith, all, parts, left)

-- ---- at one offset

abbrev pub is_at : ℕ → Waiting → Bool
is_at o w = w.offset == o

none_elsewhere : (f : Waiting → Bool) (o p : ℕ) (cs : List Comment) → (p == o) ≡ false → count (λ w. is_at o w && f w) (waiting_at p cs) ≡ 0
none_elsewhere f o p [] e = refl
none_elsewhere f o p (c ∷ cs) e = let rest = none_elsewhere f o p cs e in let first = ap (λ b. one_if (b && f (waiting p c))) e in omega (arith, rest, first)

none_above : (f : Waiting → Bool) (o n : ℕ) (gs : Groups) → o < n → From n gs → count (λ w. is_at o w && f w) (waiting_in gs) ≡ 0
none_above f o n [] l h = refl
none_above f o n (g ∷ gs) l h =
    let k = h.0 in
    let here = none_elsewhere f o g.0 g.1 (ne_eqb g.0 o (λ e. omega (arith, l, k, e))) in
    let rest = none_above f o (1 + g.0) gs (omega (arith, l, k)) h.1 in
    let both = count_append (λ w. is_at o w && f w) (waiting_at g.0 g.1) (waiting_in gs) in
    omega (arith, here, rest, both)

-- once a group is gone, none is left at its offset
pub none_left : (f : Waiting → Bool) (o n : ℕ) (gs : Groups) → From n gs → count (λ w. is_at o w && f w) (waiting_in (without o gs)) ≡ 0
none_left f o n [] h = refl
none_left f o n (g ∷ gs) h = by (none_left f o (1 + g.0) gs h.1) (g.0 == o) refl
  where
    by : count (λ w. is_at o w && f w) (waiting_in (without o gs)) ≡ 0 → (b : Bool) → (g.0 == o) ≡ b → count (λ w. is_at o w && f w) (waiting_in (if b then gs else g ∷ without o gs)) ≡ 0
    by rest true e = let same = eqb-true g.0 o e in none_above f o (1 + g.0) gs (omega (arith, same)) h.1
    by rest false e =
        let here = none_elsewhere f o g.0 g.1 e in
        let both = count_append (λ w. is_at o w && f w) (waiting_at g.0 g.1) (waiting_in (without o gs)) in
        omega (arith, here, rest, both)

pub none_of_no_group : (f : Waiting → Bool) (o n : ℕ) (gs : Groups) → From n gs → there o gs ≡ [] → count (λ w. is_at o w && f w) (waiting_in gs) ≡ 0
none_of_no_group f o n gs h e =
    let all = count_taken (λ w. is_at o w && f w) o gs in
    let left = none_left f o n gs h in
    let none = ap (λ cs. count (λ w. is_at o w && f w) (waiting_at o cs)) e in
    omega (arith, all, left, none)

-- of those that are left beside the ones that outlive their places none at the offset does
others_stay : (o : ℕ) (cs : List Comment) → count (λ w. is_at o w && is_outliving w.comment) (waiting_at o (others cs)) ≡ 0
others_stay o [] = refl
others_stay o (c ∷ cs) = by (is_outliving c) refl (others_stay o cs)
  where
    by : (b : Bool) → is_outliving c ≡ b → count (λ w. is_at o w && is_outliving w.comment) (waiting_at o (others cs)) ≡ 0 → count (λ w. is_at o w && is_outliving w.comment) (waiting_at o (if not b then c ∷ others cs else others cs)) ≡ 0
    by true e rest = rest
    by false e rest = let first = by_first (o == o) e in omega (arith, rest, first)
      where
        by_first : (d : Bool) → is_outliving c ≡ false → one_if (d && is_outliving c) ≡ 0
        by_first true e = ap one_if e
        by_first false e = refl

pub none_outlives : (o n : ℕ) (gs : Groups) → From n gs → count (λ w. is_at o w && is_outliving w.comment) (waiting_in (without_outliving o gs)) ≡ 0
none_outlives o n gs h =
    let test = λ (w : Waiting). is_at o w && is_outliving w.comment in
    let kept = count_unless_none test o (others (there o gs)) (without o gs) (lacks o n gs h) in
    let left = none_left (λ w. is_outliving w.comment) o n gs h in
    let none = others_stay o (there o gs) in
    omega (arith, kept, left, none)
