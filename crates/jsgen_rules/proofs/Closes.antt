-- The machine is closed behind a text exactly where the first `*/` is its end.
use Rattle.std.proofs.Common.{◌≡◌, ℕ, ◌+◌, ◌<◌, Bool, true, false, not, cond, ◌&&◌, ◌||◌, ◌==◌, List, [], ◌∷◌, ◌++◌, codes, length, get_or, drop, refl, sym, ap, subst, ◌∙◌, arith}
use Rattle.std.proofs.lemmas.Bool.{eqb-true}
use Rattle.std.proofs.lemmas.List.{at_drop_more, at_drop_all}
use Rattle.jsgen_tree.specs.Options.{linked}
use Rattle.jsgen_model.specs.Tokens.{is_line_terminator, has_line_end}
use Rattle.jsgen_model.specs.Valid.{ends_at_close, names_a_file}
use Rattle.jsgen_rules.specs.declared.comments.Close.{Close}
use Rattle.jsgen_rules.specs.declared.comments.Close.TheVariants as closes
use Rattle.jsgen_rules.specs.Close.{is_closed, star_or_open, step, run}

passed : (cs : List ℕ) → is_closed (run closes.Passed cs) ≡ false
passed [] = refl
passed (c ∷ cs) = passed cs

-- a character that is no star has no part in the end
no_star : (c : ℕ) (cs : List ℕ) → (c == 42) ≡ false → ends_at_close cs ≡ ends_at_close (c ∷ cs)
no_star c [] h = refl
no_star c (d ∷ []) h = sym (ap (λ b. b && (d == 47)) h)
no_star c (d ∷ e ∷ cs) h = sym (ap (λ b. not (b && (d == 47)) && ends_at_close (d ∷ e ∷ cs)) h)

behind_one : (c : ℕ) (cs : List ℕ) → is_closed (run closes.Open cs) ≡ ends_at_close cs → is_closed (run closes.Star cs) ≡ ends_at_close (42 ∷ cs) → is_closed (run (star_or_open c) cs) ≡ ends_at_close (c ∷ cs)
behind_one c cs other star = by (c == 42) refl
  where
    by : (b : Bool) → (c == 42) ≡ b → is_closed (run (cond b closes.Star closes.Open) cs) ≡ ends_at_close (c ∷ cs)
    by true e = subst (λ x. is_closed (run closes.Star cs) ≡ ends_at_close (x ∷ cs)) (sym (eqb-true c 42 e)) star
    by false e = other ∙ no_star c cs e

behind_star : (c : ℕ) (cs : List ℕ) → is_closed (run (star_or_open c) cs) ≡ ends_at_close (c ∷ cs) → is_closed (run (cond (c == 47) closes.Closed (star_or_open c)) cs) ≡ ends_at_close (42 ∷ c ∷ cs)
behind_star c [] h = by (c == 47) (c == 42)
  where
    by : (b d : Bool) → is_closed (cond b closes.Closed (cond d closes.Star closes.Open)) ≡ b
    by true d = refl
    by false true = refl
    by false false = refl
behind_star c (d ∷ cs) h = by (c == 47)
  where
    by : (b : Bool) → is_closed (run (cond b closes.Closed (star_or_open c)) (d ∷ cs)) ≡ (not b && ends_at_close (c ∷ d ∷ cs))
    by true = passed cs
    by false = h

from_both : (cs : List ℕ) → (is_closed (run closes.Open cs) ≡ ends_at_close cs) × (is_closed (run closes.Star cs) ≡ ends_at_close (42 ∷ cs))
from_both [] = (refl, refl)
from_both (c ∷ cs) =
    let behind = from_both cs in
    let one = behind_one c cs behind.0 behind.1 in
    (one, behind_star c cs one)

pub ends : (cs : List ℕ) → is_closed (run closes.Open cs) ≡ ends_at_close cs
ends cs = (from_both cs).0

-- ---- the comment that names a file

run_behind : (state : Close) (xs ys : List ℕ) → run state (xs ++ ys) ≡ run (run state xs) ys
run_behind state [] ys = refl
run_behind state (x ∷ xs) ys = run_behind (step state x) xs ys

no_line_behind : (xs : List ℕ) → has_line_end (xs ++ codes " */") ≡ has_line_end xs
no_line_behind [] = refl
no_line_behind (x ∷ xs) = ap (λ b. is_line_terminator x || b) (no_line_behind xs)

-- behind the words before a path neither `*` nor `*/` stands, so that the path and what follows it tell
pub names_file : (path : List ℕ) → names_a_file (linked path) ≡ (not (has_line_end path) && is_closed (step (step (step (run closes.Open path) 32) 42) 47))
names_file path = ap (λ b. not b && ends_at_close (words ++ (path ++ codes " */"))) (no_line_behind path) ∙ ap (λ b. not (has_line_end path) && b) (sym (ends (words ++ (path ++ codes " */"))) ∙ ap is_closed (run_behind closes.Open path (codes " */")))
  where
    words : List ℕ
    words = codes "! For license information please see "

-- ---- a text, character by character

-- the next character, and behind it the others
pub next_character : {X : Type 0} (f : List ℕ → X) (cs : List ℕ) (n c : ℕ) → (n < length cs) × (c ≡ get_or cs n c) → f (drop n cs) ≡ f (c ∷ drop (n + 1) cs)
next_character f cs n c h = at_drop_more f cs n c h.0 ∙ ap (λ x. f (x ∷ drop (n + 1) cs)) (sym h.1)

-- and behind the last nothing
pub no_character : {X : Type 0} (f : List ℕ → X) (cs : List ℕ) (n : ℕ) → n ≡ length cs → f (drop n cs) ≡ f []
no_character f cs n e = at_drop_all f cs n (omega arith)
