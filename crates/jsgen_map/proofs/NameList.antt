-- Names and their numbers, with one name more.
use Rattle.std.proofs.Common.{◌≡◌, ℕ, suc, ◌+◌, Bool, true, false, ◌||◌, cond, if◌then◌else◌, ◌⊎◌, inl, inr, List, [], ◌∷◌, ◌++◌, Option, Some, None, length, refl, sym, ap, ap₂, ◌∙◌, arith}
use Rattle.std.specs.Str.{bytes_eq}
use Rattle.std.specs.BTreeMap as tree
use Rattle.std.specs.BTreeMap.{BTreeMap}
use Rattle.std.specs.Cmp.Lexicographic.{slice_cmp}
use Rattle.std.specs.Ordering.{nat_cmp}
use denote.Ref.{Bor}
use Rattle.std.proofs.lemmas.Bool.{or_parts, or_left, or_right, or_from}
use Rattle.std.proofs.lemmas.Slice.Eq.{bytes_eq-Decides}
use Rattle.std.proofs.lemmas.List.{map_push, length-map}
use Rattle.std.proofs.lemmas.Map.Text.{btree_map_updates_str}
use Rattle.jsgen_map.specs.Marks.{is_among, number_from, with_name}
use Rattle.jsgen_map.specs.Names.{texts, AddsName, NumbersOf}

pub same_bytes : (w : List ℕ) → bytes_eq w w ≡ true
same_bytes w = (bytes_eq-Decides w w).1 refl

-- ---- a number is that of a name that is there

if_same : (b : Bool) (n : ℕ) (o : Option ℕ) → b ≡ true → (if b then Some n else o) ≡ Some n
if_same b n o e = rw e refl

if_other : (b : Bool) (n : ℕ) (o : Option ℕ) → b ≡ false → (if b then Some n else o) ≡ o
if_other b n o e = rw e refl

pub is_or_not : (b : Bool) → (b ≡ true) ⊎ (b ≡ false)
is_or_not true = inl refl
is_or_not false = inr refl

pub among_numbered : (n i : ℕ) (vs : List (List ℕ)) (w : List ℕ) → number_from n vs w ≡ Some i → is_among vs w ≡ true
among_numbered n i [] w h = absurd (cc)
among_numbered n i (v ∷ vs) w h = by (is_or_not (bytes_eq v w)) (among_numbered (suc n) i vs w)
  where
    by : (bytes_eq v w ≡ true) ⊎ (bytes_eq v w ≡ false) → (number_from (suc n) vs w ≡ Some i → is_among vs w ≡ true) → bytes_eq v w || is_among vs w ≡ true
    by (inl e) later = or_left (bytes_eq v w) (is_among vs w) e
    by (inr e) later = or_right (bytes_eq v w) (is_among vs w) (later (sym (if_other (bytes_eq v w) n (number_from (suc n) vs w) e) ∙ h))

pub not_among : (n : ℕ) (vs : List (List ℕ)) (w : List ℕ) → number_from n vs w ≡ None → is_among vs w ≡ false
not_among n [] w h = refl
not_among n (v ∷ vs) w h = by (is_or_not (bytes_eq v w)) (not_among (suc n) vs w)
  where
    by : (bytes_eq v w ≡ true) ⊎ (bytes_eq v w ≡ false) → (number_from (suc n) vs w ≡ None → is_among vs w ≡ false) → bytes_eq v w || is_among vs w ≡ false
    by (inl e) later = absurd (let k = sym (if_same (bytes_eq v w) n (number_from (suc n) vs w) e) ∙ h in cc)
    by (inr e) later = or_from (bytes_eq v w) (is_among vs w) e (later (sym (if_other (bytes_eq v w) n (number_from (suc n) vs w) e) ∙ h))

-- ---- one name more

-- a name that is there keeps its number
pub number_kept : (n : ℕ) (vs : List (List ℕ)) (more : List (List ℕ)) (w : List ℕ) → is_among vs w ≡ true → number_from n (vs ++ more) w ≡ number_from n vs w
number_kept n [] more w h = absurd (cc)
number_kept n (v ∷ vs) more w h = by (is_or_not (bytes_eq v w)) (number_kept (suc n) vs more w)
  where
    by : (bytes_eq v w ≡ true) ⊎ (bytes_eq v w ≡ false) → (is_among vs w ≡ true → number_from (suc n) (vs ++ more) w ≡ number_from (suc n) vs w) → (if bytes_eq v w then Some n else number_from (suc n) (vs ++ more) w) ≡ (if bytes_eq v w then Some n else number_from (suc n) vs w)
    by (inl e) later = if_same (bytes_eq v w) n (number_from (suc n) (vs ++ more) w) e ∙ sym (if_same (bytes_eq v w) n (number_from (suc n) vs w) e)
    by (inr e) later = ap (λ o. if bytes_eq v w then Some n else o) (later (sym (ap (λ b. b || is_among vs w) e) ∙ h))

-- the new one has the next number
pub number_new : (n : ℕ) (vs : List (List ℕ)) (w : List ℕ) → is_among vs w ≡ false → number_from n (vs ++ w ∷ []) w ≡ Some (n + length vs)
number_new n [] w h = if_same (bytes_eq w w) n None (same_bytes w) ∙ ap Some (let e : n ≡ n + 0 = omega arith in e)
number_new n (v ∷ vs) w h =
    let k = or_parts (bytes_eq v w) (is_among vs w) h in
    let e : suc n + length vs ≡ n + suc (length vs) = omega arith in
    if_other (bytes_eq v w) n (number_from (suc n) (vs ++ w ∷ []) w) k.0 ∙ (number_new (suc n) vs w k.1 ∙ ap Some e)

-- and no other is found by it
pub number_others : (n : ℕ) (vs : List (List ℕ)) (w q : List ℕ) → bytes_eq w q ≡ false → number_from n (vs ++ w ∷ []) q ≡ number_from n vs q
number_others n [] w q h = if_other (bytes_eq w q) n None h
number_others n (v ∷ vs) w q h = ap (λ o. if bytes_eq v q then Some n else o) (number_others (suc n) vs w q h)

pub numbers_more : (vs : List (List ℕ)) (w q : List ℕ) → is_among vs w ≡ false → cond (bytes_eq w q) (Some (length vs)) (number_from 0 vs q) ≡ number_from 0 (vs ++ w ∷ []) q
numbers_more vs w q h = by (is_or_not (bytes_eq w q))
  where
    by : (bytes_eq w q ≡ true) ⊎ (bytes_eq w q ≡ false) → cond (bytes_eq w q) (Some (length vs)) (number_from 0 vs q) ≡ number_from 0 (vs ++ w ∷ []) q
    by (inl e) =
        let same = (bytes_eq-Decides w q).0 e in
        let z : 0 + length vs ≡ length vs = omega arith in
        if_same (bytes_eq w q) (length vs) (number_from 0 vs q) e ∙ (sym (number_new 0 vs w h ∙ ap Some z) ∙ ap (number_from 0 (vs ++ w ∷ [])) same)
    by (inr e) = if_other (bytes_eq w q) (length vs) (number_from 0 vs q) e ∙ sym (number_others 0 vs w q e)

pub name_there : (vs : List (List ℕ)) (w : List ℕ) → is_among vs w ≡ true → vs ≡ with_name vs (Some w)
name_there vs w h = rw h refl

pub name_new : (vs : List (List ℕ)) (w : List ℕ) → is_among vs w ≡ false → vs ++ w ∷ [] ≡ with_name vs (Some w)
name_new vs w h = rw h refl

-- ---- what a step over the names leaves

pub found : (vs : List (List ℕ)) (w : List ℕ) (numbers : List (Bor (List ℕ) × ℕ)) (n : ℕ) → NumbersOf vs numbers → number_from 0 vs w ≡ Some n → AddsName vs w vs numbers n
found vs w numbers n o e = record {
  names = name_there vs w (among_numbered 0 n vs w e);
  number = e;
  each = o;
}

pub added : (old : List (Bor (List ℕ))) (w : Bor (List ℕ)) (new : List (Bor (List ℕ))) (m : BTreeMap (Bor (List ℕ)) ℕ) (m' : BTreeMap (Bor (List ℕ)) ℕ) (n : ℕ) → NumbersOf (texts old) m.entries → number_from 0 (texts old) w.now ≡ None → new ≡ old ++ w ∷ [] → n ≡ length old → tree.UpdatesBy (λ (x y : Bor (List ℕ)). slice_cmp nat_cmp x.now y.now) (λ (k : Bor (List ℕ)). slice_cmp nat_cmp w.now k.now) m m' (Some n) → AddsName (texts old) w.now (texts new) m'.entries n
added old w new m m' n o none is count updates =
    let absent = not_among 0 (texts old) w.now none in
    let grown : texts new ≡ texts old ++ w.now ∷ [] = ap texts is ∙ map_push (λ (name : Bor (List ℕ)). name.now) old w in
    let size : length (texts old) ≡ n = length-map old (λ (name : Bor (List ℕ)). name.now) ∙ sym count in
    let z : 0 + length (texts old) ≡ length (texts old) = omega arith in
    record {
      names = grown ∙ name_new (texts old) w.now absent;
      number = ap (λ vs. number_from 0 vs w.now) grown ∙ (number_new 0 (texts old) w.now absent ∙ ap Some (z ∙ size));
      each = record {
        each = λ q. btree_map_updates_str w.now m m' (Some n) updates q
            ∙ (ap₂ (λ k found. cond (bytes_eq w.now q) (Some k) found) (sym size) (o.each q)
            ∙ (numbers_more (texts old) w.now q absent
            ∙ ap (λ vs. number_from 0 vs q) (sym grown)));
      };
    }
