-- Names that are held, with one more and with one less.
use Rattle.std.proofs.Common.{◌≡◌, ℕ, suc, ◌+◌, Bool, true, false, cond, ◌⊎◌, inl, inr, List, [], ◌∷◌, ◌++◌, Option, Some, length, map, reverse, refl, sym, ap, ◌∙◌, subst, append_assoc, arith}
use Rattle.std.specs.BTreeMap as tree
use Rattle.std.specs.BTreeMap.{BTreeMap}
use Rattle.std.specs.Cmp.Lexicographic.{slice_cmp}
use Rattle.std.specs.Map.{lookup}
use Rattle.std.specs.Ordering.{nat_cmp}
use Rattle.std.specs.Str.{bytes_eq}
use denote.Ref.{Bor}
use Rattle.std.proofs.lemmas.List.{map_push, reverse-append, length-append}
use Rattle.std.proofs.lemmas.Map.Text.{btree_map_updates_str}
use Rattle.std.proofs.lemmas.Slice.Eq.{bytes_eq-Decides}
use Rattle.jsgen_printer.specs.Owners.{AreOf, held_plain, holding, trail}
use Rattle.jsgen_printer.specs.declared.owners.Held.{Held}
use Rattle.jsgen_printer.specs.declared.owners.Owners.{Owners}

is_or_not : (b : Bool) → (b ≡ true) ⊎ (b ≡ false)
is_or_not true = inl refl
is_or_not false = inr refl

both : (a b : Bool) → (a ≡ true → b ≡ true) → (b ≡ true → a ≡ true) → a ≡ b
both true b h k = sym (h refl)
both false true h k = k refl
both false false h k = refl

swapped : (a b : List ℕ) → bytes_eq a b ≡ bytes_eq b a
swapped a b = both (bytes_eq a b) (bytes_eq b a) (λ e. (bytes_eq-Decides b a).1 (sym ((bytes_eq-Decides a b).0 e))) (λ e. (bytes_eq-Decides a b).1 (sym ((bytes_eq-Decides b a).0 e)))

-- ---- a map, by which class each name is of

abbrev Found : BTreeMap (Bor (List ℕ)) ℕ → List (List ℕ × ℕ) → Type 0
Found m held = (w : List ℕ) → tree.get_by (λ (k : Bor (List ℕ)). slice_cmp nat_cmp w k.now) m ≡ lookup (bytes_eq w) held

abbrev pub Changed : List ℕ → Option ℕ → BTreeMap (Bor (List ℕ)) ℕ → BTreeMap (Bor (List ℕ)) ℕ → Type 0
Changed name class m n = tree.UpdatesBy (λ (x y : Bor (List ℕ)). slice_cmp nat_cmp x.now y.now) (λ (k : Bor (List ℕ)). slice_cmp nat_cmp name k.now) m n class

found_more : (name : List ℕ) (class : ℕ) (m n : BTreeMap (Bor (List ℕ)) ℕ) (held : List (List ℕ × ℕ)) → Changed name (Some class) m n → Found m held → Found n ((name, class) ∷ held)
found_more name class m n held changed found w =
    btree_map_updates_str name m n (Some class) changed w
    ∙ (ap (cond (bytes_eq name w) (Some class)) (found w) ∙ ap (λ b. cond b (Some class) (lookup (bytes_eq w) held)) (swapped name w))

found_less : (last : List ℕ × ℕ) (outer : Option ℕ) (m n : BTreeMap (Bor (List ℕ)) ℕ) (held : List (List ℕ × ℕ)) → Changed last.0 outer m n → outer ≡ lookup (bytes_eq last.0) held → Found m (last ∷ held) → Found n held
found_less last outer m n held changed is found w =
    btree_map_updates_str last.0 m n outer changed w
    ∙ (ap (cond (bytes_eq last.0 w) outer) (found w) ∙ (ap (λ b. cond (bytes_eq last.0 w) outer (cond b (Some last.1) (lookup (bytes_eq w) held))) (swapped w last.0) ∙ by (is_or_not (bytes_eq last.0 w))))
  where
    by : (bytes_eq last.0 w ≡ true) ⊎ (bytes_eq last.0 w ≡ false) → cond (bytes_eq last.0 w) outer (cond (bytes_eq last.0 w) (Some last.1) (lookup (bytes_eq w) held)) ≡ lookup (bytes_eq w) held
    by (inl e) = rw e (is ∙ ap (λ v. lookup (bytes_eq v) held) ((bytes_eq-Decides last.0 w).0 e))
    by (inr e) = rw e refl

-- ---- the trail

reversed_push : (hs : List Held) (h : Held) → reverse (map held_plain (hs ++ h ∷ [])) ≡ held_plain h ∷ reverse (map held_plain hs)
reversed_push hs h = ap reverse (map_push held_plain hs h) ∙ reverse-append (map held_plain hs) (held_plain h ∷ [])

pub more : (old new : Owners) (h : Held) (class : ℕ) (held : List (List ℕ × ℕ)) → Changed h.name.now (Some class) old.owners new.owners → h.outer ≡ tree.get_by (λ (k : Bor (List ℕ)). slice_cmp nat_cmp h.name.now k.now) old.owners → new.held.items ≡ old.held.items ++ h ∷ [] → AreOf old held → AreOf new ((h.name.now, class) ∷ held)
more old new h class held changed outer items are = record {
  owner = found_more h.name.now class old.owners new.owners held changed are.owner;
  trail = ap (λ hs. reverse (map held_plain hs)) items ∙ (reversed_push old.held.items h ∙ (ap (λ o. (h.name.now, o) ∷ reverse (map held_plain old.held.items)) (outer ∙ are.owner h.name.now) ∙ ap (λ t. (h.name.now, lookup (bytes_eq h.name.now) held) ∷ t) are.trail));
}

cons_parts : {A : Type 0} (x y : A) (xs ys : List A) → x ∷ xs ≡ y ∷ ys → (x ≡ y) × (xs ≡ ys)
cons_parts x y xs ys e = (cc, cc)

-- the last of what is held, and what was held before
record Last (h : Held) (before : List Held) (last : List ℕ × ℕ) (held : List (List ℕ × ℕ)) : Type 0 where
  name : h.name.now ≡ last.0
  outer : h.outer ≡ lookup (bytes_eq last.0) held
  trail : reverse (map held_plain before) ≡ trail held

last_of : (items before : List Held) (h : Held) (last : List ℕ × ℕ) (held : List (List ℕ × ℕ)) → items ≡ before ++ h ∷ [] → reverse (map held_plain items) ≡ trail (last ∷ held) → Last h before last held
last_of items before h last held is e =
    let all = sym (reversed_push before h) ∙ (sym (ap (λ hs. reverse (map held_plain hs)) is) ∙ e) in
    let parts = cons_parts (held_plain h) (last.0, lookup (bytes_eq last.0) held) (reverse (map held_plain before)) (trail held) all in
    record { name = ap (λ p. p.0) parts.0; outer = ap (λ p. p.1) parts.0; trail = parts.1 }

pub less : (old new : Owners) (h : Held) (last : List ℕ × ℕ) (held : List (List ℕ × ℕ)) → old.held.items ≡ new.held.items ++ h ∷ [] → Changed h.name.now h.outer old.owners new.owners → AreOf old (last ∷ held) → AreOf new held
less old new h last held items changed are =
    let l = last_of old.held.items new.held.items h last held items are.trail in
    record {
      owner = found_less last h.outer old.owners new.owners held (subst (λ n. Changed n h.outer old.owners new.owners) l.name changed) l.outer are.owner;
      trail = l.trail;
    }

-- ---- the names of a class

-- of those that a class holds, some are still to come
pub record Rest (o : Owners) (names : List (List ℕ)) (class : ℕ) (whole : List (List ℕ × ℕ)) : Type 0 where
  pub so_far : List (List ℕ × ℕ)
  pub are : AreOf o so_far
  pub fills : holding names class so_far ≡ whole

-- of those that a class held, some are still to go
pub record Left (o : Owners) (count : ℕ) (held : List (List ℕ × ℕ)) : Type 0 where
  pub inner : List (List ℕ × ℕ)
  pub are : AreOf o (inner ++ held)
  pub size : length inner ≡ count

record Front (names : List (List ℕ)) (class : ℕ) (held : List (List ℕ × ℕ)) : Type 0 where
  inner : List (List ℕ × ℕ)
  is : holding names class held ≡ inner ++ held
  count : length inner ≡ length names

front : (names : List (List ℕ)) (class : ℕ) (held : List (List ℕ × ℕ)) → Front names class held
front [] class held = record { inner = []; is = refl; count = refl }
front (n ∷ ns) class held =
    let f = front ns class ((n, class) ∷ held) in
    let c = f.count in
    let l = length-append f.inner ((n, class) ∷ []) in
    record {
      inner = f.inner ++ (n, class) ∷ [];
      is = f.is ∙ sym (append_assoc f.inner ((n, class) ∷ []) held);
      count = omega arith;
    }

pub all_left : (o : Owners) (names : List (List ℕ)) (class : ℕ) (held : List (List ℕ × ℕ)) → AreOf o (holding names class held) → Left o (length names) held
all_left o names class held are = let f = front names class held in record { inner = f.inner; are = subst (AreOf o) f.is are; size = f.count }

pub one_less : (old new : Owners) (count : ℕ) (held : List (List ℕ × ℕ)) → ((last : List ℕ × ℕ) (before : List (List ℕ × ℕ)) → AreOf old (last ∷ before) → AreOf new before) → Left old (count + 1) held → Left new count held
one_less old new count held step left = by left.inner left.are left.size
  where
    by : (inner : List (List ℕ × ℕ)) → AreOf old (inner ++ held) → length inner ≡ count + 1 → Left new count held
    by [] are e = absurd (let h : 0 ≡ count + 1 = e in omega arith)
    by (last ∷ inner) are e = record { inner = inner; are = step last (inner ++ held) are; size = omega arith }

pub none_left : (o : Owners) (held : List (List ℕ × ℕ)) → Left o 0 held → AreOf o held
none_left o held left = by left.inner left.are left.size
  where
    by : (inner : List (List ℕ × ℕ)) → AreOf o (inner ++ held) → length inner ≡ 0 → AreOf o held
    by [] are e = are
    by (last ∷ inner) are e = absurd (let h : suc (length inner) ≡ 0 = e in omega arith)
