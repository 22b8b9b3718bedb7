-- The store of a program's comments: it holds those that are kept, each once.
use Rattle.std.specs.Prelude.{⊤, All, Contains}
use Rattle.std.proofs.lemmas.List.Elements.{All-head, All-tail, All-contains_itself}
use Rattle.std.proofs.Common.{◌≡◌, ℕ, ◌+◌, ◌≤◌, Bool, true, false, ◌&&◌, ◌==◌, nat_lt, cond, if◌then◌else◌, List, [], ◌∷◌, ◌++◌, map, refl, sym, ap, ◌∙◌, arith}
use Rattle.std.specs.List.{filter}
use Rattle.std.proofs.lemmas.Bool.{eqb-true, eqb-false, ltb-true, ltb-false, or_parts, or_from}
use Rattle.std.proofs.lemmas.List.{map-append}
use Rattle.jsgen_tree.specs.Options as options
use Rattle.jsgen_tree.specs.Tree.{Trees, no_trees, more, hole}
use Rattle.jsgen_tree.specs.Nodes as tree
use Rattle.jsgen_tree.specs.Values.{comment_attached_to}
use Rattle.jsgen_model.specs.Comments.{Comment, Groups, Store, empty_store, there, without, with_group, outlives, is_outliving, comment_at, with_offset, kept_at, with_rows, kept, with_annotations, kept_annotations}
use Rattle.jsgen_model.specs.Ends.{rows_of}
use Rattle.jsgen_model.specs.Groups.{is_dark}
use Rattle.jsgen_comment_laws.specs.Stand.{Waiting, one_if, count, is_kept, is_kept_annotation, waiting_row}
use Rattle.jsgen_syntax.specs.Buffer.{indent_code}
use Rattle.jsgen_syntax.specs.declared.buffer.IndentChar.{IndentChar}
use Rattle.jsgen_syntax.specs.declared.buffer.IndentChar.TheVariants as indents
use Rattle.jsgen_comment_laws.specs.Woven.{is_white}
use Rattle.jsgen_comment_laws.proofs.Held.{EveryIn, every_there, every_without, every_with, every_both}
use Rattle.jsgen_comment_laws.proofs.Counts.{waiting, waiting_at, waiting_in, count_append, lacks, from_without, from_with, above, count_taken, count_with}
use Rattle.jsgen_comment_laws.proofs.Stores.{Rises, is_in, outlives_at, Covers, Sound}

-- ---- one more

rises_with : (o n : ℕ) (os : List ℕ) → n ≤ o → Rises n os → Rises n (with_offset o os)
rises_with o n [] l h = (l, tt)
rises_with o n (q ∷ os) l h = by (λ k. rises_with o (1 + q) os k h.1) (nat_lt o q) refl (o == q) refl
  where
    by : ((1 + q) ≤ o → Rises (1 + q) (with_offset o os)) → (a : Bool) → nat_lt o q ≡ a → (b : Bool) → (o == q) ≡ b → Rises n (if a then o ∷ (q ∷ os) else (if b then q ∷ os else q ∷ with_offset o os))
    by rest true e b f = let k = ltb-true o q e in (l, (omega (arith, k), h.1))
    by rest false e true f = h
    by rest false e false f = let k = ltb-false o q e in (h.0, rest (above o q k (eqb-false o q f)))

-- what isn't among them then is another one, and wasn't among them
not_with : (p o : ℕ) (os : List ℕ) → is_in p (with_offset o os) ≡ false → ((p == o) ≡ false) × (is_in p os ≡ false)
not_with p o [] e = or_parts (p == o) false e
not_with p o (q ∷ os) e = by (not_with p o os) (nat_lt o q) (o == q) refl e
  where
    by : (is_in p (with_offset o os) ≡ false → ((p == o) ≡ false) × (is_in p os ≡ false)) → (a b : Bool) → (o == q) ≡ b → is_in p (if a then o ∷ (q ∷ os) else (if b then q ∷ os else q ∷ with_offset o os)) ≡ false → ((p == o) ≡ false) × (is_in p (q ∷ os) ≡ false)
    by rest true b f e = or_parts (p == o) (is_in p (q ∷ os)) e
    by rest false true f e = let h = or_parts (p == q) (is_in p os) e in (ap (λ x. p == x) (eqb-true o q f) ∙ h.0, e)
    by rest false false f e = let h = or_parts (p == q) (is_in p (with_offset o os)) e in let k = rest h.1 in (k.0, or_from (p == q) (is_in p os) h.0 k.1)

count_one_more : (test : Waiting → Bool) (o : ℕ) (c : Comment) (s : Store) → Sound s → count test (waiting_in (kept_at o c s).groups) ≡ count test (waiting_in s.groups) + one_if (test (waiting o c))
count_one_more test o c s h =
    let own = there o s.groups in
    let placed = count_with test o (own ++ c ∷ []) (without o s.groups) (lacks o 0 s.groups h.groups) in
    let all = count_taken test o s.groups in
    let ends = ap (λ ws. count test ws) (map-append (λ d. waiting o d) own (c ∷ [])) in
    let both = count_append test (waiting_at o own) (waiting o c ∷ []) in
    omega (arith, placed, all, ends, both)

covers_more : (o : ℕ) (c : Comment) (s : Store) → Sound s → (b : Bool) → outlives c.content ≡ b → Covers (if b then with_offset o s.orphans else s.orphans) (kept_at o c s).groups
covers_more o c s h true e p f =
    let k = not_with p o s.orphans f in
    let none = h.covers p k.1 in
    let one = count_one_more (outlives_at p) o c s h in
    let other = ap (λ x. one_if (x && is_outliving c)) (other_way p o k.0) in
    omega (arith, none, one, other)
  where
    other_way : (p o : ℕ) → (p == o) ≡ false → (o == p) ≡ false
    other_way p o e = by (o == p) refl
      where
        by : (b : Bool) → (o == p) ≡ b → (o == p) ≡ false
        by true f = absurd (eqb-false p o e (sym (eqb-true o p f)))
        by false f = f
covers_more o c s h false e p f =
    let none = h.covers p f in
    let one = count_one_more (outlives_at p) o c s h in
    let other = by_last (o == p) (outlives c.content) e in
    omega (arith, none, one, other)
  where
    by_last : (a b : Bool) → b ≡ false → one_if (a && b) ≡ 0
    by_last true b e = ap one_if e
    by_last false b e = refl

sound_more : (o : ℕ) (c : Comment) (s : Store) → Sound s → Sound (kept_at o c s)
sound_more o c s h = record {
  groups = from_with o 0 (there o s.groups ++ c ∷ []) (without o s.groups) (omega arith) (from_without o 0 s.groups h.groups);
  orphans = by (outlives c.content);
  covers = covers_more o c s h (outlives c.content) refl;
}
  where
    by : (b : Bool) → Rises 0 (if b then with_offset o s.orphans else s.orphans)
    by true = rises_with o 0 s.orphans (omega arith) h.orphans
    by false = h.orphans

-- ---- all of them

record Grows (old new : Store) (ws : List Waiting) : Type 0 where
  sound : Sound new
  all : (test : Waiting → Bool) → count test (waiting_in new.groups) ≡ count test (waiting_in old.groups) + count test ws

rows_grow : (o : options.Comments) (source : List ℕ) (rows : Trees) (s : Store) → Sound s → Grows s (with_rows o source rows s) (map (waiting_row source) (filter (is_kept o) (rows_of rows)))
rows_grow o source no_trees s h = record { sound = h; all = λ test. omega arith }
rows_grow o source (more (tree.comment a) ts) s h = by (is_kept o a) (rows_grow o source ts)
  where
    by : (b : Bool) → ((t : Store) → Sound t → Grows t (with_rows o source ts t) (map (waiting_row source) (filter (is_kept o) (rows_of ts)))) → Grows s (with_rows o source ts (if b then kept_at (comment_attached_to a) (comment_at source a) s else s)) (map (waiting_row source) (cond b (a ∷ filter (is_kept o) (rows_of ts)) (filter (is_kept o) (rows_of ts))))
    by true rest =
        let t = kept_at (comment_attached_to a) (comment_at source a) s in
        let g = rest t (sound_more (comment_attached_to a) (comment_at source a) s h) in
        record {
          sound = g.sound;
          all = λ test. let one = count_one_more test (comment_attached_to a) (comment_at source a) s h in let others = g.all test in omega (arith, one, others);
        }
    by false rest = rest s h
rows_grow o source (more t ts) s h = rows_grow o source ts s h
rows_grow o source (hole ts) s h = rows_grow o source ts s h

pub empty_is_sound : Sound empty_store
empty_is_sound = record { groups = tt; orphans = tt; covers = λ p e. refl }

pub kept_is_sound : (o : options.Comments) (source : List ℕ) (rows : Trees) → Sound (kept o source rows)
kept_is_sound o source rows = (rows_grow o source rows empty_store empty_is_sound).sound

pub kept_are : (test : Waiting → Bool) (o : options.Comments) (source : List ℕ) (rows : Trees) → count test (waiting_in (kept o source rows).groups) ≡ count test (map (waiting_row source) (filter (is_kept o) (rows_of rows)))
kept_are test o source rows = let all = (rows_grow o source rows empty_store empty_is_sound).all test in omega (arith, all)

-- ---- each is one of them

module _ (P : Waiting → Type 0) where
  abbrev AllOf : List Waiting → Type 0
  AllOf [] = ⊤
  AllOf (w ∷ ws) = P w × AllOf ws

  one_more_every : (o : ℕ) (c : Comment) (s : Store) → P (waiting o c) → EveryIn P s.groups → EveryIn P (kept_at o c s).groups
  one_more_every o c s one h = every_with P o (there o s.groups ++ c ∷ []) (without o s.groups) (every_both P o (there o s.groups) (c ∷ []) (every_there P o s.groups h) (one, tt)) (every_without P o s.groups h)

  every_row : (o : options.Comments) (source : List ℕ) (rows : Trees) (s : Store) → AllOf (map (waiting_row source) (filter (is_kept o) (rows_of rows))) → EveryIn P s.groups → EveryIn P (with_rows o source rows s).groups
  every_row o source no_trees s k h = h
  every_row o source (more (tree.comment a) ts) s k h = by (is_kept o a) (every_row o source ts) k
    where
      by : (b : Bool) → ((t : Store) → AllOf (map (waiting_row source) (filter (is_kept o) (rows_of ts))) → EveryIn P t.groups → EveryIn P (with_rows o source ts t).groups) → AllOf (map (waiting_row source) (cond b (a ∷ filter (is_kept o) (rows_of ts)) (filter (is_kept o) (rows_of ts)))) → EveryIn P (with_rows o source ts (if b then kept_at (comment_attached_to a) (comment_at source a) s else s)).groups
      by true rest k = rest (kept_at (comment_attached_to a) (comment_at source a) s) k.1 (one_more_every (comment_attached_to a) (comment_at source a) s k.0 h)
      by false rest k = rest s k h
  every_row o source (more t ts) s k h = every_row o source ts s k h
  every_row o source (hole ts) s k h = every_row o source ts s k h

  every_annotation : (o : options.Comments) (source : List ℕ) (rows : Trees) (gs : Groups) → AllOf (map (waiting_row source) (filter (is_kept_annotation o) (rows_of rows))) → EveryIn P gs → EveryIn P (with_annotations o source rows gs)
  every_annotation o source no_trees gs k h = h
  every_annotation o source (more (tree.comment a) ts) gs k h = by (is_kept_annotation o a) (every_annotation o source ts) k
    where
      by : (b : Bool) → ((hs : Groups) → AllOf (map (waiting_row source) (filter (is_kept_annotation o) (rows_of ts))) → EveryIn P hs → EveryIn P (with_annotations o source ts hs)) → AllOf (map (waiting_row source) (cond b (a ∷ filter (is_kept_annotation o) (rows_of ts)) (filter (is_kept_annotation o) (rows_of ts)))) → EveryIn P (with_annotations o source ts (if b then with_group (comment_attached_to a) (comment_at source a ∷ []) gs else gs))
      by true rest k = rest (with_group (comment_attached_to a) (comment_at source a ∷ []) gs) k.1 (every_with P (comment_attached_to a) (comment_at source a ∷ []) gs (k.0, tt) h)
      by false rest k = rest gs k h
  every_annotation o source (more t ts) gs k h = every_annotation o source ts gs k h
  every_annotation o source (hole ts) gs k h = every_annotation o source ts gs k h

  all_of : (ws : List Waiting) → All P ws → AllOf ws
  all_of [] h = tt
  all_of (w ∷ ws) h = (All-head P w ws h, all_of ws (All-tail P w ws h))

all_contained : (ws : List Waiting) → AllOf (Contains ws) ws
all_contained ws = all_of (Contains ws) ws (All-contains_itself ws)

pub all_kept : (o : options.Comments) (source : List ℕ) (rows : Trees) → EveryIn (Contains (map (waiting_row source) (filter (is_kept o) (rows_of rows)))) (kept o source rows).groups
all_kept o source rows = every_row (Contains (map (waiting_row source) (filter (is_kept o) (rows_of rows)))) o source rows empty_store (all_contained (map (waiting_row source) (filter (is_kept o) (rows_of rows)))) tt

pub all_annotations : (o : options.Comments) (source : List ℕ) (rows : Trees) → EveryIn (Contains (map (waiting_row source) (filter (is_kept_annotation o) (rows_of rows)))) (kept_annotations o source rows)
all_annotations o source rows = every_annotation (Contains (map (waiting_row source) (filter (is_kept_annotation o) (rows_of rows)))) o source rows [] (all_contained (map (waiting_row source) (filter (is_kept_annotation o) (rows_of rows)))) tt

pub indent_is_white : (c : IndentChar) → is_white (indent_code c) ≡ true
indent_is_white indents.Tab = refl
indent_is_white indents.Space = refl

pub indent_is_blank : (c : IndentChar) → is_dark (indent_code c) ≡ false
indent_is_blank indents.Tab = refl
indent_is_blank indents.Space = refl
