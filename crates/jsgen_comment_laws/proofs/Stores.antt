-- What leaves the store of comments is printed, each at a place of its own, and what stays is as it was.
use Rattle.std.specs.Prelude.{⊤}
use Rattle.std.proofs.Common.{◌≡◌, ℕ, ◌+◌, ◌≤◌, ◌<◌, Bool, true, false, ◌&&◌, ◌||◌, ◌==◌, nat_lt, if◌then◌else◌, List, [], ◌∷◌, ◌++◌, map, Option, Some, None, refl, sym, ap, subst, ◌∙◌, arith, append_assoc}
use Rattle.std.proofs.lemmas.Bool.{eqb-true, ne_eqb, ltb-false}
use Rattle.std.proofs.lemmas.List.{map-append}
use Rattle.jsgen_model.specs.Comments.{Comment, Groups, Store, there, taken, is_outliving, outliving, without_outliving, orphans_at, left_at, orphans_below, left_below}
use Rattle.jsgen_model.specs.Groups.{group_at, without_group, with_store, ending_at, without_ending}
use Rattle.jsgen_model.specs.Layout.{Pen}
use Rattle.jsgen_comment_laws.specs.Stand.{Waiting, CommentPlaces, IsIndentedByBlanks, count}
use Rattle.jsgen_comment_laws.proofs.Counts.{waiting_at, waiting_in, is_at, count_append, From, from_without, from_without_outliving, count_taken, count_without_outliving, none_outlives}
use Rattle.jsgen_comment_laws.proofs.Writes.{Adds, Writes, still_indented, stand_both}

-- ---- stores

abbrev pub Rises : ℕ → List ℕ → Type 0
Rises n [] = ⊤
Rises n (o ∷ os) = (n ≤ o) × Rises (1 + o) os

abbrev pub is_in : ℕ → List ℕ → Bool
is_in p [] = false
is_in p (o ∷ os) = (p == o) || is_in p os

abbrev pub outlives_at : ℕ → Waiting → Bool
outlives_at p w = is_at p w && is_outliving w.comment

-- comments that outlive their places stand at these offsets alone
abbrev pub Covers : List ℕ → Groups → Type 0
Covers os gs = (p : ℕ) → is_in p os ≡ false → count (outlives_at p) (waiting_in gs) ≡ 0

pub record Sound (s : Store) : Type 0 where
  pub groups : From 0 s.groups
  pub orphans : Rises 0 s.orphans
  pub covers : Covers s.orphans s.groups

pub sound_taken : (o : ℕ) (s : Store) → Sound s → Sound (taken o s)
sound_taken o s h = record {
  groups = from_without o 0 s.groups h.groups;
  orphans = h.orphans;
  covers = λ p e. let all = count_taken (outlives_at p) o s.groups in let none = h.covers p e in omega (arith, all, none);
}

-- ---- orphans

-- those below a number, with their offsets
abbrev pub found_at : ℕ → List ℕ → Groups → List Waiting
found_at n [] gs = []
found_at n (o ∷ os) gs = if nat_lt o n then waiting_at o (outliving (there o gs)) ++ found_at n os (without_outliving o gs) else []

abbrev pub comments_of : List Waiting → List Comment
comments_of ws = map (λ w. w.comment) ws

pub comments_at_offset : (o : ℕ) (cs : List Comment) → comments_of (waiting_at o cs) ≡ cs
comments_at_offset o [] = refl
comments_at_offset o (c ∷ cs) = ap (λ ds. c ∷ ds) (comments_at_offset o cs)

pub comments_both : (vs ws : List Waiting) → comments_of (vs ++ ws) ≡ comments_of vs ++ comments_of ws
comments_both vs ws = map-append (λ w. w.comment) vs ws

pub found_are : (n : ℕ) (os : List ℕ) (gs : Groups) → comments_of (found_at n os gs) ≡ orphans_at n os gs
found_are n [] gs = refl
found_are n (o ∷ os) gs = by (found_are n os (without_outliving o gs)) (nat_lt o n)
  where
    by : comments_of (found_at n os (without_outliving o gs)) ≡ orphans_at n os (without_outliving o gs) → (b : Bool) → comments_of (if b then waiting_at o (outliving (there o gs)) ++ found_at n os (without_outliving o gs) else []) ≡ (if b then outliving (there o gs) ++ orphans_at n os (without_outliving o gs) else [])
    by rest true = comments_both (waiting_at o (outliving (there o gs))) (found_at n os (without_outliving o gs)) ∙ (ap (λ cs. cs ++ comments_of (found_at n os (without_outliving o gs))) (comments_at_offset o (outliving (there o gs))) ∙ ap (λ cs. outliving (there o gs) ++ cs) rest)
    by rest false = refl

-- none that outlives its place is left below the number
abbrev pub NoneBelow : ℕ → Groups → Type 0
NoneBelow n gs = (p : ℕ) → p < n → count (outlives_at p) (waiting_in gs) ≡ 0

-- what is left when they have gone
pub record Left (n : ℕ) (gs : Groups) (found : List Waiting) (s : Store) : Type 0 where
  pub sound : Sound s
  pub all : (test : Waiting → Bool) → count test (waiting_in gs) ≡ count test (waiting_in s.groups) + count test found
  pub none : NoneBelow n s.groups

covers_rest : (o : ℕ) (os : List ℕ) (gs : Groups) → From 0 gs → Covers (o ∷ os) gs → Covers os (without_outliving o gs)
covers_rest o os gs h k p e = by (p == o) refl
  where
    by : (b : Bool) → (p == o) ≡ b → count (outlives_at p) (waiting_in (without_outliving o gs)) ≡ 0
    by true f = let same = eqb-true p o f in subst (λ q. count (outlives_at q) (waiting_in (without_outliving o gs)) ≡ 0) (sym same) (none_outlives o 0 gs h)
    by false f =
        let all = count_without_outliving (outlives_at p) o 0 gs h in
        let none = k p (ap (λ b. b || is_in p os) f ∙ e) in
        omega (arith, all, none)

not_in : (p n : ℕ) (os : List ℕ) → p < n → Rises n os → is_in p os ≡ false
not_in p n [] l h = refl
not_in p n (o ∷ os) l h =
    let k = h.0 in
    let first : (p == o) ≡ false = ne_eqb p o (λ e. omega (arith, l, k, e)) in
    ap (λ b. b || is_in p os) first ∙ not_in p (1 + o) os (omega (arith, l, k)) h.1

pub leaves : (n m : ℕ) (os : List ℕ) (gs : Groups) → From 0 gs → Rises m os → Covers os gs → Left n gs (found_at n os gs) (left_at n os gs)
leaves n m [] gs h r k = record {
  sound = record { groups = h; orphans = tt; covers = k };
  all = λ test. omega arith;
  none = λ p l. k p refl;
}
leaves n m (o ∷ os) gs h r k = by (leaves n (1 + o) os (without_outliving o gs) (from_without_outliving o 0 gs (omega arith) h) r.1 (covers_rest o os gs h k)) (nat_lt o n) refl
  where
    by : Left n (without_outliving o gs) (found_at n os (without_outliving o gs)) (left_at n os (without_outliving o gs)) → (b : Bool) → nat_lt o n ≡ b → Left n gs (if b then waiting_at o (outliving (there o gs)) ++ found_at n os (without_outliving o gs) else []) (if b then left_at n os (without_outliving o gs) else record { groups = gs; orphans = o ∷ os })
    by rest true e = record {
      sound = rest.sound;
      all = λ test. let first = count_without_outliving test o 0 gs h in let others = rest.all test in let both = count_append test (waiting_at o (outliving (there o gs))) (found_at n os (without_outliving o gs)) in omega (arith, first, others, both);
      none = rest.none;
    }
    by rest false e = record {
      sound = record { groups = h; orphans = (omega arith, r.1); covers = k };
      all = λ test. omega arith;
      none = λ p l. let least = ltb-false o n e in k p (not_in p o (o ∷ os) (omega (arith, l, least)) (omega arith, r.1));
    }

-- ---- what a step prints of the store

pub record Accounts (p q : Pen) : Type 0 where
  pub text : List ℕ
  pub code : q.code ≡ p.code ++ text
  pub style : q.style ≡ p.style
  pub printed : List Waiting
  pub stand : IsIndentedByBlanks p → CommentPlaces text (comments_of printed)
  pub all : (test : Waiting → Bool) → count test (waiting_in p.store.groups) ≡ count test (waiting_in q.store.groups) + count test printed
  pub sound : Sound q.store

abbrev pub Goes : Pen → Pen → Type 0
Goes p q = Sound p.store → Accounts p q

abbrev pub goes_then : {p q r : Pen} → Goes p q → Goes q r → Goes p r
goes_then {p} {q} {r} a b h = joined (a h) (b (a h).sound)
  where
    joined : Accounts p q → Accounts q r → Accounts p r
    joined a b = record {
      text = a.text ++ b.text;
      code = b.code ∙ (ap (λ x. x ++ b.text) a.code ∙ append_assoc p.code a.text b.text);
      style = b.style ∙ a.style;
      printed = a.printed ++ b.printed;
      stand = λ h. subst (λ cs. CommentPlaces (a.text ++ b.text) cs) (sym (comments_both a.printed b.printed)) (stand_both a.text b.text (comments_of a.printed) (comments_of b.printed) (a.stand h) (b.stand (still_indented p q a.style h)));
      all = λ test. let x = a.all test in let y = b.all test in let z = count_append test a.printed b.printed in omega (arith, x, y, z);
      sound = b.sound;
    }

-- text behind the code, and nothing leaves the store
pub record Texts (p q : Pen) : Type 0 where
  pub text : List ℕ
  pub code : q.code ≡ p.code ++ text
  pub style : q.style ≡ p.style
  pub store : q.store ≡ p.store

abbrev pub keeps_texts : {p q : Pen} → Texts p q → Goes p q
keeps_texts {p} {q} w h = record {
  text = w.text;
  code = w.code;
  style = w.style;
  printed = [];
  stand = λ h. tt;
  all = λ test. let same = ap (λ s. count test (waiting_in s.groups)) w.store in omega (arith, same);
  sound = subst Sound (sym w.store) h;
}

abbrev pub keeps_adds : {p q : Pen} → Adds p q → Goes p q
keeps_adds w = keeps_texts (record { text = w.text; code = w.code; style = w.style; store = w.store })

abbrev pub keeps : {p q : Pen} → Writes [] p q → Goes p q
keeps w = keeps_adds w.adds

-- the group at an offset leaves it, and is printed
abbrev pub prints_taken : (o : ℕ) (p q : Pen) → Writes (group_at o p) (without_group o p) q → Goes p q
prints_taken o p q w h = record {
  text = w.adds.text;
  code = w.adds.code;
  style = w.adds.style;
  printed = waiting_at o (group_at o p);
  stand = λ h. subst (λ cs. CommentPlaces w.adds.text cs) (sym (comments_at_offset o (group_at o p))) (w.stand h);
  all = λ test. let left = ap (λ s. count test (waiting_in s.groups)) w.adds.store in let all = count_taken test o p.store.groups in omega (arith, left, all);
  sound = subst Sound (sym w.adds.store) (sound_taken o p.store h);
}

-- orphans do
abbrev pub prints_orphans : (o : ℕ) (p q : Pen) → Writes (orphans_below o p.store) (with_store (left_below o p.store) p) q → Goes p q
prints_orphans o p q w h =
    let found = found_at o p.store.orphans p.store.groups in
    let left = leaves o 0 p.store.orphans p.store.groups h.groups h.orphans h.covers in
    record {
      text = w.adds.text;
      code = w.adds.code;
      style = w.adds.style;
      printed = found;
      stand = λ h. subst (λ cs. CommentPlaces w.adds.text cs) (sym (found_are o p.store.orphans p.store.groups)) (w.stand h);
      all = λ test. let same = ap (λ s. count test (waiting_in s.groups)) w.adds.store in let all = left.all test in omega (arith, same, all);
      sound = subst Sound (sym w.adds.store) left.sound;
    }

-- behind them none that outlives its place is left at smaller offsets
pub none_below : (o : ℕ) (s : Store) → Sound s → NoneBelow o (left_below o s).groups
none_below o s h = (leaves o 0 s.orphans s.groups h.groups h.orphans h.covers).none

-- a group leaves the store, and is printed behind what goes on without it
abbrev holds : (o : ℕ) (p q r : Pen) → Goes (without_group o p) q → Writes (group_at o p) q r → Goes p r
holds o p q r a w h = held (a (sound_taken o p.store h))
  where
    held : Accounts (without_group o p) q → Accounts p r
    held a = record {
      text = a.text ++ w.adds.text;
      code = w.adds.code ∙ (ap (λ x. x ++ w.adds.text) a.code ∙ append_assoc p.code a.text w.adds.text);
      style = w.adds.style ∙ a.style;
      printed = a.printed ++ waiting_at o (group_at o p);
      stand = λ h. subst (λ cs. CommentPlaces (a.text ++ w.adds.text) cs) (sym (comments_both a.printed (waiting_at o (group_at o p)) ∙ ap (λ cs. comments_of a.printed ++ cs) (comments_at_offset o (group_at o p)))) (stand_both a.text w.adds.text (comments_of a.printed) (group_at o p) (a.stand h) (w.stand (still_indented (without_group o p) q a.style h)));
      all = λ test.
          let same = ap (λ s. count test (waiting_in s.groups)) w.adds.store in
          let taken = count_taken test o p.store.groups in
          let rest = a.all test in
          let both = count_append test a.printed (waiting_at o (group_at o p)) in
          omega (arith, same, taken, rest, both);
      sound = subst Sound (sym w.adds.store) a.sound;
    }

abbrev pub holds_last : (last : Option ℕ) (p q r : Pen) → Goes (without_ending last p) q → Writes (ending_at last p) q r → Goes p r
holds_last None p q r a w = goes_then a (keeps w)
holds_last (Some o) p q r a w = holds o p q r a w
