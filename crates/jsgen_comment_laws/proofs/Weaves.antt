-- Steps as they are woven: which gaps they fill, and what they print of the comments that wait.
use Rattle.std.specs.Prelude.{Contains}
use Rattle.std.proofs.Common.{◌≡◌, ℕ, Bool, true, false, if◌then◌else◌, List, [], ◌∷◌, ◌++◌, drop, length, Option, Some, None, refl, sym, ap, subst, subst₂, ◌∙◌, arith, append_assoc, append-nil}
use Rattle.jsgen_model.specs.Punctuator.{Round, opening, closing}
use Rattle.jsgen_model.specs.Comments.{Comment, orphans_below, left_below}
use Rattle.jsgen_model.specs.Groups.{group_at, without_group, with_store, ending_at, without_ending}
use Rattle.jsgen_model.specs.Layout.{Pen, written_if}
use Rattle.jsgen_comment_laws.specs.Stand.{Waiting}
use Rattle.jsgen_comment_laws.specs.Woven.{is_white, dark_of, Bones, no_bones, dark, comment_gap, orphan_gap, annotation_gap, object_gap, ◌⧺◌, darks, in_parentheses, gap_if, between, InTwo, BothInTwo, FilledBy, BelongsTo, IsOrphan, Woven}
use Rattle.jsgen_comment_laws.proofs.Counts.{waiting_at}
use Rattle.jsgen_comment_laws.proofs.Writes.{Adds, Writes, DarkTexts, dark_both, adds_if, nothing_written}
use Rattle.jsgen_comment_laws.proofs.Stores.{Sound, sound_taken, Goes, goes_then, keeps, keeps_adds, prints_taken, prints_orphans, holds_last, found_at, comments_of, found_are}
use Rattle.jsgen_comment_laws.proofs.Held.{EveryIn, Every, AreFound, every_there, every_without, every_left, orphans_found}

-- ---- bones in a row

pub bones_end : (bs : Bones) → (bs ⧺ no_bones) ≡ bs
bones_end no_bones = refl
bones_end (dark c bs) = ap (λ x. dark c x) (bones_end bs)
bones_end (comment_gap os bs) = ap (λ x. comment_gap os x) (bones_end bs)
bones_end (orphan_gap o bs) = ap (λ x. orphan_gap o x) (bones_end bs)
bones_end (annotation_gap kind o bs) = ap (λ x. annotation_gap kind o x) (bones_end bs)
bones_end (object_gap o inner bs) = ap (λ x. object_gap o inner x) (bones_end bs)

module _ (k a : List Waiting) where
  further : {First Rest Whole : List ℕ → Type 0} (x y : List ℕ) (t : InTwo x First Rest) → Whole (t.second ++ y) → InTwo (x ++ y) First Whole
  further x y t w = record { first = t.first; second = t.second ++ y; is = ap (λ z. z ++ y) t.is ∙ append_assoc t.first t.second y; one = t.one; other = w }

  parted_further : {First Rest Whole : List Waiting → List ℕ → Type 0} (us vs : List Waiting) (x y : List ℕ) (t : BothInTwo us x First Rest) → Whole (t.second_comments ++ vs) (t.second ++ y) → BothInTwo (us ++ vs) (x ++ y) First Whole
  parted_further us vs x y t w = record {
    first_comments = t.first_comments;
    second_comments = t.second_comments ++ vs;
    are = ap (λ z. z ++ vs) t.are ∙ append_assoc t.first_comments t.second_comments vs;
    first = t.first;
    second = t.second ++ y;
    is = ap (λ z. z ++ y) t.is ∙ append_assoc t.first t.second y;
    one = t.one;
    other = w;
  }

  -- nothing stands behind a gap
  pub alone : {First : List Waiting → List ℕ → Type 0} (us : List Waiting) (bytes : List ℕ) → First us bytes → BothInTwo us bytes First (λ vs rest. (vs ≡ []) × (rest ≡ []))
  alone us bytes h = record { first_comments = us; second_comments = []; are = sym (append-nil us); first = bytes; second = []; is = sym (append-nil bytes); one = h; other = (refl, refl) }

  pub woven_both : (bs cs : Bones) (us vs : List Waiting) (x y : List ℕ) → Woven k a bs us x → Woven k a cs vs y → Woven k a (bs ⧺ cs) (us ++ vs) (x ++ y)
  woven_both no_bones cs us vs x y h l = subst₂ (λ ws z. Woven k a cs (ws ++ vs) (z ++ y)) (sym h.0) (sym h.1) l
  woven_both (dark c bs) cs us vs x y h l = further x y h (woven_both bs cs us vs h.second y h.other l)
  woven_both (comment_gap os bs) cs us vs x y h l = parted_further us vs x y h (woven_both bs cs h.second_comments vs h.second y h.other l)
  woven_both (orphan_gap o bs) cs us vs x y h l = parted_further us vs x y h (woven_both bs cs h.second_comments vs h.second y h.other l)
  woven_both (annotation_gap kind o bs) cs us vs x y h l = further x y h (woven_both bs cs us vs h.second y h.other l)
  woven_both (object_gap o inner bs) cs us vs x y h l = parted_further us vs x y h (woven_both bs cs h.second_comments vs h.second y h.other l)

  pub woven_darks : (cs : List ℕ) → Woven k a (darks cs) [] cs
  woven_darks [] = (refl, refl)
  woven_darks (c ∷ cs) = record { first = c ∷ []; second = cs; is = refl; one = refl; other = woven_darks cs }

  -- ---- steps

  -- the comments and the annotations that wait are of these, and indentation is white
  pub record Held (p : Pen) : Type 0 where
    pub store : EveryIn (Contains k) p.store.groups
    pub annotations : EveryIn (Contains a) p.annotations
    pub white : is_white p.style.indent ≡ true

  -- between two pens these comments are woven into the bones
  pub record Weave (bs : Bones) (ws : List Waiting) (p q : Pen) : Type 0 where
    pub text : List ℕ
    pub code : q.code ≡ p.code ++ text
    pub woven : Woven k a bs ws (dark_of text)
    pub held : Held q

  -- those that are printed are woven
  pub record Does (bs : Bones) (p q : Pen) : Type 0 where
    pub goes : Goes p q
    pub weaves : Held p → (s : Sound p.store) → Weave bs (goes s).printed p q

  pub does_then : {bs cs : Bones} {p q r : Pen} → Does bs p q → Does cs q r → Does (bs ⧺ cs) p r
  does_then {bs} {cs} {p} {q} {r} s t = record { goes = goes_then s.goes t.goes; weaves = λ h sound. let v = s.weaves h sound in joined v (t.weaves v.held (s.goes sound).sound) }
    where
      joined : {us vs : List Waiting} → Weave bs us p q → Weave cs vs q r → Weave (bs ⧺ cs) (us ++ vs) p r
      joined {us} {vs} v w = record {
        text = v.text ++ w.text;
        code = w.code ∙ (ap (λ x. x ++ w.text) v.code ∙ append_assoc p.code v.text w.text);
        woven = subst (λ x. Woven k a (bs ⧺ cs) (us ++ vs) x) (sym (dark_both v.text w.text)) (woven_both bs cs us vs (dark_of v.text) (dark_of w.text) v.woven w.woven);
        held = w.held;
      }

  -- with nothing behind it
  pub does_last : {bs : Bones} {p q r : Pen} → Does bs p q → Does no_bones q r → Does bs p r
  does_last {bs} {p} {q} {r} s t = subst (λ cs. Does cs p r) (bones_end bs) (does_then s t)

  pub one_does : {bs : Bones} (test : Bool) {p x y : Pen} → Does bs p x → Does bs p y → Does bs p (if test then x else y)
  one_does true s t = s
  one_does false s t = t

  still_held : {p q : Pen} (w : Adds p q) → Held p → Held q
  still_held {p} {q} w h = record {
    store = subst (λ s. EveryIn (Contains k) s.groups) (sym w.store) h.store;
    annotations = subst (λ gs. EveryIn (Contains a) gs) (sym w.annotations) h.annotations;
    white = ap (λ st. is_white st.indent) w.style ∙ h.white;
  }

  pub white : {p q : Pen} → Writes [] p q → Does no_bones p q
  white w = record {
    goes = keeps w;
    weaves = λ h sound. record { text = w.adds.text; code = w.adds.code; woven = (refl, w.dark h.white); held = still_held w.adds h };
  }

  -- a text of its own
  pub prints : {p q : Pen} (w : Adds p q) → Does (darks (dark_of w.text)) p q
  prints w = record {
    goes = keeps_adds w;
    weaves = λ h sound. record { text = w.text; code = w.code; woven = woven_darks (dark_of w.text); held = still_held w h };
  }

  pub prints_between : {p q : Pen} (w : Adds p q) → Does (between p q) p q
  prints_between {p} {q} w = subst (λ t. Does (darks (dark_of t)) p q) (sym (ap (λ c. drop (length p.code) c) w.code ∙ behind p.code w.text)) (prints w)
    where
      behind : (x y : List ℕ) → drop (length x) (x ++ y) ≡ y
      behind [] y = refl
      behind (c ∷ x) y = behind x y

  -- ---- gaps

  dark_texts_fill : (Told : Waiting → Type 0) (o : ℕ) (cs : List Comment) (bytes : List ℕ) → Every Told o cs → DarkTexts cs bytes → FilledBy Told (waiting_at o cs) bytes
  dark_texts_fill Told o [] bytes h t = t
  dark_texts_fill Told o (c ∷ cs) bytes h t = record { first = t.first; second = t.second; is = t.is; one = (h.0, t.one); other = dark_texts_fill Told o cs t.second h.1 t.other }

  belongs : (o : ℕ) (cs : List Comment) → Every (Contains k) o cs → Every (BelongsTo k (o ∷ [])) o cs
  belongs o [] h = tt
  belongs o (c ∷ cs) h = ((h.0, (0, omega arith, refl)), belongs o cs h.1)

  -- a gap of comments, filled by those of an offset, or by none
  pub gap_filled : (o : ℕ) (cs : List Comment) (bytes : List ℕ) → Every (Contains k) o cs → DarkTexts cs bytes → Woven k a (comment_gap (o ∷ []) no_bones) (waiting_at o cs) bytes
  gap_filled o cs bytes h t = alone (waiting_at o cs) bytes (dark_texts_fill (BelongsTo k (o ∷ [])) o cs bytes (belongs o cs h) t)

  unfilled : (os bytes : List ℕ) → bytes ≡ [] → Woven k a (comment_gap os no_bones) [] bytes
  unfilled os bytes e = alone [] bytes e

  without_orphans : (o : ℕ) (bytes : List ℕ) → bytes ≡ [] → Woven k a (orphan_gap o no_bones) [] bytes
  without_orphans o bytes e = alone [] bytes e

  -- nothing is printed there
  pub fills_none : (os : List ℕ) {p q : Pen} → Writes [] p q → Does (comment_gap os no_bones) p q
  fills_none os w = record {
    goes = keeps w;
    weaves = λ h sound. record { text = w.adds.text; code = w.adds.code; woven = unfilled os (dark_of w.adds.text) (w.dark h.white); held = still_held w.adds h };
  }

  pub finds_none : (o : ℕ) {p q : Pen} → Writes [] p q → Does (orphan_gap o no_bones) p q
  finds_none o w = record {
    goes = keeps w;
    weaves = λ h sound. record { text = w.adds.text; code = w.adds.code; woven = without_orphans o (dark_of w.adds.text) (w.dark h.white); held = still_held w.adds h };
  }

  taken_held : (o : ℕ) (p : Pen) → Held p → Held (without_group o p)
  taken_held o p h = record { store = every_without (Contains k) o p.store.groups h.store; annotations = h.annotations; white = h.white }

  pub fills : (o : ℕ) (p q : Pen) → Writes (group_at o p) (without_group o p) q → Does (comment_gap (o ∷ []) no_bones) p q
  fills o p q w = record {
    goes = prints_taken o p q w;
    weaves = λ h sound. record {
      text = w.adds.text;
      code = w.adds.code;
      woven = gap_filled o (group_at o p) (dark_of w.adds.text) (every_there (Contains k) o p.store.groups h.store) (w.dark h.white);
      held = still_held w.adds (taken_held o p h);
    };
  }

  found_fill : (o : ℕ) (ws : List Waiting) (bytes : List ℕ) → AreFound (Contains k) o ws → DarkTexts (comments_of ws) bytes → FilledBy (IsOrphan k o) ws bytes
  found_fill o [] bytes h t = t
  found_fill o (w ∷ ws) bytes h t = record { first = t.first; second = t.second; is = t.is; one = (h.0, t.one); other = found_fill o ws t.second h.1 t.other }

  pub finds : (o : ℕ) (p q : Pen) → Writes (orphans_below o p.store) (with_store (left_below o p.store) p) q → Does (orphan_gap o no_bones) p q
  finds o p q w = record { goes = prints_orphans o p q w; weaves = λ h sound. woven_orphans h }
    where
      found : List Waiting
      found = found_at o p.store.orphans p.store.groups

      woven_orphans : Held p → Weave (orphan_gap o no_bones) found p q
      woven_orphans h = record {
        text = w.adds.text;
        code = w.adds.code;
        woven = alone found (dark_of w.adds.text) (found_fill o found (dark_of w.adds.text) (orphans_found (Contains k) o p.store.orphans p.store.groups h.store) (subst (λ cs. DarkTexts cs (dark_of w.adds.text)) (sym (found_are o p.store.orphans p.store.groups)) (w.dark h.white)));
        held = still_held w.adds (record { store = every_left (Contains k) o p.store.orphans p.store.groups h.store; annotations = h.annotations; white = h.white });
      }

  -- a group that is taken before what goes on without it, and printed behind that
  holds_on : (o : ℕ) (bs : Bones) (p q r : Pen) → Does bs (without_group o p) q → Writes (group_at o p) q r → Does (bs ⧺ comment_gap (o ∷ []) no_bones) p r
  holds_on o bs p q r d w = record { goes = holds_last (Some o) p q r d.goes w; weaves = λ h sound. woven_held h (d.weaves (taken_held o p h) (sound_taken o p.store sound)) }
    where
      woven_held : {us : List Waiting} → Held p → Weave bs us (without_group o p) q → Weave (bs ⧺ comment_gap (o ∷ []) no_bones) (us ++ waiting_at o (group_at o p)) p r
      woven_held {us} h v = record {
        text = v.text ++ w.adds.text;
        code = w.adds.code ∙ (ap (λ x. x ++ w.adds.text) v.code ∙ append_assoc p.code v.text w.adds.text);
        woven = subst (λ x. Woven k a (bs ⧺ comment_gap (o ∷ []) no_bones) (us ++ waiting_at o (group_at o p)) x) (sym (dark_both v.text w.adds.text)) (woven_both bs (comment_gap (o ∷ []) no_bones) us (waiting_at o (group_at o p)) (dark_of v.text) (dark_of w.adds.text) v.woven (gap_filled o (group_at o p) (dark_of w.adds.text) (every_there (Contains k) o p.store.groups h.store) (w.dark v.held.white)));
        held = still_held w.adds v.held;
      }

  pub holds_ending : (last : Option ℕ) (bs : Bones) (p q r : Pen) → Does bs (without_ending last p) q → Writes (ending_at last p) q r → Does (bs ⧺ gap_if last) p r
  holds_ending None bs p q r d w = does_then d (white w)
  holds_ending (Some o) bs p q r d w = holds_on o bs p q r d w

  -- ---- parentheses

  begins_as_it_was : (p : Pen) → Writes [] p (written_if false (opening Round) p)
  begins_as_it_was p = nothing_written (opening Round) p

  ends_as_it_was : (p : Pen) → Writes [] p (written_if false (closing Round) p)
  ends_as_it_was p = nothing_written (closing Round) p

  pub in_round : (test : Bool) {bs : Bones} {p q : Pen} → Does bs (written_if test (opening Round) p) q → Does (in_parentheses test bs) p (written_if test (closing Round) q)
  in_round true {bs} {p} {q} d = does_then (prints (adds_if true (opening Round) p)) (does_then d (prints (adds_if true (closing Round) q)))
  in_round false {bs} {p} {q} d = does_then (white (begins_as_it_was p)) (does_last d (white (ends_as_it_was q)))
