-- What holds of all comments of a store.
use Rattle.std.specs.Prelude.{⊤}
use Rattle.std.proofs.Common.{◌≡◌, ℕ, Bool, true, false, not, ◌==◌, nat_lt, cond, if◌then◌else◌, List, [], ◌∷◌, ◌++◌, refl, subst}
use Rattle.std.specs.List.{filter}
use Rattle.std.proofs.lemmas.Bool.{eqb-true}
use Rattle.jsgen_model.specs.Comments.{Comment, Groups, there, without, with_group, unless_none, is_outliving, outliving, others, without_outliving, left_at}
use Rattle.jsgen_comment_laws.specs.Stand.{Waiting}
use Rattle.jsgen_comment_laws.proofs.Counts.{waiting, waiting_at}
use Rattle.jsgen_comment_laws.proofs.Stores.{found_at}

module _ (P : Waiting → Type 0) where
  abbrev pub Every : ℕ → List Comment → Type 0
  Every o [] = ⊤
  Every o (c ∷ cs) = P (waiting o c) × Every o cs

  abbrev pub EveryIn : Groups → Type 0
  EveryIn [] = ⊤
  EveryIn (g ∷ gs) = Every g.0 g.1 × EveryIn gs

  pub every_there : (o : ℕ) (gs : Groups) → EveryIn gs → Every o (there o gs)
  every_there o [] h = tt
  every_there o (g ∷ gs) h = by (g.0 == o) refl (every_there o gs h.1)
    where
      by : (b : Bool) → (g.0 == o) ≡ b → Every o (there o gs) → Every o (if b then g.1 else there o gs)
      by true e rest = subst (λ m. Every m g.1) (eqb-true g.0 o e) h.0
      by false e rest = rest

  pub every_without : (o : ℕ) (gs : Groups) → EveryIn gs → EveryIn (without o gs)
  every_without o [] h = tt
  every_without o (g ∷ gs) h = by (g.0 == o) (every_without o gs h.1)
    where
      by : (b : Bool) → EveryIn (without o gs) → EveryIn (if b then gs else g ∷ without o gs)
      by true rest = h.1
      by false rest = (h.0, rest)

  pub every_with : (o : ℕ) (cs : List Comment) (gs : Groups) → Every o cs → EveryIn gs → EveryIn (with_group o cs gs)
  every_with o cs [] k h = (k, tt)
  every_with o cs (g ∷ gs) k h = by (nat_lt o g.0) (o == g.0) (every_with o cs gs k h.1)
    where
      by : (a b : Bool) → EveryIn (with_group o cs gs) → EveryIn (if a then (o, cs) ∷ (g ∷ gs) else (if b then (o, cs) ∷ gs else g ∷ with_group o cs gs))
      by true b rest = (k, h)
      by false true rest = (k, h.1)
      by false false rest = (h.0, rest)

  every_unless_none : (o : ℕ) (cs : List Comment) (gs : Groups) → Every o cs → EveryIn gs → EveryIn (unless_none o cs gs)
  every_unless_none o [] gs k h = h
  every_unless_none o (c ∷ cs) gs k h = every_with o (c ∷ cs) gs k h

  pub every_filtered : (f : Comment → Bool) (o : ℕ) (cs : List Comment) → Every o cs → Every o (filter f cs)
  every_filtered f o [] h = tt
  every_filtered f o (c ∷ cs) h = by (f c) (every_filtered f o cs h.1)
    where
      by : (b : Bool) → Every o (filter f cs) → Every o (cond b (c ∷ filter f cs) (filter f cs))
      by true rest = (h.0, rest)
      by false rest = rest

  pub every_both : (o : ℕ) (cs ds : List Comment) → Every o cs → Every o ds → Every o (cs ++ ds)
  every_both o [] ds h k = k
  every_both o (c ∷ cs) ds h k = (h.0, every_both o cs ds h.1 k)

  pub every_left : (n : ℕ) (os : List ℕ) (gs : Groups) → EveryIn gs → EveryIn (left_at n os gs).groups
  every_left n [] gs h = h
  every_left n (o ∷ os) gs h = by (nat_lt o n) (every_left n os (without_outliving o gs) (every_unless_none o (others (there o gs)) (without o gs) (every_filtered (λ c. not (is_outliving c)) o (there o gs) (every_there o gs h)) (every_without o gs h)))
    where
      by : (b : Bool) → EveryIn (left_at n os (without_outliving o gs)).groups → EveryIn (if b then left_at n os (without_outliving o gs) else record { groups = gs; orphans = o ∷ os }).groups
      by true rest = rest
      by false rest = h

  -- orphans are some of them, at smaller offsets
  abbrev pub IsFound : ℕ → Waiting → Type 0
  IsFound n w = P w × ((nat_lt w.offset n ≡ true) × (is_outliving w.comment ≡ true))

  abbrev pub AreFound : ℕ → List Waiting → Type 0
  AreFound n [] = ⊤
  AreFound n (w ∷ ws) = IsFound n w × AreFound n ws

  outliving_found : (n o : ℕ) (cs : List Comment) (ws : List Waiting) → nat_lt o n ≡ true → Every o cs → AreFound n ws → AreFound n (waiting_at o (outliving cs) ++ ws)
  outliving_found n o [] ws e h k = k
  outliving_found n o (c ∷ cs) ws e h k = by (is_outliving c) refl (outliving_found n o cs ws e h.1 k)
    where
      by : (b : Bool) → is_outliving c ≡ b → AreFound n (waiting_at o (outliving cs) ++ ws) → AreFound n (waiting_at o (cond b (c ∷ outliving cs) (outliving cs)) ++ ws)
      by true f rest = ((h.0, (e, f)), rest)
      by false f rest = rest

  pub orphans_found : (n : ℕ) (os : List ℕ) (gs : Groups) → EveryIn gs → AreFound n (found_at n os gs)
  orphans_found n [] gs h = tt
  orphans_found n (o ∷ os) gs h = by (nat_lt o n) refl (orphans_found n os (without_outliving o gs) (every_unless_none o (others (there o gs)) (without o gs) (every_filtered (λ c. not (is_outliving c)) o (there o gs) (every_there o gs h)) (every_without o gs h)))
    where
      by : (b : Bool) → nat_lt o n ≡ b → AreFound n (found_at n os (without_outliving o gs)) → AreFound n (if b then waiting_at o (outliving (there o gs)) ++ found_at n os (without_outliving o gs) else [])
      by true e rest = outliving_found n o (there o gs) (found_at n os (without_outliving o gs)) e (every_there o gs h) rest
      by false e rest = tt
