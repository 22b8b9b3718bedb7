-- The longest number that stands at the front of a text.
use Rattle.std.proofs.Common.{◌≡◌, ℕ, Bool, true, false, not, cond, Option, Some, None, List, [], ◌∷◌, ◌++◌, take, drop, refl, sym, ap, ◌∙◌, subst}
use Rattle.std.proofs.Math.Numerals.{one-add}
use Rattle.std.proofs.lemmas.Bool.{both_ways, and_parts, and_from}
use Rattle.std.proofs.lemmas.List.{take-append-drop}
use Rattle.jsgen_syntax.specs.Escapes.{begins}
use Rattle.jsgen_model.specs.Numbers.{spells_number}
use Rattle.jsgen_model.specs.Tokens.{Number, longer_number_stands, is_barred_behind_number}
use Rattle.jsgen_model.proofs.NumberKinds.{kind}
use Rattle.jsgen_model.proofs.NumberStates.{State, start, dead, accepts, is_dead, step, run}
use Rattle.jsgen_model.proofs.NumberMachine.{number_runs}
use Rattle.jsgen_model.proofs.NumberRuns.{dead_stays}
use Rattle.jsgen_token_laws.proofs.Numbers.{none_longer, none_is_longer, one_longest}
use Rattle.jsgen_oracle.specs.Steps.{StandsAt, HasNoPiece, begins_number, count_behind, count_number}
use Rattle.jsgen_oracle.proofs.Pieces.{numbers_alone}

-- ---- what is counted

-- no front of the text is the rest of a number
NoneOf : State → List ℕ → Type 0
NoneOf s text = (w r : List ℕ) → text ≡ w ++ r → accepts (run s w) ≡ false

-- the front of so many characters is the longest
record Longest (s : State) (text : List ℕ) (n : ℕ) : Type 0 where
  is_number : accepts (run s (take n text)) ≡ true
  is_longest : (c : ℕ) (p q : List ℕ) → drop n text ≡ c ∷ (p ++ q) → accepts (run s (take n text ++ (c ∷ p))) ≡ false

Counted : State → List ℕ → Option ℕ → Type 0
Counted s text None = NoneOf s text
Counted s text (Some n) = Longest s text n

is_dead_only : (s : State) → is_dead s ≡ true → s ≡ dead
is_dead_only dead h = refl
is_dead_only s h = absurd (both_ways false refl h)

none_of_dead : (s : State) (text : List ℕ) → is_dead s ≡ true → NoneOf s text
unfolding NoneOf
none_of_dead s text h w r e = ap accepts (ap (λ d. run d w) (is_dead_only s h) ∙ dead_stays w)

none_of_empty : (s : State) → accepts s ≡ false → NoneOf s []
unfolding NoneOf
none_of_empty s h [] r e = h
none_of_empty s h (c ∷ w) r e = absurd (cc)

none_with : (s : State) (c : ℕ) (cs : List ℕ) → accepts s ≡ false → NoneOf (step s (kind c)) cs → NoneOf s (c ∷ cs)
unfolding NoneOf
none_with s c cs h f [] r e = h
none_with s c cs h f (d ∷ w) r e =
    let k : d ≡ c = cc in
    ap (λ x. accepts (run (step s (kind x)) w)) k ∙ f w r cc

empty_counted : (s : State) (b : Bool) → accepts s ≡ b → Counted s [] (count_behind b None)
unfolding Counted NoneOf
empty_counted s true e = record { is_number = e; is_longest = λ c p q f. absurd (cc) }
empty_counted s false e = none_of_empty s e

behind_counted : (s : State) (c : ℕ) (cs : List ℕ) (b : Bool) (o : Option ℕ) → accepts s ≡ b → Counted (step s (kind c)) cs o → Counted s (c ∷ cs) (count_behind b o)
unfolding Counted NoneOf
behind_counted s c cs b (Some n) e l = subst (λ m. Longest s (c ∷ cs) m) (sym (one-add n)) (record { is_number = l.is_number; is_longest = l.is_longest })
behind_counted s c cs true None e f = record { is_number = e; is_longest = λ d p q g. let k : d ≡ c = cc in ap (λ x. accepts (run (step s (kind x)) p)) k ∙ f p q cc }
behind_counted s c cs false None e f = none_with s c cs e f

counted : (s : State) (text : List ℕ) → Counted s text (count_number s text)
unfolding Counted
counted s [] = empty_counted s (accepts s) refl
counted s (c ∷ cs) = by (is_dead s) refl (counted (step s (kind c)) cs)
  where
    by : (b : Bool) → is_dead s ≡ b → Counted (step s (kind c)) cs (count_number (step s (kind c)) cs) → Counted s (c ∷ cs) (cond b None (count_behind (accepts s) (count_number (step s (kind c)) cs)))
    by true e f = none_of_dead s (c ∷ cs) e
    by false e f = behind_counted s c cs (accepts s) (count_number (step s (kind c)) cs) refl f

-- ---- a number stands there, or no token

pub no_count : (text : List ℕ) → begins_number text ≡ true → count_number start text ≡ None → HasNoPiece text
unfolding Counted NoneOf
no_count text h e =
    let f = subst (λ o. Counted start text o) e (counted start text) in
    numbers_alone text h (λ w r s. both_ways (spells_number w) (number_runs w ∙ f w r s.text_is) s.spelled)

record Front (text : List ℕ) (n : ℕ) : Type 0 where
  pub spelled : spells_number (take n text) ≡ true
  pub longest : longer_number_stands (take n text) (drop n text) ≡ false

front : (text : List ℕ) (n : ℕ) → count_number start text ≡ Some n → Front text n
unfolding Counted
front text n e =
    let l = subst (λ o. Counted start text o) e (counted start text) in
    record {
      spelled = number_runs (take n text) ∙ l.is_number;
      longest = none_longer (take n text) (drop n text) (λ c p q f. number_runs (take n text ++ (c ∷ p)) ∙ l.is_longest c p q f);
    }

pub number_stands : (text : List ℕ) (n : ℕ) → count_number start text ≡ Some n → not (begins is_barred_behind_number (drop n text)) ≡ true → StandsAt text (Number (take n text)) (drop n text)
number_stands text n e h =
    let f = front text n e in
    record { plain = refl; text_is = sym (take-append-drop n text); spelled = f.spelled; ends = and_from _ _ h (ap not f.longest) }

pub barred : (text : List ℕ) (n : ℕ) → begins_number text ≡ true → count_number start text ≡ Some n → not (begins is_barred_behind_number (drop n text)) ≡ false → HasNoPiece text
barred text n h e b =
    let f = front text n e in
    numbers_alone text h (λ w r s.
    let k = one_longest w (take n text) r (drop n text) s.spelled f.spelled (none_is_longer w r s.ends) f.longest (sym s.text_is ∙ sym (take-append-drop n text)) in
    both_ways (not (begins is_barred_behind_number (drop n text))) b (subst (λ x. not (begins is_barred_behind_number x) ≡ true) k.1 (and_parts (not (begins is_barred_behind_number r)) (not (longer_number_stands w r)) s.ends).0))
