-- A text that is appended piece by piece.
use Rattle.std.proofs.Common.{◌≡◌, ℕ, List, [], ◌++◌, length, take, refl, sym, ap, ◌∙◌, subst, drop, take-append-drop, append_assoc, append-nil, take_at, Result, Ok, Err}
use Rattle.jsgen_syntax.specs.Buffer.{AppendsPrefix}
use Rattle.std.specs.Result.{OnOk, OnErr}
use Rattle.jsgen_syntax.specs.declared.memory.Memory.{Memory}

-- new is old and the text but for what is left of it
pub record Printed (old new text left : List ℕ) : Type 0 where
  pub front : List ℕ
  pub new_is : new ≡ old ++ front
  pub text_is : front ++ left ≡ text

pub printed_none : (old text : List ℕ) → Printed old old text text
printed_none old text = record { front = []; new_is = sym (append-nil old); text_is = refl }

pub printed_more : (old new next text piece left : List ℕ) → Printed old new text (piece ++ left) → next ≡ new ++ piece → Printed old next text left
printed_more old new next text piece left p e = record {
  front = p.front ++ piece;
  new_is = e ∙ (ap (λ l. l ++ piece) p.new_is ∙ append_assoc old p.front piece);
  text_is = append_assoc p.front piece left ∙ p.text_is;
}

pub printed_all : (old new text : List ℕ) → Printed old new text [] → new ≡ old ++ text
printed_all old new text p = p.new_is ∙ ap (λ l. old ++ l) (sym (append-nil p.front) ∙ p.text_is)

pub printed_prefix : (old new text left : List ℕ) → Printed old new text left → AppendsPrefix old new text
printed_prefix old new text left p = (length p.front, p.new_is ∙ ap (λ l. old ++ l) (sym (ap (take (length p.front)) (sym p.text_is) ∙ take_at p.front left (length p.front) refl)))

-- ---- what a result says

pub on_err : (r : Result (Unit {0}) Memory) (P : Type 0) → P → OnErr r P
on_err (Ok x) P p = tt
on_err (Err x) P p = p

pub then_err : (r : Result (Unit {0}) Memory) (P Q : Type 0) → (P → Q) → OnErr r P → OnErr r Q
then_err (Ok x) P Q f p = tt
then_err (Err x) P Q f p = f p

pub then_ok : (r : Result (Unit {0}) Memory) (P Q : Type 0) → (P → Q) → OnOk r P → OnOk r Q
then_ok (Ok x) P Q f p = f p
then_ok (Err x) P Q f p = tt

-- the same text, in other words
pub same_text : (r : Result (Unit {0}) Memory) (new old a b : List ℕ) → a ≡ b → OnOk r (new ≡ old ++ a) → OnOk r (new ≡ old ++ b)
same_text r new old a b e p = then_ok r (new ≡ old ++ a) (new ≡ old ++ b) (λ k. k ∙ ap (λ l. old ++ l) e) p

-- ---- the steps of a loop that prints what is left

-- one more piece
pub printed_piece : (old new next text left piece rest : List ℕ) → Printed old new text left → left ≡ piece ++ rest → next ≡ new ++ piece → Printed old next text rest
printed_piece old new next text left piece rest p e n = printed_more old new next text piece rest (subst (Printed old new text) e p) n

pub printed_end : (old new text left : List ℕ) → Printed old new text left → left ≡ [] → new ≡ old ++ text
printed_end old new text left p e = printed_all old new text (subst (Printed old new text) e p)

-- nothing more was printed
pub stopped : (r : Result (Unit {0}) Memory) (old now new text left : List ℕ) → Printed old now text left → new ≡ now → OnErr r (AppendsPrefix old new text)
stopped r old now new text left p e = on_err r (AppendsPrefix old new text) (printed_prefix old new text left (subst (λ x. Printed old x text left) (sym e) p))

-- a prefix of a piece is one of the text
pub prefix_piece : (old new next text left piece rest : List ℕ) → Printed old new text left → left ≡ piece ++ rest → AppendsPrefix new next piece → AppendsPrefix old next text
prefix_piece old new next text left piece rest p e a =
    printed_prefix old next text (drop a.0 piece ++ rest) (printed_more old new next text (take a.0 piece) (drop a.0 piece ++ rest) (subst (Printed old new text) (e ∙ (ap (λ l. l ++ rest) (sym (take-append-drop a.0 piece)) ∙ append_assoc (take a.0 piece) (drop a.0 piece) rest)) p) a.1)
