-- What a step between two pens adds to the tokens of the code.
use Rattle.std.proofs.Common.{◌≡◌, ℕ, Bool, true, false, ◌||◌, inr, Some, codes, List, [], ◌++◌, refl, sym, ap, ◌∙◌, subst, append_assoc, append-nil}
use Rattle.std.specs.List.{list_all}
use Rattle.std.specs.Str.{all_scalars}
use Rattle.jsgen_tree.specs.Job.{Tables}
use Rattle.jsgen_model.specs.Punctuator.{Bracket, opening, closing}
use Rattle.jsgen_model.specs.Tokens.{Tokens, done, piece, group, ◌⧺◌, Piece, piece_text, is_spelled, is_blank, has_line_end, is_line_terminator, AreTokensAfter, AreTokensOf, AreTokensBehind}
use Rattle.jsgen_model.specs.Layout.{Pen}
use Rattle.jsgen_token_laws.proofs.Characters.{all_append, any_append}
use Rattle.jsgen_token_laws.proofs.Last.{Last, Open, After, line_of, Clear, Knows, clear_end, clear_opening}

-- ---- rows of tokens

pub then_assoc : (a b c : Tokens) → (a ⧺ b) ⧺ c ≡ a ⧺ (b ⧺ c)
then_assoc done b c = refl
then_assoc (piece m p ts) b c = ap (λ us. piece m p us) (then_assoc ts b c)
then_assoc (group m k gs ts) b c = ap (λ us. group m k gs us) (then_assoc ts b c)

pub then_done : (a : Tokens) → a ⧺ done ≡ a
then_done done = refl
then_done (piece m p ts) = ap (λ us. piece m p us) (then_done ts)
then_done (group m k gs ts) = ap (λ us. group m k gs us) (then_done ts)

-- ---- steps

-- Between the two pens these tokens are written, whatever follows that may stand there. Before the first the code ends in l, behind the second in m.
pub record Writes (names : Tables) (p : Pen) (l : Last) (q : Pen) (m : Last) (ts : Tokens) : Type 0 where
  pub text : List ℕ
  pub code : q.code ≡ p.code ++ text
  pub knows : Knows names q m
  pub tokens : (r : List ℕ) (us : Tokens) → Clear m r → AreTokensAfter (line_of m) r us → Clear l (text ++ r) × AreTokensAfter (line_of l) (text ++ r) (ts ⧺ us)

pub wrote_none : {names : Tables} (p q : Pen) (l : Last) → q.code ≡ p.code → Knows names q l → Writes names p l q l done
wrote_none p q l e k = record { text = []; code = e ∙ sym (append-nil p.code); knows = k; tokens = λ r us c a. (c, a) }

pub wrote_both : {names : Tables} {p q r : Pen} {l m n : Last} {ts us : Tokens} → Writes names p l q m ts → Writes names q m r n us → Writes names p l r n (ts ⧺ us)
wrote_both {names} {p} {q} {r} {l} {m} {n} {ts} {us} a b = record {
  text = a.text ++ b.text;
  code = rw (b.code, a.code) (append_assoc p.code a.text b.text);
  knows = b.knows;
  tokens = λ s vs c k. rw (append_assoc, then_assoc) (let h = b.tokens s vs c k in a.tokens (b.text ++ s) (us ⧺ vs) h.0 h.1);
}

-- with nothing more behind it
pub wrote_and_none : {names : Tables} {p q r : Pen} {l m n : Last} {ts : Tokens} → Writes names p l q m ts → Writes names q m r n done → Writes names p l r n ts
wrote_and_none {names} {p} {q} {r} {l} {m} {n} {ts} a b = subst (λ us. Writes names p l r n us) (then_done ts) (wrote_both a b)

-- other pens with the same code
pub same_writes : {names : Tables} {p q : Pen} {l m : Last} {ts : Tokens} (r s : Pen) → p.code ≡ r.code → s.code ≡ q.code → Knows names s m → Writes names p l q m ts → Writes names r l s m ts
same_writes {names} {p} {q} {l} {m} {ts} r s e f k w = record { text = w.text; code = f ∙ (w.code ∙ ap (λ x. x ++ w.text) e); knows = k; tokens = w.tokens }

-- ---- blanks

or_assoc : (a b c : Bool) → ((a || b) || c) ≡ (a || (b || c))
or_assoc true b c = refl
or_assoc false b c = refl

-- the mark of a token behind two gaps
mark_behind : (line : Bool) (gap other : List ℕ) (mark : Bool) → mark ≡ ((line || has_line_end gap) || has_line_end other) → mark ≡ (line || has_line_end (gap ++ other))
mark_behind line gap other mark e = e ∙ (or_assoc line (has_line_end gap) (has_line_end other) ∙ ap (λ b. line || b) (sym (any_append is_line_terminator gap other)))

tokens_behind_blank : (line : Bool) (gap r : List ℕ) (us : Tokens) → list_all is_blank gap ≡ true → AreTokensAfter (line || has_line_end gap) r us → AreTokensAfter line (gap ++ r) us
tokens_behind_blank line gap r done h k = all_append is_blank gap r h k
tokens_behind_blank line gap r (piece m x ts) h k = (gap ++ k.0, k.1, all_append is_blank gap k.0 h k.2, mark_behind line gap k.0 m k.3, k.4, k.5, ap (λ s. gap ++ s) k.6 ∙ sym (append_assoc gap k.0 (piece_text x ++ k.1)), k.7)
tokens_behind_blank line gap r (group m b gs ts) h k = (gap ++ k.0, k.1, k.2, all_append is_blank gap k.0 h k.3, mark_behind line gap k.0 m k.4, ap (λ s. gap ++ s) k.5 ∙ sym (append_assoc gap k.0 (opening b ++ (k.1 ++ (closing b ++ k.2)))), k.6, k.7)

pub wrote_blank : {names : Tables} (p q : Pen) (l : Last) (gap : List ℕ) → list_all is_blank gap ≡ true → ((r : List ℕ) → Clear l (gap ++ r)) → q.code ≡ p.code ++ gap → Knows names q (Open (line_of l || has_line_end gap)) → Writes names p l q (Open (line_of l || has_line_end gap)) done
wrote_blank p q l gap h clear e k = record { text = gap; code = e; knows = k; tokens = λ r us c a. (clear r, tokens_behind_blank (line_of l) gap r us h a) }

-- ---- tokens

pub wrote_piece : {names : Tables} (p q : Pen) (l : Last) (gap : List ℕ) (x : Piece) (mark : Bool) → list_all is_blank gap ≡ true → mark ≡ (line_of l || has_line_end gap) → is_spelled x ≡ true → ((r : List ℕ) → Clear l (gap ++ (piece_text x ++ r))) → q.code ≡ p.code ++ (gap ++ piece_text x) → Knows names q (After x) → Writes names p l q (After x) (piece mark x done)
wrote_piece p q l gap x mark h m s clear e k = record {
  text = gap ++ piece_text x;
  code = e;
  knows = k;
  tokens = λ r us c a. (rw append_assoc (clear r), (gap, r, h, m, s, c, append_assoc gap (piece_text x) r, a));
}

-- the tokens of a step's own text
alone : {names : Tables} {line : Bool} {p q : Pen} {m : Last} {ts : Tokens} → (w : Writes names p (Open line) q m ts) → AreTokensAfter line w.text ts
alone {names} {line} {p} {q} {m} {ts} w = rw (append-nil, then_done) at (w.tokens [] done (clear_end m) refl).1

pub wrote_brackets : {names : Tables} (b : Bracket) (p p1 q q1 : Pen) (l m : Last) (gs : Tokens) → p1.code ≡ p.code ++ opening b → q1.code ≡ q.code ++ closing b → Knows names q1 (Open false) → Writes names p1 (Open false) q m gs → Writes names p l q1 (Open false) (group (line_of l) b gs done)
wrote_brackets b p p1 q q1 l m gs e f k w = record {
  text = opening b ++ (w.text ++ closing b);
  code = f ∙ (ap (λ x. x ++ closing b) (w.code ∙ ap (λ x. x ++ w.text) e) ∙ (append_assoc (p.code ++ opening b) w.text (closing b) ∙ append_assoc p.code (opening b) (w.text ++ closing b)));
  knows = k;
  tokens = λ r us c a. (subst (λ x. Clear l x) (sym (flat r)) (clear_opening b l _), ([], w.text, r, refl, or_false (line_of l), flat r, alone w, a));
}
  where
    or_false : (x : Bool) → x ≡ (x || false)
    or_false true = refl
    or_false false = refl

    flat : (r : List ℕ) → (opening b ++ (w.text ++ closing b)) ++ r ≡ opening b ++ (w.text ++ (closing b ++ r))
    flat r = append_assoc (opening b) (w.text ++ closing b) r ∙ ap (λ x. opening b ++ x) (append_assoc w.text (closing b) r)

-- the whole text of a pen that began with nothing
pub all_tokens : {names : Tables} (p q : Pen) (m : Last) (ts : Tokens) → p.code ≡ [] → Writes names p (Open false) q m ts → AreTokensOf q.code ts
all_tokens p q m ts e w = subst (λ x. AreTokensAfter false x ts) (sym (w.code ∙ ap (λ x. x ++ w.text) e)) (alone w)

-- of a pen that began with a hashbang and its line end: the first token stands behind that
pub tokens_behind_hashbang : {names : Tables} (value : List ℕ) (p q : Pen) (m : Last) (ts : Tokens) → has_line_end value ≡ false → all_scalars value ≡ true → p.code ≡ (codes "#!" ++ value) ++ codes "\n" → Writes names p (Open true) q m ts → AreTokensBehind (Some value) q.code ts
tokens_behind_hashbang value p q m ts h s e w = (codes "\n" ++ w.text, record { no_line_end = h; scalars = s; text_is = whole; ends = inr refl }, tokens_behind_blank false (codes "\n") w.text ts refl (alone w))
  where
    whole : q.code ≡ codes "#!" ++ (value ++ (codes "\n" ++ w.text))
    whole = w.code ∙ (ap (λ x. x ++ w.text) e ∙ (append_assoc (codes "#!" ++ value) (codes "\n") w.text ∙ append_assoc (codes "#!") value (codes "\n" ++ w.text)))
