-- Rows of plain tokens: they are the tokens of a front of the text, and there is one at most.
use Rattle.std.proofs.Common.{◌≡◌, ℕ, Bool, true, false, ◌||◌, ◌==◌, ◌⊎◌, inl, inr, List, [], ◌∷◌, ◌++◌, length, take, refl, sym, ap, ◌∙◌, subst, append_assoc, append-nil, arith}
use Rattle.std.specs.List.{list_all, prefix_len}
use Rattle.std.proofs.lemmas.Bool.{both_ways, and_from, and_parts, or_cases, eqb-true}
use Rattle.std.proofs.lemmas.List.{take-append-drop, append_cancel_left}
use Rattle.jsgen_model.specs.Punctuator.{Bracket, Round, Square, Brace, opening, closing}
use Rattle.jsgen_model.specs.Tokens.{Tokens, done, piece, group, Piece, Word, Number, Quoted, Sign, Beyond, is_plain_piece, are_plain, piece_text, ends_before, is_blank, has_line_end, AreTokensAfter, AreTokensOf}
use Rattle.jsgen_token_laws.proofs.Last.{clear_quoted}
use Rattle.jsgen_token_laws.proofs.Numbers.{number_ends_same}
use Rattle.jsgen_token_laws.proofs.Signs.{Shut, closing_char, sign_ends_same}
use Rattle.jsgen_token_laws.proofs.OneList.{Stops, one_span, one_list, piece_stops, opening_stops, shut_stops, opened, closed, ends_more}
use Rattle.jsgen_oracle.specs.Steps.{ends_row, behind_blanks, mark_at, IsRow, HasNoRow}
use Rattle.jsgen_oracle.proofs.Spans.{front_passes, rest_stops}

-- ---- the end of a row

pub ends_shut : (x : List ℕ) → ends_row x ≡ true → Shut x
unfolding closing_char
ends_shut [] h = tt
ends_shut (c ∷ cs) h = outer (or_cases ((c == 41) || (c == 93)) (c == 125) h)
  where
    inner : ((c == 41) ≡ true) ⊎ ((c == 93) ≡ true) → Shut (c ∷ cs)
    inner (inl e) = (Round, eqb-true c 41 e)
    inner (inr e) = (Square, eqb-true c 93 e)

    outer : (((c == 41) || (c == 93)) ≡ true) ⊎ ((c == 125) ≡ true) → Shut (c ∷ cs)
    outer (inl e) = inner (or_cases (c == 41) (c == 93) e)
    outer (inr e) = (Brace, eqb-true c 125 e)

pub shut_ends : (x : List ℕ) → Shut x → ends_row x ≡ true
unfolding closing_char
shut_ends [] h = refl
shut_ends (c ∷ cs) h = subst (λ d. ends_row (d ∷ cs) ≡ true) (sym h.1) (go h.0)
  where
    go : (b : Bracket) → ends_row (closing_char b ∷ cs) ≡ true
    go Round = refl
    go Square = refl
    go Brace = refl

closing_shut : (b : Bracket) (x : List ℕ) → Shut (closing b ++ x)
closing_shut b x = subst (λ t. Shut (t ++ x)) (sym (closed b)) (b, refl)

-- a token that ends before a text and what a closing bracket begins does so before the text
ends_less : (p : Piece) (r x : List ℕ) → ends_before p (r ++ x) ≡ true → Shut x → ends_before p r ≡ true
ends_less (Sign q) r x h s = sym (sign_ends_same q r x s) ∙ h
ends_less (Quoted q w) r x h s = clear_quoted q w r
ends_less (Word w) [] x h s = refl
ends_less (Word w) (c ∷ cs) x h s = h
ends_less (Beyond q) [] x h s = refl
ends_less (Beyond q) (c ∷ cs) x h s = h
ends_less (Number w) r x h s = sym (number_ends_same w r x s) ∙ h

-- ---- blanks

-- blanks are those in front
pub one_gap : (gap x : List ℕ) → list_all is_blank gap ≡ true → Stops is_blank x → (take (prefix_len is_blank (gap ++ x)) (gap ++ x) ≡ gap) × (behind_blanks (gap ++ x) ≡ x)
one_gap gap x h s = one_span is_blank (take (prefix_len is_blank (gap ++ x)) (gap ++ x)) gap (behind_blanks (gap ++ x)) x (front_passes is_blank (gap ++ x)) h (rest_stops is_blank (gap ++ x)) s (take-append-drop (prefix_len is_blank (gap ++ x)) (gap ++ x))

-- ---- from a row to its tokens

pub record Front (line : Bool) (text : List ℕ) (ts : Tokens) (rest : List ℕ) : Type 0 where
  pub front : List ℕ
  pub cut : text ≡ front ++ rest
  pub tokens : AreTokensAfter line front ts
  pub plain : are_plain ts ≡ true
  pub shut : Shut rest

pub row_front : (ts : Tokens) (line : Bool) (text rest : List ℕ) → IsRow (mark_at line text) (behind_blanks text) ts rest → Front line text ts rest
row_front done line text rest h = record {
  front = take (prefix_len is_blank text) text;
  cut = sym (ap (λ t. take (prefix_len is_blank text) text ++ t) (sym h.0) ∙ take-append-drop (prefix_len is_blank text) text);
  tokens = front_passes is_blank text;
  plain = refl;
  shut = ends_shut rest h.1;
}
row_front (piece m p ts) line text rest h =
    let s = h.2 in
    let f = row_front ts false h.0 rest h.3 in
    let gap = take (prefix_len is_blank text) text in
    record {
      front = gap ++ (piece_text p ++ f.front);
      cut = sym (take-append-drop (prefix_len is_blank text) text) ∙ (ap (λ t. gap ++ t) (s.text_is ∙ ap (λ t. piece_text p ++ t) f.cut) ∙ sym (append_assoc gap (piece_text p ++ f.front) rest ∙ ap (λ t. gap ++ t) (append_assoc (piece_text p) f.front rest)));
      tokens = (gap, f.front, front_passes is_blank text, h.1, s.spelled, ends_less p f.front rest (subst (λ t. ends_before p t ≡ true) f.cut s.ends) f.shut, refl, f.tokens);
      plain = and_from (is_plain_piece p) (are_plain ts) s.plain f.plain;
      shut = f.shut;
    }
row_front (group m b inside ts) line text rest h =
    let i = row_front inside false h.0 (closing b ++ h.1) h.4 in
    let f = row_front ts false h.1 rest h.5 in
    let gap = take (prefix_len is_blank text) text in
    let whole : text ≡ gap ++ (opening b ++ (i.front ++ (closing b ++ (f.front ++ rest)))) = sym (take-append-drop (prefix_len is_blank text) text) ∙ ap (λ t. gap ++ t) (h.3 ∙ ap (λ t. opening b ++ t) (i.cut ∙ ap (λ t. i.front ++ (closing b ++ t)) f.cut)) in
    record {
      front = gap ++ (opening b ++ (i.front ++ (closing b ++ f.front)));
      cut = whole ∙ sym (append_assoc gap (opening b ++ (i.front ++ (closing b ++ f.front))) rest ∙ ap (λ t. gap ++ t) (append_assoc (opening b) (i.front ++ (closing b ++ f.front)) rest ∙ ap (λ t. opening b ++ t) (append_assoc i.front (closing b ++ f.front) rest ∙ ap (λ t. i.front ++ t) (append_assoc (closing b) f.front rest))));
      tokens = (gap, i.front, f.front, front_passes is_blank text, h.2, refl, i.tokens, f.tokens);
      plain = and_from (are_plain inside) (are_plain ts) i.plain f.plain;
      shut = f.shut;
    }

-- ---- and back

opening_text_stops : (b : Bracket) (x : List ℕ) → Stops is_blank (opening b ++ x)
opening_text_stops b x = subst (λ t. Stops is_blank (t ++ x)) (sym (opened b)) (opening_stops b)

pub front_row : (ts : Tokens) (line : Bool) (front rest : List ℕ) → AreTokensAfter line front ts → are_plain ts ≡ true → Shut rest → IsRow (mark_at line (front ++ rest)) (behind_blanks (front ++ rest)) ts rest
front_row done line front rest h e s = ((one_gap front rest h (shut_stops rest s)).1, shut_ends rest s)
front_row (piece m p ts) line front rest h e s =
    let k = and_parts (is_plain_piece p) (are_plain ts) e in
    let gap = h.0 in
    let text : front ++ rest ≡ gap ++ (piece_text p ++ (h.1 ++ rest)) = ap (λ t. t ++ rest) h.6 ∙ (append_assoc gap (piece_text p ++ h.1) rest ∙ ap (λ t. gap ++ t) (append_assoc (piece_text p) h.1 rest)) in
    let g = one_gap gap (piece_text p ++ (h.1 ++ rest)) h.2 (piece_stops p (h.1 ++ rest) k.0 h.4) in
    let made : IsRow (mark_at line (gap ++ (piece_text p ++ (h.1 ++ rest)))) (behind_blanks (gap ++ (piece_text p ++ (h.1 ++ rest)))) (piece m p ts) rest =
    (h.1 ++ rest, h.3 ∙ ap (λ t. line || has_line_end t) (sym g.0), record { plain = k.0; text_is = g.1; spelled = h.4; ends = ends_more p h.1 rest k.0 h.5 s }, front_row ts false h.1 rest h.7 k.1 s) in
    subst (λ t. IsRow (mark_at line t) (behind_blanks t) (piece m p ts) rest) (sym text) made
front_row (group m b inside ts) line front rest h e s =
    let k = and_parts (are_plain inside) (are_plain ts) e in
    let gap = h.0 in
    let inner = h.1 ++ (closing b ++ (h.2 ++ rest)) in
    let text : front ++ rest ≡ gap ++ (opening b ++ inner) = ap (λ t. t ++ rest) h.5 ∙ (append_assoc gap (opening b ++ (h.1 ++ (closing b ++ h.2))) rest ∙ ap (λ t. gap ++ t) (append_assoc (opening b) (h.1 ++ (closing b ++ h.2)) rest ∙ ap (λ t. opening b ++ t) (append_assoc h.1 (closing b ++ h.2) rest ∙ ap (λ t. h.1 ++ t) (append_assoc (closing b) h.2 rest)))) in
    let g = one_gap gap (opening b ++ inner) h.3 (opening_text_stops b inner) in
    let made : IsRow (mark_at line (gap ++ (opening b ++ inner))) (behind_blanks (gap ++ (opening b ++ inner))) (group m b inside ts) rest =
    (inner, h.2 ++ rest, h.4 ∙ ap (λ t. line || has_line_end t) (sym g.0), g.1, front_row inside false h.1 (closing b ++ (h.2 ++ rest)) h.6 k.0 (closing_shut b (h.2 ++ rest)), front_row ts false h.2 rest h.7 k.1 s) in
    subst (λ t. IsRow (mark_at line t) (behind_blanks t) (group m b inside ts) rest) (sym text) made

-- ---- there is one

pub one_row : (ts us : Tokens) (line : Bool) (text x y : List ℕ) → IsRow (mark_at line text) (behind_blanks text) ts x → IsRow (mark_at line text) (behind_blanks text) us y → x ≡ y
one_row ts us line text x y g h =
    let a = row_front ts line text x g in
    let b = row_front us line text y h in
    let k = one_list ts us line a.front b.front x y a.plain b.plain a.tokens b.tokens a.shut b.shut (sym a.cut ∙ b.cut) in
    append_cancel_left a.front x y (sym a.cut ∙ (b.cut ∙ ap (λ t. t ++ y) (sym k.1)))

-- ---- of the whole text

pub row_tokens : (ts : Tokens) (text : List ℕ) → IsRow (mark_at false text) (behind_blanks text) ts [] → AreTokensOf text ts
row_tokens ts text h = let f = row_front ts false text [] h in subst (λ t. AreTokensOf t ts) (sym (append-nil f.front) ∙ sym f.cut) f.tokens

pub tokens_row : (ts : Tokens) (text : List ℕ) → AreTokensOf text ts → are_plain ts ≡ true → IsRow (mark_at false text) (behind_blanks text) ts []
tokens_row ts text h e = subst (λ t. IsRow (mark_at false t) (behind_blanks t) ts []) (append-nil text) (front_row ts false text [] h e tt)

pub no_row_no_tokens : (text : List ℕ) → HasNoRow (mark_at false text) (behind_blanks text) → (ts : Tokens) → AreTokensOf text ts → are_plain ts ≡ true → ⊥
no_row_no_tokens text none ts h e = none ts [] (tokens_row ts text h e)

-- what ends early has none
early_no_tokens : (text : List ℕ) (us : Tokens) (c : ℕ) (cs : List ℕ) → IsRow (mark_at false text) (behind_blanks text) us (c ∷ cs) → (ts : Tokens) → AreTokensOf text ts → are_plain ts ≡ true → ⊥
early_no_tokens text us c cs r ts h g = let e = one_row us ts false text (c ∷ cs) [] r (tokens_row ts text h g) in absurd (cc)

pub nothing_left : (x : List ℕ) → (length x == 0) ≡ true → x ≡ []
nothing_left [] h = refl
nothing_left (c ∷ cs) h = let e : length (c ∷ cs) ≡ 0 = eqb-true _ 0 h in absurd (omega arith)

pub something_left : (text : List ℕ) (us : Tokens) (x : List ℕ) → (length x == 0) ≡ false → IsRow (mark_at false text) (behind_blanks text) us x → (ts : Tokens) → AreTokensOf text ts → are_plain ts ≡ true → ⊥
something_left text us [] h r ts g e = both_ways true h refl
something_left text us (c ∷ cs) h r ts g e = early_no_tokens text us c cs r ts g e
