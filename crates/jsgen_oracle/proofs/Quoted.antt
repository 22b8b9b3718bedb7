-- Strings at the front of a text, and texts that begin with a quote and no string.
use Rattle.std.proofs.Common.{◌≡◌, ℕ, suc, ◌+◌, Bool, true, false, not, cond, ◌&&◌, ◌==◌, Option, Some, None, option_map, is_some, List, [], ◌∷◌, ◌++◌, length, take, drop, refl, sym, ap, ◌∙◌, subst, append_assoc}
use Rattle.std.proofs.Math.Numerals.{one-add}
use Rattle.std.proofs.lemmas.Bool.{both_ways, and_parts, eqb-true}
use Rattle.std.specs.Option.{MatchOption}
use Rattle.jsgen_syntax.specs.Escapes as escapes
use Rattle.jsgen_syntax.specs.Strings.{quote_char, string_value}
use Rattle.jsgen_syntax.specs.declared.quote.Quote.{Quote}
use Rattle.jsgen_syntax.specs.declared.quote.Quote.TheVariants as quotes
use Rattle.jsgen_syntax.proofs.Strings.{closed_after, valued_closed}
use Rattle.jsgen_model.specs.Tokens.{Word, Number, Quoted, Sign, Beyond, stands}
use Rattle.jsgen_token_laws.proofs.Last.{clear_quoted}
use Rattle.jsgen_token_laws.proofs.OneList.{begins, begins_sign, starts_piece}
use Rattle.jsgen_oracle.specs.Steps.{begins_number, starts_word, StandsAt, HasNoPiece, HasNoSign, quote_at, count_before}
use Rattle.jsgen_oracle.proofs.Words.{word_front, starts_no_quote}
use Rattle.jsgen_oracle.proofs.Pieces.{begins_so, begins_as, word_begins, front_itself}

-- ---- quotes

cond_some : {A : Type 0} (b : Bool) (x y : A) (o : Option A) (P : A → Type 0) → (b ≡ true → P x) → (o ≡ Some y → P y) → cond b (Some x) o ≡ Some y → P y
cond_some true x y o P f g e = let same : x ≡ y = cc in subst P same (f refl)
cond_some false x y o P f g e = g e

pub quote_start : (text : List ℕ) (q : Quote) → quote_at text ≡ Some q → text ≡ quote_char q ∷ drop 1 text
quote_start [] q e = absurd (cc)
quote_start (c ∷ cs) q e =
    cond_some (c == 39) quotes.Single q _ (λ r. c ∷ cs ≡ quote_char r ∷ cs) (λ h. ap (λ x. x ∷ cs) (eqb-true c 39 h)) (λ f. cond_some (c == 34) quotes.Double q _ (λ r. c ∷ cs ≡ quote_char r ∷ cs) (λ h. ap (λ x. x ∷ cs) (eqb-true c 34 h)) (λ g. cond_some (c == 96) quotes.Backtick q None (λ r. c ∷ cs ≡ quote_char r ∷ cs) (λ h. ap (λ x. x ∷ cs) (eqb-true c 96 h)) (λ k. absurd (cc)) g) f) e

quote_found : (q : Quote) (x : List ℕ) → quote_at (quote_char q ∷ x) ≡ Some q
quote_found quotes.Single x = refl
quote_found quotes.Double x = refl
quote_found quotes.Backtick x = refl

-- ---- where a string ends

one_on : (q : Quote) (c : ℕ) (cs : List ℕ) (n : ℕ) (o : Option ℕ) → ((m : ℕ) → o ≡ Some m → cs ≡ take m cs ++ (quote_char q ∷ drop 1 (drop m cs))) → option_map (λ m. 1 + m) o ≡ Some n → c ∷ cs ≡ take n (c ∷ cs) ++ (quote_char q ∷ drop 1 (drop n (c ∷ cs)))
one_on q c cs n None f e = absurd (cc)
one_on q c cs n (Some m) f e =
    let k : 1 + m ≡ n = cc in
    subst (λ i. c ∷ cs ≡ take i (c ∷ cs) ++ (quote_char q ∷ drop 1 (drop i (c ∷ cs)))) k (rw one-add (ap (λ t. c ∷ t) (f m refl)))

pub ends_found : (q : Quote) (behind : Bool) (text : List ℕ) (n : ℕ) → count_before q behind text ≡ Some n → text ≡ take n text ++ (quote_char q ∷ drop 1 (drop n text))
ends_found q behind [] n e = absurd (cc)
ends_found q true (c ∷ cs) n e = one_on q c cs n (count_before q false cs) (ends_found q false cs) e
ends_found q false (c ∷ cs) n e = first (c == 92) (c == quote_char q) refl (ends_found q true cs) (ends_found q false cs) e
  where
    first : (b d : Bool) → (c == quote_char q) ≡ d
        → ((m : ℕ) → count_before q true cs ≡ Some m → cs ≡ take m cs ++ (quote_char q ∷ drop 1 (drop m cs)))
        → ((m : ℕ) → count_before q false cs ≡ Some m → cs ≡ take m cs ++ (quote_char q ∷ drop 1 (drop m cs)))
        → cond b (option_map (λ m. 1 + m) (count_before q true cs)) (cond d (Some 0) (option_map (λ m. 1 + m) (count_before q false cs))) ≡ Some n → c ∷ cs ≡ take n (c ∷ cs) ++ (quote_char q ∷ drop 1 (drop n (c ∷ cs)))
    first true d k f g e = one_on q c cs n (count_before q true cs) f e
    first false true k f g e =
        let m : 0 ≡ n = cc in
        subst (λ i. c ∷ cs ≡ take i (c ∷ cs) ++ (quote_char q ∷ drop 1 (drop i (c ∷ cs)))) m (ap (λ x. x ∷ cs) (eqb-true c (quote_char q) k))
    first false false k f g e = one_on q c cs n (count_before q false cs) g e

-- behind what is closed the quote is found
quote_next : (q : Quote) (rest : List ℕ) → count_before q false (quote_char q ∷ rest) ≡ Some 0
quote_next quotes.Single rest = refl
quote_next quotes.Double rest = refl
quote_next quotes.Backtick rest = refl

next_count : (o : Option ℕ) (n : ℕ) → o ≡ Some n → option_map (λ m. 1 + m) o ≡ Some (suc n)
next_count o n e = ap (option_map (λ m. 1 + m)) e ∙ ap Some (one-add n)

pub end_counted : (q : Quote) (behind : Bool) (w rest : List ℕ) → closed_after q behind w ≡ true → count_before q behind (w ++ (quote_char q ∷ rest)) ≡ Some (length w)
unfolding closed_after
end_counted q true [] rest h = absurd (both_ways false refl h)
end_counted q false [] rest h = quote_next q rest
end_counted q true (c ∷ cs) rest h = next_count _ (length cs) (end_counted q false cs rest h)
end_counted q false (c ∷ cs) rest h = first (c == 92) (c == quote_char q) h (end_counted q true cs rest) (end_counted q false cs rest)
  where
    first : (b d : Bool) → cond b (closed_after q true cs) (not d && closed_after q false cs) ≡ true
        → (closed_after q true cs ≡ true → count_before q true (cs ++ (quote_char q ∷ rest)) ≡ Some (length cs))
        → (closed_after q false cs ≡ true → count_before q false (cs ++ (quote_char q ∷ rest)) ≡ Some (length cs))
        → cond b (option_map (λ m. 1 + m) (count_before q true (cs ++ (quote_char q ∷ rest)))) (cond d (Some 0) (option_map (λ m. 1 + m) (count_before q false (cs ++ (quote_char q ∷ rest))))) ≡ Some (length (c ∷ cs))
    first true d h f g = next_count _ (length cs) (f h)
    first false true h f g = absurd (both_ways false refl h)
    first false false h f g = next_count _ (length cs) (g h)

-- ---- strings

pub mapped_none : {A B : Type 0} (f : A → B) (o : Option A) (p : Option B) → option_map f o ≡ p → is_some o ≡ false → p ≡ None
mapped_none f None p e h = sym e
mapped_none f (Some x) p e h = absurd (both_ways true h refl)

pub mapped_some : {A B : Type 0} (f : A → B) (o : Option A) (p : Option B) → option_map f o ≡ p → is_some o ≡ true → is_some p ≡ true
mapped_some f None p e h = absurd (both_ways false refl h)
mapped_some f (Some x) p e h = ap is_some (sym e)

pub string_stands : (q : Quote) (text w : List ℕ) (n : ℕ) → count_before q false text ≡ Some n → w ≡ take n text → is_some (string_value q w) ≡ true → StandsAt (quote_char q ∷ text) (Quoted q w) (drop 1 (drop n text))
string_stands q text w n e f h =
    let k : text ≡ w ++ (quote_char q ∷ drop 1 (drop n text)) = ends_found q false text n e ∙ ap (λ t. t ++ (quote_char q ∷ drop 1 (drop n text))) (sym f) in
    record {
      plain = refl;
      text_is = ap (λ t. quote_char q ∷ t) (k ∙ sym (append_assoc w (quote_char q ∷ []) (drop 1 (drop n text))));
      spelled = h;
      ends = clear_quoted q w (drop 1 (drop n text));
    }

no_quote_sign : (q : Quote) → begins_sign (quote_char q) ≡ false
no_quote_sign quotes.Single = refl
no_quote_sign quotes.Double = refl
no_quote_sign quotes.Backtick = refl

-- no spelling with a value stands before a quote there
NoString : Quote → List ℕ → Type 0
NoString q text = (w rest : List ℕ) → is_some (string_value q w) ≡ true → text ≡ w ++ (quote_char q ∷ rest) → ⊥

no_quote_number : (q : Quote) (text : List ℕ) → begins_number (quote_char q ∷ text) ≡ false
no_quote_number quotes.Single text = refl
no_quote_number quotes.Double text = refl
no_quote_number quotes.Backtick text = refl

no_quoted : (q : Quote) (text : List ℕ) → NoString q text → HasNoPiece (quote_char q ∷ text)
unfolding starts_piece NoString
no_quoted q text none (Word w) r s = let b = word_front w s.spelled in both_ways (starts_word (quote_char q)) (starts_no_quote q) (word_begins starts_word w _ r s b ∙ b.starts)
no_quoted q text none (Number w) r s = both_ways (begins_number (quote_char q ∷ text)) (no_quote_number q text) (begins_so (quote_char q ∷ text) w r s)
no_quoted q text none (Sign p) r s = let b = begins (Sign p) refl s.spelled in both_ways (begins_sign (quote_char q)) (no_quote_sign q) (begins_as begins_sign (Sign p) _ r s b ∙ b.starts)
no_quoted q text none (Beyond p) r s = both_ways false refl s.plain
no_quoted q text none (Quoted p w) r s =
    let k : quote_char q ∷ text ≡ quote_char p ∷ (w ++ (quote_char p ∷ r)) = s.text_is ∙ ap (λ t. quote_char p ∷ t) (append_assoc w (quote_char p ∷ []) r) in
    let f : Some q ≡ Some p = sym (quote_found q text) ∙ (ap quote_at k ∙ quote_found p (w ++ (quote_char p ∷ r))) in
    let same : p ≡ q = cc in
    let g : text ≡ w ++ (quote_char p ∷ r) = cc in
    none w r (subst (λ x. is_some (string_value x w) ≡ true) same s.spelled) (subst (λ x. text ≡ w ++ (quote_char x ∷ r)) same g)

spelled_closed : (q : Quote) (w : List ℕ) (o : Option (List ℕ)) → string_value q w ≡ o → is_some o ≡ true → closed_after q false w ≡ true
spelled_closed q w (Some us) e h = valued_closed q w us e
spelled_closed q w None e h = absurd (both_ways false refl h)

counted : (q : Quote) (text w rest : List ℕ) → is_some (string_value q w) ≡ true → text ≡ w ++ (quote_char q ∷ rest) → count_before q false text ≡ Some (length w)
counted q text w rest h e = ap (count_before q false) e ∙ end_counted q false w rest (spelled_closed q w (string_value q w) refl h)

pub no_end : (q : Quote) (text : List ℕ) → count_before q false text ≡ None → HasNoPiece (quote_char q ∷ text)
unfolding NoString
no_end q text e = no_quoted q text (λ w rest h f. let k : None ≡ Some (length w) = sym e ∙ counted q text w rest h f in absurd (cc))

pub no_value : (q : Quote) (text w : List ℕ) (n : ℕ) → count_before q false text ≡ Some n → w ≡ take n text → string_value q w ≡ None → HasNoPiece (quote_char q ∷ text)
unfolding NoString
no_value q text w n e f none = no_quoted q text (λ v rest h g.
    let k : Some n ≡ Some (length v) = sym e ∙ counted q text v rest h g in
    let m : n ≡ length v = cc in
    let same : w ≡ v = f ∙ (ap (λ i. take i text) m ∙ (ap (take (length v)) g ∙ front_itself v _)) in
    both_ways (is_some (string_value q v)) (ap is_some (ap (string_value q) (sym same) ∙ none)) h)

-- ---- no token

no_piece : (text : List ℕ) → escapes.begins starts_word text ≡ false → begins_number text ≡ false → quote_at text ≡ None → HasNoSign text → HasNoPiece text
unfolding starts_piece
no_piece text f g h none (Word w) r s = let b = word_front w s.spelled in both_ways (escapes.begins starts_word text) f (word_begins starts_word w text r s b ∙ b.starts)
no_piece text f g h none (Number w) r s = both_ways (begins_number text) g (begins_so text w r s)
no_piece text f g h none (Quoted q w) r s = let k : None ≡ Some q = sym h ∙ (ap quote_at s.text_is ∙ quote_found q ((w ++ quote_char q ∷ []) ++ r)) in absurd (cc)
no_piece text f g h none (Beyond p) r s = both_ways false refl s.plain
no_piece text f g h none (Sign p) r s = both_ways (stands p text) (none p) (subst (λ t. stands p t ≡ true) (sym s.text_is) (and_parts _ _ s.ends).0)

pub sign_or_none : {A : Type 0} (o : Option A) (P : A → Type 0) (text : List ℕ) → escapes.begins starts_word text ≡ false → begins_number text ≡ false → quote_at text ≡ None → MatchOption o (HasNoSign text) P → MatchOption o (HasNoPiece text) P
sign_or_none None P text f g h none = no_piece text f g h none
sign_or_none (Some x) P text f g h s = s
