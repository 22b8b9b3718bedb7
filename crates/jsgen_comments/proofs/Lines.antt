-- The first line of a text.
use Rattle.std.proofs.Common.{◌≡◌, ℕ, Bool, true, false, ◌||◌, ◌==◌, ◌⊎◌, inl, inr, List, [], ◌∷◌, ◌++◌, length, take, drop, Option, Some, None, refl, sym, ap, subst, ◌∙◌, arith}
use Rattle.std.specs.Option.{MatchOption}
use Rattle.std.specs.Str.{chars, encode_utf8_all, IsUtf8, IsCharBoundary, NoCharPasses, NonePass}
use Rattle.std.specs.Str.Pattern.{FindsBy, FindsTextPrefix, StripsPrefix}
use Rattle.std.proofs.Math.Utf8.{encode}
use Rattle.std.proofs.lemmas.Bool.{cases_eq, cond-true, cond-false, ne_eqb, eq-eqb, eqb-true, true≢false}
use Rattle.std.proofs.lemmas.List.{take-append-drop}
use Rattle.std.proofs.lemmas.Str.{chars-append, chars_from_encodes, chars_past_char, chars-nil, encode_ascii, encodes-chars, IsUtf8-take, IsUtf8-drop, IsUtf8-past_char}
use Rattle.jsgen_model.specs.Groups.{lines_of, lines_behind, onto}
use Rattle.jsgen_model.specs.Tokens.{is_line_terminator}
use Rattle.jsgen_comments.specs.Plain.{first_of, behind_end}

-- ---- characters

-- a line and its end
line_then : (cs ds : List ℕ) (t : ℕ) → NonePass is_line_terminator cs → is_line_terminator t ≡ true → lines_of (cs ++ t ∷ ds) ≡ cs ∷ lines_behind (t == 13) ds
line_then [] ds t n e = cond-true (is_line_terminator t) _ _ e
line_then (c ∷ cs) ds t n e = cond-false (is_line_terminator c) _ _ n.0 ∙ ap (onto c) (line_then cs ds t n.1 e)

-- a line without an end
lone : (c : ℕ) (cs : List ℕ) → NonePass is_line_terminator (c ∷ cs) → lines_of (c ∷ cs) ≡ (c ∷ cs) ∷ []
lone c [] n = cond-false (is_line_terminator c) _ _ n.0
lone c (d ∷ cs) n = cond-false (is_line_terminator c) _ _ n.0 ∙ ap (onto c) (lone d cs n.1)

-- a return has no part in what doesn't begin with LF
calm : (b : Bool) (cs : List ℕ) → ((ds : List ℕ) → b ≡ true → cs ≡ 10 ∷ ds → ⊥) → lines_behind false cs ≡ lines_behind b cs
calm false cs h = refl
calm true [] h = refl
calm true (d ∷ ds) h = sym (cond-false (d == 10) _ _ (ne_eqb d 10 (λ e. h ds refl (ap (λ x. x ∷ ds) e))))

-- ---- texts

pub at_end : (s : List ℕ) (i j : ℕ) → IsUtf8 s → IsCharBoundary s i → FindsBy is_line_terminator s (Some (i, j)) → Some (chars (take i s), behind_end (chars (drop i s))) ≡ first_of (lines_of (chars s))
at_end s i j u b f =
    let front = f.0.0 in
    let c = f.1.0 in
    let ut = IsUtf8-take s i u b in
    let ud = IsUtf8-drop s i u b in
    let same : front ≡ chars (take i s) = chars_from_encodes front (take i s) ut f.0.1 in
    let rest : chars (drop i s) ≡ c ∷ chars (drop j s) = chars_past_char (drop i s) (drop j s) c ud f.1.2.split in
    let whole : chars s ≡ front ++ (c ∷ chars (drop j s)) = ap chars (sym (take-append-drop i s)) ∙ (chars-append (take i s) (drop i s) ut ∙ (ap (λ x. x ++ chars (drop i s)) (sym same) ∙ ap (λ x. front ++ x) rest)) in
    sym (ap (λ x. first_of (lines_of x)) whole ∙ (ap first_of (line_then front (chars (drop j s)) c f.0.2 f.1.1) ∙ (ap (λ x. Some (x, lines_behind (c == 13) (chars (drop j s)))) same ∙ ap (λ y. Some (chars (take i s), behind_end y)) (sym rest))))

pub no_end : (s t : List ℕ) → IsUtf8 s → (length s == 0) ≡ false → t ≡ [] → NoCharPasses is_line_terminator s → Some (chars s, lines_of (chars t)) ≡ first_of (lines_of (chars s))
no_end s t u some e n = ap (λ x. Some (chars s, lines_of (chars x))) e ∙ (ap (λ x. Some (chars s, lines_of x)) chars-nil ∙ by (chars s) (encodes-chars s u) (subst (NonePass is_line_terminator) (chars_from_encodes n.0 s u n.1) n.2))
  where
    by : (cs : List ℕ) → encode_utf8_all cs ≡ s → NonePass is_line_terminator cs → Some (cs, []) ≡ first_of (lines_of cs)
    by [] is none = absurd (true≢false (ap (λ x. length x == 0) is ∙ some))
    by (c ∷ cs) is none = sym (ap first_of (lone c cs none))

pub nothing : (s : List ℕ) → (length s == 0) ≡ true → None ≡ first_of (lines_of (chars s))
nothing [] e = sym (ap (λ x. first_of (lines_of x)) chars-nil)
nothing (c ∷ s) e = let h : length (c ∷ s) ≡ 0 = eqb-true (length (c ∷ s)) 0 e in absurd (omega arith)

-- ---- behind a line end

-- CR LF
both : (s x : List ℕ) → IsUtf8 s → s ≡ 13 ∷ 10 ∷ x → lines_of (chars x) ≡ behind_end (chars s)
both s x u e =
    let a : s ≡ encode 13 ++ (10 ∷ x) = e ∙ ap (λ m. m ++ (10 ∷ x)) (sym (encode_ascii 13 (omega arith))) in
    let b : 10 ∷ x ≡ encode 10 ++ x = ap (λ m. m ++ x) (sym (encode_ascii 10 (omega arith))) in
    let behind : chars (10 ∷ x) ≡ 10 ∷ chars x = chars_past_char (10 ∷ x) x 10 (IsUtf8-past_char s (10 ∷ x) 13 u a) b in
    sym (ap behind_end (chars_past_char s (10 ∷ x) 13 u a ∙ ap (λ cs. 13 ∷ cs) behind))

pub behind_both : (s x : List ℕ) → IsUtf8 s → StripsPrefix (FindsTextPrefix (13 ∷ 10 ∷ [])) s x → lines_of (chars x) ≡ behind_end (chars s)
behind_both s x u found = both s x u (found.1.1 ∙ ap (λ r. 13 ∷ 10 ∷ r) (sym found.2))

-- another one: the first character
pub behind_one : (s t : List ℕ) (r : Option ℕ) → IsUtf8 s → ((rest : List ℕ) → s ≡ 13 ∷ 10 ∷ rest → ⊥) → MatchOption r ((length s ≡ 0) × (t ≡ s)) (λ c. s ≡ encode c ++ t) → lines_of (chars t) ≡ behind_end (chars s)
behind_one [] t None u lacks (e, f) = ap (λ x. lines_of (chars x)) f ∙ (ap lines_of chars-nil ∙ ap behind_end (sym chars-nil))
behind_one (x ∷ s) t None u lacks (e, f) = absurd (omega arith)
behind_one s t (Some c) u lacks e =
    let ut = IsUtf8-past_char s t c u e in
    calm (c == 13) (chars t) (λ ds q f. lacks (encode_utf8_all ds) (e ∙ (ap (λ x. encode x ++ t) (eqb-true c 13 q) ∙ (ap (λ x. x ++ t) (encode_ascii 13 (omega arith)) ∙ ap (λ x. 13 ∷ x) (sym (encodes-chars t ut) ∙ (ap encode_utf8_all f ∙ ap (λ x. x ++ encode_utf8_all ds) (encode_ascii 10 (omega arith))))))))
    ∙ ap behind_end (sym (chars_past_char s t c u e))

-- ---- the characters that end a line, in a list

same : (a b : ℕ) → (a == b) ≡ (b == a)
same a b = by (cases_eq a b)
  where
    by : (a ≡ b) ⊎ (a ≡ b → ⊥) → (a == b) ≡ (b == a)
    by (inl e) = eq-eqb a b e ∙ sym (eq-eqb b a (sym e))
    by (inr n) = ne_eqb a b n ∙ sym (ne_eqb b a (λ e. n (sym e)))

regrouped : (a b c d : Bool) → (a || (b || (c || (d || false)))) ≡ (a || b || c || d)
regrouped true b c d = refl
regrouped false true c d = refl
regrouped false false true d = refl
regrouped false false false true = refl
regrouped false false false false = refl

pub ends : (c : ℕ) → ((10 == c) || ((13 == c) || ((8232 == c) || ((8233 == c) || false)))) ≡ is_line_terminator c
ends c = rw (same 10 c, same 13 c, same 8232 c, same 8233 c) (regrouped (c == 10) (c == 13) (c == 8232) (c == 8233))

-- what the first call of `next` leaves
pub first_gone : {S : Type 0} (rest : S → List ℕ) (a b : S) (s : List ℕ) (r : Option ℕ) → rest a ≡ s → MatchOption r ((length (rest a) ≡ 0) × (b ≡ a)) (λ c. rest a ≡ encode c ++ rest b) → MatchOption r ((length s ≡ 0) × (rest b ≡ s)) (λ c. s ≡ encode c ++ rest b)
first_gone rest a b s None e h = (ap length (sym e) ∙ h.0, ap rest h.1 ∙ e)
first_gone rest a b s (Some c) e h = sym e ∙ h
