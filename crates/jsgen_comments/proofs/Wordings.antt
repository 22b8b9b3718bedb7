-- The wordings of licences: the lines that they are made of.
use Rattle.std.proofs.Common.{◌≡◌, ℕ, ◌-◌, ◌<◌, Bool, true, false, ◌==◌, not, MatchBool, Some, None, Result, Ok, Err, IfOk, String, List, [], ◌∷◌, ◌++◌, length, take, codes, refl, sym, ap, ◌∙◌, append_assoc, arith}
use Rattle.std.specs.declared.alloc.Global.{Global}
use Rattle.std.specs.Str.{chars, encode_utf8_all, IsUtf8, trim_start, skip_leading_whitespace}
use Rattle.std.specs.Str.Pattern.{FindsTextPrefix, FindsTextSuffix, HasPrefixMatch, HasSuffixMatch}
use Rattle.std.proofs.Math.Utf8.{encode}
use Rattle.std.proofs.lemmas.Bool.{and_parts, eqb-true, false_from_ne_true}
use Rattle.std.proofs.lemmas.Str.{chars-append, chars_from_encodes, chars_past_char, encode_ascii, encodes-append, encodes-chars, IsUtf8-take, IsUtf8-past_char}
use Rattle.jsgen_syntax.specs.declared.memory.Memory.{Memory}
use Rattle.jsgen_tree.specs.Characters.{characters}
use Rattle.jsgen_model.specs.Ends.{tabbed}
use Rattle.jsgen_model.specs.Groups.{opens_block, closes_block}
use Rattle.jsgen_model.specs.Layout.{text_if}
use Rattle.jsgen_comments.specs.Plain.{first_of, line_tabbed}

-- ---- what a line begins and ends in

-- two characters of ASCII in front
two_first : (a b : ℕ) (s x : List ℕ) → a < 128 → b < 128 → IsUtf8 s → s ≡ a ∷ b ∷ x → chars s ≡ a ∷ b ∷ chars x
two_first a b s x k l u e =
    let one : s ≡ encode a ++ (b ∷ x) = e ∙ ap (λ m. m ++ (b ∷ x)) (sym (encode_ascii a k)) in
    let two : b ∷ x ≡ encode b ++ x = ap (λ m. m ++ x) (sym (encode_ascii b l)) in
    chars_past_char s (b ∷ x) a u one ∙ ap (λ cs. a ∷ cs) (chars_past_char (b ∷ x) x b (IsUtf8-past_char s (b ∷ x) a u one) two)

-- their bytes
two_bytes : (a b : ℕ) (cs : List ℕ) → a < 128 → b < 128 → encode_utf8_all (a ∷ b ∷ cs) ≡ a ∷ b ∷ encode_utf8_all cs
two_bytes a b cs k l = ap (λ m. m ++ (encode b ++ encode_utf8_all cs)) (encode_ascii a k) ∙ ap (λ m. a ∷ (m ++ encode_utf8_all cs)) (encode_ascii b l)

opened : (cs : List ℕ) → opens_block cs ≡ true → (ds : List ℕ) × (cs ≡ 47 ∷ 42 ∷ ds)
opened [] h = absurd (cc)
opened (c ∷ []) h = absurd (cc)
opened (c ∷ d ∷ cs) h =
    let parts = and_parts (c == 47) (d == 42) h in
    (cs, ap (λ x. x ∷ d ∷ cs) (eqb-true c 47 parts.0) ∙ ap (λ x. 47 ∷ x ∷ cs) (eqb-true d 42 parts.1))

pub opens_by_bytes : (r : Bool) (s : List ℕ) → IsUtf8 s → MatchBool r (HasPrefixMatch (FindsTextPrefix (47 ∷ 42 ∷ [])) s) (FindsTextPrefix (47 ∷ 42 ∷ []) s None) → r ≡ opens_block (chars s)
opens_by_bytes true s u h = sym (ap opens_block (two_first 47 42 s _ (omega arith) (omega arith) u h.1.1))
opens_by_bytes false s u lacks = sym (false_from_ne_true (opens_block (chars s)) (λ e.
    let o = opened (chars s) e in
    lacks (encode_utf8_all o.0) (sym (encodes-chars s u) ∙ (ap encode_utf8_all o.1 ∙ two_bytes 47 42 o.0 (omega arith) (omega arith)))))

closing : (cs : List ℕ) → closes_block (cs ++ (42 ∷ 47 ∷ [])) ≡ true
closing [] = refl
closing (c ∷ []) = refl
closing (c ∷ d ∷ []) = refl
closing (c ∷ d ∷ e ∷ cs) = closing (d ∷ e ∷ cs)

closed : (cs : List ℕ) → closes_block cs ≡ true → (ds : List ℕ) × (cs ≡ ds ++ (42 ∷ 47 ∷ []))
closed [] h = absurd (cc)
closed (c ∷ []) h = absurd (cc)
closed (c ∷ d ∷ []) h =
    let parts = and_parts (c == 42) (d == 47) h in
    ([], ap (λ x. x ∷ d ∷ []) (eqb-true c 42 parts.0) ∙ ap (λ x. 42 ∷ x ∷ []) (eqb-true d 47 parts.1))
closed (c ∷ d ∷ e ∷ cs) h =
    let later = closed (d ∷ e ∷ cs) h in
    (c ∷ later.0, ap (λ x. c ∷ x) later.1)

end_chars : chars (42 ∷ 47 ∷ []) ≡ 42 ∷ 47 ∷ []
unfolding chars
end_chars = refl

pub closes_by_bytes : (r : Bool) (s : List ℕ) → IsUtf8 s → MatchBool r (HasSuffixMatch (FindsTextSuffix (42 ∷ 47 ∷ [])) s) (FindsTextSuffix (42 ∷ 47 ∷ []) s None) → r ≡ closes_block (chars s)
closes_by_bytes true s u h =
    let front = take (length s - h.0) s in
    let v : IsUtf8 front = IsUtf8-take s (length s - h.0) u h.3 in
    sym (ap (λ x. closes_block (chars x)) h.1.1 ∙ (ap closes_block (chars-append front (42 ∷ 47 ∷ []) v ∙ ap (λ x. chars front ++ x) end_chars) ∙ closing (chars front)))
closes_by_bytes false s u lacks = sym (false_from_ne_true (closes_block (chars s)) (λ e.
    let o = closed (chars s) e in
    lacks (encode_utf8_all o.0) (sym (encodes-chars s u) ∙ (ap encode_utf8_all o.1 ∙ (encodes-append o.0 (42 ∷ 47 ∷ []) ∙ ap (λ x. encode_utf8_all o.0 ++ x) (two_bytes 42 47 [] (omega arith) (omega arith)))))))

-- without the white space that it begins with
pub trimmed_chars : (bs t : List ℕ) → IsUtf8 t → t ≡ trim_start bs → chars t ≡ skip_leading_whitespace (chars bs)
unfolding trim_start
trimmed_chars bs t u e = sym (chars_from_encodes (skip_leading_whitespace (chars bs)) t u (sym e))

-- ---- lines

-- of some lines the first and the others
pub first_there : (ls : List (List ℕ)) (l : List ℕ) (more : List (List ℕ)) → Some (l, more) ≡ first_of ls → ls ≡ l ∷ more
first_there [] l more h = cc
first_there (x ∷ xs) l more h = by (x, xs) (l, more) h
  where
    by : (p q : List ℕ × List (List ℕ)) → Some q ≡ Some p → p.0 ∷ p.1 ≡ q.0 ∷ q.1
    by p q e = let same : q ≡ p = cc in ap (λ r. r.0 ∷ r.1) (sym same)

-- one more line behind a text
pub more_tabbed : (before l : List ℕ) (ls : List (List ℕ)) → (before ++ line_tabbed l) ++ tabbed ls ≡ before ++ tabbed (l ∷ ls)
more_tabbed before l ls =
    let begun = text_if (not (opens_block l)) (codes "\t") in
    let line = skip_leading_whitespace l in
    let ended = text_if (not (closes_block l)) (codes "\n") in
    append_assoc before (begun ++ (line ++ ended)) (tabbed ls) ∙ ap (λ x. before ++ x) (append_assoc begun (line ++ ended) (tabbed ls) ∙ ap (λ x. begun ++ x) (append_assoc line ended (tabbed ls)))

tab_chars : chars (codes "\t") ≡ codes "\t"
unfolding chars
tab_chars = refl

end_of_line : chars (codes "\n") ≡ codes "\n"
unfolding chars
end_of_line = refl

-- one more line behind a text, by its parts
pub line_pushed : (line trimmed : List ℕ) (opens closes : Bool) (a b d e : String Global) (r : Result Unit Memory) → IsUtf8 trimmed → trimmed ≡ trim_start line → opens ≡ opens_block (chars line) → closes ≡ closes_block (chars line) → characters b ≡ characters a ++ text_if (not opens) (chars (codes "\t")) → characters d ≡ characters b ++ text_if true (chars trimmed) → IfOk r (λ _. characters e ≡ characters d ++ text_if (not closes) (chars (codes "\n"))) → IfOk r (λ _. characters e ≡ characters a ++ line_tabbed (chars line))
line_pushed line trimmed opens closes a b d e (Err x) u t o c one two three = tt
line_pushed line trimmed opens closes a b d e (Ok x) u t o c one two three =
    let begun = text_if (not (opens_block (chars line))) (codes "\t") in
    let kept = skip_leading_whitespace (chars line) in
    let ended = text_if (not (closes_block (chars line))) (codes "\n") in
    let first : characters b ≡ characters a ++ begun = one ∙ ap (λ x. characters a ++ text_if (not x) (chars (codes "\t"))) o ∙ ap (λ x. characters a ++ text_if (not (opens_block (chars line))) x) tab_chars in
    let second : characters d ≡ characters b ++ kept = two ∙ ap (λ x. characters b ++ x) (trimmed_chars line trimmed u t) in
    let third : characters e ≡ characters d ++ ended = three ∙ ap (λ x. characters d ++ text_if (not x) (chars (codes "\n"))) c ∙ ap (λ x. characters d ++ text_if (not (closes_block (chars line))) x) end_of_line in
    third ∙ (ap (λ x. x ++ ended) (second ∙ ap (λ x. x ++ kept) first) ∙ (append_assoc (characters a ++ begun) kept ended ∙ append_assoc (characters a) begun (kept ++ ended)))
