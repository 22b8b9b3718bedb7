-- The machine over bytes counts as lines and columns are defined over characters.
use Rattle.std.proofs.Common.{◌≡◌, ◌≢◌, ℕ, ◌+◌, ◌/◌, ◌%◌, ◌<◌, ◌≤◌, false, not, if◌then◌else◌, ◌⊎◌, inl, inr, List, [], ◌∷◌, ◌++◌, length, refl, sym, ap, ◌∙◌, subst, arith, length-append}
use lib.Utf8.{encode, encodes}
use Rattle.std.proofs.lemmas.Bool.{cases_lt, cases_eq, le-leb, lt-leb, lt-ltb, le-ltb, ne_eqb}
use Rattle.std.proofs.lemmas.Str.{length-encode}
use Rattle.jsgen_syntax.specs.Escapes.{begins_with}
use Rattle.jsgen_syntax.proofs.Wtf8.{encode_one, encode_two, encode_three, encode_four}
use Rattle.jsgen_map.specs.declared.count.Count.{Count}
use Rattle.jsgen_map.specs.declared.count.Seen.{Seen}
use Rattle.jsgen_map.specs.declared.count.Seen.TheVariants.{Other, Return, FirstOfSeparator, SecondOfSeparator, FirstOfFour}
use Rattle.jsgen_map.specs.declared.position.Position.{Position}
use Rattle.jsgen_map.specs.Count.{count_at, counted, counted_from, inner, lead, next_line, next_unit, step}
use Rattle.jsgen_map.specs.LineColumn.{at, behind, position, units}
use Rattle.jsgen_map.proofs.LineReads.{past}

pub counted_append : (c : Count) (xs ys : List ℕ) → counted_from c (xs ++ ys) ≡ counted_from (counted_from c xs) ys
counted_append c [] ys = refl
counted_append c (x ∷ xs) ys = counted_append (step c x) xs ys

-- ---- one byte

step_plain : (p : Position) (s : Seen) (x : ℕ) → x < 128 → x ≢ 10 → x ≢ 13 → step (count_at p s) x ≡ count_at (next_unit p) Other
step_plain p s x l f r = rw (ne_eqb x 10 f, ne_eqb x 13 r, lt-ltb x 128 l) refl

step_inner : (p : Position) (s : Seen) (x : ℕ) → 128 ≤ x → x < 192 → step (count_at p s) x ≡ inner s p x
step_inner p s x l h = rw (ne_eqb x 10 (λ e. omega arith), ne_eqb x 13 (λ e. omega arith), le-ltb x 128 l, lt-ltb x 192 h) refl

step_lead : (p : Position) (s : Seen) (x : ℕ) → 192 ≤ x → step (count_at p s) x ≡ count_at (next_unit p) (lead x)
step_lead p s x l = let h : 128 ≤ x = omega arith in rw (ne_eqb x 10 (λ e. omega arith), ne_eqb x 13 (λ e. omega arith), le-ltb x 128 h, le-ltb x 192 l) refl

lead_other : (x : ℕ) → x ≢ 226 → x < 240 → lead x ≡ Other
lead_other x n l = rw (ne_eqb x 226 n, lt-leb 240 x l) refl

lead_four : (x : ℕ) → 240 ≤ x → lead x ≡ FirstOfFour
lead_four x l = rw (ne_eqb x 226 (λ e. omega arith), le-leb 240 x l) refl

-- ---- what is no line's end

no_close : (x : ℕ) (cs : List ℕ) (p : Position) → x ≢ 10 → x ≢ 13 → x ≢ 8232 → x ≢ 8233 → behind p x cs ≡ at p.line (p.column + units x)
no_close x cs p a b c d = rw (ne_eqb x 10 a, ne_eqb x 13 b, ne_eqb x 8232 c, ne_eqb x 8233 d) refl

units_one : (x : ℕ) → x < 0x1_0000 → units x ≡ 1
units_one x l = rw (lt-ltb x 0x1_0000 l) refl

units_two : (x : ℕ) → 0x1_0000 ≤ x → units x ≡ 2
units_two x l = rw (le-ltb x 0x1_0000 l) refl

-- ---- one character

-- the count goes on behind the character as its place says
abbrev pub Counts : Position → Seen → ℕ → List ℕ → Type 0
Counts p s x cs = counted_from (count_at p s) (encode x) ≡ count_at (behind p x cs) Other

-- what is behind CR isn't LF
abbrev pub Calm : Seen → List ℕ → Type 0
Calm Other cs = Unit {0}
Calm Return cs = begins_with 10 cs ≡ false
Calm s cs = ⊥

feed : (p : Position) (s : Seen) (cs : List ℕ) → Calm s (10 ∷ cs) → Counts p s 10 cs
feed p Other cs h = ap (counted_from (count_at p Other)) (encode_one 10 (omega arith))
feed p Return cs h = absurd (cc)
feed p FirstOfSeparator cs h = absurd h
feed p SecondOfSeparator cs h = absurd h
feed p FirstOfFour cs h = absurd h

plain : (p : Position) (s : Seen) (x : ℕ) (cs : List ℕ) → x < 128 → x ≢ 10 → x ≢ 13 → Counts p s x cs
plain p s x cs l f r =
    ap (counted_from (count_at p s)) (encode_one x l)
    ∙ (step_plain p s x l f r
    ∙ ap (λ q. count_at q Other) (sym (no_close x cs p f r (λ e. omega arith) (λ e. omega arith) ∙ ap (λ u. at p.line (p.column + u)) (units_one x (omega arith)))))

two : (p : Position) (s : Seen) (x : ℕ) (cs : List ℕ) → 128 ≤ x → x < 0x800 → Counts p s x cs
two p s x cs l h =
    let a = 192 + x / 64 in
    let b = 128 + x % 64 in
    ap (counted_from (count_at p s)) (encode_two x l h)
    ∙ (ap (λ c. step c b) (step_lead p s a (omega arith) ∙ ap (count_at (next_unit p)) (lead_other a (λ e. omega arith) (omega arith)))
    ∙ (step_inner (next_unit p) Other b (omega arith) (omega arith)
    ∙ ap (λ q. count_at q Other) (sym (no_close x cs p (λ e. omega arith) (λ e. omega arith) (λ e. omega arith) (λ e. omega arith) ∙ ap (λ u. at p.line (p.column + u)) (units_one x (omega arith))))))

separator : (p : Position) (s : Seen) (x : ℕ) (cs : List ℕ) → (x ≡ 8232) ⊎ (x ≡ 8233) → Counts p s x cs
separator p s x cs (inl e) = subst (λ v. Counts p s v cs) (sym e) (ap (counted_from (count_at p s)) (encode_three 8232 (omega arith) (omega arith)))
separator p s x cs (inr e) = subst (λ v. Counts p s v cs) (sym e) (ap (counted_from (count_at p s)) (encode_three 8233 (omega arith) (omega arith)))

-- behind the second of three bytes: the third tells whether they are a separator
third : (p : Position) (a b d : ℕ) → 128 ≤ b → b < 192 → 128 ≤ d → d < 192 → a < 240 → (a ≡ 226 → b ≡ 128 → (d ≢ 168) × (d ≢ 169)) → step (step (count_at p (lead a)) b) d ≡ count_at p Other
third p a b d h i j k m n = by (cases_eq a 226) (cases_eq b 128)
  where
    by : (a ≡ 226) ⊎ (a ≢ 226) → (b ≡ 128) ⊎ (b ≢ 128) → step (step (count_at p (lead a)) b) d ≡ count_at p Other
    by (inr e) f = ap (λ s. step (step (count_at p s) b) d) (lead_other a e m) ∙ (ap (λ c. step c d) (step_inner p Other b h i) ∙ step_inner p Other d j k)
    by (inl e) (inr f) =
        ap (λ v. step (step (count_at p (lead v)) b) d) e
        ∙ (ap (λ c. step c d) (step_inner p FirstOfSeparator b h i ∙ ap (λ t. count_at p (if t then SecondOfSeparator else Other)) (ne_eqb b 128 f))
        ∙ step_inner p Other d j k)
    by (inl e) (inl f) =
        let w = n e f in
        ap (λ v. step (step (count_at p (lead v)) b) d) e
        ∙ (ap (λ v. step (step (count_at p FirstOfSeparator) v) d) f
        ∙ (step_inner p SecondOfSeparator d j k
        ∙ rw (ne_eqb d 168 w.0, ne_eqb d 169 w.1) refl))

three : (p : Position) (s : Seen) (x : ℕ) (cs : List ℕ) → 0x800 ≤ x → x < 0x1_0000 → x ≢ 8232 → x ≢ 8233 → Counts p s x cs
three p s x cs l h m n =
    let a = 224 + x / 4096 in
    let b = 128 + x / 64 % 64 in
    let d = 128 + x % 64 in
    ap (counted_from (count_at p s)) (encode_three x l h)
    ∙ (ap (λ c. step (step c b) d) (step_lead p s a (omega arith))
    ∙ (third (next_unit p) a b d (omega arith) (omega arith) (omega arith) (omega arith) (omega arith) (λ e f. ((λ g. m (omega arith)), (λ g. n (omega arith))))
    ∙ ap (λ q. count_at q Other) (sym (no_close x cs p (λ e. omega arith) (λ e. omega arith) m n ∙ ap (λ u. at p.line (p.column + u)) (units_one x h)))))

four : (p : Position) (s : Seen) (x : ℕ) (cs : List ℕ) → 0x1_0000 ≤ x → Counts p s x cs
four p s x cs l =
    let a = 240 + x / 262144 in
    let b = 128 + x / 4096 % 64 in
    let d = 128 + x / 64 % 64 in
    let f = 128 + x % 64 in
    let q = next_unit p in
    let t = next_unit q in
    let sum : (p.column + 1) + 1 ≡ p.column + 2 = omega arith in
    ap (counted_from (count_at p s)) (encode_four x l)
    ∙ (ap (λ c. step (step (step c b) d) f) (step_lead p s a (omega arith) ∙ ap (count_at q) (lead_four a (omega arith)))
    ∙ (ap (λ c. step (step c d) f) (step_inner q FirstOfFour b (omega arith) (omega arith))
    ∙ (ap (λ c. step c f) (step_inner t Other d (omega arith) (omega arith))
    ∙ (step_inner t Other f (omega arith) (omega arith)
    ∙ ap (λ r. count_at r Other) (ap (at p.line) sum ∙ sym (no_close x cs p (λ e. omega arith) (λ e. omega arith) (λ e. omega arith) (λ e. omega arith) ∙ ap (λ u. at p.line (p.column + u)) (units_two x l)))))))

one : (p : Position) (s : Seen) (x : ℕ) (cs : List ℕ) → x ≢ 13 → Calm s (x ∷ cs) → Counts p s x cs
one p s x cs r h = by (cases_eq x 10) (cases_lt x 128) (cases_lt x 0x800) (cases_lt x 0x1_0000) (cases_eq x 8232) (cases_eq x 8233)
  where
    by : (x ≡ 10) ⊎ (x ≢ 10) → (x < 128) ⊎ (128 ≤ x) → (x < 0x800) ⊎ (0x800 ≤ x) → (x < 0x1_0000) ⊎ (0x1_0000 ≤ x) → (x ≡ 8232) ⊎ (x ≢ 8232) → (x ≡ 8233) ⊎ (x ≢ 8233) → Counts p s x cs
    by (inl e) a b c d f = subst (λ v. Counts p s v cs) (sym e) (feed p s cs (subst (λ v. Calm s (v ∷ cs)) e h))
    by (inr e) (inl a) b c d f = plain p s x cs a e r
    by (inr e) (inr a) (inl b) c d f = two p s x cs a b
    by (inr e) (inr a) (inr b) (inl c) (inl d) f = separator p s x cs (inl d)
    by (inr e) (inr a) (inr b) (inl c) (inr d) (inl f) = separator p s x cs (inr f)
    by (inr e) (inr a) (inr b) (inl c) (inr d) (inr f) = three p s x cs b c d f
    by (inr e) (inr a) (inr b) (inr c) d f = four p s x cs c

-- ---- a text

-- the place that the count ends in is that of the text's end
abbrev pub Ends : List ℕ → Position → Seen → Type 0
Ends cs p s = (counted_from (count_at p s) (encodes cs)).place ≡ position p cs (length (encodes cs))

end_past : (x : ℕ) (cs : List ℕ) (p : Position) → position p (x ∷ cs) (length (encode x ++ encodes cs)) ≡ position (behind p x cs) cs (length (encodes cs))
end_past x cs p = ap (position p (x ∷ cs)) (length-append (encode x) (encodes cs) ∙ ap (λ n. n + length (encodes cs)) (length-encode x)) ∙ past p x cs (length (encodes cs))

ends_other : (x : ℕ) (cs : List ℕ) (p : Position) (s : Seen) → x ≢ 13 → Calm s (x ∷ cs) → Ends cs (behind p x cs) Other → Ends (x ∷ cs) p s
ends_other x cs p s r h i =
    ap (λ (c : Count). c.place) (counted_append (count_at p s) (encode x) (encodes cs) ∙ ap (λ c. counted_from c (encodes cs)) (one p s x cs r h))
    ∙ (i ∙ sym (end_past x cs p))

-- CR
return : (p : Position) (s : Seen) (bs : List ℕ) → counted_from (count_at p s) (encode 13 ++ bs) ≡ counted_from (count_at (next_line p) Return) bs
return p s bs = ap (λ e. counted_from (count_at p s) (e ++ bs)) (encode_one 13 (omega arith))

ends_return : (cs : List ℕ) (p : Position) (s : Seen) → begins_with 10 cs ≡ false → Ends cs (next_line p) Return → Ends (13 ∷ cs) p s
ends_return cs p s h i =
    ap (λ (c : Count). c.place) (return p s (encodes cs))
    ∙ (i ∙ (ap (λ q. position q cs (length (encodes cs))) (sym (ap (λ b. if not b then next_line p else at p.line (p.column + 1)) h)) ∙ sym (end_past 13 cs p)))

-- CR LF
ends_both : (cs : List ℕ) (p : Position) (s : Seen) → Ends cs (next_line p) Other → Ends (13 ∷ 10 ∷ cs) p s
ends_both cs p s i =
    ap (λ (c : Count). c.place) (return p s (encode 10 ++ encodes cs) ∙ ap (λ e. counted_from (count_at (next_line p) Return) (e ++ encodes cs)) (encode_one 10 (omega arith)))
    ∙ (i ∙ (sym (end_past 10 cs (at p.line (p.column + 1))) ∙ sym (end_past 13 (10 ∷ cs) p)))

ends_first : (x : ℕ) (cs : List ℕ) (p : Position) (s : Seen) → Calm s (x ∷ cs) → ((q : Position) (t : Seen) → Calm t cs → Ends cs q t) → ((ds : List ℕ) → cs ≡ 10 ∷ ds → (q : Position) → Ends ds q Other) → Ends (x ∷ cs) p s
ends_first x cs p s h next after = by (cases_eq x 13)
  where
    cr : (cs : List ℕ) → ((q : Position) (t : Seen) → Calm t cs → Ends cs q t) → ((ds : List ℕ) → cs ≡ 10 ∷ ds → (q : Position) → Ends ds q Other) → Ends (13 ∷ cs) p s
    cr [] next after = ends_return [] p s refl (next (next_line p) Return refl)
    cr (y ∷ ds) next after = feed_or (cases_eq y 10)
      where
        feed_or : (y ≡ 10) ⊎ (y ≢ 10) → Ends (13 ∷ y ∷ ds) p s
        feed_or (inl e) = subst (λ v. Ends (13 ∷ v ∷ ds) p s) (sym e) (ends_both ds p s (after ds (ap (λ v. v ∷ ds) e) (next_line p)))
        feed_or (inr e) = ends_return (y ∷ ds) p s (ne_eqb y 10 e) (next (next_line p) Return (ne_eqb y 10 e))

    by : (x ≡ 13) ⊎ (x ≢ 13) → Ends (x ∷ cs) p s
    by (inl e) = subst (λ v. Ends (v ∷ cs) p s) (sym e) (cr cs next after)
    by (inr e) = ends_other x cs p s e h (next (behind p x cs) Other tt)

ends : (cs : List ℕ) (p : Position) (s : Seen) → Calm s cs → Ends cs p s
ends [] p s h = refl
ends (x ∷ []) p s h = ends_first x [] p s h (λ q t i. refl) (λ ds e q. absurd (cc))
ends (x ∷ y ∷ cs) p s h = ends_first x (y ∷ cs) p s h (ends (y ∷ cs)) (λ ds e q. subst (λ es. Ends es q Other) (let f : cs ≡ ds = cc in f) (ends cs q Other tt))

-- the place that is counted behind the bytes of a text is that of its end
pub counted_is : (cs : List ℕ) → (counted (encodes cs)).place ≡ position (at 0 0) cs (length (encodes cs))
counted_is cs = ends cs (at 0 0) Other tt
