-- The tokens of a map stand in the order of the text.
use Rattle.std.proofs.Common.{◌≡◌, ℕ, ◌≤◌, Bool, true, false, ◌==◌, ◌||◌, nat_lt, inl, inr, List, [], ◌∷◌, ◌++◌, length, take, drop, map, refl, ap, sym, subst, ◌∙◌, arith, length-take, if◌then◌else◌}
use Rattle.std.specs.Prelude.{All}
use Rattle.std.specs.Str.{IsUtf8}
use Rattle.std.proofs.lemmas.List.{take-append-drop, take-take}
use Rattle.std.proofs.lemmas.List.Elements.{All-nil, All-cons, All-head, All-tail}
use Rattle.std.proofs.lemmas.List.Kept.{AllPairs-cons}
use Rattle.jsgen_map.specs.declared.count.Count.{Count}
use Rattle.jsgen_map.specs.declared.count.Seen.{Seen}
use Rattle.jsgen_map.specs.declared.count.Seen.TheVariants.{Other, Return, FirstOfSeparator, SecondOfSeparator, FirstOfFour}
use Rattle.jsgen_map.specs.declared.position.Position.{Position}
use Rattle.jsgen_map.specs.declared.source_map.Token.{Token}
use Rattle.jsgen_map.specs.Count.{count_at, counted, counted_from, inner, lead, line_feed, next_line, next_unit, step}
use Rattle.jsgen_map.specs.LineColumn.{line_column}
use Rattle.jsgen_map.specs.Marks.{Mark, MapOf, Ordered, token_of}
use Rattle.jsgen_map.proofs.Counts.{counted_append}
use Rattle.jsgen_map.proofs.MarkLists.{count_place}
use Rattle.jsgen_mark_laws.proofs.Marks.{ordered_ends}
use Rattle.jsgen_map_laws.specs.Law.{IsUpTo, Rise, place_of}

-- ---- places

up_same : (p : Position) → IsUpTo p p
up_same p = inr (refl, omega arith)

up_then : (p q r : Position) → IsUpTo p q → IsUpTo q r → IsUpTo p r
up_then p q r (inl h) (inl k) = inl (omega (arith, h, k))
up_then p q r (inl h) (inr k) = inl (omega (arith, h, k.0))
up_then p q r (inr h) (inl k) = inl (omega (arith, h.0, k))
up_then p q r (inr h) (inr k) = inr (h.0 ∙ k.0, omega (arith, h.1, k.1))

-- ---- the count over bytes goes on, and never back

up_line : (p : Position) → IsUpTo p (next_line p)
up_line p = inl (omega arith)

up_unit : (p : Position) → IsUpTo p (next_unit p)
up_unit p = inr (refl, omega arith)

either_up : (p : Position) (test : Bool) (a b : Count) → IsUpTo p a.place → IsUpTo p b.place → IsUpTo p (if test then a else b).place
either_up p true a b h k = h
either_up p false a b h k = k

up_feed : (s : Seen) (p : Position) → IsUpTo p (line_feed s p)
up_feed Return p = up_same p
up_feed Other p = up_line p
up_feed FirstOfSeparator p = up_line p
up_feed SecondOfSeparator p = up_line p
up_feed FirstOfFour p = up_line p

up_inner : (s : Seen) (p : Position) (b : ℕ) → IsUpTo p (inner s p b).place
up_inner FirstOfSeparator p b = up_same p
up_inner SecondOfSeparator p b = either_up p ((b == 168) || (b == 169)) (count_at (next_line p) Other) (count_at p Other) (up_line p) (up_same p)
up_inner FirstOfFour p b = up_unit p
up_inner Other p b = up_same p
up_inner Return p b = up_same p

up_step : (c : Count) (b : ℕ) → IsUpTo c.place (step c b).place
up_step c b =
    let p = c.place in
    let last : Count = count_at (next_unit p) (lead b) in
    let within : Count = if nat_lt b 192 then inner c.seen p b else last in
    let plain : Count = if nat_lt b 128 then count_at (next_unit p) Other else within in
    let return : Count = if b == 13 then count_at (next_line p) Return else plain in
    either_up p (b == 10) (count_at (line_feed c.seen p) Other) return (up_feed c.seen p)
    (either_up p (b == 13) (count_at (next_line p) Return) plain (up_line p)
    (either_up p (nat_lt b 128) (count_at (next_unit p) Other) within (up_unit p)
    (either_up p (nat_lt b 192) (inner c.seen p b) last (up_inner c.seen p b) (up_unit p))))

up_counted : (c : Count) (bs : List ℕ) → IsUpTo c.place (counted_from c bs).place
up_counted c [] = up_same c.place
up_counted c (b ∷ bs) = up_then c.place (step c b).place (counted_from (step c b) bs).place (up_step c b) (up_counted (step c b) bs)

-- ---- the places of ends

-- of a longer part the count is that of the shorter one, gone on with
goes_on : (text : List ℕ) (m n : ℕ) → m ≤ n → counted (take n text) ≡ counted_from (counted (take m text)) (drop m (take n text))
goes_on text m n h =
    ap counted (sym (take-append-drop m (take n text)))
    ∙ (ap (λ first. counted (first ++ drop m (take n text))) (take-take m n text h)
    ∙ counted_append (count_at (record { line = 0; column = 0 }) Other) (take m text) (drop m (take n text)))

-- where a first part ends
ends_at : (text : List ℕ) (n : ℕ) → n ≤ length text → IsUtf8 (take n text) → (counted (take n text)).place ≡ line_column (take n text) n
ends_at text n h u = count_place (take n text) (counted (take n text)) u refl ∙ ap (line_column (take n text)) (omega (arith, length-take n text, h))

up_ends : (text : List ℕ) (m n : ℕ) → m ≤ n → n ≤ length text → IsUtf8 (take m text) → IsUtf8 (take n text) → IsUpTo (line_column (take m text) m) (line_column (take n text) n)
up_ends text m n h k u v =
    subst (λ p. IsUpTo p (line_column (take n text) n)) (ends_at text m (omega (arith, h, k)) u)
    (subst (λ p. IsUpTo (counted (take m text)).place p) (ends_at text n k v)
    (subst (λ (c : Count). IsUpTo (counted (take m text)).place c.place) (sym (goes_on text m n h)) (up_counted (counted (take m text)) (drop m (take n text)))))

-- ---- tokens

module _ (names : List (List ℕ)) (output source : List ℕ) where
  abbrev Ends : Mark → Type 0
  Ends m = IsUtf8 (take m.bytes output)

  -- those behind a mark's
  rise_behind : (m : Mark) (least : ℕ) (ms : List Mark) → m.bytes ≤ least → Ordered least ms (length output) → Ends m → All Ends ms → All (λ (t : Token). IsUpTo (place_of (token_of names output source m)) (place_of t)) (map (token_of names output source) ms)
  rise_behind m least [] h o u us = All-nil (λ (t : Token). IsUpTo (place_of (token_of names output source m)) (place_of t))
  rise_behind m least (k ∷ ms) h o u us =
      All-cons (λ (t : Token). IsUpTo (place_of (token_of names output source m)) (place_of t)) (token_of names output source k) (map (token_of names output source) ms)
      (up_ends output m.bytes k.bytes (omega (arith, h, o.0)) (ordered_ends ms k.bytes (length output) o.1) u (All-head Ends k ms us))
      (rise_behind m k.bytes ms (omega (arith, h, o.0)) o.1 u (All-tail Ends k ms us))

  pub tokens_rise : (least : ℕ) (ms : List Mark) → Ordered least ms (length output) → All Ends ms → Rise (map (token_of names output source) ms)
  tokens_rise least [] o us = λ i j d lt within. absurd (omega (arith, within))
  tokens_rise least (m ∷ ms) o us =
      AllPairs-cons (λ s t. IsUpTo (place_of s) (place_of t)) (token_of names output source m) (map (token_of names output source) ms)
      (rise_behind m m.bytes ms (omega arith) o.1 (All-head Ends m ms us) (All-tail Ends m ms us))
      (tokens_rise m.bytes ms o.1 (All-tail Ends m ms us))

pub positions_rise : (output source : List ℕ) (marks : List Mark) (names : List (List ℕ)) (tokens : List Token) → MapOf output source marks names tokens → Rise tokens
positions_rise output source marks names tokens h = subst Rise (sym h.are) (tokens_rise names output source 0 marks h.ordered h.ends)
