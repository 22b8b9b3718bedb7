-- A map of a longer output, and with one mark more.
use Rattle.std.proofs.Common.{◌≡◌, ℕ, ◌+◌, ◌-◌, ◌≤◌, true, false, ◌||◌, if◌then◌else◌, ◌⊎◌, inl, inr, List, [], ◌∷◌, ◌++◌, Option, Some, None, length, take, drop, map, refl, sym, ap, ap₂, ◌∙◌, subst, arith, length-take}
use Rattle.std.specs.List.{All}
use Rattle.std.specs.Str.{bytes_eq, chars, IsUtf8}
use Rattle.std.proofs.lemmas.Bool.{or_left, or_right}
use Rattle.std.proofs.lemmas.List.{map_push, take-take, take_all, drop-take, take-append-drop}
use Rattle.std.proofs.lemmas.List.Elements.{All-nil, All-cons, All-head, All-tail, All-push}
use Rattle.std.proofs.lemmas.Str.{encodes-chars}
use Rattle.jsgen_map.specs.declared.count.Count.{Count}
use Rattle.jsgen_map.specs.declared.position.Position.{Position}
use Rattle.jsgen_map.specs.declared.source_map.Token.{Token}
use Rattle.jsgen_map.specs.Count.{counted, counted_from}
use Rattle.jsgen_map.specs.LineColumn.{line_column}
use Rattle.jsgen_map.specs.Marks.{Mark, MapOf, Ordered, OffsetsDiffer, is_among, is_last, last_from, names_from, number_of, one_more, token_at, token_of, with_name}
use Rattle.jsgen_map.proofs.Counts.{counted_append, counted_is}
use Rattle.jsgen_map.proofs.NameList.{is_or_not, number_kept, same_bytes}

-- ---- the order of marks

pub ordered_up : (least : ℕ) (ms : List Mark) (most more : ℕ) → most ≤ more → Ordered least ms most → Ordered least ms more
ordered_up least [] most more l o = omega arith
ordered_up least (m ∷ ms) most more l o = (o.0, ordered_up m.bytes ms most more l o.1)

ordered_push : (least : ℕ) (ms : List Mark) (m : Mark) (more : ℕ) → m.bytes ≤ more → Ordered least ms m.bytes → Ordered least (ms ++ m ∷ []) more
ordered_push least [] m more l o = (o, l)
ordered_push least (k ∷ ms) m more l o = (o.0, ordered_push k.bytes ms m more l o.1)

pub ordered_ends : (least : ℕ) (ms : List Mark) (most : ℕ) → Ordered least ms most → least ≤ most
ordered_ends least [] most o = o
ordered_ends least (m ∷ ms) most o = let k = ordered_ends m.bytes ms most o.1 in let h = o.0 in omega arith

each_within : (least : ℕ) (ms : List Mark) (most : ℕ) → Ordered least ms most → All (λ (m : Mark). m.bytes ≤ most) ms
each_within least [] most o = All-nil (λ (m : Mark). m.bytes ≤ most)
each_within least (m ∷ ms) most o = All-cons (λ (m : Mark). m.bytes ≤ most) m ms (ordered_ends m.bytes ms most o.1) (each_within m.bytes ms most o.1)

parted_push : (last : Option ℕ) (ms : List Mark) (m : Mark) → is_last (last_from last ms) m.offset ≡ false → OffsetsDiffer last ms → OffsetsDiffer last (ms ++ m ∷ [])
parted_push last [] m h p = (h, tt)
parted_push last (k ∷ ms) m h p = (p.0, parted_push (Some k.offset) ms m h p.1)

last_push : (last : Option ℕ) (ms : List Mark) (m : Mark) → last_from last (ms ++ m ∷ []) ≡ Some m.offset
last_push last [] m = refl
last_push last (k ∷ ms) m = last_push (Some k.offset) ms m

-- ---- the names of marks

names_push : (names : List (List ℕ)) (ms : List Mark) (m : Mark) → names_from names (ms ++ m ∷ []) ≡ with_name (names_from names ms) m.name
names_push names [] m = refl
names_push names (k ∷ ms) m = names_push (with_name names k.name) ms m

abbrev pub IsNamed : List (List ℕ) → Option (List ℕ) → Type 0
IsNamed names None = Unit {0}
IsNamed names (Some w) = is_among names w ≡ true

among_left : (vs more : List (List ℕ)) (w : List ℕ) → is_among vs w ≡ true → is_among (vs ++ more) w ≡ true
among_left [] more w h = absurd (cc)
among_left (v ∷ vs) more w h = by (is_or_not (bytes_eq v w)) (among_left vs more w)
  where
    by : (bytes_eq v w ≡ true) ⊎ (bytes_eq v w ≡ false) → (is_among vs w ≡ true → is_among (vs ++ more) w ≡ true) → bytes_eq v w || is_among (vs ++ more) w ≡ true
    by (inl e) later = or_left (bytes_eq v w) (is_among (vs ++ more) w) e
    by (inr e) later = or_right (bytes_eq v w) (is_among (vs ++ more) w) (later (sym (ap (λ b. b || is_among vs w) e) ∙ h))

among_last : (vs : List (List ℕ)) (w : List ℕ) → is_among (vs ++ w ∷ []) w ≡ true
among_last [] w = or_left (bytes_eq w w) false (same_bytes w)
among_last (v ∷ vs) w = or_right (bytes_eq v w) (is_among (vs ++ w ∷ []) w) (among_last vs w)

-- the names grow by more names behind
pub record GrowsTo (old new : List (List ℕ)) : Type 0 where
  pub more : List (List ℕ)
  pub is : new ≡ old ++ more

grows_not : (names : List (List ℕ)) → GrowsTo names names
grows_not names = record { more = []; is = empty names }
  where
    empty : (names : List (List ℕ)) → names ≡ names ++ []
    empty [] = refl
    empty (v ∷ vs) = ap (λ vs. v ∷ vs) (empty vs)

with_name_grows : (names : List (List ℕ)) (w : Option (List ℕ)) → GrowsTo names (with_name names w)
with_name_grows names None = grows_not names
with_name_grows names (Some w) = by (is_or_not (is_among names w))
  where
    by : (is_among names w ≡ true) ⊎ (is_among names w ≡ false) → GrowsTo names (if is_among names w then names else names ++ w ∷ [])
    by (inl e) = let g = grows_not names in record { more = g.more; is = rw e g.is }
    by (inr e) = record { more = w ∷ []; is = rw e refl }

with_name_has : (names : List (List ℕ)) (w : Option (List ℕ)) → IsNamed (with_name names w) w
with_name_has names None = tt
with_name_has names (Some w) = by (is_or_not (is_among names w))
  where
    by : (is_among names w ≡ true) ⊎ (is_among names w ≡ false) → is_among (if is_among names w then names else names ++ w ∷ []) w ≡ true
    by (inl e) = ap (λ b. is_among (if b then names else names ++ w ∷ []) w) e ∙ e
    by (inr e) = ap (λ b. is_among (if b then names else names ++ w ∷ []) w) e ∙ among_last names w

named_grows : (old new : List (List ℕ)) (w : Option (List ℕ)) → GrowsTo old new → IsNamed old w → IsNamed new w
named_grows old new None g h = tt
named_grows old new (Some w) g h = ap (λ vs. is_among vs w) g.is ∙ among_left old g.more w h

number_grows : (old new : List (List ℕ)) (w : Option (List ℕ)) → GrowsTo old new → IsNamed old w → number_of old w ≡ number_of new w
number_grows old new None g h = refl
number_grows old new (Some w) g h = sym (ap (λ vs. number_of vs (Some w)) g.is ∙ number_kept 0 old g.more w h)

names_grow : (names : List (List ℕ)) (ms : List Mark) (w : Option (List ℕ)) → IsNamed names w → IsNamed (names_from names ms) w
names_grow names [] w h = h
names_grow names (m ∷ ms) w h = names_grow (with_name names m.name) ms w (named_grows names (with_name names m.name) w (with_name_grows names m.name) h)

each_named : (names : List (List ℕ)) (ms : List Mark) → All (λ (m : Mark). IsNamed (names_from names ms) m.name) ms
each_named names [] = All-nil (λ (m : Mark). IsNamed (names_from names []) m.name)
each_named names (m ∷ ms) =
    All-cons (λ (k : Mark). IsNamed (names_from names (m ∷ ms)) k.name) m ms
    (names_grow (with_name names m.name) ms m.name (with_name_has names m.name))
    (each_named (with_name names m.name) ms)

-- ---- the tokens of marks

-- the output begins with an earlier one
pub record Begins (output earlier : List ℕ) : Type 0 where
  pub is : take (length earlier) output ≡ earlier
  pub size : length earlier ≤ length output

pub begins : (output earlier : List ℕ) → take (length earlier) output ≡ earlier → Begins output earlier
begins output earlier e = record { is = e; size = let k = ap length e in let t = length-take (length earlier) output in omega arith }

pub same_front : (output earlier : List ℕ) (n : ℕ) → Begins output earlier → n ≤ length earlier → take n output ≡ take n earlier
same_front output earlier n b l = sym (take-take n (length earlier) output l) ∙ ap (take n) b.is

tokens_same : (old new : List (List ℕ)) (earlier output source : List ℕ) (ms : List Mark) → GrowsTo old new → Begins output earlier → All (λ (m : Mark). m.bytes ≤ length earlier) ms → All (λ (m : Mark). IsNamed old m.name) ms → map (token_of old earlier source) ms ≡ map (token_of new output source) ms
tokens_same old new earlier output source [] g b w n = refl
tokens_same old new earlier output source (m ∷ ms) g b w n =
    let here = All-head (λ (m : Mark). m.bytes ≤ length earlier) m ms w in
    let named = All-head (λ (m : Mark). IsNamed old m.name) m ms n in
    ap₂ (λ t ts. t ∷ ts)
    (ap₂ (λ text number. token_at (line_column text m.bytes) (line_column source m.offset) number) (sym (same_front output earlier m.bytes b here)) (number_grows old new m.name g named))
    (tokens_same old new earlier output source ms g b (All-tail (λ (m : Mark). m.bytes ≤ length earlier) m ms w) (All-tail (λ (m : Mark). IsNamed old m.name) m ms n))

ends_same : (earlier output : List ℕ) (ms : List Mark) → Begins output earlier → All (λ (m : Mark). m.bytes ≤ length earlier) ms → All (λ (m : Mark). IsUtf8 (take m.bytes earlier)) ms → All (λ (m : Mark). IsUtf8 (take m.bytes output)) ms
ends_same earlier output [] b w u = All-nil (λ (m : Mark). IsUtf8 (take m.bytes output))
ends_same earlier output (m ∷ ms) b w u =
    All-cons (λ (m : Mark). IsUtf8 (take m.bytes output)) m ms
    (subst IsUtf8 (sym (same_front output earlier m.bytes b (All-head (λ (m : Mark). m.bytes ≤ length earlier) m ms w))) (All-head (λ (m : Mark). IsUtf8 (take m.bytes earlier)) m ms u))
    (ends_same earlier output ms b (All-tail (λ (m : Mark). m.bytes ≤ length earlier) m ms w) (All-tail (λ (m : Mark). IsUtf8 (take m.bytes earlier)) m ms u))

-- ---- maps

all_named : (earlier source : List ℕ) (ms : List Mark) (names : List (List ℕ)) (tokens : List Token) → MapOf earlier source ms names tokens → All (λ (m : Mark). IsNamed names m.name) ms
all_named earlier source ms names tokens h = subst (λ vs. All (λ (m : Mark). IsNamed vs m.name) ms) (sym h.named) (each_named [] ms)

-- of a longer output
pub map_on : (earlier output source : List ℕ) (ms : List Mark) (names : List (List ℕ)) (tokens : List Token) → MapOf earlier source ms names tokens → Begins output earlier → MapOf output source ms names tokens
map_on earlier output source ms names tokens h b =
    let w = each_within 0 ms (length earlier) h.ordered in
    record {
      ordered = ordered_up 0 ms (length earlier) (length output) b.size h.ordered;
      ends = ends_same earlier output ms b w h.ends;
      parted = h.parted;
      named = h.named;
      are = h.are ∙ tokens_same names names earlier output source ms (grows_not names) b w (all_named earlier source ms names tokens h);
    }

-- with a mark at the output's end
pub map_more : (earlier output source : List ℕ) (ms : List Mark) (names new : List (List ℕ)) (tokens more : List Token) (m : Mark) (place : Position) (number : Option ℕ) → MapOf earlier source ms names tokens → Begins output earlier → IsUtf8 output → m.bytes ≡ length output → is_last (last_from None ms) m.offset ≡ false → new ≡ with_name names m.name → number_of new m.name ≡ number → place ≡ line_column output (length output) → more ≡ tokens ++ token_at place (line_column source m.offset) number ∷ [] → MapOf output source (ms ++ m ∷ []) new more
map_more earlier output source ms names new tokens more m place number h b u s o n i p t =
    let w = each_within 0 ms (length earlier) h.ordered in
    let l : m.bytes ≤ length output = omega arith in
    let k : length output ≤ m.bytes = omega arith in
    let whole : take m.bytes output ≡ output = take_all m.bytes output k in
    let j : length earlier ≤ m.bytes = let z = b.size in omega arith in
    let token : token_at place (line_column source m.offset) number ≡ token_of new output source m = ap₂ (λ q v. token_at q (line_column source m.offset) v) (p ∙ ap₂ line_column (sym whole) (sym s)) (sym i) in
    let grows = subst (GrowsTo names) (sym n) (with_name_grows names m.name) in
    record {
      ordered = ordered_push 0 ms m (length output) l (ordered_up 0 ms (length earlier) m.bytes j h.ordered);
      ends = All-push (λ (m : Mark). IsUtf8 (take m.bytes output)) ms m (ends_same earlier output ms b w h.ends) (subst IsUtf8 (sym whole) u);
      parted = parted_push None ms m o h.parted;
      named = n ∙ (ap (λ vs. with_name vs m.name) h.named ∙ sym (names_push [] ms m));
      are = t ∙ (ap₂ (λ ts k. ts ++ k ∷ []) (h.are ∙ tokens_same names new earlier output source ms grows b w (all_named earlier source ms names tokens h)) token ∙ sym (map_push (token_of new output source) ms m));
    }

pub one_more_not : (m : Mark) (ms : List Mark) → is_last (last_from None ms) m.offset ≡ true → one_more m ms ≡ ms
one_more_not m ms h = rw h refl

pub one_more_does : (m : Mark) (ms : List Mark) → is_last (last_from None ms) m.offset ≡ false → one_more m ms ≡ ms ++ m ∷ []
one_more_does m ms h = rw h refl

pub last_of_more : (ms : List Mark) (m : Mark) → Some m.offset ≡ last_from None (ms ++ m ∷ [])
last_of_more ms m = sym (last_push None ms m)

-- ---- the count

-- the bytes of the output behind those that are counted
pub count_all : (code : List ℕ) (old bytes : ℕ) → old ≤ bytes → (count after : Count) → count ≡ counted (take old (take bytes code)) → after ≡ counted_from count (take (bytes - old) (drop old code)) → after ≡ counted (take bytes code)
count_all code old bytes l count after e f =
    let i : old + (bytes - old) ≡ bytes = omega arith in
    let start = counted [] in
    f ∙ (ap (λ k. counted_from k (take (bytes - old) (drop old code))) e
    ∙ (sym (counted_append start (take old (take bytes code)) (take (bytes - old) (drop old code)))
    ∙ ap (counted_from start) (ap (λ xs. take old (take bytes code) ++ xs) (sym (drop-take old (bytes - old) code) ∙ ap (λ n. drop old (take n code)) i) ∙ take-append-drop old (take bytes code))))

pub count_place : (output : List ℕ) (count : Count) → IsUtf8 output → count ≡ counted output → count.place ≡ line_column output (length output)
count_place output count u e =
    let whole = encodes-chars output u in
    ap (λ (c : Count). c.place) e ∙ (ap (λ bs. (counted bs).place) (sym whole) ∙ (counted_is (chars output) ∙ ap (λ bs. line_column output (length bs)) whole))
