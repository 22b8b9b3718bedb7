-- A builder that takes the marks of a list.
use Rattle.std.proofs.Common.{◌≡◌, ℕ, ◌+◌, ◌<◌, ◌≤◌, List, [], ◌∷◌, ◌++◌, None, length, take, drop, map, get_or, sym, ap, ◌∙◌, subst, arith, length-take}
use Rattle.std.specs.Str.{IsUtf8}
use Rattle.std.proofs.lemmas.List.{take-take, length-take-le, take_more, drop_more, take_all, get_or-map, get_or_default, length-map}
use Rattle.jsgen_map.specs.declared.builder.SourcemapBuilder.{SourcemapBuilder}
use Rattle.jsgen_map.specs.declared.source_map.Mark as declared
use Rattle.jsgen_map.specs.Builder.{counted_bytes, AddsMarks, StandsFor}
use Rattle.jsgen_map.specs.Marks.{Mark, AreMarks, Ordered, OffsetsDiffer, last_from, one_more}
use Rattle.jsgen_map.specs.Plain.{mark_plain}
use Rattle.jsgen_map.proofs.MarkLists.{last_of_more, one_more_does, ordered_ends}
use Rattle.jsgen_map.proofs.Stands.{stands_on}

-- the first i marks were taken, the last of them behind so many bytes
pub record Taken (code : List ℕ) (ms : List Mark) (i : ℕ) (b : SourcemapBuilder) : Type 0 where
  pub done : ℕ
  pub stands : StandsFor b (take done code) (take i ms)
  pub ordered : Ordered done (drop i ms) (length code)
  pub parted : OffsetsDiffer (last_from None (take i ms)) (drop i ms)

pub taken_none : (code source : List ℕ) (ms : List Mark) (b : SourcemapBuilder) → AreMarks code source ms → StandsFor b [] [] → Taken code ms 0 b
taken_none code source ms b are stands = record { done = 0; stands = stands; ordered = are.ordered; parted = are.parted }

-- what the next mark asks for
pub record Next (code : List ℕ) (m : Mark) (b : SourcemapBuilder) : Type 0 where
  pub within : m.bytes ≤ length code
  pub grown : counted_bytes b ≤ m.bytes

pub next : (code : List ℕ) (ms : List Mark) (i : ℕ) (m : Mark) (b : SourcemapBuilder) → Taken code ms i b → drop i ms ≡ m ∷ drop (i + 1) ms → Next code m b
next code ms i m b taken e =
    let o = subst (λ l. Ordered taken.done l (length code)) e taken.ordered in
    let l = ordered_ends m.bytes (drop (i + 1) ms) (length code) o.1 in
    let w = taken.stands.within in
    let s = length-take taken.done code in
    let d = o.0 in
    record { within = l; grown = omega arith }

pub taken_more : (code : List ℕ) (ms : List Mark) (i : ℕ) (m : Mark) (old new : SourcemapBuilder) → Taken code ms i old → drop i ms ≡ m ∷ drop (i + 1) ms → take (i + 1) ms ≡ take i ms ++ m ∷ [] → AddsMarks old new (take m.bytes code) (one_more m) → Taken code ms (i + 1) new
taken_more code ms i m old new taken e f adds =
    let o = subst (λ l. Ordered taken.done l (length code)) e taken.ordered in
    let p = subst (OffsetsDiffer (last_from None (take i ms))) e taken.parted in
    let l = ordered_ends m.bytes (drop (i + 1) ms) (length code) o.1 in
    let d = o.0 in
    let h : taken.done ≤ length code = omega arith in
    let s : length (take taken.done code) ≡ taken.done = length-take-le taken.done code h in
    let front : take (length (take taken.done code)) (take m.bytes code) ≡ take taken.done code = ap (λ n. take n (take m.bytes code)) s ∙ take-take taken.done m.bytes code d in
    record {
      done = m.bytes;
      stands = subst (StandsFor new (take m.bytes code)) (one_more_does m (take i ms) p.0 ∙ sym f) (adds (take taken.done code) (take i ms) taken.stands front);
      ordered = o.1;
      parted = subst (λ last. OffsetsDiffer last (drop (i + 1) ms)) (last_of_more (take i ms) m ∙ ap (last_from None) (sym f)) p.1;
    }

pub taken_all : (code : List ℕ) (ms : List Mark) (i : ℕ) (b : SourcemapBuilder) → Taken code ms i b → length ms ≤ i → StandsFor b code ms
taken_all code ms i b taken l =
    let h = ordered_ends taken.done (drop i ms) (length code) taken.ordered in
    let s : length (take taken.done code) ≡ taken.done = length-take-le taken.done code h in
    subst (StandsFor b code) (take_all i ms l) (stands_on b (take taken.done code) code (take i ms) taken.stands (ap (λ n. take n code) s))

-- the mark at a place of the list
pub record Here (ms : List Mark) (i : ℕ) (m : Mark) : Type 0 where
  pub rest : drop i ms ≡ m ∷ drop (i + 1) ms
  pub front : take (i + 1) ms ≡ take i ms ++ m ∷ []
  pub is : get_or ms i m ≡ m
  pub within : i < length ms

pub here : (marks : List declared.Mark) (i : ℕ) (d : declared.Mark) → i < length marks → Here (map mark_plain marks) i (mark_plain (get_or marks i d))
here marks i d l =
    let ms = map mark_plain marks in
    let s = length-map marks mark_plain in
    let w : i < length ms = omega arith in
    let e = get_or-map mark_plain marks i d (mark_plain d) l in
    record {
      rest = drop_more ms i (mark_plain d) w ∙ ap (λ m. m ∷ drop (i + 1) ms) e;
      front = take_more ms i (mark_plain d) w ∙ ap (λ m. take i ms ++ m ∷ []) e;
      is = get_or_default ms i (mark_plain (get_or marks i d)) (mark_plain d) w ∙ e;
      within = w;
    }

pub utf8_here : (code source : List ℕ) (ms : List Mark) (i : ℕ) (m : Mark) → AreMarks code source ms → Here ms i m → IsUtf8 (take m.bytes code)
utf8_here code source ms i m are h = subst (λ (k : Mark). IsUtf8 (take k.bytes code)) h.is (are.ends i m h.within)

pub offset_here : (code source : List ℕ) (ms : List Mark) (i : ℕ) (m : Mark) → AreMarks code source ms → Here ms i m → m.offset ≤ length source
offset_here code source ms i m are h = subst (λ (k : Mark). k.offset ≤ length source) h.is (are.offsets i m h.within)
