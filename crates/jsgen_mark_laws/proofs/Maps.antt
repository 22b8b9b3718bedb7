-- Marks that items leave are what a source map is made of.
use Rattle.std.proofs.Common.{◌≡◌, ℕ, ◌≤◌, List, [], ◌∷◌, ◌++◌, true, Option, Some, length, take, refl, ap, sym, subst, ◌∙◌, arith}
use Rattle.std.specs.List.{All}
use Rattle.std.specs.Str.{encode_utf8_all, IsUtf8}
use Rattle.std.proofs.lemmas.Bool.{and_parts}
use Rattle.std.proofs.lemmas.List.{take-append-le, take_all}
use Rattle.std.proofs.lemmas.List.Elements.{All-nil, All-cons}
use Rattle.std.proofs.lemmas.Str.{encodes-append, encodes_same}
use lib.Utf8.{scalar, scalars}
use Rattle.jsgen_map.specs.Marks.{Mark, AreMarks}
use Rattle.jsgen_model.specs.Marks.{size}
use Rattle.jsgen_model.specs.Layout.{Pen}
use Rattle.jsgen_mark_laws.specs.Law.{ArePlaced, IsPlaced, Right}

first_scalars : (a b : List ℕ) → scalars (a ++ b) ≡ true → scalars a ≡ true
first_scalars [] b h = refl
first_scalars (c ∷ cs) b h =
    let both = and_parts (scalar c) (scalars (cs ++ b)) h in
    rw (both.0, first_scalars cs b both.1) refl

-- a first part of a code, in bytes
first_bytes : (a b : List ℕ) → take (size a) (encode_utf8_all (a ++ b)) ≡ encode_utf8_all a
first_bytes a b = ap (take (size a)) (encodes-append a b) ∙ (take-append-le (size a) (encode_utf8_all a) (encode_utf8_all b) (omega arith) ∙ take_all (size a) (encode_utf8_all a) (omega arith))

ends_there : (code : List ℕ) (source : Option (List ℕ)) (m : Mark) → scalars code ≡ true → IsPlaced code source m → IsUtf8 (take m.bytes (encode_utf8_all code))
ends_there code source m u h = (
  h.before,
  (
    first_scalars h.before h.rest (ap scalars (sym h.is) ∙ u),
    sym (ap (λ n. take n (encode_utf8_all code)) h.bytes ∙ (ap (λ cs. take (size h.before) (encode_utf8_all cs)) h.is ∙ first_bytes h.before h.rest)),
  ),
)

all_end : (code : List ℕ) (source : Option (List ℕ)) (ms : List Mark) → scalars code ≡ true → ArePlaced code source ms → All (λ (m : Mark). IsUtf8 (take m.bytes (encode_utf8_all code))) ms
all_end code source [] u h = All-nil (λ (m : Mark). IsUtf8 (take m.bytes (encode_utf8_all code)))
all_end code source (m ∷ ms) u h = All-cons (λ (m : Mark). IsUtf8 (take m.bytes (encode_utf8_all code))) m ms (ends_there code source m u h.0) (all_end code source ms u h.1)

all_lead : (code source : List ℕ) (ms : List Mark) → ArePlaced code (Some source) ms → All (λ (m : Mark). m.offset ≤ length source) ms
all_lead code source [] h = All-nil (λ (m : Mark). m.offset ≤ length source)
all_lead code source (m ∷ ms) h = All-cons (λ (m : Mark). m.offset ≤ length source) m ms h.0.leads (all_lead code source ms h.1)

-- where a text in UTF-8 has the bytes of the code, they are marks of it
pub are_marks : (q : Pen) (source bytes : List ℕ) → q.style.source ≡ Some source → Right q → bytes ≡ encode_utf8_all q.code → IsUtf8 bytes → AreMarks bytes source q.marks
are_marks q source bytes e right is u =
    let same = encodes_same u.0 q.code (u.1.1 ∙ is) in
    let all : scalars q.code ≡ true = ap scalars (sym same) ∙ u.1.0 in
    let placed = subst (λ s. ArePlaced q.code s q.marks) e right.placed in
    subst (λ bs. AreMarks bs source q.marks) (sym is) (record {
      ordered = right.ordered;
      ends = all_end q.code (Some source) q.marks all placed;
      parted = right.parted;
      offsets = all_lead q.code source q.marks placed;
    })
