-- Bytes are a flat job where they are as long as their head says and the heap is UTF-8.
use Rattle.std.proofs.Common.{◌≡◌, List, ℕ, Bool, true, false, ◌&&◌, slice_range, Some, None, refl, sym, subst, if◌then◌else◌}
use Rattle.std.specs.Str.{is_utf8, IsUtf8}
use Rattle.std.proofs.lemmas.Str.{IsUtf8-from_is_utf8, is_utf8-from_IsUtf8}
use Rattle.jsgen_flat.specs.Flat.{Sections, word, is_whole, flat_of, sections_in, rows_end, lists_end, texts_end, heap_end, head_end}

pub not_whole : (bytes : List ℕ) → is_whole bytes ≡ false → flat_of bytes ≡ None
unfolding flat_of
not_whole bytes e = rw e refl

chosen : (b c : Bool) (s : Sections) → b ≡ true → c ≡ true → (if b && c then Some s else None) ≡ Some s
chosen b c s e f = rw (e, f) refl

left : (b c : Bool) (s : Sections) → (c ≡ true → ⊥) → (if b && c then Some s else None) ≡ None
left false c s h = refl
left true false s h = refl
left true true s h = absurd (h refl)

whole : (bytes : List ℕ) → is_whole bytes ≡ true → IsUtf8 (slice_range bytes (texts_end bytes) (heap_end bytes)) → flat_of bytes ≡ Some (sections_in bytes)
unfolding flat_of
whole bytes e h = chosen (is_whole bytes) (is_utf8 (slice_range bytes (texts_end bytes) (heap_end bytes))) (sections_in bytes) e (is_utf8-from_IsUtf8 _ h)

cut_between : (bytes : List ℕ) (s t : ℕ) (i j : ℕ) → i ≡ s → j ≡ t → IsUtf8 (slice_range bytes i j) → IsUtf8 (slice_range bytes s t)
cut_between bytes s t i j e f h = subst (λ k. IsUtf8 (slice_range bytes s k)) f (subst (λ k. IsUtf8 (slice_range bytes k j)) e h)

-- the sections that were cut out, by where each ends
pub read_as : (bytes : List ℕ) (count r l t h d : ℕ) (heap : List ℕ) → count ≡ word bytes 2 → r ≡ rows_end bytes → l ≡ lists_end bytes → t ≡ texts_end bytes → h ≡ heap_end bytes → d ≡ head_end bytes → heap ≡ slice_range bytes t h → IsUtf8 (slice_range bytes t h) → is_whole bytes ≡ true → Some (record { row_count = count; rows = slice_range bytes 32 r; lists = slice_range bytes r l; texts = slice_range bytes l t; heap = heap; head = slice_range bytes h d }) ≡ flat_of bytes
read_as bytes count r l t h d heap ec er el et eh ed eheap utf8 e =
    let text = cut_between bytes (texts_end bytes) (heap_end bytes) t h et eh utf8 in
    rw (ec, er, el, eheap, et, eh, ed) (sym (whole bytes e text))

pub no_text : (bytes : List ℕ) → (IsUtf8 (slice_range bytes (texts_end bytes) (heap_end bytes)) → ⊥) → flat_of bytes ≡ None
unfolding flat_of
no_text bytes h = left (is_whole bytes) (is_utf8 (slice_range bytes (texts_end bytes) (heap_end bytes))) (sections_in bytes) (λ e. h (IsUtf8-from_is_utf8 _ e))
