-- Which spans have marks, and what becomes of a step where there is none.
use Rattle.std.proofs.Common.{◌≡◌, ℕ, zero, suc, ◌<◌, ◌≤◌, ◌⊎◌, inl, inr, Bool, true, false, cond, List, Option, Some, None, is_some, length, slice_index, ◌-◌, codes, refl, ap, sym, ◌∙◌, subst, arith}
use Rattle.std.proofs.lemmas.Bool.{cases_lt, lt-ltb, le-ltb, le-leb, lt-leb}
use Rattle.std.specs.Fmt.{is_char_start}
use Rattle.std.specs.Fmt.Cut.{floor_char_boundary}
use Rattle.std.specs.List.{slice_get}
use Rattle.std.specs.Option.{option_map_or}
use Rattle.std.specs.Str.{chars, IsCharBoundary, IsUtf8}
use Rattle.jsgen_syntax.proofs.Last.{last_passes}
use Rattle.jsgen_syntax.specs.declared.span.Span.{Span}
use Rattle.jsgen_model.specs.Items.{mark}
use Rattle.jsgen_model.specs.Lay.{span_mark}
use Rattle.jsgen_model.specs.Layout.{Pen, Ending, written, written_if}
use Rattle.jsgen_model.specs.Marks.{has_start_mark, has_end_mark, has_link_mark, closes_link, ends_in_link}
use Rattle.jsgen_printer.specs.Printer.{pen_of}
use Rattle.jsgen_printer.specs.Steps.{Ends, Goes, Lays}
use Rattle.jsgen_printer.specs.declared.printer.Printer.{Printer}
use Rattle.jsgen_printer.proofs.Patterns.{map_or, no_sign}
use Rattle.jsgen_printer.proofs.Prefixes.{prefix_append, whole_prefix}
use Rattle.jsgen_printer.proofs.Sequence.{goes_as, goes_then, items_go}
use Rattle.jsgen_printer.proofs.Texts.{ascii_chars}

-- a mark stands only where a map is wanted
pub mapped_start : (source : Option (List ℕ)) (span : Span) → has_start_mark source span ≡ true → is_some source ≡ true
mapped_start None span h = h
mapped_start (Some s) span h = refl

pub mapped_end : (source : Option (List ℕ)) (span : Span) → has_end_mark source span ≡ true → is_some source ≡ true
mapped_end None span h = h
mapped_end (Some s) span h = refl

pub mapped_link : (source : Option (List ℕ)) (span : Span) (code : List ℕ) → has_link_mark source span code ≡ true → is_some source ≡ true
mapped_link None span code h = h
mapped_link (Some s) span code h = refl

-- no step, where the pen is to stay as it is
pub no_step : (p : Printer) (f : Pen → Pen) → f (pen_of p) ≡ pen_of p → Goes p p f
no_step p f e = record { stays = λ h. (h, refl); goes = λ going. subst (λ failed. Ends failed (pen_of p) (pen_of p) (f (pen_of p))) (sym going) (sym e) }

-- a space where the test holds, a mark, and a text
pub behind_mark : {a b c d : Printer} (span : Span) (test : Bool) (text : List ℕ) (e : Ending) → Goes a b (written_if test (chars (codes " "))) → Lays b c (mark span) → Goes c d (written text e) → Goes a d (λ pen. written text e (span_mark span (written_if test (codes " ") pen)))
behind_mark {a} {b} {c} {d} span test text e h k l =
    goes_as (λ pen. written text e (span_mark span (written_if test (codes " ") pen)))
    (ap (λ t. written text e (span_mark span (written_if test t (pen_of a)))) (ascii_chars (codes " ") refl))
    (goes_then (λ p. prefix_append p.code _) (λ p. prefix_append p.code text) (goes_then (λ p. prefix_append p.code _) (λ p. whole_prefix p.code) h (items_go k)) l)

-- ---- the last byte

none_past_ascii : (c : ℕ) → 128 ≤ c → closes_link c ≡ false
none_past_ascii c h = rw (no_sign c 41 h (omega arith), no_sign c 93 h (omega arith)) refl

-- the last byte tells whether the characters end in a link's object
pub link_by_byte : (bs : List ℕ) → IsUtf8 bs → option_map_or closes_link (slice_get bs (length bs - 1)) false ≡ ends_in_link (chars bs)
link_by_byte bs u = map_or closes_link _ _ (last_passes closes_link false none_past_ascii bs u)

-- ---- the last character

-- a character begins at a byte where the definition says so
begins : (b : ℕ) → (128 ≤ b → 192 ≤ b) → is_char_start b ≡ true
begins b h = by (cases_lt b 128)
  where
    by : (b < 128) ⊎ (128 ≤ b) → is_char_start b ≡ true
    by (inl low) = rw (lt-ltb b 128 low) refl
    by (inr high) = rw (le-ltb b 128 high, le-leb 192 b (h high)) refl

goes_on : (b : ℕ) → ¬ (128 ≤ b → 192 ≤ b) → is_char_start b ≡ false
goes_on b h = by (cases_lt b 128) (cases_lt b 192)
  where
    by : (b < 128) ⊎ (128 ≤ b) → (b < 192) ⊎ (192 ≤ b) → is_char_start b ≡ false
    by (inl low) k = absurd (h (λ high. omega arith))
    by (inr high) (inl mid) = rw (le-ltb b 128 high, lt-leb 192 b mid) refl
    by (inr high) (inr top) = absurd (h (λ l. top))

-- the last place where a character begins, up to an offset in the text
pub begins_at : (text : List ℕ) (i kept : ℕ) → i ≤ length text - 1 → kept ≤ i → IsCharBoundary text kept → ((j : ℕ) → kept < j → j ≤ i → ¬ (IsCharBoundary text j)) → floor_char_boundary text i ≡ kept
unfolding floor_char_boundary
begins_at text zero kept within bound is last = omega arith
begins_at text (suc i) kept within bound is last = by (cases_lt kept (suc i)) (λ b. begins_at text i kept (omega arith) b is (λ j l m. last j l (omega arith)))
  where
    step : Bool → ℕ
    step b = cond b (suc i) (floor_char_boundary text i)

    by : (kept < suc i) ⊎ (suc i ≤ kept) → (kept ≤ i → floor_char_boundary text i ≡ kept) → floor_char_boundary text (suc i) ≡ kept
    by (inl below) before =
        ap step (goes_on (slice_index text (suc i)) (λ h. last (suc i) below (omega arith) (omega arith, λ l. h))) ∙ before (omega arith)
    by (inr above) before =
        let same : kept ≡ suc i = omega arith in
        ap step (begins (slice_index text (suc i)) ((subst (IsCharBoundary text) same is).1 (omega arith))) ∙ sym same
