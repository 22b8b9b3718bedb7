-- One more mark.
use Rattle.std.proofs.Common.{◌≡◌, ℕ, true, length, List, [], ◌∷◌, ◌++◌, Option, Some, map, refl, ap, sym, ◌∙◌}
use Rattle.std.specs.Str.{chars}
use Rattle.std.proofs.lemmas.Str.{encodes-chars}
use Rattle.jsgen_syntax.specs.Buffer.{buffer_bytes}
use Rattle.jsgen_syntax.specs.declared.buffer.CodeBuffer.{CodeBuffer}
use Rattle.jsgen_map.specs.Marks as marks
use Rattle.jsgen_map.specs.Marks.{last_from, last_offset, is_last, one_more, unless_last}
use Rattle.jsgen_map.specs.Plain.{mark_plain}
use Rattle.jsgen_map.specs.declared.source_map.Mark.{Mark}
use Rattle.jsgen_model.specs.Marks.{size}
use Rattle.jsgen_model.specs.Lay.{marked_if}
use Rattle.jsgen_model.specs.Layout.{Pen}
use Rattle.jsgen_printer.proofs.Texts.{code_is_text}

pub last_pushed : (l : Option ℕ) (ms : List marks.Mark) (m : marks.Mark) → last_from l (ms ++ (m ∷ [])) ≡ Some m.offset
last_pushed l [] m = refl
last_pushed l (k ∷ ms) m = last_pushed (Some k.offset) ms m

pub pushed : (ms : List Mark) (m : Mark) → map mark_plain (ms ++ (m ∷ [])) ≡ map mark_plain ms ++ (mark_plain m ∷ [])
pushed [] m = refl
pushed (k ∷ ms) m = ap (λ x. mark_plain k ∷ x) (pushed ms m)

-- the code has as many bytes as its characters take
pub code_size : (b : CodeBuffer) → length (buffer_bytes b) ≡ size (chars (buffer_bytes b))
code_size b = ap length (sym (encodes-chars (buffer_bytes b) (code_is_text b)))

-- the pen with one more mark, by what the list remembers of its last one
pub mark_laid : (pen : Pen) (source : Option (List ℕ)) (ms : List marks.Mark) (n offset : ℕ) (called : Option (List ℕ)) (last : Option ℕ) → source ≡ pen.style.source → n ≡ size pen.code → last ≡ last_offset pen.marks → ms ≡ unless_last (is_last last offset) (record { bytes = n; offset = offset; name = called }) pen.marks → record pen { style = record pen.style { source = source }; marks = ms } ≡ marked_if true offset called pen
mark_laid pen source ms n offset called last e f g h =
    ap (λ x. record pen { style = record pen.style { source = x }; marks = ms }) e
    ∙ (ap (λ x. record pen { marks = x }) h
    ∙ (ap (λ l. record pen { marks = unless_last (is_last l offset) (record { bytes = n; offset = offset; name = called }) pen.marks }) g
    ∙ ap (λ k. record pen { marks = one_more (record { bytes = k; offset = offset; name = called }) pen.marks }) f))
