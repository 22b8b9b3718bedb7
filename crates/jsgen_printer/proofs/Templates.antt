-- A piece between what opens and what closes its part.
use Rattle.std.proofs.Common.{◌≡◌, ℕ, List, refl, ap, ◌∙◌}
use Rattle.std.specs.Str.{chars}
use Rattle.jsgen_model.specs.Items.{TemplatePart, whole_part, head_part, middle_part, tail_part}
use Rattle.jsgen_model.specs.Lay.{part_opening, part_closing}
use Rattle.jsgen_printer.proofs.Texts.{ascii_chars}

-- what stands before a piece and behind it is ASCII
opening_characters : (part : TemplatePart) → chars (part_opening part) ≡ part_opening part
opening_characters whole_part = ascii_chars (part_opening whole_part) refl
opening_characters head_part = ascii_chars (part_opening head_part) refl
opening_characters middle_part = ascii_chars (part_opening middle_part) refl
opening_characters tail_part = ascii_chars (part_opening tail_part) refl

closing_characters : (part : TemplatePart) → chars (part_closing part) ≡ part_closing part
closing_characters whole_part = ascii_chars (part_closing whole_part) refl
closing_characters head_part = ascii_chars (part_closing head_part) refl
closing_characters middle_part = ascii_chars (part_closing middle_part) refl
closing_characters tail_part = ascii_chars (part_closing tail_part) refl

pub opens_so : (part : TemplatePart) (text : List ℕ) → text ≡ part_opening part → chars text ≡ part_opening part
opens_so part text e = ap chars e ∙ opening_characters part

pub closes_so : (part : TemplatePart) (text : List ℕ) → text ≡ part_closing part → chars text ≡ part_closing part
closes_so part text e = ap chars e ∙ closing_characters part
