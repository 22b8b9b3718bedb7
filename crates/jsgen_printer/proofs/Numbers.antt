-- A big integer is its digits, and the suffix behind them.
use Rattle.std.proofs.Common.{◌≡◌, ℕ, List, ◌++◌, codes, false, refl, ap, ◌∙◌, append_assoc}
use Rattle.std.specs.Str.{chars}
use Rattle.jsgen_model.specs.Items.{number}
use Rattle.jsgen_model.specs.Lay.{lay}
use Rattle.jsgen_model.specs.Layout.{Pen, written, other_end, nowhere, space_if, is_apart}
use Rattle.jsgen_model.specs.Spell.{big_text}
use Rattle.jsgen_printer.proofs.Texts.{ascii_chars}

in_order : (a b d e : List ℕ) → (a ++ (b ++ d)) ++ e ≡ a ++ (b ++ (d ++ e))
in_order a b d e = append_assoc a (b ++ d) e ∙ ap (λ x. a ++ x) (append_assoc b d e)

pub suffix_behind : (digits : List ℕ) (pen : Pen) → written (chars (codes "n")) other_end (lay (number false digits) pen) ≡ lay (number false (big_text digits)) pen
suffix_behind digits pen = ap (λ x. written x other_end (lay (number false digits) pen)) (ascii_chars (codes "n") refl) ∙ ap (λ code. record pen { code = code; ending = other_end; start = nowhere }) (in_order pen.code (space_if (is_apart pen.ending pen.code)) digits (codes "n"))
