use Rattle.std.proofs.Common.{◌++◌, codes, false, refl, ap, ◌∙◌}
use Rattle.std.specs.Str.{chars}
use Rattle.jsgen_model.specs.Items.{marked_number}
use Rattle.jsgen_model.specs.Lay.{span_mark}
use Rattle.jsgen_model.specs.Layout.{written, written_if, other_end}
use Rattle.jsgen_model.specs.Spell.{big_text}
use Rattle.jsgen_printer.specs.Printer.{pen_of}
use Rattle.jsgen_printer.proofs.Marked.{behind_mark}
use Rattle.jsgen_printer.proofs.Sequence.{goes_laid, in_a_row}
use Rattle.jsgen_printer.proofs.Texts.{ascii_chars}
use Rattle.jsgen_printer.proofs.printer.Printer.print_marked_big_integer.Goals as goal

pub returns : goal.returns
returns c =
    let pen = pen_of c.args.self.now in
    let span = c.args.span in
    let digits = chars c.args.digits.now in
    goes_laid (marked_number span false (big_text digits))
    (ap (λ t. written (digits ++ t) other_end (span_mark span (written_if c.is_apart-apart.result (codes " ") pen))) (ascii_chars (codes "n") refl)
    ∙ ap (λ b. written (big_text digits) other_end (span_mark span (written_if b (codes " ") pen))) c.is_apart-apart.ensures)
    (behind_mark span _ _ _ c.print_if.ensures c.print_mark.ensures (in_a_row (λ _. digits) (λ _. chars (codes "n")) c.print_str.ensures c.print_str-2.ensures))
