use Rattle.std.proofs.Common.{codes, ap, ◌∙◌}
use Rattle.jsgen_model.specs.Items.{marked_word}
use Rattle.jsgen_model.specs.Lay.{span_mark}
use Rattle.jsgen_model.specs.Layout.{written, written_if, other_end}
use Rattle.jsgen_printer.specs.Printer.{pen_of}
use Rattle.jsgen_printer.proofs.Marked.{behind_mark}
use Rattle.jsgen_printer.proofs.Sequence.{goes_laid}
use Rattle.jsgen_printer.proofs.Texts.{ascii_chars}
use Rattle.jsgen_printer.proofs.printer.Printer.print_marked_word.Goals as goal

pub returns : goal.returns
returns c =
    let pen = pen_of c.args.self.now in
    let span = c.args.span in
    let word = c.args.text.now in
    goes_laid (marked_word span word)
    (ap (λ t. written t other_end (span_mark span (written_if c.is_apart-apart.result (codes " ") pen))) (ascii_chars word c.requires)
    ∙ ap (λ b. written word other_end (span_mark span (written_if b (codes " ") pen))) c.is_apart-apart.ensures)
    (behind_mark span _ _ _ c.print_if.ensures c.print_mark.ensures c.print_str.ensures)
