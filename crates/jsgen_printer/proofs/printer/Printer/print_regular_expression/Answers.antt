use Rattle.std.proofs.Common.{◌++◌, codes, refl, ap, ◌∙◌}
use Rattle.std.specs.Str.{chars}
use Rattle.jsgen_syntax.specs.Raw.{pattern_text}
use Rattle.jsgen_model.specs.Layout.{written, space_if, regular_expression_text, regular_expression_end}
use Rattle.jsgen_printer.specs.Printer.{pen_of}
use Rattle.jsgen_printer.proofs.Patterns.{between_slashes}
use Rattle.jsgen_printer.proofs.Sequence.{goes_laid, in_a_row}
use Rattle.jsgen_printer.proofs.Texts.{ascii_chars}
use Rattle.jsgen_printer.proofs.printer.Printer.print_regular_expression.Goals as goal

pub returns : goal.returns
returns c =
    let pattern = chars c.args.pattern.now in
    let flags = chars c.args.flags.now in
    let slash = chars (codes "/") in
    let apart = space_if c.joins_pattern-apart.result in
    let whole = between_slashes c.joins_pattern-apart.result (pen_of c.args.self.now).style.ascii pattern flags slash (ascii_chars (codes "/") refl) in
    goes_laid _ (ap (λ text. written text regular_expression_end (pen_of c.args.self.now)) (whole ∙ ap (λ test. space_if test ++ regular_expression_text (pen_of c.args.self.now).style.ascii pattern flags) c.joins_pattern-apart.ensures))
    (in_a_row (λ _. apart ++ slash) (λ style. pattern_text style.ascii pattern ++ (slash ++ flags)) c.print_apart.ensures
    (in_a_row (λ style. pattern_text style.ascii pattern) (λ _. slash ++ flags) c.print_pattern.ensures
    (in_a_row (λ _. slash) (λ _. flags) c.print_str.ensures c.print_str-2.ensures)))
