use Rattle.std.proofs.Common.{codes, refl, ap, ◌∙◌}
use Rattle.std.specs.Str.{chars}
use Rattle.jsgen_model.specs.Lay.{name_mark, name_written}
use Rattle.jsgen_model.specs.Layout.{written_if}
use Rattle.jsgen_printer.specs.Printer.{pen_of}
use Rattle.jsgen_printer.proofs.Prefixes.{prefix_append, whole_prefix}
use Rattle.jsgen_printer.proofs.Sequence.{goes_as, goes_then}
use Rattle.jsgen_printer.proofs.Texts.{ascii_chars}
use Rattle.jsgen_printer.proofs.printer.Printer.print_name_apart.Goals as goal

pub returns : goal.returns
returns c =
    let pen = pen_of c.args.self.now in
    let printed = chars c.args.text.now in
    goes_as _
    (ap (λ t. name_written printed (name_mark c.args.span printed (written_if c.is_apart-apart.result t pen))) (ascii_chars (codes " ") refl)
    ∙ ap (λ b. name_written printed (name_mark c.args.span printed (written_if b (codes " ") pen))) c.is_apart-apart.ensures)
    (goes_then (λ p. prefix_append p.code _) (λ p. prefix_append p.code _) (goes_then (λ p. prefix_append p.code _) (λ p. whole_prefix p.code) c.print_if.ensures c.print_name_mark.ensures) c.print_bare_name.ensures)
