use Rattle.std.proofs.Common.{codes, refl, ap, ◌∙◌}
use Rattle.jsgen_model.specs.Items.{apart}
use Rattle.jsgen_model.specs.Layout.{white_if}
use Rattle.jsgen_printer.specs.Printer.{pen_of}
use Rattle.jsgen_printer.proofs.Sequence.{goes_laid}
use Rattle.jsgen_printer.proofs.Texts.{ascii_chars}
use Rattle.jsgen_printer.proofs.printer.Printer.print_space_apart.Goals as goal

pub returns : goal.returns
returns c =
    let pen = pen_of c.args.self.now in
    goes_laid apart (ap (λ t. white_if c.is_apart-apart.result t pen) (ascii_chars (codes " ") refl) ∙ ap (λ b. white_if b (codes " ") pen) c.is_apart-apart.ensures) c.print_white_if.ensures
