use Rattle.std.proofs.Common.{true, ap, sym, ◌∙◌, if◌then◌else◌}
use Rattle.jsgen_model.specs.Groups.{annotation_line_at, indented_if}
use Rattle.jsgen_model.specs.Items.{annotation_line, no_side_effects}
use Rattle.jsgen_printer.specs.Printer.{pen_of}
use Rattle.jsgen_printer.proofs.Comments.{indented_if_adds, annotation_text_adds, line_adds}
use Rattle.jsgen_printer.proofs.Prefixes.{prefix_of_prefix}
use Rattle.jsgen_printer.proofs.Sequence.{goes_laid, goes_then}
use Rattle.jsgen_printer.proofs.printer.Printer.print_annotation_line_if.Goals as goal

pub returns-then-annotates : goal.returns-then-annotates
returns-then-annotates c =
    let pen = pen_of c.args.self.now in
    let o = c.args.offset in
    let indented = c.args.indented in
    goes_laid (annotation_line indented c.args.test o)
    (ap (λ b. if b then annotation_line_at indented o pen else pen) (sym c.if-annotates.true ∙ c.annotates.ensures))
    (goes_then (λ p. prefix_of_prefix (indented_if_adds indented p).text (annotation_text_adds true no_side_effects o (indented_if indented p)).text) (λ p. (line_adds p).text)
    (goes_then (λ p. (indented_if_adds indented p).text) (λ p. (annotation_text_adds true no_side_effects o p).text) c.print_indentation_where.ensures c.print_annotation.ensures) c.print_line_end.ensures)
