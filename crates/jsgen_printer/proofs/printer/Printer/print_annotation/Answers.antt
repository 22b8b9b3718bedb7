use Rattle.std.proofs.Common.{codes, refl, ap, ◌∙◌}
use Rattle.jsgen_comments.specs.Plain.{annotation_of}
use Rattle.jsgen_model.specs.Groups.{annotation_by, annotation_written, fitting_at}
use Rattle.jsgen_model.specs.Layout.{written_if}
use Rattle.jsgen_printer.specs.Printer.{pen_of}
use Rattle.jsgen_printer.proofs.Comments.{annotation_by_adds}
use Rattle.jsgen_printer.proofs.Prefixes.{prefix_append}
use Rattle.jsgen_printer.proofs.Sequence.{goes_as, goes_then}
use Rattle.jsgen_printer.proofs.Texts.{ascii_chars}
use Rattle.jsgen_printer.proofs.printer.Printer.print_annotation.Goals as goal

pub returns : goal.returns
returns c =
    let pen = pen_of c.args.self.now in
    let o = c.args.offset in
    let kind = annotation_of c.args.kind in
    goes_as (annotation_written c.args.ends kind o)
    (ap (λ t. annotation_by (fitting_at c.args.ends kind o pen) kind o (written_if c.code_ends_in-is_behind_slash.result t pen)) (ascii_chars (codes " ") refl)
    ∙ ap (λ b. annotation_by (fitting_at c.args.ends kind o pen) kind o (written_if b (codes " ") pen)) c.code_ends_in-is_behind_slash.ensures)
    (goes_then (λ p. prefix_append p.code _) (λ p. (annotation_by_adds (fitting_at c.args.ends kind o p) kind o p).text) c.print_if.ensures c.print_annotation_text.ensures)
