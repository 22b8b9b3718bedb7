use Rattle.std.proofs.Common.{codes, refl, ap, false}
use Rattle.jsgen_comments.specs.Plain.{annotation_of}
use Rattle.jsgen_model.specs.Groups.{annotation_at, annotation_written}
use Rattle.jsgen_model.specs.Layout.{written, other_end, begun_at}
use Rattle.jsgen_printer.specs.Printer.{pen_of, start_of}
use Rattle.jsgen_printer.proofs.Comments.{annotation_text_adds}
use Rattle.jsgen_printer.proofs.Prefixes.{prefix_append, more_prefix, whole_prefix}
use Rattle.jsgen_printer.proofs.Sequence.{goes_as, goes_then}
use Rattle.jsgen_printer.proofs.Texts.{ascii_chars}
use Rattle.jsgen_printer.proofs.printer.Printer.print_annotation_from.Goals as goal

pub returns : goal.returns
returns c =
    let pen = pen_of c.args.self.now in
    let kind = annotation_of c.args.kind in
    let o = c.args.offset in
    let start = start_of c.args.start in
    goes_as (λ p. begun_at start (annotation_at kind o p)) (ap (λ t. begun_at start (written t other_end (annotation_written false kind o pen))) (ascii_chars (codes " ") refl))
    (goes_then (λ p. more_prefix _ (annotation_text_adds false kind o p).text) (λ p. whole_prefix p.code)
    (goes_then (λ p. (annotation_text_adds false kind o p).text) (λ p. prefix_append p.code _) c.print_annotation.ensures c.print_str.ensures) c.begin_at.ensures)
