use Rattle.std.proofs.Common.{◌++◌, ap, ◌∙◌}
use Rattle.std.specs.Str.{chars}
use Rattle.jsgen_syntax.specs.Raw.{template_text}
use Rattle.jsgen_model.specs.Items.{template_part}
use Rattle.jsgen_model.specs.Lay.{piece_mark, part_opening}
use Rattle.jsgen_model.specs.Layout.{written, other_end}
use Rattle.jsgen_printer.specs.Printer.{pen_of, part_of}
use Rattle.jsgen_printer.proofs.Prefixes.{prefix_append, whole_prefix}
use Rattle.jsgen_printer.proofs.Sequence.{goes_laid, goes_then, in_a_row}
use Rattle.jsgen_printer.proofs.Templates.{opens_so, closes_so}
use Rattle.jsgen_printer.proofs.printer.Printer.print_template_part.Goals as goal

pub returns : goal.returns
returns c =
    let pen = pen_of c.args.self.now in
    let part = part_of c.args.part in
    let span = c.args.span in
    let raw = template_text c.args.tagged pen.style.minified pen.style.ascii (chars c.args.raw.now) in
    let opens = chars c.opening.result.now in
    let closes = chars c.closing.result.now in
    goes_laid (template_part part c.args.tagged span (chars c.args.raw.now))
    (ap (λ t. written (raw ++ closes) other_end (piece_mark part span (written t other_end pen))) (opens_so part c.opening.result.now c.opening.ensures)
    ∙ ap (λ t. written (raw ++ t) other_end (piece_mark part span (written (part_opening part) other_end pen))) (closes_so part c.closing.result.now c.closing.ensures))
    (goes_then (λ p. prefix_append p.code opens) (λ p. prefix_append p.code _) (goes_then (λ p. prefix_append p.code opens) (λ p. whole_prefix p.code) c.print_str.ensures c.print_piece_mark.ensures)
    (in_a_row (λ style. template_text c.args.tagged style.minified style.ascii (chars c.args.raw.now)) (λ _. closes) c.print_piece.ensures c.print_str-2.ensures))
