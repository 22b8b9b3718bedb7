use Rattle.std.proofs.Common.{true, None, refl, ap, sym, ◌∙◌}
use Rattle.jsgen_model.specs.Items.{end_mark}
use Rattle.jsgen_model.specs.Lay.{marked_if}
use Rattle.jsgen_model.specs.Marks.{end_offset}
use Rattle.jsgen_printer.specs.Printer.{pen_of}
use Rattle.jsgen_printer.proofs.Marked.{mapped_end, no_step}
use Rattle.jsgen_printer.proofs.Sequence.{goes_laid}
use Rattle.jsgen_printer.proofs.printer.Printer.print_end_mark.Goals as goal

pub add_mark-requires : goal.add_mark-requires
add_mark-requires c = let pen = pen_of c.args.self.now in mapped_end pen.style.source c.args.span (sym c.has_end_mark.ensures ∙ c.if-has_end_mark.true)

pub returns-then-has_end_mark : goal.returns-then-has_end_mark
returns-then-has_end_mark c =
    let pen = pen_of c.args.self.now in
    goes_laid (end_mark c.args.span) (ap (λ o. marked_if true o None pen) c.end_offset-offset.ensures ∙ ap (λ b. marked_if b (end_offset pen.style.source c.args.span) None pen) (sym c.if-has_end_mark.true ∙ c.has_end_mark.ensures)) c.add_mark.ensures

pub returns-else-has_end_mark : goal.returns-else-has_end_mark
returns-else-has_end_mark c = goes_laid (end_mark c.args.span) (ap (λ b. marked_if b (end_offset (pen_of c.args.self.now).style.source c.args.span) None (pen_of c.args.self.now)) (sym c.if-has_end_mark.false ∙ c.has_end_mark.ensures)) (no_step c.args.self.now (λ pen. pen) refl)
