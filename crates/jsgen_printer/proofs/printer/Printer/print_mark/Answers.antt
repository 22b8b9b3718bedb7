use Rattle.std.proofs.Common.{None, refl, ap, sym, ◌∙◌}
use Rattle.jsgen_model.specs.Items.{mark}
use Rattle.jsgen_model.specs.Lay.{marked_if}
use Rattle.jsgen_printer.specs.Printer.{pen_of}
use Rattle.jsgen_printer.proofs.Marked.{mapped_start, no_step}
use Rattle.jsgen_printer.proofs.Sequence.{goes_laid}
use Rattle.jsgen_printer.proofs.printer.Printer.print_mark.Goals as goal

pub add_mark-requires : goal.add_mark-requires
add_mark-requires c = let pen = pen_of c.args.self.now in mapped_start pen.style.source c.args.span (sym c.has_start_mark.ensures ∙ c.if-has_start_mark.true)

pub returns-then-has_start_mark : goal.returns-then-has_start_mark
returns-then-has_start_mark c = goes_laid (mark c.args.span) (ap (λ b. marked_if b c.args.span.start None (pen_of c.args.self.now)) (sym c.if-has_start_mark.true ∙ c.has_start_mark.ensures)) c.add_mark.ensures

pub returns-else-has_start_mark : goal.returns-else-has_start_mark
returns-else-has_start_mark c = goes_laid (mark c.args.span) (ap (λ b. marked_if b c.args.span.start None (pen_of c.args.self.now)) (sym c.if-has_start_mark.false ∙ c.has_start_mark.ensures)) (no_step c.args.self.now (λ pen. pen) refl)
