use Rattle.std.proofs.Common.{None, refl, ap, sym, ◌∙◌}
use Rattle.jsgen_model.specs.Items.{link_mark}
use Rattle.jsgen_model.specs.Lay.{marked_if}
use Rattle.jsgen_printer.specs.Printer.{pen_of}
use Rattle.jsgen_printer.proofs.Marked.{mapped_link, no_step}
use Rattle.jsgen_printer.proofs.Sequence.{goes_laid}
use Rattle.jsgen_printer.proofs.printer.Printer.print_link_mark.Goals as goal

pub add_mark-requires : goal.add_mark-requires
add_mark-requires c = let pen = pen_of c.args.self.now in mapped_link pen.style.source c.args.span pen.code (sym c.has_link_mark.ensures ∙ c.if-has_link_mark.true)

pub returns-then-has_link_mark : goal.returns-then-has_link_mark
returns-then-has_link_mark c = goes_laid (link_mark c.args.span) (ap (λ b. marked_if b c.args.span.end None (pen_of c.args.self.now)) (sym c.if-has_link_mark.true ∙ c.has_link_mark.ensures)) c.add_mark.ensures

pub returns-else-has_link_mark : goal.returns-else-has_link_mark
returns-else-has_link_mark c = goes_laid (link_mark c.args.span) (ap (λ b. marked_if b c.args.span.end None (pen_of c.args.self.now)) (sym c.if-has_link_mark.false ∙ c.has_link_mark.ensures)) (no_step c.args.self.now (λ pen. pen) refl)
