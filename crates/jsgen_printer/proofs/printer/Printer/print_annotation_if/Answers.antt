use Rattle.std.proofs.Common.{ap, sym, ◌∙◌, if◌then◌else◌}
use Rattle.jsgen_model.specs.Groups.{annotation_at}
use Rattle.jsgen_model.specs.Layout.{begun_at}
use Rattle.jsgen_model.specs.Items.{annotation, no_side_effects}
use Rattle.jsgen_printer.specs.Printer.{pen_of}
use Rattle.jsgen_printer.proofs.Sequence.{goes_laid}
use Rattle.jsgen_printer.proofs.printer.Printer.print_annotation_if.Goals as goal

pub returns-then-annotates : goal.returns-then-annotates
unfolding pen_of
returns-then-annotates c =
    let pen = pen_of c.args.self.now in
    let o = c.args.offset in
    goes_laid (annotation c.args.test no_side_effects o) (ap (λ b. if b then begun_at pen.start (annotation_at no_side_effects o pen) else pen) (sym c.if-annotates.true ∙ c.annotates.ensures)) c.print_annotation_from.ensures
