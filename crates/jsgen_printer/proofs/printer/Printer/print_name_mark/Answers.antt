use Rattle.std.proofs.Common.{ap, sym, ◌∙◌}
use Rattle.std.specs.Option.{option_copied}
use Rattle.std.specs.Str.{chars}
use Rattle.jsgen_model.specs.Marks.{has_start_mark, other_name_in}
use Rattle.jsgen_model.specs.Lay.{marked_if, name_mark}
use Rattle.jsgen_printer.specs.Printer.{pen_of}
use Rattle.jsgen_printer.proofs.Marked.{mapped_start, no_step}
use Rattle.jsgen_printer.proofs.Sequence.{goes_as}
use Rattle.jsgen_printer.proofs.printer.Printer.print_name_mark.Goals as goal

pub add_mark-requires : goal.add_mark-requires
add_mark-requires c = mapped_start (pen_of c.args.self.now).style.source c.args.span (sym c.has_start_mark.ensures ∙ c.if-has_start_mark.true)

pub returns-then-has_start_mark : goal.returns-then-has_start_mark
returns-then-has_start_mark c =
    let pen = pen_of c.args.self.now in
    let start = c.args.span.start in
    goes_as (name_mark c.args.span (chars c.args.printed.now))
    (ap (λ b. marked_if b start (option_copied c.other_name-name.result) pen) (sym c.if-has_start_mark.true ∙ c.has_start_mark.ensures)
    ∙ ap (λ called. marked_if (has_start_mark pen.style.source c.args.span) start called pen) c.other_name-name.ensures)
    c.add_mark.ensures

pub returns-else-has_start_mark : goal.returns-else-has_start_mark
returns-else-has_start_mark c =
    let pen = pen_of c.args.self.now in
    no_step c.args.self.now (name_mark c.args.span (chars c.args.printed.now)) (ap (λ b. marked_if b c.args.span.start (other_name_in pen.style.source c.args.span (chars c.args.printed.now)) pen) (sym c.has_start_mark.ensures ∙ c.if-has_start_mark.false))
