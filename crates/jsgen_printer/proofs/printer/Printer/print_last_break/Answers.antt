use Rattle.std.proofs.Common.{ap}
use Rattle.jsgen_model.specs.Groups.{broken_by, ending_at, last_byte, without_ending}
use Rattle.jsgen_printer.specs.Printer.{pen_of, group_of}
use Rattle.jsgen_printer.proofs.Comments.{broken_adds, ending_adds}
use Rattle.jsgen_printer.proofs.Sequence.{goes_as, goes_then}
use Rattle.jsgen_printer.proofs.printer.Printer.print_last_break.Goals as goal

pub returns : goal.returns
returns c =
    let last = last_byte c.args.end in
    goes_as (λ p. broken_by (ending_at last p) (without_ending last p)) (ap (λ cs. broken_by cs (without_ending last (pen_of c.args.self.now))) c.hold_comments-group.ensures.group)
    (goes_then (λ p. (ending_adds last p).text) (λ p. (broken_adds (group_of c.hold_comments-group.result) p).text) c.hold_comments-group.ensures.goes c.print_broken.ensures)
