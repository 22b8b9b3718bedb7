use Rattle.std.proofs.Common.{ap}
use Rattle.jsgen_model.specs.Groups.{last_byte, without_ending, body_of}
use Rattle.jsgen_model.specs.Items.{empty_body}
use Rattle.jsgen_printer.specs.Printer.{pen_of, group_of}
use Rattle.jsgen_printer.proofs.Comments.{ending_adds, body_adds}
use Rattle.jsgen_printer.proofs.Sequence.{goes_laid, goes_then}
use Rattle.jsgen_printer.proofs.printer.Printer.print_empty_body.Goals as goal

pub returns : goal.returns
returns c =
    let end = c.args.end in
    goes_laid (empty_body end) (ap (λ cs. body_of end cs (without_ending (last_byte end) (pen_of c.args.self.now))) c.hold_comments-held.ensures.group)
    (goes_then (λ p. (ending_adds (last_byte end) p).text) (λ p. (body_adds end (group_of c.hold_comments-held.result) p).text) c.hold_comments-held.ensures.goes c.print_body.ensures)
