use Rattle.std.proofs.Common.{ap}
use Rattle.jsgen_model.specs.Groups.{broken_by, group_at, without_group}
use Rattle.jsgen_printer.specs.Printer.{pen_of, group_of}
use Rattle.jsgen_printer.proofs.Comments.{broken_adds}
use Rattle.jsgen_printer.proofs.Prefixes.{whole_prefix}
use Rattle.jsgen_printer.proofs.Sequence.{goes_as, goes_then}
use Rattle.jsgen_printer.proofs.printer.Printer.print_taken_lines.Goals as goal

pub returns : goal.returns
returns c =
    let o = c.args.start in
    goes_as (λ p. broken_by (group_at o p) (without_group o p)) (ap (λ cs. broken_by cs (without_group o (pen_of c.args.self.now))) c.take-group.ensures.group)
    (goes_then (λ p. whole_prefix p.code) (λ p. (broken_adds (group_of c.take-group.result) p).text) c.take-group.ensures.goes c.print_broken.ensures)
