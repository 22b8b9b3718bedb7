use Rattle.std.proofs.Common.{ap}
use Rattle.jsgen_model.specs.Groups.{broken_at, on_a_line}
use Rattle.jsgen_model.specs.Items.{other_argument}
use Rattle.jsgen_model.specs.Layout.{begun_at}
use Rattle.jsgen_printer.specs.Printer.{pen_of}
use Rattle.jsgen_printer.proofs.Comments.{broken_at_adds}
use Rattle.jsgen_printer.proofs.Prefixes.{whole_prefix}
use Rattle.jsgen_printer.proofs.Sequence.{goes_as, goes_then}
use Rattle.jsgen_printer.proofs.printer.Printer.print_other_break.Goals as goal

pub returns : goal.returns
returns c =
    let o = c.args.start in
    goes_as (on_a_line (other_argument o)) (ap (λ s. begun_at s (broken_at o (pen_of c.args.self.now))) c.start_behind_space-begins.ensures)
    (goes_then (λ p. (broken_at_adds o p).text) (λ p. whole_prefix p.code) c.print_line_break.ensures c.begin_at.ensures)
