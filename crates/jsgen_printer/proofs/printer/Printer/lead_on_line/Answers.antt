use Rattle.std.proofs.Common.{true, ap, sym}
use Rattle.jsgen_model.specs.Groups.{led_on_line}
use Rattle.jsgen_model.specs.Lay.{case_mark}
use Rattle.jsgen_printer.specs.Printer.{pen_of, lead_of}
use Rattle.jsgen_printer.proofs.Comments.{lined_adds}
use Rattle.jsgen_printer.proofs.Prefixes.{whole_prefix}
use Rattle.jsgen_printer.proofs.Sequence.{goes_as, goes_then, items_go}
use Rattle.jsgen_printer.proofs.printer.Printer.lead_on_line.Goals as goal

pub returns-in-Empty : goal.returns-in-Empty
returns-in-Empty c =
    goes_as (λ p. case_mark true (lead_of c.args.lead) (led_on_line (lead_of c.args.lead) c.args.start p))
    (ap (λ l. case_mark true (lead_of l) (led_on_line (lead_of l) c.args.start (pen_of c.args.self.now))) (sym c.in-Empty.is))
    (goes_then (λ p. (lined_adds c.args.start p).text) (λ p. whole_prefix p.code) c.print_lined_comments-in-Empty.ensures (items_go c.print_mark.ensures))
