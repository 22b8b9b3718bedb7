use Rattle.std.specs.Str.{chars}
use Rattle.jsgen_printer.specs.Printer.{pen_of, ending_of}
use Rattle.jsgen_printer.proofs.Prefixes.{prefix_append}
use Rattle.jsgen_printer.proofs.Sequence.{goes_as, goes_then}
use Rattle.jsgen_printer.proofs.Texts.{written_apart}
use Rattle.jsgen_printer.proofs.printer.Printer.print_apart.Goals as goal

pub returns : goal.returns
returns c = goes_as _ (written_apart c.args.test (chars c.args.text.now) (ending_of c.args.ending) (pen_of c.args.self.now)) (goes_then (λ pen. prefix_append pen.code _) (λ pen. prefix_append pen.code _) c.print_if.ensures c.print_str.ensures)
