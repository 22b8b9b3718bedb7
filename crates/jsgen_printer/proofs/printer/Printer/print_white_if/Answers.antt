use Rattle.std.proofs.Common.{refl}
use Rattle.jsgen_printer.specs.Printer.{pen_of, start_of}
use Rattle.jsgen_printer.proofs.Prefixes.{prefix_append}
use Rattle.jsgen_printer.proofs.Sequence.{begun_again}
use Rattle.jsgen_printer.proofs.printer.Printer.print_white_if.Goals as goal

pub returns : goal.returns
unfolding pen_of
returns c = begun_again (start_of c.args.self.now.start) refl (λ p. prefix_append p.code _) c.print_if.ensures c.begin_at.ensures
