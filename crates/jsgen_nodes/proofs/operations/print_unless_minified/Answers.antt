use Rattle.std.proofs.Common.{ap, not}
use Rattle.jsgen_printer.proofs.Sequence.{unless_minified_laid}
use Rattle.jsgen_nodes.proofs.operations.print_unless_minified.Goals as goal

pub returns : goal.returns
returns g c = unless_minified_laid _ (ap (λ b. not b) c.is_minified-wrap.ensures) c.print_opening_if.ensures c.print_lines_unless_minified.ensures c.print_closing_if.ensures
