use Rattle.jsgen_printer.proofs.Sequence.{◌⨾◌, deeper_laid}
use Rattle.jsgen_lists.proofs.statements.print_deeper_statements.Goals as goal

pub returns : goal.returns
returns g c = c.print_soft_line.ensures ⨾ deeper_laid c.deepen-depth.result (λ going. c.deepen-depth.ensures.level) c.deepen-depth.ensures.pen c.print_statements_to.ensures c.set_depth.ensures.goes
