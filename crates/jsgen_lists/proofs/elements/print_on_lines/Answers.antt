use Rattle.jsgen_printer.proofs.Sequence.{◌⨾◌, deeper_laid}
use Rattle.jsgen_lists.proofs.elements.print_on_lines.Goals as goal

pub returns : goal.returns
returns g c = deeper_laid c.deepen-depth.result (λ going. c.deepen-depth.ensures.level) c.deepen-depth.ensures.pen (c.print_next_line.ensures ⨾ c.print_all.ensures) c.set_depth.ensures.goes ⨾ c.print_next_line-2.ensures
