use Rattle.std.proofs.Common.{refl}
use Rattle.jsgen_printer.proofs.Sequence.{◌⨾◌, deeper_laid, regrouped}
use Rattle.jsgen_lists.proofs.properties.print_on_lines.Goals as goal

pub returns : goal.returns
returns g c = deeper_laid c.deepen-depth.result (λ going. c.deepen-depth.ensures.level) c.deepen-depth.ensures.pen (regrouped (λ pen. refl) (c.print_on_line.ensures ⨾ c.print_more_properties.ensures)) c.set_depth.ensures.goes ⨾ c.print_next_line.ensures
