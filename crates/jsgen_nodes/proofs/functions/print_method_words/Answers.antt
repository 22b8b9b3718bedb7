use Rattle.jsgen_printer.proofs.Sequence.{◌⨾◌}
use Rattle.jsgen_nodes.proofs.functions.print_method_words.Goals as goal

pub returns : goal.returns
returns g c = c.print_async_if.ensures ⨾ c.print_star_if.ensures
