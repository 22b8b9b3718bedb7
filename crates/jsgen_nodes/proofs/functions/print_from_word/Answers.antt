use Rattle.jsgen_printer.proofs.Sequence.{◌⨾◌}
use Rattle.jsgen_nodes.proofs.functions.print_from_word.Goals as goal

pub returns : goal.returns
returns g c = c.print_function_words.ensures ⨾ ((rw c.child.ensures at c.print_if_given.ensures) ⨾ c.print_behind_name.ensures)
