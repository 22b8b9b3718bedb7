use Rattle.jsgen_printer.proofs.Sequence.{◌⨾◌}
use Rattle.jsgen_nodes.proofs.functions.print_function_words.Goals as goal

pub returns : goal.returns
returns c = c.print_async_apart_if.ensures ⨾ (c.print_marked_word.ensures ⨾ c.print_star_apart_if.ensures)
