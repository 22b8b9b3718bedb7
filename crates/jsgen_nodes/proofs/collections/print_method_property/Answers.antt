use Rattle.jsgen_printer.proofs.Sequence.{◌⨾◌}
use Rattle.jsgen_nodes.proofs.collections.print_method_property.Goals as goal

pub returns : goal.returns
returns g c = c.print_accessor_word.ensures ⨾ ((rw c.get.ensures at c.print_method_words.ensures) ⨾ (c.print_key.ensures ⨾ (rw c.get-2.ensures at c.print_as_method.ensures)))
