use Rattle.std.proofs.Common.{sym, ◌∙◌}
use Rattle.jsgen_printer.proofs.Sequence.{◌⨾◌}
use Rattle.jsgen_nodes.proofs.collections.print_object_property.Goals as goal

pub returns-then-is_method : goal.returns-then-is_method
returns-then-is_method g c = rw (sym c.is_method.ensures ∙ c.if-is_method.true) ((rw (c.is_function.ensures, c.node_type.ensures, c.get.ensures) at c.print_mark_if.ensures) ⨾ c.print_method_property.ensures)

pub returns-else-is_method : goal.returns-else-is_method
returns-else-is_method g c = rw (sym c.is_method.ensures ∙ c.if-is_method.false) ((rw (c.is_function.ensures, c.node_type.ensures, c.get.ensures) at c.print_mark_if.ensures) ⨾ c.print_valued_property.ensures)
