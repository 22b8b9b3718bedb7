use Rattle.jsgen_printer.proofs.Sequence.{in_brackets_laid}
use Rattle.jsgen_model.specs.Punctuator.{Square}
use Rattle.jsgen_nodes.proofs.collections.print_key_if.Goals as goal

pub returns-then-bracketed : goal.returns-then-bracketed
returns-then-bracketed g c = rw c.if-bracketed.true (in_brackets_laid Square c.print_opening.ensures (rw c.in_brackets-within.ensures at c.print_key_text.ensures) c.print_closing.ensures)

pub returns-else-bracketed : goal.returns-else-bracketed
returns-else-bracketed g c = rw c.if-bracketed.false (rw c.in_brackets-within.ensures at c.print_key_text-else-bracketed.ensures)
