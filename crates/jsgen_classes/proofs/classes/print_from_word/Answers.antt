use Rattle.jsgen_printer.proofs.Sequence.{◌⨾◌}
use Rattle.jsgen_classes.proofs.classes.print_from_word.Goals as goal

pub returns : goal.returns
returns g c = c.print_marked_word.ensures ⨾ ((rw c.child-within.ensures at c.print_name.ensures) ⨾ (c.print_heritage.ensures ⨾ (c.print_soft_space.ensures ⨾ (rw (c.with_calls.ensures, c.child-within.ensures, c.deref.ensures) at c.print_class_body.ensures))))
