use Rattle.jsgen_printer.proofs.Sequence.{◌⨾◌}
use Rattle.jsgen_printer.proofs.Commented.{held_laid}
use Rattle.jsgen_nodes.proofs.functions.print_inside.Goals as goal

pub returns : goal.returns
returns g c = held_laid c.args.node.now.span.end _ c.hold_comments-held.ensures.group c.hold_comments-held.ensures.goes (((rw c.deref.ensures.value at c.print_directives.ensures) ⨾ (rw c.deref-2.ensures.value at c.print_body.ensures)) ⨾ c.print_orphans.ensures) c.print_held.ensures
