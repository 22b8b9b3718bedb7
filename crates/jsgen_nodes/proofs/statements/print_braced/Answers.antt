use Rattle.jsgen_printer.proofs.Sequence.{◌⨾◌}
use Rattle.jsgen_tree.specs.Tree.{span_of}
use Rattle.jsgen_lists.proofs.Braced.{braces_laid}
use Rattle.jsgen_nodes.proofs.statements.print_braced.Goals as goal

pub returns : goal.returns
returns g c = c.print_soft_space.ensures ⨾ (braces_laid (span_of (g.N.PrintNode.plain c.args.consequent.now)) c.open_braces-depth.result c.open_braces-depth.ensures.level (rw c.span.ensures at c.open_braces-depth.ensures.pen) (rw c.among_statements.ensures at c.print.ensures) (rw c.span-2.ensures at c.close_braces.ensures) ⨾ c.print_braces_end.ensures)
