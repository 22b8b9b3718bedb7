use Rattle.jsgen_printer.proofs.Sequence.{◌⨾◌}
use Rattle.jsgen_inside.proofs.nested.NestedPrintSubstitutionExpressionNode.print_substitution.Goals as goal

pub returns : goal.returns
returns g c = (rw c.get.ensures at c.print_comments_before.ensures) ⨾ (rw (c.in_brackets.ensures, c.get-2.ensures) at c.print.ensures)
