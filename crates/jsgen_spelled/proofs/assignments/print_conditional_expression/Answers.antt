-- Generated from tools/nodes/table.txt; edit that and run tools/nodes/generate.
-- The steps in a row.
use Rattle.jsgen_printer.proofs.Sequence.{◌⨾◌, wrapped_laid}
use Rattle.jsgen_spelled.proofs.assignments.print_conditional_expression.Goals as goal

pub returns : goal.returns
returns g c = (rw (c.within-within.ensures, c.wraps-wrap.ensures) at (wrapped_laid c.wraps-wrap.result c.print_opening_if.ensures ((rw (c.with_calls.ensures, c.child.ensures, c.get.ensures) at c.print.ensures) ⨾ (c.print_soft_space.ensures ⨾ (c.print_question.ensures ⨾ (c.print_soft_space-2.ensures ⨾ ((rw c.get-2.ensures at c.print_comments_before.ensures) ⨾ ((rw (c.in_brackets.ensures, c.get-3.ensures) at c.print-2.ensures) ⨾ (c.print_soft_space-3.ensures ⨾ (c.print_colon.ensures ⨾ (c.print_soft_space-4.ensures ⨾ ((rw c.get-4.ensures at c.print_comments_before-2.ensures) ⨾ (rw (c.with_calls-2.ensures, c.child-2.ensures, c.get-5.ensures) at c.print-3.ensures))))))))))) c.print_closing_if.ensures))
