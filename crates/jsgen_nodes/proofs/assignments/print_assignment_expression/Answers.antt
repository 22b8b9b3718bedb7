use Rattle.std.proofs.Common.{sym, ◌∙◌}
use Rattle.jsgen_printer.proofs.Sequence.{wrapped_laid, wrapped_at_start_laid}
use Rattle.jsgen_model.specs.Items.{a_brace}
use Rattle.jsgen_nodes.proofs.Assigned.{no_object_first}
use Rattle.jsgen_nodes.proofs.assignments.print_assignment_expression.Goals as goal

pub returns-in-ObjectAssignmentTarget : goal.returns-in-ObjectAssignmentTarget
returns-in-ObjectAssignmentTarget g c = rw (sym (rw c.get.ensures at c.node_type.ensures) ∙ c.in-ObjectAssignmentTarget.is) (rw c.wraps-wraps.ensures at (wrapped_at_start_laid c.wraps-wraps.result a_brace c.wraps_brace-wrap.result c.wraps_brace-wrap.ensures c.print_opening_if.ensures c.print_from_target.ensures c.print_closing_if.ensures))

pub returns-in_default : goal.returns-in_default
returns-in_default g c = rw (no_object_first _ _ _ (λ e. c.in_default.not-ObjectAssignmentTarget ((rw c.get.ensures at c.node_type.ensures) ∙ e))) (rw c.wraps-wraps.ensures at (wrapped_laid c.wraps-wraps.result c.print_opening_if-in_default.ensures c.print_from_target-in_default.ensures c.print_closing_if-in_default.ensures))
