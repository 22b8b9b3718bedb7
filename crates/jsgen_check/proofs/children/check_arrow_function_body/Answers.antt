-- Generated from tools/nodes/table.txt; edit that and run tools/nodes/generate.
-- A member of one type is of the set.
use Rattle.std.proofs.Common.{refl, sym, ◌∙◌}
use Rattle.jsgen_check.proofs.Verdicts.{of_right_set}
use Rattle.jsgen_tree.specs.declared.types.NodeSet.TheVariants as sets
use Rattle.jsgen_check.proofs.children.check_arrow_function_body.Goals as goal

pub returns-in-FunctionBody : goal.returns-in-FunctionBody
returns-in-FunctionBody g c = record { found = rw c.in-FunctionBody.is ((rw c.deref.ensures at c.check_function_body.ensures.found) ∙ sym (of_right_set _ _ sets.ArrowFunctionBody _ refl)); number = rw c.in-FunctionBody.is (rw (c.deref.ensures) at c.check_function_body.ensures.number) }
