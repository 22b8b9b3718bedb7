-- Generated from tools/nodes/table.txt; edit that and run tools/nodes/generate.
-- What is found of a row, from its parts.
use Rattle.std.proofs.Common.{refl, sym, ◌∙◌}
use Rattle.jsgen_tree.specs.Rows.{arrow_function_expression_row}
use Rattle.jsgen_check.specs.Verdict.{surroundings_plain}
use Rattle.jsgen_check.proofs.Verdicts.{of_right_set}
use Rattle.jsgen_check.proofs.Steps.{no_rules, of_row, then_one, none_behind, all_checked}
use Rattle.jsgen_tree.specs.declared.types.NodeSet.TheVariants as sets
use Rattle.jsgen_check.proofs.functions.check_arrow_function_expression.Goals as goal

pub returns : goal.returns
returns g c =
    let row = of_row (surroundings_plain c.args.around.now c.args.classes) c.args.next.now (arrow_function_expression_row g.N.CheckNode.plain c.args.node.now) c.check_node.ensures no_rules (then_one refl c.higher.ensures ((rw (c.deref.ensures, c.within_nothing-outside.ensures c.args.classes) at c.check_formal_parameters-params.ensures.found) ∙ sym (of_right_set _ _ sets.FormalParameters _ refl)) (rw (c.deref.ensures, c.within_nothing-outside.ensures c.args.classes) at c.check_formal_parameters-params.ensures.number) (then_one refl (none_behind _) (rw (c.within_arrow-within.ensures c.args.classes) at c.check_arrow_function_body-body.ensures.found) (rw (c.within_arrow-within.ensures c.args.classes) at c.check_arrow_function_body-body.ensures.number) all_checked)) in
    record { found = row.found; number = row.number }
