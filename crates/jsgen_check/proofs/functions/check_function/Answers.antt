-- Generated from tools/nodes/table.txt; edit that and run tools/nodes/generate.
-- What is found of a row, from its parts.
use Rattle.std.proofs.Common.{refl, sym, ◌∙◌}
use Rattle.jsgen_tree.specs.Rows.{function_row}
use Rattle.jsgen_check.specs.Verdict.{surroundings_plain}
use Rattle.jsgen_check.proofs.Verdicts.{of_right_set}
use Rattle.jsgen_check.proofs.Steps.{of_row, then_one, then_maybe, none_behind, all_checked}
use Rattle.jsgen_tree.specs.declared.types.NodeSet.TheVariants as sets
use Rattle.jsgen_check.proofs.functions.check_function.Goals as goal

pub returns : goal.returns
returns g c =
    let row = of_row (surroundings_plain c.args.around.now c.args.classes) c.args.next.now (function_row g.N.CheckNode.plain c.args.node.now) c.check_node.ensures c.check_function_rules-rules.ensures (then_maybe refl c.higher-2.ensures c.check_optional_binding_identifier-id.ensures.found c.check_optional_binding_identifier-id.ensures.number (then_one refl c.higher.ensures ((rw (c.deref.ensures, c.within_nothing-outside.ensures c.args.classes) at c.check_formal_parameters-params.ensures.found) ∙ sym (of_right_set _ _ sets.FormalParameters _ refl)) (rw (c.deref.ensures, c.within_nothing-outside.ensures c.args.classes) at c.check_formal_parameters-params.ensures.number) (then_maybe refl (none_behind _) (rw (c.within_function-within.ensures c.args.classes) at c.check_optional_function_body-body.ensures.found) (rw (c.within_function-within.ensures c.args.classes) at c.check_optional_function_body-body.ensures.number) all_checked))) in
    record { found = row.found; number = row.number }
