-- Generated from tools/nodes/table.txt; edit that and run tools/nodes/generate.
-- What is found of a row, from its parts.
use Rattle.std.proofs.Common.{refl}
use Rattle.jsgen_tree.specs.Rows.{formal_parameter_row}
use Rattle.jsgen_check.specs.Verdict.{surroundings_plain}
use Rattle.jsgen_check.proofs.Steps.{no_rules, of_row, then_one, then_maybe, none_behind, all_checked}
use Rattle.jsgen_check.proofs.functions.check_formal_parameter.Goals as goal

pub returns : goal.returns
returns g c =
    let row = of_row (surroundings_plain c.args.around.now c.args.classes) c.args.next.now (formal_parameter_row g.N.CheckNode.plain c.args.node.now) c.check_node.ensures no_rules (then_one refl c.higher.ensures (rw (c.get.ensures) at c.check_child-pattern.ensures.found) (rw (c.get.ensures) at c.check_child-pattern.ensures.number) (then_maybe refl (none_behind _) c.check_optional_expression-initializer.ensures.found c.check_optional_expression-initializer.ensures.number all_checked)) in
    record { found = row.found; number = row.number }
