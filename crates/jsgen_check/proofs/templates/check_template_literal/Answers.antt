-- Generated from tools/nodes/table.txt; edit that and run tools/nodes/generate.
-- What is found of a row, from its parts.
use Rattle.std.proofs.Common.{refl}
use Rattle.jsgen_tree.specs.Rows.{template_literal_row}
use Rattle.jsgen_check.specs.Verdict.{surroundings_plain}
use Rattle.jsgen_check.proofs.Steps.{of_row, then_many, none_behind, all_checked}
use Rattle.jsgen_check.proofs.templates.check_template_literal.Goals as goal

pub returns : goal.returns
returns g c =
    let row = of_row (surroundings_plain c.args.around.now c.args.classes) c.args.next.now (template_literal_row g.N.CheckNode.plain c.args.node.now) c.check_node.ensures c.check_template_literal_rules-rules.ensures (then_many refl c.higher.ensures (rw (c.deref.ensures.value) at c.check_template_elements-quasis.ensures.found) (rw (c.deref.ensures.value) at c.check_template_elements-quasis.ensures.number) (then_many refl (none_behind _) (rw (c.deref-2.ensures.value) at c.check_expressions-expressions.ensures.found) (rw (c.deref-2.ensures.value) at c.check_expressions-expressions.ensures.number) all_checked)) in
    record { found = row.found; number = row.number }
