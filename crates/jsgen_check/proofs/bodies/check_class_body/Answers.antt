use Rattle.std.proofs.Common.{refl}
use Rattle.jsgen_tree.specs.Rows.{class_body_row}
use Rattle.jsgen_check.specs.Verdict.{surroundings_plain}
use Rattle.jsgen_check.proofs.Steps.{no_rules, of_row, from_same, then_many, none_behind, all_checked}
use Rattle.jsgen_check.proofs.bodies.check_class_body.Goals as goal

pub returns : goal.returns
unfolding surroundings_plain
returns g c =
    let row = of_row (surroundings_plain c.args.around.now c.args.classes) c.args.next.now (class_body_row g.N.CheckNode.plain c.args.node.now) c.check_node.ensures no_rules (from_same c.number_behind.ensures (then_many refl (none_behind _) (rw c.deref.ensures.value at c.check_members-body.ensures.found) (rw c.deref.ensures.value at c.check_members-body.ensures.number) all_checked)) in
    record { found = row.found; number = row.number }
