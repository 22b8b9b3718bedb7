-- Generated from tools/nodes/table.txt; edit that and run tools/nodes/generate.
-- What is found of a row, from its parts.
use Rattle.std.proofs.Common.{refl}
use Rattle.jsgen_tree.specs.Rows.{with_clause_row}
use Rattle.jsgen_check.specs.Verdict.{surroundings_plain}
use Rattle.jsgen_check.proofs.Steps.{no_rules, of_row, then_many, none_behind, all_checked}
use Rattle.jsgen_check.proofs.modules.check_with_clause.Goals as goal

pub returns : goal.returns
returns c =
    let row = of_row (surroundings_plain c.args.around.now c.args.classes) c.args.next.now (with_clause_row c.args.node.now) c.check_node.ensures no_rules (then_many refl (none_behind _) (rw (c.deref.ensures.value) at c.check_import_attributes-entries.ensures.found) (rw (c.deref.ensures.value) at c.check_import_attributes-entries.ensures.number) all_checked) in
    record { found = row.found; number = row.number }
