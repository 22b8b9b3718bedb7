-- Generated from tools/nodes/table.txt; edit that and run tools/nodes/generate.
-- What is found of a row, from its parts.
use Rattle.std.proofs.Common.{refl}
use Rattle.jsgen_tree.specs.Rows.{export_specifier_row}
use Rattle.jsgen_check.specs.Verdict.{surroundings_plain}
use Rattle.jsgen_check.proofs.Steps.{no_rules, of_row, then_one, none_behind, all_checked}
use Rattle.jsgen_check.proofs.modules.check_export_specifier.Goals as goal

pub returns : goal.returns
returns c =
    let row = of_row (surroundings_plain c.args.around.now c.args.classes) c.args.next.now (export_specifier_row c.args.node.now) c.check_node.ensures no_rules (then_one refl c.higher.ensures c.check_module_export_name-local.ensures.found c.check_module_export_name-local.ensures.number (then_one refl (none_behind _) c.check_module_export_name-exported.ensures.found c.check_module_export_name-exported.ensures.number all_checked)) in
    record { found = row.found; number = row.number }
