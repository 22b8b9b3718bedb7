-- Generated from tools/nodes/table.txt; edit that and run tools/nodes/generate.
-- What is found of a row, from its parts.
use Rattle.std.proofs.Common.{refl, sym, ◌∙◌}
use Rattle.jsgen_tree.specs.Rows.{import_default_specifier_row}
use Rattle.jsgen_check.specs.Verdict.{surroundings_plain}
use Rattle.jsgen_check.proofs.Verdicts.{of_right_set}
use Rattle.jsgen_check.proofs.Steps.{no_rules, of_row, then_one, none_behind, all_checked}
use Rattle.jsgen_tree.specs.declared.types.NodeSet.TheVariants as sets
use Rattle.jsgen_check.proofs.modules.check_import_default_specifier.Goals as goal

pub returns : goal.returns
returns c =
    let row = of_row (surroundings_plain c.args.around.now c.args.classes) c.args.next.now (import_default_specifier_row c.args.node.now) c.check_node.ensures no_rules (then_one refl (none_behind _) ((rw (c.deref.ensures) at c.check_binding_identifier-local.ensures.found) ∙ sym (of_right_set _ _ sets.BindingIdentifier _ refl)) c.check_binding_identifier-local.ensures.number all_checked) in
    record { found = row.found; number = row.number }
