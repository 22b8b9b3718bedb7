-- Generated from tools/nodes/table.txt; edit that and run tools/nodes/generate.
-- What is found of a row, from its parts.
use Rattle.std.proofs.Common.{refl, sym, ◌∙◌}
use Rattle.jsgen_tree.specs.Rows.{import_declaration_row}
use Rattle.jsgen_check.specs.Verdict.{surroundings_plain}
use Rattle.jsgen_check.proofs.Verdicts.{of_right_set}
use Rattle.jsgen_check.proofs.Steps.{of_row, then_one, then_maybe, then_maybe_many, none_behind, all_checked}
use Rattle.jsgen_tree.specs.declared.types.NodeSet.TheVariants as sets
use Rattle.jsgen_check.proofs.modules.check_import_declaration.Goals as goal

pub returns : goal.returns
returns c =
    let row = of_row (surroundings_plain c.args.around.now c.args.classes) c.args.next.now (import_declaration_row c.args.node.now) c.check_node.ensures c.check_import_declaration_rules-rules.ensures (then_maybe_many refl c.higher-2.ensures c.check_optional_import_declaration_specifiers-specifiers.ensures.found c.check_optional_import_declaration_specifiers-specifiers.ensures.number (then_one refl c.higher.ensures ((rw (c.deref.ensures) at c.check_string_literal-source.ensures.found) ∙ sym (of_right_set _ _ sets.StringLiteral _ refl)) c.check_string_literal-source.ensures.number (then_maybe refl (none_behind _) c.check_optional_with_clause-with_clause.ensures.found c.check_optional_with_clause-with_clause.ensures.number all_checked))) in
    record { found = row.found; number = row.number }
