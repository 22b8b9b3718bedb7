-- Generated from tools/nodes/table.txt; edit that and run tools/nodes/generate.
-- What is found of a row, from its parts.
use Rattle.std.proofs.Common.{refl, sym, ◌∙◌}
use Rattle.jsgen_tree.specs.Rows.{try_statement_row}
use Rattle.jsgen_check.specs.Verdict.{surroundings_plain}
use Rattle.jsgen_check.proofs.Verdicts.{of_right_set}
use Rattle.jsgen_check.proofs.Steps.{of_row, then_one, then_maybe, none_behind, all_checked}
use Rattle.jsgen_tree.specs.declared.types.NodeSet.TheVariants as sets
use Rattle.jsgen_check.proofs.choices.check_try_statement.Goals as goal

pub returns : goal.returns
returns g c =
    let row = of_row (surroundings_plain c.args.around.now c.args.classes) c.args.next.now (try_statement_row g.N.CheckNode.plain c.args.node.now) c.check_node.ensures c.check_try_statement_rules-rules.ensures (then_one refl c.higher-2.ensures ((rw (c.deref.ensures) at c.check_block_statement-block.ensures.found) ∙ sym (of_right_set _ _ sets.BlockStatement _ refl)) (rw (c.deref.ensures) at c.check_block_statement-block.ensures.number) (then_maybe refl c.higher.ensures c.check_optional_catch_clause-handler.ensures.found c.check_optional_catch_clause-handler.ensures.number (then_maybe refl (none_behind _) c.check_optional_block_statement-finalizer.ensures.found c.check_optional_block_statement-finalizer.ensures.number all_checked))) in
    record { found = row.found; number = row.number }
