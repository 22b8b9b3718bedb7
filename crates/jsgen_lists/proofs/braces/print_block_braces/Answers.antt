use Rattle.std.proofs.Common.{sym, ◌∙◌}
use Rattle.jsgen_lists.proofs.Braced.{no_block, some_block}
use Rattle.jsgen_lists.proofs.braces.print_block_braces.Goals as goal

pub returns-then-is_empty : goal.returns-then-is_empty
returns-then-is_empty g c = rw (no_block g.S.PrintStatement.plain c.args.span c.args.statements.now _ (sym c.is_empty.ensures ∙ c.if-is_empty.true)) c.print_orphan_braces.ensures

pub returns-else-is_empty : goal.returns-else-is_empty
returns-else-is_empty g c = rw (some_block g.S.PrintStatement.plain c.args.span c.args.statements.now _ (sym c.is_empty.ensures ∙ c.if-is_empty.false)) c.print_filled_braces.ensures
