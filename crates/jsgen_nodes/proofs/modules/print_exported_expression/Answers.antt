use Rattle.jsgen_nodes.proofs.Exported.{default_laid}
use Rattle.jsgen_nodes.proofs.modules.print_exported_expression.Goals as goal

pub returns-then-is_declared : goal.returns-then-is_declared
returns-then-is_declared g c = default_laid c.is_declared.result _ _ _ c.is_declared.ensures (rw c.if-is_declared.true c.print_declared.ensures)

pub returns-else-is_declared : goal.returns-else-is_declared
returns-else-is_declared g c = default_laid c.is_declared.result _ _ _ c.is_declared.ensures (rw c.if-is_declared.false c.print_undeclared.ensures)
