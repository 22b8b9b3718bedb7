use Rattle.std.proofs.Common.{true, false, sym, ap}
use Rattle.jsgen_model.specs.Spell.{is_declared_function}
use Rattle.jsgen_printer.proofs.Sequence.{◌⨾◌}
use Rattle.jsgen_nodes.proofs.Exported.{default_laid}
use Rattle.jsgen_nodes.proofs.modules.print_exported_function.Goals as goal

pub returns-in-Declaration : goal.returns-in-Declaration
returns-in-Declaration g c = default_laid true (is_declared_function c.args.node.now.kind) _ _ (sym (ap is_declared_function c.in-Declaration.is)) ((rw c.within_statement.ensures at c.print_function.ensures) ⨾ c.print_soft_line.ensures)

pub returns-in-Expression : goal.returns-in-Expression
returns-in-Expression g c = default_laid false (is_declared_function c.args.node.now.kind) _ _ (sym (ap is_declared_function c.in-Expression.is)) (c.begin_default_export.ensures.lays ⨾ ((rw c.in_brackets.ensures at c.print_function-in-Expression.ensures) ⨾ c.print_statement_end.ensures))
