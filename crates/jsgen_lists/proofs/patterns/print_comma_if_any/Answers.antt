use Rattle.std.proofs.Common.{sym, ◌∙◌}
use Rattle.jsgen_printer.proofs.Sequence.{nothing_laid}
use Rattle.jsgen_lists.proofs.Left.{no_comma, some_comma}
use Rattle.jsgen_lists.proofs.patterns.print_comma_if_any.Goals as goal

pub returns-then-not-is_empty : goal.returns-then-not-is_empty
returns-then-not-is_empty g c = rw (some_comma g.L.PrintElement.plain c.args.elements.now (sym c.is_empty.ensures ∙ c.if-not-is_empty.true)) c.print_comma_and_space.ensures

pub returns-else-not-is_empty : goal.returns-else-not-is_empty
returns-else-not-is_empty g c = rw (no_comma g.L.PrintElement.plain c.args.elements.now (sym c.is_empty.ensures ∙ c.if-not-is_empty.false)) (nothing_laid _)
