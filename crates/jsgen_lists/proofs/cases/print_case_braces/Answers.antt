use Rattle.std.proofs.Common.{sym, ◌∙◌}
use Rattle.jsgen_lists.proofs.Braced.{no_braces, some_braces}
use Rattle.jsgen_lists.proofs.cases.print_case_braces.Goals as goal

pub returns-then-is_empty : goal.returns-then-is_empty
returns-then-is_empty g c = rw (no_braces g.L.PrintMember.plain c.args.span c.args.cases.now _ (sym c.is_empty.ensures ∙ c.if-is_empty.true)) c.print_empty_braces.ensures

pub returns-else-is_empty : goal.returns-else-is_empty
returns-else-is_empty g c = rw (some_braces g.L.PrintMember.plain c.args.span c.args.cases.now _ (sym c.is_empty.ensures ∙ c.if-is_empty.false)) c.print_filled_switch.ensures
