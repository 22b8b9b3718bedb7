use Rattle.std.proofs.Common.{sym, ◌∙◌}
use Rattle.jsgen_modules.proofs.Spaced.{no_spaced, some_spaced}
use Rattle.jsgen_modules.proofs.parts.print_spaced_braces.Goals as goal

pub returns-then-is_empty : goal.returns-then-is_empty
returns-then-is_empty g c = rw (no_spaced g.L.PrintMember.plain c.args.members.now _ (sym c.is_empty.ensures ∙ c.if-is_empty.true)) c.print_empty_braces.ensures

pub returns-else-is_empty : goal.returns-else-is_empty
returns-else-is_empty g c = rw (some_spaced g.L.PrintMember.plain c.args.members.now _ (sym c.is_empty.ensures ∙ c.if-is_empty.false)) c.print_filled_braces.ensures
