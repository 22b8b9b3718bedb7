use Rattle.std.proofs.Common.{sym, ◌∙◌}
use Rattle.jsgen_printer.proofs.Sequence.{nothing_laid}
use Rattle.jsgen_lists.proofs.Rest.{no_members, some_members}
use Rattle.jsgen_lists.proofs.maybe.print_comma_behind.Goals as goal

pub returns-then-not-is_empty : goal.returns-then-not-is_empty
returns-then-not-is_empty g c = λ rest. rw (some_members g.L.PrintMember.plain c.args.members.now rest (sym c.is_empty.ensures ∙ c.if-not-is_empty.true)) c.print_comma_and_space.ensures

pub returns-else-not-is_empty : goal.returns-else-not-is_empty
returns-else-not-is_empty g c = λ rest. rw (no_members g.L.PrintMember.plain c.args.members.now rest (sym c.is_empty.ensures ∙ c.if-not-is_empty.false)) (nothing_laid _)
