use Rattle.std.proofs.Common.{sym, ◌∙◌}
use Rattle.jsgen_lists.proofs.Left.{none_braced, some_braced}
use Rattle.jsgen_lists.proofs.patterns.print_pattern_braces.Goals as goal

pub returns-then-are_none : goal.returns-then-are_none
returns-then-are_none g c = rw (none_braced g.L.PrintMember.plain g.M.PrintMember.plain c.args.properties.now c.args.rest.now _ (sym c.are_none.ensures ∙ c.if-are_none.true)) c.print_braces_alone.ensures

pub returns-else-are_none : goal.returns-else-are_none
returns-else-are_none g c = rw (some_braced g.L.PrintMember.plain g.M.PrintMember.plain c.args.properties.now c.args.rest.now _ (sym c.are_none.ensures ∙ c.if-are_none.false)) c.print_between_spaces.ensures
