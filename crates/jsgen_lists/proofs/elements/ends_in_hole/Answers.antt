use Rattle.std.proofs.Common.{sym, ◌∙◌}
use Rattle.jsgen_lists.proofs.Holes.{last_left_out}
use Rattle.jsgen_lists.proofs.elements.ends_in_hole.Goals as goal

pub returns-in-Some : goal.returns-in-Some
returns-in-Some g c = c.is_left_out.ensures ∙ sym (last_left_out g.L.PrintElement.plain c.args.elements.now c.in-Some.last.now c.in-Some.ensures.value)
