use Rattle.std.proofs.Common.{sym}
use Rattle.jsgen_lists.proofs.Holes.{are_more_than}
use Rattle.jsgen_lists.proofs.elements.are_more.Goals as goal

pub returns : goal.returns
returns g c = sym (are_more_than c.args.count g.L.PrintElement.plain c.args.elements.now)
