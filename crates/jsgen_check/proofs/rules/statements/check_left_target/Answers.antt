use Rattle.std.proofs.Common.{sym}
use Rattle.jsgen_check.proofs.Misfits.{left_misfit}
use Rattle.jsgen_check.proofs.rules.statements.check_left_target.Goals as goal

pub returns : goal.returns
returns g c = rw (sym (left_misfit (g.N.CheckNode.plain c.args.target.now))) (rw (c.misfits_left.ensures, c.start.ensures) at c.check_no_optional_link.ensures)
