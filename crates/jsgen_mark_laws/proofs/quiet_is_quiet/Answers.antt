use Rattle.jsgen_mark_laws.proofs.Quiet as laws
use Rattle.jsgen_mark_laws.proofs.quiet_is_quiet.Goals as goal

pub returns : goal.returns
returns c = laws.quiet_is_quiet
