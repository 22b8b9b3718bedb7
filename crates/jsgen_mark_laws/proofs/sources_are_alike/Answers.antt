use Rattle.jsgen_mark_laws.proofs.Sources as laws
use Rattle.jsgen_mark_laws.proofs.sources_are_alike.Goals as goal

pub returns : goal.returns
returns c = laws.sources_are_alike
