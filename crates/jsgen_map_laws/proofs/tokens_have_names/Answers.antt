use Rattle.jsgen_map_laws.proofs.Listed as laws
use Rattle.jsgen_map_laws.proofs.tokens_have_names.Goals as goal

pub returns : goal.returns
returns c = laws.tokens_have_names
