use Rattle.jsgen_map_laws.proofs.Rise as laws
use Rattle.jsgen_map_laws.proofs.positions_rise.Goals as goal

pub returns : goal.returns
returns c = laws.positions_rise
