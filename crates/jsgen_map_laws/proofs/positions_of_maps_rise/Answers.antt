use Rattle.jsgen_map_laws.proofs.Jobs as laws
use Rattle.jsgen_map_laws.proofs.positions_of_maps_rise.Goals as goal

pub returns : goal.returns
returns c = laws.positions_of_maps_rise
