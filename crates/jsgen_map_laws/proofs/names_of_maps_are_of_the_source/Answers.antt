use Rattle.jsgen_map_laws.proofs.Jobs as laws
use Rattle.jsgen_map_laws.proofs.names_of_maps_are_of_the_source.Goals as goal

pub returns : goal.returns
returns c = laws.names_of_maps
