use Rattle.jsgen_map_laws.proofs.Names as laws
use Rattle.jsgen_map_laws.proofs.names_are_of_the_source.Goals as goal

pub returns : goal.returns
returns c = λ items pen source e. laws.names_added source items pen e
