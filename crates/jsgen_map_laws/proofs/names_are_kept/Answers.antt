use Rattle.jsgen_map_laws.proofs.Kept as laws
use Rattle.jsgen_map_laws.proofs.names_are_kept.Goals as goal

pub returns : goal.returns
returns c = λ items pen source e. laws.names_kept source items pen e
