use Rattle.jsgen_mark_laws.proofs.Names as laws
use Rattle.jsgen_mark_laws.proofs.names_stand.Goals as goal

pub returns : goal.returns
returns c = λ items pen source e r. laws.names_stand items pen source e r
