use Rattle.jsgen_mark_laws.proofs.Steps as laws
use Rattle.jsgen_mark_laws.proofs.items_add.Goals as goal

pub returns : goal.returns
returns c = laws.lay_steps
