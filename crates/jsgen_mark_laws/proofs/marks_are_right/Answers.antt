use Rattle.jsgen_mark_laws.proofs.Names as laws
use Rattle.jsgen_mark_laws.proofs.marks_are_right.Goals as goal

pub returns : goal.returns
returns c = laws.marks_are_right
