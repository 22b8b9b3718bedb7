use Rattle.jsgen_comment_laws.proofs.Laws as laws
use Rattle.jsgen_comment_laws.proofs.items_are_woven.Goals as goal

pub returns : goal.returns
returns c = laws.items_are_woven
