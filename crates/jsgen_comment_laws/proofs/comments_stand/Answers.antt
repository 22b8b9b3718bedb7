use Rattle.jsgen_comment_laws.proofs.Laws as laws
use Rattle.jsgen_comment_laws.proofs.comments_stand.Goals as goal

pub returns : goal.returns
returns c = laws.comments_stand
