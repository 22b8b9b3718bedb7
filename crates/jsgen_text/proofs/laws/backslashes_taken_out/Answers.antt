use Rattle.jsgen_text.proofs.Tags.{taken_out}
use Rattle.jsgen_text.proofs.laws.backslashes_taken_out.Goals as goal

pub returns : goal.returns
returns c = taken_out
