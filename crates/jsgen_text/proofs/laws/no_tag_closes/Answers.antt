use Rattle.jsgen_text.proofs.Tags.{no_tag}
use Rattle.jsgen_text.proofs.laws.no_tag_closes.Goals as goal

pub returns : goal.returns
returns c = no_tag
