use Rattle.jsgen_syntax.specs.Name.{is_strict_reserved}
use Rattle.jsgen_syntax.proofs.name.is_strict_reserved.Goals as goal

pub returns : goal.returns
unfolding is_strict_reserved
returns c = c.contains.ensures.value
