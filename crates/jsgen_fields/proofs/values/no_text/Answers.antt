use Rattle.std.proofs.Common.{ap}
use Rattle.std.specs.Str.{chars}
use Rattle.jsgen_fields.proofs.values.no_text.Goals as goal

pub returns : goal.returns
unfolding chars
returns c = ap chars c.new.ensures.bytes
