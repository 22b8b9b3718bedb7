use Rattle.std.proofs.Common.{refl}
use Rattle.std.specs.Str.{chars}
use Rattle.jsgen_map.proofs.laws.worked_offsets.Goals as goal

pub returns : goal.returns
unfolding chars
returns c = record {
  return_and_feed = refl;
  feeds = refl;
  returns = refl;
  separators = refl;
  units = refl;
}
