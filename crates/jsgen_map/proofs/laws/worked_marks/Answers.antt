use Rattle.std.proofs.Common.{refl}
use Rattle.std.specs.Str.{chars}
use Rattle.jsgen_map.proofs.laws.worked_marks.Goals as goal

pub returns : goal.returns
unfolding chars
returns c = record {
  renamed = refl;
  renamed_names = refl;
  renamed_tokens = refl;
  private = refl;
  empty = refl;
  again = refl;
  back = refl;
  names = refl;
}
