use Rattle.std.proofs.Common.{refl}
use Rattle.jsgen_map.specs.Count.{counted}
use Rattle.jsgen_map.proofs.MarkLists.{count_place}
use Rattle.jsgen_map.proofs.laws.counts_places.Goals as goal

pub returns : goal.returns
returns c = λ text utf8. count_place text (counted text) utf8 refl
