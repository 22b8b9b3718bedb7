use Rattle.jsgen_text.proofs.Shortest.{shortest}
use Rattle.jsgen_text.proofs.laws.cheapest_is_shortest.Goals as goal

pub returns : goal.returns
returns c = shortest
