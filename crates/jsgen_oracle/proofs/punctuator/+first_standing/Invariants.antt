use Rattle.std.proofs.Common.{length}
use Rattle.jsgen_oracle.proofs.punctuator.+first_standing.Given as goal

abbrev pub decreases-first_standing : goal.decreases-first_standing
decreases-first_standing l = length l.signs.now
