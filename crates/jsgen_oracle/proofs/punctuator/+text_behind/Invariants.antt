use Rattle.std.proofs.Common.{length}
use Rattle.jsgen_oracle.proofs.punctuator.+text_behind.Given as goal

abbrev pub decreases-text_behind : goal.decreases-text_behind
decreases-text_behind l = length l.front.now
