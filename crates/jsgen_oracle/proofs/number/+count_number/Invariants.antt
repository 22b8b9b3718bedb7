use Rattle.std.proofs.Common.{length}
use Rattle.jsgen_oracle.proofs.number.+count_number.Given as goal

abbrev pub decreases-count_number : goal.decreases-count_number
decreases-count_number l = length l.text.now
