use Rattle.std.proofs.Common.{length}
use Rattle.jsgen_oracle.proofs.word.+count.Given as goal

abbrev pub decreases-count_braces : goal.decreases-count_braces
decreases-count_braces l = length l.text.now

abbrev pub decreases-count_escape : goal.decreases-count_escape
decreases-count_escape l = length l.text.now

abbrev pub decreases-count_word : goal.decreases-count_word
decreases-count_word l = length l.text.now
