use Rattle.std.proofs.Common.{length}
use Rattle.jsgen_oracle.proofs.word.+value.Given as goal

abbrev pub decreases-word_code_point : goal.decreases-word_code_point
decreases-word_code_point l = length l.text.now

abbrev pub decreases-word_digits : goal.decreases-word_digits
decreases-word_digits l = length l.text.now

abbrev pub decreases-word_escape : goal.decreases-word_escape
decreases-word_escape l = length l.text.now

abbrev pub decreases-word_hex : goal.decreases-word_hex
decreases-word_hex l = length l.text.now

abbrev pub decreases-word_value_of : goal.decreases-word_value_of
decreases-word_value_of l = length l.spelling.now
