use Rattle.std.proofs.Common.{arith}
use Rattle.std.proofs.lemmas.Grind.{common_steps}
use Rattle.jsgen_syntax.specs.Escapes.{word_value}
use Rattle.jsgen_oracle.proofs.word.+value.Goals as goal

pub word_code_point-returns-in_default : goal.word_code_point-returns-in_default
unfolding word_value
word_code_point-returns-in_default t c = grind (arith, common_steps)

pub word_digits-returns-in_default : goal.word_digits-returns-in_default
unfolding word_value
word_digits-returns-in_default t c = grind (arith, common_steps)

pub word_digits-returns-then-number-lt1114112 : goal.word_digits-returns-then-number-lt1114112
unfolding word_value
word_digits-returns-then-number-lt1114112 t c = grind (arith, common_steps)

pub word_digits-returns-else-number-lt1114112 : goal.word_digits-returns-else-number-lt1114112
unfolding word_value
word_digits-returns-else-number-lt1114112 t c = grind (arith, common_steps)

pub word_escape-returns-in_default : goal.word_escape-returns-in_default
unfolding word_value
word_escape-returns-in_default t c = grind (arith, common_steps)

pub word_escape-returns-then-first-ne117 : goal.word_escape-returns-then-first-ne117
unfolding word_value
word_escape-returns-then-first-ne117 t c = grind (arith, common_steps)

pub word_hex-returns-in_default : goal.word_hex-returns-in_default
unfolding word_value
word_hex-returns-in_default t c = grind (arith, common_steps)

pub word_hex-returns-else-count-eq1 : goal.word_hex-returns-else-count-eq1
unfolding word_value
word_hex-returns-else-count-eq1 t c = grind (arith, common_steps)

pub word_value_of-returns-in_default : goal.word_value_of-returns-in_default
unfolding word_value
word_value_of-returns-in_default t c = grind (arith, common_steps)

pub word_value_of-returns-in_ok-word_value_of : goal.word_value_of-returns-in_ok-word_value_of
unfolding word_value
word_value_of-returns-in_ok-word_value_of t c = grind (arith, common_steps)
