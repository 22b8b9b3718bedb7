use Rattle.std.proofs.Common.{arith}
use Rattle.std.proofs.lemmas.Grind.{common_steps}
use Rattle.jsgen_oracle.proofs.word.+count.Goals as goal

pub count_braces-returns-in_default-clause-value : goal.count_braces-returns-in_default-clause-value
count_braces-returns-in_default-clause-value t c = grind (arith, common_steps)

pub count_braces-returns-else-first-eq125-clause-value : goal.count_braces-returns-else-first-eq125-clause-value
count_braces-returns-else-first-eq125-clause-value t c = grind (arith, common_steps)

pub count_escape-returns-in_default-clause-value : goal.count_escape-returns-in_default-clause-value
count_escape-returns-in_default-clause-value t c = grind (arith, common_steps)

pub count_escape-returns-then-first-ne117-clause-value : goal.count_escape-returns-then-first-ne117-clause-value
count_escape-returns-then-first-ne117-clause-value t c = grind (arith, common_steps)

pub count_word-returns-in_default-clause-value : goal.count_word-returns-in_default-clause-value
count_word-returns-in_default-clause-value t c = grind (arith, common_steps)
