use Rattle.std.proofs.Common.{rules, tests}
use Rattle.jsgen_strings.proofs.quotes.cheapest_of.Goals as goal

pub returns-else-double-single : goal.returns-else-double-single
returns-else-double-single c = search (tests, rules)
