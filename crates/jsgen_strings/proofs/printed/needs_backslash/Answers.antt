use Rattle.std.proofs.Common.{rules, tests}
use Rattle.jsgen_strings.proofs.printed.needs_backslash.Goals as goal

pub returns-then-c-eq47 : goal.returns-then-c-eq47
returns-then-c-eq47 c = search (tests, rules)

pub returns-else-c-eq47 : goal.returns-else-c-eq47
returns-else-c-eq47 c = search (tests, rules)

pub returns-then-begins_with_brace : goal.returns-then-begins_with_brace
returns-then-begins_with_brace c = search (tests, rules)
