use Rattle.std.proofs.Common.{arith}
use Rattle.std.proofs.lemmas.Grind.{common_steps}
use Rattle.jsgen_syntax.specs.Strings.{string_value}
use Rattle.jsgen_oracle.proofs.string.+value.Goals as goal

pub code_point_value-returns-in_default : goal.code_point_value-returns-in_default
unfolding string_value
code_point_value-returns-in_default t c = grind (arith, common_steps)

pub digits_value-returns-in_default : goal.digits_value-returns-in_default
unfolding string_value
digits_value-returns-in_default t c = grind (arith, common_steps)

pub escape_value-returns-in_default : goal.escape_value-returns-in_default
unfolding string_value
escape_value-returns-in_default t c = grind (arith, common_steps)

pub escape_value-returns-then-is_line_terminator : goal.escape_value-returns-then-is_line_terminator
unfolding string_value
escape_value-returns-then-is_line_terminator t c = grind (arith, common_steps)

pub escape_value-returns-then-is_ascii_digit : goal.escape_value-returns-then-is_ascii_digit
unfolding string_value
escape_value-returns-then-is_ascii_digit t c = grind (arith, common_steps)

pub escape_value-returns-in_ok-others : goal.escape_value-returns-in_ok-others
unfolding string_value
escape_value-returns-in_ok-others t c = grind (arith, common_steps)

pub hex_value-returns-in_default : goal.hex_value-returns-in_default
unfolding string_value
hex_value-returns-in_default t c = grind (arith, common_steps)

pub string_value_of-returns-in_default : goal.string_value_of-returns-in_default
unfolding string_value
string_value_of-returns-in_default t c = grind (arith, common_steps)
