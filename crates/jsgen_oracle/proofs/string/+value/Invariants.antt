use Rattle.std.proofs.Common.{◌+◌, ◌*◌, length}
use Rattle.jsgen_oracle.proofs.string.+value.Given as goal

abbrev pub decreases-code_point_value : goal.decreases-code_point_value
decreases-code_point_value l = 2 * length l.text.now

abbrev pub decreases-digit_escape_value : goal.decreases-digit_escape_value
decreases-digit_escape_value l = 2 * length l.text.now + 1

abbrev pub decreases-digits_value : goal.decreases-digits_value
decreases-digits_value l = 2 * length l.text.now

abbrev pub decreases-escape_value : goal.decreases-escape_value
decreases-escape_value l = 2 * length l.text.now

abbrev pub decreases-hex_value : goal.decreases-hex_value
decreases-hex_value l = 2 * length l.text.now

abbrev pub decreases-string_value_of : goal.decreases-string_value_of
decreases-string_value_of l = 2 * length l.spelling.now

abbrev pub decreases-unicode_value : goal.decreases-unicode_value
decreases-unicode_value l = 2 * length l.text.now + 1
