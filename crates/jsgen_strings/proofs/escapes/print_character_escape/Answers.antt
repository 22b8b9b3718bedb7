use Rattle.jsgen_strings.proofs.Appending.{same_text}
use Rattle.jsgen_strings.proofs.Ascii.{small_bytes, large_bytes, largest_bytes}
use Rattle.jsgen_strings.proofs.escapes.print_character_escape.Goals as goal

pub returns-then-c-lt65536-clause-appended : goal.returns-then-c-lt65536-clause-appended
returns-then-c-lt65536-clause-appended c = same_text _ _ _ _ _ (small_bytes c.upper_digits.result c.args.c c.if-c-lt65536.true c.upper_digits.ensures) c.print_ascii.ensures.appended

pub returns-then-c-lt1048576-clause-appended : goal.returns-then-c-lt1048576-clause-appended
returns-then-c-lt1048576-clause-appended c = same_text _ _ _ _ _ (large_bytes c.upper_digits.result c.upper_digit-first.result c.args.c c.if-c-lt65536.false c.if-c-lt1048576.true c.upper_digits.ensures c.upper_digit-first.ensures) c.print_ascii-then-c-lt1048576.ensures.appended

pub returns-else-c-lt1048576-clause-appended : goal.returns-else-c-lt1048576-clause-appended
returns-else-c-lt1048576-clause-appended c = same_text _ _ _ _ _ (largest_bytes c.upper_digits.result c.args.c c.if-c-lt1048576.false c.requires c.upper_digits.ensures) c.print_ascii-else-c-lt1048576.ensures.appended
