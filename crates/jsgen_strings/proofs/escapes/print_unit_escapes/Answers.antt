use Rattle.jsgen_strings.proofs.Appending.{same_text}
use Rattle.jsgen_strings.proofs.Ascii.{unit_bytes, pair_bytes}
use Rattle.jsgen_strings.proofs.escapes.print_unit_escapes.Goals as goal

pub returns-then-c-lt65536-clause-appended : goal.returns-then-c-lt65536-clause-appended
returns-then-c-lt65536-clause-appended c = same_text _ _ _ _ _ (unit_bytes c.upper_digits.result c.args.c c.if-c-lt65536.true c.upper_digits.ensures) c.print_ascii.ensures.appended

pub returns-clause-appended : goal.returns-clause-appended
returns-clause-appended c = same_text _ _ _ _ _ (pair_bytes c.upper_digits-2.result c.upper_digits-3.result c.args.c c.if-c-lt65536.false c.requires c.upper_digits-2.ensures c.upper_digits-3.ensures) c.print_ascii-2.ensures.appended
