use Rattle.std.proofs.Common.{refl}
use Rattle.jsgen_strings.proofs.printed.control_escape.Goals as goal

pub returns-in-0 : goal.returns-in-0
unfolding lib.Utf8.encode
returns-in-0 c = rw (c.in-0.is, ← c.begins_with_digit.ensures, c.if-begins_with_digit.true) refl
