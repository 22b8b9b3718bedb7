use Rattle.std.proofs.Common.{sym, ◌∙◌, subst}
use Rattle.std.specs.Str.{IsUtf8}
use Rattle.std.proofs.lemmas.Str.{IsUtf8-encode}
use Rattle.jsgen_syntax.proofs.Wtf8.{scalar_from}
use Rattle.jsgen_strings.proofs.PointTexts.{surrogate_point, escaped_point}
use Rattle.jsgen_strings.proofs.printed.print_past_ascii.Goals as goal

pub from_utf8_unchecked-requires : goal.from_utf8_unchecked-requires
from_utf8_unchecked-requires c =
    subst IsUtf8 (sym c.requires.bytes) (IsUtf8-encode c.args.point.code (scalar_from c.args.point.code c.requires.code (sym c.is_surrogate.ensures ∙ c.if-is_surrogate.false)))

pub returns-then-is_surrogate-clause-appended : goal.returns-then-is_surrogate-clause-appended
returns-then-is_surrogate-clause-appended c = rw (← surrogate_point c.args.ascii_only c.args.point.code (sym c.is_surrogate.ensures ∙ c.if-is_surrogate.true)) assumption

pub returns-then-ascii_only-clause-appended : goal.returns-then-ascii_only-clause-appended
returns-then-ascii_only-clause-appended c = rw (← escaped_point c.args.ascii_only c.args.point.code (sym c.is_surrogate.ensures ∙ c.if-is_surrogate.false) c.if-ascii_only.true) assumption
