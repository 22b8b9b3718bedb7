use Rattle.std.proofs.Common.{sym, subst, arith}
use Rattle.std.proofs.lemmas.Grind.{common_steps}
use Rattle.std.specs.Str.{IsUtf8}
use Rattle.std.proofs.lemmas.Str.{IsUtf8-encode}
use Rattle.jsgen_text.proofs.raw.print_tag_character.Goals as goal

pub from_utf8_unchecked-requires : goal.from_utf8_unchecked-requires
from_utf8_unchecked-requires c = subst IsUtf8 (sym c.requires.bytes) (IsUtf8-encode c.args.point.code c.requires.scalar)

pub returns-then-begins_script-clause-appended : goal.returns-then-begins_script-clause-appended
returns-then-begins_script-clause-appended c = grind (arith, common_steps)
