use Rattle.std.proofs.Common.{◌≡◌, is_some, length, drop}
use Rattle.std.specs.Str.{chars}
use Rattle.jsgen_syntax.specs.Strings.{string_value}
use Rattle.jsgen_text.proofs.Machine.{spells_from}
use Rattle.jsgen_text.proofs.spelling.spells_string.Given as goal

abbrev pub invariant-loop-c : goal.invariant-loop-c
invariant-loop-c l = spells_from l.quote l.state (drop (length l.yielded) (chars l.s)) ≡ is_some (string_value l.quote (chars l.s))
