use Rattle.std.proofs.Common.{◌≡◌, false, take}
use Rattle.std.specs.List.{list_any}
use Rattle.jsgen_syntax.specs.Escapes.{is_past_ascii}
use Rattle.jsgen_text.proofs.name.holds_past_ascii.Given as goal

abbrev pub invariant-loop-byte : goal.invariant-loop-byte
invariant-loop-byte l = list_any is_past_ascii (take l.byte-index l.bytes) ≡ false
