use Rattle.std.proofs.Common.{◌≡◌, ◌++◌, ◌||◌, length}
use Rattle.std.specs.Str.{encode_utf8_all}
use Rattle.jsgen_syntax.specs.Wtf8.{has_lone, joined_units}
use Rattle.jsgen_syntax.proofs.js_str.JsStr.from_units.Given as goal

abbrev pub invariant-codes : goal.invariant-codes
invariant-codes l = record {
  bytes : l.bytes.items ++ encode_utf8_all (joined_units l.rest) ≡ encode_utf8_all (joined_units l.units);
  lone : (l.lone || has_lone l.rest) ≡ has_lone l.units;
}

abbrev pub decreases-codes : goal.decreases-codes
decreases-codes l = length l.rest
