use Rattle.std.proofs.Common.{◌≡◌, false, length}
use Rattle.std.specs.Str.{chars, encode_utf8_all}
use Rattle.jsgen_syntax.specs.Buffer.{buffer_bytes, indent_byte, indent_width}
use Rattle.jsgen_syntax.specs.Strings.{escaped_after}
use Rattle.jsgen_strings.specs.Points.{ArePoints}
use Rattle.jsgen_strings.proofs.Appending.{Printed}
use Rattle.jsgen_strings.proofs.printed.print_escaped.Given as goal

abbrev pub invariant-points : goal.invariant-points
invariant-points l = record {
  points : ArePoints l.rest;
  printed : Printed (buffer_bytes l.initial.code) (buffer_bytes l.code) (encode_utf8_all (escaped_after l.quote l.ascii_only false (chars l.bytes))) (encode_utf8_all (escaped_after l.quote l.ascii_only l.after_less (chars l.rest)));
  byte : indent_byte l.code ≡ indent_byte l.initial.code;
  width : indent_width l.code ≡ indent_width l.initial.code;
}

abbrev pub decreases-points : goal.decreases-points
decreases-points l = length l.rest
