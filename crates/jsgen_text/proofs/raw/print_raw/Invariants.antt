use Rattle.std.proofs.Common.{◌≡◌, true, false, length}
use Rattle.std.specs.Str.{chars, encode_utf8_all}
use lib.Utf8.{scalars}
use Rattle.jsgen_syntax.specs.Buffer.{buffer_bytes, indent_byte, indent_width}
use Rattle.jsgen_syntax.specs.Raw.{raw_text_after}
use Rattle.jsgen_text.specs.Changes.{raw_of}
use Rattle.jsgen_strings.specs.Points.{ArePoints}
use Rattle.jsgen_strings.proofs.Appending.{Printed}
use Rattle.jsgen_text.proofs.raw.print_raw.Given as goal

abbrev pub invariant-points : goal.invariant-points
invariant-points l = record {
  points : ArePoints l.rest;
  are_scalars : scalars (chars l.rest) ≡ true;
  printed : Printed (buffer_bytes l.initial.code) (buffer_bytes l.code) (encode_utf8_all (raw_text_after (raw_of l.changes) false false (chars l.s))) (encode_utf8_all (raw_text_after (raw_of l.changes) l.escaped l.after_less (chars l.rest)));
  byte : indent_byte l.code ≡ indent_byte l.initial.code;
  width : indent_width l.code ≡ indent_width l.initial.code;
}

abbrev pub decreases-points : goal.decreases-points
decreases-points l = length l.rest
