use Rattle.std.proofs.Common.{◌≡◌, ◌++◌, replicate}
use Rattle.jsgen_syntax.specs.Buffer.{buffer_bytes, indent_byte, indent_width}
use Rattle.jsgen_syntax.proofs.buffer.CodeBuffer.print_indent.Given as goal

abbrev pub invariant-loop : goal.invariant-loop
invariant-loop l = record {
  appended : buffer_bytes l.self ≡ buffer_bytes l.initial.self ++ replicate l.counter l.c;
  byte : indent_byte l.self ≡ indent_byte l.initial.self;
  width : indent_width l.self ≡ indent_width l.initial.self;
}
