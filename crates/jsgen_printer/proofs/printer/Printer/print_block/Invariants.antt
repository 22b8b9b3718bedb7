use Rattle.std.proofs.Common.{length}
use Rattle.std.specs.Str.{chars, IsUtf8}
use Rattle.jsgen_model.specs.Groups.{block_lines, lines_of}
use Rattle.jsgen_printer.proofs.Onward.{Onward}
use Rattle.jsgen_printer.proofs.printer.Printer.print_block.Given as goal

abbrev pub invariant-loop-line : goal.invariant-loop-line
invariant-loop-line l = record {
  valid : IsUtf8 l.rest;
  onward : Onward l.initial.self l.self (block_lines (lines_of (chars l.rest))) (block_lines (lines_of (chars l.text)));
}

abbrev pub decreases-loop-line : goal.decreases-loop-line
decreases-loop-line l = length (lines_of (chars l.rest))
