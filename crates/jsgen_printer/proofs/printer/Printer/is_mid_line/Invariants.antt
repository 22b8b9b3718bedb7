use Rattle.std.proofs.Common.{◌≡◌, false, length}
use Rattle.jsgen_syntax.specs.Buffer.{buffer_bytes}
use Rattle.jsgen_printer.proofs.Lines.{mid}
use Rattle.jsgen_printer.proofs.printer.Printer.is_mid_line.Given as goal

abbrev pub invariant-loop-byte : goal.invariant-loop-byte
invariant-loop-byte l = mid false l.rest ≡ mid false (buffer_bytes l.self.code)

abbrev pub decreases-loop-byte : goal.decreases-loop-byte
decreases-loop-byte l = length l.rest
