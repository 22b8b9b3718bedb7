use Rattle.std.proofs.Common.{sym}
use Rattle.jsgen_printer.specs.Printer.{pen_of}
use Rattle.jsgen_printer.proofs.Marked.{behind_mark}
use Rattle.jsgen_printer.proofs.Operators.{update_marked, update_chars}
use Rattle.jsgen_printer.proofs.Sequence.{goes_laid}
use Rattle.jsgen_printer.proofs.printer.Printer.print_marked_update_operator.Goals as goal

pub returns : goal.returns
returns c = goes_laid _ (rw (c.update_stands_apart-apart.ensures, c.as_str.ensures, update_chars c.args.operator) (sym (update_marked c.args.operator c.args.span (pen_of c.args.self.now)))) (behind_mark c.args.span _ _ _ c.print_if.ensures c.print_mark.ensures c.print_str.ensures)
