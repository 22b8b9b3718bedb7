use Rattle.std.proofs.Common.{sym}
use Rattle.jsgen_printer.specs.Printer.{pen_of}
use Rattle.jsgen_printer.proofs.Operators.{unary_written, unary_chars}
use Rattle.jsgen_printer.proofs.Sequence.{goes_laid}
use Rattle.jsgen_printer.proofs.printer.Printer.print_unary_operator.Goals as goal

pub returns : goal.returns
returns c = goes_laid _ (rw (c.unary_stands_apart-apart.ensures, c.as_str-text.ensures, unary_chars c.args.operator) (sym (unary_written c.args.operator (pen_of c.args.self.now)))) c.print_apart.ensures
