use Rattle.std.proofs.Common.{◌≡◌, Bool, true, false, if◌then◌else◌, refl}
use Rattle.jsgen_model.specs.Groups.{lines_opened, with_lines}
use Rattle.jsgen_model.specs.Layout.{Pen}
use Rattle.jsgen_model.specs.Printing.{IsPrefix}
use Rattle.jsgen_printer.specs.Printer.{pen_of, deepened}
use Rattle.jsgen_printer.proofs.Prefixes.{whole_prefix}
use Rattle.jsgen_printer.proofs.Sequence.{goes_as, goes_then}
use Rattle.jsgen_printer.proofs.printer.Printer.open_arguments.Goals as goal

opened : (lined : Bool) (pen : Pen) → with_lines lined (if lined then deepened pen else pen) ≡ lines_opened lined pen
opened true pen = refl
opened false pen = refl

deeper_or_not : (test : Bool) (pen : Pen) → IsPrefix pen.code (if test then deepened pen else pen).code
deeper_or_not true pen = whole_prefix pen.code
deeper_or_not false pen = whole_prefix pen.code

pub returns-clause-goes : goal.returns-clause-goes
returns-clause-goes c = goes_as (lines_opened c.args.lined) (opened c.args.lined (pen_of c.args.self.now)) (goes_then (λ p. deeper_or_not c.args.lined p) (λ p. whole_prefix p.code) c.deepen_if.ensures c.set_lines.ensures)
