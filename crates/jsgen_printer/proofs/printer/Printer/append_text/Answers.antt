use Rattle.std.proofs.Common.{refl, sym, ◌∙◌}
use Rattle.jsgen_printer.proofs.Attempts.{changed}
use Rattle.jsgen_printer.proofs.Handed.{none_handed, some_handed}
use Rattle.jsgen_printer.proofs.Sequence.{goes_as}
use Rattle.jsgen_printer.proofs.printer.Printer.append_text.Goals as goal

pub returns-then-not-is_empty : goal.returns-then-not-is_empty
returns-then-not-is_empty c = goes_as _ (sym (some_handed c.args.text.now _ _ c.utf8.text (sym c.is_empty.ensures ∙ c.if-not-is_empty.true))) c.print_str.ensures

pub returns-else-not-is_empty : goal.returns-else-not-is_empty
returns-else-not-is_empty c = changed refl refl (none_handed c.args.text.now _ _ c.utf8.text (sym c.is_empty.ensures ∙ c.if-not-is_empty.false))
