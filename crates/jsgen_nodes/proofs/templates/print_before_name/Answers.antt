use Rattle.std.proofs.Common.{sym, ◌∙◌}
use Rattle.jsgen_printer.proofs.Sequence.{nothing_laid}
use Rattle.jsgen_nodes.proofs.templates.print_before_name.Goals as goal

pub returns-then-is_one : goal.returns-then-is_one
returns-then-is_one c = rw (sym c.is_one.ensures ∙ c.if-is_one.true) c.print_key_comments.ensures

pub returns-else-is_one : goal.returns-else-is_one
returns-else-is_one c = rw (sym c.is_one.ensures ∙ c.if-is_one.false) (nothing_laid _)
