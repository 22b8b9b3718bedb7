use Rattle.jsgen_model.specs.Punctuator.{Brace}
use Rattle.jsgen_printer.proofs.Sequence.{◌⨾◌, in_brackets_laid}
use Rattle.jsgen_lists.proofs.braces.print_orphan_braces.Goals as goal

pub returns : goal.returns
returns c = c.print_mark.ensures ⨾ (in_brackets_laid Brace c.print_opening.ensures (c.print_orphan_lines.ensures ⨾ c.print_end_mark.ensures) c.print_closing.ensures ⨾ c.drop_semicolon.ensures.lays)
