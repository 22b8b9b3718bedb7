use Rattle.jsgen_printer.proofs.Sequence.{◌⨾◌}
use Rattle.jsgen_modules.proofs.parts.begin_module_word.Goals as goal

pub returns : goal.returns
returns c = c.print_comments.ensures ⨾ (c.print_indentation.ensures ⨾ (c.print_mark.ensures ⨾ c.print_word.ensures))
