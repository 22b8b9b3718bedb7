use Rattle.jsgen_printer.proofs.Sequence.{◌⨾◌}
use Rattle.jsgen_modules.proofs.parts.begin_export.Goals as goal

pub returns : goal.returns
returns c = c.print_comments.ensures ⨾ (c.print_annotation_line_if.ensures ⨾ (c.print_indentation.ensures ⨾ (c.print_mark.ensures ⨾ c.print_word.ensures)))
