use Rattle.jsgen_printer.proofs.Sequence.{◌⨾◌, wrapped_at_start_laid}
use Rattle.std.proofs.Common.{false}
use Rattle.jsgen_model.specs.Items.{a_declaration}
use Rattle.jsgen_classes.proofs.classes.print_class.Goals as goal

pub returns-in-Declaration : goal.returns-in-Declaration
returns-in-Declaration g c = rw c.in-Declaration.is (c.print_comments_if.ensures ⨾ (c.print_indentation_if.ensures ⨾ (c.print_from_word.ensures ⨾ c.print_soft_line_if.ensures)))

pub returns-in-Expression : goal.returns-in-Expression
returns-in-Expression g c = rw c.in-Expression.is (wrapped_at_start_laid false a_declaration c.bars_declaration-wrap.result c.bars_declaration-wrap.ensures c.print_opening_if.ensures c.print_from_word-in-Expression.ensures c.print_closing_if.ensures)
