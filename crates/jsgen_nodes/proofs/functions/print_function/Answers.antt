use Rattle.jsgen_printer.proofs.Sequence.{◌⨾◌, wrapped_at_start_laid}
use Rattle.jsgen_model.specs.Items.{a_declaration}
use Rattle.jsgen_nodes.proofs.functions.print_function.Goals as goal

pub returns-in-Declaration : goal.returns-in-Declaration
returns-in-Declaration g c = rw c.in-Declaration.is (c.print_before_declaration_if.ensures ⨾ (c.print_indentation_if.ensures ⨾ (c.print_from_word.ensures ⨾ c.print_soft_line_if.ensures)))

pub returns-in-Expression : goal.returns-in-Expression
returns-in-Expression g c = rw c.in-Expression.is (c.print_annotation_if.ensures ⨾ wrapped_at_start_laid c.args.node.now.pife a_declaration c.is_in_parentheses-wrap.result c.is_in_parentheses-wrap.ensures c.print_opening_if.ensures (c.print_comments_within.ensures ⨾ c.print_from_word-in-Expression.ensures) c.print_closing_if.ensures)
