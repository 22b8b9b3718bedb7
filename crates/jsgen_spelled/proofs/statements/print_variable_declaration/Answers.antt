-- Generated from tools/nodes/table.txt; edit that and run tools/nodes/generate.
-- The steps in a row.
use Rattle.jsgen_printer.proofs.Sequence.{◌⨾◌}
use Rattle.jsgen_spelled.proofs.Words.{declaration_word_is_ascii}
use Rattle.jsgen_spelled.proofs.statements.print_variable_declaration.Goals as goal

pub print_word-requires : goal.print_word-requires
print_word-requires g c = rw c.as_str.ensures (declaration_word_is_ascii c.args.node.now.kind)

pub returns : goal.returns
returns g c = c.begin_line_if.ensures ⨾ ((c.print_mark.ensures ⨾ ((rw c.as_str.ensures at c.print_word.ensures) ⨾ (c.print_soft_space.ensures ⨾ (rw (c.deref.ensures.value, c.child.ensures) at c.print_list.ensures)))) ⨾ c.print_statement_end_if.ensures)
