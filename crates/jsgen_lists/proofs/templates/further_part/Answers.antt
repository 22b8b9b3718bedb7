use Rattle.std.proofs.Common.{sym, ◌∙◌}
use Rattle.jsgen_tree.specs.Rows.{template_element_row}
use Rattle.jsgen_lists.proofs.Pieces.{ends_alone, goes_on}
use Rattle.jsgen_lists.proofs.templates.further_part.Goals as goal

pub returns-then-is_empty : goal.returns-then-is_empty
returns-then-is_empty c = ends_alone template_element_row c.args.others.now (sym c.is_empty.ensures ∙ c.if-is_empty.true)

pub returns-else-is_empty : goal.returns-else-is_empty
returns-else-is_empty c = goes_on template_element_row c.args.others.now (sym c.is_empty.ensures ∙ c.if-is_empty.false)
