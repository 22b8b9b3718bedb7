use Rattle.std.proofs.Common.{sym, ◌∙◌}
use Rattle.jsgen_tree.specs.Rows.{template_element_row}
use Rattle.jsgen_lists.proofs.Pieces.{opens_alone, opens_others}
use Rattle.jsgen_lists.proofs.templates.opening_part.Goals as goal

pub returns-then-is_empty : goal.returns-then-is_empty
returns-then-is_empty c = opens_alone template_element_row c.args.others.now (sym c.is_empty.ensures ∙ c.if-is_empty.true)

pub returns-else-is_empty : goal.returns-else-is_empty
returns-else-is_empty c = opens_others template_element_row c.args.others.now (sym c.is_empty.ensures ∙ c.if-is_empty.false)
