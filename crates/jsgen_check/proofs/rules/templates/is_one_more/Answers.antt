use Rattle.std.proofs.Common.{refl}
use Rattle.std.proofs.lemmas.List.{nil_from_length}
use Rattle.jsgen_tree.specs.Rows.{template_element_row, in_expression}
use Rattle.jsgen_check.proofs.Uncooked.{one_more_there}
use Rattle.jsgen_check.proofs.rules.templates.is_one_more.Goals as goal

pub returns-in-Some : goal.returns-in-Some
returns-in-Some g c = one_more_there template_element_row (in_expression g.N.CheckNode.plain) c.args.expressions.now c.in-Some.ensures.cases.0

pub returns-in-None : goal.returns-in-None
returns-in-None g c = rw (nil_from_length c.args.pieces.now c.in-None.ensures.cases) refl
