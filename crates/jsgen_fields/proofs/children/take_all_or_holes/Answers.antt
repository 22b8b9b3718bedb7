use Rattle.std.proofs.Common.{arith}
use Rattle.std.proofs.lemmas.Grind.{common_steps}
use Rattle.jsgen_fields.specs.Given.{given_data, given_items}
use Rattle.jsgen_fields.proofs.Listed.{left_behind}
use Rattle.jsgen_fields.proofs.children.take_all_or_holes.Goals as goal

pub returns-in_err-child : goal.returns-in_err-child
returns-in_err-child g c = grind (arith, common_steps, left_behind (given_items c.args.items) c.loop-index.index (given_data c.item.result) c.item.ensures)

pub loop-index-preserved : goal.loop-index-preserved
loop-index-preserved g c = grind (arith, common_steps, left_behind (given_items c.args.items) c.loop-index.index (given_data c.item.result) c.item.ensures)
