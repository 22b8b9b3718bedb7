use Rattle.jsgen_tree.proofs.Knot.{plain_expression}
use Rattle.jsgen_uses.proofs.build.nested.Goals as goal

pub returns : goal.returns
returns c = rw c.into.ensures (plain_expression c.args.expression)
