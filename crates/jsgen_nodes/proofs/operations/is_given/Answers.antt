use Rattle.jsgen_tree.specs.Rows.{in_argument}
use Rattle.jsgen_nodes.proofs.Constructions.{given_by_count}
use Rattle.jsgen_nodes.proofs.operations.is_given.Goals as goal

pub returns : goal.returns
returns g c = rw c.is_empty.ensures (given_by_count (in_argument g.N.PrintNode.plain) c.args.arguments.now)
