use Rattle.jsgen_tree.specs.Rows.{in_argument}
use Rattle.jsgen_nodes.proofs.Asked.{no_second}
use Rattle.jsgen_nodes.proofs.quotes.has_second_string.Goals as goal

pub returns-in-None : goal.returns-in-None
returns-in-None g c = no_second (in_argument g.N.PrintNode.plain) c.args.arguments.now c.in-None.ensures.lookup.0
