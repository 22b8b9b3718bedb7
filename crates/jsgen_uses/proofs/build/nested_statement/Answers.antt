use Rattle.jsgen_tree.proofs.Knot.{plain_statement}
use Rattle.jsgen_uses.proofs.build.nested_statement.Goals as goal

pub returns : goal.returns
returns c = rw c.into.ensures (plain_statement c.args.statement)
