use Rattle.jsgen_tree.specs.Rows.{in_property_key}
use Rattle.jsgen_nodes.proofs.collections.print_key.Goals as goal

pub returns : goal.returns
returns g c = rw (c.needs_brackets.ensures (in_property_key g.N.PrintNode.plain c.args.key.now) c.is_negative_key.ensures) at c.print_key_if.ensures
