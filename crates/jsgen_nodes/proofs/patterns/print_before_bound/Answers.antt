use Rattle.jsgen_printer.proofs.Sequence.{◌⨾◌, nothing_laid}
use Rattle.jsgen_tree.specs.Inside.{bound_in, written_name_in}
use Rattle.jsgen_tree.specs.Rows.{in_property_key, in_binding_pattern}
use Rattle.jsgen_nodes.specs.Keys.{key_of}
use Rattle.jsgen_nodes.proofs.Keys.{before_bound_laid}
use Rattle.jsgen_nodes.proofs.patterns.print_before_bound.Goals as goal

pub returns-then-is_bound_alone : goal.returns-then-is_bound_alone
returns-then-is_bound_alone g c =
    let key = in_property_key g.N.PrintNode.plain c.args.node.now.key in
    let value = in_binding_pattern g.N.PrintNode.plain c.args.node.now.value in
    before_bound_laid c.is_bound_alone.result (written_name_in key) (bound_in value) (key_of c.args.node.now.computed key) c.is_bound_alone.ensures (rw c.if-is_bound_alone.true (nothing_laid c.args.p.now))

pub returns : goal.returns
returns g c =
    let key = in_property_key g.N.PrintNode.plain c.args.node.now.key in
    let value = in_binding_pattern g.N.PrintNode.plain c.args.node.now.value in
    before_bound_laid c.is_bound_alone.result (written_name_in key) (bound_in value) (key_of c.args.node.now.computed key) c.is_bound_alone.ensures (rw c.if-is_bound_alone.false (c.print_key.ensures ⨾ (c.print_colon.ensures ⨾ c.print_soft_space.ensures)))
