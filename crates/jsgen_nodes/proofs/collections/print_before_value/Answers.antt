use Rattle.jsgen_printer.proofs.Sequence.{◌⨾◌, nothing_laid}
use Rattle.jsgen_tree.specs.Inside.{inside_parentheses, looked_up_in, written_name_in}
use Rattle.jsgen_tree.specs.Rows.{in_property_key, in_expression}
use Rattle.jsgen_nodes.specs.Keys.{key_of}
use Rattle.jsgen_nodes.proofs.Keys.{before_value_laid}
use Rattle.jsgen_nodes.proofs.collections.print_before_value.Goals as goal

pub returns-then-is_value_alone : goal.returns-then-is_value_alone
returns-then-is_value_alone g c =
    let key = in_property_key g.N.PrintNode.plain c.args.node.now.key in
    let value = in_expression g.N.PrintNode.plain c.args.node.now.value in
    before_value_laid c.args.node.now.shorthand c.is_value_alone.result (written_name_in key) (looked_up_in (inside_parentheses value)) (key_of c.args.node.now.computed key) c.is_value_alone.ensures (rw c.if-is_value_alone.true (nothing_laid c.args.p.now))

pub returns : goal.returns
returns g c =
    let key = in_property_key g.N.PrintNode.plain c.args.node.now.key in
    let value = in_expression g.N.PrintNode.plain c.args.node.now.value in
    before_value_laid c.args.node.now.shorthand c.is_value_alone.result (written_name_in key) (looked_up_in (inside_parentheses value)) (key_of c.args.node.now.computed key) c.is_value_alone.ensures (rw c.if-is_value_alone.false (c.print_key.ensures ⨾ (c.print_colon.ensures ⨾ c.print_soft_space.ensures)))
