use Rattle.jsgen_printer.proofs.Sequence.{◌⨾◌, nothing_laid}
use Rattle.jsgen_tree.specs.Inside.{written_name_in}
use Rattle.jsgen_tree.specs.Rows.{in_property_key, in_assignment_target_maybe_default}
use Rattle.jsgen_model.specs.Punctuator.{colon}
use Rattle.jsgen_model.specs.Items.{◌⊕◌, punctuator, soft_space}
use Rattle.jsgen_model.specs.Spell.{target_named}
use Rattle.jsgen_nodes.specs.Keys.{key_of}
use Rattle.jsgen_nodes.proofs.Keys.{before_target_laid}
use Rattle.jsgen_nodes.proofs.targets.print_before_target.Goals as goal

pub returns-then-is_key_left_out : goal.returns-then-is_key_left_out
returns-then-is_key_left_out g c =
    let key = in_property_key g.N.PrintNode.plain c.args.node.now.name in
    let target = in_assignment_target_maybe_default g.N.PrintNode.plain c.args.node.now.binding in
    before_target_laid c.is_key_left_out.result (written_name_in key) (target_named target) (key_of c.args.node.now.computed key ⊕ (punctuator colon ⊕ soft_space)) c.is_key_left_out.ensures (rw c.if-is_key_left_out.true (nothing_laid c.args.p.now))

pub returns : goal.returns
returns g c =
    let key = in_property_key g.N.PrintNode.plain c.args.node.now.name in
    let target = in_assignment_target_maybe_default g.N.PrintNode.plain c.args.node.now.binding in
    before_target_laid c.is_key_left_out.result (written_name_in key) (target_named target) (key_of c.args.node.now.computed key ⊕ (punctuator colon ⊕ soft_space)) c.is_key_left_out.ensures (rw c.if-is_key_left_out.false (c.print_key.ensures ⨾ (c.print_colon.ensures ⨾ c.print_soft_space.ensures)))
