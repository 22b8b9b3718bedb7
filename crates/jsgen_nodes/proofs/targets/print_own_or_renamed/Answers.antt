use Rattle.jsgen_tree.specs.Characters.{characters}
use Rattle.jsgen_tree.specs.Named.{looked_up, as_written}
use Rattle.jsgen_model.specs.Items.{name}
use Rattle.jsgen_model.specs.Spell.{renamed_items}
use Rattle.jsgen_printer.proofs.Sequence.{where_same_laid}
use Rattle.jsgen_nodes.proofs.Said.{number_given}
use Rattle.jsgen_nodes.proofs.targets.print_own_or_renamed.Goals as goal

pub returns-then-prints_as : goal.returns-then-prints_as
returns-then-prints_as c =
    let n = looked_up c.args.node.now.reference (characters c.args.node.now.name) in
    rw (number_given c.args.node.now.reference) (where_same_laid n (as_written (characters c.args.node.now.name)) (name c.args.node.now.span n) (renamed_items n) c.prints_as.result (rw (c.as_str.ensures.value, c.as_str-2.ensures.value) at c.prints_as.ensures) (rw c.if-prints_as.true (rw c.as_str-then-prints_as.ensures.value at c.print_reference.ensures)))

pub returns-else-prints_as : goal.returns-else-prints_as
returns-else-prints_as c =
    let n = looked_up c.args.node.now.reference (characters c.args.node.now.name) in
    rw (number_given c.args.node.now.reference) (where_same_laid n (as_written (characters c.args.node.now.name)) (name c.args.node.now.span n) (renamed_items n) c.prints_as.result (rw (c.as_str.ensures.value, c.as_str-2.ensures.value) at c.prints_as.ensures) (rw c.if-prints_as.false c.print_renamed.ensures))
