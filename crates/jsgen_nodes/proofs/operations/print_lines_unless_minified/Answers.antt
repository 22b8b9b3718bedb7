use Rattle.std.proofs.Common.{map, false}
use Rattle.jsgen_tree.specs.Rows.{in_argument}
use Rattle.jsgen_tree.specs.Tree.{trees}
use Rattle.jsgen_model.specs.Spell.{argument_items, spell_arguments}
use Rattle.jsgen_printer.proofs.Sequence.{left_out_laid, nothing_laid}
use Rattle.jsgen_nodes.proofs.operations.print_lines_unless_minified.Goals as goal

pub returns-then-not-is_minified : goal.returns-then-not-is_minified
returns-then-not-is_minified g c =
    let given = trees (map (in_argument g.N.PrintNode.plain) c.args.arguments.now) in
    left_out_laid (argument_items false given c.args.span (spell_arguments false false given c.args.place)) c.is_minified.result c.is_minified.ensures (rw c.if-not-is_minified.true c.print_argument_lines.ensures)

pub returns-else-not-is_minified : goal.returns-else-not-is_minified
returns-else-not-is_minified g c =
    let given = trees (map (in_argument g.N.PrintNode.plain) c.args.arguments.now) in
    left_out_laid (argument_items false given c.args.span (spell_arguments false false given c.args.place)) c.is_minified.result c.is_minified.ensures (rw c.if-not-is_minified.false (nothing_laid _))
