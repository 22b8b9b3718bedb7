use Rattle.jsgen_tree.specs.Plain.{node_plain}
use Rattle.jsgen_nodes.proofs.NoneBefore.{none_laid}
use Rattle.jsgen_nodes.proofs.NodePrintNode.print_comments_before.Goals as goal

pub returns-else-keeps_comments : goal.returns-else-keeps_comments
returns-else-keeps_comments c = none_laid c.args.p.now c.args.which (node_plain c.args.self.now) (c.keeps_comments.ensures c.if-keeps_comments.false)
