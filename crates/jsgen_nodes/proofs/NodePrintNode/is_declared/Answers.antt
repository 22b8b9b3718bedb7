use Rattle.std.proofs.Common.{sym, ◌∙◌}
use Rattle.jsgen_tree.specs.Plain.{node_plain}
use Rattle.jsgen_nodes.proofs.Exported.{function_declared, class_declared, neither_declared}
use Rattle.jsgen_nodes.proofs.NodePrintNode.is_declared.Goals as goal

pub returns-in-Some : goal.returns-in-Some
returns-in-Some c = c.is_declared_function.ensures ∙ function_declared (node_plain c.args.self.now) c.in-Some.function.now (rw c.in-Some.is at c.as_function.ensures)

pub returns-in-Some-class_head : goal.returns-in-Some-class_head
returns-in-Some-class_head c = c.is_declared_class.ensures ∙ class_declared (node_plain c.args.self.now) c.in-Some-class_head.kind _ (sym c.class_head.ensures ∙ c.in-Some-class_head.is)

pub returns-in-None-class_head : goal.returns-in-None-class_head
returns-in-None-class_head c = neither_declared (node_plain c.args.self.now) (sym (rw c.in-None.is at c.as_function.ensures)) (sym c.class_head.ensures ∙ c.in-None-class_head.is)
