use Rattle.std.proofs.Common.{sym, ◌∙◌}
use Rattle.jsgen_tree.specs.Plain.{node_plain}
use Rattle.jsgen_nodes.proofs.Exported.{function_pure_declared, no_function_declared}
use Rattle.jsgen_nodes.proofs.NodePrintNode.is_pure_declaration.Goals as goal

pub returns-in-Some : goal.returns-in-Some
returns-in-Some c = c.is_pure_function.ensures ∙ function_pure_declared (node_plain c.args.self.now) c.in-Some.function.now (rw c.in-Some.is at c.as_function.ensures)

pub returns-in-None : goal.returns-in-None
returns-in-None c = no_function_declared (node_plain c.args.self.now) (sym (rw c.in-None.is at c.as_function.ensures))
