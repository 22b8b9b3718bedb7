use Rattle.std.proofs.Common.{sym, ◌∙◌}
use Rattle.jsgen_tree.specs.Plain.{node_plain}
use Rattle.jsgen_check.proofs.Bare.{bound_there, class_there, function_there}
use Rattle.jsgen_check.proofs.NodeCheckNode.fits_kind.Goals as goal

pub returns-in-Some : goal.returns-in-Some
returns-in-Some c = (rw c.is_some.ensures at c.function_fits.ensures) ∙ function_there c.args.set (node_plain c.args.self.now) c.in-Some.function.now (rw c.in-Some.is at c.as_function.ensures)

pub returns-in-Some-class_head : goal.returns-in-Some-class_head
returns-in-Some-class_head c = c.class_fits.ensures ∙ class_there c.args.set (node_plain c.args.self.now) c.in-Some-class_head.kind c.in-Some-class_head.has_name (sym c.class_head.ensures ∙ c.in-Some-class_head.is)

pub returns-in-None-class_head : goal.returns-in-None-class_head
returns-in-None-class_head c = c.is_bound.ensures ∙ bound_there c.args.set (node_plain c.args.self.now) (sym (rw c.in-None.is at c.as_function.ensures)) (sym c.class_head.ensures ∙ c.in-None-class_head.is)
