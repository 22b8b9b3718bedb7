-- What a loop may not give its values, by the fault that it is, and of the members of each set.
use Rattle.std.proofs.Common.{◌≡◌, refl}
use Rattle.jsgen_tree.specs.Tree.{Tree, span_of}
use Rattle.jsgen_tree.specs.Nodes as tree
use Rattle.jsgen_tree.specs.Inside.{has_optional_link}
use Rattle.jsgen_tree.specs.Plain.{node_plain}
use Rattle.jsgen_tree.specs.Rows.{expression_plain, assignment_target_plain}
use Rattle.jsgen_tree.specs.declared.nodes.Node.{Node}
use Rattle.jsgen_tree.specs.declared.sets.Expression.{Expression}
use Rattle.jsgen_tree.specs.declared.sets.AssignmentTarget.{AssignmentTarget}
use Rattle.jsgen_tree.specs.declared.sets.Expression.TheVariants as expressions
use Rattle.jsgen_tree.specs.declared.sets.AssignmentTarget.TheVariants as targets
use Rattle.jsgen_model.specs.Valid.{fault_if, left_faults}
use Rattle.jsgen_model.specs.declared.fault.TreeFault.TheVariants as faults
use Rattle.jsgen_check.specs.Heads.{misfits_left}

pub left_misfit : (t : Tree) → fault_if (misfits_left t) (faults.Place (span_of t).start) ≡ left_faults t
left_misfit (tree.variable_declaration a declarations) = refl
left_misfit t = refl

pub expression_misfit : (n : Expression Node) → has_optional_link (expression_plain node_plain n) ≡ misfits_left (expression_plain node_plain n)
expression_misfit (expressions.StringLiteral b) = refl
expression_misfit n = refl

pub target_misfit : (n : AssignmentTarget Node) → has_optional_link (assignment_target_plain node_plain n) ≡ misfits_left (assignment_target_plain node_plain n)
target_misfit (targets.IdentifierReference b) = refl
target_misfit (targets.StaticMemberExpression b) = refl
target_misfit (targets.ComputedMemberExpression b) = refl
target_misfit (targets.PrivateFieldExpression b) = refl
target_misfit (targets.ArrayAssignmentTarget b) = refl
target_misfit (targets.ObjectAssignmentTarget b) = refl
