-- Where targets stand.
use Rattle.std.proofs.Common.{◌≡◌, refl}
use Rattle.jsgen_tree.specs.Tree.{Tree, span_of}
use Rattle.jsgen_tree.specs.Rows.{in_simple_assignment_target}
use Rattle.jsgen_tree.specs.Spans.{simple_assignment_target_span}
use Rattle.jsgen_tree.specs.declared.sets.SimpleAssignmentTarget.{SimpleAssignmentTarget}
use Rattle.jsgen_tree.specs.declared.sets.SimpleAssignmentTarget.TheVariants as targets

pub target_span : {N : Type 0} (h : N → Tree) (n : SimpleAssignmentTarget N) → simple_assignment_target_span n ≡ span_of (in_simple_assignment_target h n)
target_span h (targets.IdentifierReference b) = refl
target_span h (targets.StaticMemberExpression b) = refl
target_span h (targets.ComputedMemberExpression b) = refl
target_span h (targets.PrivateFieldExpression b) = refl
