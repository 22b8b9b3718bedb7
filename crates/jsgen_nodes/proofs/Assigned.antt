-- An assignment by the type of its target.
use Rattle.std.proofs.Common.{◌≡◌, Bool, refl}
use Rattle.jsgen_tree.specs.declared.types.NodeType.{NodeType}
use Rattle.jsgen_tree.specs.declared.types.NodeType.TheVariants as types
use Rattle.jsgen_model.specs.Items.{Items, wrapped}
use Rattle.jsgen_model.specs.Spell.{assignment_items}

pub no_object_first : (type : NodeType) (test : Bool) (items : Items) → (type ≡ types.ObjectAssignmentTarget → ⊥) → assignment_items type test items ≡ wrapped test items
no_object_first types.ObjectAssignmentTarget test items no_object = absurd (no_object refl)
no_object_first type test items no_object = refl
