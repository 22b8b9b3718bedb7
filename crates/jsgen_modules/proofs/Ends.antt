-- What ends a declaration that is exported.
use Rattle.std.proofs.Common.{◌≡◌, refl}
use Rattle.jsgen_tree.specs.declared.types.NodeType.{NodeType}
use Rattle.jsgen_tree.specs.declared.types.NodeType.TheVariants as types
use Rattle.jsgen_model.specs.Items.{◌⊕◌, soft_line, drop_semicolon}
use Rattle.jsgen_model.specs.Spell.{exported_end}

pub ended_otherwise : (type : NodeType) → (type ≡ types.VariableDeclaration → ⊥) → exported_end type ≡ soft_line ⊕ drop_semicolon
ended_otherwise types.VariableDeclaration other = absurd (other refl)
ended_otherwise type other = refl
