-- Whether a class or a function has a name.
use Rattle.std.proofs.Common.{◌≡◌, Option, Some, None, is_some, option_map, refl}
use Rattle.jsgen_tree.specs.Tree.{Tree, optional}
use Rattle.jsgen_tree.specs.Inside.{has_name}

pub name_given : {A : Type 0} (f : A → Tree) (o : Option A) → has_name (optional (option_map f o)) ≡ is_some o
name_given f None = refl
name_given f (Some x) = refl
