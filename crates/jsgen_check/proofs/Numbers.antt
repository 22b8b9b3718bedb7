-- A number that may be absent is read as it is.
use Rattle.std.proofs.Common.{◌≡◌, ℕ, Option, Some, None, refl}
use Rattle.jsgen_tree.specs.Characters.{number_if_given}
use Rattle.jsgen_tree.specs.Values.{as_number_if_given}

pub as_given : (o : Option ℕ) → as_number_if_given (number_if_given o) ≡ o
as_given None = refl
as_given (Some n) = refl
