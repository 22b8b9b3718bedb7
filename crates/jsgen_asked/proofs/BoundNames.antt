-- The name that a pattern is.
use Rattle.std.proofs.Common.{◌≡◌, ℕ, Option, Some, None, refl, ap}
use Rattle.jsgen_tree.specs.Characters.{characters, number_if_given}
use Rattle.jsgen_tree.specs.Values.{as_number_if_given}
use Rattle.jsgen_tree.specs.Rows.{binding_identifier_row}
use Rattle.jsgen_tree.specs.Named.{bound}
use Rattle.jsgen_tree.specs.Inside.{bound_in, bound_by}
use Rattle.jsgen_tree.specs.declared.statements.BindingIdentifier.{BindingIdentifier}

number_given : (s : Option ℕ) → s ≡ as_number_if_given (number_if_given s)
number_given None = refl
number_given (Some n) = refl

pub bound_row : (n : BindingIdentifier) → Some (bound_by n) ≡ bound_in (binding_identifier_row n)
bound_row n = ap (λ s. Some (bound s (characters n.name))) (number_given n.symbol)
