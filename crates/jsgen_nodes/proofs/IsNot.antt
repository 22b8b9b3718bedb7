-- That a member of a set is none of a type.
use Rattle.std.proofs.Common.{◌≡◌}

abbrev pub IsNot : {B S : Type 0} → S → (B → S) → Type 0
IsNot {B} n variant = (b : B) → n ≡ variant b → ⊥
