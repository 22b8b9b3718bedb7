-- What is promised of the derived equality of enums.
use Rattle.std.specs.Prelude.{◌≡◌, ◌↔◌, Bool, IsTrue}

-- two values are equal exactly where they are one
abbrev pub IsByValue : {T : Type 0} → (T → T → Bool) → Type 0
IsByValue {T} eq = (a b : T) → IsTrue (eq a b) ↔ (a ≡ b)
