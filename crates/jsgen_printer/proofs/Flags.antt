-- A flag that is set and unset again leaves the other bits.
use Rattle.std.proofs.Common.{◌≡◌, ℕ, sym, ap, ◌∙◌}
use Rattle.std.specs.Int.RustNames.{bit_and, bit_or}
use Rattle.std.proofs.lemmas.Nat.{and_assoc, and_comm, and_or_apart}
use Rattle.std.specs.Int.Bits.{and_zero_r}

apart : (other : ℕ) → bit_and other 254 ≡ other → bit_and 1 other ≡ 0
apart other is = and_comm 1 other ∙ (ap (λ x. bit_and x 1) (sym is) ∙ (and_assoc 1 other 254 ∙ and_zero_r other))

pub others_stay : (bits other : ℕ) → bit_and other 254 ≡ other → bit_and bits other ≡ bit_and (bit_and (bit_or bits 1) 254) other
others_stay bits other is =
    sym (and_assoc other (bit_or bits 1) 254 ∙ (ap (bit_and (bit_or bits 1)) (and_comm 254 other ∙ is) ∙ and_or_apart other bits 1 (apart other is)))
