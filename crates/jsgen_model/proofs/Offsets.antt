-- Offsets in the bytes of a text.
use Rattle.std.proofs.Common.{◌≡◌, ℕ, zero, suc, ◌<◌, ◌≤◌, ◌⊎◌, inl, inr, true, false, ◌==◌, List, [], ◌∷◌, length, slice_get, slice_index, refl, arith}
use Rattle.std.specs.Option.{option_map_or}
use Rattle.std.specs.Str.{IsCharBoundary}
use Rattle.std.proofs.lemmas.Bool.{both_ways, or_cases, eqb-true}
use Rattle.std.proofs.lemmas.Bool.Decides.{nat_tests}
use Rattle.jsgen_model.specs.Spans.{begins_character, is_offset}

character : (b : ℕ) → begins_character b ≡ true → 128 ≤ b → 192 ≤ b
character b h high = grind (arith, nat_tests)

at_character : (bytes : List ℕ) (i : ℕ) → option_map_or begins_character (slice_get bytes i) false ≡ true → (i < length bytes) × (128 ≤ slice_index bytes i → 192 ≤ slice_index bytes i)
at_character [] i h = absurd (both_ways false refl h)
at_character (b ∷ bytes) zero h = (omega arith, character b h)
at_character (b ∷ bytes) (suc i) h = let k = at_character bytes i h in (omega (arith, k.0), k.1)

-- a text may be cut at its offsets
pub at_boundary : (bytes : List ℕ) (i : ℕ) → is_offset bytes i ≡ true → IsCharBoundary bytes i
at_boundary bytes i h = by (or_cases (i == length bytes) (option_map_or begins_character (slice_get bytes i) false) h)
  where
    by : ((i == length bytes) ≡ true) ⊎ (option_map_or begins_character (slice_get bytes i) false ≡ true) → IsCharBoundary bytes i
    by (inl e) = let is = eqb-true i (length bytes) e in (omega (arith, is), λ l. absurd (omega (arith, is, l)))
    by (inr e) = let k = at_character bytes i e in (omega (arith, k.0), λ _. k.1)
