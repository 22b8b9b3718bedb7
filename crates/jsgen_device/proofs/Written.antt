-- What the loop over a writer keeps, and how a write goes on from it.
use Rattle.std.proofs.Common.{◌≡◌, ℕ, ◌+◌, ◌-◌, ◌≤◌, List, ◌++◌, length, take, drop, ap, subst, sym, ◌∙◌, arith, length-take, take-add, take-take}
use Rattle.std.proofs.KnownBytes.{Appends-trans, Appends-kept}
use Rattle.std.specs.Io.KnownBytes.{Appends, Keeps}
use Rattle.std.specs.declared.option.Option.{Option}

-- the first bytes are written
pub record WrittenSoFar (old now : Option (List ℕ)) (bytes : List ℕ) (at : ℕ) : Type 0 where
  pub within : at ≤ length bytes
  pub written : Appends old now (take at bytes)

-- what is handed to the next write
abbrev pub rest_of : List ℕ → ℕ → List ℕ
rest_of bytes at = take (length bytes - at) (drop at bytes)

-- a write takes the next ones
pub write_next : (old mid new : Option (List ℕ)) (bytes : List ℕ) (at count : ℕ) → WrittenSoFar old mid bytes at →
    count ≤ length (rest_of bytes at) → Appends mid new (take count (rest_of bytes at)) → WrittenSoFar old new bytes (at + count)
write_next old mid new bytes at count done bound more =
    let fits : count ≤ length bytes - at = omega (arith, bound, length-take (length bytes - at) (drop at bytes)) in
    let next : take at bytes ++ take count (rest_of bytes at) ≡ take (at + count) bytes =
    ap (λ l. take at bytes ++ l) (take-take count (length bytes - at) (drop at bytes) fits) ∙ sym (take-add at count bytes) in
    record {
      within = omega (arith, fits, done.within);
      written = subst (λ bs. Appends old new bs) next (Appends-trans old mid new _ _ done.written more);
    }

-- or none
pub write_none : (old mid new : Option (List ℕ)) (bytes : List ℕ) (at : ℕ) → WrittenSoFar old mid bytes at → Keeps mid new →
    WrittenSoFar old new bytes at
write_none old mid new bytes at done kept = record { within = done.within; written = Appends-kept old mid new _ done.written kept }
