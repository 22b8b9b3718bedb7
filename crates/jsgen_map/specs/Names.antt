-- Names and their numbers.
use Rattle.std.specs.Prelude.{◌≡◌, ℕ, List, Option, Some, map}
use Rattle.std.specs.Cmp.Lexicographic.{slice_cmp}
use Rattle.std.specs.Ordering.{nat_cmp}
use Rattle.std.specs.BTreeMap.{is_at}
use Rattle.std.specs.Map.{lookup}
use denote.Ref.{Bor}
use Rattle.jsgen_map.specs.Marks.{number_from, number_of, with_name}

-- what texts say that are lent
abbrev pub texts : List (Bor (List ℕ)) → List (List ℕ)
texts names = map (λ (name : Bor (List ℕ)). name.now) names

-- a map's entries have the number of each name
pub record NumbersOf (names : List (List ℕ)) (numbers : List (Bor (List ℕ) × ℕ)) : Type 0 where
  pub each : (w : List ℕ) → lookup (is_at (λ (k : Bor (List ℕ)). slice_cmp nat_cmp w k.now)) numbers ≡ number_from 0 names w

-- a name was added, unless it was there, and this is its number
pub record AddsName (old : List (List ℕ)) (w : List ℕ) (new : List (List ℕ)) (numbers : List (Bor (List ℕ) × ℕ)) (n : ℕ) : Type 0 where
  pub names : new ≡ with_name old (Some w)
  pub number : number_from 0 new w ≡ Some n
  pub each : NumbersOf new numbers

-- the same where there may be a name
pub record IsNumbered (old : List (List ℕ)) (w : Option (List ℕ)) (new : List (List ℕ)) (numbers : List (Bor (List ℕ) × ℕ)) (n : Option ℕ) : Type 0 where
  pub names : new ≡ with_name old w
  pub number : number_of new w ≡ n
  pub each : NumbersOf new numbers
