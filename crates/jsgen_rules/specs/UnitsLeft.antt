-- The units that are left of a string.
use Rattle.std.specs.Prelude.{ℕ, List, [], ◌∷◌, ◌++◌, Bool, false, Option, Some, None, flat_map}
use Rattle.std.specs.Char.Escape.{encode_utf16}
use Rattle.std.specs.Str.{chars, bytes_eq}
use Rattle.jsgen_rules.specs.declared.units.Units.{Units}

abbrev pub second_unit : Option ℕ → List ℕ
second_unit None = []
second_unit (Some u) = u ∷ []

abbrev pub left : Units → List ℕ
left units = second_unit units.second ++ flat_map encode_utf16 (chars units.rest.now)

-- the units are these
abbrev pub is_value : Option (List ℕ) → List ℕ → Bool
is_value None units = false
is_value (Some us) units = bytes_eq us units

-- whether others are what is left behind those that were taken, where they could be
abbrev pub go_on : Option (List ℕ) → Option Units → Bool
go_on others None = false
go_on others (Some units) = is_value others (left units)
