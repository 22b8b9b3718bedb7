-- Units of UTF-16 as bytes: WTF-8 has the bytes of UTF-8 for each pair of surrogates and for each other unit, a lone surrogate too.
use Rattle.std.specs.Prelude.{ℕ, List, [], ◌∷◌, Bool, ◌&&◌, nat_lt, nat_le, if◌then◌else◌, flat_map}
use Rattle.std.specs.Char.Escape.{encode_utf16}
use Rattle.std.specs.Char.Utf16.{is_high_surrogate, is_low_surrogate, surrogate_pair_char, has_unpaired_surrogate}
use Rattle.std.specs.List.{list_all}
use Rattle.std.specs.Str.{chars}

-- of 16 bits
abbrev pub is_unit : ℕ → Bool
is_unit u = nat_lt u 0x1_0000

abbrev pub are_units : List ℕ → Bool
are_units units = list_all is_unit units

-- the code points (ECMA-262, 11.1.4): each pair of a high and a low surrogate is one
unfoldable pub joined_units : List ℕ → List ℕ
joined_units [] = []
joined_units (u ∷ []) = u ∷ []
joined_units (u ∷ v ∷ us) = if is_high_surrogate u && is_low_surrogate v then surrogate_pair_char u v ∷ joined_units us
    else u ∷ joined_units (v ∷ us)

abbrev pub is_surrogate : ℕ → Bool
is_surrogate c = nat_le 0xD800 c && nat_lt c 0xE000

-- some surrogate is in no pair
abbrev pub has_lone : List ℕ → Bool
has_lone units = has_unpaired_surrogate units

-- the units that bytes in WTF-8 hold
abbrev pub wtf8_units : List ℕ → List ℕ
wtf8_units bytes = flat_map encode_utf16 (chars bytes)
