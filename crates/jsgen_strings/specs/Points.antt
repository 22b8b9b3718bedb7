-- Bytes that hold code points, in UTF-8 or in WTF-8.
use Rattle.std.specs.Prelude.{◌≡◌, ℕ, List, [], ◌∷◌, Bool, true, not, ◌&&◌, ◌||◌, ◌==◌, nat_lt, nat_le}
use Rattle.std.specs.List.{list_all}
use Rattle.std.specs.Str.{chars, encode_utf8_all}

abbrev pub is_point : ℕ → Bool
is_point c = nat_lt c 0x11_0000

-- the bytes are those of some code points, which may be surrogates
abbrev pub ArePoints : List ℕ → Type 0
ArePoints bytes = (encode_utf8_all (chars bytes) ≡ bytes) × (list_all is_point (chars bytes) ≡ true)

-- a character that every text prints as it is, and that tells nothing of those behind it
abbrev pub is_plain : ℕ → Bool
is_plain c = nat_le 32 c && nat_lt c 128 && not ((c == 34) || (c == 36) || (c == 39) || (c == 47) || (c == 60) || (c == 92) || (c == 96))

abbrev pub first_point : List ℕ → ℕ
first_point [] = 0
first_point (c ∷ cs) = c

abbrev pub are_ascii : List ℕ → Bool
are_ascii text = list_all (λ c. nat_lt c 128) text
