-- What validity says of characters, said of bytes.
use Rattle.std.proofs.Common.{◌≡◌, ℕ, List, length, not, ◌&&◌, nat_lt, ap}
use Rattle.std.specs.Str.{chars, encode_utf8_all, IsUtf8}
use Rattle.std.proofs.lemmas.Str.{encodes-chars}
use Rattle.jsgen_syntax.specs.Name.{is_name, is_reserved, is_strict_reserved, is_free_name}
use Rattle.jsgen_model.specs.Valid.{is_too_long}

pub free_name : (bytes : List ℕ) → IsUtf8 bytes → is_free_name (chars bytes) ≡ (is_name bytes && not (is_reserved bytes) && not (is_strict_reserved bytes))
free_name bytes utf8 = ap (λ b. is_name bytes && not (is_reserved b) && not (is_strict_reserved b)) (encodes-chars bytes utf8)

pub too_long : (bytes : List ℕ) → IsUtf8 bytes → is_too_long (chars bytes) ≡ nat_lt 4294967295 (length bytes)
too_long bytes utf8 = ap (λ b. nat_lt 4294967295 (length b)) (encodes-chars bytes utf8)

pub encodes : (bytes : List ℕ) → IsUtf8 bytes → encode_utf8_all (chars bytes) ≡ bytes
encodes bytes utf8 = encodes-chars bytes utf8

pub ruleset free_names = (free_name)

pub ruleset lengths = (too_long)

pub ruleset encoded = (encodes)
