-- How many bytes a text has.
use Rattle.std.proofs.Common.{◌≡◌, ℕ, ◌+◌, ◌≤◌, List, [], ◌∷◌, ◌++◌, ap, arith, length-append}
use Rattle.std.specs.Char.{encode_utf8}
use Rattle.std.specs.Str.{encode_utf8_all}
use Rattle.std.proofs.lemmas.Str.{length-encode, len_utf8_bounds}
use Rattle.jsgen_model.specs.Marks.{size}

pub size_append : (a b : List ℕ) → size (a ++ b) ≡ size a + size b
size_append [] b = omega arith
size_append (c ∷ a) b = omega (arith, size_append a b, length-append (encode_utf8 c) (encode_utf8_all (a ++ b)), length-append (encode_utf8 c) (encode_utf8_all a))

pub size_some : (c : ℕ) (cs : List ℕ) → 1 ≤ size (c ∷ cs)
size_some c cs = omega (arith, length-append (encode_utf8 c) (encode_utf8_all cs), length-encode c, len_utf8_bounds c)

pub longer : (a b t : List ℕ) → b ≡ a ++ t → size a ≤ size b
longer a b t e = omega (arith, ap size e, size_append a t)
