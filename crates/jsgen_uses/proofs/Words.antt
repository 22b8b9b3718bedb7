-- The words of the statement.
use Rattle.std.proofs.Common.{◌≡◌, ℕ, ◌<◌, true, nat_lt, List, [], ◌∷◌, codes, refl, arith}
use Rattle.std.specs.List.{list_all}
use Rattle.std.specs.Str.{chars, IsAscii}
use Rattle.std.proofs.lemmas.Bool.{and_parts}
use Rattle.std.proofs.lemmas.Bool.Decides.{nat_tests}
use Rattle.std.proofs.lemmas.Str.{chars-IsAscii}
use Rattle.std.proofs.lemmas.Str.Ascii.{IsAscii-nil, IsAscii-cons}
use lib.Utf8.{encode}
use Rattle.unicode_ident.proofs.Computing.{unicode_ident}
use Rattle.jsgen_syntax.specs.Name.{spells_name, is_reserved, is_strict_reserved, is_free_name}

below : (b : ℕ) → nat_lt b 128 ≡ true → b < 128
below b h = grind (arith, nat_tests)

ascii : (bs : List ℕ) → list_all (λ b. nat_lt b 128) bs ≡ true → IsAscii bs
ascii [] h = IsAscii-nil
ascii (b ∷ bs) h =
    let parts = and_parts (nat_lt b 128) (list_all (λ b. nat_lt b 128) bs) h in
    IsAscii-cons b bs (below b parts.0) (ascii bs parts.1)

-- the characters of each are its bytes
pub console_chars : chars (codes "console") ≡ codes "console"
console_chars = chars-IsAscii (codes "console") (ascii (codes "console") refl)

pub log_chars : chars (codes "log") ≡ codes "log"
log_chars = chars-IsAscii (codes "log") (ascii (codes "log") refl)

pub empty_chars : chars [] ≡ []
empty_chars = chars-IsAscii [] IsAscii-nil

pub console_is_free : is_free_name (codes "console") ≡ true
unfolding unicode_ident is_reserved is_strict_reserved encode
console_is_free = refl

pub log_is_name : spells_name (codes "log") ≡ true
unfolding unicode_ident
log_is_name = refl
