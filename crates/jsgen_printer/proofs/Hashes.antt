-- A text behind `#`, in UTF-8.
use Rattle.std.proofs.Common.{◌≡◌, ◌≢◌, ℕ, false, List, ◌∷◌, bytes_eq, refl, sym, ◌∙◌}
use Rattle.std.specs.Str.{encode_utf8_all}
use Rattle.std.proofs.Math.Utf8.{encode}
use Rattle.std.proofs.lemmas.Bool.{false_from_ne_true}
use Rattle.std.proofs.lemmas.Slice.Eq.{bytes_eq-Decides}

hash_first : (cs : List ℕ) → encode_utf8_all (35 ∷ cs) ≡ 35 ∷ encode_utf8_all cs
unfolding encode
hash_first cs = refl

pub same_behind_hash : (text own cs : List ℕ) → text ≡ 35 ∷ own → bytes_eq own (encode_utf8_all cs) ≡ bytes_eq text (encode_utf8_all (35 ∷ cs))
same_behind_hash text own cs e = rw (e, hash_first cs) refl

pub no_hash : (text cs : List ℕ) → ((rest : List ℕ) → text ≢ 35 ∷ rest) → false ≡ bytes_eq text (encode_utf8_all (35 ∷ cs))
no_hash text cs h = sym (false_from_ne_true (bytes_eq text (encode_utf8_all (35 ∷ cs))) (λ e. h (encode_utf8_all cs) ((bytes_eq-Decides text (encode_utf8_all (35 ∷ cs))).0 e ∙ hash_first cs)))
