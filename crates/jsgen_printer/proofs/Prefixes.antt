-- Texts that another begins with, in characters and in bytes.
use Rattle.std.proofs.Common.{◌≡◌, refl, ℕ, List, [], ◌∷◌, ◌++◌, length, take, drop, sym, ap, subst, ◌∙◌, append_assoc, append-nil, length-append, take-append-drop, arith}
use Rattle.std.specs.Char.{encode_utf8}
use Rattle.std.specs.Str.{chars, encode_utf8_all, IsUtf8}
use Rattle.std.proofs.lemmas.Str.{chars_from_encodes, encode_same, length-encode, len_utf8_bounds}
use Rattle.jsgen_model.specs.Printing.{IsPrefix}

pub whole_prefix : (a : List ℕ) → IsPrefix a a
whole_prefix a = record { rest = []; is = sym (append-nil a) }

pub prefix_append : (a t : List ℕ) → IsPrefix a (a ++ t)
prefix_append a t = record { rest = t; is = refl }

pub more_prefix : {a b : List ℕ} (t : List ℕ) → IsPrefix a b → IsPrefix a (b ++ t)
more_prefix {a} t p = record { rest = p.rest ++ t; is = ap (λ l. l ++ t) p.is ∙ append_assoc a p.rest t }

pub prefix_of_prefix : {a b c : List ℕ} → IsPrefix a b → IsPrefix b c → IsPrefix a c
prefix_of_prefix {a} {b} {c} p q = record { rest = p.rest ++ q.rest; is = q.is ∙ (ap (λ l. l ++ q.rest) p.is ∙ append_assoc a p.rest q.rest) }

-- behind the same text
pub prefix_behind : (t : List ℕ) {a b : List ℕ} → IsPrefix a b → IsPrefix (t ++ a) (t ++ b)
prefix_behind t {a} {b} p = record { rest = p.rest; is = ap (λ l. t ++ l) p.is ∙ sym (append_assoc t a p.rest) }

-- ---- characters

-- what the bytes of a text begin with that is whole characters, are some of its first characters
first_characters : (es text : List ℕ) (rest : List ℕ) → encode_utf8_all es ++ rest ≡ encode_utf8_all text → IsPrefix es text
first_characters [] text rest e = record { rest = text; is = refl }
first_characters (c ∷ es) [] rest e = absurd (omega (arith, ap length e, length-append (encode_utf8 c ++ encode_utf8_all es) rest, length-append (encode_utf8 c) (encode_utf8_all es), length-encode c, len_utf8_bounds c))
first_characters (c ∷ es) (d ∷ text) rest e =
    let same = encode_same c d (encode_utf8_all es ++ rest) (encode_utf8_all text) (sym (append_assoc (encode_utf8 c) (encode_utf8_all es) rest) ∙ e) in
    let first = first_characters es text rest same.1 in
    record { rest = first.rest; is = ap (λ x. x ∷ text) (sym same.0) ∙ ap (λ l. c ∷ l) first.is }

-- some first bytes of a text that are UTF-8 are its first characters
pub first_bytes : (text : List ℕ) (n : ℕ) → IsUtf8 (take n (encode_utf8_all text)) → IsPrefix (chars (take n (encode_utf8_all text))) text
first_bytes text n u =
    let are : u.0 ≡ chars (take n (encode_utf8_all text)) = chars_from_encodes u.0 (take n (encode_utf8_all text)) u u.1.1 in
    subst (λ cs. IsPrefix cs text) are (first_characters u.0 text (drop n (encode_utf8_all text)) (ap (λ l. l ++ drop n (encode_utf8_all text)) u.1.1 ∙ take-append-drop n (encode_utf8_all text)))
