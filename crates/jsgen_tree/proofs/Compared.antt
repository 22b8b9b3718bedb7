-- What a derived equality says.
use Rattle.std.proofs.Common.{◌≡◌, ◌↔◌, ℕ, List, IsTrue, String, string_bytes, Global, refl, sym, ap, ◌∙◌, subst}
use Rattle.std.proofs.lemmas.Bool.Decides.{Decides-eqb}
use Rattle.std.proofs.lemmas.Slice.Eq.{slice_eq-Decides}
use Rattle.std.proofs.lemmas.Str.{IsUtf8-had, chars-encodes}
use Rattle.std.specs.Str.{chars, encode_utf8_all, IsUtf8}
use Rattle.std.specs.String.{string_eq}
use Rattle.jsgen_tree.specs.Characters.{characters}
use denote.Enum.Bare.{Bare, sameb, same_true, true_same}
use denote.Enum.Declared.{Declared}
use Rattle.jsgen_syntax.specs.Equality.{IsByValue}

-- an enum without fields
pub bare_is_by_value : (D : Declared) → Bare D.parts → IsByValue (sameb D)
bare_is_by_value D bare a b = (same_true D bare a b, true_same D a b)

-- a text is told by its characters
bytes_of : (bs : List ℕ) → IsUtf8 bs → encode_utf8_all (chars bs) ≡ bs
bytes_of bs (cs, (are, spelled)) = subst (λ l. encode_utf8_all (chars l) ≡ l) spelled (ap encode_utf8_all (chars-encodes cs are))

pub text_is_by_characters : (x y : String Global) → IsTrue (string_eq x y) ↔ (characters x ≡ characters y)
text_is_by_characters x y =
    let is = slice_eq-Decides Decides-eqb (string_bytes x) (string_bytes y) (string_eq x y) refl in
    let spelled : characters x ≡ characters y → string_bytes x ≡ string_bytes y = λ e. sym (bytes_of _ (IsUtf8-had _ x.ok)) ∙ ap encode_utf8_all e ∙ bytes_of _ (IsUtf8-had _ y.ok) in
    (λ same. ap chars (is.0 same), λ e. is.1 (spelled e))
