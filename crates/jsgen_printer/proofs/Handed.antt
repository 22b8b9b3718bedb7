-- A text that is handed in, which may be empty.
use Rattle.std.proofs.Common.{◌≡◌, ℕ, true, false, List, [], ◌∷◌, length, ◌==◌, ◌<◌, sym, refl, ◌∙◌, arith}
use Rattle.std.specs.Str.{chars, encode_utf8_all, IsUtf8}
use Rattle.std.proofs.lemmas.Str.{chars-IsAscii, encodes-chars, chars_from_encodes}
use Rattle.std.proofs.lemmas.Bool.Decides.{nat_tests}
use Rattle.std.proofs.lemmas.Str.Ascii.{IsAscii-nil, IsAscii-cons}
use Rattle.jsgen_model.specs.Layout.{Pen}
use Rattle.jsgen_printer.specs.Printer.{unless_empty}

pub byte_chars : (b : ℕ) → b < 128 → chars (b ∷ []) ≡ b ∷ []
byte_chars b h = chars-IsAscii (b ∷ []) (IsAscii-cons b [] h IsAscii-nil)

pub none_handed : (bytes : List ℕ) (before behind : Pen) → IsUtf8 bytes → (length bytes == 0) ≡ true → before ≡ unless_empty (chars bytes) before behind
none_handed [] before behind valid h = rw (← chars_from_encodes [] [] valid refl) refl
none_handed (b ∷ bs) before behind valid h = let no : ⊥ = grind (arith, nat_tests, h) in absurd no

pub some_handed : (bytes : List ℕ) (before behind : Pen) → IsUtf8 bytes → (length bytes == 0) ≡ false → unless_empty (chars bytes) before behind ≡ behind
some_handed bytes before behind valid some =
    go (chars bytes) (encodes-chars bytes valid)
  where
    go : (cs : List ℕ) → encode_utf8_all cs ≡ bytes → unless_empty cs before behind ≡ behind
    go [] e = let no : false ≡ true = sym some ∙ rw (← e) refl in cc
    go (c ∷ cs) e = refl
