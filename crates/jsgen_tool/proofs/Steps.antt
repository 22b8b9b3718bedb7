-- What a line that is pushed says, and the test of one word.
use Rattle.std.proofs.Common.{◌≡◌, ℕ, List, [], ◌∷◌, length, map, get_or, ap, subst, sym, OnOk, OnErr, Result, Ok, Err, String, string_bytes, bytes_eq, Bool, IsTrue, ◌↔◌, Global, arith, take_all}
use Rattle.std.proofs.lemmas.Slice.Eq.{bytes_eq-Decides}
use Rattle.std.specs.Io.KnownBytes.{Appends}
use Rattle.std.specs.declared.option.Option.{Option}
use Rattle.jsgen_device.specs.Device.{AppendsPart, HasCause}
use Rattle.jsgen_tool.specs.Lines.{Says}

pub says_of : {T E : Type 0} (old new : Option (List ℕ)) (before now : ℕ) (line : List ℕ) (r : Result T E) →
    OnOk r (Appends old new line) → OnErr r (AppendsPart old new line) → HasCause before now r → Says old new before now line
says_of old new before now line (Ok x) all part cause = record {
  later = cause.later;
  part = (length line, (let P : List ℕ → Type 0 = λ bs. Appends old new bs in subst P (sym (take_all (length line) line (omega arith))) all));
  whole = λ _. all;
}
says_of old new before now line (Err e) all part cause = record {
  later = cause.later;
  part = part;
  whole = λ not. absurd (not cause.failed);
}

pub one_word : (words : List (String Global)) (w : String Global) → length words ≡ 1 → w ≡ get_or words 0 w →
    map string_bytes words ≡ string_bytes w ∷ []
one_word [] w len is = absurd (omega arith)
one_word (x ∷ []) w len is = ap (λ v. string_bytes v ∷ []) (sym is)
one_word (x ∷ y ∷ rest) w len is = absurd (omega arith)

-- one word's test is the test of all words
pub one_word_is : (words : List (String Global)) (w : String Global) (bytes text : List ℕ) (b : Bool) → length words ≡ 1 →
    w ≡ get_or words 0 w → bytes ≡ string_bytes w → b ≡ bytes_eq bytes text →
    IsTrue b ↔ (map string_bytes words ≡ text ∷ [])
one_word_is words w bytes text b len is same test =
    let one : map string_bytes words ≡ string_bytes w ∷ [] = one_word words w len is in
    let first : bytes ∷ [] ≡ text ∷ [] → bytes ≡ text = λ (e : bytes ∷ [] ≡ text ∷ []). ap (λ l. get_or l 0 []) e in
    grind (arith, one, bytes_eq-Decides bytes text, first)
