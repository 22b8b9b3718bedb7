-- Texts that are put into a buffer one behind the other.
use Rattle.std.proofs.Common.{◌≡◌, ℕ, ◌+◌, List, [], ◌++◌, length, refl, ap, ap₂, sym, ◌∙◌, arith}
use Rattle.std.specs.Prelude.{take, drop}
use Rattle.std.proofs.Math.Seq.{take-append_seam, drop-append-add}
use Rattle.std.proofs.lemmas.List.{append_assoc, drop-drop, length-append}
use Rattle.jsgen_c.specs.Texts.{in_a_row}

-- a buffer that begins with some texts, and behind these is as it was, begins with one more
behind : (texts text old was new : List ℕ) (at : ℕ) → at ≡ length texts → was ≡ texts ++ drop at old → new ≡ take at was ++ (text ++ drop (at + length text) was) → new ≡ (texts ++ text) ++ drop (at + length text) old
behind texts text old was new at is begins put =
    let first = ap₂ (λ n b. take n b) is begins ∙ take-append_seam texts (drop at old) in
    let rest = ap₂ (λ n b. drop (n + length text) b) is begins ∙ (drop-append-add texts (drop at old) (length text) ∙ drop-drop (length text) at old) in
    put ∙ (ap₂ (λ l r. l ++ (text ++ r)) first rest ∙ sym (append_assoc texts text (drop (at + length text) old)))

pub put_in_a_row : (code map licences old one two new : List ℕ) (m l : ℕ) → one ≡ take 0 old ++ (code ++ drop (0 + length code) old) → m ≡ 0 + length code → two ≡ take m one ++ (map ++ drop (m + length map) one) → l ≡ m + length map → new ≡ take l two ++ (licences ++ drop (l + length licences) two) → new ≡ in_a_row code map licences ++ drop (length code + (length map + length licences)) old
put_in_a_row code map licences old one two new m l first is second then third =
    let start : 0 + length code ≡ length code = omega arith in
    let begins = behind [] code old old one 0 refl refl first in
    let both = behind code map old one two m (is ∙ start) (begins ∙ ap (λ n. code ++ drop n old) (sym is)) second in
    let all = behind (code ++ map) licences old two new l (then ∙ (ap (λ n. n + length map) (is ∙ start) ∙ sym (length-append code map))) (both ∙ ap (λ n. (code ++ map) ++ drop n old) (sym then)) third in
    let size : l + length licences ≡ length code + (length map + length licences) = omega (arith, is, then) in
    all ∙ ap₂ (λ t n. t ++ drop n old) (append_assoc code map licences) size

pub row_length : (code map licences : List ℕ) → length code + (length map + length licences) ≡ length (in_a_row code map licences)
row_length code map licences = sym (length-append code (map ++ licences) ∙ ap (λ n. length code + n) (length-append map licences))
