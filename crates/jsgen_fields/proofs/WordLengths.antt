-- A word is looked for among those of its length.
use Rattle.std.proofs.Common.{◌≡◌, ℕ, ◌==◌, List, [], ◌∷◌, length, Bool, true, false, Some, refl, sym, ap, subst, if◌then◌else◌}
use Rattle.std.specs.Str.{bytes_eq}
use Rattle.std.proofs.lemmas.Bool.{eq-eqb}
use Rattle.std.proofs.lemmas.Slice.Eq.{bytes_eq-Decides}
use Rattle.jsgen_tree.specs.Table.{Word}
use Rattle.jsgen_fields.specs.Values.{word_meaning, words_of_length}

-- a word that is the one spelled is kept
of_tests : (s : List ℕ) (w : Word) (ws vs : List Word) (same kept : Bool) → bytes_eq s w.spelling ≡ same → (same ≡ true → kept ≡ true) → word_meaning ws s ≡ word_meaning vs s
    → (if same then Some w.meaning else word_meaning ws s) ≡ word_meaning (if kept then w ∷ vs else vs) s
of_tests s w ws vs true true e h i = rw e refl
of_tests s w ws vs false true e h i = rw e i
of_tests s w ws vs true false e h i = let f : false ≡ true = h refl in cc f
of_tests s w ws vs false false e h i = i

among_its_length : (s : List ℕ) (ws : List Word) → word_meaning ws s ≡ word_meaning (words_of_length (length s) ws) s
among_its_length s [] = refl
among_its_length s (w ∷ ws) = of_tests s w ws (words_of_length (length s) ws) (bytes_eq s w.spelling) (length w.spelling == length s) refl (λ e. eq-eqb (length w.spelling) (length s) (ap length (sym ((bytes_eq-Decides s w.spelling).0 e)))) (among_its_length s ws)

-- a word of n bytes means what it means among those of n bytes
pub of_length : (n : ℕ) (s : List ℕ) (ws : List Word) → length s ≡ n → word_meaning (words_of_length n ws) s ≡ word_meaning ws s
of_length n s ws h = subst (λ k. word_meaning (words_of_length k ws) s ≡ word_meaning ws s) h (sym (among_its_length s ws))
