-- What is promised of the words of operators: in a job each is the sign that it is printed as.
use Rattle.std.specs.Prelude.{◌≡◌, ℕ, Bool, true, false, List}
use Rattle.std.specs.List.{list_all}
use Rattle.std.specs.Str.{bytes_eq}
use Rattle.jsgen_syntax.specs.Operator.{binary_text, logical_text, unary_text, update_text}
use Rattle.jsgen_tree.specs.Atom.{Atom, binary_operator, logical_operator, unary_operator, update_operator}
use Rattle.jsgen_tree.specs.Table.{Word}
use Rattle.jsgen_tree.specs.Fields.{binary_operator_words, logical_operator_words, unary_operator_words, update_operator_words}

abbrev pub is_sign_of : List ℕ → Atom → Bool
is_sign_of sign (binary_operator o) = bytes_eq sign (binary_text o)
is_sign_of sign (logical_operator o) = bytes_eq sign (logical_text o)
is_sign_of sign (unary_operator o) = bytes_eq sign (unary_text o)
is_sign_of sign (update_operator o) = bytes_eq sign (update_text o)
is_sign_of sign v = false

abbrev pub are_signs : List Word → Bool
are_signs words = list_all (λ word. is_sign_of word.spelling word.meaning) words

abbrev pub OperatorsAreNamed : Type 0
OperatorsAreNamed = (are_signs binary_operator_words ≡ true) × (are_signs logical_operator_words ≡ true) × (are_signs unary_operator_words ≡ true) × (are_signs update_operator_words ≡ true)
