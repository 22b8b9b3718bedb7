-- One line more.
use Rattle.std.proofs.Common.{◌≡◌, ℕ, ◌+◌, ◌<◌, List, [], ◌∷◌, ◌++◌, Bor, length, take, flat_map, get_or, refl, ap, sym, ◌∙◌, append_assoc, append-nil}
use Rattle.std.proofs.lemmas.List.{take_more}
use Rattle.std.proofs.lemmas.List.Concat.{flat_map-append}
use Rattle.jsgen_map.specs.Names.{texts}
use Rattle.jsgen_map_text.specs.Lines.{name_line}

pub one_more : {X : Type 0} (f : X → List ℕ) (start old new : List ℕ) (xs : List X) (i : ℕ) (d : X) → i < length xs → old ≡ start ++ flat_map f (take i xs) → new ≡ old ++ f (get_or xs i d) → new ≡ start ++ flat_map f (take (i + 1) xs)
one_more f start old new xs i d l h n =
    let x = get_or xs i d in
    n ∙ (ap (λ t. t ++ f x) h
    ∙ (append_assoc start (flat_map f (take i xs)) (f x)
    ∙ ap (λ t. start ++ t) (ap (λ t. flat_map f (take i xs) ++ t) (sym (append-nil (f x))) ∙ (sym (flat_map-append f (take i xs) (x ∷ [])) ∙ ap (flat_map f) (sym (take_more xs i d l))))))

-- the line of a name that is lent
abbrev pub line_of_name : Bor (List ℕ) → List ℕ
line_of_name name = name_line name.now

pub lines_of_names : (names : List (Bor (List ℕ))) → flat_map line_of_name names ≡ flat_map name_line (texts names)
lines_of_names [] = refl
lines_of_names (n ∷ ns) = ap (λ t. name_line n.now ++ t) (lines_of_names ns)
