-- Pieces of templates: which stand for nothing, and how many there are.
use Rattle.std.proofs.Common.{◌≡◌, ℕ, suc, ◌+◌, ◌<◌, ◌≤◌, Bool, true, false, not, ◌||◌, ◌==◌, List, [], ◌∷◌, map, drop, length, Option, Some, None, is_some, option_map, refl, sym, ap, ◌∙◌, arith}
use Rattle.std.proofs.lemmas.Bool.Decides.{nat_tests}
use Rattle.std.proofs.Math.ListN.{get_or}
use Rattle.std.proofs.lemmas.List.{at_drop_all, at_drop_more}
use Rattle.jsgen_syntax.specs.Units.{js_units}
use Rattle.jsgen_syntax.specs.declared.js_str.JsStr.{JsStr}
use Rattle.jsgen_tree.specs.Characters.{units_if_given}
use Rattle.jsgen_tree.specs.Values.{as_units_if_given}
use Rattle.jsgen_tree.specs.Rows.{template_element_row}
use Rattle.jsgen_tree.specs.Tree.{Tree, trees}
use Rattle.jsgen_tree.specs.declared.templates.TemplateElement.{TemplateElement}
use Rattle.jsgen_model.specs.Valid.{is_uncooked, any_uncooked, is_one_more}

-- units that may be absent are read as they are
pub as_given : (o : Option JsStr) → as_units_if_given (units_if_given o) ≡ option_map js_units o
as_given None = refl
as_given (Some s) = refl

pub bare_piece : (x : TemplateElement) → not (is_some x.cooked) ≡ is_uncooked (template_element_row x)
bare_piece x = by x.cooked
  where
    by : (o : Option JsStr) → not (is_some o) ≡ not (is_some (as_units_if_given (units_if_given o)))
    by None = refl
    by (Some s) = refl

abbrev pub any_of : List TemplateElement → Bool
any_of xs = any_uncooked (trees (map template_element_row xs))

-- the first of those that are left
first_left : (xs : List TemplateElement) (i : ℕ) (x : TemplateElement) → i < length xs → x ≡ get_or xs i x → any_of (drop i xs) ≡ is_uncooked (template_element_row x) || any_of (drop (i + 1) xs)
first_left xs i x inside is = at_drop_more any_of xs i x inside ∙ ap (λ y. any_of (y ∷ drop (i + 1) xs)) (sym is)

pub next_left : (xs : List TemplateElement) (i : ℕ) (x : TemplateElement) → i < length xs → x ≡ get_or xs i x → is_some x.cooked ≡ true → any_of (drop i xs) ≡ any_of xs → any_of (drop (i + 1) xs) ≡ any_of xs
next_left xs i x inside is none so_far = sym (ap (λ b. b || any_of (drop (i + 1) xs)) (sym (bare_piece x) ∙ ap not none)) ∙ (sym (first_left xs i x inside is) ∙ so_far)

pub found_there : (xs : List TemplateElement) (i : ℕ) (x : TemplateElement) → i < length xs → x ≡ get_or xs i x → is_some x.cooked ≡ false → any_of (drop i xs) ≡ any_of xs → true ≡ any_of xs
found_there xs i x inside is some so_far = sym (ap (λ b. b || any_of (drop (i + 1) xs)) (sym (bare_piece x) ∙ ap not some)) ∙ (sym (first_left xs i x inside is) ∙ so_far)

pub all_passed : (xs : List TemplateElement) (i : ℕ) → length xs ≤ i → any_of (drop i xs) ≡ any_of xs → false ≡ any_of xs
all_passed xs i outside so_far = sym (at_drop_all any_of xs i outside) ∙ so_far

one_less : (a b : ℕ) → (suc a == suc b) ≡ (a == b)
one_less a b = grind (arith, nat_tests)

none_of_some : (n : ℕ) → (0 == suc n) ≡ false
none_of_some n = grind (arith, nat_tests)

some_of_none : (n : ℕ) → (suc n == 0) ≡ false
some_of_none n = grind (arith, nat_tests)

-- one more than others
pub one_more : {A B : Type 0} (f : A → Tree) (g : B → Tree) (x : A) (xs : List A) (ys : List B) → (length xs == length ys) ≡ is_one_more (trees (map f (x ∷ xs))) (trees (map g ys))
one_more f g x [] [] = refl
one_more f g x [] (y ∷ ys) = none_of_some (length ys)
one_more f g x (z ∷ xs) [] = some_of_none (length xs)
one_more f g x (z ∷ xs) (y ∷ ys) = one_less (length xs) (length ys) ∙ one_more f g z xs ys

pub one_more_there : {A B : Type 0} {xs others : List A} {x : A} (f : A → Tree) (g : B → Tree) (ys : List B) → xs ≡ x ∷ others → (length others == length ys) ≡ is_one_more (trees (map f xs)) (trees (map g ys))
one_more_there {A} {B} {xs} {others} {x} f g ys e = one_more f g x others ys ∙ ap (λ zs. is_one_more (trees (map f zs)) (trees (map g ys))) (sym e)
