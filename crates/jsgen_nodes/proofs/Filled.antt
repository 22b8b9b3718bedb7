-- Bodies of functions, which are empty or not.
use Rattle.std.proofs.Common.{◌≡◌, List, [], ◌∷◌, map, length, suc, Bool, true, false, ◌&&◌, refl, arith}
use Rattle.std.specs.Bool.{◌==◌}
use Rattle.std.proofs.lemmas.Bool.{both_ways, eqb-true}
use Rattle.jsgen_syntax.specs.declared.span.Span.{Span}
use Rattle.jsgen_tree.specs.Tree.{Tree, trees}
use Rattle.jsgen_model.specs.Punctuator.{Brace}
use Rattle.jsgen_model.specs.Items as items
use Rattle.jsgen_model.specs.Items.{Items, ◌⊕◌, brackets, mark, end_mark, drop_semicolon, held, orphans}
use Rattle.jsgen_model.specs.Spell.{filled_braces, body_braces}

first_holds : (a b : Bool) → (a && b) ≡ true → a ≡ true
first_holds true b h = refl
first_holds false b h = h

-- braces in which nothing stands but comments
abbrev commented_braces : Span → Items
commented_braces s = mark s ⊕ (brackets Brace (items.empty_body s.end ⊕ end_mark s) ⊕ drop_semicolon)

pub empty_body : {A B : Type 0} (f : A → Tree) (g : B → Tree) (xs : List A) (ys : List B) (s : Span) (items : Items) → ((length xs == 0) && (length ys == 0)) ≡ true → commented_braces s ≡ body_braces s (trees (map f xs)) (trees (map g ys)) items
empty_body f g [] [] s items h = refl
empty_body f g [] (y ∷ ys) s items h = absurd (omega (arith, eqb-true (suc (length ys)) 0 h))
empty_body f g (x ∷ xs) ys s items h = absurd (omega (arith, eqb-true (suc (length xs)) 0 (first_holds (suc (length xs) == 0) (length ys == 0) h)))

pub filled_body : {A B : Type 0} (f : A → Tree) (g : B → Tree) (xs : List A) (ys : List B) (s : Span) (items : Items) → ((length xs == 0) && (length ys == 0)) ≡ false → filled_braces s (held s.end (items ⊕ orphans s.end)) ≡ body_braces s (trees (map f xs)) (trees (map g ys)) items
filled_body f g [] [] s items h = absurd (both_ways true h refl)
filled_body f g [] (y ∷ ys) s items h = refl
filled_body f g (x ∷ xs) ys s items h = refl
