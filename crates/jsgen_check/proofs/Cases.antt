-- Cases without a test, counted one by one.
use Rattle.std.proofs.Common.{◌≡◌, ℕ, suc, ◌+◌, ◌<◌, ◌≤◌, true, false, List, [], ◌∷◌, map, drop, length, Option, Some, None, option_map, is_some, refl, sym, ap, ◌∙◌, arith}
use Rattle.std.proofs.Math.ListN.{get_or}
use Rattle.std.proofs.lemmas.Bool.{both_ways}
use Rattle.std.proofs.lemmas.List.{at_drop_all, at_drop_more}
use Rattle.jsgen_tree.specs.Nodes as tree
use Rattle.jsgen_tree.specs.Rows.{switch_case_row, in_expression, in_statement}
use Rattle.jsgen_tree.specs.Tree.{Tree, Atoms, Trees, more, optional, trees}
use Rattle.jsgen_tree.specs.declared.choices.SwitchCase.{SwitchCase}
use Rattle.jsgen_tree.specs.declared.nodes.ExpressionNode.{ExpressionNode}
use Rattle.jsgen_model.specs.Valid.{defaults}

-- how many there are among these
abbrev pub defaults_of : {N : Type 0} → (N → Tree) → List (SwitchCase N) → ℕ
defaults_of plain xs = defaults (trees (map (switch_case_row plain) xs))

without_test : {N : Type 0} (plain : N → Tree) (a : Atoms) (o : Option (ExpressionNode N)) (consequent ts : Trees) → is_some o ≡ false → defaults (more (tree.switch_case a (optional (option_map (in_expression plain) o)) consequent) ts) ≡ suc (defaults ts)
without_test plain a None consequent ts h = refl
without_test plain a (Some e) consequent ts h = absurd (both_ways true h refl)

with_test : {N : Type 0} (plain : N → Tree) (a : Atoms) (o : Option (ExpressionNode N)) (consequent ts : Trees) → is_some o ≡ true → defaults (more (tree.switch_case a (optional (option_map (in_expression plain) o)) consequent) ts) ≡ defaults ts
with_test plain a None consequent ts h = absurd (both_ways false refl h)
with_test plain a (Some e) consequent ts h = refl

first_without : {N : Type 0} (plain : N → Tree) (x : SwitchCase N) (xs : List (SwitchCase N)) → is_some x.test ≡ false → defaults_of plain (x ∷ xs) ≡ suc (defaults_of plain xs)
first_without plain x xs h = without_test plain (record { span = x.span; values = [] }) x.test (trees (map (in_statement plain) x.consequent.items)) (trees (map (switch_case_row plain) xs)) h

first_with : {N : Type 0} (plain : N → Tree) (x : SwitchCase N) (xs : List (SwitchCase N)) → is_some x.test ≡ true → defaults_of plain (x ∷ xs) ≡ defaults_of plain xs
first_with plain x xs h = with_test plain (record { span = x.span; values = [] }) x.test (trees (map (in_statement plain) x.consequent.items)) (trees (map (switch_case_row plain) xs)) h

-- the first of those that are left
first_left : {N : Type 0} (plain : N → Tree) (xs : List (SwitchCase N)) (i : ℕ) (x : SwitchCase N) → i < length xs → x ≡ get_or xs i x → defaults_of plain (drop i xs) ≡ defaults_of plain (x ∷ drop (i + 1) xs)
first_left plain xs i x inside is = at_drop_more (defaults_of plain) xs i x inside ∙ ap (λ y. defaults_of plain (y ∷ drop (i + 1) xs)) (sym is)

-- so many are counted before the case at this place, and the others are left
abbrev pub Counted : {N : Type 0} → (N → Tree) → List (SwitchCase N) → ℕ → ℕ → Type 0
Counted plain xs i count = (count ≤ i) × (count + defaults_of plain (drop i xs) ≡ defaults_of plain xs)

pub one_more : {N : Type 0} (plain : N → Tree) (xs : List (SwitchCase N)) (i count after : ℕ) (x : SwitchCase N) → i < length xs → x ≡ get_or xs i x → is_some x.test ≡ false → after ≡ count + 1 → Counted plain xs i count → Counted plain xs (i + 1) after
one_more plain xs i count after x inside is none next so_far =
    let front = first_left plain xs i x inside is in
    let first = first_without plain x (drop (i + 1) xs) none in
    (omega (arith, so_far.0, next), omega (arith, so_far.1, next, front, first))

pub no_more : {N : Type 0} (plain : N → Tree) (xs : List (SwitchCase N)) (i count after : ℕ) (x : SwitchCase N) → i < length xs → x ≡ get_or xs i x → is_some x.test ≡ true → after ≡ count → Counted plain xs i count → Counted plain xs (i + 1) after
no_more plain xs i count after x inside is some next so_far =
    let front = first_left plain xs i x inside is in
    let first = first_with plain x (drop (i + 1) xs) some in
    (omega (arith, so_far.0, next), omega (arith, so_far.1, next, front, first))

pub all_counted : {N : Type 0} (plain : N → Tree) (xs : List (SwitchCase N)) (i count : ℕ) → length xs ≤ i → Counted plain xs i count → count ≡ defaults_of plain xs
all_counted plain xs i count outside so_far = let none = at_drop_all (defaults_of plain) xs i outside in omega (arith, none, so_far.1)
