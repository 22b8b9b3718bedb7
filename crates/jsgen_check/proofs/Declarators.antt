-- What a list of children breaks.
use Rattle.std.proofs.Common.{◌≡◌, ℕ, suc, ◌==◌, ◌<◌, ◌≤◌, List, [], ◌∷◌, length, map, false, if◌then◌else◌, refl, ap, arith, rules}
use Rattle.std.proofs.lemmas.Bool.Decides.{nat_tests}
use Rattle.jsgen_syntax.specs.declared.span.Span.{Span}
use Rattle.jsgen_tree.specs.Nodes as tree
use Rattle.jsgen_tree.specs.Rows.{variable_declarator_row}
use Rattle.jsgen_tree.specs.Tree.{Tree, Atoms, Maybe, absent, given, Trees, more, trees}
use Rattle.jsgen_tree.specs.declared.statements.VariableDeclarator.{VariableDeclarator}
use Rattle.jsgen_model.specs.Valid.{declaration_faults, sequence_faults, is_one_name}
use Rattle.jsgen_model.specs.declared.fault.TreeFault.TheVariants as faults

not_none : (n : ℕ) → false ≡ (suc n == 0)
not_none n = grind (arith, nat_tests)

-- a list is empty exactly where it has no element
pub declaration_faults-count : {A : Type 0} (s : Span) (f : A → Tree) (xs : List A) → declaration_faults s (trees (map f xs)) ≡ (if (length xs == 0) then faults.Place s.start ∷ [] else [])
declaration_faults-count s f [] = refl
declaration_faults-count s f (x ∷ xs) = ap (λ b. if b then faults.Place s.start ∷ [] else []) (not_none (length xs))

-- a sequence of fewer than two parts breaks its rule, and another keeps it
pub few_parts : {A : Type 0} (s : Span) (f : A → Tree) (xs : List A) → length xs < 2 → sequence_faults s (trees (map f xs)) ≡ faults.Place s.start ∷ []
few_parts s f [] h = refl
few_parts s f (x ∷ []) h = refl
few_parts s f (x ∷ y ∷ xs) h = absurd (omega (arith, h))

pub several_parts : {A : Type 0} (s : Span) (f : A → Tree) (xs : List A) → 2 ≤ length xs → sequence_faults s (trees (map f xs)) ≡ []
several_parts s f [] h = absurd (omega (arith, h))
several_parts s f (x ∷ []) h = absurd (omega (arith, h))
several_parts s f (x ∷ y ∷ xs) h = refl

two_names : (a : Atoms) (id : Tree) (init : Maybe) (t : Tree) (ts : Trees) → false ≡ is_one_name (more (tree.variable_declarator a id init) (more t ts))
two_names a id absent t ts = refl
two_names a id (given value) t ts = refl

pub several_names : {N : Type 0} (plain : N → Tree) (xs : List (VariableDeclarator N)) → 2 ≤ length xs → false ≡ is_one_name (trees (map (variable_declarator_row plain) xs))
several_names plain [] h = refl
several_names plain (x ∷ []) h = absurd (omega (arith, h))
several_names plain (x ∷ y ∷ xs) h = search (rules, two_names)
