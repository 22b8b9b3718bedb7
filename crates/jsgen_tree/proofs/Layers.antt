-- Rows are the same where their children are, and two maps in a row are one.
use Rattle.std.proofs.Common.{◌≡◌, refl, ap, ◌∙◌, List, [], ◌∷◌, map, Option, Some, None}
use Rattle.jsgen_tree.specs.Tree.{Atoms, Tree, Slots, Maybe, Trees, node, one, maybe, many}
use Rattle.jsgen_tree.specs.declared.types.NodeType.{NodeType}

-- two maps in a row are one
pub map_after : {A B C : Type 0} (f : B → C) (g : A → B) (k : A → C) → ((x : A) → f (g x) ≡ k x) → (xs : List A) → map f (map g xs) ≡ map k xs
map_after f g k e [] = refl
map_after f g k e (x ∷ xs) = ap (λ y. y ∷ map f (map g xs)) (e x) ∙ ap (λ ys. k x ∷ ys) (map_after f g k e xs)

-- a place of a list with holes: a hole, or a member
pub with_hole : {A : Type 0} (P : Option A → Type 0) → P None → ((x : A) → P (Some x)) → (o : Option A) → P o
with_hole P none some None = none
with_hole P none some (Some x) = some x

-- ---- a row, child by child

pub same_slots : {t : NodeType} {a : Atoms} {s r : Slots} → s ≡ r → node t a s ≡ node t a r
same_slots {t} {a} e = ap (λ s. node t a s) e

pub same_one : {t u : Tree} {s r : Slots} → t ≡ u → s ≡ r → one t s ≡ one u r
same_one {t} {u} {s} d e = ap (λ x. one x s) d ∙ ap (λ x. one u x) e

pub same_maybe : {o p : Maybe} {s r : Slots} → o ≡ p → s ≡ r → maybe o s ≡ maybe p r
same_maybe {o} {p} {s} d e = ap (λ x. maybe x s) d ∙ ap (λ x. maybe p x) e

pub same_many : {ts us : Trees} {s r : Slots} → ts ≡ us → s ≡ r → many ts s ≡ many us r
same_many {ts} {us} {s} d e = ap (λ x. many x s) d ∙ ap (λ x. many us x) e
