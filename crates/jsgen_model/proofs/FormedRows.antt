-- Lists of Rust have no hole, and nodes that are formed by their own values.
use Rattle.std.proofs.Common.{◌≡◌, true, refl, List, [], ◌∷◌, map, Option, Some, None, option_map, String, string_bytes}
use Rattle.std.specs.Str.{all_scalars}
use Rattle.std.proofs.lemmas.Str.{scalars-chars, IsUtf8-string_bytes}
use Rattle.jsgen_syntax.proofs.Bytes.{js_units-are_units}
use Rattle.jsgen_syntax.specs.declared.span.Span.{Span}
use Rattle.jsgen_syntax.specs.declared.span.SourceKind.{SourceKind}
use Rattle.jsgen_syntax.specs.declared.span.SourceKind.TheVariants as source_kinds
use Rattle.jsgen_syntax.specs.declared.js_str.JsStr.{JsStr}
use Rattle.jsgen_syntax.specs.Units.{js_units}
use Rattle.jsgen_syntax.specs.Wtf8.{are_units}
use Rattle.std.specs.declared.alloc.Global.{Global}
use Rattle.std.specs.declared.vec.Vec.{Vec}
use Rattle.jsgen_tree.specs.Tree.{Tree, trees, holed, optional, optional_list}
use Rattle.jsgen_tree.specs.Nodes.{numeric_literal}
use Rattle.jsgen_tree.specs.Characters.{characters, numeric_values}
use Rattle.jsgen_tree.specs.Width.{is_wide}
use Rattle.jsgen_tree.specs.Everywhere.{Everywhere, EverywhereInTrees, EverywhereIfGiven, EverywhereIfListed}
use Rattle.jsgen_tree.specs.declared.numbers.NumericValue.{NumericValue}
use Rattle.jsgen_tree.specs.declared.numbers.NumericValue.TheVariants as numeric
use Rattle.jsgen_model.specs.Plain.{is_formed, is_module, has_no_hole, has_no_hole_if_listed}

abbrev pub IsFormed : Tree → Type 0
IsFormed t = Everywhere is_formed t

-- ---- lists

pub no_hole : {A : Type 0} (f : A → Tree) (xs : List A) → has_no_hole (trees (map f xs)) ≡ true
no_hole f [] = refl
no_hole f (x ∷ xs) = no_hole f xs

-- each of a list is formed
pub all_formed : {A : Type 0} (f : A → Tree) → ((x : A) → IsFormed (f x)) → (xs : List A) → EverywhereInTrees is_formed (trees (map f xs))
all_formed f h [] = tt
all_formed f h (x ∷ xs) = (h x, all_formed f h xs)

-- ---- the same of a list that was changed twice

pub no_hole_changed : {A B C : Type 0} (f : C → Tree) (g : B → C) (k : A → B) (xs : List A) → has_no_hole (trees (map f (map g (map k xs)))) ≡ true
no_hole_changed f g k [] = refl
no_hole_changed f g k (x ∷ xs) = no_hole_changed f g k xs

pub all_changed : {A B C : Type 0} (f : C → Tree) (g : B → C) (k : A → B) → ((x : A) → IsFormed (f (g (k x)))) → (xs : List A) → EverywhereInTrees is_formed (trees (map f (map g (map k xs))))
all_changed f g k h [] = tt
all_changed f g k h (x ∷ xs) = (h x, all_changed f g k h xs)

-- and of a list with holes

abbrev pub FormedOrHole : Option Tree → Type 0
FormedOrHole None = Unit {0}
FormedOrHole (Some t) = IsFormed t

first_or_hole : (o : Option Tree) (os : List (Option Tree)) → FormedOrHole o → EverywhereInTrees is_formed (holed os) → EverywhereInTrees is_formed (holed (o ∷ os))
first_or_hole None os h k = k
first_or_hole (Some t) os h k = (h, k)

pub all_changed_or_holes : {A B C : Type 0} (f : C → Option Tree) (g : B → C) (k : A → B) → ((x : A) → FormedOrHole (f (g (k x)))) → (xs : List A) → EverywhereInTrees is_formed (holed (map f (map g (map k xs))))
all_changed_or_holes f g k h [] = tt
all_changed_or_holes f g k h (x ∷ xs) = first_or_hole (f (g (k x))) (map f (map g (map k xs))) (h x) (all_changed_or_holes f g k h xs)

-- ---- a list that may be absent, in which nothing nests

pub no_hole_if_listed : {A : Type 0} (f : A → Tree) (o : Option (Vec A Global)) → has_no_hole_if_listed (optional_list (option_map (λ v. map f v.items) o)) ≡ true
no_hole_if_listed f None = refl
no_hole_if_listed f (Some v) = no_hole f v.items

pub all_formed_if_listed : {A : Type 0} (f : A → Tree) → ((x : A) → IsFormed (f x)) → (o : Option (Vec A Global)) → EverywhereIfListed is_formed (optional_list (option_map (λ v. map f v.items) o))
all_formed_if_listed f h None = tt
all_formed_if_listed f h (Some v) = all_formed f h v.items

-- ---- an optional child in which nothing nests

pub if_given_formed : {A : Type 0} (f : A → Tree) → ((x : A) → IsFormed (f x)) → (o : Option A) → EverywhereIfGiven is_formed (optional (option_map f o))
if_given_formed f h None = tt
if_given_formed f h (Some x) = h x

-- ---- values

pub number_is_formed : (s : Span) (v : NumericValue) → is_wide v ≡ true → is_formed (numeric_literal (record { span = s; values = numeric_values v })) ≡ true
number_is_formed s (numeric.Whole negative d) w = w
number_is_formed s (numeric.Raw t) w = refl

pub string_is_formed : (s : JsStr) → are_units (js_units s) ≡ true
string_is_formed s = js_units-are_units s

pub text_is_formed : (s : String Global) → all_scalars (characters s) ≡ true
text_is_formed s = scalars-chars (string_bytes s) (IsUtf8-string_bytes s)

pub module_kind : (k : SourceKind) → is_module k ≡ true
module_kind source_kinds.Module = refl
