-- Declarators of patterns without a value, and what else doesn't fit a place.
use Rattle.std.proofs.Common.{◌≡◌, ℕ, ◌+◌, ◌<◌, ◌≤◌, Bool, true, false, not, ◌&&◌, ◌||◌, List, ◌∷◌, map, drop, length, Option, Some, None, is_some, Result, Ok, Err, if◌then◌else◌, refl, sym, ap, ◌∙◌}
use Rattle.std.proofs.Math.ListN.{get_or}
use Rattle.std.proofs.lemmas.List.{at_drop_all, at_drop_more}
use Rattle.jsgen_tree.specs.Nodes as tree
use Rattle.std.proofs.lemmas.Option.{same_Some}
use Rattle.jsgen_tree.specs.Rows.{expression_plain, variable_declarator_row, binding_identifier_row, function_row}
use Rattle.jsgen_tree.specs.Plain.{node_plain}
use Rattle.jsgen_tree.specs.declared.nodes.Node.{Node}
use Rattle.jsgen_tree.specs.declared.functions.Function.{Function}
use Rattle.jsgen_tree.proofs.Given.{name_given}
use Rattle.jsgen_syntax.specs.declared.span.Span.{Span}
use Rattle.jsgen_tree.specs.declared.sets.Expression.{Expression}
use Rattle.jsgen_tree.specs.declared.sets.Expression.TheVariants as expressions
use Rattle.jsgen_tree.specs.Tree.{Tree, trees, type_of, span_of}
use Rattle.jsgen_tree.specs.Inside.{function_in, class_head_in}
use Rattle.jsgen_tree.specs.declared.classes.ClassKind.{ClassKind}
use Rattle.jsgen_tree.specs.declared.types.NodeSet.{NodeSet}
use Rattle.jsgen_tree.specs.declared.statements.VariableDeclarator.{VariableDeclarator}
use Rattle.jsgen_model.specs.declared.fault.TreeFault.{TreeFault}
use Rattle.jsgen_model.specs.declared.fault.TreeFault.TheVariants as faults
use Rattle.jsgen_rules.specs.Verdict.{verdict}
use Rattle.jsgen_model.specs.Valid.{fault_if, may_stand, misfit, lacking, unbound, lacks_value, any_lacks_value, binds_nothing, is_among_statements, fits_kind, fits_place, as_function_kind}

abbrev pub any_of : {N : Type 0} → (N → Tree) → List (VariableDeclarator N) → Bool
any_of plain xs = any_lacks_value (trees (map (variable_declarator_row plain) xs))

-- the first of those that are left
first_left : {N : Type 0} (plain : N → Tree) (xs : List (VariableDeclarator N)) (i : ℕ) (x : VariableDeclarator N) → i < length xs → x ≡ get_or xs i x → any_of plain (drop i xs) ≡ lacks_value (variable_declarator_row plain x) || any_of plain (drop (i + 1) xs)
first_left plain xs i x inside is = at_drop_more (any_of plain) xs i x inside ∙ ap (λ y. any_of plain (y ∷ drop (i + 1) xs)) (sym is)

pub next_left : {N : Type 0} (plain : N → Tree) (xs : List (VariableDeclarator N)) (i : ℕ) (x : VariableDeclarator N) → i < length xs → x ≡ get_or xs i x → lacks_value (variable_declarator_row plain x) ≡ false → any_of plain (drop i xs) ≡ any_of plain xs → any_of plain (drop (i + 1) xs) ≡ any_of plain xs
next_left plain xs i x inside is none so_far = sym (ap (λ b. b || any_of plain (drop (i + 1) xs)) none) ∙ (sym (first_left plain xs i x inside is) ∙ so_far)

pub found_there : {N : Type 0} (plain : N → Tree) (xs : List (VariableDeclarator N)) (i : ℕ) (x : VariableDeclarator N) → i < length xs → x ≡ get_or xs i x → lacks_value (variable_declarator_row plain x) ≡ true → any_of plain (drop i xs) ≡ any_of plain xs → true ≡ any_of plain xs
found_there plain xs i x inside is some so_far = sym (ap (λ b. b || any_of plain (drop (i + 1) xs)) some) ∙ (sym (first_left plain xs i x inside is) ∙ so_far)

pub all_passed : {N : Type 0} (plain : N → Tree) (xs : List (VariableDeclarator N)) (i : ℕ) → length xs ≤ i → any_of plain (drop i xs) ≡ any_of plain xs → false ≡ any_of plain xs
all_passed plain xs i outside so_far = sym (at_drop_all (any_of plain) xs i outside) ∙ so_far

-- ---- where

abbrev pub first_of : {N : Type 0} → (N → Tree) → Span → List (VariableDeclarator N) → Span
first_of plain s xs = lacking s (trees (map (variable_declarator_row plain) xs))

left : {N : Type 0} (plain : N → Tree) (s : Span) (xs : List (VariableDeclarator N)) (i : ℕ) (x : VariableDeclarator N) → i < length xs → x ≡ get_or xs i x → first_of plain s (drop i xs) ≡ if lacks_value (variable_declarator_row plain x) then x.span else first_of plain s (drop (i + 1) xs)
left plain s xs i x inside is = at_drop_more (first_of plain s) xs i x inside ∙ ap (λ y. first_of plain s (y ∷ drop (i + 1) xs)) (sym is)

pub next_lacking : {N : Type 0} (plain : N → Tree) (s : Span) (xs : List (VariableDeclarator N)) (i : ℕ) (x : VariableDeclarator N) → i < length xs → x ≡ get_or xs i x → lacks_value (variable_declarator_row plain x) ≡ false → first_of plain s (drop i xs) ≡ first_of plain s xs → first_of plain s (drop (i + 1) xs) ≡ first_of plain s xs
next_lacking plain s xs i x inside is none so_far = sym (ap (λ b. if b then x.span else first_of plain s (drop (i + 1) xs)) none) ∙ (sym (left plain s xs i x inside is) ∙ so_far)

pub lacking_there : {N : Type 0} (plain : N → Tree) (s : Span) (xs : List (VariableDeclarator N)) (i : ℕ) (x : VariableDeclarator N) → i < length xs → x ≡ get_or xs i x → lacks_value (variable_declarator_row plain x) ≡ true → first_of plain s (drop i xs) ≡ first_of plain s xs → x.span ≡ first_of plain s xs
lacking_there plain s xs i x inside is some so_far = sym (ap (λ b. if b then x.span else first_of plain s (drop (i + 1) xs)) some) ∙ (sym (left plain s xs i x inside is) ∙ so_far)

pub none_lacking : {N : Type 0} (plain : N → Tree) (s : Span) (xs : List (VariableDeclarator N)) (i : ℕ) → length xs ≤ i → first_of plain s (drop i xs) ≡ first_of plain s xs → s ≡ first_of plain s xs
none_lacking plain s xs i outside so_far = sym (at_drop_all (first_of plain s) xs i outside) ∙ so_far

-- an expression is no declaration
pub expression_unbound : (h : Node → Tree) (e : Expression Node) → unbound (expression_plain h e) ≡ span_of (expression_plain h e)
expression_unbound h (expressions.Function b) = refl
expression_unbound h e = refl

same_either : (b : Bool) (s : Span) → (if b then s else s) ≡ s
same_either true s = refl
same_either false s = refl

-- ---- whether a child fits, and where it doesn't

abbrev pub fit_faults : NodeSet → Tree → List TreeFault
fit_faults set t = fault_if (not (may_stand set (type_of t) && fits_kind set t)) (faults.Place (misfit set t).start)

own_misfit : (set : NodeSet) (t : Tree) → unbound t ≡ span_of t → misfit set t ≡ span_of t
own_misfit set t e = ap (λ s. if may_stand set (type_of t) then s else span_of t) e ∙ same_either (may_stand set (type_of t)) (span_of t)

-- what is no declaration is told by its own span
pub own_fits : (set : NodeSet) (t : Tree) → unbound t ≡ span_of t → verdict (fault_if (not (may_stand set (type_of t) && fits_kind set t)) (faults.Place (span_of t).start)) ≡ verdict (fit_faults set t)
own_fits set t e = ap (λ (s : Span). verdict (fault_if (not (may_stand set (type_of t) && fits_kind set t)) (faults.Place s.start))) (sym (own_misfit set t e))

abbrev faults_by : Tree → Bool → Bool → List TreeFault
faults_by t stands fits = fault_if (not (stands && fits)) (faults.Place (if stands then unbound t else span_of t).start)

pub stands_not : (set : NodeSet) (t : Tree) → may_stand set (type_of t) ≡ false → Err (faults.Place (span_of t).start) ≡ verdict (fit_faults set t)
unfolding verdict
stands_not set t e = sym (ap (λ b. verdict (faults_by t b (fits_kind set t))) e)

pub fits_not : (set : NodeSet) (t : Tree) → may_stand set (type_of t) ≡ true → fits_kind set t ≡ false → Err (faults.Place (unbound t).start) ≡ verdict (fit_faults set t)
unfolding verdict
fits_not set t e f = sym (λ i. verdict (faults_by t (e i) (f i)))

pub it_fits : (set : NodeSet) (t : Tree) → may_stand set (type_of t) ≡ true → fits_kind set t ≡ true → Ok tt ≡ verdict (fit_faults set t)
unfolding verdict
it_fits set t e f = sym (λ i. verdict (faults_by t (e i) (f i)))

-- ---- what a place among statements asks of what is neither a function nor a class

none_bound : (b : Bool) → not (b && false) ≡ true
none_bound true = refl
none_bound false = refl

pub bound_there : (set : NodeSet) (t : Tree) → function_in t ≡ None → class_head_in t ≡ None → not (is_among_statements set && binds_nothing t) ≡ fits_kind set t
bound_there set (tree.function a id params body) e none = absurd (cc)
bound_there set (tree.class a id heritage body) e none = absurd (cc)
bound_there set (tree.variable_declaration a declarations) e none = refl
bound_there set t e none = none_bound (is_among_statements set)

pub class_there : (set : NodeSet) (t : Tree) (kind : ClassKind) (named : Bool) → class_head_in t ≡ Some (kind, named) → fits_place set (as_function_kind kind) named ≡ fits_kind set t
class_there set (tree.class a id heritage body) kind named e = sym (ap (λ (q : ClassKind × Bool). fits_place set (as_function_kind q.0) q.1) (same_Some _ _ e))
class_there set t kind named e = absurd (cc)

-- a function fits by its kind, and by whether it has a name
pub function_there : (set : NodeSet) (t : Tree) (f : Function Node) → Some (function_row node_plain f) ≡ function_in t → fits_place set f.kind (is_some f.id) ≡ fits_kind set t
function_there set (tree.function a id params body) f e = ap (fits_place set f.kind) (sym (name_given (λ b. binding_identifier_row b.value) f.id)) ∙ ap (fits_kind set) (same_Some _ _ e)
function_there set t f e = absurd (cc)
