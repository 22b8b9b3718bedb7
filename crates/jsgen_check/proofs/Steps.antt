-- What a check answers, from the answers of its steps.
use Rattle.std.proofs.Common.{◌≡◌, ℕ, ◌+◌, ◌<◌, ◌≤◌, List, [], ◌∷◌, ◌++◌, map, drop, length, Bool, true, false, if◌then◌else◌, Option, Some, None, option_map, Result, Ok, Err, sym, ap, refl, subst, ◌∙◌, arith}
use Rattle.std.specs.Result.{IsErrAnd}
use Rattle.std.proofs.Math.ListN.{get_or}
use Rattle.std.proofs.lemmas.List.{at_drop_all, at_drop_more, get_or_default}
use Rattle.std.proofs.lemmas.Result.{err_from_is_err_and}
use Rattle.jsgen_tree.specs.declared.types.NodeSet.{NodeSet}
use Rattle.jsgen_tree.specs.Job.{Tables}
use Rattle.jsgen_tree.specs.Tree.{Tree, node, span_of, Slots, no_slots, one, maybe, many, maybe_many, Maybe, Trees, MaybeTrees, optional, trees, holed}
use Rattle.jsgen_model.specs.Resolved.{after, after_slots, after_maybe, after_trees, after_maybe_trees}
use Rattle.jsgen_model.specs.Valid.{Surroundings, ChildPlace, child_places, first_number, span_faults, own_faults, set_faults}
use Rattle.jsgen_model.specs.declared.fault.TreeFault.{TreeFault}
use Rattle.jsgen_rules.specs.Classes.{counted}
use Rattle.jsgen_rules.specs.Verdict.{verdict}
use Rattle.jsgen_check.specs.Verdict.{tree_verdict, child_verdict, maybe_verdict, children_verdict, maybe_children_verdict, both, higher, raised, SameNumber}
use Rattle.jsgen_check.proofs.Counts.{Shares, children_share, after_node, after_same_slots, after_same_trees}
use Rattle.jsgen_check.proofs.Verdicts.{higher_same, of_both, of_node, of_placed, of_no_children, of_first, of_hole, slots_verdict, slots_same, children_same}

-- what the exit of a `?` returns
pub broken : {A : Type 0} {r v : Result A TreeFault} {e : TreeFault} → IsErrAnd r (λ y. y ≡ e) → Err e ≡ v → r ≡ v
broken {A} {r} h is = let p = err_from_is_err_and r h in p.1 ∙ (ap (λ y. Err y) p.2 ∙ is)

-- ---- rules, one behind another

-- a rule that is broken ends the check
pub found : {A : Type 0} {a : Result (Unit {0}) TreeFault} {e : TreeFault} (b : Result A TreeFault) → Err e ≡ a → Err e ≡ both a b
unfolding both
found b h = ap (λ q. both q b) h

-- one that is kept leaves it to those behind
pub kept : {A : Type 0} {r b : Result A TreeFault} {a : Result (Unit {0}) TreeFault} {u : Unit {0}} → Ok u ≡ a → r ≡ b → r ≡ both a b
unfolding both
kept {A} {r} {b} h behind = behind ∙ ap (λ q. both q b) h

-- two rules, one behind the other
pub two_rules : {r : Result (Unit {0}) TreeFault} (a b : List TreeFault) → r ≡ both (verdict a) (verdict b) → r ≡ verdict (a ++ b)
two_rules a b h = h ∙ sym (of_both a b)

-- one of two lists of rules, by a test
pub of_then : {b : Bool} {r : Result (Unit {0}) TreeFault} (x y : List TreeFault) → b ≡ true → r ≡ verdict x → r ≡ verdict (if b then x else y)
of_then x y h e = e ∙ sym (ap (λ q. verdict (if q then x else y)) h)

pub of_else : {b : Bool} {r : Result (Unit {0}) TreeFault} (x y : List TreeFault) → b ≡ false → r ≡ verdict y → r ≡ verdict (if b then x else y)
of_else x y h e = e ∙ sym (ap (λ q. verdict (if q then x else y)) h)

-- ---- rows

-- a row without rules of its own
pub no_rules : Ok tt ≡ verdict []
unfolding verdict
no_rules = refl

pub none_behind : (r : Result ℕ TreeFault) → r ≡ higher r (Ok 0)
unfolding higher
none_behind (Ok n) = ap (λ k. Ok k) (omega arith)
none_behind (Err e) = refl

-- what is found of the children at these places, where the next class has the first number, and the number behind them
pub record Checked (around : Surroundings) (places : List ChildPlace) (slots : Slots) (first : ℕ) (r : Result ℕ TreeFault) (last : ℕ) : Type 0 where
  pub shares : Shares around.tables places
  pub found : r ≡ slots_verdict around places first slots
  pub number : SameNumber around last (after_slots slots first)

-- no child
pub all_checked : {around : Surroundings} {first : ℕ} → Checked around [] no_slots first (Ok 0) first
all_checked = record { shares = tt; found = refl; number = refl }

-- from another number that is the same
pub from_same : {around : Surroundings} {places : List ChildPlace} {slots : Slots} {m n last : ℕ} {r : Result ℕ TreeFault} → SameNumber around m n → Checked around places slots m r last → Checked around places slots n r last
from_same {around} {places} {slots} {m} {n} same rest = record {
  shares = rest.shares;
  found = rest.found ∙ slots_same around places m n slots rest.shares same;
  number = rest.number ∙ after_same_slots around.tables m n same slots;
}

-- what two surroundings with the same tables call the same
same_there : (around within : Surroundings) (m n : ℕ) → within.tables ≡ around.tables → SameNumber within m n → SameNumber around m n
same_there around within m n is same = subst (λ tables. counted tables m ≡ counted tables n) is same

-- one child, and those behind it
pub then_one : {around : Surroundings} {p : ChildPlace} {ps : List ChildPlace} {t : Tree} {slots : Slots} {first next last : ℕ} {r q s : Result ℕ TreeFault} → p.around.tables ≡ around.tables → r ≡ higher q s → q ≡ child_verdict p.around first p.set t → SameNumber p.around next (after t first) → Checked around ps slots next s last → Checked around (p ∷ ps) (one t slots) first r last
then_one {around} {p} {ps} {t} {slots} {first} {next} is parts found number behind =
    let rest = from_same (same_there around p.around next (after t first) is number) behind in
    record { shares = (is, rest.shares); found = parts ∙ higher_same found rest.found; number = rest.number }

pub then_maybe : {around : Surroundings} {p : ChildPlace} {ps : List ChildPlace} {m : Maybe} {slots : Slots} {first next last : ℕ} {r q s : Result ℕ TreeFault} → p.around.tables ≡ around.tables → r ≡ higher q s → q ≡ maybe_verdict p.around first p.set m → SameNumber p.around next (after_maybe m first) → Checked around ps slots next s last → Checked around (p ∷ ps) (maybe m slots) first r last
then_maybe {around} {p} {ps} {m} {slots} {first} {next} is parts found number behind =
    let rest = from_same (same_there around p.around next (after_maybe m first) is number) behind in
    record { shares = (is, rest.shares); found = parts ∙ higher_same found rest.found; number = rest.number }

pub then_many : {around : Surroundings} {p : ChildPlace} {ps : List ChildPlace} {ts : Trees} {slots : Slots} {first next last : ℕ} {r q s : Result ℕ TreeFault} → p.around.tables ≡ around.tables → r ≡ higher q s → q ≡ children_verdict p.around first p.set ts → SameNumber p.around next (after_trees ts first) → Checked around ps slots next s last → Checked around (p ∷ ps) (many ts slots) first r last
then_many {around} {p} {ps} {ts} {slots} {first} {next} is parts found number behind =
    let rest = from_same (same_there around p.around next (after_trees ts first) is number) behind in
    record { shares = (is, rest.shares); found = parts ∙ higher_same found rest.found; number = rest.number }

pub then_maybe_many : {around : Surroundings} {p : ChildPlace} {ps : List ChildPlace} {ts : MaybeTrees} {slots : Slots} {first next last : ℕ} {r q s : Result ℕ TreeFault} → p.around.tables ≡ around.tables → r ≡ higher q s → q ≡ maybe_children_verdict p.around first p.set ts → SameNumber p.around next (after_maybe_trees ts first) → Checked around ps slots next s last → Checked around (p ∷ ps) (maybe_many ts slots) first r last
then_maybe_many {around} {p} {ps} {ts} {slots} {first} {next} is parts found number behind =
    let rest = from_same (same_there around p.around next (after_maybe_trees ts first) is number) behind in
    record { shares = (is, rest.shares); found = parts ∙ higher_same found rest.found; number = rest.number }

-- what is found of a tree, and the number behind it
pub record Answered (around : Surroundings) (t : Tree) (next : ℕ) (r : Result ℕ TreeFault) (last : ℕ) : Type 0 where
  pub found : r ≡ tree_verdict around next t
  pub number : SameNumber around last (after t next)

abbrev pub slots_of : Tree → Slots
slots_of (node type a slots) = slots

-- a row: its span, its own rules, and its children
pub of_row : {r q : Result ℕ TreeFault} {p : Result (Unit {0}) TreeFault} {last : ℕ} (around : Surroundings) (next : ℕ) (t : Tree) → r ≡ both (verdict (span_faults around (span_of t))) (both p (raised q)) → p ≡ verdict (own_faults around t) → Checked around (child_places around next t) (slots_of t) (first_number t next) q last → Answered around t next r last
of_row {r} {q} {p} {last} around next (node type a slots) h own below =
    let span = verdict (span_faults around a.span) in
    let rules = verdict (own_faults around (node type a slots)) in
    record {
      found = h ∙ (ap (λ x. both span (both x (raised q))) own ∙ ap (λ x. both span (both rules (raised x))) below.found) ∙ sym (of_node around next type a slots);
      number = below.number ∙ ap (counted around.tables) (sym (after_node type a slots next));
    }

-- a child: its set, and what it is by itself
pub of_child_of_set : {r : Result ℕ TreeFault} (around : Surroundings) (next : ℕ) (set : NodeSet) (t : Tree) → r ≡ both (verdict (set_faults set t)) (tree_verdict around next t) → r ≡ child_verdict around next set t
of_child_of_set around next set t h = h ∙ sym (of_placed around next set t)

-- both were asked
pub of_both_parts : {r q : Result ℕ TreeFault} {p : Result (Unit {0}) TreeFault} (around : Surroundings) (next : ℕ) (set : NodeSet) (t : Tree) → r ≡ both p q → p ≡ verdict (set_faults set t) → q ≡ tree_verdict around next t → r ≡ child_verdict around next set t
of_both_parts {r} {q} {p} around next set t h place is = of_child_of_set around next set t (h ∙ (ap (λ x. both x q) place ∙ ap (both (verdict (set_faults set t))) is))

-- ---- lists: a turn takes the first of the children that are left

associated : (a b c : Result ℕ TreeFault) → higher (higher a b) c ≡ higher a (higher b c)
unfolding higher
associated (Ok l) (Ok m) (Ok n) = ap (λ k. Ok k) (omega arith)
associated (Ok l) (Ok m) (Err e) = refl
associated (Ok l) (Err e) c = refl
associated (Err e) b c = refl

none_before : (r : Result ℕ TreeFault) → higher (Ok 0) r ≡ r
unfolding higher
none_before (Ok n) = ap (λ k. Ok k) (omega arith)
none_before (Err e) = refl

-- what is found of these with what was found so far, and the number behind them, are those of the whole
abbrev pub Leaves : Surroundings → NodeSet → Trees → ℕ → Result ℕ TreeFault → Trees → ℕ → Type 0
Leaves around set whole start so_far left next = (higher so_far (children_verdict around next set left) ≡ children_verdict around start set whole) × SameNumber around (after_trees left next) (after_trees whole start)

leaves_start : (around : Surroundings) (set : NodeSet) (whole : Trees) (start : ℕ) → Leaves around set whole start (Ok 0) whole start
leaves_start around set whole start = (none_before _, refl)

leaves_end : (around : Surroundings) (set : NodeSet) (whole : Trees) (start : ℕ) (r : Result ℕ TreeFault) (next : ℕ) → Leaves around set whole start r (trees []) next → (r ≡ children_verdict around start set whole) × SameNumber around next (after_trees whole start)
leaves_end around set whole start r next left = (none_behind r ∙ (ap (higher r) (sym (of_no_children around next set)) ∙ left.0), left.1)

-- of a list, from its place on
abbrev pub Left : {A : Type 0} → Surroundings → NodeSet → (A → Tree) → List A → ℕ → Result ℕ TreeFault → ℕ → ℕ → Type 0
Left around set f xs start so_far next i = Leaves around set (trees (map f xs)) start so_far (trees (map f (drop i xs))) next

pub begun : {A : Type 0} (around : Surroundings) (set : NodeSet) (f : A → Tree) (xs : List A) (start : ℕ) → Left around set f xs start (Ok 0) start 0
begun around set f xs start = leaves_start around set (trees (map f xs)) start

pub turn : {A : Type 0} {r found : Result ℕ TreeFault} (so_far : Result ℕ TreeFault) (start next behind : ℕ) (around : Surroundings) (set : NodeSet) (f : A → Tree) (xs : List A) (i : ℕ) (x : A) → i < length xs → x ≡ get_or xs i x → Left around set f xs start so_far next i → r ≡ higher so_far found → found ≡ child_verdict around next set (f x) → SameNumber around behind (after (f x) next) → Left around set f xs start r behind (i + 1)
turn {A} {r} {found} so_far start next behind around set f xs i x inside is left parts this number =
    let rest : Trees = trees (map f (drop (i + 1) xs)) in
    let Whole : List A → Type 0 = λ ys. Leaves around set (trees (map f xs)) start so_far (trees (map f ys)) next in
    let here : Leaves around set (trees (map f xs)) start so_far (trees (map f (x ∷ drop (i + 1) xs))) next = subst Whole (at_drop_more (λ ys. ys) xs i x inside ∙ ap (λ y. y ∷ drop (i + 1) xs) (sym is)) left in
    let first = parts ∙ ap (higher so_far) this in
    let all = ap (λ q. higher q (children_verdict around behind set rest)) first ∙ (ap (higher (higher so_far (child_verdict around next set (f x)))) (children_same around behind (after (f x) next) set rest number) ∙ (associated so_far _ _ ∙ ap (higher so_far) (sym (of_first around next set (f x) rest)))) in
    (all ∙ here.0, after_same_trees around.tables behind (after (f x) next) number rest ∙ here.1)

-- the same of nodes that are copied, where another stands in for the one that there may not be
pub turn_copied : {A : Type 0} {r found : Result ℕ TreeFault} (so_far : Result ℕ TreeFault) (start next behind : ℕ) (around : Surroundings) (set : NodeSet) (f : A → Tree) (xs : List A) (i : ℕ) (other : A) → i < length xs → Left around set f xs start so_far next i → r ≡ higher so_far found → found ≡ child_verdict around next set (f (get_or xs i other)) → SameNumber around behind (after (f (get_or xs i other)) next) → Left around set f xs start r behind (i + 1)
turn_copied so_far start next behind around set f xs i other inside left parts this number = turn so_far start next behind around set f xs i (get_or xs i other) inside (get_or_default xs i other (get_or xs i other) inside) left parts this number

pub turns_end : {A : Type 0} {r : Result ℕ TreeFault} (start next : ℕ) (around : Surroundings) (set : NodeSet) (f : A → Tree) (xs : List A) (i : ℕ) → length xs ≤ i → Left around set f xs start r next i → (r ≡ children_verdict around start set (trees (map f xs))) × SameNumber around next (after_trees (trees (map f xs)) start)
turns_end {A} {r} start next around set f xs i outside left =
    let Whole : List A → Type 0 = λ ys. Leaves around set (trees (map f xs)) start r (trees (map f ys)) next in
    leaves_end around set (trees (map f xs)) start r next (subst Whole (at_drop_all (λ ys. ys) xs i outside) left)

-- ---- the same of lists with holes, where nothing is found

of_first_or_hole : (around : Surroundings) (next : ℕ) (set : NodeSet) (o : Option Tree) (os : List (Option Tree)) → children_verdict around next set (holed (o ∷ os)) ≡ higher (maybe_verdict around next set (optional o)) (children_verdict around (after_maybe (optional o) next) set (holed os))
of_first_or_hole around next set None os = of_hole around next set (holed os) ∙ sym (none_before _)
of_first_or_hole around next set (Some t) os = of_first around next set t (holed os)

behind_first_or_hole : (next : ℕ) (o : Option Tree) (os : List (Option Tree)) → after_trees (holed (o ∷ os)) next ≡ after_trees (holed os) (after_maybe (optional o) next)
behind_first_or_hole next None os = refl
behind_first_or_hole next (Some t) os = refl

abbrev pub LeftOrHoles : {A : Type 0} → Surroundings → NodeSet → (A → Tree) → List (Option A) → ℕ → Result ℕ TreeFault → ℕ → ℕ → Type 0
LeftOrHoles around set f xs start so_far next i = Leaves around set (holed (map (option_map f) xs)) start so_far (holed (map (option_map f) (drop i xs))) next

pub begun_or_holes : {A : Type 0} (around : Surroundings) (set : NodeSet) (f : A → Tree) (xs : List (Option A)) (start : ℕ) → LeftOrHoles around set f xs start (Ok 0) start 0
begun_or_holes around set f xs start = leaves_start around set (holed (map (option_map f) xs)) start

pub turn_or_hole : {A : Type 0} {r found : Result ℕ TreeFault} (so_far : Result ℕ TreeFault) (start next behind : ℕ) (around : Surroundings) (set : NodeSet) (f : A → Tree) (xs : List (Option A)) (i : ℕ) (x : Option A) → i < length xs → x ≡ get_or xs i x → LeftOrHoles around set f xs start so_far next i → r ≡ higher so_far found → found ≡ maybe_verdict around next set (optional (option_map f x)) → SameNumber around behind (after_maybe (optional (option_map f x)) next) → LeftOrHoles around set f xs start r behind (i + 1)
turn_or_hole {A} {r} {found} so_far start next behind around set f xs i x inside is left parts this number =
    let rest : List (Option Tree) = map (option_map f) (drop (i + 1) xs) in
    let Whole : List (Option A) → Type 0 = λ ys. Leaves around set (holed (map (option_map f) xs)) start so_far (holed (map (option_map f) ys)) next in
    let here : Leaves around set (holed (map (option_map f) xs)) start so_far (holed (option_map f x ∷ rest)) next = subst Whole (at_drop_more (λ ys. ys) xs i x inside ∙ ap (λ y. y ∷ drop (i + 1) xs) (sym is)) left in
    let beyond : ℕ = after_maybe (optional (option_map f x)) next in
    let first = parts ∙ ap (higher so_far) this in
    let all = ap (λ q. higher q (children_verdict around behind set (holed rest))) first ∙ (ap (higher (higher so_far (maybe_verdict around next set (optional (option_map f x))))) (children_same around behind beyond set (holed rest) number) ∙ (associated so_far _ _ ∙ ap (higher so_far) (sym (of_first_or_hole around next set (option_map f x) rest)))) in
    (all ∙ here.0, after_same_trees around.tables behind beyond number (holed rest) ∙ (ap (counted around.tables) (sym (behind_first_or_hole next (option_map f x) rest)) ∙ here.1))

pub turns_or_holes_end : {A : Type 0} {r : Result ℕ TreeFault} (start next : ℕ) (around : Surroundings) (set : NodeSet) (f : A → Tree) (xs : List (Option A)) (i : ℕ) → length xs ≤ i → LeftOrHoles around set f xs start r next i → (r ≡ children_verdict around start set (holed (map (option_map f) xs))) × SameNumber around next (after_trees (holed (map (option_map f) xs)) start)
turns_or_holes_end {A} {r} start next around set f xs i outside left =
    let Whole : List (Option A) → Type 0 = λ ys. Leaves around set (holed (map (option_map f) xs)) start r (holed (map (option_map f) ys)) next in
    leaves_end around set (holed (map (option_map f) xs)) start r next (subst Whole (at_drop_all (λ ys. ys) xs i outside) left)
