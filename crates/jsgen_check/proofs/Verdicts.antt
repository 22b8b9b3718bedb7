-- The verdict on a tree, from those on its parts.
use Rattle.std.proofs.Common.{◌≡◌, ℕ, suc, max, List, [], ◌∷◌, ◌++◌, Result, Ok, refl, sym, ap, ◌∙◌, arith}
use Rattle.std.proofs.lemmas.List.{append_assoc}
use Rattle.jsgen_tree.specs.declared.types.NodeSet.{NodeSet}
use Rattle.jsgen_tree.specs.declared.types.NodeType.{NodeType}
use Rattle.jsgen_tree.specs.Tree.{Tree, node, Atoms, Slots, no_slots, one, maybe, many, maybe_many, Maybe, absent, given, Trees, no_trees, more, hole, MaybeTrees, no_list, listed}
use Rattle.jsgen_model.specs.Resolved.{after, after_slots, after_maybe, after_trees, after_maybe_trees}
use Rattle.jsgen_model.specs.Valid.{Surroundings, ChildPlace, child_places, first_number, breaches, span_faults, own_faults, set_faults, in_slots, in_maybe, in_trees, in_maybe_trees, height, height_of_slots, height_if_given, height_if_listed, greatest_height}
use Rattle.jsgen_model.specs.declared.fault.TreeFault.{TreeFault}
use Rattle.jsgen_rules.specs.Verdict.{verdict}
use Rattle.jsgen_check.specs.Verdict.{capped, measured, tree_verdict, child_verdict, maybe_verdict, children_verdict, maybe_children_verdict, both, higher, raised, SameNumber}
use Rattle.jsgen_check.proofs.Counts.{Shares, in_slots_same, in_trees_same}

-- ---- lists of faults

capped_max : (m n : ℕ) → capped (max m n) ≡ max (capped m) (capped n)
capped_max m n = omega arith

pub capped_suc : (n : ℕ) → capped (suc n) ≡ capped (suc (capped n))
capped_suc n = omega arith

no_height : measured 0 [] ≡ Ok 0
unfolding measured
no_height = refl

of_two : (m n : ℕ) (a b : List TreeFault) → measured (max m n) (a ++ b) ≡ higher (measured m a) (measured n b)
unfolding higher measured
of_two m n [] [] = ap (λ h. Ok h) (capped_max m n)
of_two m n [] (f ∷ b) = refl
of_two m n (f ∷ a) b = refl

of_rules : (n : ℕ) (a b : List TreeFault) → measured n (a ++ b) ≡ both (verdict a) (measured n b)
unfolding both measured verdict
of_rules n [] b = refl
of_rules n (f ∷ a) b = refl

of_next : (n : ℕ) (a : List TreeFault) → measured (suc n) a ≡ raised (measured n a)
unfolding raised measured
of_next n [] = ap (λ h. Ok h) (capped_suc n)
of_next n (f ∷ a) = refl

pub of_both : (a b : List TreeFault) → verdict (a ++ b) ≡ both (verdict a) (verdict b)
unfolding both verdict
of_both [] b = refl
of_both (f ∷ a) b = refl

-- ---- children

-- of children at these places, in a node that the first surrounds
abbrev pub slots_verdict : Surroundings → List ChildPlace → ℕ → Slots → Result ℕ TreeFault
slots_verdict around ps next no_slots = Ok 0
slots_verdict around (p ∷ ps) next (one t slots) = higher (child_verdict p.around next p.set t) (slots_verdict around ps (after t next) slots)
slots_verdict around (p ∷ ps) next (maybe m slots) = higher (maybe_verdict p.around next p.set m) (slots_verdict around ps (after_maybe m next) slots)
slots_verdict around (p ∷ ps) next (many ts slots) = higher (children_verdict p.around next p.set ts) (slots_verdict around ps (after_trees ts next) slots)
slots_verdict around (p ∷ ps) next (maybe_many ts slots) = higher (maybe_children_verdict p.around next p.set ts) (slots_verdict around ps (after_maybe_trees ts next) slots)
slots_verdict around [] next slots = measured (height_of_slots slots) (in_slots around [] next slots)

abbrev pub place : Surroundings → NodeSet → ChildPlace
place around set = record { set = set; around = around }

-- neither the places behind the first nor what surrounds the node matter to a list
first_place : (around : Surroundings) (p : ChildPlace) (ps : List ChildPlace) (next : ℕ) (ts : Trees) → in_trees around (p ∷ ps) next ts ≡ in_trees p.around (place p.around p.set ∷ []) next ts
first_place around p ps next no_trees = refl
first_place around p ps next (more t ts) = ap (λ fs. set_faults p.set t ++ breaches p.around next t ++ fs) (first_place around p ps (after t next) ts)
first_place around p ps next (hole ts) = first_place around p ps next ts

of_list : (around : Surroundings) (p : ChildPlace) (ps : List ChildPlace) (next : ℕ) (ts : Trees) → measured (greatest_height ts) (in_trees around (p ∷ ps) next ts) ≡ children_verdict p.around next p.set ts
unfolding children_verdict
of_list around p ps next ts = ap (measured (greatest_height ts)) (first_place around p ps next ts)

of_child : (around : Surroundings) (next : ℕ) (s : NodeSet) (t : Tree) → measured (height t) (set_faults s t ++ breaches around next t) ≡ child_verdict around next s t
unfolding child_verdict
of_child around next s t = refl

of_maybe : (around : Surroundings) (p : ChildPlace) (ps : List ChildPlace) (next : ℕ) (m : Maybe) → measured (height_if_given m) (in_maybe around (p ∷ ps) next m) ≡ maybe_verdict p.around next p.set m
of_maybe around p ps next absent = no_height
of_maybe around p ps next (given t) = of_child p.around next p.set t

of_maybe_list : (around : Surroundings) (p : ChildPlace) (ps : List ChildPlace) (next : ℕ) (ts : MaybeTrees) → measured (height_if_listed ts) (in_maybe_trees around (p ∷ ps) next ts) ≡ maybe_children_verdict p.around next p.set ts
of_maybe_list around p ps next no_list = no_height
of_maybe_list around p ps next (listed ts) = of_list around p ps next ts

pub higher_same : {a b c d : Result ℕ TreeFault} → a ≡ b → c ≡ d → higher a c ≡ higher b d
higher_same {a} {b} {c} {d} p q = ap (λ r. higher r c) p ∙ ap (higher b) q

pub of_slots : (around : Surroundings) (ps : List ChildPlace) (next : ℕ) (slots : Slots) → measured (height_of_slots slots) (in_slots around ps next slots) ≡ slots_verdict around ps next slots
of_slots around ps next no_slots = no_height
of_slots around (p ∷ ps) next (one t slots) = of_two (height t) (height_of_slots slots) (set_faults p.set t ++ breaches p.around next t) _ ∙ higher_same (of_child p.around next p.set t) (of_slots around ps (after t next) slots)
of_slots around (p ∷ ps) next (maybe m slots) = of_two (height_if_given m) (height_of_slots slots) (in_maybe around (p ∷ ps) next m) _ ∙ higher_same (of_maybe around p ps next m) (of_slots around ps (after_maybe m next) slots)
of_slots around (p ∷ ps) next (many ts slots) = of_two (greatest_height ts) (height_of_slots slots) (in_trees around (p ∷ ps) next ts) _ ∙ higher_same (of_list around p ps next ts) (of_slots around ps (after_trees ts next) slots)
of_slots around (p ∷ ps) next (maybe_many ts slots) = of_two (height_if_listed ts) (height_of_slots slots) (in_maybe_trees around (p ∷ ps) next ts) _ ∙ higher_same (of_maybe_list around p ps next ts) (of_slots around ps (after_maybe_trees ts next) slots)
of_slots around [] next slots = refl

-- the numbers that are the same
pub slots_same : (around : Surroundings) (ps : List ChildPlace) (m n : ℕ) (slots : Slots) → Shares around.tables ps → SameNumber around m n → slots_verdict around ps m slots ≡ slots_verdict around ps n slots
slots_same around ps m n slots h same = sym (of_slots around ps m slots) ∙ (ap (measured (height_of_slots slots)) (in_slots_same around ps h m n same slots) ∙ of_slots around ps n slots)

pub children_same : (around : Surroundings) (m n : ℕ) (s : NodeSet) (ts : Trees) → SameNumber around m n → children_verdict around m s ts ≡ children_verdict around n s ts
unfolding children_verdict
children_same around m n s ts same = ap (measured (greatest_height ts)) (in_trees_same around (place around s ∷ []) (refl, tt) m n same ts)

-- ---- nodes

-- a node, from what is found within it
pub of_node : (around : Surroundings) (next : ℕ) (type : NodeType) (a : Atoms) (slots : Slots) → tree_verdict around next (node type a slots) ≡ both (verdict (span_faults around a.span)) (both (verdict (own_faults around (node type a slots))) (raised (slots_verdict around (child_places around next (node type a slots)) (first_number (node type a slots) next) slots)))
unfolding tree_verdict
of_node around next type a slots =
    let span = span_faults around a.span in
    let own = own_faults around (node type a slots) in
    let ps = child_places around next (node type a slots) in
    let first = first_number (node type a slots) next in
    let below = in_slots around ps first slots in
    let height = height_of_slots slots in
    ap (measured (suc height)) (append_assoc span own below) ∙ of_rules (suc height) span (own ++ below) ∙ ap (both (verdict span)) (of_rules (suc height) own below ∙ ap (both (verdict own)) (of_next height below ∙ ap raised (of_slots around ps first slots)))

-- a child, from its set and its own rules
pub of_placed : (around : Surroundings) (next : ℕ) (s : NodeSet) (t : Tree) → child_verdict around next s t ≡ both (verdict (set_faults s t)) (tree_verdict around next t)
unfolding child_verdict tree_verdict
of_placed around next s t = of_rules (height t) (set_faults s t) (breaches around next t)

pub of_right_set : (around : Surroundings) (next : ℕ) (s : NodeSet) (t : Tree) → set_faults s t ≡ [] → child_verdict around next s t ≡ tree_verdict around next t
unfolding child_verdict tree_verdict
of_right_set around next s t h = rw h

-- ---- lists

pub of_no_children : (around : Surroundings) (next : ℕ) (s : NodeSet) → children_verdict around next s no_trees ≡ Ok 0
unfolding children_verdict
of_no_children around next s = no_height

pub of_first : (around : Surroundings) (next : ℕ) (s : NodeSet) (t : Tree) (ts : Trees) → children_verdict around next s (more t ts) ≡ higher (child_verdict around next s t) (children_verdict around (after t next) s ts)
unfolding child_verdict children_verdict
of_first around next s t ts = of_two (height t) (greatest_height ts) (set_faults s t ++ breaches around next t) (in_trees around (place around s ∷ []) (after t next) ts)

pub of_hole : (around : Surroundings) (next : ℕ) (s : NodeSet) (ts : Trees) → children_verdict around next s (hole ts) ≡ children_verdict around next s ts
unfolding children_verdict
of_hole around next s ts = refl
