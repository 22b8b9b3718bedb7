-- The directives and the statements of a valid program: each is of its set.
use Rattle.std.proofs.Common.{◌≡◌, ℕ, Bool, true, false, not, ◌&&◌, ◌++◌, List, [], ◌∷◌, refl}
use Rattle.std.proofs.lemmas.Bool.{and_parts}
use Rattle.jsgen_tree.specs.Tree.{Tree, node, Maybe, Trees, no_trees, more, hole, Atoms, type_of}
use Rattle.jsgen_tree.specs.Nodes as tree
use Rattle.jsgen_tree.specs.Sets.{in_set}
use Rattle.jsgen_tree.specs.Everywhere.{Everywhere, EverywhereInTrees}
use Rattle.jsgen_tree.specs.declared.types.NodeSet.{NodeSet}
use Rattle.jsgen_tree.specs.declared.types.NodeSet.TheVariants as sets
use Rattle.jsgen_model.specs.declared.fault.TreeFault.{TreeFault}
use Rattle.jsgen_model.specs.declared.fault.TreeFault.TheVariants as faults
use Rattle.jsgen_model.specs.Plain.{is_formed}
use Rattle.jsgen_model.specs.Valid.{Surroundings, ChildPlace, breaches, in_maybe, in_trees, has_place, may_stand, fits_kind, misfit, fault_if, set_faults, link_faults, uncooked_faults, span_faults, own_faults}
use Rattle.jsgen_model.specs.Resolved.{after}
use Rattle.jsgen_comment_laws.proofs.Takes.{AreStatements, AreDirectives}

none_both : (a b : List TreeFault) → a ++ b ≡ [] → (a ≡ []) × (b ≡ [])
none_both [] b e = (refl, e)
none_both (x ∷ a) b e = absurd (cc)

none_unless : (b : Bool) (f : TreeFault) → fault_if (not b) f ≡ [] → b ≡ true
none_unless true f e = refl
none_unless false f e = absurd (cc)

-- a child whose place has no fault is of the set, and fits it
of_set : (s : NodeSet) (t : Tree) → set_faults s t ≡ [] → (in_set s (type_of t) ≡ true) × (fits_kind s t ≡ true)
of_set s t e =
    let h = none_both (fault_if (not (may_stand s (type_of t) && fits_kind s t)) (faults.Place (misfit s t).start)) (link_faults s t ++ uncooked_faults s t) e in
    let k = and_parts (may_stand s (type_of t)) (fits_kind s t) (none_unless (may_stand s (type_of t) && fits_kind s t) (faults.Place (misfit s t).start) h.0) in
    ((and_parts (in_set s (type_of t)) (has_place s (type_of t)) k.0).0, k.1)

-- the first of a list
first_of : (next : ℕ) (around : Surroundings) (s : NodeSet) (t : Tree) (others : List TreeFault) → (set_faults s t ++ breaches around next t) ++ others ≡ [] → ((in_set s (type_of t) ≡ true) × (fits_kind s t ≡ true)) × (others ≡ [])
first_of next around s t others e =
    let h = none_both (set_faults s t ++ breaches around next t) others e in
    let k = none_both (set_faults s t) (breaches around next t) h.0 in
    (of_set s t k.0, h.1)

abbrev place_of : NodeSet → Surroundings → ChildPlace
place_of s around = record { set = s; around = around }

own_test : (t : Tree) → Everywhere is_formed t → is_formed t ≡ true
own_test (node type a slots) h = h.0

statements : (next : ℕ) (around : Surroundings) (others : List ChildPlace) (ts : Trees) → EverywhereInTrees is_formed ts → in_trees around (place_of sets.ModuleItem around ∷ others) next ts ≡ [] → AreStatements ts
statements next around others no_trees p e = tt
statements next around others (more t ts) p e = let k = first_of _ around sets.ModuleItem t _ e in ((own_test t p.0, (k.0.0, k.0.1)), statements (after t next) around others ts p.1 k.1)
statements next around others (hole ts) p e = statements next around others ts p e

directives_are : (next : ℕ) (around : Surroundings) (others : List ChildPlace) (ts : Trees) → EverywhereInTrees is_formed ts → in_trees around (place_of sets.Directive around ∷ others) next ts ≡ [] → AreDirectives ts
directives_are next around others no_trees p e = tt
directives_are next around others (more t ts) p e = let k = first_of _ around sets.Directive t _ e in ((own_test t p.0, k.0.0), directives_are (after t next) around others ts p.1 k.1)
directives_are next around others (hole ts) p e = directives_are next around others ts p e

pub members : (next : ℕ) (around : Surroundings) (a : Atoms) (rows : Trees) (hashbang : Maybe) (directives body : Trees) → Everywhere is_formed (tree.program a rows hashbang directives body) → breaches around next (tree.program a rows hashbang directives body) ≡ [] → AreDirectives directives × AreStatements body
members next around a rows hashbang directives body p e =
    let h = none_both (span_faults around a.span ++ own_faults around (tree.program a rows hashbang directives body)) _ e in
    let r = none_both (in_trees around (place_of sets.Comment around ∷ place_of sets.Hashbang around ∷ place_of sets.Directive around ∷ place_of sets.ModuleItem around ∷ []) _ rows) _ h.1 in
    let b = none_both (in_maybe around (place_of sets.Hashbang around ∷ place_of sets.Directive around ∷ place_of sets.ModuleItem around ∷ []) _ hashbang) _ r.1 in
    let d = none_both (in_trees around (place_of sets.Directive around ∷ place_of sets.ModuleItem around ∷ []) _ directives) _ b.1 in
    let k = none_both (in_trees around (place_of sets.ModuleItem around ∷ []) _ body) [] d.1 in
    (directives_are _ around (place_of sets.ModuleItem around ∷ []) directives p.1.1.1.0 d.0, statements _ around [] body p.1.1.1.1.0 k.0)
