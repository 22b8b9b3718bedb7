-- Why the templates of a valid tree are of the families over which the induction goes, where the expressions between their pieces are.
use Rattle.std.proofs.Common.{◌≡◌, ℕ, Bool, true, false, not, ◌&&◌, ◌||◌, Option, Some, None, is_some, List, [], ◌∷◌, refl, ap}
use Rattle.std.proofs.lemmas.Bool.{and_parts, or_parts, not-true}
use Rattle.std.proofs.lemmas.Slice.Eq.{bytes_eq-Decides}
use Rattle.jsgen_syntax.specs.Raw.{holds_close_tag}
use Rattle.jsgen_syntax.specs.Strings.{string_value}
use Rattle.jsgen_syntax.specs.declared.quote.Quote.TheVariants.{Backtick}
use Rattle.jsgen_tree.specs.Everywhere.{EverywhereInTrees}
use Rattle.jsgen_tree.specs.Job.{Tables}
use Rattle.jsgen_tree.specs.Nodes as tree
use Rattle.jsgen_tree.specs.Sets.{is_template_element, is_template_literal}
use Rattle.jsgen_tree.specs.Tree.{Tree, Trees, no_trees, more, hole, Atoms, type_of}
use Rattle.jsgen_tree.specs.Values.{template_element_raw, template_element_cooked}
use Rattle.jsgen_tree.specs.declared.types.NodeSet.TheVariants as sets
use Rattle.jsgen_model.specs.declared.fault.TreeFault.TheVariants as faults
use Rattle.jsgen_model.specs.Grammar.{Allowed}
use Rattle.jsgen_model.specs.Plain.{has_no_hole, keep_raw_texts}
use Rattle.jsgen_row_laws.proofs.CoreIn.{IsCoreIn, is_core_row}
use Rattle.jsgen_model.specs.Resolved.{after}
use Rattle.jsgen_model.specs.Templates.{is_raw, is_cooked, are_same}
use Rattle.jsgen_model.specs.Valid.{Surroundings, ChildPlace, breaches, in_trees, span_faults, piece_faults, template_faults, is_one_more, any_uncooked}
use Rattle.jsgen_row_laws.proofs.Families.{allowed_in, IsPiece, IsExpression, AreParts, ArePieces, IsTemplate}
use Rattle.jsgen_row_laws.proofs.Families as family
use Rattle.jsgen_reading_laws.proofs.ValidPatterns.{Below, EachBelow, ValidExpression}
use Rattle.jsgen_reading_laws.proofs.ValidLists.{parts_valid}
use Rattle.jsgen_row_laws.proofs.Faultless.{none_both, none_unless, standing, fits_there, parts, placed, no_truth, no_truth_behind, no_falsehood, place_of}

-- each piece of a list
data EachPiece (tagged : Bool) : Trees → Type 0 where
  no_piece : EachPiece tagged no_trees
  one_piece : {q : Tree} {qs : Trees} → IsPiece tagged q → EachPiece tagged qs → EachPiece tagged (more q qs)

-- ---- one piece

same_units : (o : Option (List ℕ)) (us : List ℕ) → are_same o (Some us) ≡ true → o ≡ Some us
same_units None us h = absurd (no_truth h)
same_units (Some vs) us h = ap (λ ws. Some ws) ((bytes_eq-Decides vs us).0 h)

-- without a tag it stands for something
cooked_piece : (names : Tables) (a : Atoms) (o : Option (List ℕ)) → template_element_cooked a ≡ o → IsCoreIn names (tree.template_element a) → is_raw (template_element_raw a) ≡ true → is_cooked (template_element_raw a) o ≡ true → not (is_some o) ≡ false → IsPiece false (tree.template_element a)
cooked_piece names a None e p r c n = absurd (no_falsehood n)
cooked_piece names a (Some us) e p r c n = family.a_piece p.0 r (same_units (string_value Backtick (template_element_raw a)) us c) e

-- what is asked of pieces, behind a tag or without one, and of one alone
abbrev pub fits_tag : Bool → Trees → Bool
fits_tag true qs = keep_raw_texts qs
fits_tag false qs = not (any_uncooked qs)

abbrev FitsTag : Bool → Atoms → Type 0
FitsTag true a = holds_close_tag (template_element_raw a) ≡ false
FitsTag false a = not (is_some (template_element_cooked a)) ≡ false

first_fits : (tagged : Bool) (a : Atoms) (qs : Trees) → fits_tag tagged (more (tree.template_element a) qs) ≡ true → FitsTag tagged a × (fits_tag tagged qs ≡ true)
first_fits true a qs h = let k = and_parts (not (holds_close_tag (template_element_raw a))) (keep_raw_texts qs) h in (not-true (holds_close_tag (template_element_raw a)) k.0, k.1)
first_fits false a qs h = let k = or_parts (not (is_some (template_element_cooked a))) (any_uncooked qs) (not-true (not (is_some (template_element_cooked a)) || any_uncooked qs) h) in (k.0, ap not k.1)

piece_of : (names : Tables) (tagged : Bool) (a : Atoms) → IsCoreIn names (tree.template_element a) → FitsTag tagged a → is_raw (template_element_raw a) ≡ true → is_cooked (template_element_raw a) (template_element_cooked a) ≡ true → IsPiece tagged (tree.template_element a)
piece_of names true a p f r c = family.a_tagged_piece p.0 r f
piece_of names false a p f r c = cooked_piece names a (template_element_cooked a) refl p r c f

-- ---- the pieces of a list

abbrev is_piece : Tree → Bool
is_piece (tree.template_element a) = true
is_piece t = false

none_but_piece : (names : Tables) (t : Tree) → is_core_row names t ≡ true → is_template_element (type_of t) ≡ true → is_piece t ≡ false → ⊥
none_but_piece names (tree.template_element a) p s n = no_falsehood n
none_but_piece names t p s n = search (no_truth, no_truth_behind)

pieces_valid : (next : ℕ) (around : Surroundings) (others : List ChildPlace) (tagged : Bool) (qs : Trees) → has_no_hole qs ≡ true → EverywhereInTrees (is_core_row around.tables) qs → in_trees around (place_of sets.TemplateElement around ∷ others) next qs ≡ [] → fits_tag tagged qs ≡ true → EachPiece tagged qs
pieces_valid next around others tagged no_trees n p e f = no_piece
pieces_valid next around others tagged (more (tree.template_element a) qs) n p e f =
    let k = placed next around sets.TemplateElement (tree.template_element a) _ e in
    let h = parts (span_faults around a.span) (piece_faults a.span (template_element_raw a) (template_element_cooked a)) [] k.1 in
    let r = and_parts (is_raw (template_element_raw a)) (is_cooked (template_element_raw a) (template_element_cooked a)) (none_unless (is_raw (template_element_raw a) && is_cooked (template_element_raw a) (template_element_cooked a)) (faults.Template a.span.start) h.0) in
    let g = first_fits tagged a qs f in
    one_piece (piece_of around.tables tagged a p.0 g.0 r.0 r.1) (pieces_valid _ around others tagged qs n p.1 k.2 g.1)
pieces_valid next around others tagged (more t qs) n p e f = absurd (none_but_piece around.tables t p.0.0 (placed next around sets.TemplateElement t _ e).0 refl)
pieces_valid next around others tagged (hole qs) n p e f = absurd (no_truth n)

-- ---- the whole

-- behind the first piece stands nothing, or pieces and expressions
data Behind (names : Tables) (c : Allowed) (tagged : Bool) : Trees → Trees → Type 0 where
  nothing_behind : Behind names c tagged no_trees no_trees
  pieces_behind : {r : Tree} {qs es : Trees} → ArePieces names c tagged (more r qs) es → Behind names c tagged (more r qs) es

one_more : {names : Tables} {c : Allowed} {tagged : Bool} {q e : Tree} {qs es : Trees} → IsPiece tagged q → IsExpression names c e → Behind names c tagged qs es → ArePieces names c tagged (more q qs) (more e es)
one_more k v nothing_behind = family.last_piece k v
one_more k v (pieces_behind w) = family.piece_before k v w

-- there is one piece more than expressions
behind : {names : Tables} {c : Allowed} {tagged : Bool} {qs es : Trees} (q : Tree) → is_one_more (more q qs) es ≡ true → EachPiece tagged qs → AreParts names c es → Behind names c tagged qs es
behind q h no_piece family.no_part = nothing_behind
behind q h no_piece (family.first_part v w) = absurd (no_truth h)
behind q h (one_piece k ks) family.no_part = absurd (no_truth h)
behind q h (one_piece {q = r} k ks) (family.first_part v w) = pieces_behind (one_more k v (behind r h ks w))

template_since : {names : Tables} {c : Allowed} {q : Tree} {qs es : Trees} (a : Atoms) → IsPiece false q → Behind names c false qs es → IsExpression names c (tree.template_literal a (more q qs) es)
template_since a k nothing_behind = family.a_template_alone k
template_since a k (pieces_behind w) = family.a_template k w

of_pieces : {names : Tables} {c : Allowed} {qs es : Trees} (a : Atoms) → EachPiece false qs → AreParts names c es → is_one_more qs es ≡ true → IsExpression names c (tree.template_literal a qs es)
of_pieces a no_piece v h = absurd (no_truth h)
of_pieces a (one_piece {q} k ks) v h = template_since a k (behind q h ks v)

tagged_since : {names : Tables} {c : Allowed} {q : Tree} {qs es : Trees} (a : Atoms) → IsPiece true q → Behind names c true qs es → IsTemplate names c (tree.template_literal a (more q qs) es)
tagged_since a k nothing_behind = family.a_whole_template k
tagged_since a k (pieces_behind w) = family.a_template_of_parts k w

tagged_pieces : {names : Tables} {c : Allowed} {qs es : Trees} (a : Atoms) → EachPiece true qs → AreParts names c es → is_one_more qs es ≡ true → IsTemplate names c (tree.template_literal a qs es)
tagged_pieces a no_piece v h = absurd (no_truth h)
tagged_pieces a (one_piece {q} k ks) v h = tagged_since a k (behind q h ks v)

-- its pieces and expressions, behind a tag or without one
both_valid : (next : ℕ) (around : Surroundings) (tagged : Bool) (a : Atoms) (qs es : Trees) → EachBelow ValidExpression es → IsCoreIn around.tables (tree.template_literal a qs es) → fits_tag tagged qs ≡ true → breaches around next (tree.template_literal a qs es) ≡ [] → EachPiece tagged qs × AreParts around.tables (allowed_in around) es × (is_one_more qs es ≡ true)
both_valid next around tagged a qs es q p f e =
    let others : List ChildPlace = place_of sets.Expression around ∷ [] in
    let h = parts (span_faults around a.span) (template_faults a.span qs es) _ e in
    let k = none_both (in_trees around (place_of sets.TemplateElement around ∷ others) next qs) _ h.1 in
    let j = none_both (in_trees around others _ es) [] k.1 in
    let n = and_parts (has_no_hole es) (has_no_hole qs) p.0 in
    (pieces_valid next around others tagged qs n.1 p.1.0 k.0 f, parts_valid _ around es q n.0 p.1.1.0 j.0, none_unless (is_one_more qs es) (faults.Template a.span.start) h.0)

pub template_valid : (next : ℕ) (around : Surroundings) (a : Atoms) (qs es : Trees) → EachBelow ValidExpression es → IsCoreIn around.tables (tree.template_literal a qs es) → fits_there sets.Expression (tree.template_literal a qs es) ≡ true → breaches around next (tree.template_literal a qs es) ≡ [] → IsExpression around.tables (allowed_in around) (tree.template_literal a qs es)
template_valid next around a qs es q p f e =
    let k = both_valid next around false a qs es q p (and_parts (not (any_uncooked qs)) true f).0 e in
    of_pieces a k.0 k.1 k.2

-- behind a tag stands a template
abbrev is_template : Tree → Bool
is_template (tree.template_literal a qs es) = true
is_template t = false

none_but_template : (names : Tables) (t : Tree) → is_core_row names t ≡ true → is_template_literal (type_of t) ≡ true → is_template t ≡ false → ⊥
none_but_template names (tree.template_literal a qs es) p s n = no_falsehood n
none_but_template names t p s n = search (no_truth, no_truth_behind)

pub tagged_template_valid : (next : ℕ) (around : Surroundings) (a : Atoms) (t u : Tree) → ValidExpression t → Below ValidExpression u → IsCoreIn around.tables (tree.tagged_template a t u) → breaches around next (tree.tagged_template a t u) ≡ [] → IsExpression around.tables (allowed_in around) (tree.tagged_template a t u)
tagged_template_valid next around a t (tree.template_literal b qs es) v q p e =
    let i = standing _ around sets.Expression t _ (parts (span_faults around a.span) [] _ e).1 in
    let u = placed (after t next) around sets.TemplateLiteral (tree.template_literal b qs es) [] i.2 in
    let raw = and_parts (keep_raw_texts qs) true (and_parts (keep_raw_texts qs && true) true p.0).0 in
    let k = both_valid (after t next) around true b qs es q.1.0 p.1.1.0 raw.0 u.1 in
    family.a_tagged_template (v _ around p.1.0 i.0 i.1) (tagged_pieces b k.0 k.1 k.2)
tagged_template_valid next around a t u v q p e =
    let i = standing _ around sets.Expression t _ (parts (span_faults around a.span) [] _ e).1 in
    absurd (none_but_template around.tables u p.1.1.0.0 (placed (after t next) around sets.TemplateLiteral u [] i.2).0 refl)
