-- Why private names of a valid tree are of the families over which the induction goes, where the expressions below them are: the tables have no other names for those that are core.
use Rattle.std.proofs.Common.{◌≡◌, ◌&&◌, ℕ, Bool, true, false, not, List, [], Option, Some, None, refl, subst}
use Rattle.std.proofs.lemmas.Bool.{both_ways, or_parts}
use Rattle.std.specs.Option.{is_some}
use Rattle.jsgen_syntax.specs.Name.{spells_name}
use Rattle.jsgen_syntax.specs.declared.span.Span.{Span}
use Rattle.jsgen_tree.specs.Inside.{has_optional_link}
use Rattle.jsgen_tree.specs.Nodes as tree
use Rattle.jsgen_tree.specs.Sets.{is_expression, is_private_identifier}
use Rattle.jsgen_tree.specs.Tree.{Tree, Atoms, type_of}
use Rattle.jsgen_tree.specs.Values.{private_identifier_name, private_field_expression_optional}
use Rattle.jsgen_tree.specs.declared.types.NodeSet.TheVariants as sets
use Rattle.jsgen_tree.specs.declared.types.NodeType.{NodeType}
use Rattle.jsgen_tree.specs.declared.types.NodeType.TheVariants as types
use Rattle.jsgen_model.specs.declared.fault.TreeFault.TheVariants as faults
use Rattle.jsgen_row_laws.proofs.CoreIn.{IsCoreIn}
use Rattle.jsgen_model.specs.Private.{printed_private}
use Rattle.jsgen_model.specs.Valid.{Surroundings, breaches, span_faults, super_faults, is_private, member_key_faults, private_name_faults}
use Rattle.jsgen_row_laws.proofs.Families.{allowed_in, IsExpression, IsChain, IsMemberKey}
use Rattle.jsgen_row_laws.proofs.Families as family
use Rattle.jsgen_row_laws.proofs.PrivateNames.{unrenamed_private}
use Rattle.jsgen_reading_laws.proofs.ValidPatterns.{ValidExpression}
use Rattle.jsgen_row_laws.proofs.Faultless.{none_unless, parts, standing, placed, no_truth, no_truth_behind, StandsAt, base_stands, base_valid, key_valid, link_kind}
use Rattle.jsgen_row_laws.proofs.FaultlessClasses.{member_key}

-- ---- a private name

spelled_since : (around : Surroundings) (s : Span) (w : List ℕ) → around.tables.private ≡ None → private_name_faults around.tables around.classes s w ≡ [] → spells_name w ≡ true
spelled_since around s w t e = subst (λ x. spells_name x ≡ true) (unrenamed_private around.tables around.classes w t) (none_unless (spells_name (printed_private around.tables around.classes w)) (faults.Name s.start) e)

-- where one is core, the tables have no other for it
none_renamed : {T : Type 0} (o : Option T) → (not (is_some o) && true) ≡ true → o ≡ None
none_renamed None e = refl
none_renamed (Some all) e = absurd (no_truth e)

private_name_valid : (next : ℕ) (around : Surroundings) (n : Tree) (P : Tree → Type 0) → IsCoreIn around.tables n → is_private_identifier (type_of n) ≡ true → breaches around next n ≡ [] → ((b : Atoms) → around.tables.private ≡ None → spells_name (private_identifier_name b) ≡ true → P (tree.private_identifier b)) → P n
private_name_valid next around (tree.private_identifier b) P p s e f =
    let t = none_renamed around.tables.private p.0 in
    f b t (spelled_since around b.span (private_identifier_name b) t (parts (span_faults around b.span) (private_name_faults around.tables around.classes b.span (private_identifier_name b)) [] e).0)
private_name_valid next around n P p s e f = absurd (search (no_truth, no_truth_behind))

-- ---- members, tests and keys

pub private_member_valid : (next : ℕ) (around : Surroundings) (a : Atoms) (o n : Tree) → ValidExpression o → IsCoreIn around.tables (tree.private_member a o n) → StandsAt sets.Expression (tree.private_member a o n) → breaches around next (tree.private_member a o n) ≡ [] → IsExpression around.tables (allowed_in around) (tree.private_member a o n)
private_member_valid next around a o n v p s e =
    let h = parts (span_faults around a.span) (super_faults true o) _ e in
    let k = standing _ around sets.Link o _ h.1 in
    let j = placed _ around sets.PrivateIdentifier n [] k.2 in
    let i = or_parts (private_field_expression_optional a) (has_optional_link o) s.1 in
    private_name_valid _ around n (λ x. IsExpression around.tables (allowed_in around) (tree.private_member a o x)) p.1.1.0 j.0 j.1 (λ b t y. family.a_private_member t i.0 (v _ around p.1.0 (base_stands o k.0 h.0 i.1) k.1) y)

-- a link of a chain, which one before it may be too
abbrev pub ValidChain : Tree → Type 0
ValidChain t = (next : ℕ) (around : Surroundings) → IsCoreIn around.tables t → breaches around next t ≡ [] → has_optional_link t ≡ true → IsChain around.tables (allowed_in around) t

no_super : (b : Bool) (o : Tree) → super_faults true o ≡ [] → super_faults b o ≡ []
no_super true o e = e
no_super false o e = refl

pub private_link_valid : (next : ℕ) (around : Surroundings) (a : Atoms) (o n : Tree) → ValidChain o → ValidExpression o → IsCoreIn around.tables (tree.private_member a o n) → breaches around next (tree.private_member a o n) ≡ [] → has_optional_link (tree.private_member a o n) ≡ true → IsChain around.tables (allowed_in around) (tree.private_member a o n)
private_link_valid next around a o n c v p e i =
    let h = parts (span_faults around a.span) (super_faults true o) _ e in
    let k = standing _ around sets.Link o _ h.1 in
    let j = placed _ around sets.PrivateIdentifier n [] k.2 in
    let f : has_optional_link o ≡ true → IsChain around.tables (allowed_in around) o = λ x. c _ around p.1.0 k.1 x in
    let g : StandsAt sets.Expression o → IsExpression around.tables (allowed_in around) o = λ x. v _ around p.1.0 x k.1 in
    private_name_valid _ around n (λ x. IsChain around.tables (allowed_in around) (tree.private_member a o x)) p.1.1.0 j.0 j.1
    (λ b t y. link_kind (private_field_expression_optional a) o i (no_super (private_field_expression_optional a) o h.0) (λ q r. family.an_optional_private_member t q (base_valid (allowed_in around) o k.0 r f g) y) (λ q r. family.a_further_private_member t q (f r) y))

pub private_test_valid : (next : ℕ) (around : Surroundings) (a : Atoms) (n u : Tree) → ValidExpression u → IsCoreIn around.tables (tree.private_in a n u) → breaches around next (tree.private_in a n u) ≡ [] → IsExpression around.tables (allowed_in around) (tree.private_in a n u)
private_test_valid next around a n u v p e =
    let k = placed _ around sets.PrivateIdentifier n _ (parts (span_faults around a.span) [] _ e).1 in
    let j = standing _ around sets.Expression u [] k.2 in
    private_name_valid _ around n (λ x. IsExpression around.tables (allowed_in around) (tree.private_in a x u)) p.1.0 k.0 k.1 (λ b t y. family.a_private_test t y (v _ around p.1.1.0 j.0 j.1))

private_key_valid : (next : ℕ) (around : Surroundings) (n : Tree) → IsCoreIn around.tables n → is_private_identifier (type_of n) ≡ true → breaches around next n ≡ [] → IsMemberKey around.tables (allowed_in around) false n
private_key_valid next around n p s e = private_name_valid next around n (λ x. IsMemberKey around.tables (allowed_in around) false x) p s e (λ b t y. family.a_private_key t y)

private_type : (type : NodeType) → is_private type ≡ true → is_private_identifier type ≡ true
private_type types.PrivateIdentifier h = refl
private_type type h = absurd (no_truth h)

-- the key of a member of a class
pub member_key_valid : (next : ℕ) (around : Surroundings) (computed : Bool) (k : Tree) → IsCoreIn around.tables k → member_key_faults computed k ≡ [] → breaches around next k ≡ [] → (is_expression (type_of k) ≡ true → IsExpression around.tables (allowed_in around) k) → IsMemberKey around.tables (allowed_in around) computed k
member_key_valid next around computed k p f e v = by computed (is_private (type_of k)) refl f
  where
    public : (b : Bool) → (b ≡ false → is_private (type_of k) ≡ false) → member_key_faults b k ≡ [] → IsMemberKey around.tables (allowed_in around) b k
    public b n f = let g = member_key b k n f in family.a_public_key g.1 (key_valid next (allowed_in around) around b k p g.0 e v)

    by : (b is : Bool) → is_private (type_of k) ≡ is → member_key_faults b k ≡ [] → IsMemberKey around.tables (allowed_in around) b k
    by true is i f = public true (λ n. absurd (both_ways true n refl)) f
    by false true i f = private_key_valid next around k p (private_type (type_of k) i) e
    by false false i f = public false (λ n. i) f
