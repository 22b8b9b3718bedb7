-- What the lemmas on operations, chains and directives ask of an expression: one line a row.
use Rattle.std.proofs.Common.{◌≡◌, ◌⊎◌, inl, inr, ℕ, Bool, true, false, Option, Some, None, is_some, List, [], ◌∷◌, refl, sym, ap, ◌∙◌, subst}
use Rattle.std.proofs.lemmas.Bool.{both_ways}
use Rattle.std.proofs.lemmas.Option.{same_Some}
use Rattle.jsgen_syntax.specs.Wtf8.{are_units}
use Rattle.jsgen_tree.specs.Job.{Tables}
use Rattle.jsgen_tree.specs.Atom.{units}
use Rattle.jsgen_tree.specs.Tree.{Tree, Atoms, type_of}
use Rattle.jsgen_tree.specs.Nodes as tree
use Rattle.jsgen_tree.specs.Places.{bare}
use Rattle.jsgen_tree.specs.Values.{numeric_literal_kind, numeric_literal_negative, big_int_literal_value, string_literal_value, logical_expression_operator}
use Rattle.jsgen_tree.specs.Inside.{inside_parentheses, looked_up_in, behind_minus}
use Rattle.jsgen_model.specs.Grammar.{Allowed}
use Rattle.jsgen_model.specs.Normal.{normal, chain, by_text, number_text, minus_before, big_integer}
use Rattle.jsgen_model.specs.Renamed.{renamed}
use Rattle.jsgen_model.specs.Items.{arrow_body_begins}
use Rattle.jsgen_model.specs.Spell.{mixes, is_or_or_and, string_in, body_begins}
use Rattle.jsgen_row_laws.proofs.Families.{IsExpression, IsInBackticks}
use Rattle.jsgen_row_laws.proofs.Families as family

-- of a normal form: a chain that mixes with `??`, a string, and a unary operation or `await`, which is one without its normal form too, or a number with a minus before it
abbrev pub is_mixed : Tree → Bool
is_mixed (chain a operands) = is_or_or_and (logical_expression_operator a)
is_mixed t = false

abbrev pub is_string : Tree → Bool
is_string (tree.string_literal a) = true
is_string t = false

abbrev pub is_unary : Tree → Bool
is_unary (tree.unary a argument) = true
is_unary (tree.await_expression a argument) = true
is_unary t = false

-- of a tree: what has one of these as its normal form
abbrev pub is_signed : Tree → Bool
is_signed (tree.unary a argument) = true
is_signed (tree.await_expression a argument) = true
is_signed (tree.numeric_literal a) = numeric_literal_negative a
is_signed (tree.big_int_literal a) = is_some (behind_minus (big_int_literal_value a))
is_signed t = false

abbrev pub IsStringOf : Tables → Tree → List ℕ → Type 0
IsStringOf names t us = (are_units us ≡ true) × (normal (renamed names t) ≡ tree.string_literal (bare (units us ∷ [])))

-- a function's parentheses stay, which is one for all that is asked
abbrev pub Parenthesized : Tree → Type 0
Parenthesized t = (a : Atoms) → let u : Tree = inside_parentheses (tree.parenthesized a t) in (mixes u ≡ mixes (inside_parentheses t)) × (string_in u ≡ string_in (inside_parentheses t)) × (is_signed u ≡ is_signed (inside_parentheses t)) × (looked_up_in u ≡ looked_up_in (inside_parentheses t))

pub record Asked (names : Tables) (t : Tree) : Type 0 where
  -- it begins behind the arrow of a function, and in parentheses it answers as without them
  pub begins : body_begins (type_of t) ≡ arrow_body_begins
  pub parenthesized : Parenthesized t
  -- the normal form tells which operands mix, which are a string, unless they are a template of one piece, and which are unary operations
  pub mixed : is_mixed (normal (renamed names t)) ≡ mixes (inside_parentheses t)
  pub string : IsInBackticks t ⊎ (is_string (normal (renamed names t)) ≡ is_some (string_in (inside_parentheses t)))
  pub inside : (us : List ℕ) → string_in (inside_parentheses t) ≡ Some us → IsStringOf names t us
  pub unary : is_unary (normal (renamed names t)) ≡ is_signed (inside_parentheses t)

none_is_some : (us : List ℕ) → None ≡ Some us → ⊥
none_is_some us e = both_ways false refl (ap is_some e)

-- an expression that is no string, and has no parentheses round it
no_string : {names : Tables} {t : Tree} → body_begins (type_of t) ≡ arrow_body_begins → Parenthesized t → is_mixed (normal (renamed names t)) ≡ mixes (inside_parentheses t) → is_string (normal (renamed names t)) ≡ false → string_in (inside_parentheses t) ≡ None → is_unary (normal (renamed names t)) ≡ is_signed (inside_parentheses t) → Asked names t
no_string e o m s n u = record { begins = e; parenthesized = o; mixed = m; string = inr (s ∙ sym (ap is_some n)); inside = λ us h. absurd (none_is_some us (sym n ∙ h)); unary = u }

abbrev number_form : Atoms → Tree
number_form a = tree.numeric_literal (by_text (number_text (numeric_literal_kind a) a))

asked_number : {names : Tables} (a : Atoms) (b : Bool) → numeric_literal_negative a ≡ b → Asked names (tree.numeric_literal a)
asked_number a b e = no_string refl (λ b. (refl, refl, refl, refl)) (ap is_mixed (form b e) ∙ plain b) (ap is_string (form b e) ∙ plain_string b) refl (ap is_unary (form b e) ∙ told b ∙ sym e)
  where
    form : (b : Bool) → numeric_literal_negative a ≡ b → normal (tree.numeric_literal a) ≡ minus_before b (number_form a)
    form b e = ap (λ x. minus_before x (number_form a)) e

    plain : (b : Bool) → is_mixed (minus_before b (number_form a)) ≡ false
    plain true = refl
    plain false = refl

    plain_string : (b : Bool) → is_string (minus_before b (number_form a)) ≡ false
    plain_string true = refl
    plain_string false = refl

    told : (b : Bool) → is_unary (minus_before b (number_form a)) ≡ b
    told true = refl
    told false = refl

asked_big_integer : {names : Tables} (a : Atoms) (o : Option (List ℕ)) → behind_minus (big_int_literal_value a) ≡ o → Asked names (tree.big_int_literal a)
asked_big_integer a o e = no_string refl (λ b. (refl, refl, refl, refl)) (ap is_mixed form ∙ plain o) (ap is_string form ∙ plain_string o) refl (ap is_unary form ∙ told o ∙ sym (ap is_some e))
  where
    form : normal (tree.big_int_literal a) ≡ big_integer (big_int_literal_value a) o
    form = ap (big_integer (big_int_literal_value a)) e

    plain : (o : Option (List ℕ)) → is_mixed (big_integer (big_int_literal_value a) o) ≡ false
    plain (Some w) = refl
    plain None = refl

    plain_string : (o : Option (List ℕ)) → is_string (big_integer (big_int_literal_value a) o) ≡ false
    plain_string (Some w) = refl
    plain_string None = refl

    told : (o : Option (List ℕ)) → is_unary (big_integer (big_int_literal_value a) o) ≡ is_some o
    told (Some w) = refl
    told None = refl

pub asked : {names : Tables} {c : Allowed} {t : Tree} → IsExpression names c t → Asked names t
asked (family.a_reference h) = no_string refl (λ a. (refl, refl, refl, refl)) refl refl refl refl
asked family.a_this = no_string refl (λ a. (refl, refl, refl, refl)) refl refl refl refl
asked family.a_null = no_string refl (λ a. (refl, refl, refl, refl)) refl refl refl refl
asked family.a_boolean = no_string refl (λ a. (refl, refl, refl, refl)) refl refl refl refl
asked (family.a_number {a} h) = asked_number a (numeric_literal_negative a) refl
asked (family.a_big_integer {a} h) = asked_big_integer a (behind_minus (big_int_literal_value a)) refl
asked (family.a_string {a} h) = record {
  begins = refl;
  parenthesized = λ b. (refl, refl, refl, refl);
  mixed = refl;
  string = inr refl;
  inside = λ us s. let e = same_Some (string_literal_value a) us s in (subst (λ x. are_units x ≡ true) e h, ap (λ x. tree.string_literal (bare (units x ∷ []))) e);
  unary = refl;
}
asked (family.a_regular_expression s h f) = no_string refl (λ a. (refl, refl, refl, refl)) refl refl refl refl
asked (family.in_parentheses {a} {t} v) =
    let k = asked v in
    let o = k.parenthesized a in
    record {
      begins = refl;
      parenthesized = λ b. (refl, refl, refl, refl);
      mixed = k.mixed ∙ sym o.0;
      string = parenthesized k.string (λ e. e ∙ ap is_some (sym o.1));
      inside = λ us s. k.inside us (sym o.1 ∙ s);
      unary = k.unary ∙ sym o.2;
    }
  where
    parenthesized : {A B : Type 0} → IsInBackticks t ⊎ A → (A → B) → IsInBackticks (tree.parenthesized a t) ⊎ B
    parenthesized (inl h) f = inl (family.a_parenthesized_piece h)
    parenthesized (inr x) f = inr (f x)
asked (family.a_named_member m v h) = no_string refl (λ a. (refl, refl, refl, refl)) refl refl refl refl
asked (family.a_private_member e m v h) = no_string refl (λ a. (refl, refl, refl, refl)) refl refl refl refl
asked (family.a_private_test e h v) = no_string refl (λ a. (refl, refl, refl, refl)) refl refl refl refl
asked (family.a_template_alone h) = record { begins = refl; parenthesized = λ a. (refl, refl, refl, refl); mixed = refl; string = inl (family.a_piece_alone h); inside = λ us e. absurd (none_is_some us e); unary = refl }
asked (family.a_template h v) = no_string refl (λ a. (refl, refl, refl, refl)) refl refl refl refl
asked (family.a_tagged_template v w) = no_string refl (λ a. (refl, refl, refl, refl)) refl refl refl refl
asked (family.a_computed_member m v w) = no_string refl (λ a. (refl, refl, refl, refl)) refl refl refl refl
asked (family.a_call m v w) = no_string refl (λ a. (refl, refl, refl, refl)) refl refl refl refl
asked (family.a_chain v) = no_string refl (λ a. (refl, refl, refl, refl)) refl refl refl refl
asked (family.an_array v) = no_string refl (λ a. (refl, refl, refl, refl)) refl refl refl refl
asked (family.an_object v) = no_string refl (λ a. (refl, refl, refl, refl)) refl refl refl refl
asked (family.an_operation v w) = no_string refl (λ a. (refl, refl, refl, refl)) refl refl refl refl
asked (family.a_logical_operation v w) = no_string refl (λ a. (refl, refl, refl, refl)) refl refl refl refl
asked (family.a_unary_operation v) = no_string refl (λ a. (refl, refl, refl, refl)) refl refl refl refl
asked (family.an_update s v) = no_string refl (λ a. (refl, refl, refl, refl)) refl refl refl refl
asked (family.a_construction v w) = no_string refl (λ a. (refl, refl, refl, refl)) refl refl refl refl
asked (family.a_choice v w x) = no_string refl (λ a. (refl, refl, refl, refl)) refl refl refl refl
asked (family.a_sequence v w x) = no_string refl (λ a. (refl, refl, refl, refl)) refl refl refl refl
asked (family.an_assignment_to_pattern o v w) = no_string refl (λ a. (refl, refl, refl, refl)) refl refl refl refl
asked (family.an_assignment s v w) = no_string refl (λ a. (refl, refl, refl, refl)) refl refl refl refl
asked family.a_new_target = no_string refl (λ a. (refl, refl, refl, refl)) refl refl refl refl
asked family.an_import_meta = no_string refl (λ a. (refl, refl, refl, refl)) refl refl refl refl
asked (family.an_import_call v w) = no_string refl (λ a. (refl, refl, refl, refl)) refl refl refl refl
asked (family.an_arrow_function v w) = no_string refl (λ a. (refl, refl, refl, refl)) refl refl refl refl
asked (family.a_function v) = no_string refl (λ a. (refl, refl, refl, refl)) refl refl refl refl
asked (family.an_arrow_with_body v w) = no_string refl (λ a. (refl, refl, refl, refl)) refl refl refl refl
asked (family.an_await h v) = no_string refl (λ a. (refl, refl, refl, refl)) refl refl refl refl
asked (family.a_yield_alone h m) = no_string refl (λ a. (refl, refl, refl, refl)) refl refl refl refl
asked (family.a_yield h v) = no_string refl (λ a. (refl, refl, refl, refl)) refl refl refl refl
asked (family.a_class v) = no_string refl (λ a. (refl, refl, refl, refl)) refl refl refl refl
