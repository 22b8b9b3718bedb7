-- Numbers and big integers, with a minus before them or not.
use Rattle.std.proofs.Common.{◌≡◌, ◌^◌, nat_lt, ℕ, ◌==◌, Bool, true, false, not, ◌&&◌, ◌||◌, decimal, codes, Option, Some, None, is_some, option_and_then, unwrap_or, if◌then◌else◌, List, [], ◌∷◌, refl, sym, ap, subst, ◌∙◌, arith}
use Rattle.std.specs.Char.{is_ascii_digit}
use Rattle.std.specs.List.{last_or, list_any, list_all}
use Rattle.std.specs.Option.{option_map_or}
use Rattle.std.proofs.lemmas.Bool.{both_ways, and_parts, or_parts, or_from, not-true, eqb-true, ltb-true}
use Rattle.jsgen_syntax.specs.Escapes.{begins}
use Rattle.jsgen_syntax.specs.declared.operator.UnaryOperator.TheVariants as unary_operators
use Rattle.jsgen_syntax.specs.declared.precedence.Precedence.TheVariants as levels
use Rattle.jsgen_tree.specs.Job.{Tables}
use Rattle.jsgen_tree.specs.Number.{NumericKind, Whole, Raw}
use Rattle.jsgen_tree.specs.Tree.{Tree, Atoms}
use Rattle.jsgen_tree.specs.Nodes as tree
use Rattle.jsgen_tree.specs.Inside.{after_minus, unless_minus, behind_minus}
use Rattle.jsgen_tree.specs.Values.{numeric_literal_kind, numeric_literal_negative, numeric_literal_digits, numeric_literal_text, big_int_literal_value}
use Rattle.jsgen_model.specs.Punctuator.{minus}
use Rattle.jsgen_model.specs.Numbers.{ends_in, spells_number, spells_whole, is_raw_number, is_big_integer, takes_no_dot}
use Rattle.jsgen_model.specs.Tokens.{done, piece, Number, Sign}
use Rattle.jsgen_model.specs.Items.{nothing, ◌⊕◌, number, operator}
use Rattle.jsgen_model.specs.Layout.{Pen, layout}
use Rattle.jsgen_model.specs.Grammar.{Allowed, ReadsExpression, ReadsKey, has_suffix}
use Rattle.jsgen_model.specs.Grammar as grammar
use Rattle.jsgen_model.specs.Normal.{normal, named, by_text, number_text, minus_before, big_integer}
use Rattle.jsgen_model.specs.Renamed.{renamed}
use Rattle.jsgen_place.specs.declared.place.Place.{Place}
use Rattle.jsgen_place.specs.Place.{within, child, wraps}
use Rattle.jsgen_model.specs.Spell.{negative, signed, number_items, big_text, big_integer_items}
use Rattle.jsgen_token_laws.proofs.Characters.{whole_digits}
use Rattle.jsgen_token_laws.proofs.Last.{Last, After, line_of, Ready, Knows}
use Rattle.jsgen_token_laws.proofs.Literals.{whole_begins}
use Rattle.jsgen_token_laws.proofs.Writes.{Writes}
use Rattle.jsgen_token_laws.proofs.Steps.{wrote_whole, wrote_raw, wrote_big, wrote_minus}
use Rattle.jsgen_row_laws.proofs.Levels.{level_of, under, from_primary, lifted, unwrapped}
use Rattle.jsgen_row_laws.proofs.Families.{has_value}
use Rattle.jsgen_row_laws.proofs.Numbers.{decimal_whole}
use Rattle.jsgen_row_laws.proofs.Good.{Printed, good_wrapped, PrintedBy, begins_all}
use Rattle.jsgen_row_laws.proofs.Marks.{behind_mark_if}
use Rattle.jsgen_row_laws.proofs.Prefixes.{sign_before, good_prefix, nothing_soft}

-- ---- what a number ends in

no_digit : (c : ℕ) → is_ascii_digit c ≡ true → ((c == 110) || false) ≡ false
no_digit c h = or_from (c == 110) false (by (c == 110) refl) refl
  where
    by : (b : Bool) → (c == 110) ≡ b → b ≡ false
    by true q = absurd (both_ways false refl (subst (λ x. is_ascii_digit x ≡ true) (eqb-true c 110 q) h))
    by false q = refl

no_suffix_in : (o : Option ℕ) → option_map_or (λ c. list_any (λ d. c == d) (codes ".n")) o false ≡ false → option_map_or (λ c. list_any (λ d. c == d) (codes "n")) o false ≡ false
no_suffix_in None h = refl
no_suffix_in (Some c) h = (or_parts (c == 46) _ h).1

raw_suffix : (w : List ℕ) → is_raw_number w ≡ true → has_suffix w ≡ false
unfolding is_raw_number
raw_suffix w h =
    let k = and_parts (begins is_ascii_digit w && not (ends_in (codes ".n") w)) (spells_number w) h in
    no_suffix_in (last_or None w) (not-true (ends_in (codes ".n") w) (and_parts (begins is_ascii_digit w) (not (ends_in (codes ".n") w)) k.0).1)

digits_no_suffix : (w : List ℕ) → list_all is_ascii_digit w ≡ true → has_suffix w ≡ false
digits_no_suffix [] h = refl
digits_no_suffix (c ∷ []) h = no_digit c (and_parts (is_ascii_digit c) true h).0
digits_no_suffix (c ∷ d ∷ w) h = digits_no_suffix (d ∷ w) (and_parts (is_ascii_digit c) (list_all is_ascii_digit (d ∷ w)) h).1

whole_suffix : (w : List ℕ) → spells_whole w ≡ true → has_suffix w ≡ false
whole_suffix w h = digits_no_suffix w (whole_digits w h)

-- ---- the digits of a big integer

unsigned : (w : List ℕ) → spells_whole w ≡ true → after_minus w ≡ None
unsigned [] h = refl
unsigned (c ∷ w) h = by (c == 45) refl
  where
    by : (b : Bool) → (c == 45) ≡ b → (if b then Some w else None) ≡ None
    by true q = absurd (both_ways false refl (subst (λ x. is_ascii_digit x ≡ true) (eqb-true c 45 q) (whole_begins (c ∷ w) h)))
    by false q = refl

no_minus : (w : List ℕ) → spells_whole w ≡ true → behind_minus w ≡ None
no_minus w h = ap (option_and_then unless_minus) (unsigned w h)

pub big_whole : (v : List ℕ) (o : Option (List ℕ)) → is_big_integer v ≡ true → behind_minus v ≡ o → spells_whole (unwrap_or o v) ≡ true
unfolding is_big_integer
big_whole [] o h e = absurd (both_ways false refl h)
big_whole (c ∷ w) o h e = by (c == 45) h e
  where
    by : (b : Bool) → (if b then spells_whole w else spells_whole (c ∷ w)) ≡ true → option_and_then unless_minus (if b then Some w else None) ≡ o → spells_whole (unwrap_or o (c ∷ w)) ≡ true
    by true h e = subst (λ x. spells_whole (unwrap_or x (c ∷ w)) ≡ true) (sym (ap (λ x. if is_some x then None else Some w) (unsigned w h)) ∙ e) h
    by false h e = subst (λ x. spells_whole (unwrap_or x (c ∷ w)) ≡ true) e h

-- ---- the token of a number

-- the token of a number, which is read as a tree of this normal form
pub record Numeral (names : Tables) (dot : Bool) (w : List ℕ) (t : Tree) : Type 0 where
  pub writes : (p : Pen) (l : Last) → Ready l → Knows names p l → Writes names p l (layout (number dot w) p) (After (Number w)) (piece (line_of l) (Number w) done)
  pub reading : Tree
  pub reads : {c : Allowed} {mark : Bool} → ReadsExpression c grammar.Primary (piece mark (Number w) done) reading
  pub reads_key : {c : Allowed} {mark : Bool} → ReadsKey c false (piece mark (Number w) done) reading
  -- it has no name
  pub unnamed : renamed names reading ≡ reading
  pub same : normal reading ≡ t

pub whole_numeral : {names : Tables} (n : ℕ) → nat_lt n (2 ^ 128) ≡ true → Numeral names true (decimal n) (tree.numeric_literal (by_text (decimal n)))
whole_numeral n h = let s = decimal_whole n (ltb-true n _ h) in record {
  writes = λ p l y k. wrote_whole (decimal n) p l s y k;
  reading = tree.numeric_literal (by_text (decimal n));
  reads = grammar.a_number (whole_suffix (decimal n) s);
  reads_key = grammar.a_number_key (whole_suffix (decimal n) s);
  unnamed = refl;
  same = refl;
}

pub raw_numeral : {names : Tables} (w : List ℕ) → is_raw_number w ≡ true → Numeral names (not (takes_no_dot w)) w (tree.numeric_literal (by_text w))
raw_numeral w h = record {
  writes = λ p l y k. wrote_raw w p l h y k;
  reading = tree.numeric_literal (by_text w);
  reads = grammar.a_number (raw_suffix w h);
  reads_key = grammar.a_number_key (raw_suffix w h);
  unnamed = refl;
  same = refl;
}

pub big_numeral : {names : Tables} (w : List ℕ) → spells_whole w ≡ true → Numeral names false (big_text w) (tree.big_int_literal (named w))
big_numeral w h = record {
  writes = λ p l y k. wrote_big w p l h y k;
  reading = tree.big_int_literal (named w);
  reads = grammar.a_big_integer refl;
  reads_key = grammar.a_big_integer_key refl;
  unnamed = refl;
  same = ap (big_integer w) (no_minus w h);
}

-- its normal form is that of what is read, whatever names are printed
as_read : {names : Tables} {dot : Bool} {w : List ℕ} {u : Tree} → (n : Numeral names dot w u) → normal (renamed names n.reading) ≡ u
as_read n = ap normal n.unnamed ∙ n.same

bare_numeral : {names : Tables} (c : Allowed) (place : Place) (dot : Bool) (w : List ℕ) (t u : Tree) → Numeral names dot w u → normal (renamed names t) ≡ u → PrintedBy names (under place c) (level_of place) (number dot w) t
bare_numeral c place dot w t u n e p l z y k = record {
  last = _;
  tokens = piece (line_of l) (Number w) done;
  writes = n.writes p l y k;
  operand = tt;
  semicolon = z;
  begins = λ b h. begins_all p.start (piece (line_of l) (Number w) b) refl;
  line = λ g. ap not g;
  tree = n.reading;
  reads = from_primary place n.reads;
  same = n.same ∙ sym e;
}

-- a minus, and a number behind it
negative_numeral : {names : Tables} (c : Allowed) (place : Place) (dot : Bool) (w : List ℕ) (t u : Tree) → Numeral names dot w u → normal (renamed names t) ≡ minus_before true u → PrintedBy names (under place c) (level_of place) (negative dot w place) t
negative_numeral c place dot w t u n e =
    good_wrapped c place grammar.Unary (wraps levels.Prefix place) (λ v. operator minus ⊕ number dot w) t
    (λ d ts x r. lifted false levels.Exponentiation levels.Lowest (omega arith) r) (λ f ts x r. unwrapped levels.Prefix place f r)
    (λ v f. good_prefix (operator minus) (Sign minus) nothing (number dot w) n.reading t (under (within v place) c) grammar.Unary grammar.Unary (sign_before minus tt wrote_minus) nothing_soft
    (λ ts line x r s. (minus_before true x, grammar.a_unary_operation unary_operators.UnaryNegation r, ap (minus_before true) (s ∙ as_read n) ∙ sym e))
    (bare_numeral c (child levels.Exponentiation (within v place)) dot w n.reading u n (as_read n)))

signed_numeral : {names : Tables} (c : Allowed) (place : Place) (dot sign : Bool) (w : List ℕ) (t u : Tree) → Numeral names dot w u → normal (renamed names t) ≡ minus_before sign u → PrintedBy names (under place c) (level_of place) (signed dot sign w place) t
signed_numeral c place dot true w t u n e = negative_numeral c place dot w t u n e
signed_numeral c place dot false w t u n e = bare_numeral c place dot w t u n e

pub good_number : {names : Tables} (c : Allowed) (a : Atoms) → has_value (numeric_literal_kind a) a ≡ true → Printed names c (tree.numeric_literal a)
good_number {names} c a h place = by (numeric_literal_kind a) refl h
  where
    form : (kind : NumericKind) → numeric_literal_kind a ≡ kind → normal (tree.numeric_literal a) ≡ minus_before (numeric_literal_negative a) (tree.numeric_literal (by_text (number_text kind a)))
    form kind e = ap (λ x. minus_before (numeric_literal_negative a) (tree.numeric_literal (by_text (number_text x a)))) e

    by : (kind : NumericKind) → numeric_literal_kind a ≡ kind → has_value kind a ≡ true → PrintedBy names (under place c) (level_of place) (number_items kind a place) (tree.numeric_literal a)
    by Whole e h = signed_numeral c place true (numeric_literal_negative a) (decimal (numeric_literal_digits a)) (tree.numeric_literal a) _ (whole_numeral (numeric_literal_digits a) h) (form Whole e)
    by Raw e h = signed_numeral c place (not (takes_no_dot (numeric_literal_text a))) (numeric_literal_negative a) (numeric_literal_text a) (tree.numeric_literal a) _ (raw_numeral (numeric_literal_text a) h) (form Raw e)

pub good_big_integer : {names : Tables} (c : Allowed) (a : Atoms) → is_big_integer (big_int_literal_value a) ≡ true → Printed names c (tree.big_int_literal a)
good_big_integer {names} c a h place = by (behind_minus (big_int_literal_value a)) refl
  where
    v : List ℕ
    v = big_int_literal_value a

    by : (o : Option (List ℕ)) → behind_minus v ≡ o → PrintedBy names (under place c) (level_of place) (big_integer_items a.span v o place) (tree.big_int_literal a)
    by (Some w) e = behind_mark_if (wraps levels.Prefix place) a.span (negative false (big_text w) place) (negative_numeral c place false (big_text w) (tree.big_int_literal a) _ (big_numeral w (big_whole v (Some w) h e)) (ap (big_integer v) e))
    by None e = bare_numeral c place false (big_text v) (tree.big_int_literal a) _ (big_numeral v (big_whole v None h e)) (ap (big_integer v) e)
