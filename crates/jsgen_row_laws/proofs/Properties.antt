-- Keys and properties.
use Rattle.std.proofs.Common.{◌≡◌, ℕ, Bool, true, false, not, ◌&&◌, ◌||◌, if◌then◌else◌, decimal, nat_le, Option, Some, None, is_some, option_map, List, [], ◌∷◌, bytes_eq, refl, sym, ap, ◌∙◌, subst}
use Rattle.std.specs.Option.{option_map_or}
use Rattle.std.proofs.lemmas.Bool.{both_ways}
use Rattle.std.proofs.lemmas.Option.{same_Some}
use Rattle.std.proofs.lemmas.Slice.Eq.{bytes_eq-Decides}
use Rattle.jsgen_syntax.specs.Escapes.{name_text}
use Rattle.jsgen_syntax.specs.Name.{spells_name, is_free_name}
use Rattle.jsgen_syntax.specs.Strings.{escaped, string_value, is_backtick, cheapest_of, quote_cost}
use Rattle.jsgen_syntax.specs.Wtf8.{are_units}
use Rattle.jsgen_syntax.specs.declared.quote.Quote.{Quote}
use Rattle.jsgen_syntax.specs.declared.quote.Quote.TheVariants as quotes
use Rattle.jsgen_syntax.specs.declared.precedence.Precedence.TheVariants as levels
use Rattle.jsgen_syntax.proofs.Escapes.{word_text_value}
use Rattle.jsgen_syntax.proofs.Strings.{escaped_value}
use Rattle.jsgen_tree.specs.Job.{Tables}
use Rattle.jsgen_tree.specs.Atom.{units}
use Rattle.jsgen_tree.specs.Number.{NumericKind, Whole, Raw}
use Rattle.jsgen_tree.specs.Tree.{Tree, Atoms, span_of, type_of}
use Rattle.jsgen_tree.specs.Nodes as tree
use Rattle.jsgen_tree.specs.Places.{bare}
use Rattle.jsgen_tree.specs.Named.{Named, as_written, printed_name}
use Rattle.jsgen_tree.specs.Inside.{inside_parentheses, looked_up_in, reference_named, written_name_in, is_proto, is_method, behind_minus, is_negative_big_integer}
use Rattle.jsgen_tree.specs.Values.{identifier_name_name, numeric_literal_kind, numeric_literal_negative, numeric_literal_digits, numeric_literal_text, big_int_literal_value, string_literal_value, object_property_kind, object_property_method, object_property_shorthand, object_property_computed}
use Rattle.jsgen_tree.specs.declared.collections.PropertyKind.{PropertyKind}
use Rattle.jsgen_tree.specs.declared.collections.PropertyKind.TheVariants as kinds
use Rattle.jsgen_model.specs.declared.fault.TreeFault.{TreeFault}
use Rattle.jsgen_model.specs.Punctuator.{colon, Square, opening}
use Rattle.jsgen_model.specs.Numbers.{takes_no_dot, is_big_integer}
use Rattle.jsgen_model.specs.Tokens.{Tokens, done, piece, group, Word, Number, Quoted, Sign}
use Rattle.jsgen_model.specs.Items.{Items, ◌⊕◌, where_same, number, string, punctuator, soft_space, nothing, before_it}
use Rattle.jsgen_model.specs.Layout.{Pen, Style, other_end, are_printed_alike, layout, written, chosen_quote, but_backticks, with_name_written}
use Rattle.jsgen_model.specs.Grammar.{Allowed, ReadsExpression, ReadsKey, ReadsMemberKey, ReadsProperty, with_in, on_same_line}
use Rattle.jsgen_model.specs.Grammar as grammar
use Rattle.jsgen_model.specs.Normal.{normal, named, unnumbered, by_text, number_text, minus_before, big_integer, property_values, is_written_as_method, is_computed, is_proto_shorthand}
use Rattle.jsgen_model.specs.Renamed.{renamed}
use Rattle.jsgen_place.specs.declared.place.Place.{Place}
use Rattle.jsgen_place.specs.Place.{in_brackets}
use Rattle.jsgen_model.specs.Spell.{spell, key_text, needs_brackets, key_items, accessor_word, method_or_property, method_words, spell_method, signed, number_items, big_text, big_integer_items, before_value, before_expression, items_unless, unless_said, is_function}
use Rattle.jsgen_model.specs.Valid.{named_faults, shorthand_faults}
use Rattle.jsgen_token_laws.proofs.Last.{Last, Open, After, line_of, Operand, Ready, Knows}
use Rattle.jsgen_token_laws.proofs.Writes.{Writes}
use Rattle.jsgen_token_laws.proofs.Steps.{printed_as_written, wrote_name, wrote_written_name, wrote_quoted, within_brackets, brackets_written}
use Rattle.jsgen_row_laws.proofs.Families.{IsExpression, IsKey, has_value}
use Rattle.jsgen_row_laws.proofs.Faultless.{none_unless}
use Rattle.jsgen_row_laws.proofs.Families as family
use Rattle.jsgen_row_laws.proofs.Names.{free_spelled}
use Rattle.jsgen_row_laws.proofs.Literals.{Numeral, whole_numeral, raw_numeral, big_numeral, big_whole, good_number}
use Rattle.jsgen_row_laws.proofs.Levels.{from_primary}
use Rattle.jsgen_row_laws.proofs.Adds.{a_start, a_line, End, is_good_for, behind_operand, Is, is, ◌⨟◌, ◌&◌, Adds, ◌⨾◌, read, laid, sign, spaced}
use Rattle.jsgen_row_laws.proofs.Parts.{Reads, OnLine, operand_ends, expression, gives_element}
use Rattle.jsgen_row_laws.proofs.Good.{Printed}
use Rattle.jsgen_row_laws.proofs.Marks.{mark_if_laid, comments_laid}
use Rattle.jsgen_row_laws.proofs.Links.{spread_in}
use Rattle.jsgen_row_laws.proofs.Lists.{Element, ElementAt}
use Rattle.jsgen_row_laws.proofs.Asked.{asked}
use Rattle.jsgen_row_laws.proofs.Unrenamed.{written_as_it_was, signed_as_it_was}

-- ---- keys

-- between two pens stands a key that is read so
pub record GoodKeyAs (names : Tables) (R : Tokens → Tree → Type 0) (p : Pen) (l : Last) (q : Pen) (t : Tree) : Type 0 where
  pub last : Last
  pub tokens : Tokens
  pub writes : Writes names p l q last tokens
  pub operand : Operand last
  pub semicolon : q.pending_semicolon ≡ false
  pub line : line_of l ≡ false → on_same_line tokens ≡ true
  pub tree : Tree
  pub reads : R tokens tree
  pub same : normal tree ≡ normal (renamed names t)

abbrev pub GoodKey : Tables → Pen → Last → Pen → Allowed → Bool → Tree → Type 0
GoodKey names p l q c computed t = GoodKeyAs names (ReadsKey c computed) p l q t

-- in brackets or alone
abbrev pub KeyAs : Tables → (Tokens → Tree → Type 0) → Bool → Tree → Type 0
KeyAs names R brackets t = (p : Pen) (l : Last) → p.pending_semicolon ≡ false → Ready l → Knows names p l → GoodKeyAs names R p l (layout (key_items brackets t (spell t (in_brackets levels.Comma))) p) t

abbrev pub KeyAt : Tables → Allowed → Bool → Tree → Type 0
KeyAt names c brackets t = KeyAs names (ReadsKey (with_in c) brackets) brackets t

abbrev pub KeyOf : Tables → Allowed → Bool → Tree → Type 0
KeyOf names c computed t = KeyAt names c (needs_brackets computed t) t

pub good_name_key : {names : Tables} (c : Allowed) (a : Atoms) → spells_name (identifier_name_name a) ≡ true → KeyOf names c false (tree.identifier_name a)
good_name_key c a h p l z b k =
    let v : List ℕ = identifier_name_name a in
    record {
      last = _;
      tokens = piece (line_of l) (Word (name_text p.style.ascii v)) done;
      writes = wrote_written_name v p l h k;
      operand = tt;
      semicolon = z;
      line = λ e. ap not e;
      tree = tree.identifier_name (named v);
      reads = grammar.a_name_key (word_text_value p.style.ascii v h);
      same = refl;
    }

-- a string that may not stand in backticks doesn't
cheapest_plain : (b : Bool) → is_backtick (if b then quotes.Double else quotes.Single) ≡ false
cheapest_plain true = refl
cheapest_plain false = refl

other_plain : (q : Quote) → is_backtick (but_backticks q) ≡ false
other_plain quotes.Backtick = refl
other_plain quotes.Single = refl
other_plain quotes.Double = refl

pub no_backticks : (style : Style) (us : List ℕ) → is_backtick (chosen_quote style false us) ≡ false
no_backticks style us = go style.minified
  where
    go : (b : Bool) → is_backtick (if b then cheapest_of false (quote_cost quotes.Single us) (quote_cost quotes.Double us) (quote_cost quotes.Backtick us) else but_backticks style.quote) ≡ false
    go true = cheapest_plain (nat_le (quote_cost quotes.Double us) (quote_cost quotes.Single us))
    go false = other_plain style.quote

pub good_string_key : {names : Tables} (c : Allowed) (a : Atoms) → are_units (string_literal_value a) ≡ true → KeyOf names c false (tree.string_literal a)
good_string_key c a h p l z b k =
    let us : List ℕ = string_literal_value a in
    let q : Quote = chosen_quote p.style false us in
    let w : List ℕ = escaped q p.style.ascii us in
    let e : string_value q w ≡ Some us = escaped_value q p.style.ascii us h in
    record {
      last = After (Quoted q w);
      tokens = piece (line_of l) (Quoted q w) done;
      writes = wrote_quoted q w us p (layout (string false us) p) l e refl refl k;
      operand = tt;
      semicolon = z;
      line = λ e. ap not e;
      tree = tree.string_literal (bare (units us ∷ []));
      reads = grammar.a_string_key (no_backticks p.style us) e;
      same = refl;
    }

-- a key in brackets is an expression, but no string in backticks
abbrev ComputedText : Tables → Allowed → Tree → Type 0
ComputedText names c t = (p : Pen) → p.pending_semicolon ≡ false → Knows names p (Open false) → Element names (ReadsExpression (with_in c) grammar.Assignment) p (Open false) (layout (key_text t (spell t (in_brackets levels.Comma))) p) t

computed_text : {names : Tables} {c : Allowed} {t : Tree} → IsExpression names c t → Printed names c t → ComputedText names c t
computed_text {names} {c} (family.a_string {a} h) f p z k =
    let us : List ℕ = string_literal_value a in
    let q : Quote = chosen_quote p.style false us in
    let w : List ℕ = escaped q p.style.ascii us in
    let e : string_value q w ≡ Some us = escaped_value q p.style.ascii us h in
    record {
      last = After (Quoted q w);
      tokens = piece false (Quoted q w) done;
      writes = wrote_quoted q w us p (layout (string false us) p) (Open false) e refl refl k;
      operand = tt;
      semicolon = z;
      tree = tree.string_literal (bare (units us ∷ []));
      reads = from_primary (in_brackets levels.Comma) (grammar.a_string e);
      same = refl;
    }
computed_text {names} {c} v f p z k =
    let g = f (in_brackets levels.Comma) p (Open false) z tt k in
    record { last = g.last; tokens = g.tokens; writes = g.writes; operand = g.operand; semicolon = g.semicolon; tree = g.tree; reads = g.reads; same = g.same }

pub good_computed_key : {names : Tables} {c : Allowed} {t : Tree} → IsExpression names c t → Printed names c t → KeyOf names c true t
good_computed_key {names} {c} {t} v f p l z b k =
    let p1 : Pen = written (opening Square) other_end p in
    let g = computed_text v f p1 z (within_brackets Square p l k) in
    record {
      last = Open false;
      tokens = group (line_of l) Square g.tokens done;
      writes = brackets_written Square p (layout (key_text t (spell t (in_brackets levels.Comma))) p1) l g.last g.tokens g.writes;
      operand = tt;
      semicolon = g.semicolon;
      line = λ e. ap not e;
      tree = g.tree;
      reads = grammar.a_computed_key g.reads;
      same = g.same;
    }

-- ---- numbers

-- a number alone
numeral_key : {names : Tables} (c : Allowed) (dot : Bool) (w : List ℕ) (t u : Tree) → Numeral names dot w u → normal (renamed names t) ≡ u → (p : Pen) (l : Last) → p.pending_semicolon ≡ false → Ready l → Knows names p l → GoodKey names p l (layout (number dot w) p) (with_in c) false t
numeral_key c dot w t u n e p l z b k = record {
  last = _;
  tokens = piece (line_of l) (Number w) done;
  writes = n.writes p l b k;
  operand = tt;
  semicolon = z;
  line = λ e. ap not e;
  tree = n.reading;
  reads = n.reads_key;
  same = n.same ∙ sym e;
}

positive_key : {names : Tables} (c : Allowed) (a : Atoms) → has_value (numeric_literal_kind a) a ≡ true → numeric_literal_negative a ≡ false → KeyAt names c false (tree.numeric_literal a)
positive_key {names} c a h m = by (numeric_literal_kind a) refl h
  where
    form : (kind : NumericKind) → numeric_literal_kind a ≡ kind → normal (tree.numeric_literal a) ≡ tree.numeric_literal (by_text (number_text kind a))
    form kind e = ap (λ x. minus_before x (tree.numeric_literal (by_text (number_text (numeric_literal_kind a) a)))) m ∙ ap (λ x. tree.numeric_literal (by_text (number_text x a))) e

    bare : (dot : Bool) (w : List ℕ) → normal (tree.numeric_literal a) ≡ tree.numeric_literal (by_text w) → Numeral names dot w (tree.numeric_literal (by_text w)) → (p : Pen) (l : Last) → p.pending_semicolon ≡ false → Ready l → Knows names p l → GoodKey names p l (layout (signed dot (numeric_literal_negative a) w (in_brackets levels.Comma)) p) (with_in c) false (tree.numeric_literal a)
    bare dot w e n p l z b k = subst (λ x. GoodKey names p l (layout (signed dot x w (in_brackets levels.Comma)) p) (with_in c) false (tree.numeric_literal a)) (sym m) (numeral_key c dot w (tree.numeric_literal a) _ n e p l z b k)

    by : (kind : NumericKind) → numeric_literal_kind a ≡ kind → has_value kind a ≡ true → (p : Pen) (l : Last) → p.pending_semicolon ≡ false → Ready l → Knows names p l → GoodKey names p l (layout (number_items kind a (in_brackets levels.Comma)) p) (with_in c) false (tree.numeric_literal a)
    by Whole e h = bare true (decimal (numeric_literal_digits a)) (form Whole e) (whole_numeral (numeric_literal_digits a) h)
    by Raw e h = bare (not (takes_no_dot (numeric_literal_text a))) (numeric_literal_text a) (form Raw e) (raw_numeral (numeric_literal_text a) h)

-- a negative number stands in brackets
pub good_number_key : {names : Tables} (c : Allowed) (a : Atoms) → has_value (numeric_literal_kind a) a ≡ true → KeyOf names c false (tree.numeric_literal a)
good_number_key {names} c a h = by (numeric_literal_negative a) refl
  where
    by : (b : Bool) → numeric_literal_negative a ≡ b → KeyAt names c (numeric_literal_negative a) (tree.numeric_literal a)
    by true e = subst (λ x. KeyAt names c x (tree.numeric_literal a)) (sym e) (good_computed_key (family.a_number {c = c} {a = a} h) (good_number c a h))
    by false e = subst (λ x. KeyAt names c x (tree.numeric_literal a)) (sym e) (positive_key c a h e)

pub good_big_integer_key : {names : Tables} (c : Allowed) (a : Atoms) → is_big_integer (big_int_literal_value a) ≡ true → is_negative_big_integer (tree.big_int_literal a) ≡ false → KeyOf names c false (tree.big_int_literal a)
good_big_integer_key {names} c a h m = by (behind_minus (big_int_literal_value a)) refl m
  where
    v : List ℕ
    v = big_int_literal_value a

    by : (o : Option (List ℕ)) → behind_minus v ≡ o → is_some o ≡ false → (p : Pen) (l : Last) → p.pending_semicolon ≡ false → Ready l → Knows names p l → GoodKey names p l (layout (big_integer_items a.span v o (in_brackets levels.Comma)) p) (with_in c) false (tree.big_int_literal a)
    by (Some w) e m = absurd (both_ways true m refl)
    by None e m = numeral_key c false (big_text v) (tree.big_int_literal a) _ (big_numeral v (big_whole v None h e)) (ap (big_integer v) e)

-- ---- properties

abbrev pub PropertyOf : Tables → Allowed → Tree → Type 0
PropertyOf names c t = ElementAt names (ReadsProperty (with_in c)) (in_brackets levels.Comma) t

pub good_spread_property : {names : Tables} (c : Allowed) (a : Atoms) (e : Tree) → Printed names c e → PropertyOf names c (tree.spread a e)
good_spread_property c a e f = spread_in c a e (in_brackets levels.Comma) (λ mark ts u r. grammar.a_spread_property r) f

-- ---- where the value says the key

-- the name by which a value is printed that is a reference, in parentheses or not
abbrev printed_in : Tables → Tree → Option (List ℕ)
printed_in names value = option_map (λ n. printed_name names n) (looked_up_in (inside_parentheses value))

-- the value says the name that is the key
abbrev says_name : Bool → List ℕ → Option (List ℕ) → Bool
says_name shorthand w o = if is_proto w then shorthand else option_map_or (λ v. bytes_eq v w) o false

-- it stands alone
abbrev is_short : Tables → Bool → Tree → Tree → Bool
is_short names shorthand key value = option_map_or (λ w. says_name shorthand w (printed_in names value)) (written_name_in key) false

-- where the names are printed the same
pub same_laid : {names : Tables} (p : Pen) (w : List ℕ) (value : Named) (alone whole : Items) → p.style.tables ≡ names → layout (where_same value (as_written w) alone whole) p ≡ layout (if bytes_eq (printed_name names value) w then alone else whole) p
same_laid {names} p w value alone whole t = ap (λ b. if b then layout alone p else layout whole p) told ∙ go (bytes_eq (printed_name names value) w)
  where
    told : are_printed_alike p.style.tables value (as_written w) ≡ bytes_eq (printed_name names value) w
    told = ap (λ tables. are_printed_alike tables value (as_written w)) t ∙ ap (λ x. bytes_eq (printed_name names value) x) (printed_as_written names w)

    go : (b : Bool) → (if b then layout alone p else layout whole p) ≡ layout (if b then alone else whole) p
    go true = refl
    go false = refl

-- what stands before the value
before_laid : {names : Tables} (p : Pen) (shorthand : Bool) (o : Option (List ℕ)) (value : Option Named) (key : Items) → p.style.tables ≡ names → layout (before_value shorthand o value key) p ≡ layout (if option_map_or (λ w. says_name shorthand w (option_map (λ n. printed_name names n) value)) o false then nothing else key ⊕ (punctuator colon ⊕ soft_space)) p
before_laid p shorthand None value key t = refl
before_laid {names} p shorthand (Some w) value key t = by (is_proto w) value
  where
    items : Items
    items = key ⊕ (punctuator colon ⊕ soft_space)

    by : (b : Bool) (r : Option Named) → layout (if b then items_unless shorthand items else unless_said w r items) p ≡ layout (if (if b then shorthand else option_map_or (λ v. bytes_eq v w) (option_map (λ n. printed_name names n) r) false) then nothing else items) p
    by true r = go shorthand
      where
        go : (b : Bool) → layout (items_unless b items) p ≡ layout (if b then nothing else items) p
        go true = refl
        go false = refl
    by false None = refl
    by false (Some v) = same_laid p w v nothing items t

-- a method and an accessor are spelled by the word, the key and the function, other properties by the key and the value
abbrev pub method_items : Atoms → Tree → Tree → Items
method_items a x v = accessor_word (object_property_kind a) ⊕ (method_words v ⊕ (key_items (needs_brackets (object_property_computed a) x) x (spell x (in_brackets levels.Comma)) ⊕ spell_method v (in_brackets levels.Comma)))

abbrev before_items : Atoms → Tree → Tree → Items
before_items a x v = before_value (object_property_shorthand a) (written_name_in x) (looked_up_in (inside_parentheses v)) (key_items (needs_brackets (object_property_computed a) x) x (spell x (in_brackets levels.Comma)))

abbrev pub plain_items : Atoms → Tree → Tree → Items
plain_items a x v = before_items a x v ⊕ (before_expression before_it v ⊕ spell v (in_brackets levels.Comma))

pub property_spelled : (p : Pen) (a : Atoms) (x v : Tree) (m : Bool) → is_method (object_property_kind a) (object_property_method a) ≡ m → layout (spell (tree.object_property a x v) (in_brackets levels.Comma)) p ≡ layout (method_or_property m (method_items a x v) (plain_items a x v)) p
property_spelled p a x v m h = λ i. layout (method_or_property (h i) (method_items a x v) (plain_items a x v)) (mark_if_laid (is_function (type_of v)) a.span p i)

-- a property that is no method, where the value stands alone or not
property_laid : {names : Tables} (p : Pen) (a : Atoms) (x v : Tree) (short : Bool) → is_method (object_property_kind a) (object_property_method a) ≡ false → p.style.tables ≡ names → is_short names (object_property_shorthand a) x v ≡ short → layout (spell (tree.object_property a x v) (in_brackets levels.Comma)) p ≡ layout (spell v (in_brackets levels.Comma)) (layout (if short then nothing else key_items (needs_brackets (object_property_computed a) x) x (spell x (in_brackets levels.Comma)) ⊕ (punctuator colon ⊕ soft_space)) p)
property_laid p a x v short m t s =
    let key : Items = key_items (needs_brackets (object_property_computed a) x) x (spell x (in_brackets levels.Comma)) in
    property_spelled p a x v false m ∙ ap (layout (spell v (in_brackets levels.Comma))) (comments_laid before_it v (layout (before_items a x v) p) ∙ (before_laid p (object_property_shorthand a) (written_name_in x) (looked_up_in (inside_parentheses v)) key t ∙ ap (λ y. layout (if y then nothing else key ⊕ (punctuator colon ⊕ soft_space)) p) s))

-- an expression that is a reference of this name, in parentheses or not
record Refers (names : Tables) (t : Tree) (n : Named) : Type 0 where
  laid : (place : Place) (p : Pen) → layout (spell t place) p ≡ with_name_written (printed_name p.style.tables n) p
  free : is_free_name (printed_name names n) ≡ true
  form : normal (renamed names t) ≡ tree.identifier_reference (unnumbered (printed_name names n))

none_is_some : {A : Type 0} (v : A) → None ≡ Some v → ⊥
none_is_some v e = both_ways false refl (ap is_some e)

referred : {names : Tables} {c : Allowed} {t : Tree} → IsExpression names c t → (n : Named) → looked_up_in (inside_parentheses t) ≡ Some n → Refers names t n
referred {names} (family.a_reference {a} h) n s =
    let e = same_Some (reference_named a) n s in
    record { laid = λ place p. ap (λ m. with_name_written (printed_name p.style.tables m) p) e; free = subst (λ m. is_free_name (printed_name names m) ≡ true) e h; form = ap (λ m. tree.identifier_reference (unnumbered (printed_name names m))) e }
referred (family.in_parentheses {a} {t} w) n s =
    let r = referred w n (sym ((asked w).parenthesized a).3 ∙ s) in
    record { laid = r.laid; free = r.free; form = r.form }
referred w n s = absurd (none_is_some n s)

-- the value is a reference that is printed as the key
record Says (names : Tables) (shorthand : Bool) (w : List ℕ) (value : Option Named) : Type 0 where
  named : Named
  reference : value ≡ Some named
  printed : printed_name names named ≡ w
  proto : (is_proto w && true) ≡ (is_proto w && shorthand)

none_named : (faults rest : List TreeFault) → (x : TreeFault) → x ∷ rest ≡ [] → ⊥
none_named faults rest x e = cc

-- of `__proto__` by the rule, and of other names by the test
by_rule : {names : Tables} (shorthand : Bool) (w : List ℕ) (value : Tree) (o : Option Named) → is_proto w ≡ true → shorthand ≡ true → named_faults names (span_of value) o ≡ [] → Says names shorthand w o
by_rule shorthand w value None e s f = absurd (none_named [] [] _ f)
by_rule {names} shorthand w value (Some v) e s f =
    let n : is_proto (printed_name names v) ≡ true = none_unless (is_proto (printed_name names v)) _ f in
    record { named = v; reference = refl; printed = (bytes_eq-Decides (printed_name names v) _).0 n ∙ sym ((bytes_eq-Decides w _).0 e); proto = ap (λ x. is_proto w && x) (sym s) }

by_name : {names : Tables} (shorthand : Bool) (w : List ℕ) (o : Option Named) → is_proto w ≡ false → option_map_or (λ v. bytes_eq v w) (option_map (λ n. printed_name names n) o) false ≡ true → Says names shorthand w o
by_name shorthand w None e h = absurd (both_ways false refl h)
by_name {names} shorthand w (Some v) e h = record { named = v; reference = refl; printed = (bytes_eq-Decides (printed_name names v) w).0 h; proto = ap (λ x. x && true) e ∙ ap (λ x. x && shorthand) (sym e) }

said : {names : Tables} (shorthand : Bool) (a : Atoms) (value : Tree) → shorthand_faults names shorthand (tree.identifier_name a) value ≡ [] → is_short names shorthand (tree.identifier_name a) value ≡ true → Says names shorthand (identifier_name_name a) (looked_up_in (inside_parentheses value))
said {names} shorthand a value f h = by (is_proto (identifier_name_name a)) refl f h
  where
    w : List ℕ
    w = identifier_name_name a

    o : Option Named
    o = looked_up_in (inside_parentheses value)

    by : (b : Bool) → is_proto w ≡ b → (if shorthand && b then named_faults names (span_of value) o else []) ≡ [] → (if b then shorthand else option_map_or (λ v. bytes_eq v w) (printed_in names value) false) ≡ true → Says names shorthand w o
    by true e f h = by_rule shorthand w value o e h (subst (λ s. (if s && true then named_faults names (span_of value) o else []) ≡ []) h f)
    by false e f h = by_name shorthand w o e h

-- what is no method and no accessor
plain_kind : (kind : PropertyKind) (method : Bool) → is_method kind method ≡ false → kinds.Init ≡ kind
plain_kind kinds.Init method n = refl
plain_kind kind method n = absurd (both_ways true n refl)

plain_form : (kind : PropertyKind) (method : Bool) → is_method kind method ≡ false → false ≡ is_written_as_method kind method
plain_form kinds.Init method n = sym n
plain_form kind method n = absurd (both_ways true n refl)

same_property : (a : Atoms) (s b : Bool) (k v x y : Tree) → is_method (object_property_kind a) (object_property_method a) ≡ false → is_proto_shorthand false s k ≡ is_proto_shorthand false (object_property_shorthand a) x → is_computed b k ≡ is_computed (object_property_computed a) x → normal k ≡ normal x → normal v ≡ normal y → normal (tree.object_property (property_values kinds.Init false s b) k v) ≡ normal (tree.object_property a x y)
same_property a s b k v x y m h d e f =
    let n = plain_kind (object_property_kind a) (object_property_method a) m in
    let w = plain_form (object_property_kind a) (object_property_method a) m in
    let g = h ∙ ap (λ t. is_proto_shorthand t (object_property_shorthand a) x) (sym m) in
    λ i. tree.object_property (property_values (n i) (w i) (g i) (d i)) (e i) (f i)

good_short_property : {names : Tables} (c : Allowed) (a b : Atoms) (v : Tree) → is_method (object_property_kind a) (object_property_method a) ≡ false → object_property_computed a ≡ false → shorthand_faults names (object_property_shorthand a) (tree.identifier_name b) v ≡ [] → is_short names (object_property_shorthand a) (tree.identifier_name b) v ≡ true → IsExpression names c v → PropertyOf names c (tree.object_property a (tree.identifier_name b) v)
good_short_property {names} c a b v m d f h value p l z y k =
    let w : List ℕ = identifier_name_name b in
    let says = said {names = names} (object_property_shorthand a) b v f h in
    let r = referred value says.named says.reference in
    let free : is_free_name w ≡ true = subst (λ x. is_free_name x ≡ true) says.printed r.free in
    let form : normal (renamed names v) ≡ tree.identifier_reference (unnumbered w) = r.form ∙ ap (λ x. tree.identifier_reference (unnumbered x)) says.printed in
    let q : Pen = with_name_written (printed_name p.style.tables says.named) p in
    subst (λ q. Element names (ReadsProperty (with_in c)) p l q (tree.object_property a (tree.identifier_name b) v)) (sym (property_laid p a (tree.identifier_name b) v true m k.tables h ∙ r.laid (in_brackets levels.Comma) p)) (record {
      last = _;
      tokens = piece (line_of l) (Word (name_text p.style.ascii w)) done;
      writes = subst (λ x. Writes names p l q (After (Word (name_text p.style.ascii x))) (piece (line_of l) (Word (name_text p.style.ascii x)) done)) says.printed (wrote_name says.named p l (free_spelled (printed_name names says.named) r.free) k);
      operand = tt;
      semicolon = z;
      tree = tree.object_property (property_values kinds.Init false true false) (tree.identifier_name (named w)) (tree.identifier_reference (unnumbered w));
      reads = grammar.a_shorthand (word_text_value p.style.ascii w (free_spelled w free)) free;
      same = same_property a true false (tree.identifier_name (named w)) (tree.identifier_reference (unnumbered w)) (tree.identifier_name b) (renamed names v) m says.proto (sym (ap (λ x. x || false) d)) refl (sym form);
    })

-- an expression has no written name
pub no_written_name : {names : Tables} {c : Allowed} {t : Tree} → IsExpression names c t → written_name_in t ≡ None
no_written_name (family.a_reference h) = refl
no_written_name v = refl

short_property : {names : Tables} (c : Allowed) (a : Atoms) {computed : Bool} {x v : Tree} → IsKey names c computed x → is_method (object_property_kind a) (object_property_method a) ≡ false → object_property_computed a ≡ computed → shorthand_faults names (object_property_shorthand a) x v ≡ [] → is_short names (object_property_shorthand a) x v ≡ true → IsExpression names c v → PropertyOf names c (tree.object_property a x v)
short_property c a {v = v} (family.a_name_key {a = b} h) m d f s value = good_short_property c a b v m d f s value
short_property c a (family.a_string_key h) m d f s value = absurd (both_ways false refl s)
short_property c a (family.a_number_key h) m d f s value = absurd (both_ways false refl s)
short_property c a (family.a_big_integer_key h n) m d f s value = absurd (both_ways false refl s)
short_property {names} c a {v = v} (family.a_computed_key w) m d f s value = absurd (both_ways false refl (ap (λ o. option_map_or (λ n. says_name (object_property_shorthand a) n (printed_in names v)) o false) (sym (no_written_name w)) ∙ s))

-- ---- a key and its value

and_false : (b : Bool) → (b && false) ≡ false
and_false true = refl
and_false false = refl

-- what is read with a colon is no shorthand, and what is printed so is none of `__proto__`
no_shorthand : (t : Tree) → is_proto_shorthand false false t ≡ false
no_shorthand t = and_false (option_map_or is_proto (written_name_in t) false)

not_said : (shorthand : Bool) (o r : Option (List ℕ)) → option_map_or (λ w. says_name shorthand w r) o false ≡ false → (option_map_or is_proto o false && shorthand) ≡ false
not_said shorthand None r h = refl
not_said shorthand (Some w) r h = by (is_proto w) h
  where
    by : (b : Bool) → (if b then shorthand else option_map_or (λ v. bytes_eq v w) r false) ≡ false → (b && shorthand) ≡ false
    by true h = h
    by false h = refl

-- what is read as a key is computed as it stands
pub read_computed : {c : Allowed} {b : Bool} {ts : Tokens} {k : Tree} → ReadsKey c b ts k → is_computed b k ≡ b
read_computed (grammar.a_name_key e) = refl
read_computed (grammar.a_string_key n e) = refl
read_computed (grammar.a_number_key n) = refl
read_computed (grammar.a_big_integer_key e) = refl
read_computed (grammar.a_computed_key r) = refl

-- the key of a member, which is a private name in a class alone
abbrev pub MemberKeyAt : Tables → Allowed → Bool → Bool → Tree → Type 0
MemberKeyAt names c private brackets t = KeyAs names (ReadsMemberKey (with_in c) private brackets) brackets t

pub public_key : {names : Tables} {private : Bool} (c : Allowed) (brackets : Bool) (x : Tree) → KeyAt names c brackets x → MemberKeyAt names c private brackets x
public_key c brackets x f p l z y k = let g = f p l z y k in record { last = g.last; tokens = g.tokens; writes = g.writes; operand = g.operand; semicolon = g.semicolon; line = g.line; tree = g.tree; reads = grammar.a_public_key g.reads; same = g.same }

-- a key as a stretch
pub key_as : {names : Tables} {d : End} (R : Tokens → Tree → Type 0) (brackets : Bool) (x : Tree) → is_good_for d a_start ≡ true → KeyAs names R brackets x → Adds names d (Reads names R x) behind_operand (key_items brackets x (spell x (in_brackets levels.Comma)))
key_as R brackets x h f = record { from = λ p l z y k. let g = f p l z (y a_start h) k in record { last = g.last; tokens = g.tokens; writes = g.writes; ends = operand_ends g.last g.operand; semicolon = g.semicolon; holds = record { reading = g.tree; reads = g.reads; same = g.same } } }

-- on the line of what stands before it
pub key_on_line : {names : Tables} {d : End} (R : Tokens → Tree → Type 0) (brackets : Bool) (x : Tree) → is_good_for d a_start ≡ true → is_good_for d a_line ≡ true → KeyAs names R brackets x → Adds names d (OnLine (Reads names R x)) behind_operand (key_items brackets x (spell x (in_brackets levels.Comma)))
key_on_line R brackets x h i f = record { from = λ p l z y k. let g = f p l z (y a_start h) k in record { last = g.last; tokens = g.tokens; writes = g.writes; ends = operand_ends g.last g.operand; semicolon = g.semicolon; holds = record { holds = record { reading = g.tree; reads = g.reads; same = g.same }; line = g.line (y a_line i) } } }

pub key_stretch : {names : Tables} {d : End} (c : Allowed) (brackets : Bool) (x : Tree) → is_good_for d a_start ≡ true → KeyAt names c brackets x → Adds names d (Reads names (ReadsKey (with_in c) brackets) x) behind_operand (key_items brackets x (spell x (in_brackets levels.Comma)))
key_stretch c brackets x h f = key_as (ReadsKey (with_in c) brackets) brackets x h f

abbrev Keyed : Tables → Allowed → Bool → Tree → Tree → Tokens → Type 0
Keyed names c brackets x v = Reads names (ReadsKey (with_in c) brackets) x ⨟ (Is (Sign colon) ⨟ Reads names (ReadsExpression (with_in c) grammar.Assignment) v)

read_keyed : (names : Tables) (c : Allowed) (a : Atoms) (computed : Bool) (x v : Tree) → is_method (object_property_kind a) (object_property_method a) ≡ false → object_property_computed a ≡ computed → is_short names (object_property_shorthand a) x v ≡ false → {ts : Tokens} → Keyed names c (needs_brackets computed x) x v ts → Reads names (ReadsProperty (with_in c)) (tree.object_property a x v) ts
read_keyed names c a computed x v m d s (k & (is mark & e)) = record {
  reading = tree.object_property (property_values kinds.Init false false (needs_brackets computed x)) k.reading e.reading;
  reads = grammar.a_property mark refl k.reads e.reads;
  same = same_property a false (needs_brackets computed x) k.reading e.reading (renamed names x) (renamed names v) m (no_shorthand k.reading ∙ sym (ap (λ o. option_map_or is_proto o false && object_property_shorthand a) (written_as_it_was names x) ∙ not_said (object_property_shorthand a) (written_name_in x) (printed_in names v) s)) (read_computed k.reads ∙ sym (ap (λ b. object_property_computed a || b) (signed_as_it_was names x) ∙ ap (λ y. needs_brackets y x) d)) k.same e.same;
}

good_keyed_property : {names : Tables} (c : Allowed) (a : Atoms) (computed : Bool) (x v : Tree) → is_method (object_property_kind a) (object_property_method a) ≡ false → object_property_computed a ≡ computed → is_short names (object_property_shorthand a) x v ≡ false → KeyOf names c computed x → Printed names c v → PropertyOf names c (tree.object_property a x v)
good_keyed_property {names} c a computed x v m d s key value =
    let key_at : Bool → Items = λ y. key_items (needs_brackets y x) x (spell x (in_brackets levels.Comma)) in
    let items : Items = key_at computed ⊕ (punctuator colon ⊕ (soft_space ⊕ spell v (in_brackets levels.Comma))) in
    gives_element (spell (tree.object_property a x v) (in_brackets levels.Comma)) (tree.object_property a x v) refl
    (laid items (spell (tree.object_property a x v) (in_brackets levels.Comma)) (λ p t. property_laid p a x v false m t s ∙ ap (λ y. layout (spell v (in_brackets levels.Comma)) (layout (key_at y ⊕ (punctuator colon ⊕ soft_space)) p)) d)
    (read (λ ts r. read_keyed names c a computed x v m d s r) (key_stretch c (needs_brackets computed x) x refl key ⨾ (sign colon tt tt tt refl ⨾ spaced (expression c refl value (in_brackets levels.Comma))))))

-- ---- either

-- a key that isn't a name is never said by a value
pub good_property : {names : Tables} (c : Allowed) (a : Atoms) (computed : Bool) (x v : Tree) → is_method (object_property_kind a) (object_property_method a) ≡ false → object_property_computed a ≡ computed → shorthand_faults names (object_property_shorthand a) x v ≡ [] → IsKey names c computed x → IsExpression names c v → KeyOf names c computed x → Printed names c v → PropertyOf names c (tree.object_property a x v)
good_property {names} c a computed x v m d f k value key printed = by (is_short names (object_property_shorthand a) x v) refl
  where
    by : (b : Bool) → is_short names (object_property_shorthand a) x v ≡ b → PropertyOf names c (tree.object_property a x v)
    by false s = good_keyed_property c a computed x v m d s key printed
    by true s = short_property c a k m d f s value
