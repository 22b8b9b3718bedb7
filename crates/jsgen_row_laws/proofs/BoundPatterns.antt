-- Patterns that are bound: of elements and of properties, what takes the rest, and a value where there is none.
use Rattle.std.proofs.Common.{◌≡◌, ℕ, Bool, true, false, ◌||◌, Option, Some, None, List, [], ◌∷◌, if◌then◌else◌, bytes_eq, refl, sym, ap, ◌∙◌, subst}
use Rattle.std.proofs.lemmas.Slice.Eq.{bytes_eq-Decides}
use Rattle.jsgen_syntax.specs.Escapes.{name_text, word_value}
use Rattle.jsgen_syntax.specs.Name.{spells_name, is_free_name}
use Rattle.jsgen_syntax.specs.declared.span.Span.{Span}
use Rattle.jsgen_syntax.proofs.Escapes.{word_text_value}
use Rattle.jsgen_tree.specs.Atom.{flag}
use Rattle.jsgen_tree.specs.Inside.{binding_named, bound_in, written_name_in}
use Rattle.jsgen_tree.specs.Named.{Named, printed_name}
use Rattle.jsgen_tree.specs.Places.{bare}
use Rattle.jsgen_tree.specs.Values.{binding_property_computed, identifier_name_name}
use Rattle.jsgen_syntax.specs.declared.precedence.Precedence.TheVariants as levels
use Rattle.jsgen_tree.specs.Job.{Tables}
use Rattle.jsgen_tree.specs.Nodes as tree
use Rattle.jsgen_tree.specs.Tree.{Tree, Maybe, absent, given, Trees, no_trees, more, hole, Atoms}
use Rattle.jsgen_model.specs.Punctuator.{equal, ellipsis, colon, Square, Brace}
use Rattle.jsgen_model.specs.Tokens.{Tokens, done, piece, Word, Sign}
use Rattle.jsgen_model.specs.Items.{Items, nothing, ◌⊕◌, name, punctuator, soft_space}
use Rattle.jsgen_model.specs.Layout.{layout}
use Rattle.jsgen_model.specs.Grammar.{Allowed, ReadsExpression, ReadsBinding, ReadsBindingElement, ReadsBindingElements, ReadsBindingProperty, ReadsBindingProperties, ReadsKey, computed_values, with_in}
use Rattle.jsgen_model.specs.Grammar as grammar
use Rattle.jsgen_model.specs.Normal.{nothing_of, named, unnumbered}
use Rattle.jsgen_place.specs.declared.place.Place.{Place}
use Rattle.jsgen_place.specs.Place.{child, in_brackets}
use Rattle.jsgen_model.specs.Spell.{spell, pattern_braces, needs_brackets, key_items, before_bound}
use Rattle.jsgen_token_laws.proofs.Last.{After, line_of}
use Rattle.jsgen_token_laws.proofs.Steps.{wrote_name}
use Rattle.jsgen_row_laws.proofs.Levels.{under}
use Rattle.jsgen_row_laws.proofs.Freed.{freed_binding}
use Rattle.jsgen_row_laws.proofs.Names.{free_spelled}
use Rattle.jsgen_row_laws.proofs.Families.{IsKey}
use Rattle.jsgen_row_laws.proofs.Families as family
use Rattle.jsgen_row_laws.proofs.Properties.{KeyOf, no_written_name, good_name_key, key_stretch, same_laid}
use Rattle.jsgen_row_laws.proofs.Good.{Printed}
use Rattle.jsgen_row_laws.proofs.Bindings.{Bound}
use Rattle.jsgen_row_laws.proofs.Adds.{a_start, an_operand, End, is_good_for, at_start, at_member, behind_operand, behind_token, unknown, Is, is, Within, within, ◌⨟◌, ◌&◌, Adds, ◌⨾◌, read, at_token, at_any, at_operand, after_token, laid, past, sign, dots, spaced, before_space, bracketed}
use Rattle.jsgen_row_laws.proofs.Parts.{Reads, expression, start_ends, operand_ends}
use Rattle.jsgen_row_laws.proofs.Rests.{Joins, Row, Each, Every, IfGiven, elements, properties, properties_items}

-- ---- bindings as stretches

pub binding : {names : Tables} {d : End} {t : Tree} (c : Allowed) → is_good_for d a_start ≡ true → Bound names c t → (place : Place) → Adds names d (Reads names (ReadsBinding (under place c)) t) behind_operand (spell t place)
binding c h f place = record { from = λ p l z y k. let g = f place p l z (y a_start h) k in record { last = g.last; tokens = g.tokens; writes = g.writes; ends = operand_ends g.last g.operand; semicolon = g.semicolon; holds = record { reading = g.tree; reads = g.reads; same = g.same } } }

pub bound_by : {names : Tables} {e : End} (c : Allowed) (t : Tree) → is_good_for e an_operand ≡ true → ((place : Place) → Adds names at_start (Reads names (ReadsBinding (under place c)) t) e (spell t place)) → Bound names c t
bound_by c t h f place p l z y k = let x = (f place).from p l z (start_ends l y) k in record { last = x.last; tokens = x.tokens; writes = x.writes; operand = x.ends an_operand h; semicolon = x.semicolon; tree = x.holds.reading; reads = x.holds.reads; same = x.holds.same }

-- ---- an element, with a value or without one; within brackets `in` may stand

abbrev pub ElementOf : Tables → Allowed → Tree → Type 0
ElementOf names c t = (place : Place) → Adds names at_start (Reads names (ReadsBindingElement (with_in c)) t) behind_operand (spell t place)

pub element_alone : {names : Tables} (c : Allowed) (t : Tree) → Bound names c t → ElementOf names c t
element_alone c t f place = read (λ ts r. record { reading = r.reading; reads = grammar.a_binding_alone (freed_binding r.reads); same = r.same }) (binding c refl f place)

read_valued : (names : Tables) (c d : Allowed) (a : Atoms) (b v : Tree) {ts : Tokens} → (Reads names (ReadsBinding c) b ⨟ (Is (Sign equal) ⨟ Reads names (ReadsExpression (with_in c) grammar.Assignment) v)) ts → Reads names (ReadsBindingElement (with_in c)) (tree.assignment_pattern a b v) ts
read_valued names c d a b v (r & (is o & s)) = record { reading = tree.assignment_pattern (nothing_of 0) r.reading s.reading; reads = grammar.a_binding_with_default o refl (freed_binding r.reads) s.reads; same = λ i. tree.assignment_pattern (nothing_of 0) (r.same i) (s.same i) }

-- a sign, and a value
pub valued : {names : Tables} {P : Tokens → Type 0} {d e : End} {i : Items} (c : Allowed) (v : Tree) → is_good_for e an_operand ≡ true → Printed names c v → Adds names d P e i → Adds names d (P ⨟ (Is (Sign equal) ⨟ Reads names (ReadsExpression (with_in c) grammar.Assignment) v)) behind_operand (i ⊕ (soft_space ⊕ (punctuator equal ⊕ (soft_space ⊕ spell v (in_brackets levels.Comma)))))
valued c v h g f = f ⨾ spaced (sign equal tt tt tt h ⨾ spaced (expression c refl g (in_brackets levels.Comma)))

pub element_with_value : {names : Tables} (c : Allowed) (a : Atoms) (b v : Tree) → Bound names c b → Printed names c v → ElementOf names c (tree.assignment_pattern a b v)
element_with_value {names} c a b v f g place = read (λ ts r. read_valued names (under place c) c a b v r) (valued c v refl g (binding c refl f (child levels.Lowest place)))

-- ---- what takes the rest

abbrev RestElement : Allowed → Tokens → Tree → Type 0
RestElement c us t = ReadsBindingElements (with_in c) us no_trees (given t)

read_rest_element : (names : Tables) (c : Allowed) (a : Atoms) (b : Tree) {ts : Tokens} → (Is (Sign ellipsis) ⨟ Reads names (ReadsBinding c) b) ts → Reads names (RestElement c) (tree.binding_rest_element a b) ts
read_rest_element names c a b (is o & r) = record { reading = tree.binding_rest_element (nothing_of 0) r.reading; reads = grammar.a_binding_rest (freed_binding r.reads); same = λ i. tree.binding_rest_element (nothing_of 0) (r.same i) }

abbrev pub RestOf : Tables → Allowed → Maybe → Type 0
RestOf names c m = (place : Place) → IfGiven names (RestElement c) place m

pub rest_element : {names : Tables} (c : Allowed) (a : Atoms) (b : Tree) → Bound names c b → RestOf names c (given (tree.binding_rest_element a b))
rest_element {names} c a b f place = past (λ p. refl) (read (λ ts r. read_rest_element names (under place c) a b r) (dots refl ⨾ binding c refl f (child levels.Lowest place)))

-- ---- patterns of elements

elements_join : (c : Allowed) → Joins (ReadsBindingElement (with_in c)) (RestElement c) (ReadsBindingElements (with_in c))
elements_join c = record { nothing_there = grammar.no_binding_element; last = λ ts t r. grammar.last_binding_element r; first = λ o a b t us r x y. grammar.first_binding_element o refl x y; rest = λ ts t r. r }

read_elements : (names : Tables) (c : Allowed) (a : Atoms) (es : Trees) (rest : Maybe) {ts : Tokens} → Within Square (Row names (ReadsBindingElements (with_in c)) es rest) ts → Reads names (ReadsBinding c) (tree.array_pattern a es rest) ts
read_elements names c a es rest (within o r) = record { reading = tree.array_pattern (nothing_of 0) r.reading.0 r.reading.1; reads = grammar.an_array_binding r.reads; same = λ i. tree.array_pattern (nothing_of 0) (r.same.0 i) (r.same.1 i) }

abbrev pub ElementsOf : Tables → Allowed → Trees → Type 0
ElementsOf names c es = (place : Place) → Each names (ReadsBindingElement (with_in c)) place es

pub good_array_pattern : {names : Tables} (c : Allowed) (a : Atoms) (es : Trees) (rest : Maybe) → ElementsOf names c es → RestOf names c rest → Bound names c (tree.array_pattern a es rest)
good_array_pattern {names} c a es rest f g = bound_by c (tree.array_pattern a es rest) refl (λ place. past (λ p. refl) (read (λ ts r. read_elements names (under place c) a es rest r)
    (bracketed Square (at_token (elements (ReadsBindingElement (with_in c)) (RestElement c) (ReadsBindingElements (with_in c)) (elements_join c) (λ o b us r x. grammar.a_binding_elision x) (child levels.Lowest place) es rest (f (child levels.Lowest place)) (g (child levels.Lowest place)))))))

-- ---- properties

abbrev pub BoundProperty : Tables → Allowed → Tree → Type 0
BoundProperty names c t = (place : Place) → Adds names at_member (Reads names (ReadsBindingProperty (with_in c)) t) behind_operand (spell t place)

-- by a key and what it is bound to
abbrev pub keyed_items : Bool → Tree → Tree → Place → Items
keyed_items computed k v place = (key_items (needs_brackets computed k) k (spell k (in_brackets levels.Comma)) ⊕ (punctuator colon ⊕ soft_space)) ⊕ spell v place

read_bound_property : (names : Tables) (c : Allowed) (a : Atoms) (k v : Tree) → needs_brackets (binding_property_computed a) k ≡ binding_property_computed a → {ts : Tokens} → (Reads names (ReadsKey (with_in c) (needs_brackets (binding_property_computed a) k)) k ⨟ (Is (Sign colon) ⨟ Reads names (ReadsBindingElement (with_in c)) v)) ts → Reads names (ReadsBindingProperty (with_in c)) (tree.binding_property a k v) ts
read_bound_property names c a k v n (r & (is o & s)) = record { reading = tree.binding_property (computed_values (needs_brackets (binding_property_computed a) k)) r.reading s.reading; reads = grammar.a_bound_property o refl r.reads s.reads; same = λ i. tree.binding_property (bare (flag (n i) ∷ [])) (r.same i) (s.same i) }

-- a key, a colon and what the property is bound or given to
pub keyed_stretch : {names : Tables} (c : Allowed) (R : Tokens → Tree → Type 0) (computed : Bool) (k v : Tree) (place : Place) → KeyOf names c computed k → Adds names at_start (Reads names R v) behind_operand (spell v place) → Adds names at_member (Reads names (ReadsKey (with_in c) (needs_brackets computed k)) k ⨟ (Is (Sign colon) ⨟ Reads names R v)) behind_operand (keyed_items computed k v place)
keyed_stretch c R computed k v place f g =
    laid (key_items (needs_brackets computed k) k (spell k (in_brackets levels.Comma)) ⊕ (punctuator colon ⊕ (soft_space ⊕ spell v place))) (keyed_items computed k v place) (λ p e. refl)
    (key_stretch c (needs_brackets computed k) k refl f ⨾ (sign colon tt tt tt refl ⨾ spaced (at_any refl g)))

keyed_property : {names : Tables} (c : Allowed) (a : Atoms) (k v : Tree) → needs_brackets (binding_property_computed a) k ≡ binding_property_computed a → KeyOf names c (binding_property_computed a) k → ElementOf names c v → (place : Place) → Adds names at_member (Reads names (ReadsBindingProperty (with_in c)) (tree.binding_property a k v)) behind_operand (keyed_items (binding_property_computed a) k v place)
keyed_property {names} c a k v n f g place = read (λ ts r. read_bound_property names c a k v n r) (keyed_stretch c (ReadsBindingElement (with_in c)) (binding_property_computed a) k v place f (g place))

pub or_false : (b : Bool) → (b || false) ≡ b
or_false true = refl
or_false false = refl

-- by a name alone, which says the key
pub data IsName (v : List ℕ) : Tokens → Type 0 where
  is_name : {w : List ℕ} (o : Bool) → word_value w ≡ Some v → IsName v (piece o (Word w) done)

pub name_stretch : {names : Tables} {d : End} (s : Span) (n : Named) → is_free_name (printed_name names n) ≡ true → Adds names d (IsName (printed_name names n)) behind_token (name s n)
name_stretch {names} s n h = record {
  from = λ p l z y k.
      let v : List ℕ = printed_name names n in
      record { last = After (Word (name_text p.style.ascii v)); tokens = piece (line_of l) (Word (name_text p.style.ascii v)) done; writes = wrote_name n p l (free_spelled v h) k; ends = after_token (name_text p.style.ascii v); semicolon = z; holds = is_name (line_of l) (word_text_value p.style.ascii v (free_spelled v h)) };
}

-- a name, or one with a value
pub data IsNamed (names : Tables) (c : Allowed) (n : Named) : Tree → Type 0 where
  named_alone : {a : Atoms} → binding_named a ≡ n → IsNamed names c n (tree.binding_identifier a)
  named_with_value : {a b : Atoms} {v : Tree} → binding_named b ≡ n → Printed names c v → IsNamed names c n (tree.assignment_pattern a (tree.binding_identifier b) v)

read_short : (names : Tables) (c : Allowed) (a b d : Atoms) → binding_property_computed a ≡ false → identifier_name_name b ≡ printed_name names (binding_named d) → is_free_name (printed_name names (binding_named d)) ≡ true → {ts : Tokens} → IsName (printed_name names (binding_named d)) ts → Reads names (ReadsBindingProperty (with_in c)) (tree.binding_property a (tree.identifier_name b) (tree.binding_identifier d)) ts
read_short names c a b d m e f (is_name o x) = record { reading = tree.binding_property (computed_values false) (tree.identifier_name (named _)) (tree.binding_identifier (unnumbered _)); reads = grammar.a_bound_shorthand x f; same = λ i. tree.binding_property (bare (flag (sym m i) ∷ [])) (tree.identifier_name (named (sym e i))) (tree.binding_identifier (unnumbered (printed_name names (binding_named d)))) }

read_short_valued : (names : Tables) (c : Allowed) (a b d h : Atoms) (v : Tree) → binding_property_computed a ≡ false → identifier_name_name b ≡ printed_name names (binding_named d) → is_free_name (printed_name names (binding_named d)) ≡ true → {ts : Tokens} → (IsName (printed_name names (binding_named d)) ⨟ (Is (Sign equal) ⨟ Reads names (ReadsExpression (with_in c) grammar.Assignment) v)) ts → Reads names (ReadsBindingProperty (with_in c)) (tree.binding_property a (tree.identifier_name b) (tree.assignment_pattern h (tree.binding_identifier d) v)) ts
read_short_valued names c a b d h v m e f (is_name o x & (is q & r)) = record { reading = tree.binding_property (computed_values false) (tree.identifier_name (named _)) (tree.assignment_pattern (nothing_of 0) (tree.binding_identifier (unnumbered _)) r.reading); reads = grammar.a_bound_shorthand_with_default x f r.reads; same = λ i. tree.binding_property (bare (flag (sym m i) ∷ [])) (tree.identifier_name (named (sym e i))) (tree.assignment_pattern (nothing_of 0) (tree.binding_identifier (unnumbered (printed_name names (binding_named d)))) (r.same i)) }

short_property : {names : Tables} (c : Allowed) (a b : Atoms) (n : Named) (v : Tree) → binding_property_computed a ≡ false → identifier_name_name b ≡ printed_name names n → is_free_name (printed_name names n) ≡ true → IsNamed names c n v → (place : Place) → Adds names at_member (Reads names (ReadsBindingProperty (with_in c)) (tree.binding_property a (tree.identifier_name b) v)) behind_operand (spell v place)
short_property {names} c a b n v m e f w place = go w
  where
    go : {u : Tree} → IsNamed names c n u → Adds names at_member (Reads names (ReadsBindingProperty (with_in c)) (tree.binding_property a (tree.identifier_name b) u)) behind_operand (spell u place)
    go (named_alone {a = d} x) = at_operand (read (λ ts r. read_short names c a b d m (e ∙ ap (λ y. printed_name names y) (sym x)) (subst (λ y. is_free_name (printed_name names y) ≡ true) (sym x) f) r) (name_stretch d.span (binding_named d) (subst (λ y. is_free_name (printed_name names y) ≡ true) (sym x) f)))
    go (named_with_value {a = h} {b = d} {v = u} x g) = read (λ ts r. read_short_valued names c a b d h u m (e ∙ ap (λ y. printed_name names y) (sym x)) (subst (λ y. is_free_name (printed_name names y) ≡ true) (sym x) f) r) (valued c u refl g (name_stretch d.span (binding_named d) (subst (λ y. is_free_name (printed_name names y) ≡ true) (sym x) f)))

-- a key that isn't a name is never said
pub good_keyed : {names : Tables} (c : Allowed) (a : Atoms) (k v : Tree) → written_name_in k ≡ None → needs_brackets (binding_property_computed a) k ≡ binding_property_computed a → KeyOf names c (binding_property_computed a) k → ElementOf names c v → BoundProperty names c (tree.binding_property a k v)
good_keyed c a k v o n f g place = laid (keyed_items (binding_property_computed a) k v (child levels.Lowest place)) (spell (tree.binding_property a k v) place)
    (λ p t. ap (λ x. layout (spell v (child levels.Lowest place)) (layout (before_bound x (bound_in v) (key_items (needs_brackets (binding_property_computed a) k) k (spell k (in_brackets levels.Comma)))) p)) o) (keyed_property c a k v n f g (child levels.Lowest place))

-- a name as a key is, where what is bound by itself is printed so
pub good_named_key : {names : Tables} (c : Allowed) (a b : Atoms) (v : Tree) → binding_property_computed a ≡ false → spells_name (identifier_name_name b) ≡ true → ((n : Named) → bound_in v ≡ Some n → IsNamed names c n v × (is_free_name (printed_name names n) ≡ true)) → ElementOf names c v → BoundProperty names c (tree.binding_property a (tree.identifier_name b) v)
good_named_key {names} c a b v m h f g place = by (bound_in v) refl
  where
    w : List ℕ
    w = identifier_name_name b

    t : Tree
    t = tree.binding_property a (tree.identifier_name b) v

    key_at : Place → Items
    key_at x = key_items (needs_brackets (binding_property_computed a) (tree.identifier_name b)) (tree.identifier_name b) (spell (tree.identifier_name b) (in_brackets levels.Comma))

    whole : Adds names at_member (Reads names (ReadsBindingProperty (with_in c)) t) behind_operand (keyed_items (binding_property_computed a) (tree.identifier_name b) v (child levels.Lowest place))
    whole = keyed_property c a (tree.identifier_name b) v (or_false (binding_property_computed a)) (subst (λ x. KeyOf names c x (tree.identifier_name b)) (sym m) (good_name_key c b h)) g (child levels.Lowest place)

    named_so : (n : Named) → bound_in v ≡ Some n → (x : Bool) → bytes_eq (printed_name names n) w ≡ x → Adds names at_member (Reads names (ReadsBindingProperty (with_in c)) t) behind_operand (spell t place)
    named_so n e true o = laid (spell v (child levels.Lowest place)) (spell t place) (λ p y. ap (λ z. layout (spell v (child levels.Lowest place)) (layout (before_bound (Some w) z (key_at place)) p)) e ∙ ap (layout (spell v (child levels.Lowest place))) (same_laid p w n nothing (key_at place ⊕ (punctuator colon ⊕ soft_space)) y ∙ ap (λ z. layout (if z then nothing else key_at place ⊕ (punctuator colon ⊕ soft_space)) p) o))
        (short_property c a b n v m (sym ((bytes_eq-Decides (printed_name names n) w).0 o)) (f n e).1 (f n e).0 (child levels.Lowest place))
    named_so n e false o = laid (keyed_items (binding_property_computed a) (tree.identifier_name b) v (child levels.Lowest place)) (spell t place) (λ p y. ap (λ z. layout (spell v (child levels.Lowest place)) (layout (before_bound (Some w) z (key_at place)) p)) e ∙ ap (layout (spell v (child levels.Lowest place))) (same_laid p w n nothing (key_at place ⊕ (punctuator colon ⊕ soft_space)) y ∙ ap (λ z. layout (if z then nothing else key_at place ⊕ (punctuator colon ⊕ soft_space)) p) o)) whole

    by : (o : Option Named) → bound_in v ≡ o → Adds names at_member (Reads names (ReadsBindingProperty (with_in c)) t) behind_operand (spell t place)
    by None e = laid (keyed_items (binding_property_computed a) (tree.identifier_name b) v (child levels.Lowest place)) (spell t place) (λ p y. ap (λ z. layout (spell v (child levels.Lowest place)) (layout (before_bound (Some w) z (key_at place)) p)) e) whole
    by (Some n) e = named_so n e (bytes_eq (printed_name names n) w) refl

-- whatever its key is
pub good_bound_property : {names : Tables} {c : Allowed} {computed : Bool} {k : Tree} (a : Atoms) (v : Tree) → binding_property_computed a ≡ computed → needs_brackets (binding_property_computed a) k ≡ binding_property_computed a → IsKey names c computed k → KeyOf names c (binding_property_computed a) k → ((n : Named) → bound_in v ≡ Some n → IsNamed names c n v × (is_free_name (printed_name names n) ≡ true)) → ElementOf names c v → BoundProperty names c (tree.binding_property a k v)
good_bound_property {names} {c} a v e n (family.a_name_key {a = d} x) f g h = good_named_key c a d v e x g h
good_bound_property {names} {c} {computed} {k} a v e n (family.a_string_key x) f g h = good_keyed c a k v refl n f h
good_bound_property {names} {c} {computed} {k} a v e n (family.a_number_key x) f g h = good_keyed c a k v refl n f h
good_bound_property {names} {c} {computed} {k} a v e n (family.a_big_integer_key x y) f g h = good_keyed c a k v refl n f h
good_bound_property {names} {c} {computed} {k} a v e n (family.a_computed_key x) f g h = good_keyed c a k v (no_written_name x) n f h

-- ---- patterns of properties

abbrev RestProperty : Allowed → Tokens → Tree → Type 0
RestProperty c us t = ReadsBindingProperties (with_in c) us no_trees (given t)

abbrev pub RestName : Tables → Allowed → Maybe → Type 0
RestName names c m = (place : Place) → IfGiven names (RestProperty c) place m

read_rest_name : (names : Tables) (c : Allowed) (a d : Atoms) → is_free_name (printed_name names (binding_named d)) ≡ true → {ts : Tokens} → (Is (Sign ellipsis) ⨟ IsName (printed_name names (binding_named d))) ts → Reads names (RestProperty c) (tree.binding_rest_element a (tree.binding_identifier d)) ts
read_rest_name names c a d f (is o & is_name q x) = record { reading = tree.binding_rest_element (nothing_of 0) (tree.binding_identifier (unnumbered _)); reads = grammar.a_binding_rest_property x f; same = refl }

pub rest_name : {names : Tables} (c : Allowed) (a d : Atoms) → is_free_name (printed_name names (binding_named d)) ≡ true → RestName names c (given (tree.binding_rest_element a (tree.binding_identifier d)))
rest_name {names} c a d f place = past (λ p. refl) (at_operand (read (λ ts r. read_rest_name names c a d f r) (dots refl ⨾ name_stretch d.span (binding_named d) f)))

properties_join : (c : Allowed) → Joins (ReadsBindingProperty (with_in c)) (RestProperty c) (ReadsBindingProperties (with_in c))
properties_join c = record { nothing_there = grammar.no_binding_property; last = λ ts t r. grammar.last_binding_property r; first = λ o a b t us r x y. grammar.first_binding_property o refl x y; rest = λ ts t r. r }

read_properties : (names : Tables) (c : Allowed) (a : Atoms) (ps : Trees) (rest : Maybe) {ts : Tokens} → Within Brace (Row names (ReadsBindingProperties (with_in c)) ps rest) ts → Reads names (ReadsBinding c) (tree.object_pattern a ps rest) ts
read_properties names c a ps rest (within o r) = record { reading = tree.object_pattern (nothing_of 0) r.reading.0 r.reading.1; reads = grammar.an_object_binding r.reads; same = λ i. tree.object_pattern (nothing_of 0) (r.same.0 i) (r.same.1 i) }

abbrev pub PropertiesOf : Tables → Allowed → Trees → Type 0
PropertiesOf names c ps = (place : Place) → Every names (ReadsBindingProperty (with_in c)) place ps

pub good_object_pattern : {names : Tables} (c : Allowed) (a : Atoms) (ps : Trees) (rest : Maybe) → PropertiesOf names c ps → RestName names c rest → Bound names c (tree.object_pattern a ps rest)
good_object_pattern {names} c a ps rest f g = bound_by c (tree.object_pattern a ps rest) refl (λ place. past (λ p. refl) (read (λ ts r. read_properties names (under place c) a ps rest r) (braced (child levels.Lowest place) ps rest (f (child levels.Lowest place)) (g (child levels.Lowest place)))))
  where
    L : Tokens → Trees → Maybe → Type 0
    L = ReadsBindingProperties (with_in c)

    all : (place : Place) (qs : Trees) (m : Maybe) → Every names (ReadsBindingProperty (with_in c)) place qs → IfGiven names (RestProperty c) place m → Adds names at_member (Row names L qs m) unknown (properties_items qs m place)
    all place qs m h r = properties (ReadsBindingProperty (with_in c)) (RestProperty c) L (properties_join c) place qs m h r

    braced : (place : Place) (qs : Trees) (m : Maybe) → Every names (ReadsBindingProperty (with_in c)) place qs → IfGiven names (RestProperty c) place m → Adds names at_start (Within Brace (Row names L qs m)) behind_token (pattern_braces qs m (properties_items qs m place))
    braced place no_trees absent h r = bracketed Brace (laid (properties_items no_trees absent place) nothing (λ p t. refl) (at_token (all place no_trees absent h r)))
    braced place no_trees (given u) h r = bracketed Brace (spaced (before_space (at_token (all place no_trees (given u) h r))))
    braced place (more t qs) m h r = bracketed Brace (spaced (before_space (at_token (all place (more t qs) m h r))))
    braced place (hole qs) m h r = absurd h
