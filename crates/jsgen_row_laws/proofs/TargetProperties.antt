-- Properties of patterns that are given values: by a key, or by a name alone, which may be printed otherwise.
use Rattle.std.proofs.Common.{◌≡◌, Bool, true, false, Option, Some, None, if◌then◌else◌, bytes_eq, List, ℕ, [], ◌∷◌, refl, sym, ap, ◌∙◌, subst}
use Rattle.std.proofs.lemmas.Slice.Eq.{bytes_eq-Decides}
use Rattle.jsgen_syntax.specs.Escapes.{name_text, word_value}
use Rattle.jsgen_syntax.specs.Name.{spells_name, is_free_name}
use Rattle.jsgen_syntax.specs.declared.span.Span.{Span}
use Rattle.jsgen_syntax.specs.declared.precedence.Precedence.TheVariants as levels
use Rattle.jsgen_syntax.proofs.Escapes.{word_text_value}
use Rattle.jsgen_tree.specs.Atom.{flag}
use Rattle.jsgen_tree.specs.Inside.{reference_named, written_name_in}
use Rattle.jsgen_tree.specs.Job.{Tables}
use Rattle.jsgen_tree.specs.Named.{Named, as_written, printed_name}
use Rattle.jsgen_tree.specs.Nodes as tree
use Rattle.jsgen_tree.specs.Places.{bare}
use Rattle.jsgen_tree.specs.Tree.{Tree, Maybe, absent, given, Atoms}
use Rattle.jsgen_tree.specs.Values.{assignment_target_property_property_computed, identifier_name_name, identifier_reference_name}
use Rattle.jsgen_model.specs.Punctuator.{equal, colon}
use Rattle.jsgen_model.specs.Tokens.{Tokens, done, piece, Word, Sign}
use Rattle.jsgen_model.specs.Items.{Items, ◌⊕◌, name, punctuator, soft_space, unless_minified}
use Rattle.jsgen_model.specs.Layout.{Pen, layout}
use Rattle.jsgen_model.specs.Grammar.{Allowed, ReadsExpression, ReadsKey, ReadsTargetElement, ReadsTargetProperty, computed_values, with_in}
use Rattle.jsgen_model.specs.Grammar as grammar
use Rattle.jsgen_model.specs.Normal.{nothing_of, named, unnumbered}
use Rattle.jsgen_place.specs.declared.place.Place.{Place}
use Rattle.jsgen_place.specs.Place.{in_brackets}
use Rattle.jsgen_model.specs.Spell.{spell, spell_value, needs_brackets, key_items, before_target, target_named, renamed_items, unmarked}
use Rattle.jsgen_token_laws.proofs.Last.{Last, After, line_of, Knows}
use Rattle.jsgen_token_laws.proofs.Steps.{wrote_written_name}
use Rattle.jsgen_row_laws.proofs.Families.{IsKey}
use Rattle.jsgen_row_laws.proofs.Families as family
use Rattle.jsgen_row_laws.proofs.Good.{Printed}
use Rattle.jsgen_row_laws.proofs.Bindings.{PrintedIfGiven}
use Rattle.jsgen_row_laws.proofs.Properties.{KeyOf, no_written_name, good_name_key, same_laid}
use Rattle.jsgen_row_laws.proofs.Adds.{End, Ends, at_member, behind_operand, behind_token, Is, is, ◌⨟◌, ◌&◌, Adds, Added, ◌⨾◌, read, at_operand, after_token, laid, sign, spaced}
use Rattle.jsgen_row_laws.proofs.Parts.{Reads}
use Rattle.jsgen_row_laws.proofs.BoundPatterns.{IsName, is_name, name_stretch, valued, keyed_items, keyed_stretch, or_false}
use Rattle.jsgen_row_laws.proofs.Targets.{ElementOf}

abbrev pub TargetProperty : Tables → Allowed → Tree → Type 0
TargetProperty names c t = (place : Place) → Adds names at_member (Reads names (ReadsTargetProperty (with_in c)) t) behind_operand (spell t place)

-- ---- by a key

read_keyed : (names : Tables) (c : Allowed) (a : Atoms) (k v : Tree) → needs_brackets (assignment_target_property_property_computed a) k ≡ assignment_target_property_property_computed a → {ts : Tokens} → (Reads names (ReadsKey (with_in c) (needs_brackets (assignment_target_property_property_computed a) k)) k ⨟ (Is (Sign colon) ⨟ Reads names (ReadsTargetElement (with_in c)) v)) ts → Reads names (ReadsTargetProperty (with_in c)) (tree.target_property a k v) ts
read_keyed names c a k v n (r & (is o & s)) = record { reading = tree.target_property (computed_values (needs_brackets (assignment_target_property_property_computed a) k)) r.reading s.reading; reads = grammar.a_target_property o refl r.reads s.reads; same = λ i. tree.target_property (bare (flag (n i) ∷ [])) (r.same i) (s.same i) }

keyed : {names : Tables} (c : Allowed) (a : Atoms) (k v : Tree) → needs_brackets (assignment_target_property_property_computed a) k ≡ assignment_target_property_property_computed a → KeyOf names c (assignment_target_property_property_computed a) k → ElementOf names c v → Adds names at_member (Reads names (ReadsTargetProperty (with_in c)) (tree.target_property a k v)) behind_operand (keyed_items (assignment_target_property_property_computed a) k v (in_brackets levels.Comma))
keyed {names} c a k v n f g = read (λ ts r. read_keyed names c a k v n r) (keyed_stretch c (ReadsTargetElement (with_in c)) (assignment_target_property_property_computed a) k v (in_brackets levels.Comma) f g)

-- a target that is no name alone has its key, and so has one whose key is no name
abbrev key_before : Atoms → Tree → Items
key_before a k = key_items (needs_brackets (assignment_target_property_property_computed a) k) k (spell k (in_brackets levels.Comma)) ⊕ (punctuator colon ⊕ soft_space)

no_name_before : (o : Option Named) (i : Items) → before_target None o i ≡ i
no_name_before None i = refl
no_name_before (Some n) i = refl

no_key_before : (w : Option (List ℕ)) (i : Items) → before_target w None i ≡ i
no_key_before None i = refl
no_key_before (Some w) i = refl

good_keyed : {names : Tables} (c : Allowed) (a : Atoms) (k v : Tree) → ((i : Items) → before_target (written_name_in k) (target_named v) i ≡ i) → needs_brackets (assignment_target_property_property_computed a) k ≡ assignment_target_property_property_computed a → KeyOf names c (assignment_target_property_property_computed a) k → ElementOf names c v → TargetProperty names c (tree.target_property a k v)
good_keyed c a k v o n f g place = laid (keyed_items (assignment_target_property_property_computed a) k v (in_brackets levels.Comma)) (spell (tree.target_property a k v) place) (λ p t. ap (λ x. layout (spell v (in_brackets levels.Comma)) (layout x p)) (o (key_before a k))) (keyed c a k v n f g)

-- ---- by a name alone

-- a reference, or one with a default
pub data IsNamed (names : Tables) (c : Allowed) (n : Named) : Tree → Type 0 where
  named_alone : {a : Atoms} → reference_named a ≡ n → IsNamed names c n (tree.identifier_reference a)
  named_with_default : {a b : Atoms} {v : Tree} → reference_named b ≡ n → Printed names c v → IsNamed names c n (tree.target_with_default a (tree.identifier_reference b) v)

read_short : (names : Tables) (c : Allowed) (a b d : Atoms) → assignment_target_property_property_computed a ≡ false → identifier_name_name b ≡ printed_name names (reference_named d) → is_free_name (printed_name names (reference_named d)) ≡ true → {ts : Tokens} → IsName (printed_name names (reference_named d)) ts → Reads names (ReadsTargetProperty (with_in c)) (tree.target_property a (tree.identifier_name b) (tree.identifier_reference d)) ts
read_short names c a b d m e f (is_name o x) = record { reading = tree.target_property (computed_values false) (tree.identifier_name (named _)) (tree.identifier_reference (unnumbered _)); reads = grammar.a_target_shorthand x f; same = λ i. tree.target_property (bare (flag (sym m i) ∷ [])) (tree.identifier_name (named (sym e i))) (tree.identifier_reference (unnumbered (printed_name names (reference_named d)))) }

read_short_default : (names : Tables) (c : Allowed) (a b d h : Atoms) (v : Tree) → assignment_target_property_property_computed a ≡ false → identifier_name_name b ≡ printed_name names (reference_named d) → is_free_name (printed_name names (reference_named d)) ≡ true → {ts : Tokens} → (IsName (printed_name names (reference_named d)) ⨟ (Is (Sign equal) ⨟ Reads names (ReadsExpression (with_in c) grammar.Assignment) v)) ts → Reads names (ReadsTargetProperty (with_in c)) (tree.target_property a (tree.identifier_name b) (tree.target_with_default h (tree.identifier_reference d) v)) ts
read_short_default names c a b d h v m e f (is_name o x & (is q & r)) = record { reading = tree.target_property (computed_values false) (tree.identifier_name (named _)) (tree.target_with_default (nothing_of 0) (tree.identifier_reference (unnumbered _)) r.reading); reads = grammar.a_target_shorthand_with_default x f r.reads; same = λ i. tree.target_property (bare (flag (sym m i) ∷ [])) (tree.identifier_name (named (sym e i))) (tree.target_with_default (nothing_of 0) (tree.identifier_reference (unnumbered (printed_name names (reference_named d)))) (r.same i)) }

short : {names : Tables} (c : Allowed) (a b : Atoms) (n : Named) (v : Tree) → assignment_target_property_property_computed a ≡ false → identifier_name_name b ≡ printed_name names n → is_free_name (printed_name names n) ≡ true → IsNamed names c n v → Adds names at_member (Reads names (ReadsTargetProperty (with_in c)) (tree.target_property a (tree.identifier_name b) v)) behind_operand (spell v (in_brackets levels.Comma))
short {names} c a b n v m e f w = go w
  where
    go : {u : Tree} → IsNamed names c n u → Adds names at_member (Reads names (ReadsTargetProperty (with_in c)) (tree.target_property a (tree.identifier_name b) u)) behind_operand (spell u (in_brackets levels.Comma))
    go (named_alone {a = d} x) = at_operand (read (λ ts r. read_short names c a b d m (e ∙ ap (λ y. printed_name names y) (sym x)) (subst (λ y. is_free_name (printed_name names y) ≡ true) (sym x) f) r) (name_stretch d.span (reference_named d) (subst (λ y. is_free_name (printed_name names y) ≡ true) (sym x) f)))
    go (named_with_default {a = h} {b = d} {v = u} x g) = read (λ ts r. read_short_default names c a b d h u m (e ∙ ap (λ y. printed_name names y) (sym x)) (subst (λ y. is_free_name (printed_name names y) ≡ true) (sym x) f) r) (valued c u refl g (name_stretch d.span (reference_named d) (subst (λ y. is_free_name (printed_name names y) ≡ true) (sym x) f)))

-- from each pen one of two ways
by_pen : {names : Tables} {d e : End} {P : Tokens → Type 0} {i j items : Items} (test : Pen → Bool) → ((p : Pen) → layout items p ≡ (if test p then layout i p else layout j p)) → Adds names d P e i → Adds names d P e j → Adds names d P e items
by_pen {names} {d} {e} {P} {i} {j} {items} test h f g = record { from = λ p l z y k. subst (λ q. Added names P e p l q) (sym (h p)) (by p l z y k (test p)) }
  where
    by : (p : Pen) (l : Last) → p.pending_semicolon ≡ false → Ends d l → Knows names p l → (b : Bool) → Added names P e p l (if b then layout i p else layout j p)
    by p l z y k true = f.from p l z y k
    by p l z y k false = g.from p l z y k

-- a name as a key is left out in minified text where the name alone is printed so
good_named_key : {names : Tables} (c : Allowed) (a b : Atoms) (v : Tree) (n : Named) → target_named v ≡ Some n → assignment_target_property_property_computed a ≡ false → spells_name (identifier_name_name b) ≡ true → is_free_name (printed_name names n) ≡ true → IsNamed names c n v → ElementOf names c v → TargetProperty names c (tree.target_property a (tree.identifier_name b) v)
good_named_key {names} c a b v n o m h f w g place = by (bytes_eq (printed_name names n) x) refl
  where
    x : List ℕ
    x = identifier_name_name b

    t : Tree
    t = tree.target_property a (tree.identifier_name b) v

    key : Items
    key = key_before a (tree.identifier_name b)

    value : Items
    value = spell v (in_brackets levels.Comma)

    whole : Adds names at_member (Reads names (ReadsTargetProperty (with_in c)) t) behind_operand (keyed_items (assignment_target_property_property_computed a) (tree.identifier_name b) v (in_brackets levels.Comma))
    whole = keyed c a (tree.identifier_name b) v (or_false (assignment_target_property_property_computed a)) (subst (λ y. KeyOf names c y (tree.identifier_name b)) (sym m) (good_name_key c b h)) g

    -- what is laid out, by whether the two are the same
    told : (p : Pen) → p.style.tables ≡ names → (y : Bool) → bytes_eq (printed_name names n) x ≡ y → layout (spell t place) p ≡ layout value (layout (if y then unless_minified key else key) p)
    told p k y e = ap (λ z. layout value (layout (before_target (Some x) z key) p)) o ∙ ap (layout value) (same_laid p x n (unless_minified key) key k ∙ ap (λ z. layout (if z then unless_minified key else key) p) e)

    by : (y : Bool) → bytes_eq (printed_name names n) x ≡ y → Adds names at_member (Reads names (ReadsTargetProperty (with_in c)) t) behind_operand (spell t place)
    by false e = laid (keyed_items (assignment_target_property_property_computed a) (tree.identifier_name b) v (in_brackets levels.Comma)) (spell t place) (λ p k. told p k false e) whole
    by true e = laid (unless_minified key ⊕ value) (spell t place) (λ p k. told p k true e) (by_pen (λ p. p.style.minified) (λ p. apart p p.style.minified) (short c a b n v m (sym ((bytes_eq-Decides (printed_name names n) x).0 e)) f w) whole)
      where
        apart : (p : Pen) (y : Bool) → layout value (if y then p else layout key p) ≡ (if y then layout value p else layout value (layout key p))
        apart p true = refl
        apart p false = refl

-- whatever its key is
pub good_target_property : {names : Tables} {c : Allowed} {computed : Bool} {k : Tree} (a : Atoms) (v : Tree) → assignment_target_property_property_computed a ≡ computed → needs_brackets (assignment_target_property_property_computed a) k ≡ assignment_target_property_property_computed a → IsKey names c computed k → KeyOf names c (assignment_target_property_property_computed a) k → ((n : Named) → target_named v ≡ Some n → IsNamed names c n v × (is_free_name (printed_name names n) ≡ true)) → ElementOf names c v → TargetProperty names c (tree.target_property a k v)
good_target_property {names} {c} a v e n (family.a_name_key {a = d} x) f g h = by (target_named v) refl
  where
    by : (o : Option Named) → target_named v ≡ o → TargetProperty names c (tree.target_property a (tree.identifier_name d) v)
    by None i = good_keyed c a (tree.identifier_name d) v (λ j. ap (λ y. before_target (Some (identifier_name_name d)) y j) i) n f h
    by (Some m) i = good_named_key c a d v m i e x (g m i).1 (g m i).0 h
good_target_property {names} {c} {computed} {k} a v e n (family.a_string_key x) f g h = good_keyed c a k v (no_name_before (target_named v)) n f h
good_target_property {names} {c} {computed} {k} a v e n (family.a_number_key x) f g h = good_keyed c a k v (no_name_before (target_named v)) n f h
good_target_property {names} {c} {computed} {k} a v e n (family.a_big_integer_key x y) f g h = good_keyed c a k v (no_name_before (target_named v)) n f h
good_target_property {names} {c} {computed} {k} a v e n (family.a_computed_key x) f g h = good_keyed c a k v (λ j. ap (λ y. before_target y (target_named v) j) (no_written_name x) ∙ no_name_before (target_named v) j) n f h

-- ---- by the name of a reference, which may be printed otherwise

-- the name as it is written, which may be reserved
own_stretch : {names : Tables} {d : End} (s : Span) (w : List ℕ) → spells_name w ≡ true → Adds names d (IsName w) behind_token (name s (as_written w))
own_stretch {names} s w h = record {
  from = λ p l z y k. record { last = After (Word (name_text p.style.ascii w)); tokens = piece (line_of l) (Word (name_text p.style.ascii w)) done; writes = wrote_written_name w p l h k; ends = after_token (name_text p.style.ascii w); semicolon = z; holds = is_name (line_of l) (word_text_value p.style.ascii w h) };
}

-- the tree that it stands for
abbrev written_property : Tables → Atoms → Atoms → Maybe → Tree
written_property names a b m = tree.target_property_identifier a (tree.identifier_reference b) m

short_alone : {names : Tables} (c : Allowed) (a b : Atoms) (m : Maybe) → printed_name names (reference_named b) ≡ identifier_reference_name b → is_free_name (printed_name names (reference_named b)) ≡ true → PrintedIfGiven names c m → Adds names at_member (Reads names (ReadsTargetProperty (with_in c)) (written_property names a b m)) behind_operand (spell (tree.identifier_reference b) (in_brackets levels.Comma) ⊕ spell_value m (in_brackets levels.Comma))
short_alone {names} c a b absent e f v = at_operand (laid (name b.span (reference_named b)) (spell (tree.identifier_reference b) (in_brackets levels.Comma) ⊕ spell_value absent (in_brackets levels.Comma)) (λ p k. refl) (read (λ ts r. told r) (name_stretch b.span (reference_named b) f)))
  where
    told : {ts : Tokens} → IsName (printed_name names (reference_named b)) ts → Reads names (ReadsTargetProperty (with_in c)) (written_property names a b absent) ts
    told (is_name o x) = record { reading = tree.target_property (computed_values false) (tree.identifier_name (named _)) (tree.identifier_reference (unnumbered _)); reads = grammar.a_target_shorthand x f; same = λ i. tree.target_property (computed_values false) (tree.identifier_name (named (e i))) (tree.identifier_reference (unnumbered (printed_name names (reference_named b)))) }
short_alone {names} c a b (given u) e f v = read (λ ts r. told r) (valued c u refl v (name_stretch b.span (reference_named b) f))
  where
    told : {ts : Tokens} → (IsName (printed_name names (reference_named b)) ⨟ (Is (Sign equal) ⨟ Reads names (ReadsExpression (with_in c) grammar.Assignment) u)) ts → Reads names (ReadsTargetProperty (with_in c)) (written_property names a b (given u)) ts
    told (is_name o x & (is q & r)) = record { reading = tree.target_property (computed_values false) (tree.identifier_name (named _)) (tree.target_with_default (nothing_of 0) (tree.identifier_reference (unnumbered _)) r.reading); reads = grammar.a_target_shorthand_with_default x f r.reads; same = λ i. tree.target_property (computed_values false) (tree.identifier_name (named (e i))) (tree.target_with_default (nothing_of 0) (tree.identifier_reference (unnumbered (printed_name names (reference_named b)))) (r.same i)) }

-- a name is a target
reference_read : {c : Allowed} {mark : Bool} {w v : List ℕ} → word_value w ≡ Some v → is_free_name v ≡ true → ReadsExpression c grammar.LeftHandSide (piece mark (Word w) done) (tree.identifier_reference (unnumbered v))
reference_read e h = grammar.a_new (grammar.a_member (grammar.a_primary (grammar.a_reference e h)))

renamed_alone : {names : Tables} (c : Allowed) (a b : Atoms) (m : Maybe) → spells_name (identifier_reference_name b) ≡ true → is_free_name (printed_name names (reference_named b)) ≡ true → PrintedIfGiven names c m → Adds names at_member (Reads names (ReadsTargetProperty (with_in c)) (written_property names a b m)) behind_operand (renamed_items (reference_named b) ⊕ spell_value m (in_brackets levels.Comma))
renamed_alone {names} c a b absent h f v = at_operand (laid (name unmarked (as_written (identifier_reference_name b)) ⊕ (punctuator colon ⊕ (soft_space ⊕ name unmarked (reference_named b)))) (renamed_items (reference_named b) ⊕ spell_value absent (in_brackets levels.Comma)) (λ p k. refl)
    (read (λ ts r. told r) (own_stretch unmarked (identifier_reference_name b) h ⨾ (sign colon tt tt tt refl ⨾ spaced (name_stretch unmarked (reference_named b) f)))))
  where
    told : {ts : Tokens} → (IsName (identifier_reference_name b) ⨟ (Is (Sign colon) ⨟ IsName (printed_name names (reference_named b)))) ts → Reads names (ReadsTargetProperty (with_in c)) (written_property names a b absent) ts
    told (is_name o x & (is q & is_name s y)) = record { reading = tree.target_property (computed_values false) (tree.identifier_name (named _)) (tree.identifier_reference (unnumbered _)); reads = grammar.a_target_property q refl (grammar.a_name_key x) (grammar.a_target_alone (grammar.a_simple_target (reference_read y f) refl)); same = refl }
renamed_alone {names} c a b (given u) h f v = laid (name unmarked (as_written (identifier_reference_name b)) ⊕ (punctuator colon ⊕ (soft_space ⊕ (name unmarked (reference_named b) ⊕ (soft_space ⊕ (punctuator equal ⊕ (soft_space ⊕ spell u (in_brackets levels.Comma)))))))) (renamed_items (reference_named b) ⊕ spell_value (given u) (in_brackets levels.Comma)) (λ p k. refl)
    (read (λ ts r. told r) (own_stretch unmarked (identifier_reference_name b) h ⨾ (sign colon tt tt tt refl ⨾ spaced (valued c u refl v (name_stretch unmarked (reference_named b) f)))))
  where
    told : {ts : Tokens} → (IsName (identifier_reference_name b) ⨟ (Is (Sign colon) ⨟ (IsName (printed_name names (reference_named b)) ⨟ (Is (Sign equal) ⨟ Reads names (ReadsExpression (with_in c) grammar.Assignment) u)))) ts → Reads names (ReadsTargetProperty (with_in c)) (written_property names a b (given u)) ts
    told (is_name o x & (is q & (is_name s y & (is j & r)))) = record { reading = tree.target_property (computed_values false) (tree.identifier_name (named _)) (tree.target_with_default (nothing_of 0) (tree.identifier_reference (unnumbered _)) r.reading); reads = grammar.a_target_property q refl (grammar.a_name_key x) (grammar.a_target_with_default j refl (reference_read y f) refl r.reads refl); same = λ i. tree.target_property (computed_values false) (tree.identifier_name (named (identifier_reference_name b))) (tree.target_with_default (nothing_of 0) (tree.identifier_reference (unnumbered (printed_name names (reference_named b)))) (r.same i)) }

pub good_own_name : {names : Tables} (c : Allowed) (a b : Atoms) (m : Maybe) → spells_name (identifier_reference_name b) ≡ true → is_free_name (printed_name names (reference_named b)) ≡ true → PrintedIfGiven names c m → TargetProperty names c (tree.target_property_identifier a (tree.identifier_reference b) m)
good_own_name {names} c a b m h f v place = by (bytes_eq (printed_name names (reference_named b)) (identifier_reference_name b)) refl
  where
    t : Tree
    t = tree.target_property_identifier a (tree.identifier_reference b) m

    alone : Items
    alone = spell (tree.identifier_reference b) (in_brackets levels.Comma)

    value : Items
    value = spell_value m (in_brackets levels.Comma)

    told : (p : Pen) → p.style.tables ≡ names → (y : Bool) → bytes_eq (printed_name names (reference_named b)) (identifier_reference_name b) ≡ y → layout (spell t place) p ≡ layout value (layout (if y then alone else renamed_items (reference_named b)) p)
    told p k y e = ap (layout value) (same_laid p (identifier_reference_name b) (reference_named b) alone (renamed_items (reference_named b)) k ∙ ap (λ z. layout (if z then alone else renamed_items (reference_named b)) p) e)

    by : (y : Bool) → bytes_eq (printed_name names (reference_named b)) (identifier_reference_name b) ≡ y → Adds names at_member (Reads names (ReadsTargetProperty (with_in c)) t) behind_operand (spell t place)
    by true e = laid (alone ⊕ value) (spell t place) (λ p k. told p k true e) (short_alone c a b m ((bytes_eq-Decides (printed_name names (reference_named b)) (identifier_reference_name b)).0 e) f v)
    by false e = laid (renamed_items (reference_named b) ⊕ value) (spell t place) (λ p k. told p k false e) (renamed_alone c a b m h f v)
