-- Methods and accessors: a word, a key, and behind it parameters and a body.
use Rattle.std.proofs.Common.{◌≡◌, Bool, true, false, ◌||◌, codes, refl, sym, ap, ◌∙◌}
use Rattle.std.proofs.lemmas.Bool.{both_ways}
use Rattle.jsgen_syntax.specs.declared.precedence.Precedence.TheVariants as levels
use Rattle.jsgen_tree.specs.Job.{Tables}
use Rattle.jsgen_tree.specs.Inside.{is_method}
use Rattle.jsgen_tree.specs.Tree.{Tree, Maybe, absent, given, Trees, no_trees, more, Atoms}
use Rattle.jsgen_tree.specs.Values.{object_property_kind, object_property_method, object_property_shorthand, object_property_computed, function_kind}
use Rattle.jsgen_tree.specs.Nodes as tree
use Rattle.jsgen_tree.specs.declared.collections.PropertyKind.{PropertyKind}
use Rattle.jsgen_tree.specs.declared.collections.PropertyKind.TheVariants as property_kinds
use Rattle.jsgen_tree.specs.declared.functions.FunctionKind.TheVariants as kinds
use Rattle.jsgen_model.specs.Punctuator.{Round, Brace, star}
use Rattle.jsgen_model.specs.Tokens.{Tokens, done, group, ◌⧺◌, Word, Sign}
use Rattle.jsgen_model.specs.Items.{Items, ◌⊕◌, punctuator}
use Rattle.jsgen_model.specs.Layout.{layout}
use Rattle.jsgen_model.specs.Grammar.{Allowed, ReadsMemberKey, ReadsProperty, ReadsMethod, ReadsMethodAs, ReadsParameters, with_in, in_parameters, in_body, method_of, is_plain_method}
use Rattle.jsgen_model.specs.Grammar as grammar
use Rattle.jsgen_model.specs.Normal.{normal, nothing_of, property_values, is_written_as_method, is_computed, is_proto_shorthand}
use Rattle.jsgen_model.specs.Renamed.{renamed}
use Rattle.jsgen_place.specs.declared.place.Place.{Place}
use Rattle.jsgen_place.specs.Place.{in_brackets}
use Rattle.jsgen_model.specs.Valid.{fits_words}
use Rattle.jsgen_model.specs.Spell.{spell, needs_brackets, key_items, accessor_word, items_if, key_word}
use Rattle.jsgen_token_laws.proofs.Characters.{letters_spelled}
use Rattle.jsgen_row_laws.proofs.Families.{IsMarked}
use Rattle.jsgen_row_laws.proofs.Unrenamed.{signed_as_it_was}
use Rattle.jsgen_row_laws.proofs.Adds.{a_start, a_member, End, is_good_for, behind_token, Is, is, Follows, follows, within, ◌⨟◌, ◌&◌, Says, Adds, ◌⨾◌, read, laid, past, keyword, star_sign, star_on_line, before_space, before_nothing}
use Rattle.jsgen_row_laws.proofs.Parts.{Reads, OnLine, gives_element}
use Rattle.jsgen_row_laws.proofs.Properties.{KeyOf, MemberKeyAt, public_key, key_as, key_on_line, PropertyOf, property_spelled, read_computed}
use Rattle.jsgen_row_laws.proofs.Properties as properties
use Rattle.jsgen_row_laws.proofs.Functions.{GroupOf, BodyOf, ReadsNone, ReadsOne, Behind, behind_key, method_items, same_function}
use Rattle.jsgen_row_laws.proofs.Good.{line_then}

-- ---- what is spelled

abbrev key_at : Bool → Tree → Items
key_at boxed x = key_items boxed x (spell x (in_brackets levels.Comma))

-- the words of the function stand before the key
abbrev pub words_items : Bool → Bool → Items
words_items async generator = items_if async (key_word (codes "async")) ⊕ items_if generator (punctuator star)

-- the flag tells that the key stands in brackets
abbrev pub whole_items : PropertyKind → Bool → Bool → Bool → Tree → Tree → Tree → Place → Items
whole_items kind async generator boxed x t u place = accessor_word kind ⊕ (words_items async generator ⊕ (key_at boxed x ⊕ method_items t u place))

-- ---- a key, and what is behind it

abbrev KeyedMethod : Tables → Allowed → Bool → Bool → (Tokens → Trees → Maybe → Type 0) → Allowed → Tree → Tree → Tree → Tokens → Type 0
KeyedMethod names c private boxed R d x t u = Reads names (ReadsMemberKey (with_in c) private boxed) x ⨟ Behind names R d t u

keyed : {names : Tables} {e : End} {R : Tokens → Trees → Maybe → Type 0} {d : Allowed} (c : Allowed) (private boxed : Bool) (x t u : Tree) (place : Place) → is_good_for e a_start ≡ true → MemberKeyAt names c private boxed x → GroupOf names R t → BodyOf names d u → Adds names e (KeyedMethod names c private boxed R d x t u) behind_token (key_at boxed x ⊕ method_items t u place)
keyed c private boxed x t u place h key f g = key_as (ReadsMemberKey (with_in c) private boxed) boxed x h key ⨾ behind_key t u place f g

-- ---- methods

-- what is read of one: its key and its function
abbrev SameMethod : Tables → Tree → Tree → Tree × Tree → Type 0
SameMethod names x v y = (normal y.0 ≡ normal (renamed names x)) × (normal y.1 ≡ normal (renamed names v))

abbrev pub MethodAs : Tables → Allowed → Bool → PropertyKind → Bool → Tree → Tree → Tokens → Type 0
MethodAs names c private kind boxed x v = Says {X = Tree × Tree} (λ ts y. ReadsMethod (with_in c) private kind boxed ts y.0 y.1) (SameMethod names x v)

-- how the parameters of a method or an accessor are read
abbrev pub GroupsOf : Tables → PropertyKind → Tree → Type 0
GroupsOf names property_kinds.Init t = GroupOf names (ReadsParameters in_parameters) t
GroupsOf names property_kinds.Get t = GroupOf names ReadsNone t
GroupsOf names property_kinds.Set t = GroupOf names ReadsOne t

-- the function's normal form
same_value : (names : Tables) (b : Atoms) (async generator : Bool) (t u : Tree) (ps : Trees) (rest : Maybe) (ds ss : Trees) → function_kind b ≡ kinds.Expression → IsMarked b async generator → normal (tree.formal_parameters (nothing_of 0) ps rest) ≡ normal (renamed names t) → normal (tree.function_body (nothing_of 0) ds ss) ≡ normal (renamed names u) → normal (method_of async generator ps rest ds ss) ≡ normal (renamed names (tree.function b absent t (given u)))
same_value names b async generator t u ps rest ds ss h n f g = same_function b kinds.Expression async generator absent absent ps rest ds ss (renamed names t) (renamed names u) h n refl f g

-- behind the words of the function
abbrev BehindWords : Tables → Allowed → Bool → Bool → Bool → Bool → Tree → Tree → Tokens → Type 0
BehindWords names c private async generator boxed x v = Says {X = Tree × Tree} (λ ts y. ReadsMethodAs (with_in c) private async generator boxed ts y.0 y.1) (SameMethod names x v)

read_behind : (names : Tables) (c : Allowed) (b : Atoms) (private async generator boxed : Bool) (x t u : Tree) → function_kind b ≡ kinds.Expression → IsMarked b async generator → {ts : Tokens} → KeyedMethod names c private boxed (ReadsParameters in_parameters) (in_body async generator) x t u ts → BehindWords names c private async generator boxed x (tree.function b absent t (given u)) ts
read_behind names c b private async generator boxed x t u h n (k & (within i f & within j g)) = record {
  reading = (k.reading, method_of async generator f.reading.0 f.reading.1 g.reading.0 g.reading.1);
  reads = grammar.a_method_behind_words i j refl k.reads f.reads g.reads;
  same = (k.same, same_value names b async generator t u f.reading.0 f.reading.1 g.reading.0 g.reading.1 h n f.same g.same);
}

behind_words : {names : Tables} {e : End} {async generator : Bool} (c : Allowed) (private boxed : Bool) (b : Atoms) (x t u : Tree) (place : Place) → is_good_for e a_start ≡ true → MemberKeyAt names c private boxed x → function_kind b ≡ kinds.Expression → IsMarked b async generator → GroupOf names (ReadsParameters in_parameters) t → BodyOf names (in_body async generator) u → Adds names e (BehindWords names c private async generator boxed x (tree.function b absent t (given u))) behind_token (key_at boxed x ⊕ method_items t u place)
behind_words {names} {async = async} {generator} c private boxed b x t u place s key h n f g = read (λ ts r. read_behind names c b private async generator boxed x t u h n r) (keyed c private boxed x t u place s key f g)

-- on the line of the word before it
read_on_line : (names : Tables) (c : Allowed) (b : Atoms) (private boxed : Bool) (x t u : Tree) → function_kind b ≡ kinds.Expression → IsMarked b true false → {ts : Tokens} → (OnLine (Reads names (ReadsMemberKey (with_in c) private boxed) x) ⨟ Behind names (ReadsParameters in_parameters) (in_body true false) t u) ts → OnLine (BehindWords names c private true false boxed x (tree.function b absent t (given u))) ts
read_on_line names c b private boxed x t u h n (◌&◌ {a = a} {b = d} k r) = record { holds = read_behind names c b private true false boxed x t u h n (k.holds & r); line = line_then a d k.line }

-- ---- by its words

read_plain : (names : Tables) (c : Allowed) (private boxed : Bool) (x v : Tree) {ts : Tokens} → BehindWords names c private false false boxed x v ts → MethodAs names c private property_kinds.Init boxed x v ts
read_plain names c private boxed x v r = record { reading = r.reading; reads = grammar.a_plain_method r.reads; same = r.same }

read_generator : (names : Tables) (c : Allowed) (private boxed : Bool) (x v : Tree) {ts : Tokens} → (Is (Sign star) ⨟ BehindWords names c private false true boxed x v) ts → MethodAs names c private property_kinds.Init boxed x v ts
read_generator names c private boxed x v (is o & r) = record { reading = r.reading; reads = grammar.a_generator_method r.reads; same = r.same }

read_async : (names : Tables) (c : Allowed) (private boxed : Bool) (x v : Tree) {ts : Tokens} → (Is (Word (codes "async")) ⨟ OnLine (BehindWords names c private true false boxed x v)) ts → MethodAs names c private property_kinds.Init boxed x v ts
read_async names c private boxed x v (is o & r) = record { reading = r.holds.reading; reads = grammar.an_async_method r.line r.holds.reads; same = r.holds.same }

read_async_generator : (names : Tables) (c : Allowed) (private boxed : Bool) (x v : Tree) {ts : Tokens} → (Is (Word (codes "async")) ⨟ (Follows (Sign star) ⨟ BehindWords names c private true true boxed x v)) ts → MethodAs names c private property_kinds.Init boxed x v ts
read_async_generator names c private boxed x v (is o & (follows & r)) = record { reading = r.reading; reads = grammar.an_async_generator_method r.reads; same = r.same }

read_getter : (names : Tables) (c : Allowed) (b : Atoms) (private boxed : Bool) (x t u : Tree) → function_kind b ≡ kinds.Expression → IsMarked b false false → {ts : Tokens} → (Is (Word (codes "get")) ⨟ KeyedMethod names c private boxed ReadsNone (in_body false false) x t u) ts → MethodAs names c private property_kinds.Get boxed x (tree.function b absent t (given u)) ts
read_getter names c b private boxed x t u h n (is o & (◌&◌ {a = d} k (within i f & within {ts = w} j g))) =
    let none : normal (tree.formal_parameters (nothing_of 0) no_trees absent) ≡ normal (renamed names t) = (λ i. normal (tree.formal_parameters (nothing_of 0) (sym f.reads.1 i) (sym f.reads.2 i))) ∙ f.same in
    record { reading = (k.reading, method_of false false no_trees absent g.reading.0 g.reading.1); reads = grammar.a_getter i j (ap (λ y. d ⧺ group i Round y (group j Brace w done)) f.reads.0) k.reads g.reads; same = (k.same, same_value names b false false t u no_trees absent g.reading.0 g.reading.1 h n none g.same) }

read_setter : (names : Tables) (c : Allowed) (b : Atoms) (private boxed : Bool) (x t u : Tree) → function_kind b ≡ kinds.Expression → IsMarked b false false → {ts : Tokens} → (Is (Word (codes "set")) ⨟ KeyedMethod names c private boxed ReadsOne (in_body false false) x t u) ts → MethodAs names c private property_kinds.Set boxed x (tree.function b absent t (given u)) ts
read_setter names c b private boxed x t u h n (is o & (k & (within i f & within j g))) =
    let one : Trees = more f.reads.0 no_trees in
    let alone : normal (tree.formal_parameters (nothing_of 0) one absent) ≡ normal (renamed names t) = (λ i. normal (tree.formal_parameters (nothing_of 0) (sym f.reads.1 i) (sym f.reads.2 i))) ∙ f.same in
    record { reading = (k.reading, method_of false false one absent g.reading.0 g.reading.1); reads = grammar.a_setter i j refl k.reads f.reads.3 g.reads; same = (k.same, same_value names b false false t u one absent g.reading.0 g.reading.1 h n alone g.same) }

async_word : {names : Tables} {e : End} → Adds names e (Is (Word (codes "async"))) behind_token (key_word (codes "async"))
async_word = before_space (keyword (codes "async") (letters_spelled 97 (codes "sync") refl))

-- a method or an accessor, from its first word on; of what stands before it a member may begin there
pub method_stretch : {names : Tables} {e : End} (kind : PropertyKind) (async generator : Bool) (c : Allowed) (private boxed : Bool) (b : Atoms) (x t u : Tree) (place : Place) → is_good_for e a_start ≡ true → is_good_for e a_member ≡ true → fits_words kind async generator ≡ true → MemberKeyAt names c private boxed x → function_kind b ≡ kinds.Expression → IsMarked b async generator → GroupsOf names kind t → BodyOf names (in_body async generator) u → Adds names e (MethodAs names c private kind boxed x (tree.function b absent t (given u))) behind_token (whole_items kind async generator boxed x t u place)
method_stretch {names} property_kinds.Init false false c private boxed b x t u place s m w key h n f g = past (λ p. refl) (past (λ p. refl) (read (λ ts r. read_plain names c private boxed x (tree.function b absent t (given u)) r) (behind_words c private boxed b x t u place s key h n f g)))
method_stretch {names} property_kinds.Init false true c private boxed b x t u place s m w key h n f g = past (λ p. refl) (read (λ ts r. read_generator names c private boxed x (tree.function b absent t (given u)) r) (past (λ p. refl) (star_sign m) ⨾ behind_words c private boxed b x t u place refl key h n f g))
method_stretch {names} property_kinds.Init true false c private boxed b x t u place s m w key h n f g = past (λ p. refl) (read (λ ts r. read_async names c private boxed x (tree.function b absent t (given u)) r) (before_nothing (λ p. refl) async_word ⨾ read (λ ts r. read_on_line names c b private boxed x t u h n r) (key_on_line (ReadsMemberKey (with_in c) private boxed) boxed x refl refl key ⨾ behind_key t u place f g)))
method_stretch {names} property_kinds.Init true true c private boxed b x t u place s m w key h n f g = past (λ p. refl) (laid (key_word (codes "async") ⊕ (punctuator star ⊕ (key_at boxed x ⊕ method_items t u place))) (words_items true true ⊕ (key_at boxed x ⊕ method_items t u place)) (λ p e. refl) (read (λ ts r. read_async_generator names c private boxed x (tree.function b absent t (given u)) r) (async_word ⨾ (star_on_line refl refl ⨾ behind_words c private boxed b x t u place refl key h n f g))))
method_stretch {names} property_kinds.Get false false c private boxed b x t u place s m w key h n f g = read (λ ts r. read_getter names c b private boxed x t u h n r) (before_space (keyword (codes "get") (letters_spelled 103 (codes "et") refl)) ⨾ past (λ p. refl) (keyed c private boxed x t u place refl key f g))
method_stretch {names} property_kinds.Set false false c private boxed b x t u place s m w key h n f g = read (λ ts r. read_setter names c b private boxed x t u h n r) (before_space (keyword (codes "set") (letters_spelled 115 (codes "et") refl)) ⨾ past (λ p. refl) (keyed c private boxed x t u place refl key f g))
method_stretch kind async generator c private boxed b x t u place s m w key h n f g = absurd (both_ways false refl w)

-- ---- properties

public_computed : {c : Allowed} {b : Bool} {ts : Tokens} {k : Tree} → ReadsMemberKey c false b ts k → is_computed b k ≡ b
public_computed (grammar.a_public_key r) = read_computed r

behind_computed : {c : Allowed} {async generator b : Bool} {ts : Tokens} {k v : Tree} → ReadsMethodAs c false async generator b ts k v → is_computed b k ≡ b
behind_computed (grammar.a_method_behind_words i j e k p r) = public_computed k

-- what is read as computed is printed so
method_computed : {c : Allowed} {kind : PropertyKind} {b : Bool} {ts : Tokens} {k v : Tree} → ReadsMethod c false kind b ts k v → is_computed b k ≡ b
method_computed (grammar.a_plain_method r) = behind_computed r
method_computed (grammar.a_generator_method r) = behind_computed r
method_computed (grammar.an_async_method l r) = behind_computed r
method_computed (grammar.an_async_generator_method r) = behind_computed r
method_computed (grammar.a_getter i j e k r) = public_computed k
method_computed (grammar.a_setter i j e k p r) = public_computed k

same_computed : (names : Tables) {c : Allowed} {kind : PropertyKind} {ts : Tokens} {k v : Tree} (computed : Bool) (x : Tree) → ReadsMethod c false kind (needs_brackets computed x) ts k v → is_computed (needs_brackets computed x) k ≡ is_computed computed (renamed names x)
same_computed names computed x r = method_computed r ∙ sym (ap (λ b. computed || b) (signed_as_it_was names x))

written_form : (kind : PropertyKind) (method : Bool) → is_method kind method ≡ true → is_written_as_method kind (is_plain_method kind) ≡ is_written_as_method kind method
written_form property_kinds.Init method h = sym h
written_form property_kinds.Get method h = refl
written_form property_kinds.Set method h = refl

no_shorthand : (kind : PropertyKind) (k : Tree) → is_proto_shorthand (is_method kind (is_plain_method kind)) false k ≡ false
no_shorthand property_kinds.Init k = refl
no_shorthand property_kinds.Get k = refl
no_shorthand property_kinds.Set k = refl

same_method : (a : Atoms) (b : Bool) (k v x y : Tree) → is_method (object_property_kind a) (object_property_method a) ≡ true → is_computed b k ≡ is_computed (object_property_computed a) x → normal k ≡ normal x → normal v ≡ normal y → normal (tree.object_property (property_values (object_property_kind a) (is_plain_method (object_property_kind a)) false b) k v) ≡ normal (tree.object_property a x y)
same_method a b k v x y m d f g =
    let w = written_form (object_property_kind a) (object_property_method a) m in
    let s = no_shorthand (object_property_kind a) k ∙ sym (ap (λ z. is_proto_shorthand z (object_property_shorthand a) x) m) in
    λ i. tree.object_property (property_values (object_property_kind a) (w i) (s i) (d i)) (f i) (g i)

read_property : (names : Tables) (c : Allowed) (a : Atoms) (x v : Tree) → is_method (object_property_kind a) (object_property_method a) ≡ true → {ts : Tokens} → MethodAs names c false (object_property_kind a) (needs_brackets (object_property_computed a) x) x v ts → Reads names (ReadsProperty (with_in c)) (tree.object_property a x v) ts
read_property names c a x v m r = record {
  reading = tree.object_property (property_values (object_property_kind a) (is_plain_method (object_property_kind a)) false (needs_brackets (object_property_computed a) x)) r.reading.0 r.reading.1;
  reads = grammar.a_method r.reads;
  same = same_method a (needs_brackets (object_property_computed a) x) r.reading.0 r.reading.1 (renamed names x) (renamed names v) m (same_computed names (object_property_computed a) x r.reads) r.same.0 r.same.1;
}

-- by the words of its function
worded : (a b : Atoms) (async generator : Bool) (x t u : Tree) → IsMarked b async generator → properties.method_items a x (tree.function b absent t (given u)) ≡ whole_items (object_property_kind a) async generator (needs_brackets (object_property_computed a) x) x t u (in_brackets levels.Comma)
worded a b async generator x t u n = λ i. whole_items (object_property_kind a) (n.0 i) (n.1 i) (needs_brackets (object_property_computed a) x) x t u (in_brackets levels.Comma)

pub good_method : {names : Tables} {async generator : Bool} (c : Allowed) (a b : Atoms) (x t u : Tree) → is_method (object_property_kind a) (object_property_method a) ≡ true → KeyOf names c (object_property_computed a) x → function_kind b ≡ kinds.Expression → IsMarked b async generator → fits_words (object_property_kind a) async generator ≡ true → GroupsOf names (object_property_kind a) t → BodyOf names (in_body async generator) u → PropertyOf names c (tree.object_property a x (tree.function b absent t (given u)))
good_method {names} {async} {generator} c a b x t u m key h n w f g =
    let v : Tree = tree.function b absent t (given u) in
    let whole : Tree = tree.object_property a x v in
    let boxed : Bool = needs_brackets (object_property_computed a) x in
    gives_element (spell whole (in_brackets levels.Comma)) whole refl
    (laid (whole_items (object_property_kind a) async generator boxed x t u (in_brackets levels.Comma)) (spell whole (in_brackets levels.Comma)) (λ p e. property_spelled p a x v true m ∙ ap (λ i. layout i p) (worded a b async generator x t u n))
    (read (λ ts r. read_property names c a x v m r) (method_stretch (object_property_kind a) async generator c false boxed b x t u (in_brackets levels.Comma) refl refl w (public_key c boxed x key) h n f g)))
