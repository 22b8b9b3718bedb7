-- The body of a class, cut into its members, and the members: fields, methods and static blocks.
use Rattle.std.proofs.Common.{◌≡◌, Bool, true, false, ◌⊎◌, inl, inr, [], ◌∷◌, codes, refl, sym, ap, ◌∙◌, subst}
use Rattle.std.proofs.lemmas.Bool.{both_ways}
use Rattle.jsgen_syntax.specs.declared.precedence.Precedence.TheVariants as levels
use Rattle.jsgen_tree.specs.Atom.{flag}
use Rattle.jsgen_tree.specs.Job.{Tables}
use Rattle.jsgen_tree.specs.Nodes as tree
use Rattle.jsgen_tree.specs.Places.{bare}
use Rattle.jsgen_tree.specs.Tree.{Tree, Maybe, absent, given, Trees, no_trees, more, Atoms}
use Rattle.jsgen_tree.specs.Values.{property_definition_computed, property_definition_is_static, method_definition_kind, method_definition_computed, method_definition_is_static, function_kind, function_is_async, function_generator}
use Rattle.jsgen_tree.specs.declared.classes.MethodDefinitionKind.{MethodDefinitionKind}
use Rattle.jsgen_tree.specs.declared.classes.MethodDefinitionKind.TheVariants as method_kinds
use Rattle.jsgen_tree.specs.declared.functions.FunctionKind.TheVariants as kinds
use Rattle.jsgen_model.specs.Punctuator.{equal, semicolon, Brace}
use Rattle.jsgen_model.specs.Tokens.{Tokens, done, piece, group, ◌⧺◌, Word, Sign}
use Rattle.jsgen_model.specs.Items.{Items, ◌⊕◌, mark, soft_line, indentation, due_semicolon, statement_end}
use Rattle.jsgen_model.specs.Layout.{Pen, layout, end_statement}
use Rattle.jsgen_model.specs.Grammar.{Allowed, EndsBy, ReadsExpression, ReadsStatements, ReadsMembers, ReadsMember, ReadsField, ReadsFieldAs, ReadsMemberKey, field_values, member_values, method_kind, in_member, in_body, with_in}
use Rattle.jsgen_model.specs.Grammar as grammar
use Rattle.jsgen_model.specs.Normal.{normal, normal_maybe, nothing_of, if_set, as_method, method_values}
use Rattle.jsgen_model.specs.Renamed.{renamed, renamed_maybe}
use Rattle.jsgen_model.specs.Valid.{as_property, fits_words}
use Rattle.jsgen_place.specs.declared.place.Place.{Place}
use Rattle.jsgen_place.specs.Place.{in_brackets, member}
use Rattle.jsgen_model.specs.Spell.{spell, spell_value, spell_statements, spell_elements_of_class, key_items, key_word, needs_brackets, items_if, block_braces, braces, accessor_word, method_kind_word}
use Rattle.jsgen_token_laws.proofs.Characters.{letters_spelled}
use Rattle.jsgen_token_laws.proofs.Last.{Last, Open, line_of, Ready, Begun, begun_ready, Knows}
use Rattle.jsgen_token_laws.proofs.Writes.{wrote_and_none, then_assoc, then_done}
use Rattle.jsgen_token_laws.proofs.Steps.{Gap, gap, none_due, indentation_written, soft_line_written}
use Rattle.jsgen_row_laws.proofs.Ends as ending
use Rattle.jsgen_row_laws.proofs.Stands.{Stands, Unended, StandsAt, BegunAt, SameTree, SameTrees, blank_before, ended_so}
use Rattle.jsgen_row_laws.proofs.Rows.{JoinsRow, RestAs, rest_none, rest_of, row_of, row_none}
use Rattle.jsgen_row_laws.proofs.Blocks.{GoodBraces, braces_round, block_written}
use Rattle.jsgen_row_laws.proofs.Bindings.{PrintedIfGiven}
use Rattle.jsgen_row_laws.proofs.Properties.{KeyAt, KeyOf, MemberKeyAt, public_key, key_as}
use Rattle.jsgen_row_laws.proofs.Families.{IsMarked, IsPlainMethod, IsPlainField}
use Rattle.jsgen_row_laws.proofs.Functions.{BodyOf, method_items}
use Rattle.jsgen_row_laws.proofs.Methods.{GroupsOf, MethodAs, words_items, method_stretch}
use Rattle.jsgen_row_laws.proofs.Adds.{a_start, a_member, End, is_good_for, at_member, behind_operand, behind_token, after_group, token_covers, Is, is, Within, within, ◌⨟◌, ◌&◌, Nothing, none, Says, Adds, ◌⨾◌, read, laid, before, past, keyword, sign, empty, spaced, before_space, of_class}
use Rattle.jsgen_row_laws.proofs.Parts.{Reads, SameMaybe, expression, member_ends}

-- ---- a body cut into its members, as statements are, where a field has its semicolon and another member none

-- a member with its end: a field, whose semicolon may lack where the braces end, or any other
abbrev pub ReadsEnded : Allowed → Bool → Tokens → Tree → Type 0
ReadsEnded c last ts t = ReadsMember c ts t ⊎ ((a : Tokens) × EndsBy last ts a × ReadsField c a t)

abbrev pub ReadsRow : Allowed → Bool → Tokens → Trees → Type 0
ReadsRow c last ts us = ReadsMembers c ts us

one_field : {c : Allowed} {last : Bool} {ts a : Tokens} {t : Tree} → EndsBy last ts a → ReadsField c a t → ReadsMembers c ts (more t no_trees)
one_field (grammar.a_semicolon o e) r = grammar.a_first_field o e r grammar.no_member
one_field grammar.the_brace r = grammar.a_last_field r

-- what ends otherwise than by a brace ends by a semicolon
field_before : {c : Allowed} {x a b : Tokens} {t : Tree} {us : Trees} → EndsBy false x a → ReadsField c a t → ReadsMembers c b us → ReadsMembers c (x ⧺ b) (more t us)
field_before {a = a} {b = b} (grammar.a_semicolon o e) r s = grammar.a_first_field o (ap (λ y. y ⧺ b) e ∙ then_assoc a (piece o (Sign semicolon) done) b) r s

members_join : (c : Allowed) → JoinsRow (ReadsEnded c) (ReadsRow c) (ReadsRow c)
members_join c = record { one = λ last ts t r. alone r; first = λ last a b t us r s. first_of r s }
  where
    alone : {last : Bool} {ts : Tokens} {t : Tree} → ReadsEnded c last ts t → ReadsMembers c ts (more t no_trees)
    alone {ts = ts} (inl r) = grammar.a_first_member (sym (then_done ts)) r grammar.no_member
    alone (inr r) = one_field r.1 r.2

    first_of : {a b : Tokens} {t : Tree} {us : Trees} → ReadsEnded c false a t → ReadsMembers c b us → ReadsMembers c (a ⧺ b) (more t us)
    first_of (inl r) s = grammar.a_first_member refl r s
    first_of (inr r) s = field_before r.1 r.2 s

-- between two pens stands a member, and where it leaves no semicolon another may begin behind it
pub record GoodMember (names : Tables) (c : Allowed) (t : Tree) (p : Pen) (l : Last) (q : Pen) : Type 0 where
  pub stands : Stands names (ReadsEnded c) (SameTree names t) p l q
  pub begun : q.pending_semicolon ≡ false → Begun stands.last

abbrev pub MemberAt : Tables → Allowed → Tree → Items → Type 0
MemberAt names c t items = (p : Pen) (l : Last) → p.pending_semicolon ≡ false → Begun l → Knows names p l → GoodMember names c t p l (layout items p)

-- a member of a class, wherever that stands
abbrev pub MemberOf : Tables → Allowed → Tree → Type 0
MemberOf names c t = (place : Place) → MemberAt names (with_in c) t (spell t (member place))

-- behind a member stand these
abbrev pub RestOf : Tables → Allowed → Items → Trees → Type 0
RestOf names c items ts = (p : Pen) (l : Last) → (p.pending_semicolon ≡ false → Begun l) → Ready l → Knows names p l → RestAs names (ReadsEnded c) (ReadsRow c) p l (layout items p) ts

-- all of them, and those behind a first
pub record MembersOf (names : Tables) (c : Allowed) (ts : Trees) : Type 0 where
  pub all : (place : Place) → BegunAt names (ReadsRow (with_in c)) (SameTrees names ts) (spell_elements_of_class ts (member place))
  pub others : (place : Place) → RestOf names (with_in c) (spell_elements_of_class ts (member place)) ts

pub no_members : {names : Tables} (c : Allowed) → MembersOf names c no_trees
no_members c = record {
  all = λ place p l z b k. row_none (λ last. grammar.no_member) p l z (begun_ready l b) k;
  others = λ place p l b y k. rest_none (members_join (with_in c)) p l y k;
}

pub one_more_member : {names : Tables} (c : Allowed) (t : Tree) (ts : Trees) → MemberOf names c t → MembersOf names c ts → MembersOf names c (more t ts)
one_more_member {names} c t ts f h = record { all = all_of; others = others_of }
  where
    all_of : (place : Place) → BegunAt names (ReadsRow (with_in c)) (SameTrees names (more t ts)) (due_semicolon ⊕ (spell t (member place) ⊕ spell_elements_of_class ts (member place)))
    all_of place p l z b k =
        let p1 : Pen = layout due_semicolon p in
        let n = none_due p l z k in
        let g = f place p1 n.last (n.semicolon ∙ z) (n.begun b) n.writes.knows in
        blank_before (gap n) (row_of t ts g.stands (h.others place (layout (spell t (member place)) p1) g.stands.last g.begun g.stands.ready g.stands.writes.knows))

    others_of : (place : Place) → RestOf names (with_in c) (due_semicolon ⊕ (spell t (member place) ⊕ spell_elements_of_class ts (member place))) (more t ts)
    others_of place p l b y k =
        let p1 : Pen = layout due_semicolon p in
        let d = ending.due_ends p l y k in
        let g = f place p1 d.last d.semicolon (d.begun b) d.writes.knows in
        rest_of (members_join (with_in c)) d (row_of t ts g.stands (h.others place (layout (spell t (member place)) p1) g.stands.last g.begun g.stands.ready g.stands.writes.knows))

-- ---- braces as a stretch, and the body of a class

braces_stretch : {names : Tables} {e : End} {X : Type 0} {R : Bool → Tokens → X → Type 0} {Same : X → Type 0} (items : Items) → ((p : Pen) (l : Last) → p.pending_semicolon ≡ false → Knows names p l → GoodBraces names R Same p l (layout items p)) → Adds names e (Within Brace (Says (λ ts x. R true ts x) Same)) behind_token items
braces_stretch items f = record { from = λ p l z y k. let g = f p l z k in record { last = Open false; tokens = group (line_of l) Brace g.tokens done; writes = g.writes; ends = after_group; semicolon = g.semicolon; holds = within (line_of l) (record { reading = g.reading; reads = g.reads; same = g.same }) } }

abbrev pub ClassBody : Tables → Allowed → Trees → Tokens → Type 0
ClassBody names c ms = Within Brace (Says (λ ts x. ReadsMembers (with_in c) ts x) (SameTrees names ms))

pub class_body : {names : Tables} {e : End} (c : Allowed) (a : Atoms) (ms : Trees) (place : Place) → MembersOf names c ms → Adds names e (ClassBody names c ms) behind_token (spell (tree.class_body a ms) place)
class_body c a ms place f = of_class (braces_stretch (braces a.span ms (spell_elements_of_class ms (member place))) (braces_round grammar.no_member a.span ms (spell_elements_of_class ms (member place)) (f.all place)))

-- ---- the word `static`, and the lines of members

abbrev IfSo : Bool → (Tokens → Type 0) → Tokens → Type 0
IfSo true P = P
IfSo false P = Nothing

static_word : {names : Tables} (b : Bool) → Adds names at_member (IfSo b (Is (Word (codes "static")))) at_member (items_if b (key_word (codes "static")))
static_word true = before (λ n h. token_covers at_member n h) (before_space (keyword (codes "static") (letters_spelled 115 (codes "tatic") refl)))
static_word false = empty

-- a blank before it
behind_gap : {names : Tables} {c : Allowed} {t : Tree} {p q r : Pen} {l : Last} → (s : Gap names p l q) → GoodMember names c t q s.last r → GoodMember names c t p l r
unfolding blank_before
behind_gap s g = record { stands = blank_before s g.stands; begun = g.begun }

-- a field with its end
ended_field : {names : Tables} {c : Allowed} {t : Tree} {p q : Pen} {l : Last} (minified : Bool) → Unended names (ReadsEnded c) (SameTree names t) p l q → GoodMember names c t p l (end_statement minified q)
unfolding ended_so
ended_field true g = record { stands = ended_so true g; begun = λ e. absurd (both_ways true e refl) }
ended_field false g = record { stands = ended_so false g; begun = λ e. tt }

field_line : {names : Tables} {e : End} (c : Allowed) (t : Tree) (items : Items) → is_good_for e a_start ≡ true → Adds names at_member (Reads names (ReadsField c) t) e items → MemberAt names c t (indentation ⊕ (items ⊕ statement_end))
field_line {names} c t items h f p l z b k =
    let s = gap (indentation_written p l k) in
    let x = f.from (layout indentation p) s.last (s.semicolon ∙ z) (member_ends s.last (s.begun b)) s.writes.knows in
    let g : Unended names (ReadsEnded c) (SameTree names t) (layout indentation p) s.last (layout items (layout indentation p)) = record { last = x.last; tokens = x.tokens; writes = x.writes; ready = x.ends a_start h; semicolon = x.semicolon; reading = x.holds.reading; reads = record { read = λ last us e. inr (x.tokens, e, x.holds.reads) }; same = x.holds.same } in
    behind_gap s (ended_field (layout items (layout indentation p)).style.minified g)

-- another member on its line
member_line : {names : Tables} (c : Allowed) (t : Tree) (items : Items) → Adds names at_member (Reads names (ReadsMember c) t) behind_token items → MemberAt names c t (indentation ⊕ (items ⊕ soft_line))
member_line {names} c t items f p l z b k =
    let s = gap (indentation_written p l k) in
    let x = f.from (layout indentation p) s.last (s.semicolon ∙ z) (member_ends s.last (s.begun b)) s.writes.knows in
    let n = soft_line_written (layout items (layout indentation p)) x.last x.writes.knows in
    behind_gap s (record {
      stands = record { last = n.last; tokens = x.tokens; writes = wrote_and_none x.writes n.writes; ready = n.ready (x.ends a_start refl); reading = x.holds.reading; reads = ending.ends_itself (n.semicolon ∙ x.semicolon) (λ last. inl x.holds.reads); same = x.holds.same };
      begun = λ e. n.begun (x.ends a_member refl);
    })

-- ---- fields

same_field : (a : Atoms) (k x : Tree) (m n : Maybe) → IsPlainField a → normal k ≡ normal x → normal_maybe m ≡ normal_maybe n → normal (tree.property_definition (field_values (property_definition_is_static a) (property_definition_computed a)) k m) ≡ normal (tree.property_definition a x n)
same_field a k x m n h e f = λ i. tree.property_definition (bare (flag (property_definition_computed a) ∷ if_set (sym h.0 i) ∷ if_set (sym h.1 i) ∷ flag (property_definition_is_static a) ∷ if_set (sym h.2 i) ∷ if_set (sym h.3 i) ∷ if_set (sym h.4 i) ∷ if_set (sym h.5 i) ∷ [])) (e i) (f i)

-- a key, and a value or none
abbrev FieldAs : Tables → Allowed → Bool → Tree → Maybe → Tokens → Type 0
FieldAs names c computed k m = Says {X = Tree × Maybe} (λ ts x. ReadsFieldAs (with_in c) computed ts x.0 x.1) (λ x. (normal x.0 ≡ normal (renamed names k)) × SameMaybe names m x.1)

read_field_alone : (names : Tables) (c : Allowed) (computed : Bool) (k : Tree) {ts : Tokens} → Reads names (ReadsMemberKey (with_in c) true computed) k ts → FieldAs names c computed k absent ts
read_field_alone names c computed k r = record { reading = (r.reading, absent); reads = grammar.a_field_alone r.reads; same = (r.same, refl) }

read_field_valued : (names : Tables) (c : Allowed) (computed : Bool) (k v : Tree) {ts : Tokens} → (Reads names (ReadsMemberKey (with_in c) true computed) k ⨟ (Is (Sign equal) ⨟ Reads names (ReadsExpression in_member grammar.Assignment) v)) ts → FieldAs names c computed k (given v) ts
read_field_valued names c computed k v (r & (is o & s)) = record { reading = (r.reading, given s.reading); reads = grammar.a_field_with_value o refl r.reads s.reads; same = (r.same, ap (λ t. given t) s.same) }

field_as : {names : Tables} (c : Allowed) (computed : Bool) (k : Tree) (m : Maybe) → MemberKeyAt names c true computed k → PrintedIfGiven names in_member m → Adds names at_member (FieldAs names c computed k m) behind_operand (key_items computed k (spell k (in_brackets levels.Comma)) ⊕ spell_value m (in_brackets levels.Comma))
field_as {names} c computed k absent f g = read (λ ts r. read_field_alone names c computed k r) (laid (key_items computed k (spell k (in_brackets levels.Comma))) (key_items computed k (spell k (in_brackets levels.Comma)) ⊕ spell_value absent (in_brackets levels.Comma)) (λ p t. refl) (key_as (ReadsMemberKey (with_in c) true computed) computed k refl f))
field_as {names} c computed k (given v) f g = read (λ ts r. read_field_valued names c computed k v r) (key_as (ReadsMemberKey (with_in c) true computed) computed k refl f ⨾ spaced (sign equal tt tt tt refl ⨾ spaced (expression in_member refl g (in_brackets levels.Comma))))

-- `static` or not
read_field : (names : Tables) (c : Allowed) (a : Atoms) (k : Tree) (m : Maybe) → IsPlainField a → (b : Bool) → property_definition_is_static a ≡ b → {ts : Tokens} → (IfSo b (Is (Word (codes "static"))) ⨟ FieldAs names c (property_definition_computed a) k m) ts → Reads names (ReadsField (with_in c)) (tree.property_definition a k m) ts
read_field names c a k m h true s (is o & r) = record { reading = tree.property_definition (field_values true (property_definition_computed a)) r.reading.0 r.reading.1; reads = grammar.a_static_field r.reads; same = ap (λ x. normal (tree.property_definition (field_values x (property_definition_computed a)) r.reading.0 r.reading.1)) (sym s) ∙ same_field a r.reading.0 (renamed names k) r.reading.1 (renamed_maybe names m) h r.same.0 r.same.1 }
read_field names c a k m h false s (none & r) = record { reading = tree.property_definition (field_values false (property_definition_computed a)) r.reading.0 r.reading.1; reads = grammar.a_field r.reads; same = ap (λ x. normal (tree.property_definition (field_values x (property_definition_computed a)) r.reading.0 r.reading.1)) (sym s) ∙ same_field a r.reading.0 (renamed names k) r.reading.1 (renamed_maybe names m) h r.same.0 r.same.1 }

-- a key of a class is in brackets where it is computed alone
pub class_key : {names : Tables} (c : Allowed) (computed : Bool) (k : Tree) → needs_brackets computed k ≡ computed → KeyOf names c computed k → MemberKeyAt names c true computed k
class_key {names} c computed k n f = public_key c computed k (subst (λ b. KeyAt names c b k) n f)

pub good_field : {names : Tables} (c : Allowed) (a : Atoms) (k : Tree) (m : Maybe) → IsPlainField a → MemberKeyAt names c true (property_definition_computed a) k → PrintedIfGiven names in_member m → MemberOf names c (tree.property_definition a k m)
good_field {names} c a k m h f g place = field_line (with_in c) (tree.property_definition a k m) (mark a.span ⊕ (items_if (property_definition_is_static a) (key_word (codes "static")) ⊕ (key_items (property_definition_computed a) k (spell k (in_brackets levels.Comma)) ⊕ spell_value m (in_brackets levels.Comma)))) refl
    (past (λ p. refl) (read (λ ts r. read_field names c a k m h (property_definition_is_static a) refl r) (static_word (property_definition_is_static a) ⨾ field_as c (property_definition_computed a) k m f g)))

-- ---- static blocks

read_static_block : (names : Tables) (c : Allowed) (a : Atoms) (ss : Trees) {ts : Tokens} → (Is (Word (codes "static")) ⨟ Within Brace (Says (λ us x. ReadsStatements in_member true us x) (SameTrees names ss))) ts → Reads names (ReadsMember c) (tree.static_block a ss) ts
read_static_block names c a ss (is o & within q r) = record { reading = tree.static_block (nothing_of 0) r.reading; reads = grammar.a_static_block r.reads; same = ap (λ us. tree.static_block (nothing_of 0) us) r.same }

pub good_static_block : {names : Tables} (c : Allowed) (a : Atoms) (ss : Trees) → StandsAt names (ReadsStatements in_member) (SameTrees names ss) (spell_statements ss) → MemberOf names c (tree.static_block a ss)
good_static_block {names} c a ss row place = member_line (with_in c) (tree.static_block a ss) (mark a.span ⊕ (key_word (codes "static") ⊕ block_braces a.span ss (spell_statements ss)))
    (past (λ p. refl) (read (λ ts r. read_static_block names (with_in c) a ss r) (before_space (keyword (codes "static") (letters_spelled 115 (codes "tatic") refl)) ⨾ braces_stretch (block_braces a.span ss (spell_statements ss)) (block_written grammar.no_statement a.span ss (spell_statements ss) row))))

-- ---- methods and accessors

-- what a method of a class is, it is as one of an object
kind_again : (kind : MethodDefinitionKind) → as_method (method_kind (as_property kind)) ≡ as_method kind
kind_again method_kinds.Constructor = refl
kind_again method_kinds.Method = refl
kind_again method_kinds.Get = refl
kind_again method_kinds.Set = refl

word_again : (kind : MethodDefinitionKind) → accessor_word (as_property kind) ≡ method_kind_word kind
word_again method_kinds.Constructor = refl
word_again method_kinds.Method = refl
word_again method_kinds.Get = refl
word_again method_kinds.Set = refl

same_member : (a : Atoms) (k v x y : Tree) → IsPlainMethod a → normal k ≡ normal x → normal v ≡ normal y → normal (tree.method_definition (member_values (as_property (method_definition_kind a)) (method_definition_is_static a) (method_definition_computed a)) k v) ≡ normal (tree.method_definition a x y)
same_member a k v x y h f g = let e = kind_again (method_definition_kind a) in λ i. tree.method_definition (method_values (e i) (method_definition_computed a) (method_definition_is_static a) (if_set (sym h.0 i)) (if_set (sym h.1 i)) (if_set (sym h.2 i))) (f i) (g i)

read_method : (names : Tables) (c : Allowed) (a : Atoms) (k v : Tree) → IsPlainMethod a → (b : Bool) → method_definition_is_static a ≡ b → {ts : Tokens} → (IfSo b (Is (Word (codes "static"))) ⨟ MethodAs names c true (as_property (method_definition_kind a)) (method_definition_computed a) k v) ts → Reads names (ReadsMember (with_in c)) (tree.method_definition a k v) ts
read_method names c a k v h true s (is o & r) = record { reading = tree.method_definition (member_values (as_property (method_definition_kind a)) true (method_definition_computed a)) r.reading.0 r.reading.1; reads = grammar.a_static_method r.reads; same = ap (λ x. normal (tree.method_definition (member_values (as_property (method_definition_kind a)) x (method_definition_computed a)) r.reading.0 r.reading.1)) (sym s) ∙ same_member a r.reading.0 r.reading.1 (renamed names k) (renamed names v) h r.same.0 r.same.1 }
read_method names c a k v h false s (none & r) = record { reading = tree.method_definition (member_values (as_property (method_definition_kind a)) false (method_definition_computed a)) r.reading.0 r.reading.1; reads = grammar.a_member_method r.reads; same = ap (λ x. normal (tree.method_definition (member_values (as_property (method_definition_kind a)) x (method_definition_computed a)) r.reading.0 r.reading.1)) (sym s) ∙ same_member a r.reading.0 r.reading.1 (renamed names k) (renamed names v) h r.same.0 r.same.1 }

-- by its words
abbrev member_items : Atoms → Items → Bool → Bool → Tree → Tree → Tree → Place → Items
member_items a before async generator k t u place = mark a.span ⊕ (items_if (method_definition_is_static a) (key_word (codes "static")) ⊕ (before ⊕ (words_items async generator ⊕ (key_items (method_definition_computed a) k (spell k (in_brackets levels.Comma)) ⊕ method_items t u (member place)))))

spelled_member : (a b : Atoms) (async generator : Bool) (k t u : Tree) (place : Place) → IsMarked b async generator → indentation ⊕ (member_items a (accessor_word (as_property (method_definition_kind a))) async generator k t u place ⊕ soft_line) ≡ indentation ⊕ (member_items a (method_kind_word (method_definition_kind a)) (function_is_async b) (function_generator b) k t u place ⊕ soft_line)
spelled_member a b async generator k t u place n = let e = word_again (method_definition_kind a) in λ i. indentation ⊕ (member_items a (e i) (sym n.0 i) (sym n.1 i) k t u place ⊕ soft_line)

pub good_member_method : {names : Tables} {async generator : Bool} (c : Allowed) (a b : Atoms) (k t u : Tree) → IsPlainMethod a → MemberKeyAt names c true (method_definition_computed a) k → function_kind b ≡ kinds.Expression → IsMarked b async generator → fits_words (as_property (method_definition_kind a)) async generator ≡ true → GroupsOf names (as_property (method_definition_kind a)) t → BodyOf names (in_body async generator) u → MemberOf names c (tree.method_definition a k (tree.function b absent t (given u)))
good_member_method {names} {async} {generator} c a b k t u h key m w x f g place =
    let v : Tree = tree.function b absent t (given u) in
    let whole : Tree = tree.method_definition a k v in
    let kind = as_property (method_definition_kind a) in
    subst (λ i. MemberAt names (with_in c) whole i) (spelled_member a b async generator k t u place w) (member_line (with_in c) whole (member_items a (accessor_word kind) async generator k t u place)
    (past (λ p. refl) (read (λ ts r. read_method names c a k v h (method_definition_is_static a) refl r) (static_word (method_definition_is_static a) ⨾ method_stretch kind async generator c true (method_definition_computed a) b k t u (member place) refl refl x key m w f g))))
