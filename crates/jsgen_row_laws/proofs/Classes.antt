-- Classes: their names, what they extend and their bodies, as expressions and as declarations.
use Rattle.std.proofs.Common.{◌≡◌, Bool, true, false, codes, [], ◌∷◌, refl, sym, ap, subst}
use Rattle.jsgen_syntax.specs.Name.{spells_name, is_free_name}
use Rattle.jsgen_syntax.specs.declared.span.Span.{Span}
use Rattle.jsgen_syntax.specs.declared.precedence.Precedence.TheVariants as levels
use Rattle.jsgen_tree.specs.Atom.{class_form}
use Rattle.jsgen_tree.specs.Inside.{binding_named}
use Rattle.jsgen_tree.specs.Job.{Tables}
use Rattle.jsgen_tree.specs.Named.{printed_name}
use Rattle.jsgen_tree.specs.Nodes as tree
use Rattle.jsgen_tree.specs.Places.{bare}
use Rattle.jsgen_tree.specs.Tree.{Tree, Maybe, absent, given, Trees, Atoms}
use Rattle.jsgen_tree.specs.Values.{class_kind, class_declare, class_is_abstract}
use Rattle.jsgen_tree.specs.declared.classes.ClassKind.{ClassKind}
use Rattle.jsgen_tree.specs.declared.classes.ClassKind.TheVariants as class_kinds
use Rattle.jsgen_model.specs.Tokens.{Tokens, piece, Word}
use Rattle.jsgen_model.specs.Items.{Items, ◌⊕◌, marked_word, soft_space, soft_line}
use Rattle.jsgen_model.specs.Grammar.{Allowed, ReadsExpression, ReadsClass, ReadsClassTail, ReadsItem, class_of, with_in}
use Rattle.jsgen_model.specs.Grammar as grammar
use Rattle.jsgen_model.specs.Normal.{normal, normal_maybe, normal_trees, nothing_of, unnumbered, if_set}
use Rattle.jsgen_model.specs.Renamed.{renamed_maybe, renamed_trees}
use Rattle.jsgen_place.specs.declared.place.Place.{Place}
use Rattle.jsgen_place.specs.Place.{among_statements, within_statement, child, in_brackets, with_calls}
use Rattle.jsgen_model.specs.Spell.{spell, spell_behind_word, spell_heritage, class_items}
use Rattle.jsgen_token_laws.proofs.Characters.{letters_spelled}
use Rattle.jsgen_token_laws.proofs.Steps.{soft_line_written}
use Rattle.jsgen_row_laws.proofs.Levels.{level_of, under, read_left}
use Rattle.jsgen_row_laws.proofs.Families.{HasName}
use Rattle.jsgen_row_laws.proofs.Families as family
use Rattle.jsgen_row_laws.proofs.Good.{Printed, PrintedBy}
use Rattle.jsgen_row_laws.proofs.Bindings.{PrintedIfGiven}
use Rattle.jsgen_row_laws.proofs.Stands.{StandsAt, SameTree, SameTrees, Listed, stands_since, before_blank, indented_line}
use Rattle.jsgen_row_laws.proofs.Adds.{behind_token, Is, is, within, ◌⨟◌, ◌&◌, Says, Adds, ◌⨾◌, read, past, keyword, spaced, hard_spaced, before_nothing}
use Rattle.jsgen_row_laws.proofs.Parts.{Reads, SameMaybe, expression}
use Rattle.jsgen_row_laws.proofs.Functions.{IsName, is_name, name_stretch, FromWordAt, from_word, good_barred, stands_so}
use Rattle.jsgen_row_laws.proofs.Members.{MembersOf, ClassBody, class_body}

-- ---- what it extends, and its body

-- behind its name
abbrev TailOf : Tables → Allowed → Maybe → Trees → Tokens → Type 0
TailOf names c heritage ms = Says {X = Maybe × Trees} (λ ts x. ReadsClassTail (with_in c) ts x.0 x.1) (λ x. SameMaybe names heritage x.0 × SameTrees names ms x.1)

read_no_heritage : (names : Tables) (c : Allowed) (ms : Trees) {ts : Tokens} → ClassBody names c ms ts → TailOf names c absent ms ts
read_no_heritage names c ms (within i g) = record { reading = (absent, g.reading); reads = grammar.without_heritage g.reads; same = (refl, g.same) }

-- a callee is a left-hand side
read_heritage : (names : Tables) (c : Allowed) (t : Tree) (ms : Trees) {ts : Tokens} → ((Is (Word (codes "extends")) ⨟ Reads names (ReadsExpression (with_in c) grammar.Callee) t) ⨟ ClassBody names c ms) ts → TailOf names c (given t) ms ts
read_heritage names c t ms ((is o & r) & within i g) = record { reading = (given r.reading, g.reading); reads = grammar.with_heritage i refl (read_left false r.reads) g.reads; same = (ap (λ x. given x) r.same, g.same) }

abbrev tail_items : Maybe → Trees → Atoms → Place → Items
tail_items heritage ms b place = spell_heritage heritage ⊕ (soft_space ⊕ spell (tree.class_body b ms) (with_calls (child levels.Lowest place)))

tail : {names : Tables} (c : Allowed) (b : Atoms) (heritage : Maybe) (ms : Trees) (place : Place) → PrintedIfGiven names c heritage → MembersOf names c ms → Adds names behind_token (TailOf names c heritage ms) behind_token (tail_items heritage ms b place)
tail {names} c b absent ms place f g = read (λ ts r. read_no_heritage names c ms r) (past (λ p. refl) (spaced (class_body c b ms (with_calls (child levels.Lowest place)) g)))
tail {names} c b (given t) ms place f g = read (λ ts r. read_heritage names c t ms r) (spaced (keyword (codes "extends") (letters_spelled 101 (codes "xtends") refl) ⨾ hard_spaced (before_nothing (λ p. refl) (expression c refl f (in_brackets levels.Postfix)))) ⨾ spaced (class_body c b ms (with_calls (child levels.Lowest place)) g))

-- ---- from its word on

same_class : (a b : Atoms) (kind : ClassKind) (i j m n : Maybe) (us vs : Trees) → class_kind a ≡ kind → class_declare a ≡ false → class_is_abstract a ≡ false → normal_maybe j ≡ normal_maybe i → normal_maybe n ≡ normal_maybe m → normal_trees vs ≡ normal_trees us → normal (class_of kind j n vs) ≡ normal (tree.class a i m (tree.class_body b us))
same_class a b kind i j m n us vs h d s e f g = λ x. tree.class (bare (class_form (sym h x) ∷ if_set (sym d x) ∷ if_set (sym s x) ∷ [])) (e x) (f x) (tree.class_body (nothing_of 0) (g x))

-- what is said of the words of a class
abbrev pub IsClassOf : Atoms → ClassKind → Type 0
IsClassOf a kind = (class_kind a ≡ kind) × (class_declare a ≡ false) × (class_is_abstract a ≡ false)

read_named : (names : Tables) (c : Allowed) (kind : ClassKind) (nameless mark : Bool) (a b d : Atoms) (heritage : Maybe) (ms : Trees) → IsClassOf a kind → is_free_name (printed_name names (binding_named b)) ≡ true → {ts : Tokens} → (IsName (printed_name names (binding_named b)) ⨟ TailOf names c heritage ms) ts → Reads names (ReadsClass (with_in c) kind nameless) (tree.class a (given (tree.binding_identifier b)) heritage (tree.class_body d ms)) (piece mark (Word (codes "class")) ts)
read_named names c kind nameless mark a b d heritage ms h n (is_name o e & r) =
    let name : Tree = tree.binding_identifier (unnumbered (printed_name names (binding_named b))) in
    record {
      reading = class_of kind (given name) r.reading.0 r.reading.1;
      reads = grammar.a_named_class e n r.reads;
      same = same_class a d kind (renamed_maybe names (given (tree.binding_identifier b))) (given name) (renamed_maybe names heritage) r.reading.0 (renamed_trees names ms) r.reading.1 h.0 h.1 h.2 refl r.same.0 r.same.1;
    }

read_nameless : (names : Tables) (c : Allowed) (kind : ClassKind) (mark : Bool) (a d : Atoms) (heritage : Maybe) (ms : Trees) → IsClassOf a kind → {ts : Tokens} → TailOf names c heritage ms ts → Reads names (ReadsClass (with_in c) kind true) (tree.class a absent heritage (tree.class_body d ms)) (piece mark (Word (codes "class")) ts)
read_nameless names c kind mark a d heritage ms h r = record {
  reading = class_of kind absent r.reading.0 r.reading.1;
  reads = grammar.a_nameless_class r.reads;
  same = same_class a d kind absent absent (renamed_maybe names heritage) r.reading.0 (renamed_trees names ms) r.reading.1 h.0 h.1 h.2 refl r.same.0 r.same.1;
}

class_spelled : spells_name (codes "class") ≡ true
class_spelled = letters_spelled 99 (codes "lass") refl

abbrev whole_items : Span → Maybe → Maybe → Atoms → Trees → Place → Items
whole_items s id heritage d ms place = marked_word s (codes "class") ⊕ (spell_behind_word id (child levels.Lowest place) ⊕ tail_items heritage ms d place)

whole : {names : Tables} {kind : ClassKind} {nameless : Bool} {id : Maybe} (c : Allowed) (a d : Atoms) (heritage : Maybe) (ms : Trees) → IsClassOf a kind → HasName names nameless id → PrintedIfGiven names c heritage → MembersOf names c ms → (place : Place) → FromWordAt names (ReadsClass (with_in c) kind nameless) (tree.class a id heritage (tree.class_body d ms)) (whole_items a.span id heritage d ms place)
whole {names} {kind} {nameless} c a d heritage ms h (family.a_name {a = b} n) f g place = from_word (codes "class") (spell_behind_word (given (tree.binding_identifier b)) (child levels.Lowest place) ⊕ tail_items heritage ms d place) class_spelled (λ mark ts r. read_named names c kind nameless mark a b d heritage ms h n r) (hard_spaced (name_stretch b (child levels.Lowest place) n) ⨾ tail c d heritage ms place f g)
whole {names} {kind} c a d heritage ms h family.no_name f g place = from_word (codes "class") (spell_behind_word absent (child levels.Lowest place) ⊕ tail_items heritage ms d place) class_spelled (λ mark ts r. read_nameless names c kind mark a d heritage ms h r) (past (λ p. refl) (tail c d heritage ms place f g))

-- as it is spelled
spelled_class : (a : Atoms) (kind : ClassKind) (id heritage : Maybe) (d : Atoms) (ms : Trees) (place : Place) → class_kind a ≡ kind → class_items kind place a.span.start (whole_items a.span id heritage d ms place) ≡ class_items (class_kind a) place a.span.start (whole_items a.span id heritage d ms place)
spelled_class a kind id heritage d ms place h = λ i. class_items (sym h i) place a.span.start (whole_items a.span id heritage d ms place)

-- ---- in an expression, and among statements

-- what may stand round it, within parentheses or without them, may stand in it with `in`
read_expression : (c d : Allowed) → with_in d ≡ with_in c → (ts : Tokens) (t : Tree) → ReadsClass (with_in c) class_kinds.Expression true ts t → ReadsExpression d grammar.Primary ts t
read_expression c d e ts t r = grammar.a_class (subst (λ x. ReadsClass x class_kinds.Expression true ts t) (sym e) r)

pub good_class : {names : Tables} {id : Maybe} (c : Allowed) (a d : Atoms) (heritage : Maybe) (ms : Trees) → IsClassOf a class_kinds.Expression → HasName names true id → PrintedIfGiven names c heritage → MembersOf names c ms → Printed names c (tree.class a id heritage (tree.class_body d ms))
good_class {names} {id} c a d heritage ms h n f g place =
    let t : Tree = tree.class a id heritage (tree.class_body d ms) in
    subst (λ x. PrintedBy names (under place c) (level_of place) x t) (spelled_class a class_kinds.Expression id heritage d ms place h.0)
    (good_barred c false (whole_items a.span id heritage d ms place) t (λ b e ts v r. read_expression c b e ts v r) (whole c a d heritage ms h n f g place) place)

-- from its first word on; a declaration without a name stands behind `export default` alone
pub declared_class : {names : Tables} {nameless : Bool} {id : Maybe} (c : Allowed) (a d : Atoms) (heritage : Maybe) (ms : Trees) → IsClassOf a class_kinds.Declaration → HasName names nameless id → PrintedIfGiven names c heritage → MembersOf names c ms → (place : Place) → StandsAt names (λ last ts v. ReadsClass (with_in c) class_kinds.Declaration nameless ts v) (SameTree names (tree.class a id heritage (tree.class_body d ms))) (whole_items a.span id heritage d ms place)
declared_class {id = id} c a d heritage ms h n f g place = stands_so (whole_items a.span id heritage d ms place) (tree.class a id heritage (tree.class_body d ms)) (whole c a d heritage ms h n f g place)

pub good_class_declaration : {names : Tables} {id : Maybe} (c : Allowed) (a d : Atoms) (heritage : Maybe) (ms : Trees) → IsClassOf a class_kinds.Declaration → HasName names false id → PrintedIfGiven names c heritage → MembersOf names c ms → Listed names c (tree.class a id heritage (tree.class_body d ms))
good_class_declaration {names} {id} c a d heritage ms h n f g =
    let items : Items = whole_items a.span id heritage d ms among_statements in
    subst (λ x. StandsAt names (ReadsItem c) (SameTree names (tree.class a id heritage (tree.class_body d ms))) x) (spelled_class a class_kinds.Declaration id heritage d ms among_statements h.0)
    (indented_line (items ⊕ soft_line) (before_blank items soft_line (λ p l z y k. stands_since (λ last ts v s r. grammar.a_class_declaration r) (λ v s. s) (declared_class c a d heritage ms h n f g among_statements p l z y k)) soft_line_written))

-- within a statement, as behind the words of an export
pub good_declared_class : {names : Tables} {nameless : Bool} {id : Maybe} (c : Allowed) (a d : Atoms) (heritage : Maybe) (ms : Trees) → IsClassOf a class_kinds.Declaration → HasName names nameless id → PrintedIfGiven names c heritage → MembersOf names c ms → FromWordAt names (ReadsClass (with_in c) class_kinds.Declaration nameless) (tree.class a id heritage (tree.class_body d ms)) (spell (tree.class a id heritage (tree.class_body d ms)) within_statement)
good_declared_class {names} {nameless} {id} c a d heritage ms h n f g = subst (λ x. FromWordAt names (ReadsClass (with_in c) class_kinds.Declaration nameless) (tree.class a id heritage (tree.class_body d ms)) x) (spelled_class a class_kinds.Declaration id heritage d ms within_statement h.0) (whole c a d heritage ms h n f g within_statement)
