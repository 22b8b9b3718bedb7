-- Names of imports and exports, the sources that they are of, and attributes.
use Rattle.std.proofs.Common.{◌≡◌, ℕ, Bool, true, false, Option, Some, None, is_some, List, [], ◌∷◌, if◌then◌else◌, bytes_eq, codes, refl, sym, ap, ◌∙◌, subst}
use Rattle.std.proofs.lemmas.Bool.{both_ways}
use Rattle.std.proofs.lemmas.Slice.Eq.{bytes_eq-Decides}
use Rattle.std.proofs.lemmas.Option.{same_Some}
use Rattle.jsgen_syntax.specs.Escapes.{name_text}
use Rattle.jsgen_syntax.specs.Name.{spells_name}
use Rattle.jsgen_syntax.specs.Strings.{is_backtick, string_value, escaped}
use Rattle.jsgen_syntax.specs.Wtf8.{are_units, has_lone, joined_units}
use Rattle.jsgen_syntax.specs.declared.quote.Quote.{Quote}
use Rattle.jsgen_syntax.specs.declared.span.Span.{Span}
use Rattle.jsgen_syntax.proofs.Escapes.{word_text_value}
use Rattle.jsgen_syntax.proofs.Strings.{escaped_value}
use Rattle.jsgen_syntax.proofs.Wtf8.{units_joined}
use Rattle.jsgen_tree.specs.Atom.{with_keyword}
use Rattle.jsgen_tree.specs.Inside.{reference_named, binding_named}
use Rattle.jsgen_tree.specs.Job.{Tables}
use Rattle.jsgen_tree.specs.Named.{Named, as_written, printed_name}
use Rattle.jsgen_tree.specs.Nodes as tree
use Rattle.jsgen_tree.specs.Places.{bare}
use Rattle.jsgen_tree.specs.Tree.{Tree, Maybe, absent, given, Trees, Atoms}
use Rattle.jsgen_tree.specs.Values.{identifier_name_name, string_literal_value, with_clause_keyword}
use Rattle.jsgen_tree.specs.Words.{with_word}
use Rattle.jsgen_tree.specs.declared.modules.ImportOrExportKind.{ImportOrExportKind}
use Rattle.jsgen_tree.specs.declared.modules.ImportOrExportKind.TheVariants as import_kinds
use Rattle.jsgen_tree.specs.declared.modules.WithKeyword.{WithKeyword}
use Rattle.jsgen_tree.specs.declared.modules.WithKeyword.TheVariants as with_keywords
use Rattle.jsgen_model.specs.Punctuator.{colon, Brace}
use Rattle.jsgen_model.specs.Tokens.{Tokens, done, piece, Word, Quoted, Sign}
use Rattle.jsgen_model.specs.Items.{Items, nothing, ◌⊕◌, name, word, punctuator, string, soft_space}
use Rattle.jsgen_model.specs.Layout.{Pen, layout, chosen_quote, are_printed_alike}
use Rattle.jsgen_model.specs.Grammar.{ReadsModuleName, ReadsAttribute, ReadsAttributes, ReadsSource, text_of, units_of}
use Rattle.jsgen_model.specs.Grammar as grammar
use Rattle.jsgen_model.specs.Normal.{normal, nothing_of, named, by_its_text}
use Rattle.jsgen_model.specs.Renamed.{renamed}
use Rattle.jsgen_place.specs.Place.{plainly}
use Rattle.jsgen_model.specs.Spell.{spell, spell_attributes, spell_list, spaced_braces, export_named, string_named, unless_named, unless_same, items_unless}
use Rattle.jsgen_token_laws.proofs.Characters.{letters_spelled}
use Rattle.jsgen_token_laws.proofs.Last.{After, line_of}
use Rattle.jsgen_token_laws.proofs.Steps.{wrote_name, wrote_quoted, printed_as_written}
use Rattle.jsgen_row_laws.proofs.ModuleFamilies.{IsModuleName, IsString, IsAttribute, AreAttributes, IsWith}
use Rattle.jsgen_row_laws.proofs.ModuleFamilies as family
use Rattle.jsgen_row_laws.proofs.Names.{free_spelled}
use Rattle.jsgen_row_laws.proofs.Properties.{no_backticks}
use Rattle.jsgen_row_laws.proofs.Stands.{SameTree}
use Rattle.jsgen_row_laws.proofs.Adds.{a_start, a_member, an_operand, a_line, End, behind_operand, behind_token, Ends, no, Is, is, Within, within, ◌⨟◌, ◌&◌, Says, Adds, ◌⨾◌, read, laid, at_operand, keyword, sign, spaced, hard_spaced, after_token}
use Rattle.jsgen_row_laws.proofs.Parts.{Reads, SameMaybe}
use Rattle.jsgen_row_laws.proofs.Rests.{Every}
use Rattle.jsgen_row_laws.proofs.CommaLists.{Listing, ReadsAll, list_in_braces}
use Rattle.jsgen_row_laws.proofs.BoundPatterns.{IsName, is_name}

-- ---- words and strings

-- a name, be it reserved or not
pub word_stretch : {names : Tables} {d : End} (s : Span) (n : Named) → spells_name (printed_name names n) ≡ true → Adds names d (IsName (printed_name names n)) behind_token (name s n)
word_stretch {names} s n h = record {
  from = λ p l z y k.
      let v : List ℕ = printed_name names n in
      record { last = After (Word (name_text p.style.ascii v)); tokens = piece (line_of l) (Word (name_text p.style.ascii v)) done; writes = wrote_name n p l h k; ends = after_token (name_text p.style.ascii v); semicolon = z; holds = is_name (line_of l) (word_text_value p.style.ascii v h) };
}

-- a name that stands as it is written
pub written_stretch : {names : Tables} {d : End} (s : Span) (w : List ℕ) → spells_name w ≡ true → Adds names d (IsName w) behind_token (name s (as_written w))
written_stretch {names} {d} s w h = subst (λ v. Adds names d (IsName v) behind_token (name s (as_written w))) (printed_as_written names w) (word_stretch s (as_written w) (subst (λ v. spells_name v ≡ true) (sym (printed_as_written names w)) h))

-- a string of these units, not in backticks
pub data IsQuoted (us : List ℕ) : Tokens → Type 0 where
  is_quoted : {q : Quote} {w : List ℕ} (o : Bool) → is_backtick q ≡ false → string_value q w ≡ Some us → IsQuoted us (piece o (Quoted q w) done)

after_quoted : (q : Quote) (w : List ℕ) → Ends behind_operand (After (Quoted q w))
after_quoted q w a_start h = tt
after_quoted q w a_member h = no h
after_quoted q w an_operand h = tt
after_quoted q w a_line h = no h

pub quoted_stretch : {names : Tables} {d : End} (a : Atoms) → are_units (string_literal_value a) ≡ true → Adds names d (IsQuoted (string_literal_value a)) behind_operand (spell (tree.string_literal a) plainly)
quoted_stretch a h = record {
  from = λ p l z y k.
      let us : List ℕ = string_literal_value a in
      let q : Quote = chosen_quote p.style false us in
      let w : List ℕ = escaped q p.style.ascii us in
      let e : string_value q w ≡ Some us = escaped_value q p.style.ascii us h in
      record { last = After (Quoted q w); tokens = piece (line_of l) (Quoted q w) done; writes = wrote_quoted q w us p (layout (string false us) p) l e refl refl k; ends = after_quoted q w; semicolon = z; holds = is_quoted (line_of l) (no_backticks p.style us) e };
}

-- ---- names of imports and exports

-- a name by its text, which is that of the tree as it is printed
abbrev pub SameText : Tables → Tree → List ℕ → Type 0
SameText names t us = text_of us ≡ by_its_text (normal (renamed names t))

abbrev pub Names : Tables → Tree → Tokens → Type 0
Names names t = Says ReadsModuleName (SameText names t)

word_names : (names : Tables) (t : Tree) (v : List ℕ) → SameText names t (units_of v) → {ts : Tokens} → IsName v ts → Names names t ts
word_names names t v e (is_name o x) = record { reading = units_of v; reads = grammar.a_word_name x; same = e }

string_names : (names : Tables) (t : Tree) (us : List ℕ) → SameText names t us → {ts : Tokens} → IsQuoted us ts → Names names t ts
string_names names t us e (is_quoted o b x) = record { reading = us; reads = grammar.a_string_name b x; same = e }

pub module_name : {names : Tables} {d : End} {t : Tree} → IsModuleName names t → Adds names d (Names names t) behind_operand (spell t plainly)
module_name {names} (family.a_written_name {a = a} h) = at_operand (read (λ ts r. word_names names (tree.identifier_name a) (identifier_name_name a) refl r) (written_stretch a.span (identifier_name_name a) h))
module_name {names} (family.a_printed_name {a = a} h) = at_operand (read (λ ts r. word_names names (tree.identifier_reference a) (printed_name names (reference_named a)) refl r) (word_stretch a.span (reference_named a) (free_spelled (printed_name names (reference_named a)) h)))
module_name {names} (family.a_string_name {a = a} h) = read (λ ts r. string_names names (tree.string_literal a) (string_literal_value a) refl r) (quoted_stretch a h)

-- ---- names that are printed the same

abbrev alike : Tables → Option Named → Option Named → Bool
alike names (Some m) (Some n) = are_printed_alike names m n
alike names m n = false

abbrev pub printed_alike : Tables → Tree → Tree → Bool
printed_alike names (tree.string_literal a) (tree.string_literal b) = bytes_eq (string_literal_value a) (string_literal_value b)
printed_alike names t u = alike names (export_named t) (export_named u)

either_laid : (b : Bool) (items : Items) (p : Pen) → (if b then p else layout items p) ≡ layout (if b then nothing else items) p
either_laid true items p = refl
either_laid false items p = refl

unless_laid : (b : Bool) (items : Items) (p : Pen) → layout (items_unless b items) p ≡ layout (if b then nothing else items) p
unless_laid true items p = refl
unless_laid false items p = refl

named_laid : {names : Tables} (m n : Option Named) (items : Items) (p : Pen) → p.style.tables ≡ names → layout (unless_named m n items) p ≡ layout (if alike names m n then nothing else items) p
named_laid {names} (Some m) (Some n) items p e = ap (λ tables. if are_printed_alike tables m n then p else layout items p) e ∙ either_laid (are_printed_alike names m n) items p
named_laid (Some m) None items p e = refl
named_laid None n items p e = refl

pub same_laid : {names : Tables} (t u : Tree) (items : Items) (p : Pen) → p.style.tables ≡ names → layout (unless_same t u items) p ≡ layout (if printed_alike names t u then nothing else items) p
same_laid (tree.string_literal a) (tree.string_literal b) items p e = unless_laid (bytes_eq (string_literal_value a) (string_literal_value b)) items p
same_laid t u items p e = named_laid (export_named t) (export_named u) items p e

alike_text : (names : Tables) (m n : Named) → are_printed_alike names m n ≡ true → text_of (units_of (printed_name names m)) ≡ text_of (units_of (printed_name names n))
alike_text names m n e = ap (λ v. text_of (units_of v)) ((bytes_eq-Decides (printed_name names m) (printed_name names n)).0 e)

-- the characters of a string have its units
string_text : (names : Tables) (a : Atoms) (n : Named) → are_units (string_literal_value a) ≡ true → string_named (string_literal_value a) ≡ Some n → text_of (string_literal_value a) ≡ text_of (units_of (printed_name names n))
string_text names a n h e = by (has_lone us) e
  where
    us : List ℕ
    us = string_literal_value a

    by : (b : Bool) → (if b then None else Some (as_written (joined_units us))) ≡ Some n → text_of us ≡ text_of (units_of (printed_name names n))
    by true f = absurd (both_ways false refl (ap is_some f))
    by false f = ap text_of (sym (units_joined us h)) ∙ (ap (λ v. text_of (units_of v)) (sym (printed_as_written names (joined_units us))) ∙ ap (λ m. text_of (units_of (printed_name names m))) (same_Some (as_written (joined_units us)) n f))

-- what is printed alike has one text
named_text : {names : Tables} {t : Tree} (n : Named) → IsModuleName names t → export_named t ≡ Some n → by_its_text (normal (renamed names t)) ≡ text_of (units_of (printed_name names n))
named_text {names} n (family.a_written_name {a = a} h) e = ap (λ v. text_of (units_of v)) (sym (printed_as_written names (identifier_name_name a))) ∙ ap (λ m. text_of (units_of (printed_name names m))) (same_Some (as_written (identifier_name_name a)) n e)
named_text {names} n (family.a_printed_name {a = a} h) e = ap (λ m. text_of (units_of (printed_name names m))) (same_Some (reference_named a) n e)
named_text {names} n (family.a_string_name {a = a} h) e = string_text names a n h e

-- what is known by a name is printed like another by its name
both_named : (names : Tables) {A : Type 0} (m n : Option Named) → alike names m n ≡ true → ((x y : Named) → m ≡ Some x → n ≡ Some y → text_of (units_of (printed_name names x)) ≡ text_of (units_of (printed_name names y)) → A) → A
both_named names (Some x) (Some y) e f = f x y refl refl (alike_text names x y e)
both_named names (Some x) None e f = absurd (both_ways false refl e)
both_named names None n e f = absurd (both_ways false refl e)

pub alike_names : {names : Tables} {t u : Tree} → IsModuleName names t → IsModuleName names u → printed_alike names t u ≡ true → by_its_text (normal (renamed names t)) ≡ by_its_text (normal (renamed names u))
alike_names {names} {t} {u} v w e = go t u v w e
  where
    by_names : (x y : Tree) → IsModuleName names x → IsModuleName names y → alike names (export_named x) (export_named y) ≡ true → by_its_text (normal (renamed names x)) ≡ by_its_text (normal (renamed names y))
    by_names x y p q f = both_named names (export_named x) (export_named y) f (λ m n g h s. named_text m p g ∙ (s ∙ sym (named_text n q h)))

    go : (x y : Tree) → IsModuleName names x → IsModuleName names y → printed_alike names x y ≡ true → by_its_text (normal (renamed names x)) ≡ by_its_text (normal (renamed names y))
    go (tree.string_literal a) (tree.string_literal b) p q f = ap text_of ((bytes_eq-Decides (string_literal_value a) (string_literal_value b)).0 f)
    go x y p q f = by_names x y p q f

pub alike_local : {names : Tables} {t : Tree} (b : Atoms) → IsModuleName names t → printed_alike names t (tree.binding_identifier b) ≡ true → by_its_text (normal (renamed names t)) ≡ text_of (units_of (printed_name names (binding_named b)))
alike_local {names} {t} b v e = go t v e
  where
    by_names : (x : Tree) → IsModuleName names x → alike names (export_named x) (Some (binding_named b)) ≡ true → by_its_text (normal (renamed names x)) ≡ text_of (units_of (printed_name names (binding_named b)))
    by_names x p f = both_named names (export_named x) (Some (binding_named b)) f (λ m n g h s. named_text m p g ∙ (s ∙ ap (λ y. text_of (units_of (printed_name names y))) (sym (same_Some (binding_named b) n h))))

    go : (x : Tree) → IsModuleName names x → printed_alike names x (tree.binding_identifier b) ≡ true → by_its_text (normal (renamed names x)) ≡ text_of (units_of (printed_name names (binding_named b)))
    go (tree.string_literal a) p f = by_names (tree.string_literal a) p f
    go x p f = by_names x p f

-- ---- attributes

read_attribute : (names : Tables) (a b d : Atoms) {ts : Tokens} → (IsName (identifier_name_name b) ⨟ (Is (Sign colon) ⨟ IsQuoted (string_literal_value d))) ts → Reads names ReadsAttribute (tree.import_attribute a (tree.identifier_name b) (tree.string_literal d)) ts
read_attribute names a b d (is_name o x & (is q & is_quoted r y z)) = record { reading = tree.import_attribute (nothing_of 0) (tree.identifier_name (named _)) (text_of _); reads = grammar.an_attribute x y z; same = refl }

read_attribute_by_string : (names : Tables) (a b d : Atoms) {ts : Tokens} → (IsQuoted (string_literal_value b) ⨟ (Is (Sign colon) ⨟ IsQuoted (string_literal_value d))) ts → Reads names ReadsAttribute (tree.import_attribute a (tree.string_literal b) (tree.string_literal d)) ts
read_attribute_by_string names a b d (is_quoted o v x & (is q & is_quoted r y z)) = record { reading = tree.import_attribute (nothing_of 0) (text_of _) (text_of _); reads = grammar.an_attribute_by_string v x y z; same = refl }

attribute_stretch : {names : Tables} {d : End} {t : Tree} → IsAttribute t → Adds names d (Reads names ReadsAttribute t) behind_operand (spell t plainly)
attribute_stretch {names} (family.an_attribute {a = a} {b = b} h (family.a_string {a = d} k)) =
    read (λ ts r. read_attribute names a b d r) (laid (name b.span (as_written (identifier_name_name b)) ⊕ (punctuator colon ⊕ (soft_space ⊕ spell (tree.string_literal d) plainly))) (spell (tree.import_attribute a (tree.identifier_name b) (tree.string_literal d)) plainly) (λ p e. refl)
    (written_stretch b.span (identifier_name_name b) h ⨾ (sign colon tt tt tt refl ⨾ spaced (quoted_stretch d k))))
attribute_stretch {names} (family.an_attribute_by_string {a = a} {b = b} h (family.a_string {a = d} k)) =
    read (λ ts r. read_attribute_by_string names a b d r) (laid (spell (tree.string_literal b) plainly ⊕ (punctuator colon ⊕ (soft_space ⊕ spell (tree.string_literal d) plainly))) (spell (tree.import_attribute a (tree.string_literal b) (tree.string_literal d)) plainly) (λ p e. refl)
    (quoted_stretch b h ⨾ (sign colon tt tt tt refl ⨾ spaced (quoted_stretch d k))))

each_attribute : (names : Tables) {ts : Trees} → AreAttributes ts → Every names ReadsAttribute plainly ts
each_attribute names family.no_attribute = tt
each_attribute names (family.first_attribute v w) = (attribute_stretch v, each_attribute names w)

attributes_listing : Listing ReadsAttribute ReadsAttributes
attributes_listing = record { nothing_there = grammar.no_attribute; last = λ ts t r. grammar.last_attribute r; first = λ mark a b t us r s. grammar.first_attribute mark refl r s }

-- ---- sources

pub only_kind : (k : ImportOrExportKind) → import_kinds.Value ≡ k
only_kind import_kinds.Value = refl

only_keyword : (k : WithKeyword) → with_keywords.With ≡ k
only_keyword with_keywords.With = refl

abbrev pub Source : Tables → Tree → Maybe → Tokens → Type 0
Source names t m = Says (λ ts (x : Tree × Maybe). ReadsSource ts x.0 x.1) (λ x. SameTree names t x.0 × SameMaybe names m x.1)

read_source : (names : Tables) (a : Atoms) {ts : Tokens} → IsQuoted (string_literal_value a) ts → Source names (tree.string_literal a) absent ts
read_source names a (is_quoted o x y) = record { reading = (text_of _, absent); reads = grammar.a_source x y; same = (refl, refl) }

read_source_with : (names : Tables) (a b : Atoms) (es : Trees) {ts : Tokens} → (IsQuoted (string_literal_value a) ⨟ (Is (Word (codes "with")) ⨟ Within Brace (ReadsAll names ReadsAttributes es))) ts → Source names (tree.string_literal a) (given (tree.with_clause b es)) ts
read_source_with names a b es (is_quoted o x y & (is q & within s r)) = record { reading = (text_of _, given (tree.with_clause (bare (with_keyword with_keywords.With ∷ [])) r.reading)); reads = grammar.a_source_with x y r.reads; same = (refl, λ i. given (tree.with_clause (bare (with_keyword (only_keyword (with_clause_keyword b) i) ∷ [])) (r.same i))) }

-- the word before attributes, and these in braces
with_stretch : {names : Tables} {d : End} (b : Atoms) (es : Trees) → AreAttributes es → Adds names d (Is (Word (codes "with")) ⨟ Within Brace (ReadsAll names ReadsAttributes es)) behind_token (spell (tree.with_clause b es) plainly)
with_stretch {names} b es v = laid (word (codes "with") ⊕ (soft_space ⊕ spaced_braces es (spell_list es plainly))) (spell (tree.with_clause b es) plainly) (λ p e. ap (λ k. layout (soft_space ⊕ spaced_braces es (spell_list es plainly)) (layout (word (with_word k)) p)) (sym (only_keyword (with_clause_keyword b))))
    (keyword (codes "with") (letters_spelled 119 (codes "ith") refl) ⨾ spaced (list_in_braces ReadsAttribute ReadsAttributes attributes_listing plainly es (each_attribute names v)))

-- a source, and attributes behind a space that minified text keeps where the test holds
pub source_stretch : {names : Tables} {d : End} {t : Tree} {m : Maybe} (test : Bool) → IsString t → IsWith m → Adds names d (Source names t m) behind_operand (spell t plainly ⊕ spell_attributes test m)
source_stretch {names} test (family.a_string {a = a} h) family.no_attributes = laid (spell (tree.string_literal a) plainly) (spell (tree.string_literal a) plainly ⊕ spell_attributes test absent) (λ p e. refl) (read (λ ts r. read_source names a r) (quoted_stretch a h))
source_stretch {names} true (family.a_string {a = a} h) (family.some_attributes {a = b} {ts = es} v) = read (λ ts r. read_source_with names a b es r) (quoted_stretch a h ⨾ hard_spaced (at_operand (with_stretch b es v)))
source_stretch {names} false (family.a_string {a = a} h) (family.some_attributes {a = b} {ts = es} v) = read (λ ts r. read_source_with names a b es r) (quoted_stretch a h ⨾ spaced (at_operand (with_stretch b es v)))
