-- Imports: what is imported, under which names, and from where.
use Rattle.std.proofs.Common.{◌≡◌, ℕ, Bool, true, false, List, [], ◌∷◌, if◌then◌else◌, codes, refl, sym, ap, ◌∙◌, subst}
use Rattle.std.proofs.lemmas.Slice.Eq.{bytes_eq-Decides}
use Rattle.jsgen_syntax.specs.Name.{is_free_name}
use Rattle.jsgen_tree.specs.Atom.{kind_of_import}
use Rattle.jsgen_tree.specs.Inside.{reference_named, binding_named}
use Rattle.jsgen_tree.specs.Job.{Tables}
use Rattle.jsgen_tree.specs.Named.{as_written, printed_name}
use Rattle.jsgen_tree.specs.Nodes as tree
use Rattle.jsgen_tree.specs.Places.{bare}
use Rattle.jsgen_tree.specs.Tree.{Tree, Maybe, Trees, no_trees, more, hole, type_of, MaybeTrees, no_list, listed, Atoms}
use Rattle.jsgen_tree.specs.Values.{identifier_name_name, import_specifier_import_kind, import_declaration_import_kind}
use Rattle.jsgen_model.specs.Punctuator.{star, comma, Brace}
use Rattle.jsgen_model.specs.Tokens.{Tokens, Word, Sign}
use Rattle.jsgen_model.specs.Items.{Items, nothing, ◌⊕◌, brackets, word, soft_space, hard_space}
use Rattle.jsgen_model.specs.Layout.{Pen, layout}
use Rattle.jsgen_model.specs.Grammar.{ReadsSpecifier, ReadsSpecifiers, ReadsNamedImports, ReadsImportClause, ReadsModuleItem, of_values, text_of, units_of}
use Rattle.jsgen_model.specs.Grammar as grammar
use Rattle.jsgen_model.specs.Normal.{normal, nothing_of, unnumbered, by_its_text}
use Rattle.jsgen_model.specs.Renamed.{renamed}
use Rattle.jsgen_place.specs.Place.{plainly, among_statements}
use Rattle.jsgen_model.specs.Spell.{spell, spell_more, spell_specifiers, spell_clause, spell_attributes, is_empty_list, unless_same, as_name, others_items}
use Rattle.jsgen_token_laws.proofs.Characters.{letters_spelled}
use Rattle.jsgen_token_laws.proofs.Steps.{hard_space_written, printed_as_written}
use Rattle.jsgen_row_laws.proofs.ModuleFamilies.{IsModuleName, IsString, IsWith, IsSpecifier, AreSpecifiers, AreNamed, AreImports, AreListed}
use Rattle.jsgen_row_laws.proofs.ModuleFamilies as family
use Rattle.jsgen_row_laws.proofs.Ends as ending
use Rattle.jsgen_row_laws.proofs.Stands.{StandsAt, SameTree, whole_line}
use Rattle.jsgen_row_laws.proofs.Adds.{star_sign, a_member, End, is_good_for, at_start, behind_operand, behind_token, Is, is, Within, within, ◌⨟◌, ◌&◌, Says, Adds, ◌⨾◌, read, laid, at_operand, keyword, comma_sign, spaced, before_space, before_soft, hard_spaced}
use Rattle.jsgen_row_laws.proofs.Parts.{Reads, gives_unended}
use Rattle.jsgen_row_laws.proofs.Rests.{Every}
use Rattle.jsgen_row_laws.proofs.CommaLists.{Listing, ReadsAll, list_in_braces}
use Rattle.jsgen_row_laws.proofs.BoundPatterns.{IsName, is_name, name_stretch}
use Rattle.jsgen_row_laws.proofs.ModuleNames.{Names, module_name, written_stretch, printed_alike, same_laid, alike_local, Source, source_stretch, only_kind}

-- ---- words

pub as_keyword : {names : Tables} {d : End} → Adds names d (Is (Word (codes "as"))) behind_token (word (codes "as"))
as_keyword = keyword (codes "as") (letters_spelled 97 (codes "s") refl)

-- ---- a name that is bound

abbrev pub IsBound : Tables → Atoms → Tokens → Type 0
IsBound names b = IsName (printed_name names (binding_named b))

abbrev pub local_tree : Tables → Atoms → Tree
local_tree names b = tree.binding_identifier (unnumbered (printed_name names (binding_named b)))

-- ---- one export by its name

-- what is imported has the text of the name that it is bound to
read_specifier : (names : Tables) (a b : Atoms) (t : Tree) → is_free_name (printed_name names (binding_named b)) ≡ true → by_its_text (normal (renamed names t)) ≡ text_of (units_of (printed_name names (binding_named b))) → {ts : Tokens} → IsBound names b ts → Reads names ReadsSpecifier (tree.import_specifier a t (tree.binding_identifier b)) ts
read_specifier names a b t f e (is_name o x) = record { reading = tree.import_specifier of_values (text_of (units_of (printed_name names (binding_named b)))) (local_tree names b); reads = grammar.a_specifier x f; same = let h = sym e in λ i. tree.import_specifier (bare (kind_of_import (only_kind (import_specifier_import_kind a) i) ∷ [])) (h i) (local_tree names b) }

read_specifier_as : (names : Tables) (a b : Atoms) (t : Tree) → is_free_name (printed_name names (binding_named b)) ≡ true → {ts : Tokens} → (Names names t ⨟ (Is (Word (codes "as")) ⨟ IsBound names b)) ts → Reads names ReadsSpecifier (tree.import_specifier a t (tree.binding_identifier b)) ts
read_specifier_as names a b t f (r & (is o & is_name q x)) = record { reading = tree.import_specifier of_values (text_of r.reading) (local_tree names b); reads = grammar.a_specifier_as _ o q refl r.reads x f; same = λ i. tree.import_specifier (bare (kind_of_import (only_kind (import_specifier_import_kind a) i) ∷ [])) (r.same i) (local_tree names b) }

specifier_stretch : {names : Tables} {d : End} {t : Tree} → IsSpecifier names t → Adds names d (Reads names ReadsSpecifier t) behind_operand (spell t plainly)
specifier_stretch {names} {d} (family.a_specifier {a = a} {t = t} v (family.a_local_name {a = b} f)) = by t v (printed_alike names t (tree.binding_identifier b)) refl
  where
    whole : Tree → Tree
    whole x = tree.import_specifier a x (tree.binding_identifier b)

    bound : Items
    bound = spell (tree.binding_identifier b) plainly

    long : Tree → Items
    long x = spell x plainly ⊕ (soft_space ⊕ (word (codes "as") ⊕ (soft_space ⊕ bound)))

    spelled_as : (x : Tree) → IsModuleName names x → Adds names d (Reads names ReadsSpecifier (whole x)) behind_operand (long x)
    spelled_as x w = read (λ ts r. read_specifier_as names a b x f r) (module_name w ⨾ spaced (as_keyword ⨾ spaced (at_operand (name_stretch b.span (binding_named b) f))))

    bound_alone : (x : Tree) → by_its_text (normal (renamed names x)) ≡ text_of (units_of (printed_name names (binding_named b))) → Adds names d (Reads names ReadsSpecifier (whole x)) behind_operand bound
    bound_alone x e = at_operand (read (λ ts r. read_specifier names a b x f e r) (name_stretch b.span (binding_named b) f))

    -- a name that is printed as the other
    named_alone : (x : Tree) (v : List ℕ) → v ≡ printed_name names (binding_named b) → by_its_text (normal (renamed names x)) ≡ text_of (units_of (printed_name names (binding_named b))) → {i : Items} → Adds names d (IsName v) behind_token i → Adds names d (Reads names ReadsSpecifier (whole x)) behind_operand i
    named_alone x v e h g = at_operand (read (λ ts r. read_specifier names a b x f h (subst (λ u. IsName u ts) e r)) g)

    -- behind what is imported its other name stands, unless it is the same
    laid_as : (x : Tree) (i others : Items) → ((p : Pen) → (layout i p).style.tables ≡ p.style.tables) → (o : Bool) → printed_alike names x (tree.binding_identifier b) ≡ o → (p : Pen) → p.style.tables ≡ names → layout (i ⊕ unless_same x (tree.binding_identifier b) others) p ≡ layout (i ⊕ (if o then nothing else others)) p
    laid_as x i others k o e p h = same_laid x (tree.binding_identifier b) others (layout i p) (k p ∙ h) ∙ ap (λ y. layout (if y then nothing else others) (layout i p)) e

    by : (x : Tree) → IsModuleName names x → (o : Bool) → printed_alike names x (tree.binding_identifier b) ≡ o → Adds names d (Reads names ReadsSpecifier (whole x)) behind_operand (spell (whole x) plainly)
    by x (family.a_written_name {a = c} h) true e =
        laid (spell x plainly) (spell (whole x) plainly) (laid_as x (spell x plainly) (as_name bound) (λ q. refl) true e)
        (named_alone x (identifier_name_name c) (sym (printed_as_written names (identifier_name_name c)) ∙ (bytes_eq-Decides (printed_name names (as_written (identifier_name_name c))) (printed_name names (binding_named b))).0 e) (alike_local {names = names} b (family.a_written_name {a = c} h) e) (written_stretch c.span (identifier_name_name c) h))
    by x (family.a_printed_name {a = c} h) true e =
        laid (spell x plainly) (spell (whole x) plainly) (laid_as x (spell x plainly) (as_name bound) (λ q. refl) true e)
        (named_alone x (printed_name names (reference_named c)) ((bytes_eq-Decides (printed_name names (reference_named c)) (printed_name names (binding_named b))).0 e) (alike_local {names = names} b (family.a_printed_name {a = c} h) e) (name_stretch c.span (reference_named c) h))
    by x (family.a_string_name {a = c} h) true e = laid bound (spell (whole x) plainly) (λ p k. ap (layout bound) (laid_as x nothing (spell x plainly ⊕ (soft_space ⊕ (word (codes "as") ⊕ soft_space))) (λ q. refl) true e p k)) (bound_alone x (alike_local {names = names} b (family.a_string_name {a = c} h) e))
    by x (family.a_written_name {a = c} h) false e = laid (long x) (spell (whole x) plainly) (laid_as x (spell x plainly) (as_name bound) (λ q. refl) false e) (spelled_as x (family.a_written_name {a = c} h))
    by x (family.a_printed_name {a = c} h) false e = laid (long x) (spell (whole x) plainly) (laid_as x (spell x plainly) (as_name bound) (λ q. refl) false e) (spelled_as x (family.a_printed_name {a = c} h))
    by x (family.a_string_name {a = c} h) false e = laid (long x) (spell (whole x) plainly) (λ p k. ap (layout bound) (laid_as x nothing (spell x plainly ⊕ (soft_space ⊕ (word (codes "as") ⊕ soft_space))) (λ q. refl) false e p k)) (spelled_as x (family.a_string_name {a = c} h))

-- ---- lists of them, and all exports by one name

specifiers_listing : Listing ReadsSpecifier ReadsSpecifiers
specifiers_listing = record { nothing_there = grammar.no_specifier; last = λ ts t r. grammar.last_specifier r; first = λ mark a b t us r s. grammar.first_specifier mark refl r s }

each_specifier : {names : Tables} {ts : Trees} → AreSpecifiers names ts → Every names ReadsSpecifier plainly ts
each_specifier family.no_specifier = tt
each_specifier (family.first_specifier v w) = (specifier_stretch v, each_specifier w)

read_in_braces : (names : Tables) (ts : Trees) {us : Tokens} → Within Brace (ReadsAll names ReadsSpecifiers ts) us → ReadsAll names ReadsNamedImports ts us
read_in_braces names ts (within o r) = record { reading = r.reading; reads = grammar.imports_in_braces r.reads; same = r.same }

read_namespace : (names : Tables) (a b : Atoms) → is_free_name (printed_name names (binding_named b)) ≡ true → {us : Tokens} → (Is (Sign star) ⨟ (Is (Word (codes "as")) ⨟ IsBound names b)) us → ReadsAll names ReadsNamedImports (more (tree.import_namespace_specifier a (tree.binding_identifier b)) no_trees) us
read_namespace names a b f (is o & (is q & is_name r x)) = record { reading = more (tree.import_namespace_specifier (nothing_of 0) (local_tree names b)) no_trees; reads = grammar.a_namespace x f; same = refl }

-- up to the space before `from`
abbrev named_items : Trees → Items
named_items no_trees = brackets Brace nothing ⊕ soft_space
named_items (more t ts) = others_items (type_of t) (spell t plainly) (spell t plainly ⊕ spell_more ts plainly)
named_items (hole ts) = nothing

named_stretch : {names : Tables} {d : End} {ts : Trees} → is_good_for d a_member ≡ true → AreNamed names ts → Adds names d (ReadsAll names ReadsNamedImports ts) behind_token (named_items ts)
named_stretch {names} m (family.some_specifiers family.no_specifier) = before_space (read (λ us r. read_in_braces names no_trees r) (list_in_braces ReadsSpecifier ReadsSpecifiers specifiers_listing plainly no_trees tt))
named_stretch {names} m (family.some_specifiers (family.first_specifier {t = t} {ts = ts} (family.a_specifier {a = a} v w) x)) = before_space (read (λ us r. read_in_braces names (more t ts) r) (list_in_braces ReadsSpecifier ReadsSpecifiers specifiers_listing plainly (more t ts) (each_specifier (family.first_specifier (family.a_specifier {a = a} v w) x))))
named_stretch {names} m (family.a_namespace {a = a} (family.a_local_name {a = b} f)) =
    before_soft hard_space hard_space_written (read (λ us r. read_namespace names a b f r) (star_sign m ⨾ spaced (as_keyword ⨾ hard_spaced (name_stretch b.span (binding_named b) f))))

-- ---- what stands before `from`

abbrev Clause : Tables → Trees → Tokens → Type 0
Clause names ts = ReadsAll names ReadsImportClause ts

read_named : (names : Tables) (ts : Trees) {us : Tokens} → ReadsAll names ReadsNamedImports ts us → Clause names ts us
read_named names ts r = record { reading = r.reading; reads = grammar.named_imports r.reads; same = r.same }

read_default : (names : Tables) (a b : Atoms) → is_free_name (printed_name names (binding_named b)) ≡ true → {us : Tokens} → IsBound names b us → Clause names (more (tree.import_default_specifier a (tree.binding_identifier b)) no_trees) us
read_default names a b f (is_name o x) = record { reading = more (tree.import_default_specifier (nothing_of 0) (local_tree names b)) no_trees; reads = grammar.a_default_import x f; same = refl }

read_default_and_others : (names : Tables) (a b : Atoms) (ts : Trees) → is_free_name (printed_name names (binding_named b)) ≡ true → {us : Tokens} → (IsBound names b ⨟ (Is (Sign comma) ⨟ ReadsAll names ReadsNamedImports ts)) us → Clause names (more (tree.import_default_specifier a (tree.binding_identifier b)) ts) us
read_default_and_others names a b ts f (is_name o x & (is q & r)) = record { reading = more (tree.import_default_specifier (nothing_of 0) (local_tree names b)) r.reading; reads = grammar.a_default_and_others x f r.reads; same = let e = r.same in λ i. more (tree.import_default_specifier (nothing_of 0) (local_tree names b)) (e i) }

clause_stretch : {names : Tables} {ts : Trees} → AreImports names ts → Adds names behind_token (Clause names ts) behind_token (spell_clause ts)
clause_stretch {names} {ts} (family.without_default (family.some_specifiers family.no_specifier)) = spaced (read (λ us r. read_named names no_trees r) (named_stretch refl (family.some_specifiers family.no_specifier)))
clause_stretch {names} {ts} (family.without_default (family.some_specifiers (family.first_specifier (family.a_specifier {a = a} v w) x))) = spaced (read (λ us r. read_named names ts r) (named_stretch refl (family.some_specifiers (family.first_specifier (family.a_specifier {a = a} v w) x))))
clause_stretch {names} {ts} (family.without_default (family.a_namespace {a = a} v)) = spaced (read (λ us r. read_named names ts r) (named_stretch refl (family.a_namespace {a = a} v)))
clause_stretch {names} (family.behind_default {a = a} (family.a_local_name {a = b} f) (family.some_specifiers family.no_specifier)) = hard_spaced (before_soft hard_space hard_space_written (read (λ us r. read_default names a b f r) (name_stretch b.span (binding_named b) f)))
clause_stretch {names} (family.behind_default {a = a} (family.a_local_name {a = b} f) (family.some_specifiers (family.first_specifier {t = t} {ts = ts} (family.a_specifier {a = c} v w) x))) =
    hard_spaced (read (λ us r. read_default_and_others names a b (more t ts) f r) (name_stretch b.span (binding_named b) f ⨾ (comma_sign ⨾ spaced (named_stretch refl (family.some_specifiers (family.first_specifier (family.a_specifier {a = c} v w) x))))))
clause_stretch {names} (family.behind_default {a = a} (family.a_local_name {a = b} f) (family.a_namespace {a = c} {t = t} v)) =
    hard_spaced (read (λ us r. read_default_and_others names a b (more (tree.import_namespace_specifier c t) no_trees) f r) (name_stretch b.span (binding_named b) f ⨾ (comma_sign ⨾ spaced (named_stretch refl (family.a_namespace {a = c} v)))))

-- ---- the whole

-- an item of a module, printed among others
abbrev pub ModuleListed : Tables → Tree → Type 0
ModuleListed names t = StandsAt names ReadsModuleItem (SameTree names t) (spell t among_statements)

-- one that is printed up to its end
abbrev pub ItemUpTo : Tables → Tree → Tokens → Type 0
ItemUpTo names t = Says (λ ts x. ending.Ends (λ last us. ReadsModuleItem last us x) true ts) (SameTree names t)

read_import_alone : (names : Tables) (a : Atoms) (t : Tree) (clause : Maybe) {ts : Tokens} → (Is (Word (codes "import")) ⨟ Source names t clause) ts → ItemUpTo names (tree.import_declaration a no_list t clause) ts
read_import_alone names a t clause (is o & r) = record {
  reading = tree.import_declaration of_values no_list r.reading.0 r.reading.1;
  reads = record { read = λ last ts h. grammar.an_import h (grammar.an_import_alone r.reads) };
  same = λ i. tree.import_declaration (bare (kind_of_import (only_kind (import_declaration_import_kind a) i) ∷ [])) no_list (r.same.0 i) (r.same.1 i);
}

read_import : (names : Tables) (a : Atoms) (us : Trees) (t : Tree) (clause : Maybe) {ts : Tokens} → (Is (Word (codes "import")) ⨟ (Clause names us ⨟ (Is (Word (codes "from")) ⨟ Source names t clause))) ts → ItemUpTo names (tree.import_declaration a (listed us) t clause) ts
read_import names a us t clause (is o & (s & (is q & r))) = record {
  reading = tree.import_declaration of_values (listed s.reading) r.reading.0 r.reading.1;
  reads = record { read = λ last ts h. grammar.an_import h (grammar.an_import_of q refl s.reads r.reads) };
  same = let e = s.same in λ i. tree.import_declaration (bare (kind_of_import (only_kind (import_declaration_import_kind a) i) ∷ [])) (listed (e i)) (r.same.0 i) (r.same.1 i);
}

pub from_keyword : {names : Tables} {d : End} → Adds names d (Is (Word (codes "from"))) behind_token (word (codes "from"))
from_keyword = keyword (codes "from") (letters_spelled 102 (codes "rom") refl)

import_keyword : {names : Tables} {d : End} → Adds names d (Is (Word (codes "import"))) behind_token (word (codes "import"))
import_keyword = keyword (codes "import") (letters_spelled 105 (codes "mport") refl)

abbrev import_row : MaybeTrees → Tree → Maybe → Items
import_row m t clause = word (codes "import") ⊕ (spell_specifiers m ⊕ (spell t plainly ⊕ spell_attributes (is_empty_list m) clause))

import_stretch : {names : Tables} {m : MaybeTrees} {t : Tree} {clause : Maybe} (a : Atoms) → AreListed names m → IsString t → IsWith clause → Adds names at_start (ItemUpTo names (tree.import_declaration a m t clause)) behind_operand (import_row m t clause)
import_stretch {names} {m} {t} {clause} a family.not_listed w x = read (λ ts r. read_import_alone names a t clause r) (import_keyword ⨾ spaced (source_stretch false w x))
import_stretch {names} {m} {t} {clause} a (family.imports_listed {ts = us} v) w x =
    read (λ ts r. read_import names a us t clause r) (laid (word (codes "import") ⊕ (spell_clause us ⊕ (word (codes "from") ⊕ (soft_space ⊕ (spell t plainly ⊕ spell_attributes (is_empty_list (listed us)) clause))))) (import_row (listed us) t clause) (λ p e. refl)
    (import_keyword ⨾ (clause_stretch v ⨾ (from_keyword ⨾ spaced (source_stretch (is_empty_list (listed us)) w x)))))

pub good_import : {names : Tables} {m : MaybeTrees} {t : Tree} {clause : Maybe} (a : Atoms) → AreListed names m → IsString t → IsWith clause → ModuleListed names (tree.import_declaration a m t clause)
good_import {m = m} {t} {clause} a v w x = whole_line (import_row m t clause) (gives_unended {R = ReadsModuleItem} (import_row m t clause) refl (import_stretch a v w x))
