-- Exports: of names, of declarations, of another module's exports, and of a default.
use Rattle.std.proofs.Common.{◌≡◌, Bool, true, false, not, ◌||◌, ◌&&◌, [], ◌∷◌, if◌then◌else◌, bytes_eq, codes, refl, sym, ap, ◌∙◌, subst}
use Rattle.std.specs.Option.{option_map_or}
use Rattle.std.proofs.lemmas.Bool.{or_parts, not-true}
use Rattle.jsgen_syntax.specs.declared.precedence.Precedence.TheVariants as levels
use Rattle.jsgen_syntax.specs.Name.{is_free_name}
use Rattle.jsgen_tree.specs.Atom.{kind_of_import}
use Rattle.jsgen_tree.specs.Inside.{reference_named}
use Rattle.jsgen_tree.specs.Job.{Tables}
use Rattle.jsgen_tree.specs.Named.{printed_name}
use Rattle.jsgen_tree.specs.Nodes as tree
use Rattle.jsgen_tree.specs.Places.{bare}
use Rattle.jsgen_tree.specs.Tree.{Tree, Maybe, absent, given, Trees, Atoms, span_of}
use Rattle.jsgen_tree.specs.Values.{export_specifier_export_kind, export_named_declaration_export_kind, export_from_declaration_export_kind, export_all_declaration_export_kind, variable_declaration_kind}
use Rattle.jsgen_model.specs.Punctuator.{star, Brace}
use Rattle.jsgen_model.specs.Tokens.{Tokens, done, piece, Word, Sign}
use Rattle.jsgen_model.specs.Items.{Items, nothing, ◌⊕◌, comments, then_space, word, punctuator, soft_space, hard_space, soft_line, indentation, drop_semicolon, default_export_begins}
use Rattle.jsgen_model.specs.Layout.{Pen, layout}
use Rattle.jsgen_model.specs.Grammar.{Allowed, ReadsParameters, in_parameters, in_body, ReadsExpression, ReadsVariables, ReadsFunction, ReadsExported, ReadsAllExported, ReadsDeclared, ReadsDefault, ReadsExport, ReadsModuleItem, in_module, of_values, text_of, is_reference_alone, may_be_exported, starts_function_or_class, starts_in_square}
use Rattle.jsgen_model.specs.Grammar as grammar
use Rattle.jsgen_model.specs.Normal.{normal, nothing_of, by_its_text}
use Rattle.jsgen_model.specs.Renamed.{renamed}
use Rattle.jsgen_place.specs.Place.{plainly, in_brackets, within_statement}
use Rattle.jsgen_place.specs.declared.place.Place.{Place}
use Rattle.jsgen_model.specs.Spell.{spell, spell_list, spell_exported, spell_attributes, spaced_braces, unless_same, as_name, is_declared, default_items}
use Rattle.jsgen_token_laws.proofs.Characters.{letters_spelled}
use Rattle.jsgen_token_laws.proofs.Last.{line_of}
use Rattle.jsgen_token_laws.proofs.Writes.{wrote_none, wrote_both, wrote_and_none, then_done}
use Rattle.jsgen_token_laws.proofs.Steps.{soft_line_written}
use Rattle.jsgen_row_laws.proofs.Levels.{under}
use Rattle.jsgen_row_laws.proofs.ModuleFamilies.{IsModuleName, IsString, IsWith, AreExported, IsNamespace}
use Rattle.jsgen_row_laws.proofs.ModuleFamilies as family
use Rattle.jsgen_row_laws.proofs.Good.{Printed, no_declaration}
use Rattle.jsgen_row_laws.proofs.Ends as ending
use Rattle.jsgen_row_laws.proofs.Stands.{StandsAt, SameTree, indented_line, whole_line}
use Rattle.jsgen_row_laws.proofs.Blocks.{dropped}
use Rattle.jsgen_row_laws.proofs.Functions.{FromWordAt}
use Rattle.jsgen_row_laws.proofs.Declarations.{VariablesAt, declaration_items}
use Rattle.jsgen_row_laws.proofs.Adds.{star_sign, a_start, End, is_good_for, at_start, behind_operand, behind_token, Is, is, Within, within, ◌⨟◌, ◌&◌, Adds, ◌⨾◌, read, laid, at_operand, keyword, spaced, hard_spaced}
use Rattle.jsgen_row_laws.proofs.Parts.{Reads, start_ends, operand_ends, gives_unended}
use Rattle.jsgen_row_laws.proofs.Rests.{Every}
use Rattle.jsgen_row_laws.proofs.CommaLists.{Listing, ReadsAll, list_in_braces}
use Rattle.jsgen_row_laws.proofs.BoundPatterns.{IsName, is_name, name_stretch}
use Rattle.jsgen_row_laws.proofs.ModuleNames.{Names, module_name, printed_alike, same_laid, alike_names, Source, source_stretch, only_kind}
use Rattle.jsgen_row_laws.proofs.Imports.{ModuleListed, ItemUpTo, as_keyword, from_keyword}

-- ---- one name

-- what may be exported: of another module each name, and of this one a reference
record Exportable (names : Tables) (source : Bool) (t : Tree) (ts : Tokens) : Type 0 where
  holds : Names names t ts
  allowed : (source || is_reference_alone ts) ≡ true

-- a free name is a reference
alone : (names : Tables) (b : Atoms) → is_free_name (printed_name names (reference_named b)) ≡ true → {ts : Tokens} → IsName (printed_name names (reference_named b)) ts → Exportable names false (tree.identifier_reference b) ts
alone names b f (is_name o x) = record { holds = record { reading = _; reads = grammar.a_word_name x; same = refl }; allowed = ap (λ v. option_map_or is_free_name v false) x ∙ f }

from_there : (names : Tables) (t : Tree) {ts : Tokens} → Names names t ts → Exportable names true t ts
from_there names t r = record { holds = r; allowed = refl }

read_exported : (names : Tables) (source : Bool) (a : Atoms) (t u : Tree) → by_its_text (normal (renamed names t)) ≡ by_its_text (normal (renamed names u)) → {ts : Tokens} → Exportable names source t ts → Reads names (ReadsExported source) (tree.export_specifier a t u) ts
read_exported names source a t u e r = record { reading = tree.export_specifier of_values (text_of r.holds.reading) (text_of r.holds.reading); reads = grammar.an_exported_name r.holds.reads r.allowed; same = let h = r.holds.same in let k = h ∙ e in λ i. tree.export_specifier (bare (kind_of_import (only_kind (export_specifier_export_kind a) i) ∷ [])) (h i) (k i) }

read_exported_as : (names : Tables) (source : Bool) (a : Atoms) (t u : Tree) {ts : Tokens} → (Exportable names source t ⨟ (Is (Word (codes "as")) ⨟ Names names u)) ts → Reads names (ReadsExported source) (tree.export_specifier a t u) ts
read_exported_as names source a t u (r & (is o & s)) = record { reading = tree.export_specifier of_values (text_of r.holds.reading) (text_of s.reading); reads = grammar.an_exported_name_as o refl r.holds.reads r.allowed s.reads; same = let h = r.holds.same in let k = s.same in λ i. tree.export_specifier (bare (kind_of_import (only_kind (export_specifier_export_kind a) i) ∷ [])) (h i) (k i) }

-- a name keeps the tables
tables_kept : {names : Tables} {t : Tree} → IsModuleName names t → (p : Pen) → (layout (spell t plainly) p).style.tables ≡ p.style.tables
tables_kept (family.a_written_name h) p = refl
tables_kept (family.a_printed_name h) p = refl
tables_kept (family.a_string_name h) p = refl

exported_stretch : {names : Tables} {d : End} {u : Tree} (source : Bool) (a : Atoms) (t : Tree) → IsModuleName names t → IsModuleName names u → Adds names d (Exportable names source t) behind_operand (spell t plainly) → Adds names d (Reads names (ReadsExported source) (tree.export_specifier a t u)) behind_operand (spell (tree.export_specifier a t u) plainly)
exported_stretch {names} {d} {u} source a t v w f = by (printed_alike names t u) refl
  where
    others : Items
    others = as_name (comments then_space (span_of u).start ⊕ spell u plainly)

    laid_as : (o : Bool) → printed_alike names t u ≡ o → (p : Pen) → p.style.tables ≡ names → layout (spell t plainly ⊕ unless_same t u others) p ≡ layout (spell t plainly ⊕ (if o then nothing else others)) p
    laid_as o e p h = same_laid t u others (layout (spell t plainly) p) (tables_kept v p ∙ h) ∙ ap (λ y. layout (if y then nothing else others) (layout (spell t plainly) p)) e

    by : (o : Bool) → printed_alike names t u ≡ o → Adds names d (Reads names (ReadsExported source) (tree.export_specifier a t u)) behind_operand (spell (tree.export_specifier a t u) plainly)
    by true e = laid (spell t plainly) (spell (tree.export_specifier a t u) plainly) (laid_as true e) (read (λ ts r. read_exported names source a t u (alike_names v w e) r) f)
    by false e = laid (spell t plainly ⊕ (soft_space ⊕ (word (codes "as") ⊕ (soft_space ⊕ spell u plainly)))) (spell (tree.export_specifier a t u) plainly) (laid_as false e) (read (λ ts r. read_exported_as names source a t u r) (f ⨾ spaced (as_keyword ⨾ spaced (module_name w))))

-- ---- names in braces

each_exported : {names : Tables} {source : Bool} {ts : Trees} → AreExported names source ts → Every names (ReadsExported source) plainly ts
each_exported family.none_exported = tt
each_exported {names} (family.first_exported (family.exported_from_here {a = a} {b = b} f v) w) = (exported_stretch false a (tree.identifier_reference b) (family.a_printed_name f) v (at_operand (read (λ ts r. alone names b f r) (name_stretch b.span (reference_named b) f))), each_exported w)
each_exported {names} (family.first_exported (family.exported_from_there {a = a} {t = t} v x) w) = (exported_stretch true a t v x (read (λ ts r. from_there names t r) (module_name v)), each_exported w)

exported_listing : (source : Bool) → Listing (ReadsExported source) (ReadsAllExported source)
exported_listing source = record { nothing_there = grammar.none_exported; last = λ ts t r. grammar.last_exported r; first = λ mark a b t us r s. grammar.first_exported mark refl r s }

abbrev AllExported : Tables → Bool → Trees → Tokens → Type 0
AllExported names source ts = Within Brace (ReadsAll names (ReadsAllExported source) ts)

exported_in_braces : {names : Tables} {d : End} {source : Bool} {ts : Trees} → AreExported names source ts → Adds names d (AllExported names source ts) behind_token (spaced_braces ts (spell_list ts plainly))
exported_in_braces {source = source} {ts} v = list_in_braces (ReadsExported source) (ReadsAllExported source) (exported_listing source) plainly ts (each_exported v)

export_keyword : {names : Tables} {d : End} → Adds names d (Is (Word (codes "export"))) behind_token (word (codes "export"))
export_keyword = keyword (codes "export") (letters_spelled 101 (codes "xport") refl)

-- what stands behind the word, with its end
exported_ends : {left : Bool} {a : Tokens} {t : Tree} (o : Bool) → ending.Ends (λ last us. ReadsExport last us t) left a → ending.Ends (λ last us. ReadsModuleItem last us t) left (piece o (Word (codes "export")) a)
exported_ends o e = ending.ends_behind (piece o (Word (codes "export")) done) (λ last ts r. grammar.an_export r) e

read_exported_names : (names : Tables) (a : Atoms) (us : Trees) {ts : Tokens} → (Is (Word (codes "export")) ⨟ AllExported names false us) ts → ItemUpTo names (tree.export_named_declaration a us) ts
read_exported_names names a us (is o & within q r) = record {
  reading = tree.export_named_declaration of_values r.reading;
  reads = exported_ends o (record { read = λ last ts h. grammar.exported_names h r.reads });
  same = let e = r.same in λ i. tree.export_named_declaration (bare (kind_of_import (only_kind (export_named_declaration_export_kind a) i) ∷ [])) (e i);
}

abbrev names_row : Trees → Items
names_row us = word (codes "export") ⊕ (soft_space ⊕ spaced_braces us (spell_list us plainly))

pub good_exported_names : {names : Tables} {us : Trees} (a : Atoms) → AreExported names false us → ModuleListed names (tree.export_named_declaration a us)
good_exported_names {names} {us} a v = whole_line (names_row us) (gives_unended {R = ReadsModuleItem} (names_row us) refl (read (λ ts r. read_exported_names names a us r) (export_keyword ⨾ spaced (exported_in_braces v))))

-- ---- exports of another module

read_exported_from : (names : Tables) (a : Atoms) (us : Trees) (t : Tree) (clause : Maybe) {ts : Tokens} → (Is (Word (codes "export")) ⨟ (AllExported names true us ⨟ (Is (Word (codes "from")) ⨟ Source names t clause))) ts → ItemUpTo names (tree.export_from_declaration a us t clause) ts
read_exported_from names a us t clause (is o & (within q r & (is x & s))) = record {
  reading = tree.export_from_declaration of_values r.reading s.reading.0 s.reading.1;
  reads = exported_ends o (record { read = λ last ts h. grammar.exported_names_from h r.reads s.reads });
  same = let e = r.same in λ i. tree.export_from_declaration (bare (kind_of_import (only_kind (export_from_declaration_export_kind a) i) ∷ [])) (e i) (s.same.0 i) (s.same.1 i);
}

abbrev from_row : Trees → Tree → Maybe → Items
from_row us t clause = word (codes "export") ⊕ (soft_space ⊕ (spaced_braces us (spell_list us plainly) ⊕ (soft_space ⊕ (word (codes "from") ⊕ (soft_space ⊕ (spell t plainly ⊕ spell_attributes false clause))))))

pub good_exported_from : {names : Tables} {us : Trees} {t : Tree} {clause : Maybe} (a : Atoms) → AreExported names true us → IsString t → IsWith clause → ModuleListed names (tree.export_from_declaration a us t clause)
good_exported_from {names} {us} {t} {clause} a v w x = whole_line (from_row us t clause) (gives_unended {R = ReadsModuleItem} (from_row us t clause) refl (read (λ ts r. read_exported_from names a us t clause r) (export_keyword ⨾ spaced (exported_in_braces v ⨾ spaced (from_keyword ⨾ spaced (source_stretch false w x))))))

read_all_exported : (names : Tables) (a : Atoms) (t : Tree) (clause : Maybe) {ts : Tokens} → (Is (Word (codes "export")) ⨟ (Is (Sign star) ⨟ (Is (Word (codes "from")) ⨟ Source names t clause))) ts → ItemUpTo names (tree.export_all_declaration a absent t clause) ts
read_all_exported names a t clause (is o & (is q & (is x & s))) = record {
  reading = tree.export_all_declaration of_values absent s.reading.0 s.reading.1;
  reads = exported_ends o (record { read = λ last ts h. grammar.all_exported h s.reads });
  same = λ i. tree.export_all_declaration (bare (kind_of_import (only_kind (export_all_declaration_export_kind a) i) ∷ [])) absent (s.same.0 i) (s.same.1 i);
}

read_all_exported_as : (names : Tables) (a : Atoms) (u t : Tree) (clause : Maybe) {ts : Tokens} → (Is (Word (codes "export")) ⨟ (Is (Sign star) ⨟ (Is (Word (codes "as")) ⨟ (Names names u ⨟ (Is (Word (codes "from")) ⨟ Source names t clause))))) ts → ItemUpTo names (tree.export_all_declaration a (given u) t clause) ts
read_all_exported_as names a u t clause (is o & (is q & (is w & (r & (is x & s))))) = record {
  reading = tree.export_all_declaration of_values (given (text_of r.reading)) s.reading.0 s.reading.1;
  reads = exported_ends o (record { read = λ last ts h. grammar.all_exported_as q w x h refl r.reads s.reads });
  same = let e = r.same in λ i. tree.export_all_declaration (bare (kind_of_import (only_kind (export_all_declaration_export_kind a) i) ∷ [])) (given (e i)) (s.same.0 i) (s.same.1 i);
}

abbrev all_row : Maybe → Tree → Maybe → Items
all_row m t clause = word (codes "export") ⊕ (soft_space ⊕ (punctuator star ⊕ (spell_exported m ⊕ (word (codes "from") ⊕ (soft_space ⊕ (spell t plainly ⊕ spell_attributes true clause))))))

all_stretch : {names : Tables} {m : Maybe} {t : Tree} {clause : Maybe} (a : Atoms) → IsNamespace names m → IsString t → IsWith clause → Adds names at_start (ItemUpTo names (tree.export_all_declaration a m t clause)) behind_operand (all_row m t clause)
all_stretch {names} {m} {t} {clause} a family.no_namespace w x = read (λ ts r. read_all_exported names a t clause r) (export_keyword ⨾ spaced (star_sign refl ⨾ spaced (from_keyword ⨾ spaced (source_stretch true w x))))
all_stretch {names} {m} {t} {clause} a (family.a_namespace_name {t = u} v) w x =
    read (λ ts r. read_all_exported_as names a u t clause r) (laid (word (codes "export") ⊕ (soft_space ⊕ (punctuator star ⊕ (soft_space ⊕ (word (codes "as") ⊕ (soft_space ⊕ (spell u plainly ⊕ (hard_space ⊕ (word (codes "from") ⊕ (soft_space ⊕ (spell t plainly ⊕ spell_attributes true clause))))))))))) (all_row (given u) t clause) (λ p e. refl)
    (export_keyword ⨾ spaced (star_sign refl ⨾ spaced (as_keyword ⨾ spaced (module_name v ⨾ hard_spaced (from_keyword ⨾ spaced (source_stretch true w x)))))))

pub good_all_exported : {names : Tables} {m : Maybe} {t : Tree} {clause : Maybe} (a : Atoms) → IsNamespace names m → IsString t → IsWith clause → ModuleListed names (tree.export_all_declaration a m t clause)
good_all_exported {m = m} {t} {clause} a v w x = whole_line (all_row m t clause) (gives_unended {R = ReadsModuleItem} (all_row m t clause) refl (all_stretch a v w x))

-- ---- declarations

variables_stretch : {names : Tables} {d : End} (c : Allowed) (a : Atoms) (ds : Trees) (place : Place) → VariablesAt names c place a ds → Adds names d (Reads names (ReadsVariables (under place c) (variable_declaration_kind a)) (tree.variable_declaration a ds)) behind_operand (declaration_items a ds place)
variables_stretch c a ds place f = record { from = λ p l z y k. let g = f p l z k in record { last = g.last; tokens = g.tokens; writes = g.writes; ends = operand_ends g.last g.operand; semicolon = g.semicolon; holds = record { reading = g.tree; reads = g.reads; same = g.same } } }

read_exported_variables : (names : Tables) (a b : Atoms) (ds : Trees) {ts : Tokens} → (Is (Word (codes "export")) ⨟ Reads names (ReadsVariables in_module (variable_declaration_kind b)) (tree.variable_declaration b ds)) ts → ItemUpTo names (tree.export_declaration a (tree.variable_declaration b ds)) ts
read_exported_variables names a b ds (is o & r) = record {
  reading = tree.export_declaration (nothing_of 0) r.reading;
  reads = exported_ends o (record { read = λ last ts h. grammar.an_exported_declaration (grammar.declared_variables (variable_declaration_kind b) h r.reads) });
  same = let e = r.same in λ i. tree.export_declaration (nothing_of 0) (e i);
}

abbrev variables_row : Atoms → Trees → Items
variables_row b ds = word (codes "export") ⊕ (hard_space ⊕ declaration_items b ds within_statement)

pub good_exported_variables : {names : Tables} (a b : Atoms) (ds : Trees) → VariablesAt names in_module within_statement b ds → ModuleListed names (tree.export_declaration a (tree.variable_declaration b ds))
good_exported_variables {names} a b ds f = whole_line (variables_row b ds) (gives_unended {R = ReadsModuleItem} (variables_row b ds) refl (read (λ ts r. read_exported_variables names a b ds r) (export_keyword ⨾ hard_spaced (variables_stretch in_module b ds within_statement f))))

-- a function or a class that is declared, which needs no end
abbrev pub ReadsAlone : (Bool → Tokens → Tree → Type 0) → Tokens → Tree → Type 0
ReadsAlone R ts t = (last : Bool) → R last ts t

abbrev pub DeclaredAs : Tables → (Bool → Tokens → Tree → Type 0) → Tree → Type 0
DeclaredAs names R t = Adds names behind_token (Reads names (ReadsAlone R) t) behind_token (spell t within_statement)

-- before a line end, and before one where no semicolon is left
abbrev AloneTo : Tables → Tree → Tokens → Type 0
AloneTo names t = Reads names (ReadsAlone ReadsModuleItem) t

gives_line : {names : Tables} (items : Items) (t : Tree) → Adds names at_start (AloneTo names t) behind_token items → StandsAt names ReadsModuleItem (SameTree names t) (items ⊕ soft_line)
gives_line items t f p l z y k =
    let x = f.from p l z (start_ends l y) k in
    let n = soft_line_written (layout items p) x.last x.writes.knows in
    record { last = n.last; tokens = x.tokens; writes = wrote_and_none x.writes n.writes; ready = n.ready (x.ends a_start refl); reading = x.holds.reading; reads = ending.ends_itself (n.semicolon ∙ x.semicolon) x.holds.reads; same = x.holds.same }

gives_dropped : {names : Tables} (items : Items) (t : Tree) → Adds names at_start (AloneTo names t) behind_token items → StandsAt names ReadsModuleItem (SameTree names t) (items ⊕ (soft_line ⊕ drop_semicolon))
gives_dropped items t f p l z y k =
    let x = f.from p l z (start_ends l y) k in
    let n = soft_line_written (layout items p) x.last x.writes.knows in
    record { last = n.last; tokens = x.tokens; writes = dropped (wrote_and_none x.writes n.writes); ready = n.ready (x.ends a_start refl); reading = x.holds.reading; reads = ending.ends_itself refl x.holds.reads; same = x.holds.same }

read_exported_alone : (names : Tables) (a : Atoms) (t : Tree) {ts : Tokens} → (Is (Word (codes "export")) ⨟ Reads names (ReadsAlone ReadsDeclared) t) ts → AloneTo names (tree.export_declaration a t) ts
read_exported_alone names a t (is o & r) = record { reading = tree.export_declaration (nothing_of 0) r.reading; reads = λ last. grammar.an_export (grammar.an_exported_declaration (r.reads last)); same = let e = r.same in λ i. tree.export_declaration (nothing_of 0) (e i) }

exported_alone : {names : Tables} (a : Atoms) (t : Tree) → DeclaredAs names ReadsDeclared t → StandsAt names ReadsModuleItem (SameTree names (tree.export_declaration a t)) (indentation ⊕ ((word (codes "export") ⊕ (hard_space ⊕ spell t within_statement)) ⊕ (soft_line ⊕ drop_semicolon)))
exported_alone {names} a t f =
    let items : Items = word (codes "export") ⊕ (hard_space ⊕ spell t within_statement) in
    indented_line (items ⊕ (soft_line ⊕ drop_semicolon)) (gives_dropped items (tree.export_declaration a t) (read (λ ts r. read_exported_alone names a t r) (export_keyword ⨾ hard_spaced f)))

pub good_exported_class : {names : Tables} (a b : Atoms) (id heritage : Maybe) (body : Tree) → DeclaredAs names ReadsDeclared (tree.class b id heritage body) → ModuleListed names (tree.export_declaration a (tree.class b id heritage body))
good_exported_class a b id heritage body f = exported_alone a (tree.class b id heritage body) f

pub good_exported_function : {names : Tables} (a b : Atoms) (id body : Maybe) (ps : Tree) → DeclaredAs names ReadsDeclared (tree.function b id ps body) → ModuleListed names (tree.export_declaration a (tree.function b id ps body))
good_exported_function a b id body ps f = exported_alone a (tree.function b id ps body) f

-- ---- defaults

default_keyword : {names : Tables} {d : End} → Adds names d (Is (Word (codes "default"))) behind_token (word (codes "default"))
default_keyword = keyword (codes "default") (letters_spelled 100 (codes "efault") refl)

-- an expression that begins with neither a function nor a class
record BegunSo (names : Tables) (t : Tree) (ts : Tokens) : Type 0 where
  holds : Reads names (ReadsExpression in_module grammar.Assignment) t ts
  begins : may_be_exported ts ≡ true

-- what begins no declaration may be exported
may_export : (ts : Tokens) → no_declaration ts ≡ true → may_be_exported ts ≡ true
may_export (piece mark (Word w) ts) h = ap not (or_parts (starts_function_or_class w ts) (bytes_eq w (codes "let") && starts_in_square ts) (not-true _ h)).0
may_export ts h = refl

begun_stretch : {names : Tables} {d : End} (t : Tree) → is_good_for d a_start ≡ true → Printed names in_module t → Adds names d (BegunSo names t) behind_operand (default_export_begins ⊕ spell t (in_brackets levels.Comma))
begun_stretch t h f = record {
  from = λ p l z y k.
      let p1 : Pen = layout default_export_begins p in
      let w = wrote_none p p1 l refl (record { indent = k.indent; tables = k.tables; ending = k.ending }) in
      let g = f (in_brackets levels.Comma) p1 l z (y a_start h) w.knows in
      record {
        last = g.last;
        tokens = g.tokens;
        writes = wrote_both w g.writes;
        ends = operand_ends g.last g.operand;
        semicolon = g.semicolon;
        holds = record { holds = record { reading = g.tree; reads = g.reads; same = g.same }; begins = may_export g.tokens (subst (λ ts. no_declaration ts ≡ true) (then_done g.tokens) (g.begins done refl)) };
      };
}

read_default_expression : (names : Tables) (a : Atoms) (t : Tree) {ts : Tokens} → (Is (Word (codes "export")) ⨟ (Is (Word (codes "default")) ⨟ BegunSo names t)) ts → ItemUpTo names (tree.export_default_declaration a t) ts
read_default_expression names a t (is o & (is q & r)) = record {
  reading = tree.export_default_declaration (nothing_of 0) r.holds.reading;
  reads = exported_ends o (ending.ends_behind (piece q (Word (codes "default")) done) (λ last ts s. grammar.a_default_export s) (record { read = λ last ts h. grammar.a_default_expression h r.begins r.holds.reads }));
  same = let e = r.holds.same in λ i. tree.export_default_declaration (nothing_of 0) (e i);
}

abbrev default_row : Items → Items
default_row items = word (codes "export") ⊕ (hard_space ⊕ (word (codes "default") ⊕ (soft_space ⊕ items)))

-- by whether it is declared
abbrev default_line : Tree → Bool → Items
default_line t declared = indentation ⊕ default_row (default_items declared (spell t within_statement) (spell t (in_brackets levels.Comma)))

pub good_default_expression : {names : Tables} (a : Atoms) (t : Tree) → is_declared t ≡ false → Printed names in_module t → ModuleListed names (tree.export_default_declaration a t)
good_default_expression {names} a t e f =
    let items : Items = default_row (default_export_begins ⊕ spell t (in_brackets levels.Comma)) in
    subst (λ o. StandsAt names ReadsModuleItem (SameTree names (tree.export_default_declaration a t)) (default_line t o)) (sym e)
    (whole_line items (gives_unended {R = ReadsModuleItem} items refl (read (λ ts r. read_default_expression names a t r) (export_keyword ⨾ hard_spaced (default_keyword ⨾ spaced (begun_stretch t refl f))))))

read_default : (names : Tables) (a : Atoms) (t : Tree) {ts : Tokens} → (Is (Word (codes "export")) ⨟ (Is (Word (codes "default")) ⨟ Reads names (ReadsAlone ReadsDefault) t)) ts → AloneTo names (tree.export_default_declaration a t) ts
read_default names a t (is o & (is q & r)) = record { reading = tree.export_default_declaration (nothing_of 0) r.reading; reads = λ last. grammar.an_export (grammar.a_default_export (r.reads last)); same = let e = r.same in λ i. tree.export_default_declaration (nothing_of 0) (e i) }

-- a function or a class that is declared
pub good_default_declaration : {names : Tables} (a : Atoms) (t : Tree) → is_declared t ≡ true → DeclaredAs names ReadsDefault t → ModuleListed names (tree.export_default_declaration a t)
good_default_declaration {names} a t e f =
    let items : Items = default_row (spell t within_statement) in
    subst (λ o. StandsAt names ReadsModuleItem (SameTree names (tree.export_default_declaration a t)) (default_line t o)) (sym e)
    (indented_line (items ⊕ soft_line) (gives_line items (tree.export_default_declaration a t) (read (λ ts r. read_default names a t r) (export_keyword ⨾ hard_spaced (default_keyword ⨾ spaced f)))))

-- ---- functions and classes that are declared

-- it is read as what is declared is
pub declared_stretch : {names : Tables} {Read : Tokens → Tree → Type 0} {t : Tree} (R : Bool → Tokens → Tree → Type 0) → ((last : Bool) (ts : Tokens) (x : Tree) → Read ts x → R last ts x) → FromWordAt names Read t (spell t within_statement) → DeclaredAs names R t
declared_stretch R r f = record {
  from = λ p l z y k.
      let x = f p l z k in
      record { last = x.last; tokens = piece (line_of l) (Word x.word) x.others; writes = x.writes; ends = x.ends; semicolon = x.semicolon; holds = record { reading = x.tree; reads = λ last. r last (piece (line_of l) (Word x.word) x.others) x.tree x.reads; same = x.same } };
}
