-- The rows of imports and exports: what each is spelled by is settled where what is in it is.
use Rattle.std.proofs.Common.{◌≡◌, ℕ, Bool, true, false, refl, sym, ap, ◌∙◌}
use Rattle.std.specs.Prelude.{⊤}
use Rattle.jsgen_syntax.specs.declared.precedence.Precedence.TheVariants.{Comma}
use Rattle.jsgen_tree.specs.declared.types.NodeType.TheVariants as types
use Rattle.jsgen_tree.specs.Tree.{Tree, Atoms, Maybe, absent, given, Trees, no_trees, more, hole, MaybeTrees, no_list, listed, type_of}
use Rattle.jsgen_tree.specs.Nodes as tree
use Rattle.jsgen_place.specs.Place.{in_brackets, within_statement, plainly}
use Rattle.jsgen_model.specs.Items.{◌⊕◌, comments, then_space}
use Rattle.jsgen_model.specs.Resolved.{resolved, resolved_maybe, resolved_trees, resolved_maybe_trees, after, after_maybe, after_trees, after_maybe_trees}
use Rattle.jsgen_model.specs.Spellings.{others_items, clause_items, is_empty_list, export_word, exported_end, is_declared, is_pure_declaration, default_items}
use Rattle.jsgen_model.specs.Spell.{spell, spell_more, spell_specifiers, spell_clause, spell_behind_default, spell_attributes, spell_exported}
use Rattle.jsgen_private_laws.proofs.Same.{type_same}
use Rattle.jsgen_private_laws.proofs.SpelledQuestions.{is_empty_list_same, is_declared_same, is_pure_declaration_same}
use Rattle.jsgen_private_laws.proofs.Settled.{Scope}
use Rattle.jsgen_private_laws.proofs.Settles.{Settles, plain, both, before, behind, becomes, counts}
use Rattle.jsgen_private_laws.proofs.SettledParts.{attribute_key_settles, unless_same_settles, others_settle, clause_settles, spaced_braces_settle, space_by_still, exported_end_still, default_settles, import_settles}
use Rattle.jsgen_private_laws.proofs.StatementTies.{from}
use Rattle.jsgen_private_laws.proofs.Ties.{Tie, TieIfGiven, TieEach, by_span, by_type, list_settles, more_settle}

-- ---- what an import takes

-- behind the name of all exports nothing is imported that has a class in it
abbrev pub AllEnds : Trees → Type 0
AllEnds no_trees = ⊤
AllEnds (more t ts) = (type_of t ≡ types.ImportNamespaceSpecifier → (n : ℕ) → after_trees ts n ≡ n) × AllEnds ts
AllEnds (hole ts) = AllEnds ts

abbrev pub AllEndsIfListed : MaybeTrees → Type 0
AllEndsIfListed no_list = ⊤
AllEndsIfListed (listed ts) = AllEnds ts

abbrev pub TieEachIfListed : MaybeTrees → Type 0
TieEachIfListed no_list = ⊤
TieEachIfListed (listed ts) = TieEach ts

others_tie : (t : Tree) (ts : Trees) → (type_of t ≡ types.ImportNamespaceSpecifier → (n : ℕ) → after_trees ts n ≡ n) → Tie t → TieEach ts → (s : Scope) (n : ℕ) → Settles s n (others_items (type_of t) (spell t plainly) (spell t plainly ⊕ spell_more ts plainly)) (others_items (type_of (resolved s.tables s.classes n t)) (spell (resolved s.tables s.classes n t) plainly) (spell (resolved s.tables s.classes n t) plainly ⊕ spell_more (resolved_trees s.tables s.classes (after t n) ts) plainly)) (after_trees ts (after t n))
others_tie t ts h e f s n =
    let m : ℕ = after t n in
    let t1 : Tree = resolved s.tables s.classes n t in
    let ts1 : Trees = resolved_trees s.tables s.classes m ts in
    let type = sym (type_same s.tables s.classes n t) in
    becomes (others_settle (type_of t) (λ x. counts (e s n plainly) (sym (h x m))) (both (e s n plainly) (more_settle ts f s m plainly))) (λ i. others_items (type i) (spell t1 plainly) (spell t1 plainly ⊕ spell_more ts1 plainly))

behind_default_settles : (ts : Trees) → AllEnds ts → TieEach ts → (s : Scope) (n : ℕ) → Settles s n (spell_behind_default ts) (spell_behind_default (resolved_trees s.tables s.classes n ts)) (after_trees ts n)
behind_default_settles no_trees h e s n = plain refl
behind_default_settles (more t ts) h e s n = before refl (before refl (others_tie t ts h.0 e.0 e.1 s n))
behind_default_settles (hole ts) h e s n = behind_default_settles ts h e s n

import_clause_settles : (ts : Trees) → AllEnds ts → TieEach ts → (s : Scope) (n : ℕ) → Settles s n (spell_clause ts) (spell_clause (resolved_trees s.tables s.classes n ts)) (after_trees ts n)
import_clause_settles no_trees h e s n = plain refl
import_clause_settles (more t ts) h e s n =
    let m : ℕ = after t n in
    let t1 : Tree = resolved s.tables s.classes n t in
    let ts1 : Trees = resolved_trees s.tables s.classes m ts in
    let type = sym (type_same s.tables s.classes n t) in
    becomes (clause_settles (type_of t) (e.0 s n plainly) (behind_default_settles ts h.1 e.1 s m) (others_tie t ts h.0 e.0 e.1 s n)) (λ i. clause_items (type i) (spell t1 plainly) (spell_behind_default ts1) (others_items (type_of t1) (spell t1 plainly) (spell t1 plainly ⊕ spell_more ts1 plainly)))
import_clause_settles (hole ts) h e s n = import_clause_settles ts h e s n

specifiers_settle : (ts : MaybeTrees) → AllEndsIfListed ts → TieEachIfListed ts → (s : Scope) (n : ℕ) → Settles s n (spell_specifiers ts) (spell_specifiers (resolved_maybe_trees s.tables s.classes n ts)) (after_maybe_trees ts n)
specifiers_settle no_list h e s n = plain refl
specifiers_settle (listed ts) h e s n = behind (import_clause_settles ts h e s n) refl

attributes_settle : (test : Bool) (m : Maybe) → TieIfGiven m → (s : Scope) (n : ℕ) → Settles s n (spell_attributes test m) (spell_attributes test (resolved_maybe s.tables s.classes n m)) (after_maybe m n)
attributes_settle test absent e s n = plain refl
attributes_settle test (given t) e s n = before (space_by_still test) (e s n plainly)

exported_settles : (m : Maybe) → TieIfGiven m → (s : Scope) (n : ℕ) → Settles s n (spell_exported m) (spell_exported (resolved_maybe s.tables s.classes n m)) (after_maybe m n)
exported_settles absent e s n = plain refl
exported_settles (given t) e s n = before refl (before refl (before refl (behind (e s n plainly) refl)))

-- ---- imports

pub import_declaration_tie : (a : Atoms) (ts : MaybeTrees) (source : Tree) (m : Maybe) → AllEndsIfListed ts → TieEachIfListed ts → Tie source → TieIfGiven m → Tie (tree.import_declaration a ts source m)
import_declaration_tie a ts source m h e f g s n place =
    let k : ℕ = after_maybe_trees ts n in
    let l : ℕ = after source k in
    let m1 : Maybe = resolved_maybe s.tables s.classes l m in
    let empty = sym (is_empty_list_same s.tables s.classes n ts) in
    let attributes = becomes (attributes_settle (is_empty_list ts) m g s l) (λ i. spell_attributes (empty i) m1) in
    before refl (both (specifiers_settle ts h e s n) (both (f s k plainly) (behind attributes refl)))

pub import_default_tie : (a : Atoms) (t : Tree) → Tie t → Tie (tree.import_default_specifier a t)
import_default_tie a t e s n place = e s n plainly

pub import_namespace_tie : (a : Atoms) (t : Tree) → Tie t → Tie (tree.import_namespace_specifier a t)
import_namespace_tie a t e s n place = before refl (before refl (before refl (before refl (e s n plainly))))

-- neither name has a class in it
pub import_specifier_tie : (a : Atoms) (t local : Tree) → ((n : ℕ) → after t n ≡ n) → ((n : ℕ) → after local n ≡ n) → Tie t → Tie local → Tie (tree.import_specifier a t local)
import_specifier_tie a t local h g e f s n place = import_settles t local (h n) (g (after t n) ∙ h n) (counts (e s n plainly) (h n)) (from (h n) (f s (after t n) plainly))

pub with_clause_tie : (a : Atoms) (ts : Trees) → TieEach ts → Tie (tree.with_clause a ts)
with_clause_tie a ts e s n place = before refl (before refl (before refl (before refl (spaced_braces_settle ts (list_settles ts e s n plainly)))))

pub import_attribute_tie : (a : Atoms) (key value : Tree) → Tie key → Tie value → Tie (tree.import_attribute a key value)
import_attribute_tie a key value e f s n place = both (attribute_key_settles key (e s n plainly)) (before refl (before refl (f s (after key n) plainly)))

-- ---- exports

-- what begins the export of a declaration
export_word_settles : (a : Atoms) (t : Tree) (s : Scope) (n : ℕ) → Settles s n (export_word (is_pure_declaration t) a.span) (export_word (is_pure_declaration (resolved s.tables s.classes n t)) a.span) n
export_word_settles a t s n = becomes (plain refl) (ap (λ b. export_word b a.span) (sym (is_pure_declaration_same s.tables s.classes n t)))

pub export_declaration_tie : (a : Atoms) (t : Tree) → Tie t → Tie (tree.export_declaration a t)
export_declaration_tie a t e s n place = both (export_word_settles a t s n) (before refl (both (e s n within_statement) (by_type n exported_end t (exported_end_still (type_of t)))))

pub export_named_tie : (a : Atoms) (ts : Trees) → TieEach ts → Tie (tree.export_named_declaration a ts)
export_named_tie a ts e s n place = before refl (before refl (behind (spaced_braces_settle ts (list_settles ts e s n plainly)) refl))

pub export_from_tie : (a : Atoms) (ts : Trees) (source : Tree) (m : Maybe) → TieEach ts → Tie source → TieIfGiven m → Tie (tree.export_from_declaration a ts source m)
export_from_tie a ts source m e f g s n place =
    let k : ℕ = after_trees ts n in
    let last = both (f s k plainly) (behind (attributes_settle false m g s (after source k)) refl) in
    before refl (before refl (both (spaced_braces_settle ts (list_settles ts e s n plainly)) (before refl (before refl (before refl last)))))

-- the name that an export has elsewhere has no class in it
pub export_specifier_tie : (a : Atoms) (local exported : Tree) → ((n : ℕ) → after exported n ≡ n) → Tie local → Tie exported → Tie (tree.export_specifier a local exported)
export_specifier_tie a local exported h e f s n place =
    let m : ℕ = after local n in
    let bound = both (by_span m (λ span. comments then_space span.start) exported refl) (f s m plainly) in
    both (by_span n (λ span. comments then_space span.start) local refl) (both (e s n plainly) (unless_same_settles n m local exported (h m) (before refl (before refl (before refl bound)))))

pub export_all_tie : (a : Atoms) (m : Maybe) (source : Tree) (w : Maybe) → TieIfGiven m → Tie source → TieIfGiven w → Tie (tree.export_all_declaration a m source w)
export_all_tie a m source w e f g s n place =
    let k : ℕ = after_maybe m n in
    let last = both (f s k plainly) (behind (attributes_settle true w g s (after source k)) refl) in
    before refl (before refl (before refl (both (exported_settles m e s n) (before refl (before refl last)))))

pub export_default_tie : (a : Atoms) (t : Tree) → Tie t → Tie (tree.export_default_declaration a t)
export_default_tie a t e s n place =
    let t1 : Tree = resolved s.tables s.classes n t in
    let declared = sym (is_declared_same s.tables s.classes n t) in
    let last = becomes (default_settles (is_declared t) (e s n within_statement) (e s n (in_brackets Comma))) (λ i. default_items (declared i) (spell t1 within_statement) (spell t1 (in_brackets Comma))) in
    both (export_word_settles a t s n) (before refl (before refl (before refl last)))
