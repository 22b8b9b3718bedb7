-- Specifiers of imports and exports, one after another.
use Rattle.std.proofs.Common.{◌≡◌, ℕ, ◌+◌, ◌<◌, ◌≤◌, Bool, true, false, not, List, ◌∷◌, ◌++◌, map, drop, length, Result, Ok, Err, refl, sym, ap, ◌∙◌}
use Rattle.std.proofs.Math.ListN.{get_or}
use Rattle.std.proofs.lemmas.List.{at_drop_all, at_drop_more}
use Rattle.jsgen_tree.specs.Tree.{trees, type_of, span_of}
use Rattle.jsgen_tree.specs.Rows.{export_specifier_row, in_import_declaration_specifier, in_module_export_name}
use Rattle.jsgen_tree.specs.declared.modules.ExportSpecifier.{ExportSpecifier}
use Rattle.jsgen_tree.specs.declared.sets.ImportDeclarationSpecifier.{ImportDeclarationSpecifier}
use Rattle.jsgen_tree.specs.declared.sets.ImportDeclarationSpecifier.TheVariants as specifiers
use Rattle.jsgen_tree.specs.Spans.{import_declaration_specifier_span}
use Rattle.jsgen_syntax.specs.declared.span.Span.{Span}
use Rattle.jsgen_model.specs.Valid.{fault_if, misplaced_faults, is_named_import, export_faults, fits_source}
use Rattle.jsgen_model.specs.declared.fault.TreeFault.{TreeFault}
use Rattle.jsgen_model.specs.declared.fault.TreeFault.TheVariants as faults
use Rattle.jsgen_rules.specs.Verdict.{verdict}

-- the faults of a list, one member's before those behind it
module _ {A : Type 0} (all : List A → List TreeFault) (fails : A → Bool) (place : A → Span) (both : (x : A) (xs : List A) → all (x ∷ xs) ≡ fault_if (fails x) (faults.Place (place x).start) ++ all xs) (xs : List A) where
  first_left : (i : ℕ) (x : A) → i < length xs → x ≡ get_or xs i x → all (drop i xs) ≡ fault_if (fails x) (faults.Place (place x).start) ++ all (drop (i + 1) xs)
  first_left i x inside is = at_drop_more all xs i x inside ∙ (ap (λ y. all (y ∷ drop (i + 1) xs)) (sym is) ∙ both x (drop (i + 1) xs))

  pub next : (i : ℕ) (x : A) → i < length xs → x ≡ get_or xs i x → fails x ≡ false → all (drop i xs) ≡ all xs → all (drop (i + 1) xs) ≡ all xs
  next i x inside is e so_far = sym (ap (λ b. fault_if b (faults.Place (place x).start) ++ all (drop (i + 1) xs)) e) ∙ (sym (first_left i x inside is) ∙ so_far)

  pub broken_there : (i : ℕ) (x : A) → i < length xs → x ≡ get_or xs i x → fails x ≡ true → all (drop i xs) ≡ all xs → Err (faults.Place (place x).start) ≡ verdict (all xs)
  unfolding verdict
  broken_there i x inside is e so_far = ap verdict (sym (ap (λ b. fault_if b (faults.Place (place x).start) ++ all (drop (i + 1) xs)) e) ∙ (sym (first_left i x inside is) ∙ so_far))

abbrev pub all_named : List ImportDeclarationSpecifier → List TreeFault
all_named xs = misplaced_faults is_named_import (trees (map in_import_declaration_specifier xs))

abbrev pub is_unnamed : ImportDeclarationSpecifier → Bool
is_unnamed x = not (is_named_import (type_of (in_import_declaration_specifier x)))

abbrev pub specifier_span : ImportDeclarationSpecifier → Span
specifier_span x = span_of (in_import_declaration_specifier x)

pub named_both : (x : ImportDeclarationSpecifier) (xs : List ImportDeclarationSpecifier) → all_named (x ∷ xs) ≡ fault_if (is_unnamed x) (faults.Place (specifier_span x).start) ++ all_named xs
named_both x xs = refl

pub named_end : (xs : List ImportDeclarationSpecifier) (i : ℕ) → length xs ≤ i → all_named (drop i xs) ≡ all_named xs → Ok tt ≡ verdict (all_named xs)
unfolding verdict
named_end xs i outside so_far = ap verdict (sym (at_drop_all all_named xs i outside) ∙ so_far)

-- its span is that of its row
pub own_span : (x : ImportDeclarationSpecifier) → import_declaration_specifier_span x ≡ span_of (in_import_declaration_specifier x)
own_span (specifiers.ImportDefaultSpecifier b) = refl
own_span (specifiers.ImportNamespaceSpecifier b) = refl
own_span (specifiers.ImportSpecifier b) = refl

-- nothing fits
pub first_surplus : (x : ImportDeclarationSpecifier) (xs : List ImportDeclarationSpecifier) → Err (faults.Place (import_declaration_specifier_span x).start) ≡ verdict (misplaced_faults (λ type. false) (trees (map in_import_declaration_specifier (x ∷ xs))))
unfolding verdict
first_surplus x xs = ap (λ (s : Span). Err (faults.Place s.start)) (own_span x)

abbrev pub all_fit : Bool → List ExportSpecifier → List TreeFault
all_fit has_source xs = export_faults has_source (trees (map export_specifier_row xs))

abbrev pub misfits : Bool → ExportSpecifier → Bool
misfits has_source x = not (fits_source has_source (type_of (in_module_export_name x.local)))

abbrev pub export_span : ExportSpecifier → Span
export_span x = x.span

pub fit_both : (has_source : Bool) (x : ExportSpecifier) (xs : List ExportSpecifier) → all_fit has_source (x ∷ xs) ≡ fault_if (misfits has_source x) (faults.Place (export_span x).start) ++ all_fit has_source xs
fit_both has_source x xs = refl

pub fit_end : (has_source : Bool) (xs : List ExportSpecifier) (i : ℕ) → length xs ≤ i → all_fit has_source (drop i xs) ≡ all_fit has_source xs → Ok tt ≡ verdict (all_fit has_source xs)
unfolding verdict
fit_end has_source xs i outside so_far = ap verdict (sym (at_drop_all (all_fit has_source) xs i outside) ∙ so_far)
