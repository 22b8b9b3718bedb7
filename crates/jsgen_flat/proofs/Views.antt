-- No value of a flat job holds a float, and the name of a row's type stands under `type`.
use Rattle.std.proofs.Common.{codes, Some, ◌≡◌, ℕ, zero, suc, ◌+◌, ◌-◌, ◌==◌, map, List, Bool, true, false, refl, ap, ◌∙◌, if◌then◌else◌}
use Rattle.serde_json.specs.Data.{null, number, string, unsigned}
use Rattle.serde_json.specs.Find.{get}
use Rattle.serde_json.specs.View.{items_of}
use Rattle.serde_json.specs.Written.{has_float, items_have_float}
use Rattle.jsgen_flat.specs.Flat.{word, span_data, words_from, child_item, unit_item}
use Rattle.jsgen_flat.specs.Views.{flat_data, flat_row_data, sections}
use Rattle.jsgen_flat.specs.Names.{type_name}
use Rattle.jsgen_flat.specs.declared.rows.FlatRow.{FlatRow}
use Rattle.jsgen_flat.proofs.Lookup.{named, or_else}
use Rattle.jsgen_flat.proofs.FieldNames.{no_field_type, no_field_span}
use Rattle.jsgen_flat.specs.declared.values.FlatValue.{FlatValue}
use Rattle.jsgen_flat.specs.declared.values.FlatValue.TheVariants as values

whole_or_null : (b : Bool) (n : ℕ) → has_float (if b then null else number (unsigned n)) ≡ false
whole_or_null true n = refl
whole_or_null false n = refl

child_whole : (n : ℕ) → has_float (child_item n) ≡ false
child_whole n = whole_or_null (n == 0) (n - 1)

children_whole : (s : List ℕ) (n count : ℕ) → items_have_float (items_of (map child_item (words_from s n count))) ≡ false
children_whole s n zero = refl
children_whole s n (suc count) = rw (child_whole _) (children_whole s (suc n) count)

units_whole : (s : List ℕ) (n count : ℕ) → items_have_float (items_of (map unit_item (words_from s n count))) ≡ false
units_whole s n zero = refl
units_whole s n (suc count) = units_whole s (suc n) count

items_whole : (b : Bool) (s : List ℕ) (n count : ℕ) → items_have_float (items_of (map (if b then child_item else unit_item) (words_from s n count))) ≡ false
items_whole true s n count = children_whole s n count
items_whole false s n count = units_whole s n count

pub no_float : (v : FlatValue) → has_float (flat_data v) ≡ false
no_float values.Null = refl
no_float (values.Flag b) = refl
no_float (values.Number n) = refl
no_float (values.Text s) = refl
no_float (values.Items items) = items_whole items.are_rows items.words.now (items.begin + 1) items.count

-- what stands beside the fields
pub typed : (r : FlatRow) → get (codes "type") (flat_row_data r) ≡ Some (string (type_name r.node_type))
typed r = named (sections r.job.now) r.node_type r.begin (codes "type") ∙ ap (λ o. or_else o (Some (string (type_name r.node_type)))) (no_field_type (sections r.job.now) (r.begin + 3) r.node_type)

pub spanned : (r : FlatRow) → get (codes "span") (flat_row_data r) ≡ Some (span_data (word r.job.now.rows.now (r.begin + 1)) (word r.job.now.rows.now (r.begin + 2)))
spanned r = named (sections r.job.now) r.node_type r.begin (codes "span") ∙ ap (λ o. or_else o (Some (span_data (word r.job.now.rows.now (r.begin + 1)) (word r.job.now.rows.now (r.begin + 2))))) (no_field_span (sections r.job.now) (r.begin + 3) r.node_type)
