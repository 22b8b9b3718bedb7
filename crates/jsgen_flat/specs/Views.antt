-- What the values of this crate stand for.
use Rattle.std.specs.Prelude.{ℕ, suc, ◌+◌, List, [], ◌∷◌, map, Option, Some, None, if◌then◌else◌}
use Rattle.std.specs.Str.{bytes_eq}
use Rattle.serde_json.specs.Data.{Data, null, boolean, number, string, array, unsigned}
use Rattle.serde_json.specs.View.{items_of}
use Rattle.jsgen_flat.specs.Flat.{Sections, Shape, Shaped, child, list, text, units, digits, number_shape, flag, word_shape, unread, word, word_data, words_from, child_item, unit_item, row_data}
use Rattle.jsgen_flat.specs.declared.FlatJob.{FlatJob}
use Rattle.jsgen_flat.specs.declared.names.FlatSort.{FlatSort}
use Rattle.jsgen_flat.specs.declared.names.FlatSort.TheVariants as flats
use Rattle.jsgen_flat.specs.declared.names.FlatField.{FlatField}
use Rattle.jsgen_flat.specs.declared.values.FlatItems.{FlatItems}
use Rattle.jsgen_flat.specs.declared.values.FlatValue.{FlatValue}
use Rattle.jsgen_flat.specs.declared.values.FlatValue.TheVariants as values
use Rattle.jsgen_flat.specs.declared.rows.FlatRow.{FlatRow}

abbrev pub sections : FlatJob → Sections
sections job = record { row_count = job.row_count; rows = job.rows.now; lists = job.lists.now; texts = job.texts.now; heap = job.heap.now; head = job.head.now }

abbrev pub shape_of : FlatSort → Shape
shape_of flats.Child = child
shape_of flats.List = list
shape_of flats.Text = text
shape_of flats.Units = units
shape_of flats.Digits = digits
shape_of flats.Number = number_shape
shape_of flats.Flag = flag
shape_of (flats.Word words) = word_shape (map (λ w. w.now) words.now)
shape_of flats.Unread = unread

abbrev pub field_plain : FlatField → Shaped
field_plain field = record { name = field.name.now; shape = shape_of field.sort }

-- the items of a list: children, or whole numbers
abbrev pub flat_items : FlatItems → List Data
flat_items items = map (if items.are_rows then child_item else unit_item) (words_from items.words.now (items.begin + 1) items.count)

abbrev pub flat_data : FlatValue → Data
flat_data values.Null = null
flat_data (values.Flag b) = boolean b
flat_data (values.Number n) = number (unsigned n)
flat_data (values.Text s) = string s.now
flat_data (values.Items items) = array (items_of (flat_items items))

abbrev pub flat_row_data : FlatRow → Data
flat_row_data row = row_data (sections row.job.now) row.node_type row.begin

-- what the first of these fields that has the name is given, where the first of them stands at word n
abbrev pub given_by : Sections → List ℕ → ℕ → List Shaped → Option Data
given_by p name n [] = None
given_by p name n (f ∷ fs) = if bytes_eq name f.name then Some (word_data p f.shape (word p.rows n)) else given_by p name (suc n) fs

-- what a field is given that stands at word n, if it is there and has the name
abbrev pub given_at : Sections → List ℕ → ℕ → Option Shaped → Option Data
given_at p name n None = None
given_at p name n (Some f) = if bytes_eq name f.name then Some (word_data p f.shape (word p.rows n)) else None
