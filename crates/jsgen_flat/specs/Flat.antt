-- A flat job (docs/FORMAT.md, "Flat jobs"): numbers and texts in one buffer, of which each row stands for a value of JSON.
use Rattle.std.specs.Prelude.{ℕ, zero, suc, ◌+◌, ◌-◌, ◌*◌, ◌/◌, ◌%◌, ◌==◌, ◌&&◌, ◌||◌, nat_lt, nat_le, List, [], ◌∷◌, map, length, slice_get, slice_index, slice_range, codes, Bool, true, false, Option, Some, None, option_map, option_and_then, if◌then◌else◌}
use Rattle.std.specs.Int.{w32, from_le_bytes}
use Rattle.std.specs.Str.{is_utf8}
use Rattle.serde_json.specs.Data.{Data, null, boolean, number, string, array, object, unsigned, Members, no_members, member}
use Rattle.serde_json.specs.View.{items_of}
use Rattle.jsgen_tree.specs.declared.types.NodeType.{NodeType}
use Rattle.jsgen_tree.specs.Table.{Field, Sort}
use Rattle.jsgen_tree.specs.Table as sorts
use Rattle.jsgen_tree.specs.Table.{Word}
use Rattle.jsgen_tree.specs.Fields.{fields}
use Rattle.jsgen_flat.specs.Names.{type_name, node_types, table_number}

-- ---- words: whole numbers of 32 bits, least byte first

-- word n of a section; there are zeros behind the last
abbrev pub word : List ℕ → ℕ → ℕ
word s n = if nat_lt n (length s / 4) then from_le_bytes w32 (slice_index s (4 * n) ∷ slice_index s (4 * n + 1) ∷ slice_index s (4 * n + 2) ∷ slice_index s (4 * n + 3) ∷ []) else 0

-- so many words of a section, from word n on
abbrev pub words_from : List ℕ → ℕ → ℕ → List ℕ
words_from s n zero = []
words_from s n (suc count) = word s n ∷ words_from s (suc n) count

-- ---- the sections

pub record Sections : Type 0 where
  pub row_count : ℕ
  pub rows : List ℕ
  pub lists : List ℕ
  pub texts : List ℕ
  pub heap : List ℕ
  pub head : List ℕ

-- The bytes begin as a flat job does. They needn't be one.
abbrev pub begins_flat : List ℕ → Bool
begins_flat bytes = word bytes 0 == from_le_bytes w32 (codes "JSGF")

-- where each section ends, by the words of the head
abbrev pub rows_end : List ℕ → ℕ
rows_end bytes = 32 + 4 * word bytes 3

abbrev pub lists_end : List ℕ → ℕ
lists_end bytes = rows_end bytes + 4 * word bytes 4

abbrev pub texts_end : List ℕ → ℕ
texts_end bytes = lists_end bytes + 8 * word bytes 5

abbrev pub heap_end : List ℕ → ℕ
heap_end bytes = texts_end bytes + word bytes 6

abbrev pub head_end : List ℕ → ℕ
head_end bytes = heap_end bytes + word bytes 7

-- exactly as long as the head says, and written by this table of types
abbrev pub is_whole : List ℕ → Bool
is_whole bytes = nat_le 32 (length bytes) && (word bytes 1 == table_number && length bytes == head_end bytes)

abbrev pub sections_in : List ℕ → Sections
sections_in bytes = record {
  row_count = word bytes 2;
  rows = slice_range bytes 32 (rows_end bytes);
  lists = slice_range bytes (rows_end bytes) (lists_end bytes);
  texts = slice_range bytes (lists_end bytes) (texts_end bytes);
  heap = slice_range bytes (texts_end bytes) (heap_end bytes);
  head = slice_range bytes (heap_end bytes) (head_end bytes);
}

-- the sections of a flat job; none where the bytes are no flat job
unfoldable pub flat_of : List ℕ → Option Sections
flat_of bytes = if is_whole bytes && is_utf8 (slice_range bytes (texts_end bytes) (heap_end bytes)) then Some (sections_in bytes) else None

-- ---- texts and lists

-- a character begins here, or the text ends
abbrev pub is_boundary : List ℕ → ℕ → Bool
is_boundary text i = i == length text || (nat_lt i (length text) && (nat_lt (slice_index text i) 128 || nat_le 192 (slice_index text i)))

-- whole characters of a text, so many bytes from a byte on
unfoldable pub cut : List ℕ → ℕ → ℕ → Option (List ℕ)
cut text start count = if is_boundary text start && is_boundary text (start + count) then Some (slice_range text start (start + count)) else None

-- text k: its start in the heap, and how many bytes it has
abbrev pub text_at : Sections → ℕ → Option (List ℕ)
text_at p k = if nat_lt k (length p.texts / 8) then cut p.heap (word p.texts (2 * k)) (word p.texts (2 * k + 1)) else None

-- how many items the list has that begins at word n, if they are all there
unfoldable pub count_at : Sections → ℕ → Option ℕ
count_at p n = if nat_lt n (length p.lists / 4) && nat_le (n + 1 + word p.lists n) (length p.lists / 4) then Some (word p.lists n) else None

-- the list that begins at word n: its items stand behind their count
abbrev pub list_at : Sections → ℕ → Option (List ℕ)
list_at p n = option_map (words_from p.lists (n + 1)) (count_at p n)

-- ---- what a word of a row stands for, by the sort of its field

pub data Shape : Type 0 where
  child : Shape
  list : Shape
  text : Shape
  units : Shape
  digits : Shape
  number_shape : Shape
  flag : Shape
  word_shape : List (List ℕ) → Shape
  unread : Shape

abbrev pub sort_shape : Sort → Shape
sort_shape sorts.text = text
sort_shape sorts.units = units
sort_shape sorts.digits = digits
sort_shape sorts.number = number_shape
sort_shape sorts.flag = flag
sort_shape sorts.unset_flag = flag
sort_shape (sorts.word ws) = word_shape (map (λ w. w.spelling) ws)
sort_shape (sorts.passed_over s) = sort_shape s
sort_shape (sorts.child s) = child
sort_shape (sorts.children s) = list
sort_shape (sorts.children_or_holes s) = list
sort_shape (sorts.maybe_children s) = list
sort_shape sorts.unread_child = unread

-- a field, by its name and how its word is read
pub record Shaped : Type 0 where
  pub name : List ℕ
  pub shape : Shape

abbrev pub shaped : Field → Shaped
shaped f = record { name = f.name; shape = if f.is_read then sort_shape f.sort else unread }

-- an item of a list of children: a row, or null
abbrev pub child_item : ℕ → Data
child_item n = if n == 0 then null else number (unsigned (n - 1))

abbrev pub unit_item : ℕ → Data
unit_item n = number (unsigned n)

-- What can't be stands for a value of the wrong kind: false where a text is wanted, and a text elsewhere.
abbrev pub text_data : Option (List ℕ) → Data
text_data None = boolean false
text_data (Some s) = string s

abbrev pub digits_data : Option (List ℕ) → Data
digits_data None = string []
digits_data (Some s) = string s

abbrev pub list_data : Option (List ℕ) → Data
list_data None = string []
list_data (Some ns) = array (items_of (map child_item ns))

abbrev pub units_data : Option (List ℕ) → Data
units_data None = boolean false
units_data (Some ns) = array (items_of (map unit_item ns))

-- the words from 1 on
abbrev pub given_data : Sections → Shape → ℕ → Data
given_data p child w = number (unsigned (w - 1))
given_data p list w = list_data (list_at p (w - 1))
given_data p text w = text_data (text_at p (w - 1))
given_data p units w = if w % 2 == 0 then text_data (text_at p (w / 2 - 1)) else units_data (list_at p (w / 2))
given_data p digits w = if w % 2 == 0 then digits_data (text_at p (w / 2 - 1)) else number (unsigned (w / 2))
given_data p number_shape w = number (unsigned (w - 1))
given_data p flag w = if w == 1 then boolean false else if w == 2 then boolean true else string []
given_data p (word_shape ws) w = text_data (slice_get ws (w - 1))
given_data p unread w = string []

-- 0 says that the field is absent
abbrev pub word_data : Sections → Shape → ℕ → Data
word_data p s w = if w == 0 then null else given_data p s w

-- ---- rows

-- the members of a row for its fields, the first of which stands at word n; and behind them others
abbrev pub members_from : Sections → ℕ → List Shaped → Members → Members
members_from p n [] others = others
members_from p n (f ∷ fs) others = member f.name (word_data p f.shape (word p.rows n)) (members_from p (suc n) fs others)

-- the span, 0 and 0 where there is none
abbrev pub span_data : ℕ → ℕ → Data
span_data start end = if start == 0 && end == 0 then null else array (items_of (unit_item start ∷ unit_item end ∷ []))

-- a row of this type that begins at word n: the type, the span, and a word for each field
unfoldable pub row_data : Sections → NodeType → ℕ → Data
row_data p type n = object (members_from p (n + 3) (map shaped (fields type))
    (member (codes "type") (string (type_name type)) (member (codes "span") (span_data (word p.rows (n + 1)) (word p.rows (n + 2))) no_members)))

abbrev pub width : NodeType → ℕ
width type = 3 + length (fields type)

abbrev pub if_it_fits : Sections → ℕ → NodeType → Option NodeType
if_it_fits p n type = if nat_le (n + width type) (length p.rows / 4) then Some type else None

-- the type of the row that begins at word n, if all its words are there
unfoldable pub row_type : Sections → ℕ → Option NodeType
row_type p n = option_and_then (if_it_fits p n) (slice_get node_types (word p.rows n))

-- behind a row that is none, which is null, no row is read
abbrev pub or_null : Option NodeType → (NodeType → List Data) → List Data
or_null None rows = null ∷ []
or_null (Some type) rows = rows type

-- so many rows, the first of which begins at word n, one behind the other
abbrev pub rows_from : Sections → ℕ → ℕ → List Data
rows_from p zero n = []
rows_from p (suc count) n = or_null (row_type p n) (λ type. row_data p type n ∷ rows_from p count (n + width type))

-- the rows of a flat job
abbrev pub rows_of : Sections → List Data
rows_of p = rows_from p p.row_count 0
