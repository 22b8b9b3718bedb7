-- What stands in a field of a job by itself: JSON (RFC 8259), in the fields that docs/FORMAT.md lists.
use Rattle.std.specs.Prelude.{◌≡◌, ℕ, ◌^◌, ◌==◌, ◌&&◌, List, [], ◌∷◌, length, filter, flat_map, Bool, true, false, not, nat_lt, codes, Option, Some, None, option_map, option_and_then, unwrap_or, Result, Ok, Err, if◌then◌else◌, ⊤}
use Rattle.std.specs.Char.Escape.{encode_utf16}
use Rattle.std.specs.Str.{bytes_eq, chars, all_ascii_digits}
use Rattle.std.specs.Str.Parse.{digits_value}
use Rattle.serde_json.specs.Data.{Data, null, Items, no_items, item, Members, no_members, member}
use Rattle.serde_json.specs.Find.{get, as_bool, as_str, as_array, as_number, as_object, as_u64}
use Rattle.serde_json.specs.Written.{has_float}
use Rattle.jsgen_syntax.specs.declared.buffer.IndentChar.{IndentChar}
use Rattle.jsgen_syntax.specs.declared.buffer.IndentChar.TheVariants.{Tab, Space}
use Rattle.jsgen_syntax.specs.declared.span.Span.{Span}
use Rattle.jsgen_tree.specs.declared.types.NodeType.{NodeType}
use Rattle.jsgen_tree.specs.Options.{Options, Comments, Legal, left_out, inline, at_end, linked, external, default_options, default_comments}
use Rattle.jsgen_tree.specs.Job.{Scoping, Tables}
use Rattle.jsgen_tree.specs.Atom.{Atom}
use Rattle.jsgen_tree.specs.Atom as atoms
use Rattle.jsgen_tree.specs.Table.{Field, Presence, Sort, Word, needed, needed_for, settable_for, may_be_absent, by_default}
use Rattle.jsgen_tree.specs.Table as sorts
use Rattle.jsgen_fields.specs.Names.{or_else, type_named}
use Rattle.jsgen_fields.specs.declared.At.{At}
use Rattle.jsgen_fields.specs.declared.InputFault.{InputFault}
use Rattle.jsgen_fields.specs.declared.InputFault.TheVariants.{Json, Float, Missing, Wrong, Memory}

-- one after another, up to the first fault
abbrev pub after : {A B : Type 0} → Result A InputFault → (A → Result B InputFault) → Result B InputFault
after (Ok a) f = f a
after (Err e) f = Err e

abbrev pub or_fault : {A : Type 0} → InputFault → Option A → Result A InputFault
or_fault e None = Err e
or_fault e (Some a) = Ok a

-- A result of code beside what the definition gives: it is the same, but want of memory may come in its place.
abbrev pub Same : {T V : Type 0} → (T → V) → Result T InputFault → Result V InputFault → Type 0
Same plain (Ok x) meant = meant ≡ Ok (plain x)
Same plain (Err e) meant = (e ≡ Memory → ⊥) → meant ≡ Err e

-- ---- places

-- field i of the job's head
abbrev pub head : ℕ → At
head i = record { row = None; field = i }

-- field i of row k
abbrev pub at : ℕ → ℕ → At
at k i = record { row = Some k; field = i }

-- ---- what stands under a name

abbrev pub not_null : Data → Option Data
not_null null = None
not_null d = Some d

-- null counts as absent
abbrev pub present : Option Data → Option Data
present None = None
present (Some d) = not_null d

-- the value under a name
abbrev pub field : List ℕ → Data → Option Data
field name d = present (get name d)

-- the value of a field, where there is one, as there is in a needed field; a float in it, at any depth, is told before anything else
abbrev pub field_in : At → Bool → Option Data → Result (Option Data) InputFault
field_in a true None = Err (Missing a)
field_in a false None = Ok None
field_in a b (Some d) = if has_float d then Err (Float a) else Ok (Some d)

-- a field of the format that isn't read yet may not be there
unfoldable pub not_given : At → Option Data → Result ⊤ InputFault
not_given a None = Ok tt
not_given a (Some d) = Err (Wrong a)

-- the row's field `kind` is this word
abbrev pub is_of_kind : List ℕ → Data → Bool
is_of_kind w d = unwrap_or (option_map (λ s. bytes_eq s w) (option_and_then as_str (field (codes "kind") d))) false

-- The field as it is in this row. One that is for rows of one kind may be absent in others, and its value isn't kept there; a flag that is for rows of one kind may not be set in others.
abbrev pub of_presence : Presence → Field → Data → Field
of_presence (needed_for w) f d = if is_of_kind w d then record f { presence = needed } else record f { presence = may_be_absent; sort = sorts.passed_over f.sort }
of_presence (settable_for w) f d = if is_of_kind w d then record f { presence = by_default (atoms.flag false) } else record f { presence = by_default (atoms.flag false); sort = sorts.unset_flag }
of_presence p f d = f

abbrev pub in_row : Data → Field → Field
in_row d f = of_presence f.presence f d

-- whether a field of a row may not be absent
abbrev pub is_needed : Presence → Bool
is_needed needed = true
is_needed p = false

-- what stands in a field of a row
abbrev pub given_in : At → Field → Data → Result (Option Data) InputFault
given_in a f d = field_in a (is_needed f.presence) (field f.name d)

-- ---- kinds of values

abbrev pub text_in : At → Data → Result (List ℕ) InputFault
text_in a d = or_fault (Wrong a) (as_str d)

abbrev pub listed : Items → List Data
listed no_items = []
listed (item d ds) = d ∷ listed ds

abbrev pub items_in : At → Data → Result (List Data) InputFault
items_in a d = or_fault (Wrong a) (option_map listed (as_array d))

abbrev pub whole_number : Data → Option ℕ
whole_number d = option_and_then as_u64 (as_number d)

-- a whole number of so many bits
abbrev pub number_of_bits : ℕ → Data → Option ℕ
number_of_bits bits d = option_and_then (λ n. if nat_lt n (2 ^ bits) then Some n else None) (whole_number d)

-- what a word stands for
abbrev pub word_meaning : List Word → List ℕ → Option Atom
word_meaning [] s = None
word_meaning (w ∷ ws) s = if bytes_eq s w.spelling then Some w.meaning else word_meaning ws s

-- the words whose spelling is n bytes long
abbrev pub words_of_length : ℕ → List Word → List Word
words_of_length n ws = filter (λ w. length w.spelling == n) ws

abbrev pub word_in : At → List Word → Data → Result Atom InputFault
word_in a ws d = after (text_in a d) (λ s. or_fault (Wrong a) (word_meaning ws s))

-- one digit, or more of which the first is no 0
abbrev pub starts_plainly : List ℕ → Bool
starts_plainly [] = false
starts_plainly (c ∷ []) = true
starts_plainly (c ∷ d ∷ s) = not (c == 48)

-- a text of decimal digits with no leading zero, below 2 ^ 128
unfoldable pub decimal_number : List ℕ → Option ℕ
decimal_number s = if starts_plainly s && all_ascii_digits s && nat_lt (digits_value 10 s) (2 ^ 128) then Some (digits_value 10 s) else None

-- a whole number, or a text of its digits
abbrev pub digits_in : At → Data → Result ℕ InputFault
digits_in a d = or_fault (Wrong a) (or_else (whole_number d) (option_and_then decimal_number (as_str d)))

-- ---- the value of a string

-- one unit of UTF-16
abbrev pub unit_in : Data → Option ℕ
unit_in d = number_of_bits 16 d

abbrev pub units_listed : At → List Data → Result (List ℕ) InputFault
units_listed a [] = Ok []
units_listed a (d ∷ ds) = after (or_fault (Wrong a) (unit_in d)) (λ u. after (units_listed a ds) (λ us. Ok (u ∷ us)))

abbrev pub text_or_listed : At → Data → Option (List ℕ) → Result (List ℕ) InputFault
text_or_listed a d None = after (items_in a d) (units_listed a)
text_or_listed a d (Some s) = Ok (flat_map encode_utf16 (chars s))

-- a text, or a list of the units
abbrev pub units_in : At → Data → Result (List ℕ) InputFault
units_in a d = text_or_listed a d (as_str d)

-- ---- the fields that have no children

abbrev pub value_in : At → Sort → Data → Result Atom InputFault
value_in a sorts.text d = after (text_in a d) (λ s. Ok (atoms.text (chars s)))
value_in a sorts.units d = after (units_in a d) (λ us. Ok (atoms.units us))
value_in a sorts.digits d = after (digits_in a d) (λ n. Ok (atoms.digits n))
value_in a sorts.number d = after (or_fault (Wrong a) (number_of_bits 32 d)) (λ n. Ok (atoms.number n))
value_in a sorts.flag d = after (or_fault (Wrong a) (as_bool d)) (λ b. Ok (atoms.flag b))
value_in a sorts.unset_flag d = after (or_fault (Wrong a) (as_bool d)) (λ b. if b then Err (Wrong a) else Ok (atoms.flag false))
value_in a (sorts.word ws) d = word_in a ws d
value_in a (sorts.passed_over s) d = after (value_in a s d) (λ v. Ok atoms.no_value)
value_in a other d = Err (Wrong a)

-- ---- the type and the span of a row, its fields 0 and 1

abbrev pub type_given : At → Option Data → Result NodeType InputFault
type_given a None = Err (Missing a)
type_given a (Some d) = after (text_in a d) (λ s. or_fault (Wrong a) (type_named s))

-- the type of row k; a row is an object
abbrev pub type_of : ℕ → Data → Result NodeType InputFault
type_of k d = after (or_fault (Wrong (at k 0)) (as_object d)) (λ members. after (field_in (at k 0) true (field (codes "type") d)) (type_given (at k 0)))

-- an offset in bytes
abbrev pub offset_in : Data → Option ℕ
offset_in d = number_of_bits 32 d

abbrev pub both : Option ℕ → Option ℕ → Option Span
both (Some start) (Some end) = Some (record { start = start; end = end })
both start end = None

abbrev pub offsets : List Data → Option Span
offsets (start ∷ end ∷ []) = both (offset_in start) (offset_in end)
offsets ds = None

abbrev pub span_given : At → Option Data → Result Span InputFault
span_given a None = Ok (record { start = 0; end = 0 })
span_given a (Some d) = after (items_in a d) (λ ds. or_fault (Wrong a) (offsets ds))

-- the span of row k
abbrev pub span_of : ℕ → Data → Result Span InputFault
span_of k d = after (field_in (at k 1) false (field (codes "span") d)) (span_given (at k 1))

-- ---- the head: its options, field 0

-- an option that is true or false, or what stands for an absent one
abbrev pub choice_given : Bool → Option Data → Result Bool InputFault
choice_given absent None = Ok absent
choice_given absent (Some d) = or_fault (Wrong (head 0)) (as_bool d)

-- an option that is a text, or absent
abbrev pub path_given : Option Data → Result (Option (List ℕ)) InputFault
path_given None = Ok None
path_given (Some d) = after (text_in (head 0) d) (λ s. Ok (Some (chars s)))

-- what becomes of the comments that hold a licence, by the word for it; those that are linked stand at a path
abbrev pub legal_named : List ℕ → Option (List ℕ) → Option Legal
legal_named s path =
    if bytes_eq s (codes "none") then Some left_out
    else if bytes_eq s (codes "inline") then Some inline
    else if bytes_eq s (codes "eof") then Some at_end
    else if bytes_eq s (codes "linked") then option_map linked path
    else if bytes_eq s (codes "external") then Some external else None

abbrev pub legal_given : Option Data → Option (List ℕ) → Result Legal InputFault
legal_given None path = Ok default_comments.legal
legal_given (Some d) path = after (text_in (head 0) d) (λ s. or_fault (Wrong (head 0)) (legal_named s path))

-- which comments are printed
abbrev pub comments_read : Data → Result Comments InputFault
comments_read d =
    after (choice_given default_comments.normal (field (codes "normal") d))
    (λ normal. after (choice_given default_comments.jsdoc (field (codes "jsdoc") d))
    (λ jsdoc. after (choice_given default_comments.annotation (field (codes "annotation") d))
    (λ annotation. after (path_given (field (codes "legal_path") d))
    (λ path. after (legal_given (field (codes "legal") d) path)
    (λ legal. Ok (record { normal = normal; jsdoc = jsdoc; annotation = annotation; legal = legal }))))))

-- what a level of indentation is made of
abbrev pub char_named : List ℕ → Option IndentChar
char_named s = if bytes_eq s (codes "tab") then Some Tab else if bytes_eq s (codes "space") then Some Space else None

abbrev pub char_given : Option Data → Result IndentChar InputFault
char_given None = Ok default_options.indent_char
char_given (Some d) = after (text_in (head 0) d) (λ s. or_fault (Wrong (head 0)) (char_named s))

-- and how many of it, in 64 bits
abbrev pub width_given : Option Data → Result ℕ InputFault
width_given None = Ok default_options.indent_width
width_given (Some d) = or_fault (Wrong (head 0)) (whole_number d)

-- the level of the first line
abbrev pub level_given : Option Data → Result ℕ InputFault
level_given None = Ok default_options.initial_indent
level_given (Some d) = or_fault (Wrong (head 0)) (number_of_bits 32 d)

-- an object
abbrev pub options_read : Data → Result Options InputFault
options_read d =
    after (or_fault (Wrong (head 0)) (as_object d))
    (λ members. after (choice_given default_options.single_quote (field (codes "single_quote") d))
    (λ single_quote. after (choice_given default_options.minify (field (codes "minify") d))
    (λ minify. after (choice_given default_options.ascii_only (field (codes "ascii_only") d))
    (λ ascii_only. after (comments_read d)
    (λ comments. after (path_given (field (codes "source_map_path") d))
    (λ source_map_path. after (char_given (field (codes "indent_char") d))
    (λ indent_char. after (width_given (field (codes "indent_width") d))
    (λ indent_width. after (level_given (field (codes "initial_indent") d))
    (λ initial_indent. Ok (record {
      single_quote = single_quote;
      minify = minify;
      ascii_only = ascii_only;
      comments = comments;
      source_map_path = source_map_path;
      indent_char = indent_char;
      indent_width = indent_width;
      initial_indent = initial_indent;
    }))))))))))

abbrev pub options_given : Option Data → Result Options InputFault
options_given None = Ok default_options
options_given (Some d) = options_read d

-- the options of a job, which is an object
abbrev pub options_in : Data → Result Options InputFault
options_in d = after (or_fault Json (as_object d)) (λ members. after (field_in (head 0) false (field (codes "options") d)) options_given)

-- ---- the tables of names, fields 1 to 3

-- the texts of a list
abbrev pub texts_in : At → List Data → Result (List (List ℕ)) InputFault
texts_in a [] = Ok []
texts_in a (d ∷ ds) = after (text_in a d) (λ s. after (texts_in a ds) (λ ss. Ok (chars s ∷ ss)))

abbrev pub symbols_given : Option Data → Result (Option (List (List ℕ))) InputFault
symbols_given None = Ok None
symbols_given (Some d) = after (items_in (head 1) d) (λ ds. after (texts_in (head 1) ds) (λ ss. Ok (Some ss)))

abbrev pub symbols_in : Data → Result (Option (List (List ℕ))) InputFault
symbols_in d = after (field_in (head 1) false (field (codes "symbols") d)) symbols_given

-- the number of the symbol that a reference names, in 32 bits, or null where it names none
abbrev pub entry_in : At → Data → Result (Option ℕ) InputFault
entry_in a null = Ok None
entry_in a d = after (or_fault (Wrong a) (number_of_bits 32 d)) (λ n. Ok (Some n))

abbrev pub entries_in : At → List Data → Result (List (Option ℕ)) InputFault
entries_in a [] = Ok []
entries_in a (d ∷ ds) = after (entry_in a d) (λ e. after (entries_in a ds) (λ es. Ok (e ∷ es)))

abbrev pub references_given : Option Data → Result (Option (List (Option ℕ))) InputFault
references_given None = Ok None
references_given (Some d) = after (items_in (head 2) d) (λ ds. after (entries_in (head 2) ds) (λ es. Ok (Some es)))

abbrev pub references_in : Data → Result (Option (List (Option ℕ))) InputFault
references_in d = after (field_in (head 2) false (field (codes "references") d)) references_given

-- there are no tables where both are absent; one that is absent beside the other is empty
abbrev pub scoping_of : Option (List (List ℕ)) → Option (List (Option ℕ)) → Option Scoping
scoping_of None None = None
scoping_of symbols references = Some (record { symbols = unwrap_or symbols []; references = unwrap_or references [] })

-- the names of an object, each with its new name
abbrev pub names_in : At → Members → Result (List (List ℕ × List ℕ)) InputFault
names_in a no_members = Ok []
names_in a (member name d ms) = after (text_in a d) (λ s. after (names_in a ms) (λ names. Ok ((chars name, chars s) ∷ names)))

abbrev pub class_in : At → Data → Result (List (List ℕ × List ℕ)) InputFault
class_in a d = after (or_fault (Wrong a) (as_object d)) (names_in a)

abbrev pub classes_in : At → List Data → Result (List (List (List ℕ × List ℕ))) InputFault
classes_in a [] = Ok []
classes_in a (d ∷ ds) = after (class_in a d) (λ c. after (classes_in a ds) (λ cs. Ok (c ∷ cs)))

abbrev pub private_given : Option Data → Result (Option (List (List (List ℕ × List ℕ)))) InputFault
private_given None = Ok None
private_given (Some d) = after (items_in (head 3) d) (λ ds. after (classes_in (head 3) ds) (λ cs. Ok (Some cs)))

abbrev pub private_in : Data → Result (Option (List (List (List ℕ × List ℕ)))) InputFault
private_in d = after (field_in (head 3) false (field (codes "private") d)) private_given

abbrev pub tables_in : Data → Result Tables InputFault
tables_in d =
    after (symbols_in d)
    (λ symbols. after (references_in d)
    (λ references. after (private_in d)
    (λ private. Ok (record { scoping = scoping_of symbols references; private = private }))))

-- ---- the rows, field 4

abbrev pub some_rows : List Data → Result (List Data) InputFault
some_rows [] = Err (Wrong (head 4))
some_rows (d ∷ ds) = Ok (d ∷ ds)

-- a list; where there is another value, a float in it is told first
abbrev pub rows_listed : At → Data → Result (List Data) InputFault
rows_listed a d = or_fault (if has_float d then Float a else Wrong a) (option_map listed (as_array d))

-- a list of one or more. What floats stand in the list is for the rows to tell.
abbrev pub rows_given : Option Data → Result (List Data) InputFault
rows_given None = Err (Missing (head 4))
rows_given (Some d) = after (rows_listed (head 4) d) some_rows

abbrev pub rows_in : Data → Result (List Data) InputFault
rows_in d = rows_given (field (codes "rows") d)
