-- Want of memory is no fault of a job.
use Rattle.std.proofs.Common.{◌≡◌, ℕ, suc, List, [], ◌∷◌, ◌++◌, length, Bool, true, false, Option, Some, None, Result, Ok, Err, slice_get, if◌then◌else◌}
use Rattle.std.specs.Prelude.{⊤, codes}
use Rattle.std.specs.Str.{is_utf8}
use Rattle.serde_json.specs.Data.{Data, null, Members, no_members, member, Num, unsigned, negative, float}
use Rattle.serde_json.specs.Find.{as_bool, as_number, as_object, as_str}
use Rattle.serde_json.specs.Read.{read}
use Rattle.serde_json.specs.Written.{has_float}
use Rattle.jsgen_syntax.specs.declared.span.Span.{Span}
use Rattle.jsgen_tree.specs.declared.types.NodeSet.{NodeSet}
use Rattle.jsgen_tree.specs.declared.types.NodeType.{NodeType}
use Rattle.jsgen_tree.specs.Tree.{Tree, type_of as tree_type}
use Rattle.jsgen_tree.specs.Atom.{flag}
use Rattle.jsgen_tree.specs.Table.{Sort, Field}
use Rattle.jsgen_tree.specs.Fields.{fields}
use Rattle.jsgen_tree.specs.Options.{default_options, default_comments}
use Rattle.jsgen_tree.specs.Sets.{in_set}
use Rattle.jsgen_tree.specs.Table as sorts
use Rattle.jsgen_flat.specs.Flat.{Sections, begins_flat, flat_of, rows_of}
use Rattle.jsgen_fields.specs.declared.At.{At}
use Rattle.jsgen_fields.specs.declared.InputFault.{InputFault}
use Rattle.jsgen_fields.specs.declared.InputFault.TheVariants.{Json, Float, Wrong, Child, Shared, Memory}
use Rattle.jsgen_fields.specs.Names.{type_named}
use Rattle.jsgen_fields.specs.Values.{after, or_fault, at, head, field, field_in, not_given, text_in, items_in, digits_in, in_row, is_needed, given_in, whole_number, number_of_bits, unit_in, units_listed, text_or_listed, units_in, value_in, type_given, type_of, offsets, span_given, span_of, choice_given, path_given, legal_named, legal_given, comments_read, char_named, char_given, width_given, level_given, options_given, options_in, texts_in, symbols_given, symbols_in, entry_in, entries_in, references_given, references_in, names_in, class_in, classes_in, private_given, private_in, tables_in, some_rows, rows_listed, rows_given, rows_in}
use Rattle.jsgen_fields.specs.Meaning.{Mark, fault, use_of, number_marks, child_marks, hole_marks, each, marks_of, sort_marks, given_marks, field_marks, fields_marks, typed_marks, row_marks, row_tree, is_used, found_faults, mark_faults, with_mark, with_marks, faults_in, root_tree, root_faults, faults_after, unless, rows_meaning, program_meaning, value_meaning}
use Rattle.jsgen_kept.specs.Kept.{is_program}
use Rattle.jsgen_rows.specs.Job.{head_in, flat_meaning, json_of, job_of}

-- ---- what is told is not Memory

abbrev Told : InputFault → Type 0
Told f = f ≡ Memory → ⊥

abbrev ResultTold : {A : Type 0} → Result A InputFault → Type 0
ResultTold (Ok x) = ⊤
ResultTold (Err f) = Told f

abbrev FaultsTold : List InputFault → Type 0
FaultsTold [] = ⊤
FaultsTold (f ∷ fs) = Told f × FaultsTold fs

abbrev MarkTold : Mark → Type 0
MarkTold (fault f) = Told f
MarkTold (use_of a s c) = ⊤

abbrev MarksTold : List Mark → Type 0
MarksTold [] = ⊤
MarksTold (m ∷ ms) = MarkTold m × MarksTold ms

after_told : {A B : Type 0} (r : Result A InputFault) (f : A → Result B InputFault) → ResultTold r → ((x : A) → ResultTold (f x)) → ResultTold (after r f)
after_told (Ok x) f h g = g x
after_told (Err e) f h g = h

or_told : {A : Type 0} (e : InputFault) (o : Option A) → Told e → ResultTold (or_fault e o)
or_told e None h = h
or_told e (Some x) h = tt

choice_told : {A : Type 0} (b : Bool) (r s : Result A InputFault) → ResultTold r → ResultTold s → ResultTold (if b then r else s)
choice_told true r s h g = h
choice_told false r s h g = g

wrong_told : (a : At) → Told (Wrong a)
wrong_told a = λ e. cc

-- ---- values

field_told : (a : At) (required : Bool) (o : Option Data) → ResultTold (field_in a required o)
field_told a true None = λ e. cc
field_told a false None = tt
field_told a true (Some d) = choice_told (has_float d) (Err (Float a)) (Ok (Some d)) (λ e. cc) tt
field_told a false (Some d) = choice_told (has_float d) (Err (Float a)) (Ok (Some d)) (λ e. cc) tt

not_given_told : (a : At) (o : Option Data) → ResultTold (not_given a o)
unfolding not_given
not_given_told a None = tt
not_given_told a (Some d) = wrong_told a

text_told : (a : At) (d : Data) → ResultTold (text_in a d)
text_told a d = or_told (Wrong a) (as_str d) (wrong_told a)

items_told : (a : At) (d : Data) → ResultTold (items_in a d)
items_told a d = or_told (Wrong a) _ (wrong_told a)

units_listed_told : (a : At) (ds : List Data) → ResultTold (units_listed a ds)
units_listed_told a [] = tt
units_listed_told a (d ∷ ds) = after_told (or_fault (Wrong a) (unit_in d)) _ (or_told (Wrong a) (unit_in d) (wrong_told a)) (λ u. after_told (units_listed a ds) _ (units_listed_told a ds) (λ us. tt))

text_or_listed_told : (a : At) (d : Data) (o : Option (List ℕ)) → ResultTold (text_or_listed a d o)
text_or_listed_told a d None = after_told (items_in a d) (units_listed a) (items_told a d) (units_listed_told a)
text_or_listed_told a d (Some s) = tt

value_told : (a : At) (s : Sort) (d : Data) → ResultTold (value_in a s d)
value_told a sorts.text d = after_told (text_in a d) _ (text_told a d) (λ s. tt)
value_told a sorts.units d = after_told (units_in a d) _ (text_or_listed_told a d (as_str d)) (λ us. tt)
value_told a sorts.digits d = after_told (digits_in a d) _ (or_told (Wrong a) _ (wrong_told a)) (λ n. tt)
value_told a sorts.number d = after_told (or_fault (Wrong a) (number_of_bits 32 d)) _ (or_told (Wrong a) (number_of_bits 32 d) (wrong_told a)) (λ n. tt)
value_told a sorts.flag d = after_told (or_fault (Wrong a) (as_bool d)) _ (or_told (Wrong a) (as_bool d) (wrong_told a)) (λ b. tt)
value_told a sorts.unset_flag d = after_told (or_fault (Wrong a) (as_bool d)) _ (or_told (Wrong a) (as_bool d) (wrong_told a)) (λ b. choice_told b (Err (Wrong a)) (Ok (flag false)) (wrong_told a) tt)
value_told a (sorts.passed_over s) d = after_told (value_in a s d) _ (value_told a s d) (λ v. tt)
value_told a (sorts.word ws) d = after_told (text_in a d) _ (text_told a d) (λ s. or_told (Wrong a) _ (wrong_told a))
value_told a s d = wrong_told a

type_given_told : (a : At) (o : Option Data) → ResultTold (type_given a o)
type_given_told a None = λ e. cc
type_given_told a (Some d) = after_told (text_in a d) _ (text_told a d) (λ s. or_told (Wrong a) (type_named s) (wrong_told a))

type_told : (k : ℕ) (d : Data) → ResultTold (type_of k d)
type_told k d =
    after_told (or_fault (Wrong (at k 0)) (as_object d)) _ (or_told (Wrong (at k 0)) (as_object d) (wrong_told _))
    (λ members. after_told (field_in (at k 0) true (field (codes "type") d)) (type_given (at k 0)) (field_told (at k 0) true (field (codes "type") d)) (type_given_told (at k 0)))

span_given_told : (a : At) (o : Option Data) → ResultTold (span_given a o)
span_given_told a None = tt
span_given_told a (Some d) = after_told (items_in a d) _ (items_told a d) (λ ds. or_told (Wrong a) (offsets ds) (wrong_told a))

span_told : (k : ℕ) (d : Data) → ResultTold (span_of k d)
span_told k d = after_told (field_in (at k 1) false (field (codes "span") d)) (span_given (at k 1)) (field_told (at k 1) false (field (codes "span") d)) (span_given_told (at k 1))

-- ---- marks

append_told : (ms ns : List Mark) → MarksTold ms → MarksTold ns → MarksTold (ms ++ ns)
append_told [] ns h g = g
append_told (m ∷ ms) ns h g = (h.0, append_told ms ns h.1 g)

marks_told : {A : Type 0} (f : A → List Mark) (r : Result A InputFault) → ResultTold r → ((x : A) → MarksTold (f x)) → MarksTold (marks_of f r)
marks_told f (Err e) h g = (h, tt)
marks_told f (Ok x) h g = g x

number_told : (a : At) (s : NodeSet) (o : Option Num) → MarksTold (number_marks a s o)
number_told a s None = (wrong_told a, tt)
number_told a s (Some (unsigned c)) = (tt, tt)
number_told a s (Some (negative z)) = ((λ e. cc), tt)
number_told a s (Some (float x)) = (wrong_told a, tt)

hole_told : (a : At) (s : NodeSet) (d : Data) → MarksTold (hole_marks a s d)
hole_told a s null = tt
hole_told a s d = number_told a s (as_number d)

each_told : (f : Data → List Mark) → ((d : Data) → MarksTold (f d)) → (ds : List Data) → MarksTold (each f ds)
each_told f h [] = tt
each_told f h (d ∷ ds) = append_told (f d) (each f ds) (h d) (each_told f h ds)

list_told : (a : At) (f : Data → List Mark) → ((d : Data) → MarksTold (f d)) → (d : Data) → MarksTold (marks_of (each f) (items_in a d))
list_told a f h d = marks_told (each f) (items_in a d) (items_told a d) (each_told f h)

sort_told : (a : At) (s : Sort) (d : Data) → MarksTold (sort_marks a s d)
sort_told a (sorts.child s) d = number_told a s (as_number d)
sort_told a (sorts.children s) d = list_told a (child_marks a s) (λ x. number_told a s (as_number x)) d
sort_told a (sorts.maybe_children s) d = list_told a (child_marks a s) (λ x. number_told a s (as_number x)) d
sort_told a (sorts.children_or_holes s) d = list_told a (hole_marks a s) (hole_told a s) d
sort_told a s d = marks_told (λ value. []) (value_in a s d) (value_told a s d) (λ v. tt)

given_told : (a : At) (s : Sort) (o : Option Data) → MarksTold (given_marks a s o)
given_told a s None = tt
given_told a s (Some d) = sort_told a s d

chosen_told : (b : Bool) (ms ns : List Mark) → MarksTold ms → MarksTold ns → MarksTold (if b then ms else ns)
chosen_told true ms ns h g = h
chosen_told false ms ns h g = g

one_told : (a : At) (f : Field) (d : Data) → MarksTold (field_marks a f d)
one_told a f d =
    chosen_told f.is_read (marks_of (given_marks a f.sort) (given_in a f d)) (marks_of (λ nothing. []) (not_given a (field f.name d)))
    (marks_told (given_marks a f.sort) (given_in a f d) (field_told a (is_needed f.presence) (field f.name d)) (given_told a f.sort))
    (marks_told _ (not_given a (field f.name d)) (not_given_told a (field f.name d)) (λ u. tt))

fields_told : (k i : ℕ) (fs : List Field) (d : Data) → MarksTold (fields_marks k i fs d)
fields_told k i [] d = tt
fields_told k i (f ∷ fs) d = append_told (field_marks (at k i) (in_row d f) d) (fields_marks k (suc i) fs d) (one_told (at k i) (in_row d f) d) (fields_told k (suc i) fs d)

typed_told : (k : ℕ) (d : Data) (t : Result NodeType InputFault) (s : Result Span InputFault) → ResultTold t → ResultTold s → MarksTold (typed_marks k d t s)
typed_told k d (Err e) s h g = (h, tt)
typed_told k d (Ok type) s h g = append_told (marks_of (λ span. []) s) (fields_marks k 2 (fields type) d) (marks_told _ s g (λ span. tt)) (fields_told k 2 (fields type) d)

row_told : (k : ℕ) (d : Data) → MarksTold (row_marks k d)
row_told k d = typed_told k d (type_of k d) (span_of k d) (type_told k d) (span_told k d)

-- ---- faults

join_told : (fs gs : List InputFault) → FaultsTold fs → FaultsTold gs → FaultsTold (fs ++ gs)
join_told [] gs h g = g
join_told (f ∷ fs) gs h g = (h.0, join_told fs gs h.1 g)

pick_told : (b : Bool) (fs gs : List InputFault) → FaultsTold fs → FaultsTold gs → FaultsTold (if b then fs else gs)
pick_told true fs gs h g = h
pick_told false fs gs h g = g

found_told : (a : At) (s : NodeSet) (c : ℕ) (o : Option Tree) (used : Bool) → FaultsTold (found_faults a s c o used)
found_told a s c None used = ((λ e. cc), tt)
found_told a s c (Some t) used = pick_told (in_set s (tree_type t)) (if used then Shared c ∷ [] else []) (Child a ∷ []) (pick_told used (Shared c ∷ []) [] ((λ e. cc), tt) tt) ((λ e. cc), tt)

mark_told : (e : List Tree) (u : List ℕ) (m : Mark) → MarkTold m → FaultsTold (mark_faults e u m)
mark_told e u (fault f) h = (h, tt)
mark_told e u (use_of a s c) h = found_told a s c (slice_get e c) (is_used u c)

faults_told : (e : List Tree) (u : List ℕ) (ms : List Mark) → MarksTold ms → FaultsTold (faults_in e u ms)
faults_told e u [] h = tt
faults_told e u (m ∷ ms) h = join_told (mark_faults e u m) (faults_in e (with_mark u m) ms) (mark_told e u m h.0) (faults_told e (with_mark u m) ms h.1)

root_told : (a : At) (o : Option Tree) → FaultsTold (root_faults a o)
root_told a None = (wrong_told a, tt)
root_told a (Some t) = pick_told (is_program (tree_type t)) [] (Wrong a ∷ []) tt (wrong_told a, tt)

rows_told : (e : List Tree) (u : List ℕ) (ds : List Data) → FaultsTold (faults_after e u ds)
rows_told e u [] = root_told _ (root_tree e)
rows_told e u (d ∷ ds) =
    join_told (faults_in e u (row_marks (length e) d)) (faults_after (e ++ row_tree e d ∷ []) (with_marks u (row_marks (length e) d)) ds)
    (faults_told e u (row_marks (length e) d) (row_told (length e) d)) (rows_told (e ++ row_tree e d ∷ []) (with_marks u (row_marks (length e) d)) ds)

unless_told : {A : Type 0} (fs : List InputFault) (x : A) → FaultsTold fs → ResultTold (unless fs x)
unless_told [] x h = tt
unless_told (f ∷ fs) x h = h.0

-- ---- the options

choice_given_told : (absent : Bool) (o : Option Data) → ResultTold (choice_given absent o)
choice_given_told absent None = tt
choice_given_told absent (Some d) = or_told (Wrong (head 0)) (as_bool d) (wrong_told _)

path_given_told : (o : Option Data) → ResultTold (path_given o)
path_given_told None = tt
path_given_told (Some d) = after_told (text_in (head 0) d) _ (text_told (head 0) d) (λ s. tt)

legal_given_told : (o : Option Data) (path : Option (List ℕ)) → ResultTold (legal_given o path)
legal_given_told None path = tt
legal_given_told (Some d) path = after_told (text_in (head 0) d) _ (text_told (head 0) d) (λ s. or_told (Wrong (head 0)) (legal_named s path) (wrong_told _))

comments_told : (d : Data) → ResultTold (comments_read d)
comments_told d =
    after_told (choice_given default_comments.normal (field (codes "normal") d)) _ (choice_given_told _ (field (codes "normal") d))
    (λ normal. after_told (choice_given default_comments.jsdoc (field (codes "jsdoc") d)) _ (choice_given_told _ (field (codes "jsdoc") d))
    (λ jsdoc. after_told (choice_given default_comments.annotation (field (codes "annotation") d)) _ (choice_given_told _ (field (codes "annotation") d))
    (λ annotation. after_told (path_given (field (codes "legal_path") d)) _ (path_given_told (field (codes "legal_path") d))
    (λ path. after_told (legal_given (field (codes "legal") d) path) _ (legal_given_told (field (codes "legal") d) path) (λ legal. tt)))))

char_given_told : (o : Option Data) → ResultTold (char_given o)
char_given_told None = tt
char_given_told (Some d) = after_told (text_in (head 0) d) _ (text_told (head 0) d) (λ s. or_told (Wrong (head 0)) (char_named s) (wrong_told _))

width_given_told : (o : Option Data) → ResultTold (width_given o)
width_given_told None = tt
width_given_told (Some d) = or_told (Wrong (head 0)) (whole_number d) (wrong_told _)

level_given_told : (o : Option Data) → ResultTold (level_given o)
level_given_told None = tt
level_given_told (Some d) = or_told (Wrong (head 0)) (number_of_bits 32 d) (wrong_told _)

options_given_told : (o : Option Data) → ResultTold (options_given o)
options_given_told None = tt
options_given_told (Some d) =
    after_told (or_fault (Wrong (head 0)) (as_object d)) _ (or_told (Wrong (head 0)) (as_object d) (wrong_told _))
    (λ members. after_told (choice_given default_options.single_quote (field (codes "single_quote") d)) _ (choice_given_told _ (field (codes "single_quote") d))
    (λ single_quote. after_told (choice_given default_options.minify (field (codes "minify") d)) _ (choice_given_told _ (field (codes "minify") d))
    (λ minify. after_told (choice_given default_options.ascii_only (field (codes "ascii_only") d)) _ (choice_given_told _ (field (codes "ascii_only") d))
    (λ ascii_only. after_told (comments_read d) _ (comments_told d)
    (λ comments. after_told (path_given (field (codes "source_map_path") d)) _ (path_given_told (field (codes "source_map_path") d))
    (λ source_map_path. after_told (char_given (field (codes "indent_char") d)) _ (char_given_told (field (codes "indent_char") d))
    (λ indent_char. after_told (width_given (field (codes "indent_width") d)) _ (width_given_told (field (codes "indent_width") d))
    (λ indent_width. after_told (level_given (field (codes "initial_indent") d)) _ (level_given_told (field (codes "initial_indent") d)) (λ initial_indent. tt)))))))))

options_told : (d : Data) → ResultTold (options_in d)
options_told d =
    after_told (or_fault Json (as_object d)) _ (or_told Json (as_object d) (λ e. cc))
    (λ members. after_told (field_in (head 0) false (field (codes "options") d)) options_given (field_told (head 0) false (field (codes "options") d)) options_given_told)

-- ---- the tables

texts_told : (a : At) (ds : List Data) → ResultTold (texts_in a ds)
texts_told a [] = tt
texts_told a (d ∷ ds) = after_told (text_in a d) _ (text_told a d) (λ s. after_told (texts_in a ds) _ (texts_told a ds) (λ ss. tt))

symbols_given_told : (o : Option Data) → ResultTold (symbols_given o)
symbols_given_told None = tt
symbols_given_told (Some d) = after_told (items_in (head 1) d) _ (items_told (head 1) d) (λ ds. after_told (texts_in (head 1) ds) _ (texts_told (head 1) ds) (λ ss. tt))

symbols_told : (d : Data) → ResultTold (symbols_in d)
symbols_told d = after_told (field_in (head 1) false (field (codes "symbols") d)) symbols_given (field_told (head 1) false (field (codes "symbols") d)) symbols_given_told

number_given_told : (a : At) (o : Option ℕ) → ResultTold (after (or_fault (Wrong a) o) (λ n. Ok (Some n)))
number_given_told a None = wrong_told a
number_given_told a (Some n) = tt

entry_told : (a : At) (d : Data) → ResultTold (entry_in a d)
entry_told a null = tt
entry_told a d = number_given_told a (number_of_bits 32 d)

entries_told : (a : At) (ds : List Data) → ResultTold (entries_in a ds)
entries_told a [] = tt
entries_told a (d ∷ ds) = after_told (entry_in a d) _ (entry_told a d) (λ e. after_told (entries_in a ds) _ (entries_told a ds) (λ es. tt))

references_given_told : (o : Option Data) → ResultTold (references_given o)
references_given_told None = tt
references_given_told (Some d) = after_told (items_in (head 2) d) _ (items_told (head 2) d) (λ ds. after_told (entries_in (head 2) ds) _ (entries_told (head 2) ds) (λ es. tt))

references_told : (d : Data) → ResultTold (references_in d)
references_told d = after_told (field_in (head 2) false (field (codes "references") d)) references_given (field_told (head 2) false (field (codes "references") d)) references_given_told

names_told : (a : At) (ms : Members) → ResultTold (names_in a ms)
names_told a no_members = tt
names_told a (member name d ms) = after_told (text_in a d) _ (text_told a d) (λ s. after_told (names_in a ms) _ (names_told a ms) (λ names. tt))

class_told : (a : At) (d : Data) → ResultTold (class_in a d)
class_told a d = after_told (or_fault (Wrong a) (as_object d)) (names_in a) (or_told (Wrong a) (as_object d) (wrong_told a)) (names_told a)

classes_told : (a : At) (ds : List Data) → ResultTold (classes_in a ds)
classes_told a [] = tt
classes_told a (d ∷ ds) = after_told (class_in a d) _ (class_told a d) (λ c. after_told (classes_in a ds) _ (classes_told a ds) (λ cs. tt))

private_given_told : (o : Option Data) → ResultTold (private_given o)
private_given_told None = tt
private_given_told (Some d) = after_told (items_in (head 3) d) _ (items_told (head 3) d) (λ ds. after_told (classes_in (head 3) ds) _ (classes_told (head 3) ds) (λ cs. tt))

private_told : (d : Data) → ResultTold (private_in d)
private_told d = after_told (field_in (head 3) false (field (codes "private") d)) private_given (field_told (head 3) false (field (codes "private") d)) private_given_told

tables_told : (d : Data) → ResultTold (tables_in d)
tables_told d =
    after_told (symbols_in d) _ (symbols_told d)
    (λ symbols. after_told (references_in d) _ (references_told d)
    (λ references. after_told (private_in d) _ (private_told d) (λ private. tt)))

-- ---- the rows, and the whole

float_or_wrong_told : (b : Bool) (a : At) → Told (if b then Float a else Wrong a)
float_or_wrong_told true a = λ e. cc
float_or_wrong_told false a = wrong_told a

some_told : (ds : List Data) → ResultTold (some_rows ds)
some_told [] = wrong_told (head 4)
some_told (d ∷ ds) = tt

rows_given_told : (o : Option Data) → ResultTold (rows_given o)
rows_given_told None = λ e. cc
rows_given_told (Some d) = after_told (rows_listed (head 4) d) some_rows (or_told _ _ (float_or_wrong_told (has_float d) (head 4))) some_told

rows_in_told : (d : Data) → ResultTold (rows_in d)
rows_in_told d = rows_given_told (field (codes "rows") d)

program_told : (d : Data) → ResultTold (program_meaning d)
program_told d = after_told (rows_in d) rows_meaning (rows_in_told d) (λ ds. unless_told (faults_after [] [] ds) _ (rows_told [] [] ds))

value_meaning_told : (d : Data) → ResultTold (value_meaning d)
value_meaning_told d = after_told (options_in d) _ (options_told d) (λ options. after_told (tables_in d) _ (tables_told d) (λ tables. after_told (program_meaning d) _ (program_told d) (λ program. tt)))

json_told : (bytes : List ℕ) → ResultTold (json_of bytes)
json_told bytes = choice_told (is_utf8 bytes) (or_fault Json (read bytes)) (Err Json) (or_told Json (read bytes) (λ e. cc)) (λ e. cc)

head_told : (d : Data) → ResultTold (head_in d)
head_told d = after_told (options_in d) _ (options_told d) (λ options. after_told (tables_in d) _ (tables_told d) (λ tables. tt))

flat_rows_told : (p : Sections) → ResultTold (after (some_rows (rows_of p)) rows_meaning)
flat_rows_told p = after_told (some_rows (rows_of p)) rows_meaning (some_told (rows_of p)) (λ ds. unless_told (faults_after [] [] ds) _ (rows_told [] [] ds))

flat_told : (p : Sections) → ResultTold (flat_meaning p)
flat_told p = after_told (json_of p.head) _ (json_told p.head) (λ d. after_told (head_in d) _ (head_told d) (λ head. after_told (after (some_rows (rows_of p)) rows_meaning) _ (flat_rows_told p) (λ program. tt)))

job_told : (bytes : List ℕ) → ResultTold (job_of bytes)
unfolding job_of
job_told bytes =
    choice_told (begins_flat bytes) (after (or_fault Json (flat_of bytes)) flat_meaning) (after (json_of bytes) value_meaning)
    (after_told (or_fault Json (flat_of bytes)) flat_meaning (or_told Json (flat_of bytes) (λ e. cc)) flat_told)
    (after_told (json_of bytes) value_meaning (json_told bytes) value_meaning_told)

never : {A : Type 0} (r : Result A InputFault) → ResultTold r → r ≡ Err Memory → ⊥
never (Ok x) h e = cc
never (Err f) h e = h cc

pub told : (bytes : List ℕ) → job_of bytes ≡ Err Memory → ⊥
told bytes e = never (job_of bytes) (job_told bytes) e
