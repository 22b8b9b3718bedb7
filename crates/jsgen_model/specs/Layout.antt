-- The text that items give, from a pen.
use Rattle.std.specs.Prelude.{ℕ, suc, ◌*◌, List, [], ◌∷◌, ◌++◌, Bool, true, false, Option, None, ◌&&◌, ◌||◌, ◌==◌, codes, replicate, if◌then◌else◌, not}
use Rattle.std.specs.List.{last_or}
use Rattle.std.specs.Option.{option_map_or}
use Rattle.jsgen_syntax.specs.Buffer.{indent_code}
use Rattle.jsgen_syntax.specs.Name.{goes_in_word}
use Rattle.jsgen_syntax.specs.Escapes.{name_text, has_escapes}
use Rattle.jsgen_syntax.specs.Strings.{quote_char, quoted, cheapest, begins_script}
use Rattle.jsgen_syntax.specs.Raw.{directive_text, directive_quote, pattern_text, template_text}
use Rattle.jsgen_syntax.specs.declared.quote.Quote.{Quote}
use Rattle.jsgen_syntax.specs.declared.quote.Quote.TheVariants.{Single, Double, Backtick}
use Rattle.std.specs.Str.{bytes_eq}
use Rattle.jsgen_tree.specs.Options.{Options}
use Rattle.jsgen_tree.specs.Job.{Tables}
use Rattle.jsgen_tree.specs.Named.{Named, printed_name}
use Rattle.jsgen_model.specs.Punctuator.{Punctuator, plus, plus_plus, minus, minus_minus, bang, equal_equal, equal_equal_equal, punctuator_text, Round, opening, closing}
use Rattle.jsgen_model.specs.Items.{Items, TemplatePart, whole_part, head_part, middle_part, tail_part, nothing, ◌⊕◌, word, name, private_name, number, literal, regular_expression, template_part, string, first_string, directive, punctuator, operator, member_dot, soft_space, soft_line, hard_space, indentation, body_space, deeper, in_class, brackets, wrapped, wrapped_at_start, Opener, a_brace, a_declaration, parentheses_unless_minified, where_same, statement_end, due_semicolon, drop_semicolon, statement_begins, arrow_body_begins, default_export_begins, mark, end_mark, link_mark, marked_word, comments, orphans, annotation, annotation_line, annotated, commented, member_line, member_space, in_lines, line_break, Break, first_argument, other_argument, import_source, import_options, unless_minified, marked_operator, marked_number, marked_indentation, apart, orphan_lines, empty_body, held, lined_case, caught, Lead, to_block, to_body, to_empty}
use Rattle.jsgen_map.specs.Marks.{Mark}
use Rattle.jsgen_model.specs.Comments.{Store, Groups, empty_store}
use Rattle.jsgen_model.specs.Private.{classes_within, printed_private}

-- what never changes: whether the text is minified and whether it is ASCII, the quote of pretty text and of directives, what a level of indentation is made of, the tables by which names are printed, the bytes of the source, where a source map is wanted, and whether annotations are printed
pub record Style : Type 0 where
  pub minified : Bool
  pub ascii : Bool
  pub quote : Quote
  pub indent : ℕ
  pub width : ℕ
  pub tables : Tables
  pub source : Option (List ℕ)
  pub annotated : Bool

-- what the code so far ends in, as far as it matters to what follows
pub data Ending : Type 0 where
  other_end : Ending
  operator_end : Punctuator → Ending
  number_end : Ending
  escaped_name_end : Ending
  regular_expression_end : Ending

-- what begins at the end of the code so far
pub data Start : Type 0 where
  nowhere : Start
  statement : Start
  arrow_body : Start
  default_export : Start

pub record Pen : Type 0 where
  pub style : Style
  -- the characters so far
  pub code : List ℕ
  -- the level of indentation
  pub depth : ℕ
  -- one space stands in place of the next indentation
  pub pending_space : Bool
  -- a semicolon is still to be printed, or to be dropped
  pub pending_semicolon : Bool
  pub ending : Ending
  pub start : Start
  -- the numbers of the classes round here that have a table of private names, the innermost first
  pub classes : List ℕ
  -- the number of the next class whose body begins
  pub next_class : ℕ
  -- the marks of a source map so far
  pub marks : List Mark
  -- the comments that are still to be printed
  pub store : Store
  -- the annotations of calls and functions that the source has, and that are still to be printed
  pub annotations : Groups
  -- the arguments round here stand on lines of their own
  pub lines : Bool

-- the code goes on with this text, which ends so
abbrev pub written : List ℕ → Ending → Pen → Pen
written text ending pen = record pen { code = pen.code ++ text; ending = ending; start = nowhere }

-- ---- what stands before a word, a sign or a dot

abbrev pub space_if : Bool → List ℕ
space_if true = codes " "
space_if false = []

-- the last character goes in a word
abbrev pub ends_in_word : List ℕ → Bool
ends_in_word code = option_map_or goes_in_word (last_or None code) false

-- the last two characters are `<!`
abbrev pub ends_in_less_bang : List ℕ → Bool
ends_in_less_bang [] = false
ends_in_less_bang (c ∷ []) = false
ends_in_less_bang (c ∷ d ∷ []) = (c == 60) && (d == 33)
ends_in_less_bang (c ∷ d ∷ cs) = ends_in_less_bang (d ∷ cs)

-- the sign would join the one that the code ends in: `+ +`, `+ ++`, `- -`, `- --`, `<! --`, `! ==` or `! ===`
abbrev pub joins : Ending → List ℕ → Punctuator → Bool
joins (operator_end plus) code plus = true
joins (operator_end plus) code plus_plus = true
joins (operator_end minus) code minus = true
joins (operator_end minus) code minus_minus = true
joins (operator_end bang) code minus_minus = ends_in_less_bang code
joins (operator_end bang) code equal_equal = true
joins (operator_end bang) code equal_equal_equal = true
joins ending code sign = false

abbrev pub dot_joins : Ending → Bool
dot_joins number_end = true
dot_joins ending = false

abbrev pub number_ending : Bool → Ending
number_ending true = number_end
number_ending false = other_end

abbrev pub ends_in_escapes : Ending → Bool
ends_in_escapes escaped_name_end = true
ends_in_escapes regular_expression_end = true
ends_in_escapes ending = false

-- a word would go on with what the code ends in: its last character goes in a word, or it ends in a name with escapes, maybe in
-- `}`, or in a regular expression, whose flags the word would be
abbrev pub is_apart : Ending → List ℕ → Bool
is_apart ending code = ends_in_escapes ending || ends_in_word code

abbrev pub name_ending : Bool → Ending
name_ending true = escaped_name_end
name_ending false = other_end

-- ---- steps that depend on a flag

-- a text that may be left out leaves what begins here as it is
abbrev pub unless_printed : Bool → Start → Start
unless_printed true start = nowhere
unless_printed false start = start

-- What begins here may not begin so: a statement or an arrow function's body with a brace, a statement or a default export with the
-- word of a declaration (ECMA-262, 14.5, 15.3 and 16.2.3)
abbrev pub is_barred : Opener → Start → Bool
is_barred a_brace statement = true
is_barred a_brace arrow_body = true
is_barred a_declaration statement = true
is_barred a_declaration default_export = true
is_barred opener start = false

abbrev pub ending_unless : Bool → Ending → Ending
ending_unless true ending = other_end
ending_unless false ending = ending

abbrev pub text_if : Bool → List ℕ → List ℕ
text_if true text = text
text_if false text = []

-- the code goes on with this text where the test holds
abbrev pub written_if : Bool → List ℕ → Pen → Pen
written_if test text pen = record pen { code = pen.code ++ text_if test text; ending = ending_unless test pen.ending; start = unless_printed test pen.start }

-- what begins at the end of the code
abbrev pub begun_at : Start → Pen → Pen
begun_at start pen = record pen { start = start }

-- white text where the test holds: what began before it begins behind it
abbrev pub white_if : Bool → List ℕ → Pen → Pen
white_if test text pen = begun_at pen.start (written_if test text pen)

-- the levels' own indentation; an empty one leaves the pen as it is
abbrev pub indented : List ℕ → Pen → Pen
indented [] pen = pen
indented (c ∷ cs) pen = white_if true (c ∷ cs) pen

abbrev pub indent_or_space : Bool → Pen → Pen
indent_or_space true pen = record (white_if true (codes " ") pen) { pending_space = false }
indent_or_space false pen = indented (replicate (pen.depth * pen.style.width) pen.style.indent) pen

-- minified text has no indentation
abbrev pub at_indentation : Bool → Pen → Pen
at_indentation true pen = pen
at_indentation false pen = indent_or_space pen.pending_space pen

abbrev pub with_semicolon : Bool → Pen → Pen
with_semicolon pending pen = record pen { pending_semicolon = pending }

-- minified, the semicolon is left to what follows
abbrev pub end_statement : Bool → Pen → Pen
end_statement true pen = with_semicolon true pen
end_statement false pen = written (codes ";\n") other_end pen

abbrev pub print_due : Pen → Pen
print_due pen = record (written_if pen.pending_semicolon (codes ";") pen) { pending_semicolon = false }

abbrev pub deeper_level : Bool → ℕ → ℕ
deeper_level true depth = depth
deeper_level false depth = suc depth

-- ---- names

-- a name, apart from a word that the code ends in
abbrev pub with_name_written : List ℕ → Pen → Pen
with_name_written w pen = written (space_if (is_apart pen.ending pen.code) ++ name_text pen.style.ascii w) (name_ending (has_escapes pen.style.ascii w)) pen

-- a private name: no word goes on with `#`
abbrev pub with_private_name : List ℕ → Pen → Pen
with_private_name w pen = written (35 ∷ name_text pen.style.ascii w) (name_ending (has_escapes pen.style.ascii w)) pen

-- within the body of the next class
abbrev pub entered : Pen → Pen
entered pen = record pen { classes = classes_within pen.style.tables pen.next_class pen.classes; next_class = suc pen.next_class }

-- two names are printed the same
abbrev pub are_printed_alike : Tables → Named → Named → Bool
are_printed_alike tables m n = bytes_eq (printed_name tables m) (printed_name tables n)

-- ---- regular expressions

-- behind `/` a pattern would begin a comment, and behind `<` one that begins with `script` the end of a page's script
abbrev pub is_barred_before : List ℕ → ℕ → Bool
is_barred_before pattern c = (c == 47) || ((c == 60) && begins_script pattern)

abbrev pub joins_pattern : List ℕ → List ℕ → Bool
joins_pattern code pattern = option_map_or (is_barred_before pattern) (last_or None code) false

-- the pattern between its slashes, and the flags
abbrev pub regular_expression_text : Bool → List ℕ → List ℕ → List ℕ
regular_expression_text ascii pattern flags = 47 ∷ (pattern_text ascii pattern ++ 47 ∷ flags)

-- ---- templates

-- the raw text of a piece, as it is printed, between what opens and what closes the part
abbrev pub part_text : TemplatePart → List ℕ → List ℕ
part_text whole_part raw = 96 ∷ (raw ++ 96 ∷ [])
part_text head_part raw = 96 ∷ (raw ++ codes "${")
part_text middle_part raw = 125 ∷ (raw ++ codes "${")
part_text tail_part raw = 125 ∷ (raw ++ 96 ∷ [])

-- ---- strings

-- where no backticks may stand, double quotes stand in their place
abbrev pub but_backticks : Quote → Quote
but_backticks Backtick = Double
but_backticks quote = quote

-- minified, the quote is the one that gives the shortest text
abbrev pub chosen_quote : Style → Bool → List ℕ → Quote
chosen_quote style backticks units = if style.minified then cheapest backticks units else (if backticks then style.quote else but_backticks style.quote)

-- the quote of a first statement, which minified stands in no parentheses
abbrev pub first_quote : Style → Quote
first_quote style = if style.minified then Backtick else style.quote

-- a directive: the raw text between its quotes
abbrev pub directive_quoted : Style → List ℕ → List ℕ
directive_quoted style raw = quote_char (directive_quote style.quote raw) ∷ (directive_text style.ascii raw ++ quote_char (directive_quote style.quote raw) ∷ [])

-- ---- cases

-- what leads to the one statement of a case
abbrev pub led : Lead → Pen → Pen
led to_block pen = written_if (not pen.style.minified) (codes " ") pen
led to_body pen = record pen { pending_space = true }
led (to_empty s) pen = pen

-- ---- arguments

-- what stands before an argument, where all stand on one line
abbrev pub on_one_line : Break → Pen → Pen
on_one_line (first_argument o) pen = pen
on_one_line (other_argument o) pen = written_if (not pen.style.minified) (codes " ") pen
on_one_line (import_source o) pen = pen
on_one_line import_options pen = written_if (not pen.style.minified) (codes " ") pen

-- ---- the whole

-- the pen after the items: of two, after the second from where the first ends
abbrev pub layout : Items → Pen → Pen
layout nothing pen = pen
layout (a ⊕ b) pen = layout b (layout a pen)
layout (word w) pen = written (space_if (is_apart pen.ending pen.code) ++ w) other_end pen
layout (name span n) pen = with_name_written (printed_name pen.style.tables n) pen
layout (private_name span w) pen = with_private_name (printed_private pen.style.tables pen.classes w) pen
layout (number dot_is_its_own w) pen = written (space_if (is_apart pen.ending pen.code) ++ w) (number_ending dot_is_its_own) pen
layout (literal w) pen = written w other_end pen
layout (regular_expression pattern flags) pen = written (space_if (joins_pattern pen.code pattern) ++ regular_expression_text pen.style.ascii pattern flags) regular_expression_end pen
layout (template_part part tagged span raw) pen = written (part_text part (template_text tagged pen.style.minified pen.style.ascii raw)) other_end pen
layout (string backticks units) pen = written (quoted (chosen_quote pen.style backticks units) pen.style.ascii units) other_end pen
layout (first_string units) pen = written (quoted (first_quote pen.style) pen.style.ascii units) other_end pen
layout (directive raw) pen = written (directive_quoted pen.style raw) other_end pen
layout (punctuator p) pen = written (punctuator_text p) other_end pen
layout (operator p) pen = written (space_if (joins pen.ending pen.code p) ++ punctuator_text p) (operator_end p) pen
layout member_dot pen = written (space_if (dot_joins pen.ending) ++ codes ".") other_end pen
layout soft_space pen = written_if (not pen.style.minified) (codes " ") pen
layout soft_line pen = written_if (not pen.style.minified) (codes "\n") pen
layout hard_space pen = written (codes " ") other_end pen
layout indentation pen = at_indentation pen.style.minified pen
layout body_space pen = record pen { pending_space = true }
layout (deeper items) pen = record (layout items (record pen { depth = deeper_level pen.style.minified pen.depth })) { depth = pen.depth }
layout (in_class items) pen = record (layout items (entered pen)) { classes = pen.classes }
layout (brackets b items) pen = written (closing b) other_end (layout items (written (opening b) other_end pen))
layout (wrapped test items) pen = written_if test (closing Round) (layout items (written_if test (opening Round) pen))
layout (wrapped_at_start test opener items) pen = written_if (test || is_barred opener pen.start) (closing Round) (layout items (written_if (test || is_barred opener pen.start) (opening Round) pen))
layout (parentheses_unless_minified items) pen = written_if (not pen.style.minified) (closing Round) (layout items (written_if (not pen.style.minified) (opening Round) pen))
layout (unless_minified items) pen = if pen.style.minified then pen else layout items pen
layout (where_same m n a b) pen = if are_printed_alike pen.style.tables m n then layout a pen else layout b pen
layout statement_end pen = end_statement pen.style.minified pen
layout due_semicolon pen = print_due pen
layout drop_semicolon pen = with_semicolon false pen
layout statement_begins pen = record pen { start = statement }
layout arrow_body_begins pen = record pen { start = arrow_body }
layout default_export_begins pen = record pen { start = default_export }
-- none of the text are marks, comments and annotations, which `lay` has
layout (marked_word span w) pen = written (space_if (is_apart pen.ending pen.code) ++ w) other_end pen
layout (marked_operator span p) pen = written (space_if (joins pen.ending pen.code p) ++ punctuator_text p) (operator_end p) pen
layout (marked_number span dot_is_its_own w) pen = written (space_if (is_apart pen.ending pen.code) ++ w) (number_ending dot_is_its_own) pen
layout (marked_indentation always span) pen = at_indentation pen.style.minified pen
layout apart pen = white_if (is_apart pen.ending pen.code) (codes " ") pen
layout (mark span) pen = pen
layout (end_mark span) pen = pen
layout (link_mark span) pen = pen
layout (comments manner offset) pen = pen
layout (orphans offset) pen = pen
layout (orphan_lines offset) pen = pen
layout (empty_body offset) pen = pen
layout (held offset items) pen = layout items pen
layout (lined_case only items) pen = layout items (led only.lead pen)
layout (caught start body items) pen = layout items pen
layout (annotation test kind offset) pen = pen
layout (annotation_line indented test offset) pen = pen
layout (annotated call items) pen = written_if call.wrapped (closing Round) (layout items (written_if call.wrapped (opening Round) pen))
layout (commented offset items) pen = begun_at nowhere (written_if (is_barred a_brace pen.start) (closing Round) (layout items (begun_at nowhere (written_if (is_barred a_brace pen.start) (opening Round) pen))))
layout (member_line offset) pen = at_indentation pen.style.minified (written_if (not pen.style.minified) (codes "\n") pen)
layout (member_space offset) pen = written_if (not pen.style.minified) (codes " ") pen
layout (in_lines lines starts end items) pen = layout items pen
layout (line_break at) pen = on_one_line at pen

-- before anything is printed
abbrev pub empty_pen : Style → ℕ → Pen
empty_pen style depth = record { style = style; code = []; depth = depth; pending_space = false; pending_semicolon = false; ending = other_end; start = statement; classes = []; next_class = 0; marks = []; store = empty_store; annotations = []; lines = false }

-- the style of these options and tables
abbrev pub style_of : Options → Tables → Style
style_of options tables = record {
  minified = options.minify;
  ascii = options.ascii_only;
  quote = if options.single_quote then Single else Double;
  indent = indent_code options.indent_char;
  width = options.indent_width;
  tables = tables;
  source = None;
  annotated = options.comments.annotation;
}
