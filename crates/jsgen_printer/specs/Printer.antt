-- What a printer stands for: a pen of the layout.
use Rattle.std.specs.Prelude.{ℕ, List, [], ◌∷◌, Bool, true, false, nat_lt, take, map, reverse, Option, Some, None}
use Rattle.std.specs.List.{list_all}
use Rattle.std.specs.Str.{chars}
use Rattle.jsgen_syntax.specs.Buffer.{buffer_bytes, indent_byte, indent_width}
use Rattle.jsgen_tree.specs.Job.{Tables}
use Rattle.jsgen_tree.specs.Scoping.{tables_plain}
use Rattle.jsgen_model.specs.Punctuator as punctuators
use Rattle.jsgen_model.specs.Layout as layouts
pub use Rattle.jsgen_model.specs.Lay.{name_written}
use Rattle.jsgen_model.specs.Layout.{Pen, is_apart, joins, deeper_level}
use Rattle.jsgen_model.specs.Items as items
use Rattle.jsgen_model.specs.Items.{Items, word, operator}
use Rattle.jsgen_model.specs.Operators.{operator_item, unary_sign, update_item}
use Rattle.jsgen_map.specs.Marks as marks
use Rattle.jsgen_map.specs.Plain.{mark_plain}
use Rattle.jsgen_comments.specs.Plain.{comment_plain, group_plain, store_of, annotations_of}
use Rattle.jsgen_comments.specs.declared.comments.Comments.{Comments}
use Rattle.jsgen_comments.specs.declared.comments.Group.{Group}
use Rattle.jsgen_model.specs.Comments.{Comment, Store, Groups, empty_store}
use Rattle.jsgen_model.specs.Groups.{case_ended}
use Rattle.jsgen_printer.specs.declared.printer.annotations.OneOf.{OneOf}
use Rattle.jsgen_printer.specs.declared.printer.comments.CommentsBefore.{CommentsBefore}
use Rattle.jsgen_printer.specs.declared.printer.comments.CommentsBefore.TheVariants as befores
use Rattle.jsgen_printer.specs.declared.printer.comments.Lead.{Lead}
use Rattle.jsgen_printer.specs.declared.printer.comments.Lead.TheVariants as leads
use Rattle.jsgen_printer.specs.declared.printer.lines.ArgumentLines.{ArgumentLines}
use Rattle.jsgen_printer.specs.declared.printer.lines.ArgumentLines.TheVariants as lines
use Rattle.jsgen_printer.specs.declared.marks.Marks.{Marks}
use Rattle.jsgen_printer.specs.declared.printer.Printer.{Printer}
use Rattle.jsgen_printer.specs.declared.printer.Bracket.{Bracket}
use Rattle.jsgen_printer.specs.declared.printer.Bracket.TheVariants as brackets
use Rattle.jsgen_printer.specs.declared.printer.Ending.{Ending}
use Rattle.jsgen_printer.specs.declared.printer.Ending.TheVariants as endings
use Rattle.jsgen_printer.specs.declared.operator.Operator.{Operator}
use Rattle.jsgen_printer.specs.declared.operator.Operator.TheVariants as operators
use Rattle.jsgen_printer.specs.declared.printer.Start.{Start}
use Rattle.jsgen_printer.specs.declared.printer.Start.TheVariants as starts
use Rattle.jsgen_printer.specs.declared.printer.templates.TemplatePart.{TemplatePart}
use Rattle.jsgen_printer.specs.declared.printer.templates.TemplatePart.TheVariants as parts

-- what the code ends in after an item: a sign may join the next one
abbrev pub end_of : Items → layouts.Ending
end_of (operator sign) = layouts.operator_end sign
end_of item = layouts.other_end

-- a space stands before the item: a word apart from what it would go on with, a sign from one that it would join
abbrev pub stands_apart : Items → Pen → Bool
stands_apart (word w) pen = is_apart pen.ending pen.code
stands_apart (operator sign) pen = joins pen.ending pen.code sign
stands_apart item pen = false

abbrev pub bracket_of : Bracket → punctuators.Bracket
bracket_of brackets.Round = punctuators.Round
bracket_of brackets.Square = punctuators.Square
bracket_of brackets.Brace = punctuators.Brace

-- the item of an operator
abbrev pub sign_of : Operator → Items
sign_of (operators.Binary o) = operator_item o
sign_of (operators.Unary o) = unary_sign o
sign_of (operators.Update o) = update_item o

abbrev pub ending_of : Ending → layouts.Ending
ending_of endings.Other = layouts.other_end
ending_of (endings.Operator o) = end_of (sign_of o)
ending_of endings.Number = layouts.number_end
ending_of endings.EscapedName = layouts.escaped_name_end
ending_of endings.RegularExpression = layouts.regular_expression_end

abbrev pub start_of : Start → layouts.Start
start_of starts.Nowhere = layouts.nowhere
start_of starts.Statement = layouts.statement
start_of starts.ArrowBody = layouts.arrow_body
start_of starts.DefaultExport = layouts.default_export

abbrev pub part_of : TemplatePart → items.TemplatePart
part_of parts.Whole = items.whole_part
part_of parts.Head = items.head_part
part_of parts.Middle = items.middle_part
part_of parts.Tail = items.tail_part

-- the marks so far, and the bytes of the source that they lead to; none of either where no source map is wanted
abbrev pub marks_plain : Option Marks → List marks.Mark
marks_plain None = []
marks_plain (Some m) = map mark_plain m.list.items

abbrev pub source_plain : Option Marks → Option (List ℕ)
source_plain None = None
source_plain (Some m) = Some m.source.now

-- the comments that are still to be printed
abbrev pub store_plain : Option Comments → Store
store_plain None = empty_store
store_plain (Some c) = store_of c

-- and the annotations
abbrev pub annotations_plain : Option Comments → Groups
annotations_plain None = []
annotations_plain (Some c) = annotations_of c

-- comments that have left the store, if any
abbrev pub group_of : Option Group → List Comment
group_of None = []
group_of (Some g) = group_plain g

-- a comment of a source
abbrev pub one_plain : OneOf → Comment
one_plain o = comment_plain o.source.now o.comment

-- what leads to the one statement of a case
abbrev pub lead_of : Lead → items.Lead
lead_of leads.Block = items.to_block
lead_of (leads.Empty s) = items.to_empty s
lead_of leads.Body = items.to_body

-- which comments stand before an expression
abbrev pub manner_of : CommentsBefore → items.Manner
manner_of befores.All = items.before_it
manner_of befores.ForTools = items.annotation_before_it

-- the level of a case, where its one statement stands on a line of its own
abbrev pub level_if : Bool → ℕ → Option ℕ
level_if true depth = Some depth
level_if false depth = None

-- the pen behind the one statement of a case
abbrev pub case_behind : Option ℕ → ℕ → Pen → Pen
case_behind None end pen = pen
case_behind (Some depth) end pen = case_ended true depth end pen

-- the pen, whose code is the characters of the buffer's bytes
unfoldable pub pen_of : Printer → Pen
pen_of p = record {
  style = record { minified = p.minify; ascii = p.ascii_only; quote = p.quote; indent = indent_byte p.code; width = indent_width p.code; tables = tables_plain p.scope.tables; source = source_plain p.marks; annotated = p.annotated };
  code = chars (buffer_bytes p.code);
  depth = p.depth;
  pending_space = p.pending_space;
  pending_semicolon = p.pending_semicolon;
  ending = ending_of p.ending;
  start = start_of p.start;
  classes = reverse p.scope.classes.items;
  next_class = p.next_class;
  marks = marks_plain p.marks;
  store = store_plain p.comments;
  annotations = annotations_plain p.comments;
  lines = p.lines;
}

-- the same pen, by whose tables names are printed from here on
abbrev pub by_tables : Tables → Pen → Pen
by_tables tables pen = record pen { style = record pen.style { tables = tables } }

-- the same pen, behind whose marks others may follow
abbrev pub by_marks : Marks → Pen → Pen
by_marks m pen = record pen { style = record pen.style { source = Some m.source.now }; marks = map mark_plain m.list.items }

-- the same pen, with these comments and annotations to be printed
abbrev pub by_comments : Store → Groups → Pen → Pen
by_comments store annotations pen = record pen { store = store; annotations = annotations }

-- whether arguments stand on lines, whose they are
abbrev pub lines_of : ArgumentLines → items.Lines
lines_of lines.Call = items.of_call false
lines_of lines.QuotedCall = items.of_call true
lines_of lines.Import = items.of_import

-- the pen behind a text that was handed in; an empty one leaves what the code ends in as it is
abbrev pub unless_empty : List ℕ → Pen → Pen → Pen
unless_empty [] before behind = before
unless_empty (c ∷ cs) before behind = behind

-- the pen one level deeper, and at a level
abbrev pub deepened : Pen → Pen
deepened pen = record pen { depth = deeper_level pen.style.minified pen.depth }

abbrev pub at_depth : ℕ → Pen → Pen
at_depth depth pen = record pen { depth = depth }

-- of the classes round here these many stay, the outermost ones
abbrev pub within_outer : ℕ → Pen → Pen
within_outer n pen = record pen { classes = reverse (take n (reverse pen.classes)) }

-- each byte of the text is ASCII
abbrev pub is_ascii : List ℕ → Bool
is_ascii bytes = list_all (λ b. nat_lt b 128) bytes
