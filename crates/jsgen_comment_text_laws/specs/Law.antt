-- What is printed of a comment, and what the source has of it.
use Rattle.std.specs.Prelude.{◌≡◌, ◌⊎◌, List, [], ◌∷◌, ◌++◌, drop, map, filter, codes, Bool, true, false, ℕ, Contains}
use Rattle.std.specs.Char.{is_not_whitespace}
use Rattle.std.specs.Str.{bytes_eq, skip_leading_whitespace}
use Rattle.jsgen_syntax.specs.Raw.{tag_free}
use Rattle.jsgen_tree.specs.Job.{JobData}
use Rattle.jsgen_tree.specs.Tree.{Atoms}
use Rattle.jsgen_tree.specs.declared.statements.CommentKind.{CommentKind}
use Rattle.jsgen_tree.specs.declared.statements.CommentKind.TheVariants as kinds
use Rattle.jsgen_model.specs.Comments.{Comment, comment_at}
use Rattle.jsgen_model.specs.Ends.{rows_of}
use Rattle.jsgen_model.specs.Groups.{lines_of, is_mid_line, comment_written}
use Rattle.jsgen_model.specs.Layout.{Pen}
use Rattle.jsgen_model.specs.Spell.{comments_in, source_bytes, first_pen}
use Rattle.jsgen_model.specs.Valid.{IsValid, begins_with_mark, ends_at_close, is_comment, text_at}
use Rattle.jsgen_comment_laws.specs.Stand.{Waiting, IsIndentedByBlanks, IsTextOf, IsTextInPlace, kept_comments, annotation_comments}

-- ---- what stands in place of a comment

-- `-->` begins a comment only at the start of a line (ECMA-262, B.1.1): elsewhere a line comment stands in its place
abbrev pub kind_in_place : Bool → CommentKind → CommentKind
kind_in_place true kinds.HtmlClose = kinds.Line
kind_in_place mid_line kind = kind

abbrev pub text_in_place : Bool → CommentKind → List ℕ → List ℕ
text_in_place true kinds.HtmlClose text = codes "//" ++ drop 3 text
text_in_place mid_line kind text = text

abbrev pub is_on_one_line : CommentKind → Bool
is_on_one_line kinds.MultiLineBlock = false
is_on_one_line kind = true

-- ---- one comment

-- the characters that aren't white space, be it past ASCII
abbrev pub dark_of : List ℕ → List ℕ
dark_of text = filter is_not_whitespace text

-- the lines, without the white space that they begin with
abbrev pub bare_lines : List ℕ → List (List ℕ)
bare_lines text = map skip_leading_whitespace (lines_of text)

-- the first line is `/*/`: no line end is printed behind it
abbrev pub begins_closed : List (List ℕ) → Bool
begins_closed [] = false
begins_closed (l ∷ ls) = bytes_eq l (codes "/*/")

-- the text is a comment of this kind, though where the test holds a block of several lines may be on one
abbrev pub is_printed_comment : Bool → CommentKind → List ℕ → Bool
is_printed_comment true kinds.MultiLineBlock text = begins_with_mark (codes "/*") ends_at_close text
is_printed_comment closed kind text = is_comment kind text

-- What a comment adds to the code of a pen: its own characters, with a backslash before the `/` of each `</script`
pub record CommentText (c : Comment) (pen : Pen) : Type 0 where
  pub text : List ℕ
  pub is : (comment_written c pen).code ≡ pen.code ++ text
  -- but for white space they are just these
  pub dark : dark_of text ≡ dark_of (tag_free (text_in_place (is_mid_line pen.code) c.kind c.text))
  -- on one line white space too is as it was
  pub whole : is_on_one_line c.kind ≡ true → text ≡ tag_free (text_in_place (is_mid_line pen.code) c.kind c.text)
  -- and on several lines so it is, but for what lines begin with
  pub lines : is_on_one_line c.kind ≡ false → is_comment c.kind c.text ≡ true → begins_closed (lines_of c.text) ≡ false → bare_lines text ≡ map tag_free (bare_lines c.text)
  -- it is a comment of its kind, if that is one
  pub stays : is_comment c.kind c.text ≡ true → is_printed_comment (begins_closed (lines_of c.text)) (kind_in_place (is_mid_line pen.code) c.kind) text ≡ true

-- only a block of several lines has indentation in it
abbrev pub CommentsKeepTexts : Type 0
CommentsKeepTexts = (c : Comment) (pen : Pen) → (is_on_one_line c.kind ≡ false → IsIndentedByBlanks pen) → CommentText c pen

abbrev pub JobsIndentByBlanks : Type 0
JobsIndentByBlanks = (job : JobData) → IsIndentedByBlanks (first_pen job)

-- The same of a text alone, as that at a comment's place, which comes from some pen
pub record OwnText (c : Comment) (own : List ℕ) : Type 0 where
  -- as it is in mid-line, or as at the start of a line
  pub mid_line : Bool
  pub dark : dark_of own ≡ dark_of (tag_free (text_in_place mid_line c.kind c.text))
  pub whole : is_on_one_line c.kind ≡ true → own ≡ tag_free (text_in_place mid_line c.kind c.text)
  pub lines : is_on_one_line c.kind ≡ false → is_comment c.kind c.text ≡ true → begins_closed (lines_of c.text) ≡ false → bare_lines own ≡ map tag_free (bare_lines c.text)
  pub stays : is_comment c.kind c.text ≡ true → is_printed_comment (begins_closed (lines_of c.text)) (kind_in_place mid_line c.kind) own ≡ true

-- it holds of the own text at each place, and of a comment on one line also where nothing is known of the pen
abbrev pub OwnTexts : Type 0
OwnTexts = (c : Comment) (own : List ℕ) → (IsTextInPlace c own ⊎ ((is_on_one_line c.kind ≡ true) × IsTextOf c own)) → OwnText c own

-- ---- the comments of a job

-- it is what the source has at the span of this row of the program, and is a comment of its kind
pub record IsOfSource (job : JobData) (c : Comment) : Type 0 where
  pub row : Atoms
  pub is_row : Contains (rows_of (comments_in job.program)) row
  pub is : c ≡ comment_at (source_bytes job) row
  pub text : c.text ≡ text_at (source_bytes job) row.span
  pub is_one : is_comment c.kind c.text ≡ true

-- each row of a valid job's comments, among which are all licences, is in the source
abbrev pub RowsAreOfSource : Type 0
RowsAreOfSource = (job : JobData) → IsValid job → (row : Atoms) → Contains (rows_of (comments_in job.program)) row → IsOfSource job (comment_at (source_bytes job) row)

-- so is each comment and each annotation that is kept
abbrev pub KeptAreOfSource : Type 0
KeptAreOfSource = (job : JobData) → IsValid job → (w : Waiting) → Contains (kept_comments job ++ annotation_comments job) w → IsOfSource job w.comment
