-- What is printed of some comments, worked out by hand: what the laws state exactly isn't what one would think of them.
use Rattle.std.proofs.Common.{◌≡◌, ℕ, false, List, [], ◌∷◌, ◌++◌, codes, refl}
use Rattle.jsgen_syntax.specs.Raw.{tag_free_after}
use Rattle.jsgen_tree.specs.Job.{no_tables}
use Rattle.jsgen_tree.specs.Options.{default_options}
use Rattle.jsgen_tree.specs.declared.statements.CommentKind.{CommentKind}
use Rattle.jsgen_tree.specs.declared.statements.CommentKind.TheVariants as kinds
use Rattle.jsgen_tree.specs.declared.statements.CommentContent.TheVariants as contents
use Rattle.jsgen_model.specs.Comments.{Comment}
use Rattle.jsgen_model.specs.Groups.{comment_written}
use Rattle.jsgen_model.specs.Layout.{Pen, style_of, empty_pen}

-- one level in, behind this code
abbrev pen_behind : List ℕ → Pen
pen_behind code = record (empty_pen (style_of default_options no_tables) 1) { code = code }

-- of this kind and text
abbrev of_kind : CommentKind → List ℕ → Comment
of_kind kind text = record { text = text; kind = kind; content = contents.Normal; newline_before = false; newline_behind = false }

-- what stands behind the code
abbrev Prints : List ℕ → CommentKind → List ℕ → List ℕ → Type 0
Prints code kind text printed = (comment_written (of_kind kind text) (pen_behind code)).code ≡ code ++ printed

script : Prints (codes "a;") kinds.Line (codes "// </SCRIPT>") (codes "// <\\/SCRIPT>")
unfolding tag_free_after
script = refl

-- lines get the indentation of the level, whatever stood there, and ends their own: here CR LF
indented : Prints (codes "a;\n\t") kinds.MultiLineBlock (codes "/* a  b\r\n     \r\n     c */") (codes "/* a  b\n\t\n\tc */")
unfolding tag_free_after
indented = refl

-- U+00A0 is white space, and U+2028 ends a line
white : Prints [] kinds.MultiLineBlock (codes "/*" ++ 8232 ∷ 160 ∷ codes "*/") (codes "/*\n\t*/")
unfolding tag_free_after
white = refl

-- the first line ends as a block does
joined : Prints [] kinds.MultiLineBlock (codes "/*/\n*/") (codes "/*/\t*/")
unfolding tag_free_after
joined = refl

-- `-->` in mid-line, and where a line begins
mid_line : Prints (codes "a;\nb; ") kinds.HtmlClose (codes "--> c") (codes "// c")
unfolding tag_free_after
mid_line = refl

at_start : Prints (codes "a;\n\t") kinds.HtmlClose (codes "--> c") (codes "--> c")
unfolding tag_free_after
at_start = refl
