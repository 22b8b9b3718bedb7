-- The plain data of what a caller can choose about a text.
use Rattle.std.specs.Prelude.{ℕ, List, Bool, true, false, Option, None, option_map}
use Rattle.jsgen_syntax.specs.declared.buffer.IndentChar.{IndentChar}
use Rattle.jsgen_syntax.specs.declared.buffer.IndentChar.TheVariants.{Tab}
use Rattle.jsgen_tree.specs.Characters.{characters}
use Rattle.jsgen_tree.specs.declared.options.LegalComment.{LegalComment}
use Rattle.jsgen_tree.specs.declared.options.LegalComment.TheVariants as legals
use Rattle.jsgen_tree.specs.declared.options.CommentOptions.{CommentOptions}
use Rattle.jsgen_tree.specs.declared.options.CodegenOptions.{CodegenOptions}

-- what becomes of the comments that hold a licence
pub data Legal : Type 0 where
  left_out : Legal
  inline : Legal
  at_end : Legal
  linked : List ℕ → Legal
  external : Legal

-- which comments are printed
pub record Comments : Type 0 where
  pub normal : Bool
  pub jsdoc : Bool
  pub annotation : Bool
  pub legal : Legal

pub record Options : Type 0 where
  pub single_quote : Bool
  pub minify : Bool
  pub ascii_only : Bool
  pub comments : Comments
  pub source_map_path : Option (List ℕ)
  pub indent_char : IndentChar
  pub indent_width : ℕ
  pub initial_indent : ℕ

abbrev pub is_none : Legal → Bool
is_none left_out = true
is_none other = false

abbrev pub is_inline : Legal → Bool
is_inline inline = true
is_inline other = false

abbrev pub is_eof : Legal → Bool
is_eof at_end = true
is_eof other = false

abbrev pub legal_plain : LegalComment → Legal
legal_plain legals.None = left_out
legal_plain legals.Inline = inline
legal_plain legals.Eof = at_end
legal_plain (legals.Linked path) = linked (characters path)
legal_plain legals.External = external

abbrev pub comments_plain : CommentOptions → Comments
comments_plain c = record { normal = c.normal; jsdoc = c.jsdoc; annotation = c.annotation; legal = legal_plain c.legal }

abbrev pub options_plain : CodegenOptions → Options
options_plain o = record {
  single_quote = o.single_quote;
  minify = o.minify;
  ascii_only = o.ascii_only;
  comments = comments_plain o.comments;
  source_map_path = option_map characters o.source_map_path;
  indent_char = o.indent_char;
  indent_width = o.indent_width;
  initial_indent = o.initial_indent;
}

-- ---- the choices that have names

abbrev pub default_legal : Legal
default_legal = inline

abbrev pub default_comments : Comments
default_comments = record { normal = true; jsdoc = true; annotation = true; legal = default_legal }

abbrev pub no_comments : Comments
no_comments = record { normal = false; jsdoc = false; annotation = false; legal = left_out }

abbrev pub default_options : Options
default_options = record {
  single_quote = false;
  minify = false;
  ascii_only = false;
  comments = default_comments;
  source_map_path = None;
  indent_char = Tab;
  indent_width = 1;
  initial_indent = 0;
}

abbrev pub minified_options : Options
minified_options = record default_options { minify = true; comments = no_comments }
