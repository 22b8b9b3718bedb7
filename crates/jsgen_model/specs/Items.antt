-- What a row of the printer prints: items, joined as a tree. Texts are lists of characters.
use Rattle.std.specs.Prelude.{ℕ, List, Bool}
use Rattle.jsgen_syntax.specs.declared.span.Span.{Span}
use Rattle.jsgen_tree.specs.Named.{Named}
use Rattle.jsgen_model.specs.Punctuator.{Punctuator, Bracket}

-- what a text may not begin with where it may not begin with it: an object's brace, or a declaration's word
pub data Opener : Type 0 where
  a_brace a_declaration : Opener

-- Which comments at an offset a row prints, and what stands behind them: the group; the group with a space, in place of any that is
-- due, or with one that is due. Before an expression what is due stands behind the group: indentation on a new line, and else a space.
-- It may be the group where it holds an annotation, or one of a property's key, or none
pub data Manner : Type 0 where
  all_of_them then_space with_due_space before_it annotation_before_it with_key_annotation none_of_them : Manner

-- what leads to the one statement of a case: to a block, to an empty statement of a span, or to any other
pub data Lead : Type 0 where
  to_block to_body : Lead
  to_empty : Span → Lead

-- what an annotation says of a call or a function: it is pure, or it has no side effects
pub data Annotation : Type 0 where
  is_pure no_side_effects : Annotation

-- a call that may be annotated as pure
pub record AnnotatedCall : Type 0 where
  -- it stands in parentheses
  pub wrapped : Bool
  -- it stands in them where its annotation is printed
  pub lifted : Bool
  -- it is pure, and its annotation says so
  pub pure : Bool
  -- the span whose mark stands before the annotation
  pub span : Span
  -- where the call begins, by which its annotation is found
  pub start : ℕ

-- the one statement of a case
pub record OnlyStatement : Type 0 where
  -- where the statement begins
  pub start : ℕ
  -- where the case ends
  pub end : ℕ
  -- what leads to the statement
  pub lead : Lead

-- whose arguments stand on lines: a call's, which minified never do where the test holds, or those of `import()`
pub data Lines : Type 0 where
  of_call : Bool → Lines
  of_import : Lines

-- what stands before an argument by its start: the first, another one, the source of `import()`, and its options
pub data Break : Type 0 where
  first_argument other_argument import_source : ℕ → Break
  import_options : Break

-- which part of a template a piece is, by what stands on each side of it: the whole, or what is before, between and behind its expressions (ECMA-262, 12.9.6)
pub data TemplatePart : Type 0 where
  whole_part head_part middle_part tail_part : TemplatePart

infixr 60 ◌⊕◌
pub data Items : Type 0 where
  nothing : Items
  ◌⊕◌ : Items → Items → Items
  -- a keyword, apart from a word before it
  word : List ℕ → Items
  -- a name as it is printed, apart from a word before it, with the mark of its span
  name : Span → Named → Items
  -- a private name behind its `#`, which needs no space before it, as it is printed, with the mark of its span
  private_name : Span → List ℕ → Items
  -- a number, apart from a word before it; the test holds where a dot behind it would be its own
  number : Bool → List ℕ → Items
  -- a text that needs no space before it
  literal : List ℕ → Items
  -- a regular expression by its pattern and its flags, apart from what it would make a comment or the end of a script with
  regular_expression : List ℕ → List ℕ → Items
  -- a part of a template by the raw text of its piece, whose mark stands behind a brace before it; the test holds where a tag sees that text
  template_part : TemplatePart → Bool → Span → List ℕ → Items
  -- a string by its units, in backticks only where the test holds
  string : Bool → List ℕ → Items
  -- a string that is a whole first statement, minified in backticks, so that it isn't read as a directive
  first_string : List ℕ → Items
  -- a directive, by the raw text between its quotes
  directive : List ℕ → Items
  punctuator : Punctuator → Items
  -- an operator's sign, apart from a sign before it that it would join
  operator : Punctuator → Items
  -- the dot of a member, apart from a number before it that it would join
  member_dot : Items
  -- a space and a line end that minified text leaves out, and a space that it keeps
  soft_space : Items
  soft_line : Items
  hard_space : Items
  -- the indentation of the level, or the one space that stands in its place
  indentation : Items
  -- one space is to stand in place of the next indentation
  body_space : Items
  deeper : Items → Items
  -- the body of a class, which has the next number
  in_class : Items → Items
  brackets : Bracket → Items → Items
  -- in parentheses where the test holds
  wrapped : Bool → Items → Items
  -- in parentheses where the test holds, or where what begins here may not begin so
  wrapped_at_start : Bool → Opener → Items → Items
  -- in parentheses, which minified text leaves out
  parentheses_unless_minified : Items → Items
  -- items that minified text leaves out
  unless_minified : Items → Items
  -- the first items where two names are printed the same, else the second
  where_same : Named → Named → Items → Items → Items
  -- the end of a statement; the semicolon that it may leave to what follows, printed or dropped
  statement_end : Items
  due_semicolon : Items
  drop_semicolon : Items
  -- the expression of an expression statement, an arrow function's body or a default export begins here
  statement_begins : Items
  arrow_body_begins : Items
  default_export_begins : Items
  -- marks of a source map: of the start of a span, of its end, and behind the object of a link
  mark : Span → Items
  end_mark : Span → Items
  link_mark : Span → Items
  -- a keyword, apart from a word before it, with the mark of the span that it begins; the same of an operator's sign and of a number
  marked_word : Span → List ℕ → Items
  marked_operator : Span → Punctuator → Items
  marked_number : Span → Bool → List ℕ → Items
  -- indentation, and where the level is above 0 or a space is pending the mark of a span behind it: in minified text, which prints neither,
  -- only where the test holds
  marked_indentation : Bool → Span → Items
  -- the space before a word, where a mark stands between them
  apart : Items
  -- the comments that belong to an offset, and those that belong to smaller ones and outlive their places
  comments : Manner → ℕ → Items
  orphans : ℕ → Items
  -- the same on lines of their own, in braces in which nothing else stands
  orphan_lines : ℕ → Items
  -- the inside of a body that ends before an offset, in which nothing stands but comments at its last byte
  empty_body : ℕ → Items
  -- the comments at the last byte before an offset, which are taken before the items, and are printed behind them
  held : ℕ → Items → Items
  -- the one statement of a case: behind what leads to it, or on a line of its own, where an orphan waits before it
  lined_case : OnlyStatement → Items → Items
  -- a `catch` by its start, and by that of its block, before which a space is due where comments stood at either
  caught : ℕ → ℕ → Items → Items
  -- an annotation of what has this offset, where the test holds, before what begins here
  annotation : Bool → Annotation → ℕ → Items
  -- an annotation of a function on a line of its own, where the second test holds, behind indentation where the first does
  annotation_line : Bool → Bool → ℕ → Items
  -- a call behind its annotation, where that is printed, and in parentheses where it stands in some, in which the annotation stands too
  annotated : AnnotatedCall → Items → Items
  -- an object by its start: in parentheses where comments stand there, which are printed in them, or where a brace may not begin here
  commented : ℕ → Items → Items
  -- what stands before a member of an object by its start: a line end and indentation, or a space, with comments
  member_line : ℕ → Items
  member_space : ℕ → Items
  -- arguments by their starts, and by the end of the call: on lines of their own, one level deeper, where comments stand at one of them or
  -- at the last byte of the call; and what stands before one of them
  in_lines : Lines → List ℕ → ℕ → Items → Items
  line_break : Break → Items
