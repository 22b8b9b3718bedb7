-- What the head of a loop, a label, a case or `else` is followed by, whatever statement it is.
use Rattle.std.proofs.Common.{◌≡◌, Bool, false, refl, sym, ap}
use Rattle.jsgen_tree.specs.Job.{Tables}
use Rattle.jsgen_tree.specs.Inside.{ends_open}
use Rattle.jsgen_tree.specs.Tree.{Tree, Atoms}
use Rattle.jsgen_tree.specs.Nodes as tree
use Rattle.jsgen_model.specs.Punctuator.{semicolon}
use Rattle.jsgen_model.specs.Tokens.{done, piece, Sign}
use Rattle.jsgen_model.specs.Items.{Items, ◌⊕◌, punctuator, soft_space, soft_line, body_space}
use Rattle.jsgen_model.specs.Layout.{layout}
use Rattle.jsgen_model.specs.Grammar.{Allowed}
use Rattle.jsgen_model.specs.Grammar as grammar
use Rattle.jsgen_model.specs.Normal.{normal, nothing_of}
use Rattle.jsgen_model.specs.Renamed.{renamed}
use Rattle.jsgen_place.specs.Place.{among_statements, within_statement}
use Rattle.jsgen_model.specs.Spell.{spell, shape, body_items}
use Rattle.jsgen_place.specs.declared.shape.Shape.{Shape}
use Rattle.jsgen_place.specs.declared.shape.Shape.TheVariants as shapes
use Rattle.jsgen_token_laws.proofs.Last.{After, line_of}
use Rattle.jsgen_token_laws.proofs.Steps.{gap, wrote_semicolon, soft_space_written, soft_line_written, body_space_written}
use Rattle.jsgen_row_laws.proofs.Ends.{ends_itself}
use Rattle.jsgen_row_laws.proofs.Stands.{StandsAt, BlankAt, ReadsClosed, StatedAt, goes_on, Stated, stated_among, behind_blank, before_blank, indented_line}

-- ---- empty statements

-- the semicolon of an empty statement, which is printed at once
pub good_semicolon : {names : Tables} {Same : Tree → Type 0} (c : Allowed) (is_open : Bool) → Same (tree.empty_statement (nothing_of 0)) → StandsAt names (ReadsClosed c is_open) Same (punctuator semicolon)
good_semicolon c is_open h p l z y k = record {
  last = After (Sign semicolon);
  tokens = piece (line_of l) (Sign semicolon) done;
  writes = wrote_semicolon p (layout (punctuator semicolon) p) l refl refl k;
  ready = tt;
  reading = tree.empty_statement (nothing_of 0);
  reads = ends_itself z (λ e before_else n. grammar.an_empty_statement);
  same = h;
}

pub good_empty : {names : Tables} (c : Allowed) (a : Atoms) → Stated names c (tree.empty_statement a)
good_empty {names} c a = stated_among refl (indented_line (punctuator semicolon ⊕ soft_line) (before_blank (punctuator semicolon) soft_line (good_semicolon c false refl) soft_line_written))

-- what is spelled as an empty statement is one
abbrev pub EmptyAlone : Tables → Tree → Type 0
EmptyAlone names t = shape t ≡ shapes.Empty → normal (renamed names t) ≡ tree.empty_statement (nothing_of 0)

-- ---- blanks before a body

pub soft_blank : {names : Tables} → BlankAt names soft_space
soft_blank p l k = gap (soft_space_written p l k)

pub body_blank : {names : Tables} → BlankAt names body_space
body_blank p l k = gap (body_space_written p l k)

-- ---- bodies

pub good_body : {names : Tables} (c : Allowed) (t : Tree) → EmptyAlone names t → Stated names c t → StatedAt names c t (body_items (shape t) (spell t within_statement) (spell t among_statements))
good_body {names} c t m f = by_shape (shape t) refl
  where
    inner : Items
    inner = spell t within_statement

    whole : Items
    whole = spell t among_statements

    by_shape : (s : Shape) → shape t ≡ s → StatedAt names c t (body_items s inner whole)
    by_shape shapes.Block i = behind_blank soft_space (inner ⊕ soft_line) soft_blank (before_blank inner soft_line (f.within (ap goes_on i)) soft_line_written)
    by_shape shapes.Empty i = before_blank (punctuator semicolon) soft_line (good_semicolon c (ends_open t) (sym (m i))) soft_line_written
    by_shape s i = behind_blank body_space whole body_blank (f.among)
