-- What is carried through the induction for statements, declarations and rows of them.
use Rattle.std.proofs.Common.{◌≡◌, Bool, true, false, refl, sym, ◌∙◌, subst}
use Rattle.std.proofs.lemmas.Bool.{both_ways}
use Rattle.jsgen_tree.specs.Job.{Tables}
use Rattle.jsgen_tree.specs.Inside.{ends_open}
use Rattle.jsgen_tree.specs.Tree.{Tree, Trees}
use Rattle.jsgen_model.specs.Punctuator.{semicolon}
use Rattle.jsgen_model.specs.Tokens.{Tokens, done, piece, ◌⧺◌, Sign}
use Rattle.jsgen_model.specs.Items.{Items, ◌⊕◌, indentation, statement_end}
use Rattle.jsgen_model.specs.Layout.{Pen, layout, end_statement}
use Rattle.jsgen_model.specs.Grammar.{Allowed, ReadsStatement, ReadsItem}
use Rattle.jsgen_model.specs.Grammar as grammar
use Rattle.jsgen_model.specs.Normal.{normal, normal_trees}
use Rattle.jsgen_model.specs.Renamed.{renamed, renamed_trees}
use Rattle.jsgen_place.specs.Place.{among_statements, within_statement}
use Rattle.jsgen_model.specs.Spell.{spell, shape}
use Rattle.jsgen_place.specs.declared.shape.Shape.{Shape}
use Rattle.jsgen_place.specs.declared.shape.Shape.TheVariants as shapes
use Rattle.jsgen_token_laws.proofs.Last.{Last, Open, line_of, Ready, Begun, begun_ready, Knows}
use Rattle.jsgen_token_laws.proofs.Writes.{Writes, wrote_both, wrote_and_none}
use Rattle.jsgen_token_laws.proofs.Steps.{Gap, gap, indentation_written, end_written, end_left}
use Rattle.jsgen_row_laws.proofs.Ends.{Ends, ends_since, ends_behind, semicolon_behind}

-- Between two pens stand tokens that are read as `R` says, however they end. `Same` holds of what they are read as.
pub record Stands (names : Tables) {X : Type 0} (R : Bool → Tokens → X → Type 0) (Same : X → Type 0) (p : Pen) (l : Last) (q : Pen) : Type 0 where
  pub last : Last
  pub tokens : Tokens
  pub writes : Writes names p l q last tokens
  pub ready : Ready last
  pub reading : X
  pub reads : Ends (λ e ts. R e ts reading) q.pending_semicolon tokens
  pub same : Same reading

-- the same without its end
pub record Unended (names : Tables) {X : Type 0} (R : Bool → Tokens → X → Type 0) (Same : X → Type 0) (p : Pen) (l : Last) (q : Pen) : Type 0 where
  pub last : Last
  pub tokens : Tokens
  pub writes : Writes names p l q last tokens
  pub ready : Ready last
  pub semicolon : q.pending_semicolon ≡ false
  pub reading : X
  pub reads : Ends (λ e ts. R e ts reading) true tokens
  pub same : Same reading

-- these items are printed so from any pen
abbrev pub StandsAt : Tables → {X : Type 0} → (Bool → Tokens → X → Type 0) → (X → Type 0) → Items → Type 0
StandsAt names R Same items = (p : Pen) (l : Last) → p.pending_semicolon ≡ false → Ready l → Knows names p l → Stands names R Same p l (layout items p)

-- from any pen at which a member may begin
abbrev pub BegunAt : Tables → {X : Type 0} → (Bool → Tokens → X → Type 0) → (X → Type 0) → Items → Type 0
BegunAt names R Same items = (p : Pen) (l : Last) → p.pending_semicolon ≡ false → Begun l → Knows names p l → Stands names R Same p l (layout items p)

abbrev pub begun_at : {names : Tables} {X : Type 0} {R : Bool → Tokens → X → Type 0} {Same : X → Type 0} (items : Items) → StandsAt names R Same items → BegunAt names R Same items
begun_at items f p l z b k = f p l z (begun_ready l b) k

abbrev pub UnendedAt : Tables → {X : Type 0} → (Bool → Tokens → X → Type 0) → (X → Type 0) → Items → Type 0
UnendedAt names R Same items = (p : Pen) (l : Last) → p.pending_semicolon ≡ false → Ready l → Knows names p l → Unended names R Same p l (layout items p)

-- the normal form is that of the tree, or of the trees, with the names as they are printed
abbrev pub SameTree : Tables → Tree → Tree → Type 0
SameTree names t u = normal u ≡ normal (renamed names t)

abbrev pub SameTrees : Tables → Trees → Trees → Type 0
SameTrees names ts us = normal_trees us ≡ normal_trees (renamed_trees names ts)

-- ---- steps

-- read otherwise
pub stands_since : {names : Tables} {X : Type 0} {R S : Bool → Tokens → X → Type 0} {Same Other : X → Type 0} {p q : Pen} {l : Last} → ((e : Bool) (ts : Tokens) (x : X) → Same x → R e ts x → S e ts x) → ((x : X) → Same x → Other x) → Stands names R Same p l q → Stands names S Other p l q
stands_since f h g = record { last = g.last; tokens = g.tokens; writes = g.writes; ready = g.ready; reading = g.reading; reads = ends_since (λ e ts r. f e ts g.reading g.same r) g.reads; same = h g.reading g.same }

-- tokens before it, with which it is read as something more
pub behind_tokens : {names : Tables} {X Y : Type 0} {R : Bool → Tokens → X → Type 0} {S : Bool → Tokens → Y → Type 0} {Same : X → Type 0} {Other : Y → Type 0} {p q r : Pen} {l m : Last} (a : Tokens) (whole : X → Y) → Writes names p l q m a → ((e : Bool) (ts : Tokens) (x : X) → R e ts x → S e (a ⧺ ts) (whole x)) → ((x : X) → Same x → Other (whole x)) → Stands names R Same q m r → Stands names S Other p l r
behind_tokens a whole w f h g = record { last = g.last; tokens = a ⧺ g.tokens; writes = wrote_both w g.writes; ready = g.ready; reading = whole g.reading; reads = ends_behind a (λ e ts r. f e ts g.reading r) g.reads; same = h g.reading g.same }

-- blanks before it, and behind it
unfoldable pub blank_before : {names : Tables} {X : Type 0} {R : Bool → Tokens → X → Type 0} {Same : X → Type 0} {p q r : Pen} {l : Last} → (s : Gap names p l q) → Stands names R Same q s.last r → Stands names R Same p l r
blank_before s g = record { last = g.last; tokens = g.tokens; writes = wrote_both s.writes g.writes; ready = g.ready; reading = g.reading; reads = g.reads; same = g.same }

pub blank_behind : {names : Tables} {X : Type 0} {R : Bool → Tokens → X → Type 0} {Same : X → Type 0} {p q r : Pen} {l : Last} → (g : Stands names R Same p l q) → Gap names q g.last r → Stands names R Same p l r
blank_behind {R = R} g s = record {
  last = s.last;
  tokens = g.tokens;
  writes = wrote_and_none g.writes s.writes;
  ready = s.ready g.ready;
  reading = g.reading;
  reads = subst (λ left. Ends (λ e ts. R e ts g.reading) left g.tokens) (sym s.semicolon) g.reads;
  same = g.same;
}

pub blank_before_unended : {names : Tables} {X : Type 0} {R : Bool → Tokens → X → Type 0} {Same : X → Type 0} {p q r : Pen} {l : Last} → (s : Gap names p l q) → Unended names R Same q s.last r → Unended names R Same p l r
blank_before_unended s g = record { last = g.last; tokens = g.tokens; writes = wrote_both s.writes g.writes; ready = g.ready; semicolon = g.semicolon; reading = g.reading; reads = g.reads; same = g.same }

-- a semicolon behind it, or one that is left
unfoldable pub ended_so : {names : Tables} {X : Type 0} {R : Bool → Tokens → X → Type 0} {Same : X → Type 0} {p q : Pen} {l : Last} (minified : Bool) → Unended names R Same p l q → Stands names R Same p l (end_statement minified q)
ended_so {q = q} true g = record { last = g.last; tokens = g.tokens; writes = wrote_and_none g.writes (end_left q g.last g.writes.knows); ready = g.ready; reading = g.reading; reads = g.reads; same = g.same }
ended_so {R = R} {q = q} false g = record {
  last = Open true;
  tokens = g.tokens ⧺ piece (line_of g.last) (Sign semicolon) done;
  writes = wrote_both g.writes (end_written q g.last g.writes.knows);
  ready = tt;
  reading = g.reading;
  reads = subst (λ left. Ends (λ e ts. R e ts g.reading) left (g.tokens ⧺ piece (line_of g.last) (Sign semicolon) done)) (sym g.semicolon) (semicolon_behind (line_of g.last) g.reads);
  same = g.same;
}

-- ---- items

-- these items are blank, or print nothing
abbrev pub BlankAt : Tables → Items → Type 0
BlankAt names items = (p : Pen) (l : Last) → Knows names p l → Gap names p l (layout items p)

pub behind_blank : {names : Tables} {X : Type 0} {R : Bool → Tokens → X → Type 0} {Same : X → Type 0} (blank items : Items) → BlankAt names blank → StandsAt names R Same items → StandsAt names R Same (blank ⊕ items)
behind_blank blank items b f p l z y k =
    let s = b p l k in
    blank_before s (f (layout blank p) s.last (s.semicolon ∙ z) (s.ready y) s.writes.knows)

pub before_blank : {names : Tables} {X : Type 0} {R : Bool → Tokens → X → Type 0} {Same : X → Type 0} (items blank : Items) → StandsAt names R Same items → BlankAt names blank → StandsAt names R Same (items ⊕ blank)
before_blank items blank f b p l z y k =
    let g = f p l z y k in
    blank_behind g (b (layout items p) g.last g.writes.knows)

-- indentation before it
pub indented_line : {names : Tables} {X : Type 0} {R : Bool → Tokens → X → Type 0} {Same : X → Type 0} (items : Items) → StandsAt names R Same items → StandsAt names R Same (indentation ⊕ items)
indented_line items f = behind_blank indentation items (λ p l k. gap (indentation_written p l k)) f

-- and its end behind it
pub whole_line : {names : Tables} {X : Type 0} {R : Bool → Tokens → X → Type 0} {Same : X → Type 0} (items : Items) → UnendedAt names R Same items → StandsAt names R Same (indentation ⊕ (items ⊕ statement_end))
whole_line items f = indented_line (items ⊕ statement_end) (λ p l z y k. ended_so (layout items p).style.minified (f p l z y k))

-- ---- statements and declarations

-- read before `else` too, unless it ends open
abbrev pub ReadsClosed : Allowed → Bool → Bool → Tokens → Tree → Type 0
ReadsClosed c is_open last ts t = (before_else : Bool) → (before_else ≡ true → is_open ≡ false) → ReadsStatement c last before_else ts t

abbrev pub StatedAt : Tables → Allowed → Tree → Items → Type 0
StatedAt names c t items = StandsAt names (ReadsClosed c (ends_open t)) (SameTree names t) items

-- a block and an `if` may go on with a line
abbrev pub goes_on : Shape → Bool
goes_on shapes.Block = true
goes_on shapes.If = true
goes_on s = false

-- a statement, printed among others, and where it may go on with a line there too
pub record Stated (names : Tables) (c : Allowed) (t : Tree) : Type 0 where
  pub among : StatedAt names c t (spell t among_statements)
  pub within : goes_on (shape t) ≡ true → StatedAt names c t (spell t within_statement)

-- one that goes on with no line
pub stated_among : {names : Tables} {c : Allowed} {t : Tree} → goes_on (shape t) ≡ false → StatedAt names c t (spell t among_statements) → Stated names c t
stated_among {t = t} h f = record { among = f; within = λ g. absurd (both_ways (goes_on (shape t)) h g) }

-- a statement or a declaration, printed among statements
abbrev pub Listed : Tables → Allowed → Tree → Type 0
Listed names c t = StandsAt names (ReadsItem c) (SameTree names t) (spell t among_statements)

-- a statement is read as what stands among others
pub item_since : {names : Tables} {c : Allowed} {is_open : Bool} {Same : Tree → Type 0} {p q : Pen} {l : Last} → Stands names (ReadsClosed c is_open) Same p l q → Stands names (ReadsItem c) Same p l q
item_since g = stands_since (λ e ts u s r. grammar.a_statement (r false (λ h. absurd (both_ways false refl h)))) (λ u s. s) g

pub listed_statement : {names : Tables} {c : Allowed} (t : Tree) → Stated names c t → Listed names c t
listed_statement t f p l z y k = item_since (f.among p l z y k)
