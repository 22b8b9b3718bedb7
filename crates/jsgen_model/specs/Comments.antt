-- Comments that are kept until they are printed: which ones, and where they wait.
use Rattle.std.specs.Prelude.{ℕ, List, [], ◌∷◌, ◌++◌, Bool, true, false, not, ◌&&◌, ◌||◌, ◌==◌, nat_lt, if◌then◌else◌}
use Rattle.std.specs.Option.{unwrap_or}
use Rattle.std.specs.List.{filter}
use Rattle.std.specs.Str.{chars}
use Rattle.jsgen_syntax.specs.declared.span.Span.{Span}
use Rattle.jsgen_tree.specs.declared.statements.CommentKind.{CommentKind}
use Rattle.jsgen_tree.specs.declared.statements.CommentContent.{CommentContent}
use Rattle.jsgen_tree.specs.declared.statements.CommentContent.TheVariants as contents
use Rattle.jsgen_tree.specs.Options as options
use Rattle.jsgen_tree.specs.Options.{is_inline}
use Rattle.jsgen_tree.specs.Tree.{Trees, no_trees, more, hole, Atoms}
use Rattle.jsgen_tree.specs.Nodes as tree
use Rattle.jsgen_tree.specs.Values.{comment_kind, comment_content, comment_leading, comment_attached_to, comment_preceded_by_newline, comment_followed_by_newline}
use Rattle.jsgen_model.specs.Marks.{name_text_at}

-- a comment: its characters, how it is written and what it says, and whether a line ends on either side of it
pub record Comment : Type 0 where
  pub text : List ℕ
  pub kind : CommentKind
  pub content : CommentContent
  pub newline_before : Bool
  pub newline_behind : Bool

-- ---- groups of comments by the offset that they belong to, the least first

abbrev pub Groups : Type 0
Groups = List (ℕ × List Comment)

-- the comments at an offset
abbrev pub there : ℕ → Groups → List Comment
there o [] = []
there o (g ∷ gs) = if g.0 == o then g.1 else there o gs

abbrev pub without : ℕ → Groups → Groups
without o [] = []
without o (g ∷ gs) = if g.0 == o then gs else g ∷ without o gs

-- with these at the offset
abbrev pub with_group : ℕ → List Comment → Groups → Groups
with_group o cs [] = (o, cs) ∷ []
with_group o cs (g ∷ gs) = if nat_lt o g.0 then (o, cs) ∷ (g ∷ gs) else (if o == g.0 then (o, cs) ∷ gs else g ∷ with_group o cs gs)

abbrev pub unless_none : ℕ → List Comment → Groups → Groups
unless_none o [] gs = gs
unless_none o (c ∷ cs) gs = with_group o (c ∷ cs) gs

abbrev pub are_any : List Comment → Bool
are_any [] = false
are_any (c ∷ cs) = true

-- ---- comments that are printed elsewhere where what they belong to is gone: licences, and what a coverage tool is told of a file

abbrev pub outlives : CommentContent → Bool
outlives contents.Legal = true
outlives contents.JsdocLegal = true
outlives contents.CoverageIgnoreFile = true
outlives content = false

abbrev pub is_outliving : Comment → Bool
is_outliving c = outlives c.content

abbrev pub outliving : List Comment → List Comment
outliving cs = filter is_outliving cs

abbrev pub others : List Comment → List Comment
others cs = filter (λ c. not (is_outliving c)) cs

-- the groups without those at the offset
abbrev pub without_outliving : ℕ → Groups → Groups
without_outliving o gs = unless_none o (others (there o gs)) (without o gs)

-- ---- what waits

-- the groups, and the offsets of those that hold a comment that outlives its place, the least first
pub record Store : Type 0 where
  pub groups : Groups
  pub orphans : List ℕ

abbrev pub empty_store : Store
empty_store = record { groups = []; orphans = [] }

-- the comments at an offset leave
abbrev pub taken : ℕ → Store → Store
taken o store = record store { groups = without o store.groups }

-- those that outlive their places, at smaller offsets; and what is left without them
abbrev pub orphans_at : ℕ → List ℕ → Groups → List Comment
orphans_at n [] gs = []
orphans_at n (o ∷ os) gs = if nat_lt o n then outliving (there o gs) ++ orphans_at n os (without_outliving o gs) else []

abbrev pub left_at : ℕ → List ℕ → Groups → Store
left_at n [] gs = record { groups = gs; orphans = [] }
left_at n (o ∷ os) gs = if nat_lt o n then left_at n os (without_outliving o gs) else record { groups = gs; orphans = o ∷ os }

abbrev pub orphans_below : ℕ → Store → List Comment
orphans_below n store = orphans_at n store.orphans store.groups

abbrev pub left_below : ℕ → Store → Store
left_below n store = left_at n store.orphans store.groups

-- there are such ones
abbrev pub any_at : ℕ → List ℕ → Groups → Bool
any_at n [] gs = false
any_at n (o ∷ os) gs = nat_lt o n && (are_any (there o gs) || any_at n os gs)

abbrev pub has_orphans_below : ℕ → Store → Bool
has_orphans_below n store = any_at n store.orphans store.groups

-- ---- annotations of calls and functions, by the offsets of what they belong to

abbrev pub is_annotation : CommentContent → Bool
is_annotation contents.Pure = true
is_annotation contents.NoSideEffects = true
is_annotation content = false

-- ---- which comments are kept

abbrev pub is_wanted : options.Comments → CommentContent → Bool
is_wanted o contents.Normal = o.normal
is_wanted o contents.Legal = is_inline o.legal
is_wanted o contents.Jsdoc = o.jsdoc
is_wanted o contents.JsdocLegal = is_inline o.legal || o.jsdoc
is_wanted o contents.Pure = false
is_wanted o contents.NoSideEffects = false
is_wanted o annotation = o.annotation

-- what the source, in bytes, has at a span
abbrev pub characters_at : List ℕ → Span → List ℕ
characters_at source span = chars (unwrap_or (name_text_at source span) [])

abbrev pub comment_at : List ℕ → Atoms → Comment
comment_at source a = record {
  text = characters_at source a.span;
  kind = comment_kind a;
  content = comment_content a;
  newline_before = comment_preceded_by_newline a;
  newline_behind = comment_followed_by_newline a;
}

-- an offset, unless it is there
abbrev pub with_offset : ℕ → List ℕ → List ℕ
with_offset o [] = o ∷ []
with_offset o (p ∷ ps) = if nat_lt o p then o ∷ (p ∷ ps) else (if o == p then p ∷ ps else p ∷ with_offset o ps)

-- one more comment at an offset, behind those that are there
abbrev pub kept_at : ℕ → Comment → Store → Store
kept_at o c store = record {
  groups = with_group o (there o store.groups ++ c ∷ []) (without o store.groups);
  orphans = if outlives c.content then with_offset o store.orphans else store.orphans;
}

-- a comment is kept where it belongs to what follows it, and the options want it
abbrev pub with_row : options.Comments → List ℕ → Atoms → Store → Store
with_row o source a store = if comment_leading a && is_wanted o (comment_content a) then kept_at (comment_attached_to a) (comment_at source a) store else store

abbrev pub with_rows : options.Comments → List ℕ → Trees → Store → Store
with_rows o source no_trees store = store
with_rows o source (more (tree.comment a) ts) store = with_rows o source ts (with_row o source a store)
with_rows o source (more t ts) store = with_rows o source ts store
with_rows o source (hole ts) store = with_rows o source ts store

-- the comments of a program that are kept, whose source has these bytes
abbrev pub kept : options.Comments → List ℕ → Trees → Store
kept o source rows = with_rows o source rows empty_store

-- of an offset the last annotation is kept, where the options want any
abbrev pub with_annotation : options.Comments → List ℕ → Atoms → Groups → Groups
with_annotation o source a gs = if comment_leading a && (is_annotation (comment_content a) && o.annotation) then with_group (comment_attached_to a) (comment_at source a ∷ []) gs else gs

abbrev pub with_annotations : options.Comments → List ℕ → Trees → Groups → Groups
with_annotations o source no_trees gs = gs
with_annotations o source (more (tree.comment a) ts) gs = with_annotations o source ts (with_annotation o source a gs)
with_annotations o source (more t ts) gs = with_annotations o source ts gs
with_annotations o source (hole ts) gs = with_annotations o source ts gs

-- the annotations of a program that are kept
abbrev pub kept_annotations : options.Comments → List ℕ → Trees → Groups
kept_annotations o source rows = with_annotations o source rows []
