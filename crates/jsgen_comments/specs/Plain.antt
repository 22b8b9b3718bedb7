-- The plain data of comments that wait.
use Rattle.std.specs.Prelude.{ℕ, List, [], ◌∷◌, ◌++◌, Option, Some, None, map, nat_lt, not, codes, ◌==◌, if◌then◌else◌}
use Rattle.std.specs.Str.{skip_leading_whitespace}
use Rattle.jsgen_tree.specs.declared.statements.Comment as tree
use Rattle.jsgen_model.specs.Comments.{Comment, Groups, Store, characters_at}
use Rattle.jsgen_model.specs.Items.{Annotation, is_pure, no_side_effects}
use Rattle.jsgen_model.specs.Groups.{lines_behind, opens_block, closes_block}
use Rattle.jsgen_model.specs.Layout.{text_if}
use Rattle.jsgen_comments.specs.declared.annotations.AnnotationKind.{AnnotationKind}
use Rattle.jsgen_comments.specs.declared.annotations.AnnotationKind.TheVariants as annotations
use Rattle.jsgen_comments.specs.declared.comments.Comments.{Comments}
use Rattle.jsgen_comments.specs.declared.comments.Group.{Group}

-- a comment of a source with these bytes
abbrev pub comment_plain : List ℕ → tree.Comment → Comment
comment_plain source c = record {
  text = characters_at source c.span;
  kind = c.kind;
  content = c.content;
  newline_before = c.preceded_by_newline;
  newline_behind = c.followed_by_newline;
}

-- those of a group that has left the store
abbrev pub group_plain : Group → List Comment
group_plain g = map (comment_plain g.source.now) g.comments.items

-- what waits
abbrev pub store_of : Comments → Store
store_of c = record {
  groups = map (λ e. (e.0, map (comment_plain c.source.now) e.1.items)) c.groups.entries;
  orphans = c.orphans.keys;
}

-- the annotations that wait, of each offset one
abbrev pub annotations_of : Comments → Groups
annotations_of c = map (λ e. (e.0, comment_plain c.source.now e.1 ∷ [])) c.annotations.entries

-- what an annotation says, in the model
abbrev pub annotation_of : AnnotationKind → Annotation
annotation_of annotations.Pure = is_pure
annotation_of annotations.NoSideEffects = no_side_effects

-- the first of some offsets, where it is below a number
abbrev pub first_below : ℕ → List ℕ → Option ℕ
first_below n [] = None
first_below n (o ∷ os) = if nat_lt o n then Some o else None

-- the others, where the first is
abbrev pub behind_first : ℕ → List ℕ → List ℕ
behind_first n [] = []
behind_first n (o ∷ os) = if nat_lt o n then os else o ∷ os

-- of some lines the first and the others
abbrev pub first_of : List (List ℕ) → Option (List ℕ × List (List ℕ))
first_of [] = None
first_of (l ∷ ls) = Some (l, ls)

-- the lines behind the line end that a text begins with
abbrev pub behind_end : List ℕ → List (List ℕ)
behind_end [] = []
behind_end (c ∷ cs) = lines_behind (c == 13) cs

-- a line of a block in a wording: behind a tab, unless it begins the block, without the white space that it begins with, and with its end, unless it ends the block
abbrev pub line_tabbed : List ℕ → List ℕ
line_tabbed l = text_if (not (opens_block l)) (codes "\t") ++ (skip_leading_whitespace l ++ text_if (not (closes_block l)) (codes "\n"))
