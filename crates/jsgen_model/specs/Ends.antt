-- What stands at the end of a program's text: the licences that its comments hold, where the options have them there.
use Rattle.std.specs.Prelude.{ℕ, List, [], ◌∷◌, ◌++◌, Bool, true, false, not, bytes_eq, codes, map, if◌then◌else◌}
use Rattle.std.specs.List.{filter, list_any}
use Rattle.std.specs.Str.{skip_leading_whitespace}
use Rattle.jsgen_tree.specs.declared.statements.CommentKind.{CommentKind}
use Rattle.jsgen_tree.specs.declared.statements.CommentKind.TheVariants as kinds
use Rattle.jsgen_tree.specs.Options.{Legal, left_out, inline, at_end, linked, external}
use Rattle.jsgen_tree.specs.Tree.{Trees, no_trees, more, hole, Atoms}
use Rattle.jsgen_tree.specs.Nodes as tree
use Rattle.jsgen_tree.specs.Values.{comment_content}
use Rattle.jsgen_model.specs.Comments.{Comment, comment_at}
use Rattle.jsgen_model.specs.Groups.{lines_of, opens_block, closes_block, comment_written, line_ended, with_pending_space, is_legal}
use Rattle.jsgen_model.specs.Layout.{Pen, other_end, written, text_if}

-- ---- licences, each once

-- the lines of a block, each but the first behind a tab
abbrev pub tabbed : List (List ℕ) → List ℕ
tabbed [] = []
tabbed (l ∷ ls) = text_if (not (opens_block l)) (codes "\t") ++ (skip_leading_whitespace l ++ (text_if (not (closes_block l)) (codes "\n") ++ tabbed ls))

-- two comments are one licence where this is the same of them
abbrev pub wording_of : CommentKind → List ℕ → List ℕ
wording_of kinds.MultiLineBlock text = tabbed (lines_of text)
wording_of kind text = text

abbrev pub wording : Comment → List ℕ
wording c = wording_of c.kind c.text

abbrev pub is_seen : List (List ℕ) → List ℕ → Bool
is_seen seen w = list_any (bytes_eq w) seen

-- of each wording the first, but for those that were seen before
abbrev pub firsts : List ℕ → List (List ℕ) → List Atoms → List Atoms
firsts source seen [] = []
firsts source seen (a ∷ rows) = if is_seen seen (wording (comment_at source a)) then firsts source seen rows else a ∷ firsts source (wording (comment_at source a) ∷ seen) rows

abbrev pub rows_of : Trees → List Atoms
rows_of no_trees = []
rows_of (more (tree.comment a) ts) = a ∷ rows_of ts
rows_of (more t ts) = rows_of ts
rows_of (hole ts) = rows_of ts

-- the licences among some comments, be they of what follows them or not
abbrev pub licences : List ℕ → Trees → List Atoms
licences source rows = firsts source [] (filter (λ a. is_legal (comment_content a)) (rows_of rows))

-- ---- the end

-- each on a line of its own
abbrev pub each_written : List Comment → Pen → Pen
each_written [] pen = pen
each_written (c ∷ cs) pen = each_written cs (line_ended (comment_written c pen))

abbrev pub reference : List ℕ → List ℕ
reference path = codes "\n/*! For license information please see " ++ (path ++ codes " */")

-- licences at the end of the text, or what tells where they are
abbrev pub licensed : Legal → List Comment → Pen → Pen
licensed legal [] pen = pen
licensed at_end (c ∷ cs) pen = each_written (c ∷ cs) (with_pending_space false (line_ended pen))
licensed (linked path) (c ∷ cs) pen = written (reference path) other_end pen
licensed legal (c ∷ cs) pen = pen

-- the licences that don't stand where they are
abbrev pub moved_licences : Legal → List ℕ → Trees → List Atoms
moved_licences left_out source rows = []
moved_licences inline source rows = []
moved_licences legal source rows = licences source rows

abbrev pub ended : Legal → List ℕ → Trees → Pen → Pen
ended legal source rows pen = licensed legal (map (comment_at source) (moved_licences legal source rows)) pen

-- those that stand in a file of their own
abbrev pub stand_apart : Legal → Bool
stand_apart (linked path) = true
stand_apart external = true
stand_apart legal = false

abbrev pub licences_apart : Legal → List ℕ → Trees → List Atoms
licences_apart legal source rows = if stand_apart legal then moved_licences legal source rows else []
