-- The comments of a program that are kept, and the places where their texts stand.
use Rattle.std.specs.Prelude.{◌≡◌, ⊤, ℕ, ◌+◌, nat_le, List, [], ◌∷◌, ◌++◌, map, Bool, true, false, ◌&&◌, ◌||◌, ◌==◌}
use Rattle.std.specs.List.{filter}
use Rattle.jsgen_tree.specs.Job.{JobData}
use Rattle.jsgen_tree.specs.Options as options
use Rattle.jsgen_tree.specs.Tree.{Tree, Trees, no_trees, more, hole, Atoms, span_of}
use Rattle.jsgen_tree.specs.Nodes as tree
use Rattle.jsgen_tree.specs.Values.{comment_content, comment_leading, comment_attached_to}
use Rattle.jsgen_model.specs.Comments.{Comment, comment_at, is_wanted, is_outliving, is_annotation}
use Rattle.jsgen_model.specs.Ends.{rows_of}
use Rattle.jsgen_model.specs.Groups.{is_dark, comment_written}
use Rattle.jsgen_model.specs.Layout.{Pen}
use Rattle.jsgen_model.specs.Spell.{comments_in, source_bytes}

-- ---- which comments are kept

-- a comment with the offset that it belongs to
pub record Waiting : Type 0 where
  pub offset : ℕ
  pub comment : Comment

-- it belongs to what follows it, and the options want it
abbrev pub is_kept : options.Comments → Atoms → Bool
is_kept o a = comment_leading a && is_wanted o (comment_content a)

abbrev pub waiting_row : List ℕ → Atoms → Waiting
waiting_row source a = record { offset = comment_attached_to a; comment = comment_at source a }

-- those of a job's program, in the order in which it has them
abbrev pub kept_comments : JobData → List Waiting
kept_comments job = map (waiting_row (source_bytes job)) (filter (is_kept job.options.comments) (rows_of (comments_in job.program)))

-- the annotations among them, of which the option `annotation` wants all or none, in the same order
abbrev pub is_kept_annotation : options.Comments → Atoms → Bool
is_kept_annotation o a = comment_leading a && (is_annotation (comment_content a) && o.annotation)

abbrev pub annotation_comments : JobData → List Waiting
annotation_comments job = map (waiting_row (source_bytes job)) (filter (is_kept_annotation job.options.comments) (rows_of (comments_in job.program)))

-- ---- how many they are

abbrev pub one_if : Bool → ℕ
one_if true = 1
one_if false = 0

-- how many of them pass a test
abbrev pub count : (Waiting → Bool) → List Waiting → ℕ
count test [] = 0
count test (w ∷ ws) = one_if (test w) + count test ws

-- ---- where they stand

-- what a comment adds to the code of some pen: a block of several lines depends on the level there
abbrev pub IsTextOf : Comment → List ℕ → Type 0
IsTextOf c text = (pen : Pen) × ((comment_written c pen).code ≡ pen.code ++ text)

-- the levels of the pen are indented by spaces or by tabs
abbrev pub IsIndentedByBlanks : Pen → Type 0
IsIndentedByBlanks pen = is_dark pen.style.indent ≡ false

-- what a comment adds to the code of some pen that is indented so
abbrev pub IsTextInPlace : Comment → List ℕ → Type 0
IsTextInPlace c text = (pen : Pen) × (IsIndentedByBlanks pen × ((comment_written c pen).code ≡ pen.code ++ text))

-- a place in a text, and the comment's own text there
pub record CommentPlace (text : List ℕ) (c : Comment) : Type 0 where
  pub before : List ℕ
  pub own : List ℕ
  pub rest : List ℕ
  pub is : text ≡ before ++ (own ++ rest)
  pub its : IsTextInPlace c own

-- a place for each of some comments, each behind the one before
abbrev pub CommentPlaces : List ℕ → List Comment → Type 0
CommentPlaces text [] = ⊤
CommentPlaces text (c ∷ cs) = (place : CommentPlace text c) × CommentPlaces place.rest cs

-- ---- those that have to stand in the text of a program

-- it belongs to the start of one of these
abbrev pub is_before : Trees → Waiting → Bool
is_before no_trees w = false
is_before (more t ts) w = (w.offset == (span_of t).start) || is_before ts w
is_before (hole ts) w = is_before ts w

-- it belongs to a directive or a statement of the program's own, or outlives its place (as licences do) and belongs to an offset up to the program's end
abbrev pub has_to_stand : Tree → Waiting → Bool
has_to_stand (tree.program a rows hashbang directives body) w = (is_before directives w || is_before body w) || (is_outliving w.comment && nat_le w.offset a.span.end)
has_to_stand t w = false
