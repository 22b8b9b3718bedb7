-- What is promised of the comments of a program.
use Rattle.std.specs.Prelude.{◌≡◌, ℕ, ◌≤◌, List, [], ◌++◌, map, Bool, true, ◌&&◌}
use Rattle.jsgen_tree.specs.Job.{JobData}
use Rattle.jsgen_tree.specs.Everywhere.{Everywhere}
use Rattle.jsgen_place.specs.Place.{among_statements}
use Rattle.jsgen_model.specs.Ends.{ended}
use Rattle.jsgen_model.specs.Items.{Items}
use Rattle.jsgen_model.specs.Lay.{lay}
use Rattle.jsgen_model.specs.Layout.{Pen}
use Rattle.jsgen_model.specs.Plain.{is_formed}
use Rattle.jsgen_model.specs.Spell.{spell, comments_in, source_bytes, first_pen, printed}
use Rattle.jsgen_model.specs.Valid.{IsValid}
use Rattle.jsgen_comment_laws.specs.Stand.{Waiting, kept_comments, annotation_comments, count, CommentPlaces, has_to_stand}
use Rattle.jsgen_comment_laws.specs.Woven.{is_white, dark_of, bones, without_comments, Woven}

-- ---- any items

-- what items add to the code of a pen for which no comment waits: of their bones alone it is woven, with annotations as they are written
pub record AddsWoven (items : Items) (pen : Pen) : Type 0 where
  pub text : List ℕ
  pub is : (lay items pen).code ≡ pen.code ++ text
  pub woven : Woven [] [] (bones items pen) [] (dark_of text)

-- whatever is spelled so, from any pen that is indented by spaces or tabs
abbrev pub ItemsAreWoven : Type 0
ItemsAreWoven = (items : Items) (pen : Pen) → is_white pen.style.indent ≡ true → AddsWoven items (without_comments pen)

-- ---- the end of a text

-- what stands behind a program's text: what its end adds to the code of some pen
abbrev pub IsEndOf : JobData → List ℕ → Type 0
IsEndOf job text = (pen : Pen) × ((ended job.options.comments.legal (source_bytes job) (comments_in job.program) pen).code ≡ pen.code ++ text)

-- ---- the whole

-- A text is that of the program, and what stands behind it. In that of the program these of the job's comments stand, each once and in this
-- order, and no others but annotations; all that have to stand are among them
pub record CommentsStandIn (job : JobData) (text : List ℕ) : Type 0 where
  pub body : List ℕ
  pub end : List ℕ
  pub is : text ≡ body ++ end
  pub ends : IsEndOf job end
  pub comments : List Waiting
  pub stand : CommentPlaces body (map (λ w. w.comment) comments)
  -- by any test there are no more of them than are kept, so that none stands more often than the job has it
  pub once : (test : Waiting → Bool) → count test comments ≤ count test (kept_comments job)
  -- and of those that have to stand as many
  pub all : (test : Waiting → Bool) → count (λ w. has_to_stand job.program w && test w) comments ≡ count (λ w. has_to_stand job.program w && test w) (kept_comments job)
  -- and what isn't white in it are the bones of the text without comments, whose gaps they fill, and annotations
  pub woven : Woven (kept_comments job) (annotation_comments job) (bones (spell job.program among_statements) (without_comments (first_pen job))) comments (dark_of body)
  -- of these bones alone, with annotations as they are written, is the text without comments
  pub bare : Woven [] [] (bones (spell job.program among_statements) (without_comments (first_pen job))) [] (dark_of (lay (spell job.program among_statements) (without_comments (first_pen job))).code)

-- each comment that has to stand has a place of its own in the text of a valid job, whose nodes have the children of their types
abbrev pub CommentsStand : Type 0
CommentsStand = (job : JobData) → Everywhere is_formed job.program → IsValid job → CommentsStandIn job (printed job)
