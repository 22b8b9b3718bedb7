-- Where comments stand in the code of a printer.
use Rattle.std.specs.Prelude.{◌≡◌, ℕ, List}
use Rattle.std.specs.Str.{encode_utf8_all}
use Rattle.jsgen_tree.specs.Job.{JobData}
use Rattle.jsgen_comment_laws.specs.Law.{CommentsStandIn}

-- the comments of a job stand in the text that some bytes are
pub record HasComments (job : JobData) (code : List ℕ) : Type 0 where
  pub text : List ℕ
  pub is : code ≡ encode_utf8_all text
  pub stand : CommentsStandIn job text
