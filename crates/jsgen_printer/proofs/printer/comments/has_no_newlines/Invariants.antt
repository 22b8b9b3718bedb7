use Rattle.std.proofs.Common.{◌≡◌, List, ℕ, map, drop}
use Rattle.std.specs.List.{list_all}
use Rattle.jsgen_comments.specs.Plain.{comment_plain}
use Rattle.jsgen_model.specs.Groups.{has_no_newlines}
use Rattle.jsgen_printer.proofs.printer.comments.has_no_newlines.Given as goal

abbrev pub invariant-loop-comment : goal.invariant-loop-comment
invariant-loop-comment l = (source : List ℕ) → list_all has_no_newlines (map (comment_plain source) (drop l.comment-index l.comment-items)) ≡ list_all has_no_newlines (map (comment_plain source) l.comment-items)
