use Rattle.std.proofs.Common.{drop, map}
use Rattle.jsgen_model.specs.Ends.{licences}
use Rattle.jsgen_tree.specs.Rows.{comment_row}
use Rattle.jsgen_tree.specs.Tree.{trees}
use Rattle.jsgen_comments.proofs.Seen.{legal, IsSoFar}
use Rattle.jsgen_comments.proofs.legal.licences.Given as goal

abbrev pub invariant-loop-comment : goal.invariant-loop-comment
invariant-loop-comment l = IsSoFar l.source (licences l.source (trees (map comment_row l.comments))) l.seen l.found.items (legal (drop l.comment-index l.comments))
