use Rattle.std.proofs.Common.{◌≡◌, map, drop}
use Rattle.jsgen_tree.specs.Tree.{trees}
use Rattle.jsgen_tree.specs.Rows.{comment_row}
use Rattle.jsgen_tree.specs.Options.{comments_plain}
use Rattle.jsgen_model.specs.Comments.{kept, kept_annotations, with_annotations, with_rows}
use Rattle.jsgen_comments.specs.Plain.{annotations_of, store_of}
use Rattle.jsgen_comments.proofs.comments.Comments.of.Given as goal

abbrev pub invariant-loop-comment : goal.invariant-loop-comment
invariant-loop-comment l = record {
  source : l.kept.source.now ≡ l.source;
  store : with_rows (comments_plain l.options) l.source (trees (map comment_row (drop l.comment-index l.comments))) (store_of l.kept) ≡ kept (comments_plain l.options) l.source (trees (map comment_row l.comments));
  annotations : with_annotations (comments_plain l.options) l.source (trees (map comment_row (drop l.comment-index l.comments))) (annotations_of l.kept) ≡ kept_annotations (comments_plain l.options) l.source (trees (map comment_row l.comments));
}
