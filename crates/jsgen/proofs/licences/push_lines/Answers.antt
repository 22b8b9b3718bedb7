use Rattle.std.proofs.Common.{◌++◌, flat_map, string_bytes, ap, ◌∙◌, arith}
use Rattle.std.proofs.lemmas.List.{take_all}
use Rattle.jsgen_map_text.proofs.Steps.{one_more}
use Rattle.jsgen.proofs.LegalLines.{line_of_comment, lines_of_comments}
use Rattle.jsgen.proofs.licences.push_lines.Goals as goal

pub loop-comment-preserved : goal.loop-comment-preserved
loop-comment-preserved c = one_more line_of_comment (string_bytes c.args.lines.now) (string_bytes c.loop-comment.lines) (string_bytes c.push_line.new.lines) c.args.comments.now c.loop-comment.comment-index _ (omega arith) c.loop-comment.invariant c.in_ok-push_line.ensures

pub returns : goal.returns
returns c =
    c.loop-comment.invariant
    ∙ (ap (λ cs. string_bytes c.args.lines.now ++ flat_map line_of_comment cs) (take_all c.loop-comment.comment-index c.args.comments.now (omega arith))
    ∙ ap (λ t. string_bytes c.args.lines.now ++ t) (lines_of_comments c.args.comments.now))
