use Rattle.std.proofs.Common.{◌∙◌}
use Rattle.std.proofs.lemmas.Bool.{both_ways}
use Rattle.jsgen_oracle.proofs.Pieces.{no_word}
use Rattle.jsgen_oracle.proofs.token.take_word.Goals as goal
use Rattle.jsgen_oracle.proofs.token.take_word.Goals.{else-branch-via-then-branch+else-ends_word, else-branch-via-else-branch}

pub returns-else-branch : goal.returns-else-branch
returns-else-branch c =
    let e = c.count_word.ensures.value in
    no_word c.args.text.now c.split_at.result.0.now c.split_at.result.1.now c.requires (rw e at c.split_at.ensures.front) (rw e at c.split_at.ensures.back) (λ spelled ends. elim c.else-branch.branch [ else-branch-via-then-branch+else-ends_word w ↦ both_ways _ w.if-ends_word.false (w.ends_word.ensures ∙ ends) | else-branch-via-else-branch w ↦ both_ways _ w.if-branch.false (c.in_ok-is_word.ensures ∙ spelled) ])
