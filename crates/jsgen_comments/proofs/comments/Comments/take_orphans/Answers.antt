use Rattle.std.proofs.Common.{◌∙◌}
use Rattle.jsgen_comments.proofs.Store.{orphan_moved}
use Rattle.jsgen_comments.proofs.comments.Comments.take_orphans.Goals as goal

pub loop-orphan-preserved : goal.loop-orphan-preserved
loop-orphan-preserved c =
    let step = orphan_moved c.loop-orphan.self c.pop_orphan.new.self c.move_outliving.new.self c.loop-orphan.found.items c.move_outliving.new.found.items c.args.offset c.in-Some.orphan
    c.in-Some.ensures.first c.in-Some.ensures.others c.in-Some.ensures.source c.in-Some.ensures.groups
    c.in_ok-move_outliving.ensures.source c.in_ok-move_outliving.ensures.found c.in_ok-move_outliving.ensures.groups in
    record {
      source = c.in_ok-move_outliving.ensures.source ∙ (c.in-Some.ensures.source ∙ c.loop-orphan.invariant.source);
      annotations = c.in_ok-move_outliving.ensures.annotations ∙ (c.in-Some.ensures.annotations ∙ c.loop-orphan.invariant.annotations);
      group = step.0 ∙ c.loop-orphan.invariant.group;
      store = step.1 ∙ c.loop-orphan.invariant.store;
    }
