use Rattle.std.proofs.Common.{not, ap, ◌∙◌}
use Rattle.jsgen_check.proofs.Uncooked.{found_there, next_left, all_passed}
use Rattle.jsgen_check.proofs.pieces.any_uncooked.Goals as goal

pub loop-piece-preserved : goal.loop-piece-preserved
loop-piece-preserved c = next_left c.args.pieces.now c.loop-piece.piece-index c.piece-item.result c.loop-piece-test.true c.piece-item.is (c.is_none.ensures ∙ ap not c.if-is_none.false) c.loop-piece.invariant

pub returns-then-is_none : goal.returns-then-is_none
returns-then-is_none c = found_there c.args.pieces.now c.loop-piece.piece-index c.piece-item.result c.loop-piece-test.true c.piece-item.is (c.is_none.ensures ∙ ap not c.if-is_none.true) c.loop-piece.invariant

pub returns : goal.returns
returns c = all_passed c.args.pieces.now c.loop-piece.piece-index c.loop-piece-test.false c.loop-piece.invariant
