use Rattle.std.proofs.Common.{◌≡◌, drop}
use Rattle.jsgen_check.proofs.Uncooked.{any_of}
use Rattle.jsgen_check.proofs.pieces.any_uncooked.Given as goal

-- of those before the piece that is next none stands for nothing
abbrev pub invariant-loop-piece : goal.invariant-loop-piece
invariant-loop-piece l = any_of (drop l.piece-index l.pieces) ≡ any_of l.pieces
