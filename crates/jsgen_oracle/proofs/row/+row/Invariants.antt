use Rattle.std.proofs.Common.{◌+◌, ◌*◌, length}
use Rattle.jsgen_oracle.proofs.row.+row.Given as goal

abbrev pub decreases-take_group : goal.decreases-take_group
decreases-take_group l = 2 * length l.text.now + 2

abbrev pub decreases-take_others : goal.decreases-take_others
decreases-take_others l = 2 * length l.text.now

abbrev pub decreases-take_row : goal.decreases-take_row
decreases-take_row l = 2 * length l.text.now + 1
