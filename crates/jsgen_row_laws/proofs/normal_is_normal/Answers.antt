use Rattle.jsgen_row_laws.proofs.Normals.{normal_again}
use Rattle.jsgen_row_laws.proofs.normal_is_normal.Goals as goal

pub returns : goal.returns
returns c = normal_again
