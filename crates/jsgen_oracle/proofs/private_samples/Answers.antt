use Rattle.std.proofs.Common.{refl}
use Rattle.jsgen_oracle.proofs.private_samples.Goals as goal

pub returns : goal.returns
returns c = record { count = refl; without_tables = refl; by_tables = refl; innermost = refl; tables_end = refl; unheld = refl; outside = refl }
