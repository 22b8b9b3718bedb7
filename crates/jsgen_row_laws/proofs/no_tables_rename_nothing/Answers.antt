use Rattle.jsgen_row_laws.proofs.Unrenamed.{unrenamed}
use Rattle.jsgen_row_laws.proofs.no_tables_rename_nothing.Goals as goal

pub returns : goal.returns
returns c = unrenamed
