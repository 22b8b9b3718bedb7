use Rattle.jsgen_comment_text_laws.proofs.Rows as rows
use Rattle.jsgen_comment_text_laws.proofs.rows_are_of_source.Goals as goal

pub returns : goal.returns
returns c = rows.rows_are_of_source
