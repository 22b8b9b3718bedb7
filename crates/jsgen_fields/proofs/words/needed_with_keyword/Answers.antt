-- Generated from tools/nodes/table.txt; edit that and run tools/nodes/generate.
-- A word is read where the text has a meaning.
use Rattle.std.proofs.Common.{sym}
use Rattle.jsgen_fields.proofs.WordReads.{word_read, word_unknown, word_refused}
use Rattle.jsgen_fields.proofs.words.needed_with_keyword.Goals as goal

pub returns-in-Some : goal.returns-in-Some
returns-in-Some c = word_read _ _ _ _ _ _ c.in-Ok.ensures (sym c.in-Some.ensures)

pub returns-in-None : goal.returns-in-None
returns-in-None c = λ told. rw c.of_row.ensures (word_unknown _ _ _ _ _ c.in-Ok.ensures (sym c.in-None.ensures))

pub returns-in-Err : goal.returns-in-Err
returns-in-Err c = λ told. word_refused _ _ _ _ _ (c.in-Err.ensures told)
