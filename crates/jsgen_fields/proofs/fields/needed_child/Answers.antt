use Rattle.std.proofs.Common.{sym}
use Rattle.jsgen_fields.specs.Meaning.{a_child}
use Rattle.jsgen_fields.specs.Reads.{read_children}
use Rattle.jsgen_fields.proofs.Gives.{gives_holding}
use Rattle.jsgen_fields.proofs.fields.needed_child.Goals as goal

pub returns-in-Ok : goal.returns-in-Ok
unfolding read_children
returns-in-Ok g c = rw (sym c.of_row-at.ensures, c.in-Ok.ensures) (gives_holding _ a_child _ _ _ c.take_as.ensures)

pub returns-in-Err : goal.returns-in-Err
unfolding read_children
returns-in-Err g c = λ told. rw (sym c.of_row-at.ensures, c.in-Err.ensures told)
