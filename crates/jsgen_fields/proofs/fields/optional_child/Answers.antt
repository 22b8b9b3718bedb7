use Rattle.std.proofs.Common.{sym}
use Rattle.jsgen_fields.specs.Reads.{read_children}
use Rattle.jsgen_fields.proofs.fields.optional_child.Goals as goal

pub returns-in-Ok : goal.returns-in-Ok
unfolding read_children
returns-in-Ok g c = rw (sym c.of_row-at.ensures, c.in-Ok-Some.ensures, c.in-Ok-Some.field-0-is, c.in-Ok.ensures)
