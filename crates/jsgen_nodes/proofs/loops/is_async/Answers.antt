use Rattle.std.proofs.Common.{codes, refl}
use Rattle.jsgen_printer.proofs.Texts.{ascii_chars}
use Rattle.jsgen_nodes.proofs.loops.is_async.Goals as goal

pub returns-in-AssignmentTarget : goal.returns-in-AssignmentTarget
returns-in-AssignmentTarget g c = rw c.in-AssignmentTarget.is (rw (c.get.ensures, c.deref.ensures, ascii_chars (codes "async") refl) at c.is_bare_said.ensures.reference)
