use Rattle.std.proofs.Common.{sym}
use Rattle.jsgen_tree.specs.Tree.{holed}
use Rattle.jsgen_fields.specs.Meaning.{a_list}
use Rattle.jsgen_fields.specs.Reads.{read_children}
use Rattle.jsgen_fields.proofs.Gives.{gives_holding}
use Rattle.jsgen_fields.proofs.fields.children_or_holes.Goals as goal

pub returns-in-Ok : goal.returns-in-Ok
unfolding read_children
returns-in-Ok g c = rw (sym c.of_row-at.ensures, c.in-Ok-Some.ensures, c.in-Ok-Some.field-0-is, c.in-Ok.ensures) (gives_holding _ (λ os. a_list (holed os)) _ _ _ c.take_all_or_holes.ensures)

pub returns-in-Err-items_in : goal.returns-in-Err-items_in
unfolding read_children
returns-in-Err-items_in g c = λ told. rw (sym c.of_row-at.ensures, c.in-Ok-Some.ensures, c.in-Ok-Some.field-0-is, c.in-Err-items_in.ensures told)

pub returns-in-Err : goal.returns-in-Err
unfolding read_children
returns-in-Err g c = λ told. rw (sym c.of_row-at.ensures, c.in-Err.ensures told)
