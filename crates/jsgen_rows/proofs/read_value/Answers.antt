use Rattle.serde_json.specs.View.{view}
use Rattle.jsgen_fields.proofs.Gives.{handed_on}
use Rattle.jsgen_rows.proofs.JobLaw.{value_law}
use Rattle.jsgen_rows.proofs.read_value.Goals as goal

pub returns-in_err-head : goal.returns-in_err-head
returns-in_err-head c = handed_on _ _ _ _ c.from_residual.ensures (λ told. rw (value_law (view c.args.value.now), c.in_err-head.ensures told))

pub returns-in_err-program : goal.returns-in_err-program
returns-in_err-program c = handed_on _ _ _ _ c.from_residual-in_err-program.ensures (λ told. rw (value_law (view c.args.value.now), c.in_ok-head.ensures, c.in_err-program.ensures told))

pub returns : goal.returns
returns c = rw (value_law (view c.args.value.now), c.in_ok-head.ensures, c.in_ok-program.ensures, c.job_of.ensures)
