-- The text of a job, comments and marks aside, is that of the job whose private names are written as they are printed.
use Rattle.std.proofs.Common.{◌≡◌, [], refl, sym, ap}
use Rattle.jsgen_tree.specs.Job.{JobData}
use Rattle.jsgen_place.specs.Place.{among_statements}
use Rattle.jsgen_model.specs.Layout.{Pen, empty_pen, style_of}
use Rattle.jsgen_model.specs.Plain.{IsCore}
use Rattle.jsgen_model.specs.Valid.{IsValid, surroundings_of}
use Rattle.jsgen_private_laws.specs.Settled.{without_private, settled, code_of}
use Rattle.jsgen_private_laws.proofs.Fitting.{fitting}
use Rattle.jsgen_private_laws.proofs.Tied.{laid_out_resolved}

pub text_same : (job : JobData) → IsValid job → IsCore job.program → code_of (settled job) ≡ code_of job
text_same job v p =
    let pen : Pen = empty_pen (style_of job.options (without_private job.tables)) job.options.initial_indent in
    sym (ap (λ (q : Pen). q.code) (laid_out_resolved job.tables [] 0 job.program among_statements pen (fitting (surroundings_of job) 0 job.program p v) refl))
