use Rattle.jsgen.proofs.jobs.text_of.Goals as goal

pub returns-in-Ok : goal.returns-in-Ok
returns-in-Ok c = (c.in_default.ensures.judges, c.in-Ok.ensures.text)
