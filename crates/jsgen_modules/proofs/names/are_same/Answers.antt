use Rattle.jsgen_modules.proofs.names.are_same.Goals as goal

pub returns-in-Some-b : goal.returns-in-Some-b
returns-in-Some-b c = rw (c.in-Some.is, c.in-Some-b.is) c.is_same.ensures
