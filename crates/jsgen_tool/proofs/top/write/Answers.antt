use Rattle.jsgen_tool.proofs.top.write.Goals as goal

pub returns-clause-write : goal.returns-clause-write
returns-clause-write g c = (c.in-Err.ensures.cause.later, c.in-Err.ensures.cause.failed)

pub returns-clause-output : goal.returns-clause-output
returns-clause-output g c =
    let answered = rw c.deref.ensures.value at c.in-Ok-text_of.ensures.answer in
    let part = c.in-Err.ensures.part in
    (answered.0, (c.in-Ok.bytes.items, c.in-Ok.ensures.held.0, c.in-Ok.ensures.held.1, answered.1), (part.0, rw (c.as_bytes.ensures.value, answered.2) at part.1))

pub returns-in-Ok-push_all-clause-output : goal.returns-in-Ok-push_all-clause-output
returns-in-Ok-push_all-clause-output g c =
    let answered = rw c.deref.ensures.value at c.in-Ok-text_of.ensures.answer in
    (answered.0, (c.in-Ok.bytes.items, c.in-Ok.ensures.held.0, c.in-Ok.ensures.held.1, answered.1), rw (c.as_bytes.ensures.value, answered.2) at c.in-Ok-push_all.ensures.all)
