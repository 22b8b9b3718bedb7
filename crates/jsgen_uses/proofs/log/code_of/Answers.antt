use Rattle.jsgen_uses.proofs.Trees.{is_broken}
use Rattle.jsgen_uses.proofs.log.code_of.Goals as goal

pub returns-in-Err-clause-refused : goal.returns-in-Err-clause-refused
returns-in-Err-clause-refused c = λ refused. is_broken _ c.in-Err.field-0 c.in-Err.ensures.judges

pub returns-clause-reads : goal.returns-clause-reads
returns-clause-reads c = c.in_ok-build.ensures.reads

pub returns-clause-taken : goal.returns-clause-taken
returns-clause-taken c = c.in_default.ensures.judges

pub build-requires-clause-valid : goal.build-requires-clause-valid
build-requires-clause-valid c = c.in_default.ensures.judges
