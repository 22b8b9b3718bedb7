use Rattle.jsgen.proofs.codegen.Codegen.check.Goals as goal

pub returns : goal.returns
returns c = record { judges = c.check_program.ensures.judges; told = c.check_program.ensures.told }
