use Rattle.std.proofs.Common.{◌≡◌, true, false, Option, Some, None, option_map, is_some, refl}
use Rattle.jsgen_tree.specs.Characters.{characters}
use Rattle.jsgen_tree.specs.Options.{options_plain}
use Rattle.jsgen_tree.specs.Job.{JobData}
use Rattle.jsgen_tree.specs.Plain.{program_plain}
use Rattle.jsgen_check.specs.declared.surroundings.Surroundings.{Surroundings}
use Rattle.jsgen_check.specs.Verdict.{tables_of, surroundings_plain}
use Rattle.jsgen_model.specs.Valid.{surroundings_of}
use Rattle.jsgen_check.proofs.Programs.{of_job, told_of_job}
use Rattle.jsgen_check.proofs.check_program.Goals as goal

mapped : {A B : Type 0} (f : A → B) (o : Option A) → is_some o ≡ is_some (option_map f o)
mapped f None = refl
mapped f (Some x) = refl

pub returns : goal.returns
unfolding surroundings_plain
returns c =
    let job : JobData = record { options = options_plain c.args.options.now; tables = tables_of c.args.scoping c.args.private; program = program_plain c.args.program.now } in
    let around : Surroundings = record { options = c.args.options; tables = record { scoping = c.args.scoping; private = c.args.private }; source = c.as_str.result; is_mapped = c.is_some.result; in_function = false; may_yield = false; may_await = true } in
    let same : surroundings_plain around None ≡ surroundings_of job = rw (c.as_str.ensures.value, c.is_some.ensures, mapped characters c.args.options.now.source_map_path) refl in
    record { judges = of_job _ around job same c.check_program_row.ensures.judges; told = told_of_job _ around job same c.check_program_row.ensures.told }
