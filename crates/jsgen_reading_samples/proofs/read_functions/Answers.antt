use Rattle.jsgen_reading_samples.proofs.ReadFunctions.{await_in_module, loop_that_waits, async_arrow, async_function, yields_in_generator, delegations, async_methods}
use Rattle.jsgen_reading_samples.proofs.read_functions.Goals as goal

pub returns : goal.returns
returns c = record { await_in_module = await_in_module; loop_that_waits = loop_that_waits; async_arrow = async_arrow; async_function = async_function; yields_in_generator = yields_in_generator; delegations = delegations; async_methods = async_methods }
