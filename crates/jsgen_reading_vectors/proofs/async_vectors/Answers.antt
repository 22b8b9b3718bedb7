-- Generated from tools/vectors/chosen.json; edit that and run tools/vectors/generate.
use Rattle.jsgen_reading_vectors.proofs.VectorsAsync.{await_in_module, operand_on_next_line, power_of_awaited, new_of_awaited, async_arrow_as_default, async_named_async, async_parameters, async_as_condition, async_of_arrow_in_head, loop_that_gives_async, loop_on_three_lines, loop_in_async_arrow, escaped_async_as_key}
use Rattle.jsgen_reading_vectors.proofs.async_vectors.Goals as goal

pub returns : goal.returns
returns c = record { await_in_module = await_in_module; operand_on_next_line = operand_on_next_line; power_of_awaited = power_of_awaited; new_of_awaited = new_of_awaited; async_arrow_as_default = async_arrow_as_default; async_named_async = async_named_async; async_parameters = async_parameters; async_as_condition = async_as_condition; async_of_arrow_in_head = async_of_arrow_in_head; loop_that_gives_async = loop_that_gives_async; loop_on_three_lines = loop_on_three_lines; loop_in_async_arrow = loop_in_async_arrow; escaped_async_as_key = escaped_async_as_key }
