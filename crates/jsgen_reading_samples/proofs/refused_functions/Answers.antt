use Rattle.jsgen_reading_samples.proofs.RefusedFunctions.{power_of_awaited, await_in_plain_arrow, waiting_in_plain_function, arrow_behind_line_end, yield_as_operand}
use Rattle.jsgen_reading_samples.proofs.refused_functions.Goals as goal

pub returns : goal.returns
returns c = record { power_of_awaited = power_of_awaited; await_in_plain_arrow = await_in_plain_arrow; waiting_in_plain_function = waiting_in_plain_function; arrow_behind_line_end = arrow_behind_line_end; yield_as_operand = yield_as_operand }
