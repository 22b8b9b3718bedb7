use Rattle.jsgen_reading_samples.proofs.RefusedTexts.{object_first, function_first, operator_in_first, async_before_of, coalesced_or, power_of_negation, optional_link_behind_new, optional_target, unnamed_function, called_body, arrow_on_next_line, throw_on_two_lines, escaped_keyword}
use Rattle.jsgen_reading_samples.proofs.refused_texts.Goals as goal

pub returns : goal.returns
returns c = record { object_first = object_first; function_first = function_first; operator_in_first = operator_in_first; async_before_of = async_before_of; coalesced_or = coalesced_or; power_of_negation = power_of_negation; optional_link_behind_new = optional_link_behind_new; optional_target = optional_target; unnamed_function = unnamed_function; called_body = called_body; arrow_on_next_line = arrow_on_next_line; throw_on_two_lines = throw_on_two_lines; escaped_keyword = escaped_keyword }
