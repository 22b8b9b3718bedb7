-- Generated from tools/vectors/chosen.json; edit that and run tools/vectors/generate.
use Rattle.jsgen_reading_vectors.proofs.VectorsNames.{bound_words, bound_on_next_line, labels, call_over_line_end, of_over_of, of_in_head, of_bound_over, member_of_async_before_of, async_in_parentheses_before_of, async_before_in}
use Rattle.jsgen_reading_vectors.proofs.names_vectors.Goals as goal

pub returns : goal.returns
returns c = record { bound_words = bound_words; bound_on_next_line = bound_on_next_line; labels = labels; call_over_line_end = call_over_line_end; of_over_of = of_over_of; of_in_head = of_in_head; of_bound_over = of_bound_over; member_of_async_before_of = member_of_async_before_of; async_in_parentheses_before_of = async_in_parentheses_before_of; async_before_in = async_before_in }
