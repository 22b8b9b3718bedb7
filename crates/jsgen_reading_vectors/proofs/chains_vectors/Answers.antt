-- Generated from tools/vectors/chosen.json; edit that and run tools/vectors/generate.
use Rattle.jsgen_reading_vectors.proofs.VectorsChains.{arguments_of_new, two_arguments_of_new, new_without_arguments, arguments_on_next_line, optional_link_behind_new, new_of_object, new_of_target, object_behind_arrow, block_before_sign}
use Rattle.jsgen_reading_vectors.proofs.chains_vectors.Goals as goal

pub returns : goal.returns
returns c = record { arguments_of_new = arguments_of_new; two_arguments_of_new = two_arguments_of_new; new_without_arguments = new_without_arguments; arguments_on_next_line = arguments_on_next_line; optional_link_behind_new = optional_link_behind_new; new_of_object = new_of_object; new_of_target = new_of_target; object_behind_arrow = object_behind_arrow; block_before_sign = block_before_sign }
