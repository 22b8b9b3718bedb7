-- Generated from tools/vectors/chosen.json; edit that and run tools/vectors/generate.
use Rattle.jsgen_reading_vectors.proofs.VectorsPatterns.{object_pattern_first, members_in_pattern, object_before_of, patterns_in_choice, pattern_as_value, pattern_over_line_end, named_function_to_target}
use Rattle.jsgen_reading_vectors.proofs.patterns_vectors.Goals as goal

pub returns : goal.returns
returns c = record { object_pattern_first = object_pattern_first; members_in_pattern = members_in_pattern; object_before_of = object_before_of; patterns_in_choice = patterns_in_choice; pattern_as_value = pattern_as_value; pattern_over_line_end = pattern_over_line_end; named_function_to_target = named_function_to_target }
