use Rattle.jsgen_reading_samples.proofs.Read.{array_of_bindings, object_of_bindings, name_and_pattern, no_element_bound, no_property_bound, elision_alone, defaults_and_rest, rest_of_object, keys_of_bindings, in_in_default, loop_over_pattern, caught_pattern, pattern_parameters, array_of_targets, object_of_targets, no_element_assigned, no_property_assigned, targets_left_out, rest_to_member, keys_of_targets, defaults_of_patterns, target_in_parentheses, member_of_object, loop_into_array, loop_into_object, sides_of_choice, kinds_of_properties, kinds_of_properties_with_spaces, keys_that_are_no_names, keys_that_are_no_names_with_spaces, name_with_default, name_with_default_with_spaces}
use Rattle.jsgen_reading_samples.proofs.read_patterns.Goals as goal

pub returns : goal.returns
returns c = record { array_of_bindings = array_of_bindings; object_of_bindings = object_of_bindings; name_and_pattern = name_and_pattern; no_element_bound = no_element_bound; no_property_bound = no_property_bound; elision_alone = elision_alone; defaults_and_rest = defaults_and_rest; rest_of_object = rest_of_object; keys_of_bindings = keys_of_bindings; in_in_default = in_in_default; loop_over_pattern = loop_over_pattern; caught_pattern = caught_pattern; pattern_parameters = pattern_parameters; array_of_targets = array_of_targets; object_of_targets = object_of_targets; no_element_assigned = no_element_assigned; no_property_assigned = no_property_assigned; targets_left_out = targets_left_out; rest_to_member = rest_to_member; keys_of_targets = keys_of_targets; defaults_of_patterns = defaults_of_patterns; target_in_parentheses = target_in_parentheses; member_of_object = member_of_object; loop_into_array = loop_into_array; loop_into_object = loop_into_object; sides_of_choice = sides_of_choice; kinds_of_properties = kinds_of_properties; kinds_of_properties_with_spaces = kinds_of_properties_with_spaces; keys_that_are_no_names = keys_that_are_no_names; keys_that_are_no_names_with_spaces = keys_that_are_no_names_with_spaces; name_with_default = name_with_default; name_with_default_with_spaces = name_with_default_with_spaces }
