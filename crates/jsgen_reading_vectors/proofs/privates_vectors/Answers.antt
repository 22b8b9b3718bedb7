-- Generated from tools/vectors/chosen.json; edit that and run tools/vectors/generate.
use Rattle.jsgen_reading_vectors.proofs.VectorsPrivates.{private_generator, private_accessors, reserved_private_names, private_members, private_targets, private_callees, private_test_of_sum, private_tests_in_choice, private_test_as_operand, private_test_in_head}
use Rattle.jsgen_reading_vectors.proofs.privates_vectors.Goals as goal

pub returns : goal.returns
returns c = record { private_generator = private_generator; private_accessors = private_accessors; reserved_private_names = reserved_private_names; private_members = private_members; private_targets = private_targets; private_callees = private_callees; private_test_of_sum = private_test_of_sum; private_tests_in_choice = private_tests_in_choice; private_test_as_operand = private_test_as_operand; private_test_in_head = private_test_in_head }
