-- Generated from tools/vectors/chosen.json; edit that and run tools/vectors/generate.
use Rattle.jsgen_reading_vectors.proofs.VectorsGenerators.{yield_before_brace, yield_of_object, delegation_on_two_lines, yields_in_choice, yield_as_operand, yields_in_pattern, members_by_yields, async_generator, star_on_its_line, keys_by_yields}
use Rattle.jsgen_reading_vectors.proofs.generators_vectors.Goals as goal

pub returns : goal.returns
returns c = record { yield_before_brace = yield_before_brace; yield_of_object = yield_of_object; delegation_on_two_lines = delegation_on_two_lines; yields_in_choice = yields_in_choice; yield_as_operand = yield_as_operand; yields_in_pattern = yields_in_pattern; members_by_yields = members_by_yields; async_generator = async_generator; star_on_its_line = star_on_its_line; keys_by_yields = keys_by_yields }
