-- Generated from tools/vectors/chosen.json; edit that and run tools/vectors/generate.
use Rattle.jsgen_reading_vectors.proofs.VectorsMembers.{getter_on_two_lines, static_field_on_two_lines, static_generator_on_two_lines, field_named_static, value_of_static, method_named_get, fields_named_by_words, methods_of_class, member_on_next_line, semicolons_alone, keys_of_members, key_awaited, async_arrow_as_value, escaped_words}
use Rattle.jsgen_reading_vectors.proofs.members_vectors.Goals as goal

pub returns : goal.returns
returns c = record { getter_on_two_lines = getter_on_two_lines; static_field_on_two_lines = static_field_on_two_lines; static_generator_on_two_lines = static_generator_on_two_lines; field_named_static = field_named_static; value_of_static = value_of_static; method_named_get = method_named_get; fields_named_by_words = fields_named_by_words; methods_of_class = methods_of_class; member_on_next_line = member_on_next_line; semicolons_alone = semicolons_alone; keys_of_members = keys_of_members; key_awaited = key_awaited; async_arrow_as_value = async_arrow_as_value; escaped_words = escaped_words }
