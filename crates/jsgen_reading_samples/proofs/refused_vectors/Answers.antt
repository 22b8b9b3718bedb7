-- Generated from tools/vectors/refused.json; edit that and run tools/vectors/generate.
use Rattle.jsgen_reading_samples.proofs.RefusedVectors.{escaped_async, escaped_await, escaped_yield, loop_that_waits_in, sequence_behind_of, value_before_awaited_of, arrow_before_of, await_without_operand, await_as_label, update_of_await, await_under_new, await_of_arrow, await_in_function, await_in_inner_arrow, await_in_inner_function, await_among_parameters, await_among_async_parameters, await_in_key_of_parameter, await_as_parameter, await_as_function_name, arrow_behind_call, operand_behind_arrow, async_function_as_branch, label_of_generator, nameless_declaration, generator_named_yield, star_on_next_line, two_stars_of_yield, yield_before_in, yield_in_inner_arrow, yield_among_parameters, yield_as_target, await_in_generator, await_of_yield, async_method_on_two_lines, async_generator_on_two_lines, accessor_with_star, value_behind_async, star_alone, escaped_static, two_fields_on_one_line, two_extended, assignment_extended, arrow_extended, sign_extended, await_in_field, await_in_static_block, return_in_static_block, yield_in_field, three_statics, getter_without_parameters, commas_between_members, operator_behind_key, class_as_target, nameless_class_declaration, class_named_static, member_of_declaration, class_as_branch, escaped_as, escaped_from, string_bound, names_before_default, namespace_without_name, comma_before_from, source_without_quotes, reserved_bound, await_bound, import_in_block, import_as_branch, attribute_with_number, string_exported, reserved_exported, attributes_without_source, all_without_source, reference_exported, async_export_on_two_lines, nameless_function_exported, export_in_function, member_of_default, sequence_as_default, variable_as_default, let_as_default, three_arguments_of_import, import_of_nothing, spread_imported, import_under_new, import_as_target, other_meta, escaped_meta, meta_as_target, import_as_reference}
use Rattle.jsgen_reading_samples.proofs.refused_vectors.Goals as goal

pub returns : goal.returns
returns c = record { escaped_async = escaped_async; escaped_await = escaped_await; escaped_yield = escaped_yield; loop_that_waits_in = loop_that_waits_in; sequence_behind_of = sequence_behind_of; value_before_awaited_of = value_before_awaited_of; arrow_before_of = arrow_before_of; await_without_operand = await_without_operand; await_as_label = await_as_label; update_of_await = update_of_await; await_under_new = await_under_new; await_of_arrow = await_of_arrow; await_in_function = await_in_function; await_in_inner_arrow = await_in_inner_arrow; await_in_inner_function = await_in_inner_function; await_among_parameters = await_among_parameters; await_among_async_parameters = await_among_async_parameters; await_in_key_of_parameter = await_in_key_of_parameter; await_as_parameter = await_as_parameter; await_as_function_name = await_as_function_name; arrow_behind_call = arrow_behind_call; operand_behind_arrow = operand_behind_arrow; async_function_as_branch = async_function_as_branch; label_of_generator = label_of_generator; nameless_declaration = nameless_declaration; generator_named_yield = generator_named_yield; star_on_next_line = star_on_next_line; two_stars_of_yield = two_stars_of_yield; yield_before_in = yield_before_in; yield_in_inner_arrow = yield_in_inner_arrow; yield_among_parameters = yield_among_parameters; yield_as_target = yield_as_target; await_in_generator = await_in_generator; await_of_yield = await_of_yield; async_method_on_two_lines = async_method_on_two_lines; async_generator_on_two_lines = async_generator_on_two_lines; accessor_with_star = accessor_with_star; value_behind_async = value_behind_async; star_alone = star_alone; escaped_static = escaped_static; two_fields_on_one_line = two_fields_on_one_line; two_extended = two_extended; assignment_extended = assignment_extended; arrow_extended = arrow_extended; sign_extended = sign_extended; await_in_field = await_in_field; await_in_static_block = await_in_static_block; return_in_static_block = return_in_static_block; yield_in_field = yield_in_field; three_statics = three_statics; getter_without_parameters = getter_without_parameters; commas_between_members = commas_between_members; operator_behind_key = operator_behind_key; class_as_target = class_as_target; nameless_class_declaration = nameless_class_declaration; class_named_static = class_named_static; member_of_declaration = member_of_declaration; class_as_branch = class_as_branch; escaped_as = escaped_as; escaped_from = escaped_from; string_bound = string_bound; names_before_default = names_before_default; namespace_without_name = namespace_without_name; comma_before_from = comma_before_from; source_without_quotes = source_without_quotes; reserved_bound = reserved_bound; await_bound = await_bound; import_in_block = import_in_block; import_as_branch = import_as_branch; attribute_with_number = attribute_with_number; string_exported = string_exported; reserved_exported = reserved_exported; attributes_without_source = attributes_without_source; all_without_source = all_without_source; reference_exported = reference_exported; async_export_on_two_lines = async_export_on_two_lines; nameless_function_exported = nameless_function_exported; export_in_function = export_in_function; member_of_default = member_of_default; sequence_as_default = sequence_as_default; variable_as_default = variable_as_default; let_as_default = let_as_default; three_arguments_of_import = three_arguments_of_import; import_of_nothing = import_of_nothing; spread_imported = spread_imported; import_under_new = import_under_new; import_as_target = import_as_target; other_meta = other_meta; escaped_meta = escaped_meta; meta_as_target = meta_as_target; import_as_reference = import_as_reference }
