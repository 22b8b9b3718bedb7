use Rattle.jsgen_oracle.proofs.Samples.{nothing, two_statements, to_the_left, to_the_right, powers_to_the_right, product_in_sum, parentheses, declarators, without_value, over_lines, members, member_of_number, string, template, template_statement, directive, use_strict, escaped_name, semicolon_alone, block, empty_in_block, without_else, with_else, last_if, two_minuses, type_of_member, update_before, update_behind, two_news, member_of_super}
use Rattle.jsgen_oracle.proofs.Assigned.{choices_to_the_right, number_behind_question, sequence, assignments_to_the_right, assignment_to_parentheses, assignment_in_alternate, chain, optional_element}
use Rattle.jsgen_oracle.proofs.Arrows.{arrow_with_name, parameters, arrow_to_object, comma_behind_parameters, arrow_to_arrow, arrow_to_choice, arrow_in_alternate}
use Rattle.jsgen_oracle.proofs.grammar_samples.Goals as goal

pub returns : goal.returns
returns c = record { nothing = nothing; two_statements = two_statements; to_the_left = to_the_left; to_the_right = to_the_right; powers_to_the_right = powers_to_the_right; product_in_sum = product_in_sum; parentheses = parentheses; declarators = declarators; without_value = without_value; over_lines = over_lines; members = members; two_minuses = two_minuses; member_of_number = member_of_number; type_of_member = type_of_member; update_before = update_before; update_behind = update_behind; two_news = two_news; member_of_super = member_of_super; choices_to_the_right = choices_to_the_right; number_behind_question = number_behind_question; sequence = sequence; assignments_to_the_right = assignments_to_the_right; assignment_to_parentheses = assignment_to_parentheses; assignment_in_alternate = assignment_in_alternate; chain = chain; optional_element = optional_element; arrow_with_name = arrow_with_name; parameters = parameters; arrow_to_object = arrow_to_object; comma_behind_parameters = comma_behind_parameters; arrow_to_arrow = arrow_to_arrow; arrow_to_choice = arrow_to_choice; arrow_in_alternate = arrow_in_alternate; string = string; template = template; template_statement = template_statement; directive = directive; use_strict = use_strict; escaped_name = escaped_name; semicolon_alone = semicolon_alone; block = block; empty_in_block = empty_in_block; without_else = without_else; with_else = with_else; last_if = last_if }
