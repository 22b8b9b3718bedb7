use Rattle.jsgen_oracle.proofs.Bodies.{declaration, parameters, comma_behind_parameters, declaration_and_statement, declaration_in_block, declaration_in_body, nameless, named_in_assignment, called, arrow_with_body, arrow_that_returns, return_and_statement, methods, method_get, computed_getter, directive_in_body, last_directive, keys, setter_with_value, function_in_parameter, arrow_with_rest}
use Rattle.jsgen_oracle.proofs.function_samples.Goals as goal

pub returns : goal.returns
returns c = record { declaration = declaration; parameters = parameters; comma_behind_parameters = comma_behind_parameters; declaration_and_statement = declaration_and_statement; declaration_in_block = declaration_in_block; declaration_in_body = declaration_in_body; nameless = nameless; named_in_assignment = named_in_assignment; called = called; arrow_with_body = arrow_with_body; arrow_that_returns = arrow_that_returns; return_and_statement = return_and_statement; methods = methods; method_get = method_get; computed_getter = computed_getter; directive_in_body = directive_in_body; last_directive = last_directive; keys = keys; setter_with_value = setter_with_value; function_in_parameter = function_in_parameter; arrow_with_rest = arrow_with_rest }
