-- Generated from tools/vectors/chosen.json; edit that and run tools/vectors/generate.
use Rattle.jsgen_reading_vectors.proofs.VectorsDefaults.{default_async_function, default_function_and_parentheses, default_class_and_array, default_generator, default_call, default_async, default_method_called, default_pattern, default_string, default_import}
use Rattle.jsgen_reading_vectors.proofs.defaults_vectors.Goals as goal

pub returns : goal.returns
returns c = record { default_async_function = default_async_function; default_function_and_parentheses = default_function_and_parentheses; default_class_and_array = default_class_and_array; default_generator = default_generator; default_call = default_call; default_async = default_async; default_method_called = default_method_called; default_pattern = default_pattern; default_string = default_string; default_import = default_import }
