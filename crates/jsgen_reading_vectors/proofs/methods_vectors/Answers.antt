-- Generated from tools/vectors/chosen.json; edit that and run tools/vectors/generate.
use Rattle.jsgen_reading_vectors.proofs.VectorsMethods.{methods_with_words, methods_named_by_words, words_as_shorthands, words_as_targets, async_as_key, accessors_on_two_lines, keys_of_methods, escaped_keys}
use Rattle.jsgen_reading_vectors.proofs.methods_vectors.Goals as goal

pub returns : goal.returns
returns c = record { methods_with_words = methods_with_words; methods_named_by_words = methods_named_by_words; words_as_shorthands = words_as_shorthands; words_as_targets = words_as_targets; async_as_key = async_as_key; accessors_on_two_lines = accessors_on_two_lines; keys_of_methods = keys_of_methods; escaped_keys = escaped_keys }
