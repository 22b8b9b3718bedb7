-- Generated from tools/vectors/chosen.json; edit that and run tools/vectors/generate.
use Rattle.jsgen_reading_vectors.proofs.VectorsSlashes.{division_of_expression, division_by_expression, expression_behind_block, expression_behind_function, object_divided, slash_in_brackets, slash_escaped}
use Rattle.jsgen_reading_vectors.proofs.slashes_vectors.Goals as goal

pub returns : goal.returns
returns c = record { division_of_expression = division_of_expression; division_by_expression = division_by_expression; expression_behind_block = expression_behind_block; expression_behind_function = expression_behind_function; object_divided = object_divided; slash_in_brackets = slash_in_brackets; slash_escaped = slash_escaped }
