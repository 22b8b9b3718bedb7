-- Generated from tools/nodes/table.txt; edit that and run tools/nodes/generate.
-- A word is one of those of its length.
use Rattle.std.proofs.Common.{◌∙◌}
use Rattle.jsgen_tree.specs.Fields.{unary_operator_words}
use Rattle.jsgen_fields.proofs.WordLengths.{of_length}
use Rattle.jsgen_fields.proofs.words.unary_operator_by_word.Goals as goal

pub returns-in-1 : goal.returns-in-1
returns-in-1 c = c.unary_operator_of_length_1.ensures ∙ of_length 1 c.args.word.now unary_operator_words c.in-1.is

pub returns-in-4 : goal.returns-in-4
returns-in-4 c = c.unary_operator_of_length_4.ensures ∙ of_length 4 c.args.word.now unary_operator_words c.in-4.is

pub returns-in-6 : goal.returns-in-6
returns-in-6 c = c.unary_operator_of_length_6.ensures ∙ of_length 6 c.args.word.now unary_operator_words c.in-6.is
