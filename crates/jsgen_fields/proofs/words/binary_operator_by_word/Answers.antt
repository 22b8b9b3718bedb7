-- Generated from tools/nodes/table.txt; edit that and run tools/nodes/generate.
-- A word is one of those of its length.
use Rattle.std.proofs.Common.{◌∙◌}
use Rattle.jsgen_tree.specs.Fields.{binary_operator_words}
use Rattle.jsgen_fields.proofs.WordLengths.{of_length}
use Rattle.jsgen_fields.proofs.words.binary_operator_by_word.Goals as goal

pub returns-in-1 : goal.returns-in-1
returns-in-1 c = c.binary_operator_of_length_1.ensures ∙ of_length 1 c.args.word.now binary_operator_words c.in-1.is

pub returns-in-2 : goal.returns-in-2
returns-in-2 c = c.binary_operator_of_length_2.ensures ∙ of_length 2 c.args.word.now binary_operator_words c.in-2.is

pub returns-in-3 : goal.returns-in-3
returns-in-3 c = c.binary_operator_of_length_3.ensures ∙ of_length 3 c.args.word.now binary_operator_words c.in-3.is

pub returns-in-10 : goal.returns-in-10
returns-in-10 c = c.binary_operator_of_length_10.ensures ∙ of_length 10 c.args.word.now binary_operator_words c.in-10.is
