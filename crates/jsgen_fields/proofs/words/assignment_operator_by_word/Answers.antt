-- Generated from tools/nodes/table.txt; edit that and run tools/nodes/generate.
-- A word is one of those of its length.
use Rattle.std.proofs.Common.{◌∙◌}
use Rattle.jsgen_tree.specs.Fields.{assignment_operator_words}
use Rattle.jsgen_fields.proofs.WordLengths.{of_length}
use Rattle.jsgen_fields.proofs.words.assignment_operator_by_word.Goals as goal

pub returns-in-1 : goal.returns-in-1
returns-in-1 c = c.assignment_operator_of_length_1.ensures ∙ of_length 1 c.args.word.now assignment_operator_words c.in-1.is

pub returns-in-2 : goal.returns-in-2
returns-in-2 c = c.assignment_operator_of_length_2.ensures ∙ of_length 2 c.args.word.now assignment_operator_words c.in-2.is

pub returns-in-3 : goal.returns-in-3
returns-in-3 c = c.assignment_operator_of_length_3.ensures ∙ of_length 3 c.args.word.now assignment_operator_words c.in-3.is

pub returns-in-4 : goal.returns-in-4
returns-in-4 c = c.assignment_operator_of_length_4.ensures ∙ of_length 4 c.args.word.now assignment_operator_words c.in-4.is
