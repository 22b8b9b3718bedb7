-- Generated from tools/nodes/table.txt; edit that and run tools/nodes/generate.
-- A word is one of those of its length.
use Rattle.std.proofs.Common.{◌∙◌}
use Rattle.jsgen_tree.specs.Fields.{content_of_comment_words}
use Rattle.jsgen_fields.proofs.WordLengths.{of_length}
use Rattle.jsgen_fields.proofs.words.content_of_comment_by_word.Goals as goal

pub returns-in-4 : goal.returns-in-4
returns-in-4 c = c.content_of_comment_of_length_4.ensures ∙ of_length 4 c.args.word.now content_of_comment_words c.in-4.is

pub returns-in-5 : goal.returns-in-5
returns-in-5 c = c.content_of_comment_of_length_5.ensures ∙ of_length 5 c.args.word.now content_of_comment_words c.in-5.is

pub returns-in-6 : goal.returns-in-6
returns-in-6 c = c.content_of_comment_of_length_6.ensures ∙ of_length 6 c.args.word.now content_of_comment_words c.in-6.is

pub returns-in-7 : goal.returns-in-7
returns-in-7 c = c.content_of_comment_of_length_7.ensures ∙ of_length 7 c.args.word.now content_of_comment_words c.in-7.is

pub returns-in-8 : goal.returns-in-8
returns-in-8 c = c.content_of_comment_of_length_8.ensures ∙ of_length 8 c.args.word.now content_of_comment_words c.in-8.is

pub returns-in-10 : goal.returns-in-10
returns-in-10 c = c.content_of_comment_of_length_10.ensures ∙ of_length 10 c.args.word.now content_of_comment_words c.in-10.is

pub returns-in-11 : goal.returns-in-11
returns-in-11 c = c.content_of_comment_of_length_11.ensures ∙ of_length 11 c.args.word.now content_of_comment_words c.in-11.is

pub returns-in-12 : goal.returns-in-12
returns-in-12 c = c.content_of_comment_of_length_12.ensures ∙ of_length 12 c.args.word.now content_of_comment_words c.in-12.is

pub returns-in-13 : goal.returns-in-13
returns-in-13 c = c.content_of_comment_of_length_13.ensures ∙ of_length 13 c.args.word.now content_of_comment_words c.in-13.is
