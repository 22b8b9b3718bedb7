-- Generated from tools/vectors/chosen.json; edit that and run tools/vectors/generate.
use Rattle.jsgen_reading_vectors.proofs.VectorsTemplates.{values_between_pieces, template_in_template, relation_in_template, signs_in_pieces, object_in_template, no_escape_behind_tag, tag_in_parentheses, tag_over_line_end, tag_under_new, tag_of_instance, member_of_tagged, yield_of_template}
use Rattle.jsgen_reading_vectors.proofs.templates_vectors.Goals as goal

pub returns : goal.returns
returns c = record { values_between_pieces = values_between_pieces; template_in_template = template_in_template; relation_in_template = relation_in_template; signs_in_pieces = signs_in_pieces; object_in_template = object_in_template; no_escape_behind_tag = no_escape_behind_tag; tag_in_parentheses = tag_in_parentheses; tag_over_line_end = tag_over_line_end; tag_under_new = tag_under_new; tag_of_instance = tag_of_instance; member_of_tagged = member_of_tagged; yield_of_template = yield_of_template }
