-- Generated from tools/vectors/chosen.json; edit that and run tools/vectors/generate.
use Rattle.jsgen_reading_vectors.proofs.VectorsClasses.{extends_parentheses, extends_object, parentheses_behind_declaration, member_of_class, new_class, class_first_in_head, class_before_of, static_blocks, async_arrow_in_static_block, members_of_super, keys_in_generator}
use Rattle.jsgen_reading_vectors.proofs.classes_vectors.Goals as goal

pub returns : goal.returns
returns c = record { extends_parentheses = extends_parentheses; extends_object = extends_object; parentheses_behind_declaration = parentheses_behind_declaration; member_of_class = member_of_class; new_class = new_class; class_first_in_head = class_first_in_head; class_before_of = class_before_of; static_blocks = static_blocks; async_arrow_in_static_block = async_arrow_in_static_block; members_of_super = members_of_super; keys_in_generator = keys_in_generator }
