-- Generated from tools/vectors/chosen.json; edit that and run tools/vectors/generate.
use Rattle.jsgen_reading_vectors.proofs.VectorsImports.{import_first, import_with_options, import_on_three_lines, optional_link_behind_import, import_in_head, meta, optional_link_behind_meta, member_of_meta_as_target, new_of_member_of_meta}
use Rattle.jsgen_reading_vectors.proofs.imports_vectors.Goals as goal

pub returns : goal.returns
returns c = record { import_first = import_first; import_with_options = import_with_options; import_on_three_lines = import_on_three_lines; optional_link_behind_import = optional_link_behind_import; import_in_head = import_in_head; meta = meta; optional_link_behind_meta = optional_link_behind_meta; member_of_meta_as_target = member_of_meta_as_target; new_of_member_of_meta = new_of_member_of_meta }
