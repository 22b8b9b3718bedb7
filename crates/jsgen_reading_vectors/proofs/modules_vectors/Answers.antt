-- Generated from tools/vectors/chosen.json; edit that and run tools/vectors/generate.
use Rattle.jsgen_reading_vectors.proofs.VectorsModules.{import_alone, imports_none, imports_named_by_words, default_and_names, import_by_string, import_by_escaped_words, attributes, attributes_on_next_line, export_by_all_names, export_of_reserved_from, export_all_as_default, export_of_pattern}
use Rattle.jsgen_reading_vectors.proofs.modules_vectors.Goals as goal

pub returns : goal.returns
returns c = record { import_alone = import_alone; imports_none = imports_none; imports_named_by_words = imports_named_by_words; default_and_names = default_and_names; import_by_string = import_by_string; import_by_escaped_words = import_by_escaped_words; attributes = attributes; attributes_on_next_line = attributes_on_next_line; export_by_all_names = export_by_all_names; export_of_reserved_from = export_of_reserved_from; export_all_as_default = export_all_as_default; export_of_pattern = export_of_pattern }
