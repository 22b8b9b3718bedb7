use Rattle.std.proofs.Common.{◌==◌, ap, ◌∙◌}
use Rattle.jsgen_tree.specs.Rows.{in_import_declaration_specifier}
use Rattle.jsgen_modules.proofs.Spaced.{is_empty_where_none}
use Rattle.jsgen_modules.proofs.imports.is_empty_list.Goals as goal

pub returns-in-Some : goal.returns-in-Some
returns-in-Some c = rw c.in-Some.is (c.is_empty.ensures ∙ (ap (λ n. n == 0) c.in-Some.specifiers.ok.0 ∙ is_empty_where_none in_import_declaration_specifier c.in-Some.specifiers.items))
