use Rattle.jsgen_printer.proofs.Sequence.{◌⨾◌}
use Rattle.jsgen_nodes.proofs.modules.print_export_default_declaration.Goals as goal

pub returns : goal.returns
returns g c = (rw c.is_pure_declaration.ensures at c.begin_export.ensures) ⨾ (c.print_hard_space.ensures ⨾ (c.print_word.ensures ⨾ (c.print_soft_space.ensures ⨾ c.print_export_default_declaration_kind.ensures)))
