use Rattle.jsgen_printer.proofs.Sequence.{◌⨾◌}
use Rattle.jsgen_modules.proofs.attributes.print_import_attribute.Goals as goal

pub returns : goal.returns
returns c = c.print_key.ensures ⨾ (c.print_colon.ensures ⨾ (c.print_soft_space.ensures ⨾ (rw c.deref.ensures at c.print_plain_string.ensures)))
