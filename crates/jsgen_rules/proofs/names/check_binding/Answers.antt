use Rattle.std.specs.Str.{chars}
use Rattle.jsgen_rules.proofs.names.check_binding.Goals as goal

pub returns : goal.returns
returns c = rw (c.is_symbol_in-is_in_table.ensures (chars c.args.name.now), c.binding_name.ensures) at c.check_printed.ensures
