use Rattle.std.specs.Str.{chars}
use Rattle.jsgen_rules.proofs.names.check_reference.Goals as goal

pub returns : goal.returns
returns c = rw (c.is_reference_in-is_in_table.ensures (chars c.args.name.now), c.reference_name.ensures) at c.check_printed.ensures
