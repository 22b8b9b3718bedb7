use Rattle.jsgen_printer.proofs.Sequence.{◌⨾◌}
use Rattle.jsgen_modules.proofs.Ends.{ended_otherwise}
use Rattle.jsgen_modules.proofs.exports.end_exported.Goals as goal

pub returns-in_default : goal.returns-in_default
returns-in_default c = rw (ended_otherwise c.args.declared c.in_default.not-VariableDeclaration) (c.print_soft_line.ensures ⨾ c.drop_semicolon.ensures.lays)
