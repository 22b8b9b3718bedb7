use Rattle.std.proofs.Common.{sym, ◌∙◌}
use Rattle.jsgen_rules.proofs.Taken.{none_left}
use Rattle.jsgen_rules.proofs.units.Units.take.Goals as goal

pub returns-then-is_empty : goal.returns-then-is_empty
returns-then-is_empty c = none_left c.args.self.second c.args.self.rest.now c.in_default.is (sym c.is_empty.ensures ∙ c.if-is_empty.true)
