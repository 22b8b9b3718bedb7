use Rattle.std.proofs.Common.{cond, Some, None, [], sym, ap, ◌∙◌}
use Rattle.jsgen_rules.specs.UnitsLeft.{left, is_value}
use Rattle.jsgen_rules.proofs.Taken.{no_step}
use Rattle.jsgen_rules.proofs.values.ends.Goals as goal

pub returns-then-may_end : goal.returns-then-may_end
returns-then-may_end c = c.is_empty.ensures ∙ ap (λ o. is_value o (left c.args.units)) (sym (no_step c.args.state ∙ ap (λ b. cond b (Some []) None) (sym c.may_end.ensures ∙ c.if-may_end.true)))

pub returns-else-may_end : goal.returns-else-may_end
returns-else-may_end c = c.if-may_end.false ∙ sym (ap (λ o. is_value o (left c.args.units)) (no_step c.args.state ∙ ap (λ b. cond b (Some []) None) (sym c.may_end.ensures ∙ c.if-may_end.false)))
