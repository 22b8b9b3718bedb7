use Rattle.std.proofs.Common.{sym, ap, ◌∙◌}
use Rattle.jsgen_rules.specs.UnitsLeft.{left, is_value, go_on}
use Rattle.jsgen_rules.specs.Values.{value_from, value_behind}
use Rattle.jsgen_rules.proofs.Taken.{one_step}
use Rattle.jsgen_rules.proofs.values.take_turn.Goals as goal

pub returns-in-Some-behind : goal.returns-in-Some-behind
returns-in-Some-behind c = λ rest h r.
    ap (λ o. is_value o (left c.args.units)) (one_step c.args.state c.args.c rest h r ∙ ap (λ s. value_behind s rest) (sym c.next_step.ensures ∙ c.in-Some.is))
    ∙ (c.behind.ensures (value_from c.in-Some.step.state rest) ∙ ap (λ o. go_on (value_from c.in-Some.step.state rest) o) c.in-Some-behind.is)

pub returns-in-None-behind : goal.returns-in-None-behind
returns-in-None-behind c = λ rest h r.
    ap (λ o. is_value o (left c.args.units)) (one_step c.args.state c.args.c rest h r ∙ ap (λ s. value_behind s rest) (sym c.next_step.ensures ∙ c.in-Some.is))
    ∙ (c.behind.ensures (value_from c.in-Some.step.state rest) ∙ ap (λ o. go_on (value_from c.in-Some.step.state rest) o) c.in-None-behind.is)

pub returns-in-None : goal.returns-in-None
returns-in-None c = λ rest h r. ap (λ o. is_value o (left c.args.units)) (one_step c.args.state c.args.c rest h r ∙ ap (λ s. value_behind s rest) (sym c.next_step.ensures ∙ c.in-None.is))
