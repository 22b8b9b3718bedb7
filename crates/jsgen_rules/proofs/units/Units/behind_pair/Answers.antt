use Rattle.std.proofs.Common.{◌∷◌, [], ap, ◌∙◌}
use Rattle.jsgen_syntax.specs.Strings.{and_then}
use Rattle.jsgen_rules.specs.UnitsLeft.{left, is_value, go_on}
use Rattle.jsgen_rules.proofs.Taken.{two_at_once}
use Rattle.jsgen_rules.proofs.units.Units.behind_pair.Goals as goal

pub returns-in-Some : goal.returns-in-Some
returns-in-Some c = λ others. ap (λ o. is_value o (left c.args.self)) (two_at_once c.args.first c.args.second others) ∙ (c.behind_unit.ensures (and_then (c.args.second ∷ []) others) ∙ (ap (λ o. go_on (and_then (c.args.second ∷ []) others) o) c.in-Some.is ∙ c.behind_unit-in-Some.ensures others))

pub returns-in-None : goal.returns-in-None
returns-in-None c = λ others. ap (λ o. is_value o (left c.args.self)) (two_at_once c.args.first c.args.second others) ∙ (c.behind_unit.ensures (and_then (c.args.second ∷ []) others) ∙ ap (λ o. go_on (and_then (c.args.second ∷ []) others) o) c.in-None.is)
