use Rattle.std.proofs.Common.{sym, ◌∙◌}
use Rattle.jsgen_check.specs.Verdict.{surroundings_plain}
use Rattle.jsgen_check.proofs.Steps.{broken, found, kept, two_rules, of_then, of_else}
use Rattle.jsgen_check.proofs.rules.keys.check_object_property_rules.Goals as goal

pub returns-in_err-check_key : goal.returns-in_err-check_key
unfolding surroundings_plain
returns-in_err-check_key g c = broken c.from_residual.ensures.1 (two_rules _ _ (found _ c.in_err-check_key.ensures))

pub returns-then-is_method : goal.returns-then-is_method
unfolding surroundings_plain
returns-then-is_method g c = two_rules _ _ (kept c.in_ok-check_key.ensures (of_then _ _ (sym c.is_method.ensures ∙ c.if-is_method.true) c.check_method.ensures))

pub returns : goal.returns
unfolding surroundings_plain
returns g c = two_rules _ _ (kept c.in_ok-check_key.ensures (of_else _ _ (sym c.is_method.ensures ∙ c.if-is_method.false) c.check_shorthand.ensures))
