use Rattle.std.proofs.Common.{sym, ◌∙◌}
use Rattle.jsgen_check.proofs.Bare.{lacking_there, next_lacking, none_lacking}
use Rattle.jsgen_check.proofs.rules.patterns.lacking.Goals as goal

pub loop-declarator-preserved : goal.loop-declarator-preserved
loop-declarator-preserved g c = next_lacking g.T.TypeOf.plain c.args.span c.args.declarators.now c.loop-declarator.declarator-index c.declarator-item.result c.loop-declarator-test.true c.declarator-item.is (sym c.lacks_value.ensures ∙ c.if-lacks_value.false) c.loop-declarator.invariant

pub returns-then-lacks_value : goal.returns-then-lacks_value
returns-then-lacks_value g c = lacking_there g.T.TypeOf.plain c.args.span c.args.declarators.now c.loop-declarator.declarator-index c.declarator-item.result c.loop-declarator-test.true c.declarator-item.is (sym c.lacks_value.ensures ∙ c.if-lacks_value.true) c.loop-declarator.invariant

pub returns : goal.returns
returns g c = none_lacking g.T.TypeOf.plain c.args.span c.args.declarators.now c.loop-declarator.declarator-index c.loop-declarator-test.false c.loop-declarator.invariant
