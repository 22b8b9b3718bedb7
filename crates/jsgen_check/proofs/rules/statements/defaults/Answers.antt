use Rattle.std.proofs.Common.{not, ap, ◌∙◌}
use Rattle.jsgen_check.proofs.Cases.{one_more, no_more, all_counted}
use Rattle.jsgen_check.proofs.rules.statements.defaults.Goals.{then-is_none, else-is_none}
use Rattle.jsgen_check.proofs.rules.statements.defaults.Goals as goal

pub loop-case-preserved : goal.loop-case-preserved
loop-case-preserved g c = elim c.if-is_none.branch [
  | then-is_none w ↦ one_more g.N.CheckNode.plain c.args.cases.now c.loop-case.case-index c.loop-case.count c.if-is_none.count c.case-item.result c.loop-case-test.true c.case-item.is (c.is_none.ensures ∙ ap not w.if-is_none.true) w.count-is c.loop-case.invariant
  | else-is_none w ↦ no_more g.N.CheckNode.plain c.args.cases.now c.loop-case.case-index c.loop-case.count c.if-is_none.count c.case-item.result c.loop-case-test.true c.case-item.is (c.is_none.ensures ∙ ap not w.if-is_none.false) w.count-is c.loop-case.invariant
]

pub returns : goal.returns
returns g c = all_counted g.N.CheckNode.plain c.args.cases.now c.loop-case.case-index c.loop-case.count c.loop-case-test.false c.loop-case.invariant
