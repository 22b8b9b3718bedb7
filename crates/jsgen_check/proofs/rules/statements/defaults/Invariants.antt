use Rattle.jsgen_check.proofs.Cases.{Counted}
use Rattle.jsgen_check.proofs.rules.statements.defaults.Given as goal

-- those before the case that is next are counted
abbrev pub invariant-loop-case : goal.invariant-loop-case
invariant-loop-case g l = Counted g.N.CheckNode.plain l.cases l.case-index l.count
