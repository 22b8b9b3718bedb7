use Rattle.jsgen_lists.proofs.NotOne.{one_case, other_cases}
use Rattle.jsgen_lists.proofs.cases.print_consequent.Goals as goal

pub returns-then-statements-eq1 : goal.returns-then-statements-eq1
returns-then-statements-eq1 g c = rw (one_case g.S.PrintStatement.plain g.O.PrintOnly.plain c.args.end c.args.statements.now c.index-statements-0.result _ c.if-statements-eq1.true c.index-statements-0.is) c.print_only.ensures

pub returns-else-statements-eq1 : goal.returns-else-statements-eq1
returns-else-statements-eq1 g c = rw (other_cases g.S.PrintStatement.plain c.args.statements.now _ _ c.if-statements-eq1.false) c.print_deeper_statements.ensures
