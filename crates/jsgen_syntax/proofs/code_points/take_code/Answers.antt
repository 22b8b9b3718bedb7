use Rattle.std.proofs.Common.{sym, ◌∙◌}
use Rattle.jsgen_syntax.proofs.Wtf8.{step_pair, step_last, step_single}
use Rattle.jsgen_syntax.proofs.code_points.take_code.Goals as goal

pub returns-in_default-clause-joined : goal.returns-in_default-clause-joined
returns-in_default-clause-joined c = (step_last c.args.first c.args.behind.now c.in_default.ensures.cases).0

pub returns-in_default-clause-lone : goal.returns-in_default-clause-lone
returns-in_default-clause-lone c = (step_last c.args.first c.args.behind.now c.in_default.ensures.cases).1

pub returns-then-is_pair-clause-joined : goal.returns-then-is_pair-clause-joined
returns-then-is_pair-clause-joined c = (step_pair c.args.first c.in-Some.second.now c.args.behind.now c.in-Some.rest.now c.in-Some.ensures.cases.0 (sym c.is_pair.ensures ∙ c.if-is_pair.true)).0

pub returns-then-is_pair-clause-lone : goal.returns-then-is_pair-clause-lone
returns-then-is_pair-clause-lone c = (step_pair c.args.first c.in-Some.second.now c.args.behind.now c.in-Some.rest.now c.in-Some.ensures.cases.0 (sym c.is_pair.ensures ∙ c.if-is_pair.true)).1

pub returns-else-is_pair-clause-joined : goal.returns-else-is_pair-clause-joined
returns-else-is_pair-clause-joined c = (step_single c.args.first c.in-Some.second.now c.args.behind.now c.in-Some.rest.now c.in-Some.ensures.cases.0 (sym c.is_pair.ensures ∙ c.if-is_pair.false)).0

pub returns-else-is_pair-clause-lone : goal.returns-else-is_pair-clause-lone
returns-else-is_pair-clause-lone c = (step_single c.args.first c.in-Some.second.now c.args.behind.now c.in-Some.rest.now c.in-Some.ensures.cases.0 (sym c.is_pair.ensures ∙ c.if-is_pair.false)).1
