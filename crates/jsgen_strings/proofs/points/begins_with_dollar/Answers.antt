use Rattle.std.proofs.Common.{◌∙◌, ap, not, arith}
use Rattle.jsgen_strings.proofs.Looks.{low_first, dollar_here}
use Rattle.jsgen_strings.proofs.points.begins_with_dollar.Goals as goal

pub begins_with_brace-requires : goal.begins_with_brace-requires
begins_with_brace-requires c = (low_first c.args.bytes.now c.in-Some.first.now c.in-Some.behind.now c.requires c.in-Some.ensures.cases.0 (omega arith)).points

pub returns-then-first-eq36 : goal.returns-then-first-eq36
returns-then-first-eq36 c = ap not c.begins_with_brace.ensures ∙ dollar_here c.args.bytes.now c.in-Some.first.now c.in-Some.behind.now c.requires c.in-Some.ensures.cases.0 c.if-first-eq36.true
