use Rattle.std.proofs.Common.{refl}
use Rattle.jsgen_tree.specs.Rows.{in_expression}
use Rattle.jsgen_rules.specs.Verdict.{verdict}
use Rattle.jsgen_check.proofs.Declarators.{few_parts, several_parts}
use Rattle.jsgen_check.proofs.rules.check_parts.Goals as goal

pub returns-then-parts-lt2 : goal.returns-then-parts-lt2
unfolding verdict
returns-then-parts-lt2 g c = rw (few_parts c.args.span (in_expression g.N.CheckNode.plain) c.args.parts.now c.if-parts-lt2.true) refl

pub returns : goal.returns
unfolding verdict
returns g c = rw (several_parts c.args.span (in_expression g.N.CheckNode.plain) c.args.parts.now c.if-parts-lt2.false) refl
