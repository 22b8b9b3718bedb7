use Rattle.std.proofs.Common.{◌∙◌}
use Rattle.jsgen_nodes.proofs.Targeted.{target_span}
use Rattle.jsgen_nodes.proofs.operations.TargetsPrintObjectSimpleAssignmentTarget.span.Goals as goal

pub returns : goal.returns
returns g c = c.span.ensures ∙ target_span g.N.PrintNode.plain c.args.target.now
