use Rattle.std.proofs.Common.{refl}
use Rattle.jsgen_rules.proofs.Offsets.{part_of}
use Rattle.jsgen_rules.proofs.comments.text_at.Goals as goal

pub returns : goal.returns
returns c h = rw c.unwrap_or.ensures (part_of c.args.source.now c.args.span c.get.result _ c.utf8.source c.get.ensures.cases refl h)
