use Rattle.jsgen_comments.proofs.Wordings.{closes_by_bytes}
use Rattle.jsgen_comments.proofs.legal.closes_block.Goals as goal

pub returns : goal.returns
returns c = closes_by_bytes c.ends_with.result c.args.line.now c.utf8.line c.ends_with.ensures.cases
