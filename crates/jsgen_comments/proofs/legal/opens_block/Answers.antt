use Rattle.jsgen_comments.proofs.Wordings.{opens_by_bytes}
use Rattle.jsgen_comments.proofs.legal.opens_block.Goals as goal

pub returns : goal.returns
returns c = opens_by_bytes c.starts_with.result c.args.line.now c.utf8.line c.starts_with.ensures.cases
