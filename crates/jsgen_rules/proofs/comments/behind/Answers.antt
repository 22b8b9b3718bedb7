use Rattle.jsgen_rules.proofs.Marks.{behind}
use Rattle.jsgen_rules.proofs.comments.behind.Goals as goal

pub returns : goal.returns
returns c = behind c.args.mark.now c.args.text.now c.strip_prefix.result c.utf8.mark c.utf8.text c.strip_prefix.ensures.cases
