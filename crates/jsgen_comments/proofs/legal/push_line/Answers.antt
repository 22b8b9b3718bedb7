use Rattle.jsgen_comments.proofs.Wordings.{line_pushed}
use Rattle.jsgen_comments.proofs.legal.push_line.Goals as goal

pub returns : goal.returns
returns c = line_pushed c.args.line.now c.trim_start.result.now c.opens_block.result c.closes_block.result c.args.tabbed.now c.push_if.new.tabbed c.push_if-2.new.tabbed c.push_if-3.new.tabbed c.push_if-3.result c.trim_start.utf8 c.trim_start.ensures.trim c.opens_block.ensures c.closes_block.ensures c.in_ok-push_if.ensures c.in_ok-push_if-2.ensures c.push_if-3.ensures
