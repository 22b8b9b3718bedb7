use Rattle.jsgen_uses.proofs.Words.{empty_chars}
use Rattle.jsgen_uses.proofs.build.only.Goals as goal

pub returns : goal.returns
returns c = rw (c.new.ensures.bytes, c.new-2.ensures.items, c.new-3.ensures.items, c.in_ok-push.ensures.items, c.new-body.ensures.items, empty_chars)
