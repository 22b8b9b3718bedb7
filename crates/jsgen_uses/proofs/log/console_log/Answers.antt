use Rattle.jsgen_uses.proofs.Words.{console_chars, log_chars}
use Rattle.jsgen_uses.proofs.log.console_log.Goals as goal

pub returns : goal.returns
returns c = rw (c.in_ok-reference.ensures, console_chars, log_chars) at c.member.ensures
