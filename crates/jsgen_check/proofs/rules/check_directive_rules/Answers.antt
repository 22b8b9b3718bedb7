use Rattle.jsgen_check.proofs.rules.check_directive_rules.Goals as goal

pub returns : goal.returns
returns c = rw c.deref.ensures at c.check_raw.ensures
