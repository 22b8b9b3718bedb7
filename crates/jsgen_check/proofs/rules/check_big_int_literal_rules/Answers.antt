use Rattle.jsgen_check.proofs.rules.check_big_int_literal_rules.Goals as goal

pub returns : goal.returns
returns c = rw c.deref.ensures at c.check_big_integer.ensures
