use Rattle.jsgen_check.proofs.rules.check_identifier_name_rules.Goals as goal

pub returns : goal.returns
returns c = rw c.deref.ensures at c.check_written_name.ensures
