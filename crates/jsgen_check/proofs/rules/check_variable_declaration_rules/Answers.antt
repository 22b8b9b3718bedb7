use Rattle.jsgen_check.proofs.rules.check_variable_declaration_rules.Goals as goal

pub returns : goal.returns
returns g c = rw c.deref.ensures.value at c.check_count.ensures
