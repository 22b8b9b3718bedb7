use Rattle.jsgen_check.proofs.rules.check_sequence_expression_rules.Goals as goal

pub returns : goal.returns
returns g c = rw c.deref.ensures.value at c.check_parts.ensures
