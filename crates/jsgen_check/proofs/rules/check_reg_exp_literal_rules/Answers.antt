use Rattle.jsgen_check.proofs.rules.check_reg_exp_literal_rules.Goals as goal

pub returns : goal.returns
returns c = rw (c.deref.ensures, c.deref-2.ensures) at c.check_regular_expression.ensures
