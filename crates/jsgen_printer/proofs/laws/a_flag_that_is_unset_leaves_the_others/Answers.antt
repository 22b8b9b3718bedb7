use Rattle.std.proofs.Common.{◌==◌, ap}
use Rattle.jsgen_printer.proofs.Flags.{others_stay}
use Rattle.jsgen_printer.proofs.laws.a_flag_that_is_unset_leaves_the_others.Goals as goal

pub returns-clause-others : goal.returns-clause-others
returns-clause-others c other is = ap (λ x. x == other) (others_stay c.args.context.bits other is)
