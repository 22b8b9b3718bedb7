use Rattle.jsgen_printer.proofs.Sequence.{◌⨾◌}
use Rattle.jsgen_lists.proofs.cases.print_case_head.Goals as goal

pub returns : goal.returns
returns g c = (rw c.in_brackets-within.ensures at c.print_case_test.ensures) ⨾ c.print_colon.ensures
