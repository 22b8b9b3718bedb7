use Rattle.std.proofs.Common.{refl}
use Rattle.jsgen_printer.proofs.Sequence.{◌⨾◌, regrouped}
use Rattle.jsgen_lists.proofs.cases.print_case.Goals as goal

pub returns : goal.returns
returns g c = regrouped (λ pen. refl) (c.print_comments.ensures ⨾ (c.print_indentation.ensures ⨾ (c.print_mark.ensures ⨾ (c.print_case_head.ensures ⨾ c.print_consequent.ensures))))
