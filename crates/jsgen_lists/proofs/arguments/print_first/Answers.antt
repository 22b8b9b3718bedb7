use Rattle.std.proofs.lemmas.List.{nil_from_length}
use Rattle.jsgen_printer.proofs.Sequence.{◌⨾◌, nothing_laid}
use Rattle.jsgen_lists.proofs.arguments.print_first.Goals as goal

pub returns-in-Some : goal.returns-in-Some
returns-in-Some g c = rw c.in-Some.ensures.cases.0 (c.print_before_first.ensures ⨾ ((rw c.quoted_plainly.ensures at c.print_argument.ensures) ⨾ c.print_behind_first.ensures))

pub returns-in-None : goal.returns-in-None
returns-in-None g c = rw (nil_from_length c.args.arguments.now c.in-None.ensures.cases) (nothing_laid _)
