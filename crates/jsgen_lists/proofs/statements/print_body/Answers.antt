use Rattle.std.proofs.lemmas.List.{nil_from_length}
use Rattle.jsgen_printer.proofs.Sequence.{◌⨾◌, nothing_laid}
use Rattle.jsgen_lists.proofs.statements.print_body.Goals as goal

pub returns-in-Some : goal.returns-in-Some
returns-in-Some g c = rw c.in-Some.ensures.cases.0 ((rw c.start.ensures at c.print_orphans.ensures) ⨾ (c.print_due_semicolon.ensures ⨾ ((rw c.among_statements.ensures at c.print_first_statement.ensures) ⨾ c.print_statements.ensures)))

pub returns-in-None : goal.returns-in-None
returns-in-None g c = rw (nil_from_length c.args.statements.now c.in-None.ensures.cases) (nothing_laid _)
