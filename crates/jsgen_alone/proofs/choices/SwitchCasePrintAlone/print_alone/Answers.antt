use Rattle.jsgen_tree.specs.Rows.{switch_case_row}
use Rattle.jsgen_printer.proofs.Sequence.{◌⨾◌}
use Rattle.jsgen_alone.proofs.Placed.{placed_as}
use Rattle.jsgen_alone.proofs.choices.SwitchCasePrintAlone.print_alone.Goals as goal

pub returns : goal.returns
returns g c = c.print_due_semicolon.ensures ⨾ placed_as (switch_case_row g.N.PrintNode.plain c.args.self.now) c.among_statements.ensures c.print_switch_case.ensures
