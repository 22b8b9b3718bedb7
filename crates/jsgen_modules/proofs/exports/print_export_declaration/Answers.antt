use Rattle.jsgen_printer.proofs.Sequence.{◌⨾◌}
use Rattle.jsgen_modules.proofs.exports.print_export_declaration.Goals as goal

pub returns : goal.returns
returns g c =
    (rw (c.is_pure_declaration.ensures, c.get.ensures) at c.begin_export.ensures)
    ⨾ (c.print_hard_space.ensures ⨾ ((rw (c.within_statement.ensures, c.get-2.ensures) at c.print.ensures) ⨾ (rw (c.node_type.ensures, c.get-3.ensures) at c.end_exported.ensures)))
