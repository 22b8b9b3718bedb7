-- Generated from tools/nodes/table.txt; edit that and run tools/nodes/generate.
-- It is printed by itself as it is at its place.
use Rattle.jsgen_tree.specs.Rows.{export_default_declaration_row}
use Rattle.jsgen_alone.proofs.Placed.{placed_as}
use Rattle.jsgen_alone.proofs.modules.ExportDefaultDeclarationPrintAlone.print_alone.Goals as goal

pub returns : goal.returns
returns g c = placed_as (export_default_declaration_row g.N.PrintNode.plain c.args.self.now) c.at_level.ensures c.print_export_default_declaration.ensures
