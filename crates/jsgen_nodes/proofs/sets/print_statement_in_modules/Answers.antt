-- Generated from tools/nodes/table.txt; edit that and run tools/nodes/generate.
-- What this part prints is printed as it is elsewhere, and what it doesn't is in a later one.
use Rattle.jsgen_nodes.proofs.Parts.{statement_past_4}
use Rattle.jsgen_nodes.proofs.sets.print_statement_in_modules.Goals as goal

pub returns-in-ImportDeclaration : goal.returns-in-ImportDeclaration
returns-in-ImportDeclaration g c = rw c.in-ImportDeclaration.is (rw c.deref.ensures at c.print_import_declaration.ensures)

pub returns-in-ExportDeclaration : goal.returns-in-ExportDeclaration
returns-in-ExportDeclaration g c = rw c.in-ExportDeclaration.is (rw c.deref-in-ExportDeclaration.ensures at c.print_export_declaration.ensures)

pub returns-in-ExportNamedDeclaration : goal.returns-in-ExportNamedDeclaration
returns-in-ExportNamedDeclaration g c = rw c.in-ExportNamedDeclaration.is (rw c.deref-in-ExportNamedDeclaration.ensures at c.print_export_named_declaration.ensures)

pub returns-in-ExportFromDeclaration : goal.returns-in-ExportFromDeclaration
returns-in-ExportFromDeclaration g c = rw c.in-ExportFromDeclaration.is (rw c.deref-in-ExportFromDeclaration.ensures at c.print_export_from_declaration.ensures)

pub returns-in-ExportAllDeclaration : goal.returns-in-ExportAllDeclaration
returns-in-ExportAllDeclaration g c = rw c.in-ExportAllDeclaration.is (rw c.deref-in-ExportAllDeclaration.ensures at c.print_export_all_declaration.ensures)

pub returns-in-ExportDefaultDeclaration : goal.returns-in-ExportDefaultDeclaration
returns-in-ExportDefaultDeclaration g c = rw c.in-ExportDefaultDeclaration.is (rw c.deref-in-ExportDefaultDeclaration.ensures at c.print_export_default_declaration.ensures)

pub unreachable-requires : goal.unreachable-requires
unreachable-requires g c = statement_past_4 c.args.node.now c.requires c.in_default.not-ImportDeclaration c.in_default.not-ExportDeclaration c.in_default.not-ExportNamedDeclaration c.in_default.not-ExportFromDeclaration c.in_default.not-ExportAllDeclaration c.in_default.not-ExportDefaultDeclaration
