-- Generated from tools/nodes/table.txt; edit that and run tools/nodes/generate.
-- A member of one type is of the set.
use Rattle.std.proofs.Common.{refl, sym, ◌∙◌}
use Rattle.jsgen_check.proofs.Verdicts.{of_right_set}
use Rattle.jsgen_tree.specs.declared.types.NodeSet.TheVariants as sets
use Rattle.jsgen_check.proofs.children.check_import_declaration_specifier.Goals as goal

pub returns-in-ImportDefaultSpecifier : goal.returns-in-ImportDefaultSpecifier
returns-in-ImportDefaultSpecifier c = record { found = rw c.in-ImportDefaultSpecifier.is ((rw c.deref.ensures at c.check_import_default_specifier.ensures.found) ∙ sym (of_right_set _ _ sets.ImportDeclarationSpecifier _ refl)); number = rw c.in-ImportDefaultSpecifier.is c.check_import_default_specifier.ensures.number }

pub returns-in-ImportNamespaceSpecifier : goal.returns-in-ImportNamespaceSpecifier
returns-in-ImportNamespaceSpecifier c = record { found = rw c.in-ImportNamespaceSpecifier.is ((rw c.deref-in-ImportNamespaceSpecifier.ensures at c.check_import_namespace_specifier.ensures.found) ∙ sym (of_right_set _ _ sets.ImportDeclarationSpecifier _ refl)); number = rw c.in-ImportNamespaceSpecifier.is c.check_import_namespace_specifier.ensures.number }

pub returns-in-ImportSpecifier : goal.returns-in-ImportSpecifier
returns-in-ImportSpecifier c = record { found = rw c.in-ImportSpecifier.is ((rw c.deref-in-ImportSpecifier.ensures at c.check_import_specifier.ensures.found) ∙ sym (of_right_set _ _ sets.ImportDeclarationSpecifier _ refl)); number = rw c.in-ImportSpecifier.is (rw (c.deref-in-ImportSpecifier.ensures) at c.check_import_specifier.ensures.number) }
