-- Generated from tools/nodes/table.txt; edit that and run tools/nodes/generate.
-- A member of one type is of the set.
use Rattle.std.proofs.Common.{refl, sym, ◌∙◌}
use Rattle.jsgen_check.proofs.Verdicts.{of_right_set}
use Rattle.jsgen_tree.specs.declared.types.NodeSet.TheVariants as sets
use Rattle.jsgen_check.proofs.children.check_export_default_declaration_kind.Goals as goal

pub returns-in-Function : goal.returns-in-Function
returns-in-Function g c = record { found = rw c.in-Function.is ((rw c.deref.ensures at c.check_function.ensures.found) ∙ sym (of_right_set _ _ sets.ExportDefaultDeclarationKind _ refl)); number = rw c.in-Function.is (rw (c.deref.ensures) at c.check_function.ensures.number) }

pub returns-in-Class : goal.returns-in-Class
returns-in-Class g c = record { found = rw c.in-Class.is ((rw c.deref-in-Class.ensures at c.check_class.ensures.found) ∙ sym (of_right_set _ _ sets.ExportDefaultDeclarationKind _ refl)); number = rw c.in-Class.is (rw (c.deref-in-Class.ensures) at c.check_class.ensures.number) }
