-- Generated from tools/nodes/table.txt; edit that and run tools/nodes/generate.
-- A member of one type is of the set.
use Rattle.std.proofs.Common.{refl, sym, ◌∙◌}
use Rattle.jsgen_check.proofs.Verdicts.{of_right_set}
use Rattle.jsgen_tree.specs.declared.types.NodeSet.TheVariants as sets
use Rattle.jsgen_check.proofs.children.check_import_attribute_key.Goals as goal

pub returns-in-IdentifierName : goal.returns-in-IdentifierName
returns-in-IdentifierName c = record { found = rw c.in-IdentifierName.is ((rw c.deref.ensures at c.check_identifier_name.ensures.found) ∙ sym (of_right_set _ _ sets.ImportAttributeKey _ refl)); number = rw c.in-IdentifierName.is c.check_identifier_name.ensures.number }

pub returns-in-StringLiteral : goal.returns-in-StringLiteral
returns-in-StringLiteral c = record { found = rw c.in-StringLiteral.is ((rw c.deref-in-StringLiteral.ensures at c.check_string_literal.ensures.found) ∙ sym (of_right_set _ _ sets.ImportAttributeKey _ refl)); number = rw c.in-StringLiteral.is c.check_string_literal.ensures.number }
