-- Generated from tools/nodes/table.txt; edit that and run tools/nodes/generate.
-- A member of one type is of the set.
use Rattle.std.proofs.Common.{refl, sym, ◌∙◌}
use Rattle.jsgen_check.proofs.Verdicts.{of_right_set}
use Rattle.jsgen_tree.specs.declared.types.NodeSet.TheVariants as sets
use Rattle.jsgen_check.proofs.children.check_property_key.Goals as goal

pub returns-in-IdentifierName : goal.returns-in-IdentifierName
returns-in-IdentifierName g c = record { found = rw c.in-IdentifierName.is ((rw c.deref.ensures at c.check_identifier_name.ensures.found) ∙ sym (of_right_set _ _ sets.PropertyKey _ refl)); number = rw c.in-IdentifierName.is c.check_identifier_name.ensures.number }

pub returns-in-PrivateIdentifier : goal.returns-in-PrivateIdentifier
returns-in-PrivateIdentifier g c = record { found = rw c.in-PrivateIdentifier.is ((rw c.deref-in-PrivateIdentifier.ensures at c.check_private_identifier.ensures.found) ∙ sym (of_right_set _ _ sets.PropertyKey _ refl)); number = rw c.in-PrivateIdentifier.is c.check_private_identifier.ensures.number }
