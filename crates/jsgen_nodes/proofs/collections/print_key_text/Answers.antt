use Rattle.jsgen_nodes.proofs.collections.print_key_text.Goals as goal

pub returns-in-IdentifierName : goal.returns-in-IdentifierName
returns-in-IdentifierName g c = rw (c.in-IdentifierName.is, ← c.deref.ensures) c.print_identifier_name.ensures

pub returns-in-Expression : goal.returns-in-Expression
returns-in-Expression g c = rw (c.in-Expression.is, ← c.deref-in-Expression.ensures) c.print_key_expression.ensures

pub returns-in-PrivateIdentifier : goal.returns-in-PrivateIdentifier
returns-in-PrivateIdentifier g c = rw (c.in-PrivateIdentifier.is, ← c.deref-in-PrivateIdentifier.ensures) c.print_private_identifier.ensures
