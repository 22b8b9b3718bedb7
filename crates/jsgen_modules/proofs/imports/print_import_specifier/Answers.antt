use Rattle.jsgen_printer.proofs.Sequence.{◌⨾◌}
use Rattle.jsgen_modules.proofs.imports.print_import_specifier.Goals as goal

pub returns-in-StringLiteral : goal.returns-in-StringLiteral
returns-in-StringLiteral c = rw c.in-StringLiteral.is ((rw (c.deref.ensures, c.in-StringLiteral.is) at c.print_before_name.ensures) ⨾ (rw c.deref-in-StringLiteral.ensures at c.print_binding_identifier.ensures))

pub returns-in-IdentifierName : goal.returns-in-IdentifierName
returns-in-IdentifierName c = rw c.in-IdentifierName.is (rw (c.deref-in-IdentifierName.ensures, c.in-IdentifierName.is) at c.print_name_first.ensures)

pub returns-in-IdentifierReference : goal.returns-in-IdentifierReference
returns-in-IdentifierReference c = rw c.in-IdentifierReference.is (rw (c.deref-in-IdentifierReference.ensures, c.in-IdentifierReference.is) at c.print_name_first-in-IdentifierReference.ensures)
