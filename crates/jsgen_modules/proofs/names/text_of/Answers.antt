use Rattle.std.proofs.Common.{Some, ap, ◌∙◌}
use Rattle.std.specs.Str.{chars}
use Rattle.jsgen_printer.specs.Printer.{pen_of}
use Rattle.jsgen_modules.proofs.Texts.{written_name, number_given}
use Rattle.jsgen_modules.proofs.names.text_of.Goals as goal

pub returns-in-IdentifierName : goal.returns-in-IdentifierName
returns-in-IdentifierName c = rw c.in-IdentifierName.is (ap (λ w. Some w) (ap chars (rw c.deref.ensures at c.as_str.ensures.value) ∙ written_name (pen_of c.args.p.now).style.tables _))

pub returns-in-IdentifierReference : goal.returns-in-IdentifierReference
returns-in-IdentifierReference c = rw (c.in-IdentifierReference.is, number_given _) (ap (λ w. Some w) (rw (c.as_str-in-IdentifierReference.ensures.value, c.deref-in-IdentifierReference.ensures, c.deref-in-IdentifierReference-2.ensures) at c.printed_reference.ensures))

pub returns-in-StringLiteral : goal.returns-in-StringLiteral
returns-in-StringLiteral c = rw c.in-StringLiteral.is (rw c.deref-in-StringLiteral.ensures at (c.string_text.ensures (pen_of c.args.p.now).style.tables))
