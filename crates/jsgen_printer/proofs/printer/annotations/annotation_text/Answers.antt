use Rattle.std.proofs.Common.{codes, refl}
use Rattle.jsgen_printer.proofs.Texts.{ascii_chars}
use Rattle.jsgen_printer.proofs.printer.annotations.annotation_text.Goals as goal

pub returns-in-Pure : goal.returns-in-Pure
returns-in-Pure c = rw c.in-Pure.is (ascii_chars (codes "/* @__PURE__ */") refl)

pub returns-in-NoSideEffects : goal.returns-in-NoSideEffects
returns-in-NoSideEffects c = rw c.in-NoSideEffects.is (ascii_chars (codes "/* @__NO_SIDE_EFFECTS__ */") refl)
