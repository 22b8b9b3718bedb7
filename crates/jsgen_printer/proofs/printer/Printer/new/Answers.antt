use Rattle.std.proofs.Common.{◌≡◌, [], reverse, refl, ap, ◌∙◌}
use Rattle.std.specs.Str.{chars}
use Rattle.std.proofs.lemmas.Str.{chars-nil}
use Rattle.jsgen_syntax.specs.Buffer.{buffer_bytes}
use Rattle.jsgen_printer.specs.Printer.{pen_of}
use Rattle.jsgen_printer.proofs.printer.Printer.new.Goals as goal

pub returns-clause-pen : goal.returns-clause-pen
unfolding pen_of
returns-clause-pen c =
    let empty : chars (buffer_bytes c.with_indent.result) ≡ [] = ap chars c.with_indent.ensures.empty ∙ chars-nil in
    let outermost : reverse c.new.result.classes.items ≡ [] = ap reverse c.new.ensures.classes in
    rw (empty, outermost, c.with_indent.ensures.byte, c.with_indent.ensures.width, c.new.ensures.tables, c.wanted_quote.ensures) refl
