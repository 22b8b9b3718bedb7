use Rattle.std.proofs.Common.{◌++◌, codes, refl, ap₂}
use Rattle.std.specs.Str.{chars}
use Rattle.jsgen_model.specs.Layout.{written, other_end}
use Rattle.jsgen_printer.specs.Printer.{pen_of}
use Rattle.jsgen_printer.proofs.Sequence.{goes_as, in_a_row}
use Rattle.jsgen_printer.proofs.Texts.{ascii_chars}
use Rattle.jsgen_model.specs.Ends.{reference}
use Rattle.jsgen_printer.proofs.printer.Printer.print_reference_to.Goals as goal

pub returns : goal.returns
returns c =
    let path = chars c.args.path.now in
    let first = codes "\n/*! For license information please see " in
    let last = codes " */" in
    goes_as (written (reference path) other_end)
    (ap₂ (λ s t. written (s ++ (path ++ t)) other_end (pen_of c.args.self.now)) (ascii_chars first refl) (ascii_chars last refl))
    (in_a_row (λ style. chars first) (λ style. path ++ chars last) c.print_str.ensures (in_a_row (λ style. path) (λ style. chars last) c.print_str-2.ensures c.print_str-3.ensures))
