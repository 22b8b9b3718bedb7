use Rattle.std.proofs.Common.{◌≡◌, ◌∙◌, decimal}
use Rattle.std.specs.Str.{chars}
use Rattle.std.proofs.lemmas.Str.{chars-IsAscii}
use Rattle.jsgen_printer.proofs.printer.Printer.print_negative_whole_number.Goals as goal

pub returns : goal.returns
returns c =
    let text : chars c.format-text.result.now ≡ decimal c.args.digits = chars-IsAscii _ c.format-text.ensures.ascii ∙ c.format-text.ensures.text in
    rw text at c.print_negative_number.ensures
