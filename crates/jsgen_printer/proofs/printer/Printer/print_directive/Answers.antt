use Rattle.std.proofs.Common.{[], ◌∷◌, refl}
use Rattle.std.specs.Str.{chars}
use Rattle.jsgen_syntax.specs.Raw.{directive_text}
use Rattle.jsgen_syntax.specs.Strings.{quote_char}
use Rattle.jsgen_printer.specs.Printer.{pen_of}
use Rattle.jsgen_printer.proofs.Sequence.{goes_laid, in_a_row}
use Rattle.jsgen_printer.proofs.printer.Printer.print_directive.Goals as goal

pub returns : goal.returns
unfolding pen_of
returns c =
    let quote = quote_char c.directive_quote-quote.result ∷ [] in
    goes_laid _ (rw c.directive_quote-quote.ensures refl) (in_a_row (λ _. quote) _ c.print_quote.ensures (in_a_row (λ style. directive_text style.ascii (chars c.args.raw.now)) (λ _. quote) c.print_raw.ensures c.print_quote-2.ensures))
