use Rattle.std.proofs.Common.{◌≡◌, length, drop}
use Rattle.std.specs.Str.{chars}
use Rattle.jsgen_syntax.specs.Raw.{first_quote, quote_beside, directive_quote}
use Rattle.jsgen_text.proofs.directive.directive_quote.Given as goal

abbrev pub invariant-loop-c : goal.invariant-loop-c
invariant-loop-c l = quote_beside l.wanted (first_quote l.escaped (drop (length l.yielded) (chars l.raw))) ≡ directive_quote l.wanted (chars l.raw)
