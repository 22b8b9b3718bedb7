use Rattle.std.proofs.Common.{◌≡◌, ◌+◌, ◌≤◌, length}
use Rattle.jsgen_syntax.specs.declared.quote.Quote.TheVariants.{Single, Double, Backtick}
use Rattle.jsgen_syntax.specs.Strings.{quote_cost}
use Rattle.jsgen_strings.proofs.quotes.quote_costs.Given as goal

abbrev pub invariant-bytes : goal.invariant-bytes
invariant-bytes l = record {
  single : l.single + quote_cost Single l.rest ≡ quote_cost Single l.bytes;
  double : l.double + quote_cost Double l.rest ≡ quote_cost Double l.bytes;
  backtick : l.backtick + quote_cost Backtick l.rest ≡ quote_cost Backtick l.bytes;
  single_within : l.single + length l.rest ≤ length l.bytes;
  double_within : l.double + length l.rest ≤ length l.bytes;
  backtick_within : l.backtick + length l.rest ≤ length l.bytes;
}

abbrev pub decreases-bytes : goal.decreases-bytes
decreases-bytes l = length l.rest
