use Rattle.std.proofs.Common.{◌≡◌, length, drop}
use Rattle.std.specs.Str.{chars}
use Rattle.jsgen_syntax.specs.Strings.{string_value}
use Rattle.jsgen_syntax.specs.Units.{js_units}
use Rattle.jsgen_syntax.specs.declared.quote.Quote.TheVariants.{Backtick}
use Rattle.jsgen_rules.specs.UnitsLeft.{left, is_value}
use Rattle.jsgen_rules.specs.Values.{value_from}
use Rattle.jsgen_rules.proofs.values.stands_for.Given as goal

abbrev pub invariant-loop-c : goal.invariant-loop-c
invariant-loop-c l = is_value (value_from l.state (drop (length l.yielded) (chars l.raw))) (left l.rest) ≡ is_value (string_value Backtick (chars l.raw)) (js_units l.units)
