use Rattle.std.proofs.Common.{not, ap, ◌∙◌}
use Rattle.std.specs.Str.{chars}
use Rattle.jsgen_syntax.specs.Strings.{string_value}
use Rattle.jsgen_syntax.specs.declared.quote.Quote.TheVariants.{Backtick}
use Rattle.jsgen_rules.proofs.Cooked.{value_same, none_same, raw_free}
use Rattle.jsgen_rules.proofs.templates.is_cooked.Goals as goal

pub stands_for-requires : goal.stands_for-requires
stands_for-requires c = raw_free (chars c.args.raw.now) c.requires

pub returns-in-Some : goal.returns-in-Some
returns-in-Some c = rw c.in-Some.is (c.stands_for.ensures ∙ value_same (string_value Backtick (chars c.args.raw.now)) _)

pub returns-in-None : goal.returns-in-None
returns-in-None c = rw c.in-None.is (ap not c.spells_string.ensures ∙ none_same (string_value Backtick (chars c.args.raw.now)))
