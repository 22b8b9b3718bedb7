use Rattle.std.proofs.Common.{ap, ◌∙◌}
use Rattle.jsgen_syntax.specs.declared.quote.Quote.{Quote}
use Rattle.jsgen_syntax.specs.declared.quote.Quote.TheVariants.{Single, Double, Backtick}
use Rattle.jsgen_syntax.specs.Strings.{quote_cost, cheapest_of}
use Rattle.jsgen_syntax.specs.Units.{js_units}
use Rattle.jsgen_syntax.proofs.Bytes.{js_units-are_units, quote_cost-bytes}
use Rattle.jsgen_strings.proofs.quotes.cheapest_quote.Goals as goal

pub returns : goal.returns
returns c =
    let us = js_units c.args.value.now in
    let cost = λ (q : Quote). ap (quote_cost q) c.as_bytes.ensures ∙ quote_cost-bytes q us (js_units-are_units c.args.value.now) in
    let s = c.quote_costs-costs.ensures.single ∙ cost Single in
    let d = c.quote_costs-costs.ensures.double ∙ cost Double in
    let b = c.quote_costs-costs.ensures.backtick ∙ cost Backtick in
    c.cheapest_of.ensures ∙ (λ i. cheapest_of c.args.allow_backtick (s i) (d i) (b i))
