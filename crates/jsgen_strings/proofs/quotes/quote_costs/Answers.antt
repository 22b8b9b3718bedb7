use Rattle.std.proofs.Common.{◌∙◌, sym, arith}
use Rattle.jsgen_syntax.specs.declared.quote.Quote.{Quote}
use Rattle.jsgen_syntax.specs.declared.quote.Quote.TheVariants.{Single, Double, Backtick}
use Rattle.jsgen_syntax.specs.Strings.{costs_more}
use Rattle.jsgen_strings.proofs.Costs.{cost_step, cost_same, cost_none, at_most_one, costs_nothing}
use Rattle.jsgen_strings.proofs.quotes.quote_costs.Goals as goal

pub bytes-preserved-then-may_cost : goal.bytes-preserved-then-may_cost
bytes-preserved-then-may_cost c =
    let u = c.in-Some.first.now in
    let behind = c.in-Some.behind.now in
    let more = λ (q : Quote). cost_step q u c.bytes.rest.now behind c.in-Some.ensures.cases.0 in
    let single = more Single in
    let double = more Double in
    let backtick = more Backtick in
    let single_cost = c.cost_of-single.ensures in
    let double_cost = c.cost_of-double.ensures in
    let backtick_cost = c.cost_of-backtick.ensures in
    let single_most = at_most_one (costs_more Single u behind) in
    let double_most = at_most_one (costs_more Double u behind) in
    let backtick_most = at_most_one (costs_more Backtick u behind) in
    let shorter = c.in-Some.ensures.cases.1 in
    record { single = omega arith; double = omega arith; backtick = omega arith; single_within = omega arith; double_within = omega arith; backtick_within = omega arith }

pub bytes-preserved : goal.bytes-preserved
bytes-preserved c =
    let u = c.in-Some.first.now in
    let behind = c.in-Some.behind.now in
    let none = sym c.may_cost.ensures ∙ c.if-may_cost.false in
    let same = λ (q : Quote). cost_same q u c.bytes.rest.now behind c.in-Some.ensures.cases.0 (costs_nothing q u behind none) in
    let single = same Single in
    let double = same Double in
    let backtick = same Backtick in
    let shorter = c.in-Some.ensures.cases.1 in
    record { single = omega arith; double = omega arith; backtick = omega arith; single_within = omega arith; double_within = omega arith; backtick_within = omega arith }

pub returns-clause-single : goal.returns-clause-single
returns-clause-single c =
    let none = cost_none Single c.bytes.rest.now c.in_default.ensures.cases in
    omega arith

pub returns-clause-double : goal.returns-clause-double
returns-clause-double c =
    let none = cost_none Double c.bytes.rest.now c.in_default.ensures.cases in
    omega arith

pub returns-clause-backtick : goal.returns-clause-backtick
returns-clause-backtick c =
    let none = cost_none Backtick c.bytes.rest.now c.in_default.ensures.cases in
    omega arith
