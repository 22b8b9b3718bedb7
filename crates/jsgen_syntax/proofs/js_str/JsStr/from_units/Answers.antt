use Rattle.std.proofs.Common.{arith}
use Rattle.std.proofs.lemmas.Grind.{common_steps}
use Rattle.jsgen_syntax.proofs.Wtf8.{kept_units}
use Rattle.jsgen_syntax.proofs.js_str.JsStr.from_units.Goals as goal

pub invariant_of-result : goal.invariant_of-result
invariant_of-result c =
    let k = kept_units c.args.units.now c.codes.bytes.items c.codes.rest.now c.codes.lone (λ i. let fits = c.type_inv.units i in omega arith) c.in_default.ensures.cases c.codes.invariant.bytes c.codes.invariant.lone in
    record { units = k.units; joined = k.joined; exact = k.exact }

pub returns : goal.returns
returns c = (kept_units c.args.units.now c.codes.bytes.items c.codes.rest.now c.codes.lone (λ i. let fits = c.type_inv.units i in omega arith) c.in_default.ensures.cases c.codes.invariant.bytes c.codes.invariant.lone).is

pub codes-preserved-then-lone : goal.codes-preserved-then-lone
codes-preserved-then-lone c = grind (arith, common_steps)

pub codes-preserved : goal.codes-preserved
codes-preserved c = grind (arith, common_steps)
