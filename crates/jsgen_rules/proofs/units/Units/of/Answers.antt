use Rattle.std.proofs.Common.{flat_map, ap, ◌∙◌}
use Rattle.std.specs.Char.Escape.{encode_utf16}
use Rattle.jsgen_syntax.specs.Units.{js_units}
use Rattle.jsgen_syntax.proofs.Bytes.{js_units-are_units}
use Rattle.jsgen_syntax.proofs.Wtf8.{units_joined}
use Rattle.jsgen_strings.proofs.Escaped.{of_units}
use Rattle.jsgen_rules.proofs.units.Units.of.Goals as goal

pub invariant_of-result : goal.invariant_of-result
invariant_of-result c = record { points = (of_units c.as_bytes.result.now (js_units c.args.s.now) (js_units-are_units c.args.s.now) c.as_bytes.ensures).points }

pub returns : goal.returns
returns c =
    let us = js_units c.args.s.now in
    let are = js_units-are_units c.args.s.now in
    ap (λ cs. flat_map encode_utf16 cs) (of_units c.as_bytes.result.now us are c.as_bytes.ensures).are ∙ units_joined us are
