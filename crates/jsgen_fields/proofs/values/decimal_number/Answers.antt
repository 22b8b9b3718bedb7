use Rattle.std.proofs.Common.{◌≡◌, true, ap, ◌∙◌, get_or}
use Rattle.jsgen_fields.specs.Values.{starts_plainly}
use Rattle.jsgen_fields.proofs.Digits.{number_parsed, no_plain_start, plus_start}
use Rattle.jsgen_fields.proofs.values.decimal_number.Goals as goal

pub returns-then-not-starts_plainly : goal.returns-then-not-starts_plainly
returns-then-not-starts_plainly c = no_plain_start c.args.text.now cc

pub returns-then-bytes-eq43 : goal.returns-then-bytes-eq43
returns-then-bytes-eq43 c = plus_start c.args.text.now cc

pub returns : goal.returns
returns c =
    let plain : starts_plainly c.args.text.now ≡ true = cc in
    let no_plus : get_or c.args.text.now 0 0 ≡ 43 → ⊥ = λ e. c.if-bytes-eq43.false (ap (λ bs. get_or bs 0 0) c.as_bytes-bytes.ensures.value ∙ e) in
    c.ok.ensures.value ∙ number_parsed c.args.text.now c.parse.result c.parse.ensures.value.0 plain no_plus
