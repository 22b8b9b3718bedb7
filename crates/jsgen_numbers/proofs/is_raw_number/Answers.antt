use Rattle.std.proofs.Common.{◌&&◌, sym, ap, ◌∙◌}
use Rattle.std.specs.Str.{chars}
use Rattle.jsgen_model.proofs.NumberRuns.{raw_runs}
use Rattle.jsgen_model.proofs.NumberStates.{start, is_raw, run}
use Rattle.jsgen_numbers.proofs.is_raw_number.Goals as goal

pub returns-then-begins_with_digit : goal.returns-then-begins_with_digit
returns-then-begins_with_digit c =
    let cs = chars c.args.text.now in
    c.is_raw.ensures ∙ (ap is_raw c.run.ensures ∙ (sym (ap (λ b. b && is_raw (run start cs)) (sym c.begins_with_digit.ensures ∙ c.if-begins_with_digit.true)) ∙ raw_runs cs))

pub returns-else-begins_with_digit : goal.returns-else-begins_with_digit
returns-else-begins_with_digit c =
    let cs = chars c.args.text.now in
    c.if-begins_with_digit.false ∙ (sym (ap (λ b. b && is_raw (run start cs)) (sym c.begins_with_digit.ensures ∙ c.if-begins_with_digit.false)) ∙ raw_runs cs)
