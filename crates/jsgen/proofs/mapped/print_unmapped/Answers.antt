use Rattle.std.proofs.Common.{ap, ◌∙◌}
use Rattle.std.specs.Str.{encode_utf8_all}
use Rattle.jsgen_model.specs.Layout.{Pen}
use Rattle.jsgen.proofs.mapped.print_unmapped.Goals as goal

pub returns-clause-code : goal.returns-clause-code
returns-clause-code c = c.into_string.ensures ∙ ap (λ (pen : Pen). encode_utf8_all pen.code) c.in_ok-p.ensures
