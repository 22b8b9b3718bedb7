use Rattle.std.proofs.Common.{if◌then◌else◌, ap, sym, ◌∙◌}
use Rattle.jsgen_syntax.specs.declared.precedence.Precedence.TheVariants.{Prefix}
use Rattle.jsgen_questions.proofs.operands.coalesced.Goals as goal

pub returns-then-operand : goal.returns-then-operand
returns-then-operand c = λ t h. ap (λ mixed. if mixed then Prefix else c.args.level) (sym c.if-operand.true ∙ ap (λ o. o.mixes) h)

pub returns-else-operand : goal.returns-else-operand
returns-else-operand c = λ t h. ap (λ mixed. if mixed then Prefix else c.args.level) (sym c.if-operand.false ∙ ap (λ o. o.mixes) h)
