use Rattle.std.proofs.Common.{◌==◌, ap, sym, ◌∙◌, arith}
use Rattle.jsgen_syntax.specs.Escapes.{begins_with}
use Rattle.jsgen_strings.proofs.Looks.{begins_bytes, even_at}
use Rattle.jsgen_strings.proofs.points.begins_with_brace.Goals as goal

pub returns-in-Some : goal.returns-in-Some
returns-in-Some c = ap (begins_with 123) (sym c.in-Some.ensures.cases.0) ∙ begins_bytes (λ x. x == 123) (even_at 123 (omega arith)) c.args.bytes.now c.requires
