use Rattle.std.proofs.Common.{ap, sym, ◌∙◌}
use Rattle.std.specs.Char.{is_ascii_digit}
use Rattle.jsgen_syntax.specs.Escapes.{begins}
use Rattle.jsgen_strings.proofs.Looks.{begins_bytes, even_digit}
use Rattle.jsgen_strings.proofs.points.begins_with_digit.Goals as goal

pub returns-in-Some : goal.returns-in-Some
returns-in-Some c = c.is_ascii_digit.ensures.value ∙ (ap (begins is_ascii_digit) (sym c.in-Some.ensures.cases.0) ∙ begins_bytes is_ascii_digit even_digit c.args.bytes.now c.requires)
