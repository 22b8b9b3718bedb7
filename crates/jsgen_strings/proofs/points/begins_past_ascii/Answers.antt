use Rattle.std.proofs.Common.{ap, sym, ◌∙◌}
use Rattle.jsgen_syntax.specs.Escapes.{begins, is_past_ascii}
use Rattle.jsgen_strings.proofs.Looks.{begins_bytes, nothing_begins, even_past}
use Rattle.jsgen_strings.proofs.points.begins_past_ascii.Goals as goal

pub returns-in-Some : goal.returns-in-Some
returns-in-Some c = ap (begins is_past_ascii) (sym c.in-Some.ensures.cases.0) ∙ begins_bytes is_past_ascii even_past c.args.bytes.now c.requires

pub returns-in-None : goal.returns-in-None
returns-in-None c = nothing_begins is_past_ascii c.args.bytes.now c.in-None.ensures.cases
