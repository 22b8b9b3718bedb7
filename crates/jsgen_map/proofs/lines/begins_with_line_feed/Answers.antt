use Rattle.std.proofs.Common.{◌==◌, ap, sym, ◌∙◌, arith}
use Rattle.jsgen_syntax.specs.Escapes.{begins_with}
use Rattle.jsgen_strings.proofs.Looks.{begins_bytes, even_at, nothing_begins}
use Rattle.jsgen_map.proofs.lines.begins_with_line_feed.Goals as goal

pub returns-in-Some : goal.returns-in-Some
returns-in-Some c = ap (begins_with 10) (sym c.in-Some.ensures.cases.0) ∙ begins_bytes (λ x. x == 10) (even_at 10 (omega arith)) c.args.bytes.now c.requires

pub returns-in-None : goal.returns-in-None
returns-in-None c = nothing_begins (λ x. x == 10) c.args.bytes.now c.in-None.ensures.cases
