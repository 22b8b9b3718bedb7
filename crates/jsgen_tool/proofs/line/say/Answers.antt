use Rattle.std.proofs.Common.{◌≡◌, ◌++◌, List, ℕ, subst, arith, codes}
use Rattle.jsgen_tool.specs.Lines.{Says, spot_text, line_of}
use Rattle.jsgen_tool.proofs.Steps.{says_of}
use Rattle.jsgen_tool.proofs.line.say.Goals as goal

pub returns-in-Some : goal.returns-in-Some
returns-in-Some g c =
    let P : List ℕ → Type 0 = λ line. Says (g.K.Sink.got c.args.err.now) (g.K.Sink.got c.push_line.new.sink)
    (g.K.Sink.faults c.args.err.now) (g.K.Sink.faults c.push_line.new.sink) line in
    let same : c.as_bytes.result.now ++ spot_text c.in-Some.spot ++ codes "\n" ≡ line_of c.args.status =
    grind (arith, c.in-Some.ensures, c.in-Some.text-is, c.in-Some.spot-is, c.as_bytes.ensures.value) in
    subst P same
    (says_of _ _ _ _ (c.as_bytes.result.now ++ spot_text c.in-Some.spot ++ codes "\n") c.push_line.result
    c.push_line.ensures.all c.push_line.ensures.part c.push_line.ensures.cause)
