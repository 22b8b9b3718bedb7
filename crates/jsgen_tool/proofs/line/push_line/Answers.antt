use Rattle.std.proofs.Common.{◌∙◌, sym, ◌++◌, codes, arith}
use Rattle.std.proofs.lemmas.Grind.{common_steps}
use Rattle.jsgen_tool.specs.Lines.{spot_text}
use Rattle.jsgen_tool.proofs.Loops.{then_part, first_part, on_ok, on_err}
use Rattle.jsgen_tool.proofs.line.push_line.Goals as goal

pub returns-then-is_err-clause-part : goal.returns-then-is_err-clause-part
returns-then-is_err-clause-part g c =
    first_part (g.K.Sink.got c.args.sink.now) (g.K.Sink.got c.push_said.new.sink) (c.args.text.now ++ spot_text c.args.spot) (codes "\n")
    (on_err c.push_said.result (sym c.is_err.ensures.value ∙ c.if-is_err.true) c.push_said.ensures.part)

pub returns-clause-part : goal.returns-clause-part
returns-clause-part g c =
    then_part (g.K.Sink.got c.args.sink.now) (g.K.Sink.got c.push_said.new.sink) (g.K.Sink.got c.push.new.self) (c.args.text.now ++ spot_text c.args.spot) (codes "\n") c.push.result
    (on_ok c.push_said.result (sym c.is_err.ensures.value ∙ c.if-is_err.false) c.push_said.ensures.all) c.push.ensures.part

pub returns-clause-all : goal.returns-clause-all
returns-clause-all g c = grind (arith, common_steps)
