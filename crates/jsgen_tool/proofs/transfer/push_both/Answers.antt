use Rattle.std.proofs.Common.{◌∙◌, sym, arith}
use Rattle.std.proofs.lemmas.Grind.{common_steps}
use Rattle.jsgen_tool.proofs.Loops.{then_part, first_part, on_ok, on_err}
use Rattle.jsgen_tool.proofs.transfer.push_both.Goals as goal

pub returns-then-is_err-clause-part : goal.returns-then-is_err-clause-part
returns-then-is_err-clause-part g c =
    first_part (g.K.Sink.got c.args.sink.now) (g.K.Sink.got c.push.new.self) c.args.first.now c.args.second.now
    (on_err c.push.result (sym c.is_err.ensures.value ∙ c.if-is_err.true) c.push.ensures.part)

pub returns-clause-part : goal.returns-clause-part
returns-clause-part g c =
    then_part (g.K.Sink.got c.args.sink.now) (g.K.Sink.got c.push.new.self) (g.K.Sink.got c.push-2.new.self)
    c.args.first.now c.args.second.now c.push-2.result
    (on_ok c.push.result (sym c.is_err.ensures.value ∙ c.if-is_err.false) c.push.ensures.all) c.push-2.ensures.part

pub returns-clause-all : goal.returns-clause-all
returns-clause-all g c = grind (arith, common_steps)
