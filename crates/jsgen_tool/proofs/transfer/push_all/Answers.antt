use Rattle.std.proofs.Common.{arith, ◌∙◌, ◌+◌, OnErr, Ok, Err}
use Rattle.std.proofs.lemmas.Grind.{common_steps}
use Rattle.jsgen_device.specs.Device.{AppendsPart}
use Rattle.jsgen_tool.proofs.Loops.{push_next, push_part}
use Rattle.jsgen_tool.proofs.transfer.push_all.Goals as goal

pub returns-in_err-push-clause-part : goal.returns-in_err-push-clause-part
returns-in_err-push-clause-part g c =
    let part = push_part (g.K.Sink.got c.args.sink.now) (g.K.Sink.got c.loop-at.sink) (g.K.Sink.got c.push.new.self)
    c.args.text.now c.loop-at.at (c.loop-at.at + c.min.result) (omega arith) (omega (arith, c.min.ensures))
    c.loop-at.invariant.pushed c.in_err-push.ensures.part in
    elim c.from_residual.result as (λ r. OnErr r (AppendsPart (g.K.Sink.got c.args.sink.now) (g.K.Sink.got c.push.new.self) c.args.text.now))
    [ Ok x ↦ tt | Err e ↦ part ]

pub loop-at-preserved : goal.loop-at-preserved
loop-at-preserved g c = record {
  within = omega (arith, c.min.ensures);
  pushed = push_next (g.K.Sink.got c.args.sink.now) (g.K.Sink.got c.loop-at.sink) (g.K.Sink.got c.push.new.self)
      c.args.text.now c.loop-at.at (c.loop-at.at + c.min.result) (omega arith) (omega (arith, c.min.ensures))
      c.loop-at.invariant.pushed c.in_ok-push.ensures.all;
  kept = c.in_ok-push.ensures.cause.kept ∙ c.loop-at.invariant.kept;
}

pub returns-clause-all : goal.returns-clause-all
returns-clause-all g c = grind (arith, common_steps)
