use Rattle.std.proofs.Common.{◌+◌, ◌-◌, subst, arith}
use Rattle.jsgen_printer.proofs.Owned.{Left, all_left, one_less, none_left}
use Rattle.jsgen_printer.proofs.owners.Owners.leave.Goals as goal

pub loop-left-init : goal.loop-left-init
loop-left-init c = λ names class held e are. subst (λ n. Left c.args.self.now n held) (let h = e in omega arith) (all_left c.args.self.now names class held are)

pub loop-left-preserved : goal.loop-left-preserved
loop-left-preserved c = λ names class held e are.
    let left = c.loop-left.invariant names class held e are in
    one_less c.loop-left.self c.take_back.new.self (c.args.count - (c.loop-left.left + 1)) held c.in_ok-take_back.ensures (subst (λ n. Left c.loop-left.self n held) (omega arith) left)

pub returns : goal.returns
returns c = λ names class held e are. none_left c.loop-left.self held (subst (λ n. Left c.loop-left.self n held) (omega arith) (c.loop-left.invariant names class held e are))
