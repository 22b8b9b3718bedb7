use Rattle.std.proofs.Common.{arith}
use Rattle.jsgen_pool.proofs.Taking.{taking_there, taking_taken}
use Rattle.jsgen_pool.proofs.take.Goals as goal

pub returns-in-There-clause-takes : goal.returns-in-There-clause-takes
returns-in-There-clause-takes g c =
    let e = taking_there g.R.Typed.plain c.args.set c.args.rows.now.items c.args.number c.index.result.now c.in-There.row c.kept_type-node_type.result (omega arith) c.index.ensures (let v = c.in-There.ensures in cc (v.value, c.index_mut.ensures.value)) c.kept_type-node_type.ensures c.if-not-is_in.ensures in
    rw c.replace.ensures.after e

pub returns-in-Taken-clause-takes : goal.returns-in-Taken-clause-takes
returns-in-Taken-clause-takes g c =
    taking_taken g.R.Typed.plain c.args.set c.args.rows.now.items c.args.number c.index.result.now c.in-Taken.field-0 c.kept_type-node_type.result (omega arith) c.index.ensures (let v = c.in-Taken.ensures in cc (v.value, c.index_mut.ensures.value)) c.kept_type-node_type.ensures c.if-not-is_in.ensures
