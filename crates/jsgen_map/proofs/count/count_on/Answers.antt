use Rattle.std.proofs.Common.{◌+◌, drop, sym, ap, ◌∙◌, arith}
use Rattle.std.proofs.lemmas.List.{at_drop_more}
use Rattle.jsgen_map.specs.Count.{counted_from}
use Rattle.jsgen_map.proofs.count.count_on.Goals as goal

pub loop-byte-preserved : goal.loop-byte-preserved
loop-byte-preserved c =
    let i = c.loop-byte.byte-index in
    let more = at_drop_more (counted_from c.loop-byte.count) c.args.bytes.now i 0 (omega arith) in
    record {
      count = ap (λ k. counted_from k (drop (i + 1) c.args.bytes.now)) c.step-count.ensures.count ∙ (sym more ∙ c.loop-byte.invariant.count);
      line = omega arith;
      column = omega arith;
    }
