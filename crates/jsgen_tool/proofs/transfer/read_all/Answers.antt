use Rattle.std.proofs.Common.{◌≡◌, ℕ, arith, ◌++◌, take, length-append, length-take, rules}
use Rattle.jsgen_tool.proofs.Loops.{read_next, longer}
use Rattle.jsgen_tool.proofs.transfer.read_all.Goals as goal

pub returns-in_default : goal.returns-in_default
returns-in_default g c = record { held = tt; count = search rules; taken = search rules }

pub returns-then-is_err-clause-taken : goal.returns-then-is_err-clause-taken
returns-then-is_err-clause-taken g c =
    let part = take c.in-Ok.count c.pull.new.into in (
      c.loop-chunk.bytes.items ++ part,
      read_next _ _ _ c.loop-chunk.bytes.items part c.loop-chunk.invariant.read c.in-Ok.ensures.bytes.0,
      omega (arith, length-append {A = ℕ}, length-take {A = ℕ}, c.min-room.ensures, c.in-Ok.ensures.bound),
    )

pub loop-chunk-preserved : goal.loop-chunk-preserved
loop-chunk-preserved g c =
    let part = take c.in-Ok.count c.pull.new.into in
    let more : c.extend_from_slice.new.self.items ≡ c.loop-chunk.bytes.items ++ part = grind (arith, c.extend_from_slice.ensures.items, c.is_err.ensures.negation) in
    record {
      within = rw more (omega (arith, length-append {A = ℕ}, length-take {A = ℕ}, c.min-room.ensures, c.in-Ok.ensures.bound));
      read = rw more (read_next _ _ _ c.loop-chunk.bytes.items part c.loop-chunk.invariant.read c.in-Ok.ensures.bytes.0);
      kept = search rules;
    }

pub returns : goal.returns
returns g c = record {
  held = longer _ _ c.loop-chunk.bytes.items c.loop-chunk.invariant.read (omega arith);
  count = c.loop-chunk.invariant.kept;
  taken = (c.loop-chunk.bytes.items, c.loop-chunk.invariant.read, c.loop-chunk.invariant.within);
}
