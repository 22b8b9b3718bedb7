use Rattle.std.proofs.Common.{◌+◌, drop, get_or, sym, ap, ◌∙◌, subst, arith}
use Rattle.std.proofs.lemmas.List.{drop_more, take_rest}
use Rattle.jsgen_strings.specs.Points.{ArePoints}
use Rattle.jsgen_strings.proofs.Looks.{low_first}
use Rattle.std.specs.Str.{chars}
use Rattle.jsgen_map.specs.LineColumn.{closes_line}
use Rattle.jsgen_map.proofs.LineReads.{plain_none, plain_more}
use Rattle.jsgen_map.proofs.lines.plain_len.Goals as goal

pub loop-i-init : goal.loop-i-init
loop-i-init c = plain_none c.args.bytes.now c.requires

pub closes_line-requires : goal.closes_line-requires
closes_line-requires c =
    let bytes = c.args.bytes.now in
    let e = drop_more bytes c.loop-i.i 0 (omega arith) in
    subst ArePoints (sym (take_rest bytes (c.loop-i.i + 1))) (low_first (drop c.loop-i.i bytes) (get_or bytes c.loop-i.i 0) (drop (c.loop-i.i + 1) bytes) c.loop-i.invariant.on.points e (omega arith)).points

pub loop-i-preserved : goal.loop-i-preserved
loop-i-preserved c =
    let bytes = c.args.bytes.now in
    let e = drop_more bytes c.loop-i.i 0 (omega arith) in
    plain_more bytes c.loop-i.i (get_or bytes c.loop-i.i 0) (drop c.loop-i.i bytes) (drop (c.loop-i.i + 1) bytes) c.loop-i.invariant e (omega arith)
    (ap (λ x. closes_line (get_or bytes c.loop-i.i 0) (chars x)) (sym (take_rest bytes (c.loop-i.i + 1))) ∙ (sym c.closes_line.ensures ∙ c.if-closes_line.false))
