use Rattle.std.proofs.Common.{◌+◌, ◌∙◌, refl, sym, subst, arith}
use Rattle.jsgen_strings.proofs.Looks.{low_first}
use Rattle.jsgen_map.specs.Reading.{IsPlainRun}
use Rattle.jsgen_map.proofs.LineReads.{ascii_line, last_ascii_line, table_line}
use Rattle.jsgen_map.proofs.lines.read_line.Goals as goal

pub closes_line-requires : goal.closes_line-requires
closes_line-requires c =
    let run = subst (IsPlainRun c.args.bytes.now c.plain_len-plain.result) (sym c.split_at.ensures.back) c.plain_len-plain.ensures in
    (low_first c.split_at.result.1.now c.in-Some.first.now c.in-Some.rest.now run.on.points c.in-Some.ensures.cases.0 (omega arith)).points

pub returns-in-Some : goal.returns-in-Some
returns-in-Some c =
    let run = subst (IsPlainRun c.args.bytes.now c.plain_len-plain.result) (sym c.split_at.ensures.back) c.plain_len-plain.ensures in
    ascii_line c.args.bytes.now c.plain_len-plain.result c.in-Some.first.now c.split_at.result.1.now c.in-Some.rest run c.in-Some.ensures.cases.0 (omega arith) (sym c.closes_line.ensures ∙ c.if-closes_line.true)

pub returns-in-None : goal.returns-in-None
returns-in-None c =
    let run = subst (IsPlainRun c.args.bytes.now c.plain_len-plain.result) (sym c.split_at.ensures.back) c.plain_len-plain.ensures in
    last_ascii_line c.args.bytes.now c.plain_len-plain.result c.split_at.result.1.now run c.in-None.ensures.cases

pub returns-in_ok-columns-in-Some-2 : goal.returns-in_ok-columns-in-Some-2
returns-in_ok-columns-in-Some-2 c =
    let run = subst (IsPlainRun c.args.bytes.now c.plain_len-plain.result) (sym c.split_at.ensures.back) c.plain_len-plain.ensures in
    let read = c.in_ok-columns-in-Some-2.ensures in
    table_line c.args.bytes.now c.plain_len-plain.result c.split_at.result.1.now (record { first = c.plain_len-plain.result; columns = c.in_ok-columns-in-Some-2.field-0.columns }) c.in_ok-columns-in-Some-2.field-0.rest (c.plain_len-plain.result + c.len.result) run refl read.columns read.ends (omega arith)
