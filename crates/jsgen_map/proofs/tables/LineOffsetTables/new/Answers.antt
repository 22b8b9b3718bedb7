use Rattle.std.proofs.Common.{length, subst}
use Rattle.jsgen_map.proofs.LineReads.{points_of_text}
use Rattle.jsgen_map.proofs.TableReads.{Rest, known_none, known_more, left_all, offsets_some, rest_more}
use Rattle.jsgen_map.proofs.tables.LineOffsetTables.new.Goals as goal

pub lines-init : goal.lines-init
lines-init c = record {
  known = known_none c.args.source.now c.new-lines.result.items c.new-column_offsets.result.items c.new-lines.ensures.items c.new-column_offsets.ensures.items;
  rest = left_all c.args.source.now c.as_bytes.result.now c.new-lines.result.items c.new-lines.ensures.items c.as_bytes.ensures.value (points_of_text c.args.source.now c.utf8.source);
}

pub lines-preserved : goal.lines-preserved
lines-preserved c =
    let i = c.lines.invariant in
    let left = subst (Rest c.args.source.now c.lines.start (length c.lines.lines.items)) c.in-Some.is i.rest in
    let line = c.in_ok-line.line in
    let reads = c.in_ok-line.ensures in
    record {
      known = known_more c.args.source.now c.lines.lines.items c.lines.column_offsets.items c.lines.start c.in-Some.bytes.now line c.push_table.new.tables.items c.in_ok-columns.columns c.push.new.self.items i.known left reads c.in_ok-columns.ensures (offsets_some c.in-Some.bytes.now line.offsets line.rest reads.ends) c.in_ok-push.ensures.items;
      rest = rest_more c.args.source.now c.lines.lines.items c.lines.start c.in-Some.bytes.now line.offsets line.rest (record { start = c.lines.start; columns = c.in_ok-columns.columns }) c.push.new.self.items left reads.ends c.in_ok-push.ensures.items;
    }
