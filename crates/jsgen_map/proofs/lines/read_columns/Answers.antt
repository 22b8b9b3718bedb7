use Rattle.std.proofs.Common.{◌+◌, length, sym, ap, ◌∙◌, subst, arith}
use Rattle.std.specs.Char.{len_utf8}
use Rattle.std.proofs.lemmas.Bool.{eqb-true}
use Rattle.std.proofs.lemmas.List.{length_push}
use Rattle.jsgen_map.specs.Reading.{AreColumns, Closes, GoesOn}
use Rattle.jsgen_map.proofs.LineReads.{on_none, on_more, on_close, columns_end, stepped, units_within}
use Rattle.jsgen_map.proofs.lines.read_columns.Goals as goal

pub returns-then-closes_line : goal.returns-then-closes_line
returns-then-closes_line c =
    let i = c.characters.invariant in
    let p = c.take_point-point in
    let s = stepped c.args.first c.args.bytes.now c.characters.columns.items c.characters.column c.characters.rest.now p.result.code p.result.bytes.now p.result.behind.now c.push_columns.new.columns.items i.columns i.on p.ensures.chars p.ensures.bytes c.in_ok-push_columns.ensures in
    record {
      columns = s.columns;
      ends = subst (λ n. Closes c.args.first c.args.bytes.now n p.result.behind.now) (sym s.size) (on_close c.args.first c.args.bytes.now (length c.characters.columns.items) c.characters.column c.characters.rest.now p.result.code p.result.behind.now i.on p.ensures.behind p.ensures.chars (sym c.closes_line.ensures ∙ c.if-closes_line.true));
    }

pub overflow_add-column : goal.overflow_add-column
overflow_add-column c =
    let i = c.characters.invariant in
    let p = c.take_point-point in
    let s = stepped c.args.first c.args.bytes.now c.characters.columns.items c.characters.column c.characters.rest.now p.result.code p.result.bytes.now p.result.behind.now c.push_columns.new.columns.items i.columns i.on p.ensures.chars p.ensures.bytes c.in_ok-push_columns.ensures in
    let g = on_more c.args.first c.args.bytes.now (length c.characters.columns.items) c.characters.column c.characters.rest.now p.result.code p.result.behind.now i.on p.ensures.behind p.ensures.chars (sym c.closes_line.ensures ∙ c.if-closes_line.false) in
    let z = g.size in
    let u = units_within p.result.code in
    omega (arith, c.units-column.ensures, i.bound, c.requires.small)

pub characters-init : goal.characters-init
characters-init c = record {
  columns = λ l n h. absurd (omega (arith, ap length c.new-columns.ensures.items));
  on = subst (λ n. GoesOn c.args.first c.args.bytes.now n c.args.first c.args.bytes.now) (sym (ap length c.new-columns.ensures.items)) (on_none c.args.first c.args.bytes.now c.requires.points);
  bound = omega arith;
}

pub characters-preserved : goal.characters-preserved
characters-preserved c =
    let i = c.characters.invariant in
    let p = c.take_point-point in
    let s = stepped c.args.first c.args.bytes.now c.characters.columns.items c.characters.column c.characters.rest.now p.result.code p.result.bytes.now p.result.behind.now c.push_columns.new.columns.items i.columns i.on p.ensures.chars p.ensures.bytes c.in_ok-push_columns.ensures in
    let g = on_more c.args.first c.args.bytes.now (length c.characters.columns.items) c.characters.column c.characters.rest.now p.result.code p.result.behind.now i.on p.ensures.behind p.ensures.chars (sym c.closes_line.ensures ∙ c.if-closes_line.false) in
    let u = units_within p.result.code in
    let z = s.size in
    record {
      columns = s.columns;
      on = subst (λ n. GoesOn c.args.first c.args.bytes.now n (c.characters.column + c.units-column.result) p.result.behind.now) (sym s.size) (subst (λ n. GoesOn c.args.first c.args.bytes.now (length c.characters.columns.items + len_utf8 p.result.code) (c.characters.column + n) p.result.behind.now) (sym c.units-column.ensures) g);
      bound = omega (arith, c.units-column.ensures, i.bound);
    }

pub returns : goal.returns
returns c =
    let i = c.characters.invariant in
    let e = eqb-true (length c.characters.rest.now) 0 (sym c.characters-test.ensures) in
    let size = i.on.size in
    let items = c.in_ok-push.ensures.items in
    record {
      columns = subst (AreColumns c.args.first c.args.bytes.now) (sym items) (columns_end c.args.first c.args.bytes.now c.characters.columns.items c.characters.column c.characters.rest.now i.columns i.on e);
      ends = let k = ap length items ∙ length_push c.characters.columns.items c.characters.column in omega arith;
    }
