use Rattle.std.proofs.Common.{rules, ◌≡◌, ◌∙◌, ◌<◌, ◌+◌, ◌-◌, ◌++◌, ◌∷◌, [], arith, length, Some, None, Err, sym, ap}
use Rattle.std.proofs.lemmas.Grind.{common_steps}
use Rattle.std.proofs.lemmas.List.{length-map}
use Rattle.jsgen_tree.specs.Plain.{node_plain}
use Rattle.jsgen_pool.specs.Pool.{there}
use Rattle.jsgen_flat.specs.Flat.{row_type, rows_from, width}
use Rattle.jsgen_flat.specs.Views.{sections}
use Rattle.jsgen_fields.specs.Values.{after}
use Rattle.jsgen_fields.specs.Reads.{read_rows}
use Rattle.jsgen_fields.specs.declared.InputFault.TheVariants.{Wrong}
use Rattle.jsgen_fields.proofs.Gives.{handed_on}
use Rattle.jsgen_kept.specs.Kept.{entries, any_row_plain}
use Rattle.jsgen_rows.proofs.FlatRows.{passed, refused}
use Rattle.jsgen_rows.proofs.steps.read_flat_rows.Goals as goal

pub returns-in_default : goal.returns-in_default
returns-in_default c =
    let p = sections c.args.job.now in
    let left = c.args.job.now.row_count - c.loop-count.count in
    let es = entries node_plain c.loop-count.kept.items in
    let more : 0 < left = search rules in
    let none : None ≡ row_type p c.loop-count.begin = search rules in
    let kept : length es ≡ c.len-number.result = search (rules, length-map) in
    λ told. sym c.loop-count.invariant ∙ refused p left c.loop-count.begin c.len-number.result es more kept none ∙ ap (λ a. Err (Wrong a)) (sym c.of_row.ensures)

pub returns-in_err-read : goal.returns-in_err-read
returns-in_err-read c =
    let p = sections c.args.job.now in
    let left = c.args.job.now.row_count - c.loop-count.count in
    let es = entries node_plain c.loop-count.kept.items in
    let row = c.in-Some.row in
    let more : 0 < left = search rules in
    let some : Some row.node_type ≡ row_type p c.loop-count.begin = search rules in
    let kept : length es ≡ c.len-number.result = search (rules, length-map) in
    let step = passed p (sections row.job.now) left c.loop-count.begin row.begin c.len-number.result es row.node_type more some c.in-Some.ensures.same.0 c.in-Some.ensures.same.1 kept in
    handed_on _ _ _ _ c.from_residual-in_err-read.ensures (λ told. sym c.loop-count.invariant ∙ step ∙ ap (λ r. after r (λ r. read_rows (rows_from p (left - 1) (c.loop-count.begin + width row.node_type)) (r.1 ++ there r.0 ∷ []))) (c.in_err-read.ensures told))

pub loop-count-preserved : goal.loop-count-preserved
loop-count-preserved c =
    let p = sections c.args.job.now in
    let left = c.args.job.now.row_count - c.loop-count.count in
    let es = entries node_plain c.loop-count.kept.items in
    let row = c.in-Some.row in
    let more : 0 < left = search rules in
    let some : Some row.node_type ≡ row_type p c.loop-count.begin = search rules in
    let kept : length es ≡ c.len-number.result = search (rules, length-map) in
    let step = passed p (sections row.job.now) left c.loop-count.begin row.begin c.len-number.result es row.node_type more some c.in-Some.ensures.same.0 c.in-Some.ensures.same.1 kept in
    let read = sym c.loop-count.invariant ∙ step ∙ ap (λ r. after r (λ r. read_rows (rows_from p (left - 1) (c.loop-count.begin + width row.node_type)) (r.1 ++ there r.0 ∷ []))) c.in_ok-read.ensures in
    let pushed : entries node_plain c.push.new.self.items ≡ entries node_plain c.read_row.new.kept.items ++ there (any_row_plain node_plain c.in_ok-read.read) ∷ [] = grind (arith, common_steps) in
    let count : c.args.job.now.row_count - (c.loop-count.count + 1) ≡ left - 1 = grind arith in
    let place : c.end-begin.result ≡ c.loop-count.begin + width row.node_type = c.end-begin.ensures ∙ ap (λ n. n + width row.node_type) c.in-Some.ensures.same.0 in
    ap (λ n. read_rows (rows_from p n c.end-begin.result) (entries node_plain c.push.new.self.items)) count
    ∙ ap (λ n. read_rows (rows_from p (left - 1) n) (entries node_plain c.push.new.self.items)) place
    ∙ ap (λ es. read_rows (rows_from p (left - 1) (c.loop-count.begin + width row.node_type)) es) pushed
    ∙ sym read
