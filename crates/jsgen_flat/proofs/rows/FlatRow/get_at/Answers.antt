use Rattle.std.proofs.Common.{rules, ◌≡◌, ◌+◌, ◌-◌, map, Some, slice_get}
use Rattle.jsgen_tree.specs.Fields.{fields}
use Rattle.jsgen_flat.specs.Flat.{shaped}
use Rattle.jsgen_flat.specs.Views.{flat_data, given_at, sections}
use Rattle.jsgen_flat.proofs.Lookup.{by_place}
use Rattle.jsgen_flat.proofs.rows.FlatRow.get_at.Goals as goal

pub returns-in-Some : goal.returns-in-Some
returns-in-Some c =
    let row = c.args.self.now in
    let given : given_at (sections row.job.now) c.args.name.now (c.args.number - 2 + (row.begin + 3)) (slice_get (map shaped (fields row.node_type)) (c.args.number - 2)) ≡ Some (flat_data c.in-Some.found) = search rules in
    by_place (sections row.job.now) row.node_type row.begin c.args.name.now (c.args.number - 2) _ given
