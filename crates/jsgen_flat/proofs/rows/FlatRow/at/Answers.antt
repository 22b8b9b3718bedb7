use Rattle.std.proofs.Common.{rules, ◌≡◌, ◌≤◌, ◌<◌, ◌+◌, ◌/◌, length, Some, slice_get}
use Rattle.jsgen_flat.specs.Names.{node_types}
use Rattle.jsgen_flat.specs.Flat.{width, word}
use Rattle.jsgen_flat.specs.Views.{sections}
use Rattle.jsgen_flat.proofs.Typed.{there, too_long}
use Rattle.jsgen_flat.proofs.rows.FlatRow.at.Goals as goal

pub returns-then-begin-width_of-clause-there : goal.returns-then-begin-width_of-clause-there
returns-then-begin-width_of-clause-there c =
    let typed : Some c.in-Some.node_type ≡ slice_get node_types (word c.args.job.now.rows.now c.args.begin) = search rules in
    let fits : c.args.begin + width c.in-Some.node_type ≤ length c.args.job.now.rows.now / 4 = search rules in
    there (sections c.args.job.now) c.args.begin c.in-Some.node_type typed fits

pub returns-else-begin-width_of-clause-there : goal.returns-else-begin-width_of-clause-there
returns-else-begin-width_of-clause-there c =
    let typed : Some c.in-Some.node_type ≡ slice_get node_types (word c.args.job.now.rows.now c.args.begin) = search rules in
    let ends : length c.args.job.now.rows.now / 4 < c.args.begin + width c.in-Some.node_type = search rules in
    too_long (sections c.args.job.now) c.args.begin c.in-Some.node_type typed ends
