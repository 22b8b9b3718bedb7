use Rattle.std.proofs.Common.{◌≡◌, ◌++◌, Ok, map, drop}
use Rattle.serde_json.specs.View.{view}
use Rattle.jsgen_fields.specs.Values.{after, entries_in}
use Rattle.jsgen_rows.proofs.tables.entries_in.Given as goal

-- the entries so far, and then those of the values left, are the whole
abbrev pub invariant-loop-item : goal.invariant-loop-item
invariant-loop-item l =
    after (entries_in l.fn.at (map view (drop l.item-index l.items))) (λ es. Ok (l.entries.items ++ es)) ≡ entries_in l.fn.at (map view l.items)
