use Rattle.std.proofs.Common.{◌≡◌, ◌++◌, Ok, map, drop}
use Rattle.serde_json.specs.View.{view}
use Rattle.jsgen_fields.specs.Values.{after, classes_in}
use Rattle.jsgen_rows.specs.Tables.{class_plain}
use Rattle.jsgen_rows.proofs.tables.classes_in.Given as goal

-- the classes so far, and then those of the values left, are the whole
abbrev pub invariant-loop-item : goal.invariant-loop-item
invariant-loop-item l =
    after (classes_in l.fn.at (map view (drop l.item-index l.items))) (λ cs. Ok (map (λ m. class_plain m.entries) l.classes.items ++ cs)) ≡ classes_in l.fn.at (map view l.items)
