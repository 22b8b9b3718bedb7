use Rattle.std.proofs.Common.{◌≡◌, List, ◌++◌, Ok, map}
use Rattle.serde_json.specs.View.{members_view}
use Rattle.serde_json.proofs.Views.{Entry}
use Rattle.jsgen_fields.specs.Values.{after, names_in}
use Rattle.jsgen_rows.specs.Tables.{class_plain}
use Rattle.jsgen_rows.proofs.Names.{key}
use Rattle.jsgen_rows.proofs.tables.names_in.Given as goal

-- the names so far have the keys of the members so far, and they and then those of the members left are the whole
abbrev pub invariant-loop-key : goal.invariant-loop-key
invariant-loop-key l =
    (done : List Entry) × (l.members.entries ≡ done ++ l.key-iterator) × (map key l.names.entries ≡ map key done)
    × (after (names_in l.fn.at (members_view l.key-iterator)) (λ ns. Ok (class_plain l.names.entries ++ ns)) ≡ names_in l.fn.at (members_view l.members.entries))
