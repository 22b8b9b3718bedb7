use Rattle.std.proofs.Common.{◌≡◌, ◌++◌, Ok, map, drop}
use Rattle.serde_json.specs.View.{view}
use Rattle.jsgen_tree.specs.Characters.{characters}
use Rattle.jsgen_fields.specs.Values.{after, texts_in}
use Rattle.jsgen_rows.proofs.tables.texts_in.Given as goal

-- the texts so far, and then those of the values left, are the whole
abbrev pub invariant-loop-item : goal.invariant-loop-item
invariant-loop-item l =
    after (texts_in l.fn.at (map view (drop l.item-index l.items))) (λ ss. Ok (map characters l.texts.items ++ ss)) ≡ texts_in l.fn.at (map view l.items)
