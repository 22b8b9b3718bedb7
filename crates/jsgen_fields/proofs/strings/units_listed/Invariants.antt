use Rattle.std.proofs.Common.{◌≡◌, ◌++◌, Ok, drop}
use Rattle.jsgen_fields.specs.Given.{given_items}
use Rattle.jsgen_fields.specs.Values.{after, units_listed}
use Rattle.jsgen_fields.proofs.strings.units_listed.Given as goal

-- the units so far, and then those of the values left, are the whole
abbrev pub invariant-loop-index : goal.invariant-loop-index
invariant-loop-index l =
    after (units_listed l.fn.at (drop l.index (given_items l.items))) (λ us. Ok (l.units.items ++ us)) ≡ units_listed l.fn.at (given_items l.items)
