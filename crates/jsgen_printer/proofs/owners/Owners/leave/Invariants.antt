use Rattle.std.proofs.Common.{◌≡◌, ℕ, ◌-◌, List, length}
use Rattle.jsgen_printer.specs.Owners.{AreOf, holding}
use Rattle.jsgen_printer.proofs.Owned.{Left}
use Rattle.jsgen_printer.proofs.owners.Owners.leave.Given as goal

abbrev pub invariant-loop-left : goal.invariant-loop-left
invariant-loop-left l = (names : List (List ℕ)) (class : ℕ) (held : List (List ℕ × ℕ)) → length names ≡ l.count → AreOf l.initial.self (holding names class held) → Left l.self (l.count - l.left) held
