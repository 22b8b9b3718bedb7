use Rattle.std.proofs.Common.{ℕ, List}
use Rattle.jsgen_printer.specs.Owners.{AreOf, holding, names_of}
use Rattle.jsgen_printer.proofs.Owned.{Rest}
use Rattle.jsgen_printer.proofs.owners.Owners.enter.Given as goal

abbrev pub invariant-loop-name : goal.invariant-loop-name
invariant-loop-name l = (held : List (List ℕ × ℕ)) → AreOf l.initial.self held → Rest l.self (names_of l.name-iterator) l.class (holding (names_of l.table.entries) l.class held)
