-- A tree at a place that has two names.
use Rattle.std.proofs.Common.{◌≡◌, subst}
use Rattle.jsgen_tree.specs.Tree.{Tree}
use Rattle.jsgen_place.specs.declared.place.Place.{Place}
use Rattle.jsgen_model.specs.Spell.{spell}
use Rattle.jsgen_printer.specs.Steps.{Lays}
use Rattle.jsgen_printer.specs.declared.printer.Printer.{Printer}

-- a tree that is printed at a place is printed at it under another name
pub placed_as : {a b : Printer} (t : Tree) {p q : Place} → p ≡ q → Lays a b (spell t p) → Lays a b (spell t q)
placed_as {a} {b} t e h = subst (λ place. Lays a b (spell t place)) e h
