-- Which class each private name is of, while classes are entered and left.
use Rattle.std.specs.Prelude.{◌≡◌, ℕ, List, [], ◌∷◌, Option, map, reverse, option_and_then, slice_get, String, string_bytes}
use Rattle.std.specs.Option.{option_map_or}
use Rattle.std.specs.declared.alloc.Global.{Global}
use Rattle.std.specs.BTreeMap as tree
use Rattle.std.specs.Cmp.Lexicographic.{slice_cmp}
use Rattle.std.specs.Map.{lookup}
use Rattle.std.specs.Ordering.{nat_cmp}
use Rattle.std.specs.Str.{bytes_eq}
use denote.Ref.{Bor}
use Rattle.jsgen_tree.specs.declared.scoping.PrivateMappings.{PrivateMappings}
use Rattle.jsgen_printer.specs.declared.owners.Held.{Held}
use Rattle.jsgen_printer.specs.declared.owners.Owners.{Owners}

-- the names of a table
abbrev pub names_of : List (String Global × String Global) → List (List ℕ)
names_of entries = map (λ e. string_bytes e.0) entries

-- what is held, with its class, the last first; and these names besides, of one class
abbrev pub holding : List (List ℕ) → ℕ → List (List ℕ × ℕ) → List (List ℕ × ℕ)
holding [] class held = held
holding (n ∷ ns) class held = holding ns class ((n, class) ∷ held)

-- each name that is held, with the class that it is of without it and what was held later
abbrev pub trail : List (List ℕ × ℕ) → List (List ℕ × Option ℕ)
trail [] = []
trail (h ∷ hs) = (h.0, lookup (bytes_eq h.0) hs) ∷ trail hs

abbrev pub held_plain : Held → List ℕ × Option ℕ
held_plain h = (h.name.now, h.outer)

-- they are those of what is held
pub record AreOf (o : Owners) (held : List (List ℕ × ℕ)) : Type 0 where
  pub owner : (w : List ℕ) → tree.get_by (λ (k : Bor (List ℕ)). slice_cmp nat_cmp w k.now) o.owners ≡ lookup (bytes_eq w) held
  pub trail : reverse (map held_plain o.held.items) ≡ trail held

-- the names in the table of the class with this number
abbrev pub names_in : Option (Bor PrivateMappings) → ℕ → List (List ℕ)
names_in private class = option_map_or (λ table. names_of table.entries) (option_and_then (λ (p : Bor PrivateMappings). slice_get p.now.classes.items class) private) []

-- what is held within these classes, the innermost first
abbrev pub held_in : Option (Bor PrivateMappings) → List ℕ → List (List ℕ × ℕ)
held_in private [] = []
held_in private (c ∷ cs) = holding (names_in private c) c (held_in private cs)
