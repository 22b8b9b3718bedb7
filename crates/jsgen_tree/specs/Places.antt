-- The values of a node by their place among its fields.
use Rattle.std.specs.Prelude.{ℕ, zero, suc, List, [], ◌∷◌}
use Rattle.jsgen_tree.specs.Atom.{Atom, no_value}
use Rattle.jsgen_tree.specs.Tree.{Atoms}

abbrev pub first_value : List Atom → Atom
first_value [] = no_value
first_value (v ∷ vs) = v

abbrev pub other_values : List Atom → List Atom
other_values [] = []
other_values (v ∷ vs) = vs

-- the value at a place, counted from 0
abbrev pub value_at : ℕ → List Atom → Atom
value_at zero vs = first_value vs
value_at (suc n) vs = value_at n (other_values vs)

-- ---- values of trees that stand in no source

abbrev pub bare : List Atom → Atoms
bare values = record { span = record { start = 0; end = 0 }; values = values }

-- n fields, all absent
abbrev pub absent_values : ℕ → List Atom
absent_values zero = []
absent_values (suc n) = no_value ∷ absent_values n
