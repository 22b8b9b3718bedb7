-- The classes round a node.
use Rattle.std.specs.Prelude.{ℕ, min, List, [], ◌∷◌, length, Option}
use Rattle.std.specs.Option.{option_map_or}
use Rattle.std.specs.Borrow.{Bor}
use Rattle.jsgen_tree.specs.Job.{Tables}
use Rattle.jsgen_rules.specs.declared.private.Classes.{Classes, Classes-F, fold-Classes}

abbrev pub with_those_round : Classes-F (List ℕ) → List ℕ
with_those_round class = class.number ∷ option_map_or (λ outer. outer.now) class.outer []

-- the number of a class and those of the classes round it, the innermost first
unfoldable pub class_numbers : Classes → List ℕ
class_numbers = fold-Classes (List ℕ) with_those_round

abbrev pub numbers : Option (Bor Classes) → List ℕ
numbers classes = option_map_or (λ class. class_numbers class.now) classes []

-- Numbers of classes matter as far as there are tables: a class behind the last has none.
unfoldable pub counted : Tables → ℕ → ℕ
counted tables number = min number (option_map_or length tables.private 0)
