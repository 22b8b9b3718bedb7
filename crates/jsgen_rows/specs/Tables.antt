-- The plain data of a class's names.
use Rattle.std.specs.Prelude.{ℕ, List, map, String}
use Rattle.std.specs.declared.alloc.Global.{Global}
use Rattle.jsgen_tree.specs.Characters.{characters}

-- each name and its new one
abbrev pub class_plain : List (String Global × String Global) → List (List ℕ × List ℕ)
class_plain es = map (λ e. (characters e.0, characters e.1)) es
