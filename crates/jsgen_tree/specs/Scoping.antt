-- The plain data of the tables of names.
use Rattle.std.specs.Prelude.{ℕ, List, map, option_map}
use Rattle.jsgen_tree.specs.Characters.{characters}
use Rattle.jsgen_tree.specs.Job as job
use Rattle.jsgen_tree.specs.declared.scoping.Scoping.{Scoping}
use Rattle.jsgen_tree.specs.declared.scoping.PrivateMappings.{PrivateMappings}
use Rattle.jsgen_tree.specs.declared.scoping.Tables.{Tables}

abbrev pub scoping_plain : Scoping → job.Scoping
scoping_plain s = record { symbols = map characters s.symbols.items; references = s.references.items }

-- by the number of the class, each name and its new one, in the order of the names
abbrev pub private_plain : PrivateMappings → List (List (List ℕ × List ℕ))
private_plain p = map (λ m. map (λ e. (characters e.0, characters e.1)) m.entries) p.classes.items

unfoldable pub tables_plain : Tables → job.Tables
tables_plain t = record { scoping = option_map (λ s. scoping_plain s.now) t.scoping; private = option_map (λ p. private_plain p.now) t.private }
