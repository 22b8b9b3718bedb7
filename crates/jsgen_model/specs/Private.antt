-- What a private name is printed as (ECMA-262, 12.7 and 13.3.2): by the table of the innermost class round it whose table holds it, or
-- else as it is written. Classes are numbered from 0 in the order in which their bodies begin in the text, and a table is that of the
-- class whose number is its place.
use Rattle.std.specs.Prelude.{ℕ, Bool, List, [], ◌∷◌, Option, Some, None, option_and_then, unwrap_or, slice_get, if◌then◌else◌, bytes_eq}
use Rattle.std.specs.Option.{option_or, is_some}
use Rattle.jsgen_tree.specs.Job.{Tables}

-- the new name of a name in a class's table
abbrev pub name_in : List (List ℕ × List ℕ) → List ℕ → Option (List ℕ)
name_in [] w = None
name_in (e ∷ es) w = if bytes_eq w e.0 then Some e.1 else name_in es w

-- the one that the first of these classes gives
abbrev pub private_name_by : List (List (List ℕ × List ℕ)) → List ℕ → List ℕ → Option (List ℕ)
private_name_by tables [] w = None
private_name_by tables (k ∷ ks) w = option_or (option_and_then (λ table. name_in table w) (slice_get tables k)) (private_name_by tables ks w)

-- within these classes, the innermost first
abbrev pub printed_private : Tables → List ℕ → List ℕ → List ℕ
printed_private tables classes w = unwrap_or (option_and_then (λ all. private_name_by all classes w) tables.private) w

abbrev pub has_table : Tables → ℕ → Bool
has_table tables number = is_some (option_and_then (λ all. slice_get all number) tables.private)

-- The classes round what stands in the body of the class with this number, which itself stands in these. One that has no table gives
-- no name, and isn't among them.
abbrev pub classes_within : Tables → ℕ → List ℕ → List ℕ
classes_within tables number classes = if has_table tables number then number ∷ classes else classes
