use Rattle.std.proofs.Common.{◌≡◌, ℕ, List, ◌∷◌, Option, Some, None, option_and_then, unwrap_or, slice_get, if◌then◌else◌, refl, sym, ap, ◌∙◌}
use Rattle.std.specs.Option.{option_or, is_some}
use Rattle.jsgen_model.specs.Private.{name_in, private_name_by}
use Rattle.jsgen_model.proofs.laws.kept_classes_are_enough.Goals as goal

abbrev Renaming : Type 0
Renaming = List (List ℕ × List ℕ)

-- by what there is of a table
kept : (all : List Renaming) (number : ℕ) (classes w : List ℕ) (table : Option Renaming) → slice_get all number ≡ table → private_name_by all (if is_some (slice_get all number) then number ∷ classes else classes) w ≡ private_name_by all (number ∷ classes) w
kept all number classes w None e = ap (λ t. private_name_by all (if is_some t then number ∷ classes else classes) w) e ∙ sym (ap (λ t. option_or (option_and_then (λ names. name_in names w) t) (private_name_by all classes w)) e)
kept all number classes w (Some names) e = ap (λ t. private_name_by all (if is_some t then number ∷ classes else classes) w) e

by_tables : (tables : Option (List Renaming)) (number : ℕ) (classes w : List ℕ) → unwrap_or (option_and_then (λ all. private_name_by all (if is_some (option_and_then (λ all. slice_get all number) tables) then number ∷ classes else classes) w) tables) w ≡ unwrap_or (option_and_then (λ all. private_name_by all (number ∷ classes) w) tables) w
by_tables None number classes w = refl
by_tables (Some all) number classes w = ap (λ name. unwrap_or name w) (kept all number classes w (slice_get all number) refl)

pub returns : goal.returns
returns c = λ tables number classes w. by_tables tables.private number classes w
