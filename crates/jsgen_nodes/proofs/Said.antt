-- References that are printed as a name is written.
use Rattle.std.proofs.Common.{◌≡◌, ℕ, List, Option, Some, None, refl, ap}
use Rattle.jsgen_tree.specs.Job.{Tables}
use Rattle.jsgen_tree.specs.Characters.{characters, number_if_given}
use Rattle.jsgen_tree.specs.Values.{as_number_if_given}
use Rattle.jsgen_tree.specs.Inside.{looked_up_in}
use Rattle.jsgen_tree.specs.Rows.{identifier_reference_row}
use Rattle.jsgen_tree.specs.Named.{looked_up, as_written}
use Rattle.jsgen_tree.specs.declared.expressions.IdentifierReference.{IdentifierReference}
use Rattle.jsgen_model.specs.Layout.{are_printed_alike}
use Rattle.jsgen_model.specs.Items.{name}
use Rattle.jsgen_model.specs.Spell.{spell}
use Rattle.jsgen_place.specs.declared.place.Place.{Place}
use Rattle.jsgen_nodes.specs.Keys.{is_said}

pub number_given : (r : Option ℕ) → as_number_if_given (number_if_given r) ≡ r
number_given None = refl
number_given (Some n) = refl

pub reference_said : (tables : Tables) (n : IdentifierReference) (w : List ℕ) → is_said tables (looked_up_in (identifier_reference_row n)) w ≡ are_printed_alike tables (looked_up n.reference (characters n.name)) (as_written w)
reference_said tables n w = ap (λ r. are_printed_alike tables (looked_up r (characters n.name)) (as_written w)) (number_given n.reference)

-- a reference is spelled by its name, whatever its place is
pub reference_alone : (n : IdentifierReference) (place : Place) → spell (identifier_reference_row n) place ≡ name n.span (looked_up n.reference (characters n.name))
reference_alone n place = ap (λ r. name n.span (looked_up r (characters n.name))) (number_given n.reference)
