-- What names and strings are printed as.
use Rattle.std.proofs.Common.{◌≡◌, ℕ, Bool, true, false, Option, Some, None, is_none, List, sym, ap, refl, ◌∙◌, Decides}
use Rattle.std.specs.Prelude.{option_map, option_and_then, unwrap_or, bytes_eq, IfSome}
use Rattle.std.specs.Str.{chars}
use lib.Utf8.{encodes}
use Rattle.std.proofs.lemmas.Bool.Decides.{same_from_decides}
use Rattle.std.proofs.lemmas.Slice.Eq.{bytes_eq-Decides}
use Rattle.jsgen_syntax.specs.Wtf8.{are_units, joined_units, has_lone, wtf8_units}
use Rattle.jsgen_syntax.proofs.Wtf8.{chars_encodes, wtf8_units_kept}
use Rattle.jsgen_tree.specs.Characters.{number_if_given}
use Rattle.jsgen_tree.specs.Values.{as_number_if_given}
use Rattle.jsgen_tree.specs.Job.{Scoping, Tables}
use Rattle.jsgen_tree.specs.Named.{as_written, name_by, printed_name}
use Rattle.jsgen_model.specs.Spell.{string_named}

pub written_name : (tables : Tables) (w : List ℕ) → w ≡ printed_name tables (as_written w)
written_name tables w = by tables.scoping
  where
    by : (o : Option Scoping) → w ≡ unwrap_or (option_and_then (λ scoping. name_by scoping (as_written w)) o) w
    by None = refl
    by (Some scoping) = refl

-- a string with a text, and one without
some_text : (tables : Tables) (text us : List ℕ) → has_lone us ≡ false → text ≡ encodes (joined_units us) → Some (chars text) ≡ option_map (printed_name tables) (string_named us)
some_text tables text us n e = rw n (ap (λ w. Some w) (ap chars e ∙ (chars_encodes (joined_units us) ∙ written_name tables (joined_units us))))

no_text : (tables : Tables) (us : List ℕ) → has_lone us ≡ true → None ≡ option_map (printed_name tables) (string_named us)
no_text tables us n = rw n refl

pub string_printed : {S : Type 0} (read : S → List ℕ) (tables : Tables) (o : Option S) (us : List ℕ) → is_none o ≡ has_lone us → IfSome o (λ s. read s ≡ encodes (joined_units us)) → option_map (λ s. chars (read s)) o ≡ option_map (printed_name tables) (string_named us)
string_printed read tables None us n e = no_text tables us (sym n)
string_printed read tables (Some s) us n e = some_text tables (read s) us (sym n) e

-- two strings are the same where their bytes are
pub same_bytes : (r : Bool) (a b us vs : List ℕ) → are_units us ≡ true → are_units vs ≡ true → a ≡ encodes (joined_units us) → b ≡ encodes (joined_units vs) → Decides r (a ≡ b) → r ≡ bytes_eq us vs
same_bytes r a b us vs h k e f d = same_from_decides {P = us ≡ vs} r (bytes_eq us vs) (λ t. back (d.0 t), λ p. d.1 (forth p)) (bytes_eq-Decides us vs)
  where
    back : a ≡ b → us ≡ vs
    back g = sym (wtf8_units_kept us h) ∙ (ap wtf8_units (sym e ∙ (g ∙ f)) ∙ wtf8_units_kept vs k)

    forth : us ≡ vs → a ≡ b
    forth g = e ∙ (ap (λ x. encodes (joined_units x)) g ∙ sym f)

-- a number that is given or not, kept as a value
pub number_given : (r : Option ℕ) → as_number_if_given (number_if_given r) ≡ r
number_given None = refl
number_given (Some n) = refl
