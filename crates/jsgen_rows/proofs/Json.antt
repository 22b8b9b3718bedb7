-- The bytes of a job as JSON.
use Rattle.std.proofs.Common.{◌≡◌, ℕ, List, Bool, true, false, Option, Some, None, Result, Ok, Err, refl, ap, ◌∙◌, if◌then◌else◌}
use Rattle.std.specs.Prelude.{IsUtf8}
use Rattle.std.specs.Str.{is_utf8}
use Rattle.std.proofs.lemmas.Str.{IsUtf8-from_is_utf8, is_utf8-from_IsUtf8}
use Rattle.serde_json.specs.Data.{Data}
use Rattle.serde_json.specs.Read.{read}
use Rattle.jsgen_fields.specs.declared.InputFault.{InputFault}
use Rattle.jsgen_fields.specs.declared.InputFault.TheVariants.{Json}
use Rattle.jsgen_fields.specs.Values.{or_fault}
use Rattle.jsgen_rows.specs.Job.{json_of}

chosen : (b : Bool) (r s : Result Data InputFault) → b ≡ true → (if b then r else s) ≡ r
chosen true r s e = refl
chosen false r s e = cc

pub json_read : (bytes : List ℕ) (d : Data) → IsUtf8 bytes → read bytes ≡ Some d → json_of bytes ≡ Ok d
json_read bytes d u e = chosen (is_utf8 bytes) (or_fault Json (read bytes)) (Err Json) (is_utf8-from_IsUtf8 bytes u) ∙ ap (or_fault Json) e

by_test : (b : Bool) (o : Option Data) → (b ≡ true → o ≡ None) → (if b then or_fault Json o else Err Json) ≡ Err Json
by_test true o h = ap (or_fault Json) (h refl)
by_test false o h = refl

pub json_refused : (bytes : List ℕ) → (IsUtf8 bytes → read bytes ≡ None) → json_of bytes ≡ Err Json
json_refused bytes h = by_test (is_utf8 bytes) (read bytes) (λ e. h (IsUtf8-from_is_utf8 bytes e))
