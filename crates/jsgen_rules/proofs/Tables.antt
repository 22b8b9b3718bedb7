-- A class's table of private names, by the order of its names and one after the other.
use Rattle.std.proofs.Common.{◌≡◌, ℕ, Bool, true, false, List, [], ◌∷◌, map, Some, option_map, cond, if◌then◌else◌, String, string_bytes, bytes_eq, refl}
use Rattle.std.specs.declared.alloc.Global.{Global}
use Rattle.std.specs.BTreeMap.{is_at}
use Rattle.std.specs.Cmp.Lexicographic.{slice_cmp}
use Rattle.std.specs.Map.{lookup}
use Rattle.std.specs.Ordering.{nat_cmp}
use Rattle.std.specs.Str.{chars, IsUtf8}
use Rattle.std.proofs.lemmas.Map.Text.{is_eq-slice_cmp}
use Rattle.std.proofs.lemmas.Str.{IsUtf8-string_bytes}
use Rattle.jsgen_tree.specs.Characters.{characters}
use Rattle.jsgen_tree.proofs.Texts.{same_characters}
use Rattle.jsgen_model.specs.Private.{name_in}

pub looked_up : (bs : List ℕ) → IsUtf8 bs → (es : List (String Global × String Global)) → option_map characters (lookup (is_at (λ k. slice_cmp nat_cmp bs (string_bytes k))) es) ≡ name_in (map (λ e. (characters e.0, characters e.1)) es) (chars bs)
looked_up bs u [] = refl
looked_up bs u (e ∷ es) = rw (is_eq-slice_cmp bs (string_bytes e.0), same_characters bs (string_bytes e.0) u (IsUtf8-string_bytes e.0)) (by (looked_up bs u es) (bytes_eq bs (string_bytes e.0)))
  where
    by : option_map characters (lookup (is_at (λ k. slice_cmp nat_cmp bs (string_bytes k))) es) ≡ name_in (map (λ e. (characters e.0, characters e.1)) es) (chars bs) → (b : Bool) → option_map characters (cond b (Some e.1) (lookup (is_at (λ k. slice_cmp nat_cmp bs (string_bytes k))) es)) ≡ (if b then Some (characters e.1) else name_in (map (λ e. (characters e.0, characters e.1)) es) (chars bs))
    by rest true = refl
    by rest false = rest
