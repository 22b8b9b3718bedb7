-- Regular expressions behind what the code ends in.
use Rattle.std.proofs.Common.{◌≡◌, ℕ, ◌-◌, ◌≤◌, Bool, false, ◌==◌, Option, Some, None, List, [], ◌∷◌, ◌++◌, length, refl, append_assoc, arith}
use Rattle.std.specs.List.{slice_get}
use Rattle.std.specs.Option.{option_map, option_map_or}
use Rattle.std.specs.Str.{chars, IsUtf8}
use Rattle.std.proofs.lemmas.Bool.Decides.{nat_tests}
use Rattle.jsgen_syntax.proofs.Last.{last_passes}
use Rattle.jsgen_syntax.specs.Raw.{pattern_text}
use Rattle.jsgen_model.specs.Layout.{space_if, is_barred_before, joins_pattern, regular_expression_text}

-- a test of the last character, where there is one
pub map_or : (f : ℕ → Bool) (o p : Option ℕ) → option_map f o ≡ option_map f p → option_map_or f o false ≡ option_map_or f p false
map_or f None None h = refl
map_or f (Some x) (Some y) h = cc
map_or f None (Some y) h = cc
map_or f (Some x) None h = cc

-- no sign of ASCII is past ASCII
pub no_sign : (c d : ℕ) → 128 ≤ c → d ≤ 127 → (c == d) ≡ false
no_sign c d h k = grind (arith, nat_tests)

none_past_ascii : (pattern : List ℕ) (c : ℕ) → 128 ≤ c → is_barred_before pattern c ≡ false
none_past_ascii pattern c h = rw (no_sign c 47 h (omega arith), no_sign c 60 h (omega arith)) refl

-- the last byte tells whether a pattern would join the characters
pub joins_by_byte : (pattern bs : List ℕ) → IsUtf8 bs → option_map_or (is_barred_before pattern) (slice_get bs (length bs - 1)) false ≡ joins_pattern (chars bs) pattern
joins_by_byte pattern bs u = map_or (is_barred_before pattern) _ _ (last_passes (is_barred_before pattern) false (none_past_ascii pattern) bs u)

-- a pattern between its slashes
pub between_slashes : (test ascii : Bool) (pattern flags slash : List ℕ) → slash ≡ 47 ∷ [] → (space_if test ++ slash) ++ (pattern_text ascii pattern ++ (slash ++ flags)) ≡ space_if test ++ regular_expression_text ascii pattern flags
between_slashes test ascii pattern flags slash e = rw e (append_assoc (space_if test) (47 ∷ []) (pattern_text ascii pattern ++ (47 ∷ flags)))
