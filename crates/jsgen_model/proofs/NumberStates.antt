-- A machine that takes the characters of a number one by one, and accepts what spells one.
use Rattle.std.specs.Prelude.{ℕ, Bool, true, false, List, [], ◌∷◌}
use Rattle.jsgen_model.proofs.NumberKinds.{Kind, nought, one, to_nine, letter_b, letter_e, letter_of_hex, small_n, letter_o, letter_x, underscore, full_stop, plus_or_minus, kind, is_decimal}

-- ---- states

pub data Radix : Type 0 where
  two : Radix
  eight : Radix
  sixteen : Radix

-- what was taken so far. `.._due` asks for a digit: one has to follow
pub data State : Type 0 where
  start : State
  -- `0`
  zero : State
  -- digits of an integer; and a separator behind them
  integer : State
  integer_due : State
  -- an integer and a dot
  dotted : State
  -- digits behind the dot; a separator behind these, or a dot that begins the number
  fraction : State
  fraction_due : State
  exponent_mark : State
  -- digits of an exponent; a separator behind these, or a sign before them
  exponent : State
  exponent_due : State
  -- digits behind a prefix; a separator behind these, or a prefix
  digits : Radix → State
  digits_due : Radix → State
  suffixed : State
  -- no number begins so
  dead : State

abbrev pub accepts : State → Bool
accepts zero = true
accepts integer = true
accepts dotted = true
accepts fraction = true
accepts exponent = true
accepts (digits r) = true
accepts suffixed = true
accepts s = false

-- a number that ends neither in a dot nor in a suffix
abbrev pub is_raw : State → Bool
is_raw zero = true
is_raw integer = true
is_raw fraction = true
is_raw exponent = true
is_raw (digits r) = true
is_raw s = false

abbrev pub is_dead : State → Bool
is_dead dead = true
is_dead s = false

abbrev pub is_hexadecimal : Kind → Bool
is_hexadecimal letter_b = true
is_hexadecimal letter_e = true
is_hexadecimal letter_of_hex = true
is_hexadecimal k = is_decimal k

abbrev pub is_digit_of : Radix → Kind → Bool
is_digit_of two nought = true
is_digit_of two one = true
is_digit_of two k = false
is_digit_of eight to_nine = false
is_digit_of eight k = is_decimal k
is_digit_of sixteen k = is_hexadecimal k

-- a digit, behind which this state is
abbrev pub if_digit : Bool → State → State
if_digit true s = s
if_digit false s = dead

abbrev pub behind_start : Kind → State
behind_start nought = zero
behind_start full_stop = fraction_due
behind_start k = if_digit (is_decimal k) integer

abbrev pub behind_zero : Kind → State
behind_zero full_stop = dotted
behind_zero letter_e = exponent_mark
behind_zero small_n = suffixed
behind_zero letter_b = digits_due two
behind_zero letter_o = digits_due eight
behind_zero letter_x = digits_due sixteen
behind_zero k = dead

abbrev pub behind_integer : Kind → State
behind_integer underscore = integer_due
behind_integer full_stop = dotted
behind_integer letter_e = exponent_mark
behind_integer small_n = suffixed
behind_integer k = if_digit (is_decimal k) integer

abbrev pub behind_dotted : Kind → State
behind_dotted letter_e = exponent_mark
behind_dotted k = if_digit (is_decimal k) fraction

abbrev pub behind_fraction : Kind → State
behind_fraction underscore = fraction_due
behind_fraction letter_e = exponent_mark
behind_fraction k = if_digit (is_decimal k) fraction

abbrev pub behind_mark : Kind → State
behind_mark plus_or_minus = exponent_due
behind_mark k = if_digit (is_decimal k) exponent

abbrev pub behind_exponent : Kind → State
behind_exponent underscore = exponent_due
behind_exponent k = if_digit (is_decimal k) exponent

abbrev pub behind_digits : Radix → Kind → State
behind_digits r underscore = digits_due r
behind_digits r small_n = suffixed
behind_digits r k = if_digit (is_digit_of r k) (digits r)

abbrev pub step : State → Kind → State
step start k = behind_start k
step zero k = behind_zero k
step integer k = behind_integer k
step integer_due k = if_digit (is_decimal k) integer
step dotted k = behind_dotted k
step fraction k = behind_fraction k
step fraction_due k = if_digit (is_decimal k) fraction
step exponent_mark k = behind_mark k
step exponent k = behind_exponent k
step exponent_due k = if_digit (is_decimal k) exponent
step (digits r) k = behind_digits r k
step (digits_due r) k = if_digit (is_digit_of r k) (digits r)
step suffixed k = dead
step dead k = dead

abbrev pub run : State → List ℕ → State
run s [] = s
run s (c ∷ cs) = run (step s (kind c)) cs
