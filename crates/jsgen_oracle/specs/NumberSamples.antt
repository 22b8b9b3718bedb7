-- Texts that spell a number in strict code and texts that don't (ECMA-262, 12.9.3), worked out by hand.
use Rattle.std.specs.Prelude.{◌≡◌, ℕ, List, [], ◌∷◌, Bool, true, false, codes}
use Rattle.std.specs.List.{list_all, list_any}
use Rattle.jsgen_model.specs.Numbers.{spells_number, takes_no_dot, is_raw_number, is_big_integer}

abbrev pub are_numbers : List (List ℕ) → Bool
are_numbers texts = list_all spells_number texts

abbrev pub has_number : List (List ℕ) → Bool
has_number texts = list_any spells_number texts

pub record NumberSamples : Type 0 where
  pub integers : are_numbers (codes "0" ∷ codes "12" ∷ codes "1_000" ∷ []) ≡ true
  pub fractions : are_numbers (codes "1." ∷ codes ".5" ∷ codes "1.5" ∷ codes "0.0" ∷ codes ".0_1" ∷ []) ≡ true
  pub exponents : are_numbers (codes "1e5" ∷ codes "1E-5" ∷ codes "0e+0" ∷ codes "1.e1" ∷ codes ".5e1" ∷ codes "1_0.0_1e+1_0" ∷ []) ≡ true
  pub other_bases : are_numbers (codes "0x1F" ∷ codes "0XfF" ∷ codes "0b01" ∷ codes "0B1_0" ∷ codes "0o17" ∷ codes "0O7" ∷ codes "0xe_1" ∷ []) ≡ true
  pub big_integers : are_numbers (codes "0n" ∷ codes "12n" ∷ codes "1_0n" ∷ codes "0xFn" ∷ codes "0b1n" ∷ codes "0o7n" ∷ []) ≡ true
  pub no_digits : has_number (codes "" ∷ codes "." ∷ codes "_" ∷ codes "n" ∷ codes "e5" ∷ codes ".e5" ∷ []) ≡ false
  -- strict code has no legacy octals
  pub leading_zeros : has_number (codes "01" ∷ codes "00" ∷ codes "08" ∷ codes "01n" ∷ codes "01.5" ∷ codes "00.5" ∷ []) ≡ false
  -- a separator stands between two digits alone, and not behind a leading zero
  pub separators : has_number (codes "1__0" ∷ codes "_1" ∷ codes "1_" ∷ codes "1_.5" ∷ codes "1._5" ∷ codes "0_1" ∷ codes "1_e5" ∷ codes "1e_5" ∷ codes "1_n" ∷ codes "0x_1" ∷ codes "0_x1" ∷ []) ≡ false
  pub no_exponents : has_number (codes "1e" ∷ codes "1e+" ∷ codes "1e+-1" ∷ codes "1e1.5" ∷ codes "1e1e1" ∷ codes "1+1" ∷ []) ≡ false
  pub no_big_integers : has_number (codes "1.5n" ∷ codes "1.n" ∷ codes "1e5n" ∷ codes "12nn" ∷ codes "0xn" ∷ []) ≡ false
  pub no_digits_of_a_base : has_number (codes "0x" ∷ codes "0b2" ∷ codes "0o8" ∷ codes "0xg" ∷ codes "1x1" ∷ codes "00x1" ∷ codes "0x1.5" ∷ codes "0b1e1" ∷ []) ≡ false
  pub more_than_a_number : has_number (codes "1.2.3" ∷ codes "1 " ∷ codes "1 2" ∷ codes "-1" ∷ []) ≡ false
  -- the texts of numbers in a tree
  pub raw : list_all is_raw_number (codes "0" ∷ codes "12" ∷ codes "1.5" ∷ codes "1_000.5e-7" ∷ codes "0.0" ∷ codes "1.e1" ∷ codes "0xFF" ∷ codes "0B1_0" ∷ []) ≡ true
  pub not_raw : list_any is_raw_number (codes "" ∷ codes ".5" ∷ codes "1." ∷ codes "1n" ∷ codes "0x1n" ∷ codes "01" ∷ codes "1_" ∷ codes "1e" ∷ codes "-1" ∷ []) ≡ false
  pub values : list_all is_big_integer (codes "0" ∷ codes "12" ∷ codes "-12" ∷ codes "-0" ∷ []) ≡ true
  pub no_values : list_any is_big_integer (codes "" ∷ codes "-" ∷ codes "01" ∷ codes "-01" ∷ codes "1_0" ∷ codes "1n" ∷ codes "--1" ∷ codes "+1" ∷ codes "1." ∷ codes "0x1" ∷ []) ≡ false
  -- a dot behind them is no part of them, or it is
  pub dots_apart : list_all takes_no_dot (codes "1.5" ∷ codes "1e5" ∷ codes "1E5" ∷ codes "0x1" ∷ codes "0X1" ∷ codes "0o1" ∷ codes "0O1" ∷ codes "0b1" ∷ codes "0B1" ∷ []) ≡ true
  pub dots_taken : list_any takes_no_dot (codes "0" ∷ codes "12" ∷ codes "1_0" ∷ []) ≡ false
