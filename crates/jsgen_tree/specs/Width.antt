-- How wide the numbers of a tree are.
use Rattle.std.specs.Prelude.{◌^◌, Bool, true, nat_lt}
use Rattle.jsgen_tree.specs.declared.numbers.NumericValue.{NumericValue}
use Rattle.jsgen_tree.specs.declared.numbers.NumericValue.TheVariants as numeric

-- the digits of a whole number are a number of 128 bits
abbrev pub is_wide : NumericValue → Bool
is_wide (numeric.Whole negative n) = nat_lt n (2 ^ 128)
is_wide (numeric.Raw w) = true
