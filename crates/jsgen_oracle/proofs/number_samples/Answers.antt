use Rattle.std.proofs.Common.{refl}
use Rattle.jsgen_model.specs.Numbers.{spells_number, is_raw_number, is_big_integer}
use Rattle.jsgen_oracle.proofs.number_samples.Goals as goal

pub returns : goal.returns
unfolding spells_number is_raw_number is_big_integer
returns c = record { integers = refl; fractions = refl; exponents = refl; other_bases = refl; big_integers = refl; no_digits = refl; leading_zeros = refl; separators = refl; no_exponents = refl; no_big_integers = refl; no_digits_of_a_base = refl; more_than_a_number = refl; raw = refl; not_raw = refl; values = refl; no_values = refl; dots_apart = refl; dots_taken = refl }
