-- The machine's kinds and states as those of jsgen_model.
use Rattle.jsgen_model.proofs.NumberKinds.{Kind, nought, one, to_seven, to_nine, letter_b, letter_e, letter_of_hex, small_n, letter_o, letter_x, underscore, full_stop, plus_or_minus, other}
use Rattle.jsgen_model.proofs.NumberStates.{Radix, two, eight, sixteen, State, start, zero, integer, integer_due, dotted, fraction, fraction_due, exponent_mark, exponent, exponent_due, digits, digits_due, suffixed, dead}
use Rattle.jsgen_numbers.specs.declared.kind.Kind.{Kind as DeclaredKind}
use Rattle.jsgen_numbers.specs.declared.kind.Kind.TheVariants as kinds
use Rattle.jsgen_numbers.specs.declared.number.Radix.{Radix as DeclaredRadix}
use Rattle.jsgen_numbers.specs.declared.number.Radix.TheVariants as radixes
use Rattle.jsgen_numbers.specs.declared.number.Number.{Number}
use Rattle.jsgen_numbers.specs.declared.number.Number.TheVariants as numbers

abbrev pub kind_plain : DeclaredKind → Kind
kind_plain kinds.Nought = nought
kind_plain kinds.One = one
kind_plain kinds.ToSeven = to_seven
kind_plain kinds.ToNine = to_nine
kind_plain kinds.LetterB = letter_b
kind_plain kinds.LetterE = letter_e
kind_plain kinds.LetterOfHex = letter_of_hex
kind_plain kinds.SmallN = small_n
kind_plain kinds.LetterO = letter_o
kind_plain kinds.LetterX = letter_x
kind_plain kinds.Underscore = underscore
kind_plain kinds.FullStop = full_stop
kind_plain kinds.PlusOrMinus = plus_or_minus
kind_plain kinds.Other = other

abbrev pub radix_plain : DeclaredRadix → Radix
radix_plain radixes.Two = two
radix_plain radixes.Eight = eight
radix_plain radixes.Sixteen = sixteen

abbrev pub number_plain : Number → State
number_plain numbers.Start = start
number_plain numbers.Zero = zero
number_plain numbers.Integer = integer
number_plain numbers.IntegerDue = integer_due
number_plain numbers.Dotted = dotted
number_plain numbers.Fraction = fraction
number_plain numbers.FractionDue = fraction_due
number_plain numbers.ExponentMark = exponent_mark
number_plain numbers.Exponent = exponent
number_plain numbers.ExponentDue = exponent_due
number_plain (numbers.Digits r) = digits (radix_plain r)
number_plain (numbers.DigitsDue r) = digits_due (radix_plain r)
number_plain numbers.Suffixed = suffixed
number_plain numbers.Dead = dead
