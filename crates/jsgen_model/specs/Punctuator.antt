-- Punctuators and brackets (ECMA-262, 12.8).
use Rattle.std.specs.Prelude.{ℕ, List, codes}

pub data Punctuator : Type 0 where
  dot ellipsis semicolon comma colon question question_dot arrow : Punctuator
  less greater less_equal greater_equal equal_equal not_equal equal_equal_equal not_equal_equal : Punctuator
  plus minus star slash percent star_star plus_plus minus_minus : Punctuator
  shift_left shift_right shift_right_zero bit_and bit_or bit_xor bang tilde : Punctuator
  and_and or_or nullish : Punctuator
  equal plus_equal minus_equal star_equal slash_equal percent_equal star_star_equal : Punctuator
  shift_left_equal shift_right_equal shift_right_zero_equal bit_and_equal bit_or_equal bit_xor_equal : Punctuator
  and_and_equal or_or_equal nullish_equal : Punctuator

abbrev pub punctuator_text : Punctuator → List ℕ
punctuator_text dot = codes "."
punctuator_text ellipsis = codes "..."
punctuator_text semicolon = codes ";"
punctuator_text comma = codes ","
punctuator_text colon = codes ":"
punctuator_text question = codes "?"
punctuator_text question_dot = codes "?."
punctuator_text arrow = codes "=>"
punctuator_text less = codes "<"
punctuator_text greater = codes ">"
punctuator_text less_equal = codes "<="
punctuator_text greater_equal = codes ">="
punctuator_text equal_equal = codes "=="
punctuator_text not_equal = codes "!="
punctuator_text equal_equal_equal = codes "==="
punctuator_text not_equal_equal = codes "!=="
punctuator_text plus = codes "+"
punctuator_text minus = codes "-"
punctuator_text star = codes "*"
punctuator_text slash = codes "/"
punctuator_text percent = codes "%"
punctuator_text star_star = codes "**"
punctuator_text plus_plus = codes "++"
punctuator_text minus_minus = codes "--"
punctuator_text shift_left = codes "<<"
punctuator_text shift_right = codes ">>"
punctuator_text shift_right_zero = codes ">>>"
punctuator_text bit_and = codes "&"
punctuator_text bit_or = codes "|"
punctuator_text bit_xor = codes "^"
punctuator_text bang = codes "!"
punctuator_text tilde = codes "~"
punctuator_text and_and = codes "&&"
punctuator_text or_or = codes "||"
punctuator_text nullish = codes "??"
punctuator_text equal = codes "="
punctuator_text plus_equal = codes "+="
punctuator_text minus_equal = codes "-="
punctuator_text star_equal = codes "*="
punctuator_text slash_equal = codes "/="
punctuator_text percent_equal = codes "%="
punctuator_text star_star_equal = codes "**="
punctuator_text shift_left_equal = codes "<<="
punctuator_text shift_right_equal = codes ">>="
punctuator_text shift_right_zero_equal = codes ">>>="
punctuator_text bit_and_equal = codes "&="
punctuator_text bit_or_equal = codes "|="
punctuator_text bit_xor_equal = codes "^="
punctuator_text and_and_equal = codes "&&="
punctuator_text or_or_equal = codes "||="
punctuator_text nullish_equal = codes "??="

pub data Bracket : Type 0 where
  Round Square Brace : Bracket

abbrev pub opening : Bracket → List ℕ
opening Round = codes "("
opening Square = codes "["
opening Brace = codes "{"

abbrev pub closing : Bracket → List ℕ
closing Round = codes ")"
closing Square = codes "]"
closing Brace = codes "}"
