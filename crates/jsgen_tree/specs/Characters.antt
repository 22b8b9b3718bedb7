-- The plain data of texts, and of a field that stands for several of the format.
use Rattle.std.specs.Prelude.{ℕ, List, [], ◌∷◌, false, Option, Some, None, String, string_bytes}
use Rattle.std.specs.Str.{chars}
use Rattle.std.specs.declared.alloc.Global.{Global}
use Rattle.jsgen_syntax.specs.Units.{js_units}
use Rattle.jsgen_syntax.specs.declared.js_str.JsStr.{JsStr}
use Rattle.jsgen_tree.specs.Atom.{Atom, no_value, text, units, digits, number, flag, numeric_kind}
use Rattle.jsgen_tree.specs.Number.{Whole, Raw}
use Rattle.jsgen_tree.specs.declared.numbers.NumericValue.{NumericValue}
use Rattle.jsgen_tree.specs.declared.numbers.NumericValue.TheVariants as numeric

-- the characters of a text
abbrev pub characters : String Global → List ℕ
characters s = chars (string_bytes s)

-- a number that may be absent
abbrev pub number_if_given : Option ℕ → Atom
number_if_given None = no_value
number_if_given (Some n) = number n

-- the value of a string, which may be absent
abbrev pub units_if_given : Option JsStr → Atom
units_if_given None = no_value
units_if_given (Some s) = units (js_units s)

abbrev pub numeric_values : NumericValue → List Atom
numeric_values (numeric.Whole negative n) = numeric_kind Whole ∷ flag negative ∷ digits n ∷ no_value ∷ []
numeric_values (numeric.Raw w) = numeric_kind Raw ∷ flag false ∷ no_value ∷ text (characters w) ∷ []
