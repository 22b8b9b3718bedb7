-- What a number in a tree is.
-- the kind of a number's value: a whole number by its digits, or a number by its text
pub data NumericKind : Type 0 where
  Whole : NumericKind
  Raw : NumericKind
