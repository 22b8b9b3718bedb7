-- The levels of expressions, by the productions of ECMA-262, clause 13, from the loosest to the tightest.
use Rattle.std.specs.Prelude.{◌≡◌, ◌⊎◌, ℕ, ◌≤◌, Bool, true, false}
use Rattle.jsgen_syntax.specs.declared.precedence.Precedence.{Precedence}
use Rattle.jsgen_syntax.specs.declared.precedence.Precedence.TheVariants as levels

abbrev pub rank : Precedence → ℕ
rank levels.Lowest = 0
rank levels.Comma = 1
rank levels.Spread = 2
rank levels.Yield = 3
rank levels.Assign = 4
rank levels.Conditional = 5
rank levels.NullishCoalescing = 6
rank levels.LogicalOr = 7
rank levels.LogicalAnd = 8
rank levels.BitwiseOr = 9
rank levels.BitwiseXor = 10
rank levels.BitwiseAnd = 11
rank levels.Equals = 12
rank levels.Compare = 13
rank levels.Shift = 14
rank levels.Add = 15
rank levels.Multiply = 16
rank levels.Exponentiation = 17
rank levels.Prefix = 18
rank levels.Postfix = 19
rank levels.New = 20
rank levels.Call = 21
rank levels.Member = 22

-- the levels whose operators group from the right
abbrev pub is_right_associative : Precedence → Bool
is_right_associative levels.Assign = true
is_right_associative levels.Conditional = true
is_right_associative levels.Exponentiation = true
is_right_associative level = false

-- the other levels of binary and logical operators group from the left
abbrev pub is_left_associative : Precedence → Bool
is_left_associative levels.NullishCoalescing = true
is_left_associative levels.LogicalOr = true
is_left_associative levels.LogicalAnd = true
is_left_associative levels.BitwiseOr = true
is_left_associative levels.BitwiseXor = true
is_left_associative levels.BitwiseAnd = true
is_left_associative levels.Equals = true
is_left_associative levels.Compare = true
is_left_associative levels.Shift = true
is_left_associative levels.Add = true
is_left_associative levels.Multiply = true
is_left_associative level = false

-- a total order that agrees with equality
pub record LevelsAreOrdered : Type 0 where
  pub total : (a b : Precedence) → (rank a ≤ rank b) ⊎ (rank b ≤ rank a)
  pub transitive : (a b c : Precedence) → rank a ≤ rank b → rank b ≤ rank c → rank a ≤ rank c
  pub equal : (a b : Precedence) → rank a ≤ rank b → rank b ≤ rank a → a ≡ b
