-- The table of operators: spelling and level (ECMA-262, 13.4 to 13.15).
use Rattle.std.specs.Prelude.{ℕ, List, codes}
use Rattle.jsgen_syntax.specs.declared.precedence.Precedence.{Precedence}
use Rattle.jsgen_syntax.specs.declared.precedence.Precedence.TheVariants as levels
use Rattle.jsgen_syntax.specs.declared.operator.BinaryOperator.{BinaryOperator}
use Rattle.jsgen_syntax.specs.declared.operator.BinaryOperator.TheVariants as operators
use Rattle.jsgen_syntax.specs.declared.operator.LogicalOperator.{LogicalOperator}
use Rattle.jsgen_syntax.specs.declared.operator.LogicalOperator.TheVariants as logical
use Rattle.jsgen_syntax.specs.declared.operator.UnaryOperator.{UnaryOperator}
use Rattle.jsgen_syntax.specs.declared.operator.UnaryOperator.TheVariants as unary
use Rattle.jsgen_syntax.specs.declared.operator.UpdateOperator.{UpdateOperator}
use Rattle.jsgen_syntax.specs.declared.operator.UpdateOperator.TheVariants as update
use Rattle.jsgen_syntax.specs.declared.operator.AssignmentOperator.{AssignmentOperator}
use Rattle.jsgen_syntax.specs.declared.operator.AssignmentOperator.TheVariants as assignment

abbrev pub binary_text : BinaryOperator → List ℕ
binary_text operators.Equality = codes "=="
binary_text operators.Inequality = codes "!="
binary_text operators.StrictEquality = codes "==="
binary_text operators.StrictInequality = codes "!=="
binary_text operators.LessThan = codes "<"
binary_text operators.LessEqualThan = codes "<="
binary_text operators.GreaterThan = codes ">"
binary_text operators.GreaterEqualThan = codes ">="
binary_text operators.Addition = codes "+"
binary_text operators.Subtraction = codes "-"
binary_text operators.Multiplication = codes "*"
binary_text operators.Division = codes "/"
binary_text operators.Remainder = codes "%"
binary_text operators.Exponential = codes "**"
binary_text operators.ShiftLeft = codes "<<"
binary_text operators.ShiftRight = codes ">>"
binary_text operators.ShiftRightZeroFill = codes ">>>"
binary_text operators.BitwiseOR = codes "|"
binary_text operators.BitwiseXOR = codes "^"
binary_text operators.BitwiseAnd = codes "&"
binary_text operators.In = codes "in"
binary_text operators.Instanceof = codes "instanceof"

abbrev pub binary_level : BinaryOperator → Precedence
binary_level operators.Equality = levels.Equals
binary_level operators.Inequality = levels.Equals
binary_level operators.StrictEquality = levels.Equals
binary_level operators.StrictInequality = levels.Equals
binary_level operators.LessThan = levels.Compare
binary_level operators.LessEqualThan = levels.Compare
binary_level operators.GreaterThan = levels.Compare
binary_level operators.GreaterEqualThan = levels.Compare
binary_level operators.Addition = levels.Add
binary_level operators.Subtraction = levels.Add
binary_level operators.Multiplication = levels.Multiply
binary_level operators.Division = levels.Multiply
binary_level operators.Remainder = levels.Multiply
binary_level operators.Exponential = levels.Exponentiation
binary_level operators.ShiftLeft = levels.Shift
binary_level operators.ShiftRight = levels.Shift
binary_level operators.ShiftRightZeroFill = levels.Shift
binary_level operators.BitwiseOR = levels.BitwiseOr
binary_level operators.BitwiseXOR = levels.BitwiseXor
binary_level operators.BitwiseAnd = levels.BitwiseAnd
binary_level operators.In = levels.Compare
binary_level operators.Instanceof = levels.Compare

-- the level just below an operator's own
abbrev pub lower_level : BinaryOperator → Precedence
lower_level operators.Equality = levels.BitwiseAnd
lower_level operators.Inequality = levels.BitwiseAnd
lower_level operators.StrictEquality = levels.BitwiseAnd
lower_level operators.StrictInequality = levels.BitwiseAnd
lower_level operators.LessThan = levels.Equals
lower_level operators.LessEqualThan = levels.Equals
lower_level operators.GreaterThan = levels.Equals
lower_level operators.GreaterEqualThan = levels.Equals
lower_level operators.Addition = levels.Shift
lower_level operators.Subtraction = levels.Shift
lower_level operators.Multiplication = levels.Add
lower_level operators.Division = levels.Add
lower_level operators.Remainder = levels.Add
lower_level operators.Exponential = levels.Multiply
lower_level operators.ShiftLeft = levels.Compare
lower_level operators.ShiftRight = levels.Compare
lower_level operators.ShiftRightZeroFill = levels.Compare
lower_level operators.BitwiseOR = levels.LogicalAnd
lower_level operators.BitwiseXOR = levels.BitwiseOr
lower_level operators.BitwiseAnd = levels.BitwiseXor
lower_level operators.In = levels.Equals
lower_level operators.Instanceof = levels.Equals

abbrev pub logical_text : LogicalOperator → List ℕ
logical_text logical.Or = codes "||"
logical_text logical.And = codes "&&"
logical_text logical.Coalesce = codes "??"

abbrev pub logical_level : LogicalOperator → Precedence
logical_level logical.Or = levels.LogicalOr
logical_level logical.And = levels.LogicalAnd
logical_level logical.Coalesce = levels.NullishCoalescing

-- the level just below an operator's own
abbrev pub logical_lower_level : LogicalOperator → Precedence
logical_lower_level logical.Or = levels.NullishCoalescing
logical_lower_level logical.And = levels.LogicalOr
logical_lower_level logical.Coalesce = levels.Conditional

-- ---- before an operand, and behind it

abbrev pub unary_text : UnaryOperator → List ℕ
unary_text unary.UnaryPlus = codes "+"
unary_text unary.UnaryNegation = codes "-"
unary_text unary.LogicalNot = codes "!"
unary_text unary.BitwiseNot = codes "~"
unary_text unary.Typeof = codes "typeof"
unary_text unary.Void = codes "void"
unary_text unary.Delete = codes "delete"

abbrev pub unary_level : UnaryOperator → Precedence
unary_level o = levels.Prefix

-- the level of an update depends on the side of its operator
abbrev pub update_text : UpdateOperator → List ℕ
update_text update.Increment = codes "++"
update_text update.Decrement = codes "--"

-- ---- between a target and what it is given

abbrev pub assignment_text : AssignmentOperator → List ℕ
assignment_text assignment.Assign = codes "="
assignment_text assignment.Addition = codes "+="
assignment_text assignment.Subtraction = codes "-="
assignment_text assignment.Multiplication = codes "*="
assignment_text assignment.Division = codes "/="
assignment_text assignment.Remainder = codes "%="
assignment_text assignment.Exponential = codes "**="
assignment_text assignment.ShiftLeft = codes "<<="
assignment_text assignment.ShiftRight = codes ">>="
assignment_text assignment.ShiftRightZeroFill = codes ">>>="
assignment_text assignment.BitwiseOR = codes "|="
assignment_text assignment.BitwiseXOR = codes "^="
assignment_text assignment.BitwiseAnd = codes "&="
assignment_text assignment.LogicalOr = codes "||="
assignment_text assignment.LogicalAnd = codes "&&="
assignment_text assignment.LogicalNullish = codes "??="

abbrev pub assignment_level : AssignmentOperator → Precedence
assignment_level o = levels.Assign
