-- How operators are spelled.
use Rattle.std.specs.Prelude.{codes}
use Rattle.jsgen_syntax.specs.declared.operator.BinaryOperator.{BinaryOperator}
use Rattle.jsgen_syntax.specs.declared.operator.BinaryOperator.TheVariants as operators
use Rattle.jsgen_syntax.specs.declared.operator.LogicalOperator.{LogicalOperator}
use Rattle.jsgen_syntax.specs.declared.operator.LogicalOperator.TheVariants as logical_operators
use Rattle.jsgen_syntax.specs.declared.operator.UnaryOperator.{UnaryOperator}
use Rattle.jsgen_syntax.specs.declared.operator.UnaryOperator.TheVariants as unary_operators
use Rattle.jsgen_syntax.specs.declared.operator.UpdateOperator.{UpdateOperator}
use Rattle.jsgen_syntax.specs.declared.operator.UpdateOperator.TheVariants as update_operators
use Rattle.jsgen_syntax.specs.declared.operator.AssignmentOperator.{AssignmentOperator}
use Rattle.jsgen_syntax.specs.declared.operator.AssignmentOperator.TheVariants as assignment_operators
use Rattle.jsgen_model.specs.Punctuator.{equal, plus, minus, star, slash, percent, star_star, equal_equal, not_equal, equal_equal_equal, not_equal_equal, less, less_equal, greater, greater_equal, shift_left, shift_right, shift_right_zero, bit_and, bit_or, bit_xor, and_and, or_or, nullish, bang, tilde, plus_plus, minus_minus, plus_equal, minus_equal, star_equal, slash_equal, percent_equal, star_star_equal, shift_left_equal, shift_right_equal, shift_right_zero_equal, bit_or_equal, bit_xor_equal, bit_and_equal, or_or_equal, and_and_equal, nullish_equal}
use Rattle.jsgen_syntax.specs.declared.span.Span.{Span}
use Rattle.jsgen_model.specs.Items.{Items, ◌⊕◌, nothing, word, punctuator, operator, soft_space, mark, marked_word, marked_operator}

-- a word operator stands apart from words; a sign stands apart from a sign that it would join
abbrev pub operator_item : BinaryOperator → Items
operator_item operators.In = word (codes "in")
operator_item operators.Instanceof = word (codes "instanceof")
operator_item operators.Equality = operator equal_equal
operator_item operators.Inequality = operator not_equal
operator_item operators.StrictEquality = operator equal_equal_equal
operator_item operators.StrictInequality = operator not_equal_equal
operator_item operators.LessThan = operator less
operator_item operators.LessEqualThan = operator less_equal
operator_item operators.GreaterThan = operator greater
operator_item operators.GreaterEqualThan = operator greater_equal
operator_item operators.Addition = operator plus
operator_item operators.Subtraction = operator minus
operator_item operators.Multiplication = operator star
operator_item operators.Division = operator slash
operator_item operators.Remainder = operator percent
operator_item operators.Exponential = operator star_star
operator_item operators.ShiftLeft = operator shift_left
operator_item operators.ShiftRight = operator shift_right
operator_item operators.ShiftRightZeroFill = operator shift_right_zero
operator_item operators.BitwiseOR = operator bit_or
operator_item operators.BitwiseXOR = operator bit_xor
operator_item operators.BitwiseAnd = operator bit_and

-- a logical sign joins no sign before it
abbrev pub logical_item : LogicalOperator → Items
logical_item logical_operators.Or = punctuator or_or
logical_item logical_operators.And = punctuator and_and
logical_item logical_operators.Coalesce = punctuator nullish

-- an operator before its operand: a word or a sign, as between two operands
abbrev pub unary_sign : UnaryOperator → Items
unary_sign unary_operators.UnaryPlus = operator plus
unary_sign unary_operators.UnaryNegation = operator minus
unary_sign unary_operators.LogicalNot = operator bang
unary_sign unary_operators.BitwiseNot = operator tilde
unary_sign unary_operators.Typeof = word (codes "typeof")
unary_sign unary_operators.Void = word (codes "void")
unary_sign unary_operators.Delete = word (codes "delete")

-- an operator with the mark of the span that it begins, behind the space before it
abbrev pub marked : Span → Items → Items
marked s (word w) = marked_word s w
marked s (operator p) = marked_operator s p
marked s items = mark s ⊕ items

-- what stands between it and the operand
abbrev pub behind_unary : UnaryOperator → Items
behind_unary unary_operators.Typeof = soft_space
behind_unary unary_operators.Void = soft_space
behind_unary unary_operators.Delete = soft_space
behind_unary o = nothing

abbrev pub update_item : UpdateOperator → Items
update_item update_operators.Increment = operator plus_plus
update_item update_operators.Decrement = operator minus_minus

-- the sign of an assignment joins no sign before it
abbrev pub assignment_item : AssignmentOperator → Items
assignment_item assignment_operators.Assign = punctuator equal
assignment_item assignment_operators.Addition = punctuator plus_equal
assignment_item assignment_operators.Subtraction = punctuator minus_equal
assignment_item assignment_operators.Multiplication = punctuator star_equal
assignment_item assignment_operators.Division = punctuator slash_equal
assignment_item assignment_operators.Remainder = punctuator percent_equal
assignment_item assignment_operators.Exponential = punctuator star_star_equal
assignment_item assignment_operators.ShiftLeft = punctuator shift_left_equal
assignment_item assignment_operators.ShiftRight = punctuator shift_right_equal
assignment_item assignment_operators.ShiftRightZeroFill = punctuator shift_right_zero_equal
assignment_item assignment_operators.BitwiseOR = punctuator bit_or_equal
assignment_item assignment_operators.BitwiseXOR = punctuator bit_xor_equal
assignment_item assignment_operators.BitwiseAnd = punctuator bit_and_equal
assignment_item assignment_operators.LogicalOr = punctuator or_or_equal
assignment_item assignment_operators.LogicalAnd = punctuator and_and_equal
assignment_item assignment_operators.LogicalNullish = punctuator nullish_equal
