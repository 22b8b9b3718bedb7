-- What the productions of Grammar.antt ask and name: what may stand, the levels of expressions, operators with their tokens, questions about tokens and trees, and trees that are made of parts.
use Rattle.std.specs.Prelude.{ℕ, List, [], ◌∷◌, Bool, true, false, not, ◌&&◌, ◌||◌, Option, Some, None, flat_map, codes, option_map}
use Rattle.std.specs.Option.{option_map_or}
use Rattle.std.specs.Char.Escape.{encode_utf16}
use Rattle.std.specs.Str.{bytes_eq}
use Rattle.jsgen_syntax.specs.Escapes.{word_value}
use Rattle.jsgen_syntax.specs.Strings.{is_backtick, string_value}
use Rattle.jsgen_syntax.specs.declared.quote.Quote.TheVariants as quotes
use Rattle.jsgen_syntax.specs.declared.operator.BinaryOperator.{BinaryOperator}
use Rattle.jsgen_syntax.specs.declared.operator.BinaryOperator.TheVariants as operators
use Rattle.jsgen_syntax.specs.declared.operator.UnaryOperator.{UnaryOperator}
use Rattle.jsgen_syntax.specs.declared.operator.UnaryOperator.TheVariants as unary_operators
use Rattle.jsgen_syntax.specs.declared.operator.UpdateOperator.{UpdateOperator}
use Rattle.jsgen_syntax.specs.declared.operator.UpdateOperator.TheVariants as update_operators
use Rattle.jsgen_syntax.specs.declared.operator.AssignmentOperator.{AssignmentOperator}
use Rattle.jsgen_syntax.specs.declared.operator.AssignmentOperator.TheVariants as assignment_operators
use Rattle.jsgen_tree.specs.declared.statements.VariableDeclarationKind.{VariableDeclarationKind}
use Rattle.jsgen_tree.specs.declared.statements.VariableDeclarationKind.TheVariants.{Const, Let, Var}
use Rattle.jsgen_tree.specs.declared.functions.FunctionKind.{FunctionKind}
use Rattle.jsgen_tree.specs.declared.functions.FunctionKind.TheVariants as kinds
use Rattle.jsgen_tree.specs.declared.classes.ClassKind.{ClassKind}
use Rattle.jsgen_tree.specs.declared.classes.MethodDefinitionKind.{MethodDefinitionKind}
use Rattle.jsgen_tree.specs.declared.classes.MethodDefinitionKind.TheVariants as method_kinds
use Rattle.jsgen_tree.specs.declared.modules.ImportOrExportKind.TheVariants as import_kinds
use Rattle.jsgen_syntax.specs.Name.{is_free_name}
use Rattle.jsgen_tree.specs.Atom.{no_value, units, flag, class_form, kind_of_import, text}
use Rattle.jsgen_model.specs.Numbers.{ends_in}
use Rattle.jsgen_tree.specs.Tree.{Tree, Atoms, Maybe, absent, given, Trees}
use Rattle.jsgen_tree.specs.Places.{bare}
use Rattle.jsgen_tree.specs.Nodes as tree
use Rattle.jsgen_model.specs.Punctuator.{plus, minus, star, slash, percent, star_star, equal_equal, not_equal, equal_equal_equal, not_equal_equal, less, less_equal, greater, greater_equal, shift_left, shift_right, shift_right_zero, bit_and, bit_or, bit_xor, semicolon, equal, Square, Brace, bang, tilde, Punctuator, plus_plus, minus_minus, plus_equal, minus_equal, star_equal, slash_equal, percent_equal, star_star_equal, shift_left_equal, shift_right_equal, shift_right_zero_equal, bit_or_equal, bit_xor_equal, bit_and_equal, or_or_equal, and_and_equal, nullish_equal}
use Rattle.jsgen_tree.specs.declared.collections.PropertyKind.{PropertyKind}
use Rattle.jsgen_tree.specs.declared.collections.PropertyKind.TheVariants.{Init, Get, Set}
use Rattle.jsgen_model.specs.Tokens.{Piece, Tokens, done, piece, group, Word, Quoted, Sign}
use Rattle.jsgen_model.specs.Normal.{nothing_of, named, if_set, function_values, method_values}

-- what may stand: the operator `in`, and the operand or statement of each other word (5.1.5, grammatical parameters)
pub record Allowed : Type 0 where
  pub in_operator : Bool
  pub yield_operand : Bool
  pub await_operand : Bool
  pub return_statement : Bool

-- of a module's statements (16.2)
abbrev pub in_module : Allowed
in_module = record { in_operator = true; yield_operand = false; await_operand = true; return_statement = false }

-- within a group, and in a statement that is no loop's head, `in` may stand
abbrev pub with_in : Allowed → Allowed
with_in allowed = record allowed { in_operator = true }

-- and first in the head of a loop it may not (14.7.4)
abbrev pub without_in : Allowed → Allowed
without_in allowed = record allowed { in_operator = false }

-- among parameters neither `yield` nor `await` is an operator, wherever the function stands (15.2 and 15.3, 15.5.1, 15.6.1, 15.8.1 and 15.9.1)
abbrev pub in_parameters : Allowed
in_parameters = record { in_operator = true; yield_operand = false; await_operand = false; return_statement = false }

-- in the value of a field and in a static block nothing of what surrounds the class may stand (15.7)
abbrev pub in_member : Allowed
in_member = record { in_operator = true; yield_operand = false; await_operand = false; return_statement = false }

-- the body of a function, which may be `async` and a generator: so are `await` and `yield` operators there, wherever it stands, and it may return (15.2, 15.5, 15.6 and 15.8)
abbrev pub in_body : Bool → Bool → Allowed
in_body async generator = record { in_operator = true; yield_operand = generator; await_operand = async; return_statement = true }

-- the body of an arrow function that is an expression (15.3 and 15.9)
abbrev pub in_arrow_body : Bool → Allowed → Allowed
in_arrow_body async allowed = record { in_operator = allowed.in_operator; yield_operand = false; await_operand = async; return_statement = false }

-- the levels of expressions, from the loosest to the tightest. A callee is what arguments may follow: a member or a call (13.3)
pub data Level : Type 0 where
  Expression Assignment Conditional ShortCircuit Coalesced CoalesceHead LogicalOr LogicalAnd BitOr BitXor BitAnd : Level
  Equality Relational Shift Additive Multiplicative Exponent Unary Update LeftHandSide New Callee Call Member Primary : Level

-- ---- operators (13.6 to 13.12)

-- `**` groups from the right, and stands by itself
abbrev pub is_power : BinaryOperator → Bool
is_power operators.Exponential = true
is_power o = false

-- the level of an operation
abbrev pub operation_level : BinaryOperator → Level
operation_level operators.BitwiseOR = BitOr
operation_level operators.BitwiseXOR = BitXor
operation_level operators.BitwiseAnd = BitAnd
operation_level operators.Equality = Equality
operation_level operators.Inequality = Equality
operation_level operators.StrictEquality = Equality
operation_level operators.StrictInequality = Equality
operation_level operators.LessThan = Relational
operation_level operators.LessEqualThan = Relational
operation_level operators.GreaterThan = Relational
operation_level operators.GreaterEqualThan = Relational
operation_level operators.In = Relational
operation_level operators.Instanceof = Relational
operation_level operators.ShiftLeft = Shift
operation_level operators.ShiftRight = Shift
operation_level operators.ShiftRightZeroFill = Shift
operation_level operators.Addition = Additive
operation_level operators.Subtraction = Additive
operation_level operators.Multiplication = Multiplicative
operation_level operators.Division = Multiplicative
operation_level operators.Remainder = Multiplicative
operation_level operators.Exponential = Exponent

-- the level of a right operand
abbrev pub next_level : Level → Level
next_level BitOr = BitXor
next_level BitXor = BitAnd
next_level BitAnd = Equality
next_level Equality = Relational
next_level Relational = Shift
next_level Shift = Additive
next_level Additive = Multiplicative
next_level Multiplicative = Exponent
next_level level = level

-- the token of an operator
abbrev pub operator_piece : BinaryOperator → Piece
operator_piece operators.BitwiseOR = Sign bit_or
operator_piece operators.BitwiseXOR = Sign bit_xor
operator_piece operators.BitwiseAnd = Sign bit_and
operator_piece operators.Equality = Sign equal_equal
operator_piece operators.Inequality = Sign not_equal
operator_piece operators.StrictEquality = Sign equal_equal_equal
operator_piece operators.StrictInequality = Sign not_equal_equal
operator_piece operators.LessThan = Sign less
operator_piece operators.LessEqualThan = Sign less_equal
operator_piece operators.GreaterThan = Sign greater
operator_piece operators.GreaterEqualThan = Sign greater_equal
operator_piece operators.In = Word (codes "in")
operator_piece operators.Instanceof = Word (codes "instanceof")
operator_piece operators.ShiftLeft = Sign shift_left
operator_piece operators.ShiftRight = Sign shift_right
operator_piece operators.ShiftRightZeroFill = Sign shift_right_zero
operator_piece operators.Addition = Sign plus
operator_piece operators.Subtraction = Sign minus
operator_piece operators.Multiplication = Sign star
operator_piece operators.Division = Sign slash
operator_piece operators.Remainder = Sign percent
operator_piece operators.Exponential = Sign star_star

-- the token of an operator before its operand (13.5)
abbrev pub unary_piece : UnaryOperator → Piece
unary_piece unary_operators.Delete = Word (codes "delete")
unary_piece unary_operators.Void = Word (codes "void")
unary_piece unary_operators.Typeof = Word (codes "typeof")
unary_piece unary_operators.UnaryPlus = Sign plus
unary_piece unary_operators.UnaryNegation = Sign minus
unary_piece unary_operators.BitwiseNot = Sign tilde
unary_piece unary_operators.LogicalNot = Sign bang

-- the sign of an update (13.4)
abbrev pub update_sign : UpdateOperator → Punctuator
update_sign update_operators.Increment = plus_plus
update_sign update_operators.Decrement = minus_minus

-- the sign of an assignment (13.15)
abbrev pub assignment_sign : AssignmentOperator → Punctuator
assignment_sign assignment_operators.Assign = equal
assignment_sign assignment_operators.Addition = plus_equal
assignment_sign assignment_operators.Subtraction = minus_equal
assignment_sign assignment_operators.Multiplication = star_equal
assignment_sign assignment_operators.Division = slash_equal
assignment_sign assignment_operators.Remainder = percent_equal
assignment_sign assignment_operators.Exponential = star_star_equal
assignment_sign assignment_operators.ShiftLeft = shift_left_equal
assignment_sign assignment_operators.ShiftRight = shift_right_equal
assignment_sign assignment_operators.ShiftRightZeroFill = shift_right_zero_equal
assignment_sign assignment_operators.BitwiseOR = bit_or_equal
assignment_sign assignment_operators.BitwiseXOR = bit_xor_equal
assignment_sign assignment_operators.BitwiseAnd = bit_and_equal
assignment_sign assignment_operators.LogicalOr = or_or_equal
assignment_sign assignment_operators.LogicalAnd = and_and_equal
assignment_sign assignment_operators.LogicalNullish = nullish_equal

-- `in` stands where it is allowed
abbrev pub may_operate : Allowed → BinaryOperator → Bool
may_operate allowed operators.In = allowed.in_operator
may_operate allowed o = true

-- ---- targets, and the names that they give (13.15)

-- what an expression is as a simple target: a name or a member, maybe in parentheses (8.6.4)
abbrev pub simple_target : Tree → Option Tree
simple_target (tree.identifier_reference a) = Some (tree.identifier_reference a)
simple_target (tree.static_member a object property) = Some (tree.static_member a object property)
simple_target (tree.computed_member a object expression) = Some (tree.computed_member a object expression)
simple_target (tree.private_member a object field) = Some (tree.private_member a object field)
simple_target (tree.parenthesized a expression) = simple_target expression
simple_target t = None

-- an assignment by the operator may give a function its target's name (13.15.2)
abbrev pub may_name : AssignmentOperator → Bool
may_name assignment_operators.Assign = true
may_name assignment_operators.LogicalAnd = true
may_name assignment_operators.LogicalOr = true
may_name assignment_operators.LogicalNullish = true
may_name o = false

-- a name without parentheses (8.4.4, IsIdentifierRef)
abbrev pub is_identifier_reference : Tree → Bool
is_identifier_reference (tree.identifier_reference a) = true
is_identifier_reference t = false

-- a function or a class without a name, maybe in parentheses (8.4.3, IsAnonymousFunctionDefinition)
abbrev pub is_anonymous_function : Tree → Bool
is_anonymous_function (tree.function a absent params body) = true
is_anonymous_function (tree.arrow_function a params body) = true
is_anonymous_function (tree.class a absent heritage body) = true
is_anonymous_function (tree.parenthesized a expression) = is_anonymous_function expression
is_anonymous_function t = false

-- the assignment gives a function its target's name, as `a=function(){}` does and `(a)=function(){}` doesn't (13.15.2)
abbrev pub names_function : AssignmentOperator → Tree → Tree → Bool
names_function o target value = may_name o && (is_identifier_reference target && is_anonymous_function value)

-- ---- questions about tokens

abbrev pub is_word : List ℕ → Tokens → Bool
is_word w (piece mark (Word x) ts) = bytes_eq x w
is_word w ts = false

-- a number's token ends in the suffix of a big integer (12.9.3)
abbrev pub has_suffix : List ℕ → Bool
has_suffix w = ends_in (codes "n") w

-- no line end stands before the first token
abbrev pub on_same_line : Tokens → Bool
on_same_line done = false
on_same_line (piece mark p ts) = not mark
on_same_line (group mark b inside ts) = not mark

-- a bracket group stands at the front
abbrev pub starts_in_square : Tokens → Bool
starts_in_square (group mark Square inside ts) = true
starts_in_square ts = false

abbrev pub starts_in_brace : Tokens → Bool
starts_in_brace (group mark Brace inside ts) = true
starts_in_brace ts = false

-- a word with which no expression statement begins: `function`, `class`, `async function`, `let [` (14.5)
abbrev pub starts_declaration : List ℕ → Tokens → Bool
starts_declaration w ts =
    bytes_eq w (codes "function") || bytes_eq w (codes "class") || (bytes_eq w (codes "async") && is_word (codes "function") ts && on_same_line ts) || (bytes_eq w (codes "let") && starts_in_square ts)

-- an expression statement may begin so (14.5)
abbrev pub starts_statement : Tokens → Bool
starts_statement done = false
starts_statement (piece mark (Word w) ts) = not (starts_declaration w ts)
starts_statement (piece mark p ts) = true
starts_statement (group mark Brace inside ts) = false
starts_statement (group mark b inside ts) = true

-- The first statement is one string in `'` or `"`: a directive (11.2.1)
abbrev pub starts_with_directive : Tokens → Bool
starts_with_directive (piece mark (Quoted q w) done) = not (is_backtick q)
starts_with_directive (piece mark (Quoted q w) (piece next (Sign semicolon) ts)) = not (is_backtick q)
starts_with_directive ts = false

-- before `of` a target doesn't begin with `let`, and isn't `async` (14.7.5)
abbrev pub may_precede_of : Tokens → Bool
may_precede_of (piece mark (Word w) done) = not (bytes_eq w (codes "let")) && not (bytes_eq w (codes "async"))
may_precede_of (piece mark (Word w) ts) = not (bytes_eq w (codes "let"))
may_precede_of ts = true

-- ---- of declarations, functions, objects, classes and templates

-- the word that begins a declaration (14.3)
abbrev pub declaring : VariableDeclarationKind → List ℕ
declaring Const = codes "const"
declaring Let = codes "let"
declaring Var = codes "var"

-- `var` begins a statement, and the others a declaration
abbrev pub is_var : VariableDeclarationKind → Bool
is_var Var = true
is_var kind = false

-- a function with a body in braces; the flags tell that it is `async`, and a generator
abbrev pub function_of : FunctionKind → Bool → Bool → Maybe → Trees → Maybe → Trees → Trees → Tree
function_of kind async generator id ps rest ds ss = tree.function (function_values kind (if_set async) (if_set generator) no_value) id (tree.formal_parameters (nothing_of 0) ps rest) (given (tree.function_body (nothing_of 0) ds ss))

-- the function of a method or an accessor has no name
abbrev pub method_of : Bool → Bool → Trees → Maybe → Trees → Trees → Tree
method_of async generator ps rest ds ss = function_of kinds.Expression async generator absent ps rest ds ss

-- a method of an object is written as one, and an accessor isn't
abbrev pub is_plain_method : PropertyKind → Bool
is_plain_method Init = true
is_plain_method kind = false

-- of an arrow function it counts whether it is `async`
abbrev pub arrow_values : Bool → Atoms
arrow_values async = bare (if_set async ∷ no_value ∷ no_value ∷ [])

-- of a loop with `of` whether it waits for each value
abbrev pub loop_values : Bool → Atoms
loop_values await = bare (if_set await ∷ [])

abbrev pub class_of : ClassKind → Maybe → Maybe → Trees → Tree
class_of kind id heritage members = tree.class (bare (class_form kind ∷ no_value ∷ no_value ∷ [])) id heritage (tree.class_body (nothing_of 0) members)

-- what a method of a class is, as one of an object is
abbrev pub method_kind : PropertyKind → MethodDefinitionKind
method_kind Init = method_kinds.Method
method_kind Get = method_kinds.Get
method_kind Set = method_kinds.Set

-- a member of a class by what it is, whether it is static, and whether its key is computed
abbrev pub member_values : PropertyKind → Bool → Bool → Atoms
member_values kind static computed = method_values (method_kind kind) computed static no_value no_value no_value

abbrev pub field_values : Bool → Bool → Atoms
field_values static computed = bare (flag computed ∷ no_value ∷ no_value ∷ flag static ∷ no_value ∷ no_value ∷ no_value ∷ no_value ∷ [])

-- a private name, by its text (12.7)
abbrev pub private_name : List ℕ → Tree
private_name v = tree.private_identifier (named v)

-- a piece of a template: behind a tag its raw text counts, and else what that stands for (13.2.8)
abbrev pub raw_piece : List ℕ → Tree
raw_piece w = tree.template_element (bare (text w ∷ no_value ∷ []))

abbrev pub cooked_piece : List ℕ → Tree
cooked_piece us = tree.template_element (bare (no_value ∷ units us ∷ []))

abbrev pub read_piece : Bool → List ℕ → Option Tree
read_piece true w = Some (raw_piece w)
read_piece false w = option_map cooked_piece (string_value quotes.Backtick w)

-- whether a key is computed
abbrev pub computed_values : Bool → Atoms
computed_values computed = bare (flag computed ∷ [])

-- ---- of modules (16.2)

-- the units of a name's characters (11.1.4)
abbrev pub units_of : List ℕ → List ℕ
units_of v = flat_map encode_utf16 v

-- a text, as of what is imported from
abbrev pub text_of : List ℕ → Tree
text_of us = tree.string_literal (bare (units us ∷ []))

-- a first line that is a hashbang (12.5)
abbrev pub hashbang_of : List ℕ → Tree
hashbang_of w = tree.hashbang (bare (text w ∷ []))

-- an import or an export is one of values
abbrev pub of_values : Atoms
of_values = bare (kind_of_import import_kinds.Value ∷ [])

-- what is exported without a source is a reference (16.2.3)
abbrev pub is_reference_alone : Tokens → Bool
is_reference_alone (piece mark (Word w) done) = option_map_or is_free_name (word_value w) false
is_reference_alone ts = false

-- the words with which the expression of a default export doesn't begin: `function`, `class`, `async function` (16.2.3)
abbrev pub starts_function_or_class : List ℕ → Tokens → Bool
starts_function_or_class w ts = bytes_eq w (codes "function") || bytes_eq w (codes "class") || (bytes_eq w (codes "async") && is_word (codes "function") ts && on_same_line ts)

abbrev pub may_be_exported : Tokens → Bool
may_be_exported (piece mark (Word w) ts) = not (starts_function_or_class w ts)
may_be_exported ts = true
