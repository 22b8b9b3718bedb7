-- What a reader of tokens keeps: what waits for what is read next, on a stack, and where the reader is. It reads one token after the other.
use Rattle.std.specs.Prelude.{ℕ, List, [], ◌∷◌, Bool, true, false, not, nat_le, Option, Some, None, codes, if◌then◌else◌}
use Rattle.std.specs.Str.{bytes_eq}
use Rattle.jsgen_tree.specs.declared.statements.VariableDeclarationKind.{VariableDeclarationKind}
use Rattle.jsgen_tree.specs.declared.collections.PropertyKind.{PropertyKind}
use Rattle.jsgen_tree.specs.declared.collections.PropertyKind.TheVariants.{Init, Get, Set}
use Rattle.jsgen_syntax.specs.declared.quote.Quote.{Quote}
use Rattle.jsgen_syntax.specs.declared.operator.BinaryOperator.{BinaryOperator}
use Rattle.jsgen_syntax.specs.declared.operator.BinaryOperator.TheVariants as operators
use Rattle.jsgen_syntax.specs.declared.operator.LogicalOperator.{LogicalOperator}
use Rattle.jsgen_syntax.specs.declared.operator.LogicalOperator.TheVariants.{Or, And, Coalesce}
use Rattle.jsgen_syntax.specs.declared.operator.UnaryOperator.{UnaryOperator}
use Rattle.jsgen_syntax.specs.declared.operator.UpdateOperator.{UpdateOperator}
use Rattle.jsgen_syntax.specs.declared.operator.UpdateOperator.TheVariants as update_operators
use Rattle.jsgen_syntax.specs.declared.operator.AssignmentOperator.{AssignmentOperator}
use Rattle.jsgen_syntax.specs.declared.operator.AssignmentOperator.TheVariants as assignment_operators
use Rattle.jsgen_tree.specs.Atom.{flag, binary_operator, logical_operator, unary_operator, update_operator, assignment_operator}
use Rattle.jsgen_tree.specs.Tree.{Tree, Maybe, given, Trees, no_trees, more}
use Rattle.jsgen_tree.specs.Places.{bare}
use Rattle.jsgen_tree.specs.Nodes as tree
use Rattle.jsgen_model.specs.Punctuator.{plus, minus, star, slash, percent, star_star, equal_equal, not_equal, equal_equal_equal, not_equal_equal, less, less_equal, greater, greater_equal, shift_left, shift_right, shift_right_zero, bit_and, bit_or, bit_xor, and_and, or_or, nullish, dot, comma, semicolon, equal, Punctuator, plus_plus, minus_minus, colon, question, plus_equal, minus_equal, star_equal, slash_equal, percent_equal, star_star_equal, shift_left_equal, shift_right_equal, shift_right_zero_equal, bit_or_equal, bit_xor_equal, bit_and_equal, or_or_equal, and_and_equal, nullish_equal, question_dot, arrow}
use Rattle.jsgen_model.specs.Tokens.{Special, Piece, Whole, Head, Middle, Tail, Word, Quoted, Sign, Beyond}
use Rattle.jsgen_model.specs.Normal.{nothing_of, joined}
use Rattle.jsgen_model.specs.Grammar.{Allowed, in_module, in_body, Level, Expression, Assignment, Conditional, ShortCircuit, Coalesced, CoalesceHead, LogicalOr, LogicalAnd, BitOr, BitXor, BitAnd, Equality, Relational, Shift, Additive, Multiplicative, Exponent, Unary, Update, operation_level, next_level, simple_target, names_function, arrow_values, private_name}

-- ---- levels by number

abbrev pub rank : Level → ℕ
rank Expression = 1
rank Assignment = 2
rank Conditional = 3
rank ShortCircuit = 4
rank Coalesced = 4
rank CoalesceHead = 4
rank LogicalOr = 5
rank LogicalAnd = 6
rank BitOr = 7
rank BitXor = 8
rank BitAnd = 9
rank Equality = 10
rank Relational = 11
rank Shift = 12
rank Additive = 13
rank Multiplicative = 14
rank Exponent = 15
rank Unary = 16
rank Update = 17
rank level = 17

-- ---- what may follow an operand

pub data Kind : Type 0 where
  binary : BinaryOperator → Kind
  logic : LogicalOperator → Kind
  assigning : AssignmentOperator → Kind
  updating : UpdateOperator → Kind
  a_dot a_link an_arrow a_question a_colon a_comma a_semicolon an_in an_of another : Kind
  -- what stands in quotes
  a_quoted : Quote → List ℕ → Kind
  -- a template of one piece that no string spells, and the first piece of another
  a_whole a_head : List ℕ → Kind
  -- a further piece of a template; the flag tells that it is the last
  a_further : Bool → List ℕ → Kind

abbrev pub sign_kind : Punctuator → Kind
sign_kind plus = binary operators.Addition
sign_kind minus = binary operators.Subtraction
sign_kind star = binary operators.Multiplication
sign_kind slash = binary operators.Division
sign_kind percent = binary operators.Remainder
sign_kind star_star = binary operators.Exponential
sign_kind equal_equal = binary operators.Equality
sign_kind not_equal = binary operators.Inequality
sign_kind equal_equal_equal = binary operators.StrictEquality
sign_kind not_equal_equal = binary operators.StrictInequality
sign_kind less = binary operators.LessThan
sign_kind less_equal = binary operators.LessEqualThan
sign_kind greater = binary operators.GreaterThan
sign_kind greater_equal = binary operators.GreaterEqualThan
sign_kind shift_left = binary operators.ShiftLeft
sign_kind shift_right = binary operators.ShiftRight
sign_kind shift_right_zero = binary operators.ShiftRightZeroFill
sign_kind bit_and = binary operators.BitwiseAnd
sign_kind bit_or = binary operators.BitwiseOR
sign_kind bit_xor = binary operators.BitwiseXOR
sign_kind and_and = logic And
sign_kind or_or = logic Or
sign_kind nullish = logic Coalesce
sign_kind equal = assigning assignment_operators.Assign
sign_kind plus_equal = assigning assignment_operators.Addition
sign_kind minus_equal = assigning assignment_operators.Subtraction
sign_kind star_equal = assigning assignment_operators.Multiplication
sign_kind slash_equal = assigning assignment_operators.Division
sign_kind percent_equal = assigning assignment_operators.Remainder
sign_kind star_star_equal = assigning assignment_operators.Exponential
sign_kind shift_left_equal = assigning assignment_operators.ShiftLeft
sign_kind shift_right_equal = assigning assignment_operators.ShiftRight
sign_kind shift_right_zero_equal = assigning assignment_operators.ShiftRightZeroFill
sign_kind bit_or_equal = assigning assignment_operators.BitwiseOR
sign_kind bit_xor_equal = assigning assignment_operators.BitwiseXOR
sign_kind bit_and_equal = assigning assignment_operators.BitwiseAnd
sign_kind or_or_equal = assigning assignment_operators.LogicalOr
sign_kind and_and_equal = assigning assignment_operators.LogicalAnd
sign_kind nullish_equal = assigning assignment_operators.LogicalNullish
sign_kind plus_plus = updating update_operators.Increment
sign_kind minus_minus = updating update_operators.Decrement
sign_kind dot = a_dot
sign_kind question_dot = a_link
sign_kind arrow = an_arrow
sign_kind question = a_question
sign_kind colon = a_colon
sign_kind comma = a_comma
sign_kind semicolon = a_semicolon
sign_kind s = another

abbrev pub special_kind : Special → Kind
special_kind (Whole w) = a_whole w
special_kind (Head w) = a_head w
special_kind (Middle w) = a_further false w
special_kind (Tail w) = a_further true w
special_kind s = another

-- `in` where it may stand
abbrev pub kind : Bool → Piece → Kind
kind i (Word w) = if bytes_eq w (codes "instanceof") then binary operators.Instanceof else (if bytes_eq w (codes "in") then (if i then binary operators.In else an_in) else (if bytes_eq w (codes "of") then an_of else another))
kind i (Sign s) = sign_kind s
kind i (Quoted q w) = a_quoted q w
kind i (Beyond s) = special_kind s
kind i p = another

-- at what level what stands before it is read
abbrev pub left_rank : BinaryOperator → ℕ
left_rank operators.Exponential = 17
left_rank o = rank (operation_level o)

abbrev pub logic_left : LogicalOperator → ℕ
logic_left Or = 5
logic_left And = 6
logic_left Coalesce = 7

abbrev pub kind_rank : Kind → ℕ
kind_rank (binary o) = left_rank o
kind_rank (logic o) = logic_left o
kind_rank (assigning o) = 18
kind_rank (updating o) = 18
kind_rank a_dot = 19
kind_rank a_link = 19
kind_rank an_arrow = 20
kind_rank a_question = 4
kind_rank an_in = 18
kind_rank an_of = 18
kind_rank a_colon = 1
kind_rank a_comma = 2
kind_rank a_semicolon = 1
kind_rank another = 20
kind_rank (a_quoted q w) = 19
kind_rank (a_whole w) = 19
kind_rank (a_head w) = 19
kind_rank (a_further last w) = 1

-- ---- what waits

-- what statements stand in: braces, a body behind its directives, a case behind the cases before it and with its test
pub data Bottom : Type 0 where
  in_braces : Bottom
  -- the flag tells that the body is a function's
  in_a_body : Bool → Trees → Bottom
  -- the flag tells that one more `default` may come
  in_case : Bool → Trees → Maybe → Bottom

-- what a binding is for
pub data Binder : Type 0 where
  -- a parameter behind the parameters so far, and the one that takes the rest
  a_parameter rest_parameter : Trees → Binder
  -- the parameter of a setter
  sole_parameter : Binder
  -- an element of a pattern behind the elements so far, and the one that takes the rest
  an_element rest_element : Trees → Binder
  -- the value of a key of a pattern behind the properties so far, and the name that takes the rest
  a_value : Trees → Bool → Tree → Binder
  rest_property : Trees → Binder
  -- a declaration behind the declarators so far
  a_declaration : VariableDeclarationKind → Trees → Binder
  -- what a handler catches
  a_catch : Binder

-- where a target stands in a pattern
pub data Place : Type 0 where
  -- behind the elements so far; it takes the rest of them
  in_array rest_of_array : Trees → Place
  -- behind the properties so far, with its key; it takes the rest of them
  in_object : Trees → Bool → Tree → Place
  rest_of_object : Trees → Place

-- whether a pattern holds names that it binds, or targets
pub data Holds : Type 0 where
  names targets : Holds

-- what waits for what is read next; with others below it, it is a stack
pub data Frame : Type 0 where
  -- an operator before its operand, and `await`
  unary_of : UnaryOperator → Frame
  await_of : Frame
  -- `++` or `--` before its operand
  before_of : UpdateOperator → Frame
  -- an operator behind its left operand
  left_of : BinaryOperator → Tree → Frame
  -- and one of `||`, `&&` and `??`
  logical_of : LogicalOperator → Tree → Frame
  -- an assignment behind its target: as it is written, and without parentheses
  assign_to : AssignmentOperator → Tree → Tree → Frame
  -- `?` behind a condition, and what may stand behind its `:`
  test_of : Allowed → Tree → Frame
  -- `:` behind a condition and what stands between
  choice_of : Tree → Tree → Frame
  -- `in` behind a private name
  private_of : List ℕ → Frame
  -- a template behind some of its pieces and the expressions between them, with its tag, if it has one, and what may stand behind the whole
  template_of : Allowed → Maybe → Trees → Trees → Frame
  -- `new` before a constructor, without arguments so far
  new_of : Frame
  -- an arrow behind its parameters: what may stand behind the arrow function, and whether it is `async`
  arrow_of : Allowed → Bool → Tree → Frame
  -- `yield` before what it gives; the flag tells that a star stands between, so that it hands on the values of that
  yield_of : Bool → Frame
  -- `=` behind a binding
  value_of : Binder → Tree → Frame
  -- a place in a pattern before its target
  target_of : Place → Frame
  -- `=` behind a target there: as it is written, and without parentheses
  default_of : Place → Tree → Tree → Frame
  -- an array behind its elements so far
  elements_of : Trees → Frame
  -- a sequence behind its parts so far
  parts_of : Trees → Frame
  -- the parentheses of a call behind the arguments so far
  arguments : Trees → Frame
  -- `...` in an array, in arguments or in an object
  spread_of : Frame
  -- the braces of an object behind the properties so far, before one that is spread
  properties_of : Trees → Frame
  -- and behind a key, which may be computed, and its colon
  property_of : Trees → Bool → Tree → Frame
  -- the brackets of a computed key
  key_alone : Frame
  -- the parentheses of `import` behind what stands in them so far
  imported_of : Trees → Frame
  -- `export default` before what it exports
  exported_default : Frame
  -- a statement that is an expression, `throw` and `return`
  expression_of throw_of return_of : Frame
  -- a list of statements behind those so far
  list_of : Bottom → Trees → Frame
  -- `if` behind its test
  then_of : Tree → Frame
  -- another statement before the body that ends it
  wrap_of : (Tree → Tree) → Frame
  -- `do`
  do_of : Frame
  -- the head of a loop before its first part, where the flag tells that it waits for each value, behind its first semicolon, and behind its second
  first_part : Bool → Frame
  test_part : Maybe → Frame
  last_part : Maybe → Maybe → Frame
  -- the head of a loop behind `in` and behind `of`, with what is given the values; the flag tells that it waits for each
  in_right : Tree → Frame
  of_right : Bool → Tree → Frame
  -- `case`: whether one more `default` may come, and the cases before it
  case_test : Bool → Trees → Frame
  -- `extends` behind a class's name, if it has one; the flag tells that the class is a declaration, and before it stands what may stand behind it
  extends_of : Bool → Allowed → Maybe → Frame
  -- `=` behind the key of a field, which may be static and whose key may be computed: what may stand in the class, and its members so far
  field_of : Allowed → Trees → Bool → Bool → Tree → Frame

abbrev pub logic_right : LogicalOperator → ℕ
logic_right Or = 6
logic_right And = 7
logic_right Coalesce = 7

abbrev pub right_rank : BinaryOperator → ℕ
right_rank operators.Exponential = 15
right_rank o = rank (next_level (operation_level o))

-- at what level what it waits for is read
abbrev pub wants : Frame → ℕ
wants (unary_of o) = 16
wants await_of = 16
wants (before_of o) = 16
wants (left_of o t) = right_rank o
wants (logical_of o t) = logic_right o
wants (private_of v) = 12
wants (assign_to o t u) = 2
wants (test_of c t) = 2
wants (choice_of x y) = 2
wants (parts_of ts) = 2
wants (arguments ts) = 2
wants spread_of = 2
wants new_of = 18
wants (arrow_of c async p) = 2
wants (yield_of delegate) = 2
wants (value_of g b) = 2
wants (target_of g) = 17
wants (default_of g t u) = 2
wants (elements_of ts) = 2
wants (of_right waits l) = 2
wants key_alone = 2
wants (imported_of ts) = 2
wants exported_default = 2
wants (properties_of ps) = 2
wants (property_of ps computed key) = 2
wants (extends_of declared c id) = 17
wants (field_of c ms static computed key) = 2
wants f = 1

abbrev pub logic_rank : LogicalOperator → ℕ
logic_rank Or = 5
logic_rank And = 6
logic_rank Coalesce = 4

-- at what level the whole is read then; 0 of what an operator doesn't end
abbrev pub gives : Frame → ℕ
gives (unary_of o) = 16
gives await_of = 16
gives (before_of o) = 17
gives (left_of o t) = rank (operation_level o)
gives (logical_of o t) = logic_rank o
gives (private_of v) = 11
gives (assign_to o t u) = 2
gives (choice_of x y) = 3
gives (parts_of ts) = 1
gives spread_of = 2
gives new_of = 17
gives (arrow_of c async p) = 2
gives (yield_of delegate) = 2
gives f = 0

abbrev pub wanted : List Frame → ℕ
wanted [] = 1
wanted (f ∷ k) = wants f

abbrev pub same : Bool → Bool → Bool
same true b = b
same false b = not b

abbrev pub updated : Bool → UpdateOperator → Option Tree → Option Tree
updated before o None = None
updated before o (Some u) = Some (tree.update (bare (update_operator o ∷ flag before ∷ [])) u)

abbrev pub fill : Frame → Tree → Option Tree
fill (unary_of o) r = Some (tree.unary (bare (unary_operator o ∷ [])) r)
fill await_of r = Some (tree.await_expression (nothing_of 0) r)
fill (before_of o) r = updated true o (simple_target r)
fill (left_of o l) r = Some (tree.binary (bare (binary_operator o ∷ [])) l r)
fill (logical_of o l) r = Some (tree.logical (bare (logical_operator o ∷ [])) l r)
fill (private_of v) r = Some (tree.private_in (nothing_of 0) (private_name v) r)
fill (assign_to o t u) r = if same (names_function o t r) (names_function o u r) then Some (tree.assignment (bare (assignment_operator o ∷ [])) u r) else None
fill (choice_of x y) r = Some (tree.conditional (nothing_of 0) x y r)
fill (parts_of ts) r = Some (tree.sequence (nothing_of 0) (joined ts (more r no_trees)))
fill spread_of r = Some (tree.spread (nothing_of 0) r)
fill new_of r = Some (tree.new_expression (nothing_of 1) r no_trees)
fill (arrow_of c async p) r = Some (tree.arrow_function (arrow_values async) p r)
fill (yield_of delegate) r = Some (tree.yield_expression (bare (flag delegate ∷ [])) (given r))
fill f r = None

-- with `in` as the flag tells
abbrev pub set_in : Bool → Allowed → Allowed
set_in i c = record c { in_operator = i }

-- what may stand behind it then
abbrev pub around : Frame → Allowed → Allowed
around (arrow_of d async p) c = d
around f c = c

abbrev pub restored : Frame → Allowed → Allowed
restored f c = set_in c.in_operator (around f c)

pub data Settled : Type 0 where
  stuck : Settled
  at : Allowed → List Frame → Tree → Settled

abbrev pub settled_by : Option Tree → (Tree → Settled) → Settled
settled_by None f = stuck
settled_by (Some t) f = f t

-- what waits is filled as long as it gives a whole of that level
abbrev pub settle : ℕ → Allowed → List Frame → Tree → Settled
settle n c [] t = at c [] t
settle n c (f ∷ k) t = if nat_le n (gives f) then settled_by (fill f t) (λ u. settle n (restored f c) k u) else at c (f ∷ k) t

-- ---- where the reader is

-- where a function or a class stands
pub data Kept : Type 0 where
  as_operand as_statement : Allowed → List Frame → Kept

-- what tells what a method is: that it is `async`, and a generator, or `get` or `set`
pub data Manner : Type 0 where
  with_words : Bool → Bool → Manner
  getting setting : Manner

abbrev pub manner_kind : Manner → PropertyKind
manner_kind (with_words async generator) = Init
manner_kind getting = Get
manner_kind setting = Set

-- what a property belongs to
pub data Owner : Type 0 where
  -- an object behind the properties so far
  of_object : Trees → Owner
  -- a class behind the members so far; the flag tells that the next one is static
  of_class : Trees → Bool → Owner

-- where the reader is in an import or an export
pub data Exchange : Type 0 where
  -- behind `import` where an item of a module begins
  import_start : Allowed → List Frame → Exchange
  -- behind the names that it binds so far, which `from` or a comma follows
  import_named : Allowed → List Frame → Trees → Exchange
  -- behind that comma
  import_others : Allowed → List Frame → Trees → Exchange
  -- behind a star there
  import_star : Allowed → List Frame → Trees → Exchange
  -- behind `as` there
  import_space : Allowed → List Frame → Trees → Exchange
  -- before `from`, with what the whole is, by its source and its attributes
  before_from : Allowed → List Frame → (Tree → Maybe → Tree) → Exchange
  -- before the source
  before_source : Allowed → List Frame → (Tree → Maybe → Tree) → Exchange
  -- behind the source
  behind_source : Allowed → List Frame → (Tree → Maybe → Tree) → Tree → Exchange
  -- behind `with` there
  source_with : Allowed → List Frame → (Tree → Maybe → Tree) → Tree → Exchange
  -- in the braces of attributes: before one, behind those so far
  attributes : Trees → Exchange
  -- behind its key
  attribute_key : Trees → Tree → Exchange
  -- behind its colon
  attribute_colon : Trees → Tree → Exchange
  -- behind its value
  attribute_done : Trees → Exchange
  -- in the braces of an import: before a name, behind those so far
  specifiers : Trees → Exchange
  -- behind the name, with what it binds if it stands alone
  specifier_named : Trees → Maybe → Tree → Exchange
  -- behind `as`
  specifier_as : Trees → Tree → Exchange
  -- behind the name that is bound
  specifier_done : Trees → Exchange
  -- behind `export`
  exporting : Allowed → List Frame → Exchange
  -- behind `async` there
  exporting_async : Allowed → List Frame → Exchange
  -- behind `export default`
  before_default : Allowed → List Frame → Exchange
  -- behind a star
  all_exported : Allowed → List Frame → Exchange
  -- behind `as` there
  all_exported_as : Allowed → List Frame → Exchange
  -- in the braces of an export: before a name, behind those so far, where the flag tells that each is a reference
  exports : Bool → Trees → Exchange
  -- behind the name
  exported_named : Bool → Trees → Tree → Exchange
  -- behind `as`
  exported_as : Bool → Trees → Tree → Exchange
  -- behind the name that it has outside
  exported_done : Bool → Trees → Exchange
  -- behind the braces
  names_exported : Allowed → List Frame → Bool → Trees → Exchange

-- its keys may be private names
abbrev pub takes_private : Owner → Bool
takes_private (of_object ps) = false
takes_private (of_class ms static) = true

-- `Allowed`, which stands in most, is what may stand there, and `List Frame` is what waits
pub data State : Type 0 where
  -- the tokens so far begin nothing
  failed : State
  -- before an operand
  operand : Allowed → List Frame → State
  -- behind a member or a call, which links may follow
  linked : Allowed → List Frame → Tree → State
  -- behind `async`, which is a name if no function or arrow function follows
  async_word : Allowed → List Frame → State
  -- behind `yield`
  yielded : Allowed → List Frame → State
  -- behind another expression
  settled : Allowed → List Frame → Tree → State
  -- behind the dot of a member
  dotted : Allowed → List Frame → Tree → State
  -- behind `new`
  newly : Allowed → List Frame → State
  -- behind `new` and a dot
  targeting : Allowed → List Frame → State
  -- behind `super`
  supered : Allowed → List Frame → State
  -- behind `import` in an expression
  importing : Allowed → List Frame → State
  -- behind its dot
  import_dotted : Allowed → List Frame → State
  -- behind a dot there, which no private name follows
  super_dotted : Allowed → List Frame → State
  -- behind a private name that `in` follows
  private_first : Allowed → List Frame → List ℕ → State
  -- behind `?.`
  chaining : Allowed → List Frame → Tree → State
  -- behind a link of a chain
  chained : Allowed → List Frame → Tree → State
  -- behind a dot there
  chain_dotted : Allowed → List Frame → Tree → State
  -- before parentheses that an arrow follows; the flag tells that the arrow function is `async`
  before_parameters : Allowed → List Frame → Bool → State
  -- behind them
  parameters_read : Allowed → List Frame → Bool → Tree → State
  -- behind the arrow
  arrowed : Allowed → List Frame → Bool → Tree → State
  -- behind an arrow function whose body is in braces, and behind `yield` alone
  closed : Allowed → List Frame → Tree → State
  -- before a parameter, behind the parameters so far
  parameter : Allowed → Trees → State
  -- before a binding
  binding : Allowed → Binder → List Frame → State
  -- behind a binding
  bound : Allowed → Binder → List Frame → Tree → State
  -- before brackets that are a pattern of targets
  before_pattern : Allowed → List Frame → State
  -- behind them
  pattern_behind : Allowed → List Frame → Tree → State
  -- before a target in a pattern
  target : Allowed → Place → State
  -- in the brackets of a pattern, before an element
  pattern_elements : Holds → Allowed → Trees → State
  -- in the braces of a pattern, before a property
  pattern_properties : Holds → Allowed → Trees → State
  -- behind a word there
  pattern_word : Holds → Allowed → Trees → List ℕ → State
  -- behind another key there, which may be computed
  pattern_key : Holds → Allowed → Trees → Bool → Tree → State
  -- behind `...` in the braces of a pattern that binds, before a name
  rest_name : Allowed → Trees → State
  -- before a statement
  start : Allowed → List Frame → State
  -- behind `async` there, or behind `export default`, which begins a declaration or an expression; what waits begins with the expression's frame
  async_start : Allowed → List Frame → State
  -- behind a statement, which `else` may follow
  ended : Allowed → List Frame → Tree → State
  -- before the end of a statement
  ending : Allowed → List Frame → Tree → State
  -- behind `if`
  tested : Allowed → List Frame → State
  -- behind `throw`
  thrown : Allowed → List Frame → State
  -- behind `while`
  while_head : Allowed → List Frame → State
  -- behind `for`, where the flag tells that `await` stands behind it
  for_head : Bool → Allowed → List Frame → State
  -- behind `switch`
  switch_head : Allowed → List Frame → State
  -- behind the head of `switch`
  switch_body : Allowed → List Frame → Tree → State
  -- behind the body of `do`
  do_behind : Allowed → List Frame → Tree → State
  -- behind `while` there
  do_tested : Allowed → List Frame → Tree → State
  -- behind `break` or `continue`
  jumping : Allowed → (Maybe → Tree) → List Frame → State
  -- behind `return`
  returning : Allowed → List Frame → State
  -- in the head of a loop, where the flag tells that it waits for each value
  head : Bool → Allowed → State
  -- behind `async` there, if it does
  async_first : Allowed → State
  -- behind the first semicolon there
  second_part : Allowed → Maybe → State
  -- behind the second semicolon there
  third_part : Allowed → Maybe → Maybe → State
  -- in the braces of `switch`: whether one more `default` may come, and the cases so far
  before_case : Allowed → Bool → Trees → State
  -- behind `default`
  default_case : Allowed → Trees → State
  -- behind `try`
  trying : Allowed → List Frame → State
  -- behind its block
  tried : Allowed → List Frame → Trees → State
  -- behind `catch`
  catching : Allowed → List Frame → Trees → State
  -- behind the parentheses there
  caught : Allowed → List Frame → Trees → Maybe → State
  -- behind the handler, which `finally` may follow
  handled : Allowed → List Frame → Trees → Tree → State
  -- behind `finally`
  finalizing : Allowed → List Frame → Trees → Maybe → State
  -- before a directive or the first statement, behind the directives so far
  before_directives : Allowed → Trees → State
  -- behind a string there
  string_first : Allowed → Trees → List ℕ → State
  -- behind `function`; the flags tell that the function is `async`, and that a star follows, which makes it a generator
  function_word : Kept → Bool → Bool → State
  -- behind a function's name
  function_named : Kept → Bool → Bool → Maybe → State
  -- behind a function's parameters
  function_headed : Kept → Bool → Bool → Maybe → Trees → Maybe → State
  -- in the braces of an object, before a property, and in those of a class, before a member
  property : Allowed → Owner → State
  -- behind a word there
  property_word : Allowed → Owner → List ℕ → State
  -- behind the words of a method or an accessor, before its key
  method_key : Allowed → Owner → Manner → State
  -- behind a key, which may be computed, without words before it or with them
  keyed : Allowed → Owner → Manner → Bool → Tree → State
  -- behind the parameters of a method
  method_headed : Allowed → Owner → Manner → Bool → Tree → Trees → Maybe → State
  -- behind a method of an object
  property_done : Allowed → Trees → State
  -- behind `class`
  class_word : Kept → State
  -- behind a class's name, if it has one, and behind what it extends, if it does
  class_headed : Kept → Maybe → Maybe → State
  -- behind `static` before braces, behind the members so far
  static_word : Allowed → Trees → State
  -- in an import or an export
  exchange : Exchange → State

-- before the directives of a module, or of a function that is neither `async` nor a generator
abbrev pub directives : Bool → Trees → State
directives false ds = before_directives in_module ds
directives true ds = before_directives (in_body false false) ds

-- what was read in brackets, or in the whole
pub data Answer : Type 0 where
  -- nothing that the grammar reads
  wrong : Answer
  -- an expression, or what a handler catches
  one_tree : Tree → Answer
  -- elements, arguments, properties, statements or cases
  some_trees : Trees → Answer
  -- parameters or parts of a pattern, and what takes the rest
  with_rest : Trees → Maybe → Answer
  -- directives and statements
  a_body : Trees → Trees → Answer
  -- the head of a loop
  a_loop : (Tree → Tree) → Answer
  -- what is exported by its name, where the flag tells that each is a reference
  some_exports : Bool → Trees → Answer
