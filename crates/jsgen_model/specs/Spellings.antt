-- What the rows are spelled with.
use Rattle.std.specs.Prelude.{ℕ, suc, List, [], ◌∷◌, ◌++◌, Bool, true, false, not, ◌||◌, ◌&&◌, nat_lt, bytes_eq, codes, decimal, Option, Some, None, if◌then◌else◌}
use Rattle.jsgen_syntax.specs.Wtf8.{joined_units, has_lone}
use Rattle.jsgen_syntax.specs.Operator.{binary_level, lower_level}
use Rattle.jsgen_syntax.specs.declared.span.Span.{Span}
use Rattle.jsgen_syntax.specs.declared.precedence.Precedence.{Precedence}
use Rattle.jsgen_syntax.specs.declared.precedence.Precedence.TheVariants.{Comma, Multiply, Exponentiation, Prefix, Call}
use Rattle.jsgen_place.specs.declared.place.Place.{Place}
use Rattle.jsgen_place.specs.declared.shape.Shape.{Shape}
use Rattle.jsgen_place.specs.declared.shape.Shape.TheVariants as shapes
use Rattle.jsgen_place.specs.Place.{in_brackets, loop_head, wraps}
use Rattle.jsgen_syntax.specs.declared.operator.BinaryOperator.{BinaryOperator}
use Rattle.jsgen_syntax.specs.declared.operator.BinaryOperator.TheVariants as operators
use Rattle.jsgen_syntax.specs.declared.operator.LogicalOperator.{LogicalOperator}
use Rattle.jsgen_syntax.specs.declared.operator.LogicalOperator.TheVariants as logical_operators
use Rattle.jsgen_tree.specs.declared.collections.PropertyKind.{PropertyKind}
use Rattle.jsgen_tree.specs.declared.collections.PropertyKind.TheVariants as property_kinds
use Rattle.jsgen_tree.specs.declared.functions.FunctionKind.{FunctionKind}
use Rattle.jsgen_tree.specs.declared.functions.FunctionKind.TheVariants as function_kinds
use Rattle.jsgen_tree.specs.declared.classes.ClassKind.{ClassKind}
use Rattle.jsgen_tree.specs.declared.classes.ClassKind.TheVariants as class_kinds
use Rattle.jsgen_tree.specs.declared.classes.MethodDefinitionKind.{MethodDefinitionKind}
use Rattle.jsgen_tree.specs.declared.classes.MethodDefinitionKind.TheVariants as method_kinds
use Rattle.jsgen_tree.specs.declared.types.NodeType.{NodeType}
use Rattle.jsgen_tree.specs.declared.types.NodeType.TheVariants as types
use Rattle.jsgen_tree.specs.Named.{Named, as_written, own_name}
use Rattle.jsgen_tree.specs.Inside.{inside_parentheses, reference_named, binding_named, looked_up_in, is_proto, is_negative_number}
use Rattle.jsgen_tree.specs.Number.{NumericKind, Whole, Raw}
use Rattle.jsgen_tree.specs.Tree.{Tree, Maybe, absent, given, Trees, no_trees, more, hole, Atoms, type_of, atoms_of, span_of, MaybeTrees, listed}
use Rattle.jsgen_tree.specs.Values.{identifier_name_name, numeric_literal_negative, numeric_literal_digits, numeric_literal_text, string_literal_value, logical_expression_operator, function_kind, function_is_async, function_generator, function_pure, function_pife, arrow_function_expression_pife, class_kind, template_element_raw}
use Rattle.jsgen_tree.specs.Nodes as tree
use Rattle.jsgen_model.specs.Numbers.{takes_no_dot}
use Rattle.jsgen_model.specs.Punctuator.{comma, semicolon, minus, Round, Square, Brace, colon, question_dot, star}
use Rattle.jsgen_model.specs.Items.{Items, TemplatePart, whole_part, head_part, middle_part, tail_part, nothing, ◌⊕◌, word, name, number, template_part, with_key_annotation, string, marked_number, first_string, punctuator, operator, member_dot, brackets, soft_space, soft_line, hard_space, body_space, deeper, indentation, wrapped, wrapped_at_start, a_brace, a_declaration, parentheses_unless_minified, where_same, statement_end, due_semicolon, drop_semicolon, arrow_body_begins, unless_minified, default_export_begins, end_mark, link_mark, marked_operator, marked_indentation, orphans, orphan_lines, empty_body, held, before_it, none_of_them, Manner, member_line, member_space, annotation, annotation_line, no_side_effects, in_lines, of_call, Lead, to_block, to_body, to_empty, marked_word, comments, all_of_them, mark}
use Rattle.jsgen_model.specs.Operators.{marked}

-- the empty span, which has no mark
abbrev pub unmarked : Span
unmarked = record { start = 0; end = 0 }

-- what a loop gives its values: a declaration, or what is given a value, where nothing is forbidden
abbrev pub left_place : NodeType → Place
left_place types.VariableDeclaration = loop_head
left_place type = in_brackets Comma

-- ---- operations

abbrev pub update_items : Span → Bool → Items → Items → Items → Items
update_items s true item first last = marked s item ⊕ last
update_items s false item first last = mark s ⊕ first ⊕ item

-- operands and the operator between them, in parentheses where the test holds
abbrev pub operation : Bool → Items → Items → Items → Items
operation test item left right = wrapped test (left ⊕ soft_space ⊕ item ⊕ soft_space ⊕ right)

-- what a prefix operator or `await` may begin: a unary operation, and a number, whose minus is one
abbrev pub is_prefixed : Tree → Bool
is_prefixed (tree.numeric_literal a) = true
is_prefixed (tree.big_int_literal a) = true
is_prefixed (tree.unary a argument) = true
is_prefixed (tree.await_expression a argument) = true
is_prefixed t = false

abbrev pub is_or_or_and : LogicalOperator → Bool
is_or_or_and logical_operators.Coalesce = false
is_or_or_and o = true

-- an operation by `||` or `&&`
abbrev pub mixes : Tree → Bool
mixes (tree.logical a left right) = is_or_or_and (logical_expression_operator a)
mixes t = false

-- the level of a left operand: just below the operator's, but of `**` its own, and where a prefix operator or `await` may begin the
-- operand a call's (ECMA-262, 13.6)
abbrev pub left_level : BinaryOperator → Tree → Precedence
left_level operators.Exponential left = if is_prefixed (inside_parentheses left) then Call else Exponentiation
left_level o left = lower_level o

-- the level of a right operand: the operator's own, but of `**` the one below
abbrev pub right_level : BinaryOperator → Precedence
right_level operators.Exponential = Multiply
right_level o = binary_level o

-- `??` can't be mixed with `||` and `&&` (ECMA-262, 13.13)
abbrev pub unmixed : LogicalOperator → Tree → Precedence → Precedence
unmixed logical_operators.Coalesce operand level = if mixes (inside_parentheses operand) then Prefix else level
unmixed o operand level = level

-- what a link begins with: of a name a dot, of brackets nothing, and of an optional link `?.`
abbrev pub name_link : Bool → Items
name_link true = punctuator question_dot
name_link false = member_dot

abbrev pub bracket_link : Bool → Items
bracket_link true = punctuator question_dot
bracket_link false = nothing

-- the object of a link, what is called and what else is printed at the level of a link, with the mark behind it
abbrev pub linked_items : Tree → Items → Items
linked_items t items = items ⊕ link_mark (span_of t)

-- a span, or the empty one
abbrev pub span_if : Bool → Span → Span
span_if true s = s
span_if false s = unmarked

abbrev pub any_given : Trees → Bool
any_given no_trees = false
any_given ts = true

-- where the nodes of a list begin
abbrev pub starts_of : Trees → List ℕ
starts_of no_trees = []
starts_of (more t ts) = (span_of t).start ∷ starts_of ts
starts_of (hole ts) = starts_of ts

-- the arguments of a call or of `new`, which has a span; the test tells that strings among them stand in plain quotes
abbrev pub argument_items : Bool → Trees → Span → Items → Items
argument_items quoted arguments s items = in_lines (of_call quoted) (starts_of arguments) s.end items ⊕ end_mark s

-- `new` may go without its parentheses in minified text, where it has no arguments and no link stands behind it (ECMA-262, 13.3.5)
abbrev pub new_arguments : Bool → Items → Items
new_arguments true items = brackets Round items
new_arguments false items = parentheses_unless_minified (unless_minified items)

abbrev pub items_if : Bool → Items → Items
items_if true items = items
items_if false items = nothing

-- among statements a declaration has comments, indentation and an end; the number is where it begins
abbrev pub as_statement : Bool → ℕ → Items → Items
as_statement test start items = items_if test (comments all_of_them start ⊕ indentation) ⊕ items ⊕ items_if test statement_end

-- ---- the first statement of a body

abbrev pub string_in : Tree → Option (List ℕ)
string_in (tree.string_literal a) = Some (string_literal_value a)
string_in t = None

-- the string that a statement is, and nothing else
abbrev pub string_statement : Tree → Option (List ℕ)
string_statement (tree.expression_statement a expression) = string_in (inside_parentheses expression)
string_statement t = None

abbrev pub unless_string : Span → Span → Option (List ℕ) → Items → Items
unless_string line own (Some units) items = comments all_of_them line.start ⊕ marked_indentation true line ⊕ parentheses_unless_minified (comments with_key_annotation own.start ⊕ mark own ⊕ first_string units) ⊕ statement_end
unless_string line own None items = items

-- where the string stands
abbrev pub span_inside : Tree → Span
span_inside (tree.expression_statement a expression) = span_of (inside_parentheses expression)
span_inside t = span_of t

-- a string alone, which would be read as a directive, is spelled otherwise than elsewhere (ECMA-262, 11.2.1)
abbrev pub first_statement : Tree → Items → Items
first_statement t items = unless_string (span_of t) (span_inside t) (string_statement t) items

-- ---- blocks and bodies

-- braces of a span round statements, one level deeper; in empty ones stands nothing. A semicolon that is left is dropped
abbrev pub filled_braces : Span → Items → Items
filled_braces s items = mark s ⊕ brackets Brace (soft_line ⊕ deeper items ⊕ indentation ⊕ end_mark s) ⊕ drop_semicolon

abbrev pub empty_braces : Span → Items
empty_braces s = mark s ⊕ brackets Brace (end_mark s) ⊕ drop_semicolon

abbrev pub braces : Span → Trees → Items → Items
braces s no_trees items = empty_braces s
braces s ts items = filled_braces s items

-- braces round statements, behind which orphans may stand
abbrev pub block_braces : Span → Trees → Items → Items
block_braces s no_trees items = mark s ⊕ brackets Brace (orphan_lines s.end ⊕ end_mark s) ⊕ drop_semicolon
block_braces s ts items = filled_braces s (items ⊕ orphans s.end)

-- among statements a block is a line of its own
abbrev pub block_items : Bool → Items → Items
block_items test items = items_if test indentation ⊕ items ⊕ items_if test soft_line

-- how a statement stands as the body of another one
abbrev pub shape_of_type : NodeType → Shape
shape_of_type types.BlockStatement = shapes.Block
shape_of_type types.IfStatement = shapes.If
shape_of_type types.EmptyStatement = shapes.Empty
shape_of_type type = shapes.Other

abbrev pub shape : Tree → Shape
shape t = shape_of_type (type_of t)

-- behind braces, and behind another body: whether `else` follows
abbrev pub braces_end : Bool → Items
braces_end true = soft_space
braces_end false = soft_line

abbrev pub body_end : Bool → Items
body_end true = indentation
body_end false = nothing

-- what `if` is followed by
pub record Consequent : Type 0 where
  -- its own span
  pub span : Span
  -- its items within what is around it
  pub inner : Items
  -- its items as it stands among statements
  pub whole : Items
  -- `else` stands behind it
  pub else_follows : Bool

-- by its shape; where it ends in an `if` without `else`, which the test tells, it stands in braces
abbrev pub consequent_items : Shape → Bool → Consequent → Items
consequent_items shapes.Block false c = soft_space ⊕ c.inner ⊕ braces_end c.else_follows
consequent_items shapes.Empty false c = punctuator semicolon ⊕ soft_line ⊕ body_end c.else_follows
consequent_items s false c = body_space ⊕ c.whole ⊕ body_end c.else_follows
consequent_items s true c = soft_space ⊕ filled_braces c.span c.whole ⊕ braces_end c.else_follows

-- what the head of a loop or a label is followed by: a block goes on with the line, and any other statement stands behind one space
abbrev pub body_items : Shape → Items → Items → Items
body_items shapes.Block inner whole = soft_space ⊕ inner ⊕ soft_line
body_items shapes.Empty inner whole = punctuator semicolon ⊕ soft_line
body_items s inner whole = body_space ⊕ whole

-- what `else` is followed by
abbrev pub alternate_items : Shape → Items → Items → Items
alternate_items shapes.If inner whole = hard_space ⊕ inner
alternate_items s inner whole = body_items s inner whole

-- what stands between `do` and `while`, which has a span: a statement that is no block stands on a line of its own, with its semicolon
abbrev pub do_items : Span → Shape → Items → Items → Items
do_items own shapes.Block inner whole = soft_space ⊕ inner ⊕ soft_space
do_items own shapes.Empty inner whole = comments all_of_them own.start ⊕ mark own ⊕ punctuator semicolon ⊕ soft_line ⊕ indentation
do_items own s inner whole = soft_line ⊕ deeper (whole ⊕ due_semicolon) ⊕ indentation

-- the same of the one statement of a case: what leads to it, and the statement
abbrev pub lead_to : Shape → Span → Lead
lead_to shapes.Block own = to_block
lead_to shapes.Empty own = to_empty own
lead_to s own = to_body

abbrev pub led_items : Shape → Items → Items → Items
led_items shapes.Block inner whole = inner ⊕ soft_line
led_items shapes.Empty inner whole = punctuator semicolon ⊕ soft_line
led_items s inner whole = whole

-- what stands behind the colon of a case: one statement as a body, or any other number on lines of their own
abbrev pub case_items : Trees → Items → Items → Items
case_items (more t no_trees) only statements = only
case_items ts only statements = soft_line ⊕ deeper statements

-- a target `async` stands apart from `of` in parentheses (ECMA-262, 14.7.5)
abbrev pub apart_from_of : Option Named → Items → Items
apart_from_of None items = items
apart_from_of (Some n) items = where_same n (as_written (codes "async")) (brackets Round items) items

-- what stands before `of`: where `await` stands before it, nothing else begins so
abbrev pub before_of : Bool → Option Named → Items → Items
before_of true named items = items
before_of false named items = apart_from_of named items

abbrev pub is_given : Maybe → Bool
is_given absent = false
is_given (given t) = true

-- ---- arrays and objects

-- how many stand in a list, those that are left out too
abbrev pub count : Trees → ℕ
count no_trees = 0
count (more t ts) = suc (count ts)
count (hole ts) = suc (count ts)

-- more than so many
abbrev pub are_more : ℕ → Trees → Bool
are_more n ts = nat_lt n (count ts)

abbrev pub next_line : Items
next_line = soft_line ⊕ indentation

-- what stands between two members: a line end, where each is on a line of its own, or a space
abbrev pub line_or_space : Bool → Items
line_or_space true = next_line
line_or_space false = soft_space

-- members on lines of their own are one level deeper
abbrev pub on_lines : Bool → Items → Items
on_lines true items = deeper (next_line ⊕ items) ⊕ next_line
on_lines false items = items

-- the last is left out
abbrev pub ends_in_hole : Trees → Bool
ends_in_hole no_trees = false
ends_in_hole (more t ts) = ends_in_hole ts
ends_in_hole (hole no_trees) = true
ends_in_hole (hole ts) = ends_in_hole ts

-- behind a last element that is left out a comma stands, as behind any other that is left out
abbrev pub comma_if : Bool → Items
comma_if true = punctuator comma
comma_if false = nothing

-- the comma between elements and what takes the rest
abbrev pub comma_if_any : Trees → Items
comma_if_any no_trees = nothing
comma_if_any ts = punctuator comma ⊕ soft_space

-- What stands in the braces of an object: a single property with a space on each side, more on lines of their own. Before each
-- stand comments
abbrev pub object_inside : Trees → Items → Items
object_inside no_trees items = items
object_inside (more t no_trees) items = items ⊕ soft_space
object_inside (hole no_trees) items = items ⊕ soft_space
object_inside ts items = deeper items ⊕ next_line

-- what stands before a member of an object
abbrev pub before_member : Bool → ℕ → Items
before_member true start = member_line start
before_member false start = member_space start

-- ---- comments before expressions

-- a function that is marked as called where it stands, whose comments stand inside of its parentheses
abbrev pub is_marked_as_called : Tree → Bool
is_marked_as_called (tree.function a id params body) = function_pife a
is_marked_as_called (tree.arrow_function a params body) = arrow_function_expression_pife a
is_marked_as_called t = false

-- the comments before an expression, and while it is in parentheses those before what is in them
abbrev pub before_expression : Manner → Tree → Items
before_expression manner (tree.parenthesized a expression) = comments manner a.span.start ⊕ before_expression manner expression
before_expression manner t = if is_marked_as_called t then nothing else comments manner (span_of t).start

-- the same inside of the parentheses, of a function that is marked so
abbrev pub before_called : Bool → Manner
before_called true = before_it
before_called false = none_of_them

-- a string that is a key is never in backticks
abbrev pub key_text : Tree → Items → Items
key_text (tree.string_literal a) items = comments with_key_annotation a.span.start ⊕ mark a.span ⊕ string false (string_literal_value a)
key_text key items = items

-- a key stands in brackets where it is computed, and where it is a negative number, which is no key by itself (ECMA-262, 13.2.5)
abbrev pub needs_brackets : Bool → Tree → Bool
needs_brackets computed key = computed || is_negative_number key

-- a key, in brackets where it needs them
abbrev pub key_items : Bool → Tree → Items → Items
key_items true key items = brackets Square (key_text key items)
key_items false key items = key_text key items

abbrev pub items_unless : Bool → Items → Items
items_unless true items = nothing
items_unless false items = items

-- what is left out where the value, which may be a name, is printed as the key is written
abbrev pub unless_said : List ℕ → Option Named → Items → Items
unless_said w None items = items
unless_said w (Some value) items = where_same value (as_written w) nothing items

-- A property whose key is this name. `{ __proto__ }` is a property of that name, and `{ __proto__: __proto__ }` sets the prototype
-- (ECMA-262, 13.2.5.5), so there the property tells which it is.
abbrev pub unless_short : Bool → List ℕ → Option Named → Items → Items
unless_short shorthand w value items = if is_proto w then items_unless shorthand items else unless_said w value items

-- what stands before a property's value: its key, which may be a name, and a colon, but where the value alone says the key
abbrev pub before_value : Bool → Option (List ℕ) → Option Named → Items → Items
before_value shorthand None value key = key ⊕ punctuator colon ⊕ soft_space
before_value shorthand (Some w) value key = unless_short shorthand w value (key ⊕ punctuator colon ⊕ soft_space)

-- what stands before what a property is bound to: its key, which may be a name, and a colon, but where that is printed as the key is
-- written, by itself or with a default
abbrev pub before_bound : Option (List ℕ) → Option Named → Items → Items
before_bound None value key = key ⊕ punctuator colon ⊕ soft_space
before_bound (Some w) value key = unless_said w value (key ⊕ punctuator colon ⊕ soft_space)

-- the braces of an object pattern, in which an empty one has nothing
abbrev pub pattern_braces : Trees → Maybe → Items → Items
pattern_braces no_trees absent items = brackets Brace nothing
pattern_braces properties rest items = brackets Brace (soft_space ⊕ items ⊕ soft_space)

-- what stands behind the elements of a pattern: what takes the rest, or else the comma of a last element that is left out
abbrev pub behind_elements : Trees → Maybe → Items → Items
behind_elements elements absent items = comma_if (ends_in_hole elements)
behind_elements elements (given rest) items = comma_if_any elements ⊕ items

-- the word before the key of an accessor
abbrev pub accessor_word : PropertyKind → Items
accessor_word property_kinds.Init = nothing
accessor_word property_kinds.Get = word (codes "get") ⊕ soft_space
accessor_word property_kinds.Set = word (codes "set") ⊕ soft_space

-- what a method or an accessor is spelled by, or any other property
abbrev pub method_or_property : Bool → Items → Items → Items
method_or_property true method property = method
method_or_property false method property = property

-- ECMA-262, 12.9.2
abbrev pub truth_word : Bool → List ℕ
truth_word true = codes "true"
truth_word false = codes "false"

-- ---- numbers

-- With a minus before it a number is an operation of one operand (ECMA-262, 13.5). The test tells that a dot behind the number would be its own
abbrev pub negative : Bool → List ℕ → Place → Items
negative dot_is_its_own text place = wrapped (wraps Prefix place) (operator minus ⊕ number dot_is_its_own text)

-- a number by its text, with a minus before it where the second test holds
abbrev pub signed : Bool → Bool → List ℕ → Place → Items
signed dot_is_its_own true text place = negative dot_is_its_own text place
signed dot_is_its_own false text place = number dot_is_its_own text

abbrev pub number_items : NumericKind → Atoms → Place → Items
number_items Whole a place = signed true (numeric_literal_negative a) (decimal (numeric_literal_digits a)) place
number_items Raw a place = signed (not (takes_no_dot (numeric_literal_text a))) (numeric_literal_negative a) (numeric_literal_text a) place

-- the text of a big integer, by its digits
abbrev pub big_text : List ℕ → List ℕ
big_text digits = digits ++ codes "n"

abbrev pub big_integer_items : Span → List ℕ → Option (List ℕ) → Place → Items
big_integer_items s value (Some digits) place = items_if (wraps Prefix place) (mark s) ⊕ wrapped (wraps Prefix place) (marked_operator s minus ⊕ number false (big_text digits))
big_integer_items s value None place = marked_number s false (big_text value)

-- ---- functions

-- a word before a key
abbrev pub key_word : List ℕ → Items
key_word w = word w ⊕ soft_space

-- in minified text a parameter may stand without parentheses, where it is the only one, and a name alone (ECMA-262, 15.3)
abbrev pub is_name_alone : Tree → Bool
is_name_alone (tree.formal_parameters a (more (tree.formal_parameter b (tree.binding_identifier i) absent) no_trees) absent) = true
is_name_alone t = false

abbrev pub parameter_items : Bool → Items → Items
parameter_items true items = parentheses_unless_minified items
parameter_items false items = brackets Round items

-- how a function stands
pub record FunctionStand : Type 0 where
  -- an annotation says that it has no side effects
  pub pure : Bool
  -- it is marked to stand in parentheses
  pub pife : Bool
  -- where it is printed
  pub place : Place
  -- where it begins in the source
  pub start : ℕ

-- a declaration among statements is a line of its own, and is never in parentheses
abbrev pub function_items : FunctionKind → FunctionStand → Items → Items
function_items function_kinds.Declaration f items = items_if f.place.in_list (comments all_of_them f.start ⊕ annotation_line true f.pure f.start) ⊕ block_items f.place.in_list items
-- an expression stands in parentheses where it is marked so, and where a statement or a default export begins with it
function_items function_kinds.Expression f items = annotation f.pure no_side_effects f.start ⊕ wrapped_at_start f.pife a_declaration (comments (before_called f.pife) f.start ⊕ items)

-- the words before a function's name (ECMA-262, 15.2, 15.5, 15.6 and 15.8); the tests tell that it is `async`, and a generator. Of two
-- marks of one span, one behind the other, the second is left out
abbrev pub function_words : Span → Bool → Bool → Items
function_words s is_async generator = items_if is_async (marked_word s (codes "async") ⊕ hard_space) ⊕ marked_word s (codes "function") ⊕ items_if generator (punctuator star ⊕ soft_space)

-- a function is the value of a property
abbrev pub is_function : NodeType → Bool
is_function types.Function = true
is_function type = false

-- what stands before the key of a method, by its function (ECMA-262, 15.4 to 15.8)
abbrev pub method_words : Tree → Items
method_words (tree.function a id params body) = items_if (function_is_async a) (key_word (codes "async")) ⊕ items_if (function_generator a) (punctuator star)
method_words t = nothing

-- the braces of a function's body, in which an empty one has comments alone; those at its last byte stand at its end
abbrev pub body_braces : Span → Trees → Trees → Items → Items
body_braces s no_trees no_trees items = mark s ⊕ brackets Brace (empty_body s.end ⊕ end_mark s) ⊕ drop_semicolon
body_braces s directives statements items = filled_braces s (held s.end (items ⊕ orphans s.end))

-- where an arrow function's body is an expression, it begins behind the arrow
abbrev pub body_begins : NodeType → Items
body_begins types.FunctionBody = nothing
body_begins type = arrow_body_begins

-- a comma stands between the parameters and the one that takes the rest
abbrev pub comma_between : Trees → Maybe → Items
comma_between no_trees rest = nothing
comma_between items absent = nothing
comma_between items (given rest) = punctuator comma ⊕ soft_space

-- ---- classes

-- a declaration among statements is a line of its own, and is never in parentheses; an expression is, where a statement or a default
-- export begins with it. The number is where it begins
abbrev pub class_items : ClassKind → Place → ℕ → Items → Items
class_items class_kinds.Declaration place start items = items_if place.in_list (comments all_of_them start) ⊕ block_items place.in_list items
class_items class_kinds.Expression place start items = wrapped_at_start false a_declaration items

-- what ends a member of a class among others: a field, whose semicolon is left to what follows, and any other
abbrev pub element_end : NodeType → Items
element_end types.PropertyDefinition = statement_end
element_end type = soft_line

-- among others a member is a line of its own
abbrev pub element_items : Bool → ℕ → Items → Items → Items
element_items in_list start items end = items_if in_list (comments all_of_them start ⊕ indentation) ⊕ items ⊕ items_if in_list end

abbrev pub method_kind_word : MethodDefinitionKind → Items
method_kind_word method_kinds.Get = key_word (codes "get")
method_kind_word method_kinds.Set = key_word (codes "set")
method_kind_word kind = nothing

-- ---- targets

-- a name's own text, and behind a colon what it is printed as
abbrev pub renamed_items : Named → Items
renamed_items n = name unmarked (as_written (own_name n)) ⊕ punctuator colon ⊕ soft_space ⊕ name unmarked n

-- a name alone, or where it is printed otherwise, that behind its own
abbrev pub own_or_renamed : Option Named → Items → Items
own_or_renamed None items = items
own_or_renamed (Some n) items = where_same n (as_written (own_name n)) items (renamed_items n)

-- the name that a target is, where it is one, also of a target with a default
abbrev pub target_named : Tree → Option Named
target_named (tree.target_with_default a binding init) = looked_up_in binding
target_named t = looked_up_in t

-- what stands before the target of a property: its key, which may be a name, but in minified text where the target alone says it
abbrev pub before_target : Option (List ℕ) → Option Named → Items → Items
before_target (Some w) (Some n) key = where_same n (as_written w) (unless_minified key) key
before_target w n key = key

-- an assignment in parentheses where the test holds, and where it begins with a brace that may not stand there (ECMA-262, 14.5)
abbrev pub assignment_items : NodeType → Bool → Items → Items
assignment_items types.ObjectAssignmentTarget test items = wrapped_at_start test a_brace items
assignment_items type test items = wrapped test items

-- ---- templates

-- the first of the pieces that are left, and those behind it
abbrev pub first_piece : Bool → (Trees → TemplatePart) → Trees → Items
first_piece is_tagged part no_trees = nothing
first_piece is_tagged part (more piece pieces) = template_part (part pieces) is_tagged (span_of piece) (template_element_raw (atoms_of piece))
first_piece is_tagged part (hole pieces) = nothing

abbrev pub other_pieces : Trees → Trees
other_pieces no_trees = no_trees
other_pieces (more piece pieces) = pieces
other_pieces (hole pieces) = pieces

-- what the first piece of a template is, and what another is, by the pieces behind it
abbrev pub opening_part : Trees → TemplatePart
opening_part no_trees = whole_part
opening_part pieces = head_part

abbrev pub further_part : Trees → TemplatePart
further_part no_trees = tail_part
further_part pieces = middle_part

-- a template of one piece may be a property's name, with an annotation before it
abbrev pub is_one : Trees → Bool
is_one (more piece no_trees) = true
is_one pieces = false

-- ---- imports and exports

-- the characters of a string, where each of its surrogates is in a pair
abbrev pub string_named : List ℕ → Option Named
string_named units = if has_lone units then None else Some (as_written (joined_units units))

-- what an export is known by, or a binding: a name as it is printed, or the text of a string
abbrev pub export_named : Tree → Option Named
export_named (tree.identifier_name a) = Some (as_written (identifier_name_name a))
export_named (tree.identifier_reference a) = Some (reference_named a)
export_named (tree.binding_identifier a) = Some (binding_named a)
export_named (tree.string_literal a) = string_named (string_literal_value a)
export_named t = None

-- nothing where two names are printed the same
abbrev pub unless_named : Option Named → Option Named → Items → Items
unless_named (Some m) (Some n) items = where_same m n nothing items
unless_named m n items = items

-- and nothing where two strings are the same
abbrev pub unless_same : Tree → Tree → Items → Items
unless_same (tree.string_literal a) (tree.string_literal b) items = items_unless (bytes_eq (string_literal_value a) (string_literal_value b)) items
unless_same t u items = unless_named (export_named t) (export_named u) items

-- `as`, and a name behind it
abbrev pub as_name : Items → Items
as_name items = soft_space ⊕ word (codes "as") ⊕ soft_space ⊕ items

-- An import by its name: what is imported, and behind `as` the name that it has here, where the two differ. Of a string that says
-- the same the name alone is left
abbrev pub import_items : Tree → Tree → Items → Items → Items
import_items (tree.string_literal a) local imported bound = unless_same (tree.string_literal a) local (imported ⊕ soft_space ⊕ word (codes "as") ⊕ soft_space) ⊕ bound
import_items t local imported bound = imported ⊕ unless_same t local (as_name bound)

-- what is imported behind a default, or without one: all exports, or in braces some by their names. The items are of the first, and of all
abbrev pub others_items : NodeType → Items → Items → Items
others_items types.ImportNamespaceSpecifier first every = first ⊕ hard_space
others_items type first every = brackets Brace (soft_space ⊕ every ⊕ soft_space) ⊕ soft_space

-- an import begins with a default, or with what may stand behind one
abbrev pub clause_items : NodeType → Items → Items → Items → Items
clause_items types.ImportDefaultSpecifier first behind others = hard_space ⊕ first ⊕ behind
clause_items type first behind others = soft_space ⊕ others

-- braces with a space on each side of what is in them, and nothing in empty ones
abbrev pub spaced_braces : Trees → Items → Items
spaced_braces no_trees items = brackets Brace nothing
spaced_braces ts items = brackets Brace (soft_space ⊕ items ⊕ soft_space)

-- a key of an attribute: a name without a mark, or a string
abbrev pub attribute_key : Tree → Items → Items
attribute_key (tree.identifier_name a) items = name unmarked (as_written (identifier_name_name a))
attribute_key key items = items

abbrev pub space_by : Bool → Items
space_by true = hard_space
space_by false = soft_space

abbrev pub is_empty_list : MaybeTrees → Bool
is_empty_list (listed no_trees) = true
is_empty_list ts = false

-- where an argument begins, if there is one
abbrev pub starts_if : Maybe → List ℕ
starts_if absent = []
starts_if (given t) = (span_of t).start ∷ []

-- what an import or an export begins with
abbrev pub module_word : Span → List ℕ → Items
module_word s w = comments all_of_them s.start ⊕ indentation ⊕ mark s ⊕ word w

-- what the export of a declaration begins with; the test tells that it is a function that has no side effects
abbrev pub export_word : Bool → Span → Items
export_word pure s = comments all_of_them s.start ⊕ annotation_line false pure s.start ⊕ indentation ⊕ mark s ⊕ word (codes "export")

-- what ends a declaration that is exported
abbrev pub exported_end : NodeType → Items
exported_end types.VariableDeclaration = statement_end
exported_end type = soft_line ⊕ drop_semicolon

abbrev pub is_declared_function : FunctionKind → Bool
is_declared_function function_kinds.Declaration = true
is_declared_function function_kinds.Expression = false

abbrev pub is_declared_class : ClassKind → Bool
is_declared_class class_kinds.Declaration = true
is_declared_class class_kinds.Expression = false

-- a function or a class that is declared
abbrev pub is_declared : Tree → Bool
is_declared (tree.function a id params body) = is_declared_function (function_kind a)
is_declared (tree.class a id heritage body) = is_declared_class (class_kind a)
is_declared t = false

-- a function that is declared, and has no side effects
abbrev pub is_pure_declaration : Tree → Bool
is_pure_declaration (tree.function a id params body) = is_declared_function (function_kind a) && function_pure a
is_pure_declaration t = false

-- what is exported by default: a declaration, or an expression, which may begin with neither a function nor a class (ECMA-262, 16.2.3)
abbrev pub default_items : Bool → Items → Items → Items
default_items true declaration expression = declaration ⊕ soft_line
default_items false declaration expression = default_export_begins ⊕ expression ⊕ statement_end
