-- Validity: the rules that a tree breaks, each with the start of the node at which it is broken.
use Rattle.std.specs.Prelude.{◌≡◌, ◌==◌, ℕ, suc, ◌+◌, ◌*◌, max, List, [], ◌∷◌, ◌++◌, length, slice_get, codes, Bool, true, false, not, ◌&&◌, ◌||◌, nat_lt, Contains, is_some, Result, Ok, Err, if◌then◌else◌, Option, Some, None}
use Rattle.std.specs.Option.{option_map_or}
use Rattle.std.specs.Str.{encode_utf8_all}
use Rattle.jsgen_syntax.specs.Name.{spells_name, is_free_name}
use Rattle.jsgen_syntax.specs.Raw.{directive_value}
use Rattle.jsgen_syntax.specs.declared.span.Span.{Span}
use Rattle.jsgen_tree.specs.declared.types.NodeSet.{NodeSet}
use Rattle.jsgen_tree.specs.declared.types.NodeSet.TheVariants as sets
use Rattle.jsgen_tree.specs.declared.types.NodeType.{NodeType}
use Rattle.jsgen_tree.specs.declared.types.NodeType.TheVariants as types
use Rattle.jsgen_tree.specs.declared.statements.CommentKind.{CommentKind}
use Rattle.jsgen_tree.specs.declared.statements.CommentKind.TheVariants as comments
use Rattle.jsgen_tree.specs.declared.collections.PropertyKind.{PropertyKind}
use Rattle.jsgen_tree.specs.declared.collections.PropertyKind.TheVariants as property_kinds
use Rattle.jsgen_syntax.specs.declared.operator.AssignmentOperator.{AssignmentOperator}
use Rattle.jsgen_syntax.specs.declared.operator.AssignmentOperator.TheVariants as assignment_operators
use Rattle.jsgen_tree.specs.declared.functions.FunctionKind.{FunctionKind}
use Rattle.jsgen_tree.specs.declared.functions.FunctionKind.TheVariants as function_kinds
use Rattle.jsgen_tree.specs.declared.classes.ClassKind.{ClassKind}
use Rattle.jsgen_tree.specs.declared.classes.ClassKind.TheVariants as class_kinds
use Rattle.jsgen_tree.specs.declared.classes.MethodDefinitionKind.{MethodDefinitionKind}
use Rattle.jsgen_tree.specs.declared.classes.MethodDefinitionKind.TheVariants as method_kinds
use Rattle.jsgen_tree.specs.declared.statements.VariableDeclarationKind.{VariableDeclarationKind}
use Rattle.jsgen_tree.specs.declared.statements.VariableDeclarationKind.TheVariants as kinds
use Rattle.jsgen_tree.specs.Options as chosen
use Rattle.jsgen_tree.specs.Options.{Legal, Options}
use Rattle.jsgen_tree.specs.Job.{Scoping, Tables, JobData}
use Rattle.jsgen_tree.specs.Named.{Named, looked_up, bound, printed_name}
use Rattle.jsgen_tree.specs.Table.{child_sets}
use Rattle.jsgen_tree.specs.Fields.{fields}
use Rattle.jsgen_tree.specs.Sets.{in_set, is_expression}
use Rattle.jsgen_tree.specs.Number.{NumericKind, Whole, Raw}
use Rattle.jsgen_tree.specs.Inside.{inside_parentheses, looked_up_in, reference_named, binding_named, declared_kind, function_in, class_head_in, has_name, written_name_in, is_proto, is_method, is_negative_number, is_negative_big_integer, has_optional_link}
use Rattle.jsgen_tree.specs.Tree.{Tree, node, Slots, no_slots, one, maybe, many, maybe_many, Maybe, absent, given, Trees, no_trees, more, hole, MaybeTrees, no_list, listed, type_of, span_of}
use Rattle.jsgen_tree.specs.Nodes as tree
use Rattle.jsgen_tree.specs.Values.{as_text, program_source, comment_kind, directive_directive, identifier_name_name, label_identifier_name, numeric_literal_kind, numeric_literal_text, big_int_literal_value, reg_exp_literal_pattern, reg_exp_literal_flags, object_property_kind, object_property_method, object_property_shorthand, object_property_computed, function_kind, static_member_expression_optional, computed_member_expression_optional, call_expression_optional, binding_property_computed, private_identifier_name, class_kind, method_definition_kind, method_definition_computed, property_definition_computed, assignment_expression_operator, identifier_reference_name, assignment_target_property_property_computed, template_element_raw, template_element_cooked, hashbang_value, function_is_async, function_generator, arrow_function_expression_is_async, for_of_statement_is_await, yield_expression_delegate}
use Rattle.jsgen_model.specs.Numbers.{is_raw_number, is_big_integer}
use Rattle.jsgen_model.specs.RegularExpressions.{is_body, are_flags}
use Rattle.jsgen_model.specs.Templates.{is_raw, is_cooked}
use Rattle.jsgen_model.specs.Tokens.{has_line_end}
use Rattle.jsgen_model.specs.Ends.{reference}
use Rattle.jsgen_model.specs.Private.{classes_within, printed_private}
pub use Rattle.jsgen_model.specs.Spans.{begins_character, is_offset, spans_characters, text_at}
use Rattle.jsgen_model.specs.Resolved.{after, after_maybe, after_trees, after_maybe_trees}
use Rattle.jsgen_model.specs.declared.fault.TreeFault.{TreeFault}
use Rattle.jsgen_model.specs.declared.fault.TreeFault.TheVariants as faults

-- What surrounds a node: the options, the tables, the program's source, whether spans have to be of that source, the classes with a
-- table round it, the innermost first, and whether `return`, `yield` and `await` may stand there (ECMA-262, 14.10, 15.5 and 15.8)
pub record Surroundings : Type 0 where
  pub options : Options
  pub tables : Tables
  pub source : List ℕ
  pub is_mapped : Bool
  pub classes : List ℕ
  pub in_function : Bool
  pub may_yield : Bool
  pub may_await : Bool

-- a child's place: the set that its field asks for, and what surrounds it
pub record ChildPlace : Type 0 where
  pub set : NodeSet
  pub around : Surroundings

-- the object of a member and what is called: what a link goes on from
abbrev pub before_link : List NodeSet → List NodeSet
before_link [] = []
before_link (s ∷ ss) = sets.Link ∷ ss

-- what a node's fields ask for
abbrev pub asked_sets : NodeType → List NodeSet
asked_sets types.StaticMemberExpression = before_link (child_sets (fields types.StaticMemberExpression))
asked_sets types.ComputedMemberExpression = before_link (child_sets (fields types.ComputedMemberExpression))
asked_sets types.CallExpression = before_link (child_sets (fields types.CallExpression))
asked_sets types.BindingProperty = sets.PropertyKey ∷ sets.BindingElement ∷ []
asked_sets types.ArrayPattern = sets.BindingElement ∷ sets.BindingRestElement ∷ []
asked_sets types.PrivateFieldExpression = before_link (child_sets (fields types.PrivateFieldExpression))
asked_sets types.Program = sets.Comment ∷ sets.Hashbang ∷ sets.Directive ∷ sets.ModuleItem ∷ []
asked_sets type = child_sets (fields type)

-- neither parameters nor a class's members take what the function round them may do: of the three nothing stands there
abbrev pub within_nothing : Surroundings → Surroundings
within_nothing around = record around { in_function = false; may_yield = false; may_await = false }

-- the body of a function by its two flags (ECMA-262, 15.2, 15.5, 15.6 and 15.8)
abbrev pub within_function : Bool → Bool → Surroundings → Surroundings
within_function is_async generator around = record around { in_function = true; may_yield = generator; may_await = is_async }

-- what follows the arrow, be it an expression or a body in braces, of which the latter takes `return` (ECMA-262, 15.3 and 15.9)
abbrev pub within_arrow : Bool → Surroundings → Surroundings
within_arrow is_async around = record around { in_function = false; may_yield = false; may_await = is_async }

abbrev pub within_braces : Surroundings → Surroundings
within_braces around = record around { in_function = true }

-- the members of the class with this number
abbrev pub within_class : ℕ → Surroundings → Surroundings
within_class number around = record around { classes = classes_within around.tables number around.classes }

-- What surrounds a node's children, field by field, where the next class has this number. Behind the last that is given, it is what
-- surrounds the node: so of a class's heritage and of computed keys.
abbrev pub around_fields : Surroundings → ℕ → Tree → List Surroundings
around_fields around next (tree.function a id params body) = around ∷ within_nothing around ∷ within_function (function_is_async a) (function_generator a) around ∷ []
around_fields around next (tree.arrow_function a params body) = within_nothing around ∷ within_arrow (arrow_function_expression_is_async a) around ∷ []
around_fields around next (tree.function_body a directives statements) = within_braces around ∷ within_braces around ∷ []
around_fields around next (tree.class_body a members) = within_class next around ∷ []
around_fields around next (tree.property_definition a key value) = around ∷ within_nothing around ∷ []
around_fields around next (tree.static_block a statements) = within_nothing around ∷ []
around_fields around next t = []

-- the number of the first class among a node's children, where the next one has this
abbrev pub first_number : Tree → ℕ → ℕ
first_number (tree.class_body a members) next = suc next
first_number t next = next

-- what these sets ask for, in what surrounds each of them
abbrev pub places_of : Surroundings → List NodeSet → List Surroundings → List ChildPlace
places_of around [] inside = []
places_of around (s ∷ sets) [] = record { set = s; around = around } ∷ places_of around sets []
places_of around (s ∷ sets) (within ∷ inside) = record { set = s; around = within } ∷ places_of around sets inside

-- the places of a node's children, field by field
abbrev pub child_places : Surroundings → ℕ → Tree → List ChildPlace
child_places around next t = places_of around (asked_sets (type_of t)) (around_fields around next t)

abbrev pub fault_if : Bool → TreeFault → List TreeFault
fault_if true f = f ∷ []
fault_if false f = []

-- ---- what each rule asks

-- where it has to be, a span that isn't empty is one of the source
abbrev pub is_off_source : Bool → List ℕ → Span → Bool
is_off_source is_mapped source s = is_mapped && nat_lt s.start s.end && not (spans_characters (encode_utf8_all source) s)

-- a start isn't after its end
abbrev pub span_faults : Surroundings → Span → List TreeFault
span_faults around s = fault_if (nat_lt s.end s.start || is_off_source around.is_mapped around.source s) (faults.Span s.start)

-- the table has the symbol that this entry names, if it names one; there is no entry where the reference is in no table
abbrev pub names_a_symbol : List (List ℕ) → Option (Option ℕ) → Bool
names_a_symbol symbols None = false
names_a_symbol symbols (Some None) = true
names_a_symbol symbols (Some (Some symbol)) = nat_lt symbol (length symbols)

-- the number of a name is in its table, and leads to a symbol or to none
abbrev pub is_in_tables : Scoping → Named → Bool
is_in_tables scoping (looked_up (Some reference) w) = names_a_symbol scoping.symbols (slice_get scoping.references reference)
is_in_tables scoping (bound (Some symbol) w) = nat_lt symbol (length scoping.symbols)
is_in_tables scoping name = true

-- what is printed for a name is an identifier in strict code (ECMA-262, 13.1); that `eval` and `arguments` may not be bound is no rule yet
abbrev pub name_faults : Tables → Span → Named → List TreeFault
name_faults tables s name = fault_if (not (option_map_or (λ scoping. is_in_tables scoping name) tables.scoping true && is_free_name (printed_name tables name))) (faults.Name s.start)

-- a directive's raw text spells a string (ECMA-262, 12.9.4)
abbrev pub directive_faults : Span → List ℕ → List TreeFault
directive_faults s raw = fault_if (not (is_some (directive_value raw))) (faults.Literal s.start)

-- the text of a number is one (ECMA-262, 12.9.3)
abbrev pub raw_number_faults : Span → List ℕ → List TreeFault
raw_number_faults s text = fault_if (not (is_raw_number text)) (faults.Literal s.start)

abbrev pub number_faults : Span → NumericKind → List ℕ → List TreeFault
number_faults s Whole text = []
number_faults s Raw text = raw_number_faults s text

-- a big integer is an integer, in decimal digits (ECMA-262, 12.9.3)
abbrev pub big_integer_faults : Span → List ℕ → List TreeFault
big_integer_faults s value = fault_if (not (is_big_integer value)) (faults.Literal s.start)

-- a regular expression has a body and flags (ECMA-262, 12.9.5)
abbrev pub regular_expression_faults : Span → List ℕ → List ℕ → List TreeFault
regular_expression_faults s pattern flags = fault_if (not (is_body pattern && are_flags flags)) (faults.Literal s.start)

-- a piece of a template is its raw text, and what that stands for (ECMA-262, 12.9.6)
abbrev pub piece_faults : Span → List ℕ → Option (List ℕ) → List TreeFault
piece_faults s raw cooked = fault_if (not (is_raw raw && is_cooked raw cooked)) (faults.Template s.start)

-- a template has one piece more than expressions (ECMA-262, 13.2.8)
abbrev pub is_one_more : Trees → Trees → Bool
is_one_more (more piece no_trees) no_trees = true
is_one_more (more piece pieces) (more t ts) = is_one_more pieces ts
is_one_more pieces ts = false

abbrev pub template_faults : Span → Trees → Trees → List TreeFault
template_faults s quasis expressions = fault_if (not (is_one_more quasis expressions)) (faults.Template s.start)

-- a member's name is a name, be it reserved or not
abbrev pub written_name_faults : Span → List ℕ → List TreeFault
written_name_faults s name = fault_if (not (spells_name name)) (faults.Name s.start)

-- a declaration has a declarator
abbrev pub declaration_faults : Span → Trees → List TreeFault
declaration_faults s no_trees = faults.Place s.start ∷ []
declaration_faults s ts = []

-- a sequence has two parts or more (ECMA-262, 13.16)
abbrev pub sequence_faults : Span → Trees → List TreeFault
sequence_faults s (more t (more u ts)) = []
sequence_faults s ts = faults.Place s.start ∷ []

-- what `if` and `else`, the head of a loop, `do` or a label are followed by is no declaration; `var` begins a statement (ECMA-262, 14.6, 14.7 and 14.13)
abbrev pub is_lexical_word : VariableDeclarationKind → Bool
is_lexical_word kinds.Var = false
is_lexical_word kind = true

abbrev pub is_declaration : Tree → Bool
is_declaration t = option_map_or is_lexical_word (declared_kind t) (is_some (function_in t) || is_some (class_head_in t))

abbrev pub body_faults : Tree → List TreeFault
body_faults t = fault_if (is_declaration t) (faults.Place (span_of t).start)

abbrev pub alternate_faults : Maybe → List TreeFault
alternate_faults absent = []
alternate_faults (given t) = body_faults t

-- a function has a body (ECMA-262, 15.2)
abbrev pub function_faults : Span → Maybe → List TreeFault
function_faults s absent = faults.Place s.start ∷ []
function_faults s (given body) = []

-- `return` stands in a function's body (ECMA-262, 14.10)
abbrev pub return_faults : Bool → Span → List TreeFault
return_faults in_function s = fault_if (not in_function) (faults.Place s.start)

-- `await`, also that of a loop, stands in the body of an `async` function and among a module's statements (ECMA-262, 14.7.5 and 15.8)
abbrev pub await_faults : Bool → Bool → Span → List TreeFault
await_faults waits may_await s = fault_if (waits && not may_await) (faults.Place s.start)

-- `yield` stands in a generator's body, and has an argument where it hands on all values of another (ECMA-262, 15.5)
abbrev pub yield_faults : Bool → Bool → Maybe → Span → List TreeFault
yield_faults may_yield delegate absent s = fault_if (delegate || not may_yield) (faults.Place s.start)
yield_faults may_yield delegate (given t) s = fault_if (not may_yield) (faults.Place s.start)

-- a getter has no parameter, and a setter has one, which doesn't take the rest (ECMA-262, 15.4)
abbrev pub fits_accessor : PropertyKind → Tree → Bool
fits_accessor property_kinds.Init params = true
fits_accessor property_kinds.Get (tree.formal_parameters a no_trees absent) = true
fits_accessor property_kinds.Set (tree.formal_parameters a (more p no_trees) absent) = true
fits_accessor kind params = false

-- and is neither `async` nor a generator
abbrev pub fits_words : PropertyKind → Bool → Bool → Bool
fits_words property_kinds.Init is_async generator = true
fits_words kind is_async generator = not (is_async || generator)

-- the value of a method or an accessor is a function without a name
abbrev pub fits_method : PropertyKind → Tree → Bool
fits_method kind (tree.function a absent params body) = fits_accessor kind params && fits_words kind (function_is_async a) (function_generator a)
fits_method kind t = false

-- and its key, where it isn't computed, is no negative number
abbrev pub method_faults : PropertyKind → Bool → Tree → Tree → List TreeFault
method_faults kind computed key value = fault_if (not computed && is_negative_number key) (faults.Place (span_of key).start) ++ fault_if (not (fits_method kind value)) (faults.Place (span_of value).start)

-- a label is an identifier in strict code (ECMA-262, 14.13)
abbrev pub label_faults : Span → List ℕ → List TreeFault
label_faults s name = fault_if (not (is_free_name name)) (faults.Name s.start)

-- how many cases have no test
abbrev pub defaults : Trees → ℕ
defaults no_trees = 0
defaults (more (tree.switch_case a absent consequent) ts) = suc (defaults ts)
defaults (more t ts) = defaults ts
defaults (hole ts) = defaults ts

-- `switch` has one such case at most (ECMA-262, 14.12)
abbrev pub switch_faults : Span → Trees → List TreeFault
switch_faults s cases = fault_if (nat_lt 1 (defaults cases)) (faults.Place s.start)

-- `try` has a handler or a finalizer (ECMA-262, 14.15)
abbrev pub try_faults : Span → Maybe → Maybe → List TreeFault
try_faults s absent absent = faults.Place s.start ∷ []
try_faults s handler finalizer = []

-- A key that isn't computed is a name, a string, a number or a big integer (ECMA-262, 13.2.5), and one that is, is an expression.
-- A negative number is a key all the same, since it is printed as a computed one; a negative big integer isn't
abbrev pub is_literal_key : NodeType → Bool
is_literal_key types.IdentifierName = true
is_literal_key types.StringLiteral = true
is_literal_key types.NumericLiteral = true
is_literal_key types.BigIntLiteral = true
is_literal_key type = false

abbrev pub may_be_key : Bool → Tree → Bool
may_be_key true key = is_expression (type_of key)
may_be_key false key = is_literal_key (type_of key) && not (is_negative_big_integer key)

abbrev pub key_faults : Bool → Tree → List TreeFault
key_faults computed key = fault_if (not (may_be_key computed key)) (faults.Place (span_of key).start)

-- a key of a pattern is one of a property, and no negative number where it isn't computed
abbrev pub may_be_pattern_key : Bool → Tree → Bool
may_be_pattern_key true key = is_expression (type_of key)
may_be_pattern_key false key = may_be_key false key && not (is_negative_number key)

abbrev pub pattern_key_faults : Bool → Tree → List TreeFault
pattern_key_faults computed key = fault_if (not (may_be_pattern_key computed key)) (faults.Place (span_of key).start)

-- A key of a class's member may be a private name too, and is no negative number, where it isn't computed (ECMA-262, 15.7)
abbrev pub is_private : NodeType → Bool
is_private types.PrivateIdentifier = true
is_private type = false

abbrev pub may_be_member_key : Bool → Tree → Bool
may_be_member_key true key = is_expression (type_of key)
may_be_member_key false key = is_private (type_of key) || may_be_pattern_key false key

abbrev pub member_key_faults : Bool → Tree → List TreeFault
member_key_faults computed key = fault_if (not (may_be_member_key computed key)) (faults.Place (span_of key).start)

-- what a method of a class asks of its parameters: what one of an object does
abbrev pub as_property : MethodDefinitionKind → PropertyKind
as_property method_kinds.Get = property_kinds.Get
as_property method_kinds.Set = property_kinds.Set
as_property kind = property_kinds.Init

abbrev pub class_method_faults : MethodDefinitionKind → Tree → List TreeFault
class_method_faults kind value = fault_if (not (fits_method (as_property kind) value)) (faults.Place (span_of value).start)

-- what is printed for a private name is a name (ECMA-262, 12.7): by the innermost class round it whose table holds it
abbrev pub private_name_faults : Tables → List ℕ → Span → List ℕ → List TreeFault
private_name_faults tables classes s w = fault_if (not (spells_name (printed_private tables classes w))) (faults.Name s.start)

-- the value of a property `__proto__` that it alone says is a reference that is printed so
abbrev pub named_faults : Tables → Span → Option Named → List TreeFault
named_faults tables s None = faults.Place s.start ∷ []
named_faults tables s (Some name) = fault_if (not (is_proto (printed_name tables name))) (faults.Name s.start)

abbrev pub shorthand_faults : Tables → Bool → Tree → Tree → List TreeFault
shorthand_faults tables shorthand key value = if shorthand && option_map_or is_proto (written_name_in key) false then named_faults tables (span_of value) (looked_up_in (inside_parentheses value)) else []

-- `super` is an expression that a link follows (ECMA-262, 13.3.7)
abbrev pub is_super : NodeType → Bool
is_super types.Super = true
is_super type = false

-- and no optional one
abbrev pub super_faults : Bool → Tree → List TreeFault
super_faults optional object = fault_if (optional && is_super (type_of object)) (faults.Place (span_of object).start)

-- a chain has an optional link (ECMA-262, 13.3)
abbrev pub chain_faults : Span → Tree → List TreeFault
chain_faults s element = fault_if (not (has_optional_link element)) (faults.Place s.start)

-- what is changed has none (ECMA-262, 13.3.1.1)
abbrev pub target_faults : Tree → List TreeFault
target_faults target = fault_if (has_optional_link target) (faults.Place (span_of target).start)

-- a target that is given several values
abbrev pub is_target_pattern : NodeType → Bool
is_target_pattern types.ArrayAssignmentTarget = true
is_target_pattern types.ObjectAssignmentTarget = true
is_target_pattern type = false

-- the value is given as it is
abbrev pub assigns_alone : AssignmentOperator → Bool
assigns_alone assignment_operators.Assign = true
assigns_alone o = false

-- what is given a value has no optional link, and is a pattern for `=` alone (ECMA-262, 13.15.1)
abbrev pub assigned_faults : AssignmentOperator → Tree → List TreeFault
assigned_faults o target = fault_if (has_optional_link target || (not (assigns_alone o) && is_target_pattern (type_of target))) (faults.Place (span_of target).start)

-- what takes the rest of an object is no pattern (ECMA-262, 13.15.5.1)
abbrev pub object_rest_faults : Maybe → List TreeFault
object_rest_faults (given (tree.target_rest a target)) = fault_if (is_target_pattern (type_of target)) (faults.Place (span_of target).start)
object_rest_faults rest = []

-- the own name of what a property of its name is given to is a name, be it reserved or not, since it may be printed as a key
abbrev pub shorthand_name_faults : Tree → List TreeFault
shorthand_name_faults (tree.identifier_reference a) = written_name_faults a.span (identifier_reference_name a)
shorthand_name_faults t = []

-- a loop over the values of another binds one name or one pattern, without a value (ECMA-262, 14.7.5)
abbrev pub is_one_name : Trees → Bool
is_one_name (more (tree.variable_declarator a id absent) no_trees) = true
is_one_name ts = false

abbrev pub left_faults : Tree → List TreeFault
left_faults (tree.variable_declaration a declarations) = fault_if (not (is_one_name declarations)) (faults.Place a.span.start)
left_faults left = target_faults left

-- ---- patterns (ECMA-262, 14.3.3)

abbrev pub is_binding_name : NodeType → Bool
is_binding_name types.BindingIdentifier = true
is_binding_name type = false

-- what takes the rest of an object is a name
abbrev pub rest_faults : Maybe → List TreeFault
rest_faults (given (tree.binding_rest_element a argument)) = fault_if (not (is_binding_name (type_of argument))) (faults.Place (span_of argument).start)
rest_faults rest = []

-- a pattern without a value
abbrev pub lacks_value : Tree → Bool
lacks_value (tree.variable_declarator a id absent) = not (is_binding_name (type_of id))
lacks_value t = false

abbrev pub any_lacks_value : Trees → Bool
any_lacks_value no_trees = false
any_lacks_value (more t ts) = lacks_value t || any_lacks_value ts
any_lacks_value (hole ts) = any_lacks_value ts

-- the span of the first such declarator, and this one where there is none
abbrev pub lacking : Span → Trees → Span
lacking s no_trees = s
lacking s (more t ts) = if lacks_value t then span_of t else lacking s ts
lacking s (hole ts) = lacking s ts

-- a declaration binds a pattern and gives it no value, which only the head of a loop over values does (ECMA-262, 14.3.1 and 14.3.2)
abbrev pub binds_nothing : Tree → Bool
binds_nothing (tree.variable_declaration a declarations) = any_lacks_value declarations
binds_nothing t = false

-- where it does so: at the declarator
abbrev pub unbound : Tree → Span
unbound (tree.variable_declaration a declarations) = lacking a.span declarations
unbound t = span_of t

abbrev pub init_faults : Maybe → List TreeFault
init_faults absent = []
init_faults (given t) = fault_if (binds_nothing t) (faults.Place (unbound t).start)

-- ---- imports, exports and hashbangs (ECMA-262, 16.2 and 12.5)

-- a hashbang is one line
abbrev pub hashbang_faults : Span → List ℕ → List TreeFault
hashbang_faults s value = fault_if (has_line_end value) (faults.Literal s.start)

abbrev pub is_named_import : NodeType → Bool
is_named_import types.ImportSpecifier = true
is_named_import type = false

-- each of these is of a type that fits
abbrev pub misplaced_faults : (NodeType → Bool) → Trees → List TreeFault
misplaced_faults fits no_trees = []
misplaced_faults fits (more t ts) = fault_if (not (fits (type_of t))) (faults.Place (span_of t).start) ++ misplaced_faults fits ts
misplaced_faults fits (hole ts) = misplaced_faults fits ts

-- all exports by one name, and nothing behind them, or some by theirs
abbrev pub behind_default_faults : Trees → List TreeFault
behind_default_faults (more (tree.import_namespace_specifier a local) ts) = misplaced_faults (λ type. false) ts
behind_default_faults ts = misplaced_faults is_named_import ts

-- a default stands first
abbrev pub specifier_faults : Trees → List TreeFault
specifier_faults (more (tree.import_default_specifier a local) ts) = behind_default_faults ts
specifier_faults ts = behind_default_faults ts

abbrev pub import_faults : MaybeTrees → List TreeFault
import_faults no_list = []
import_faults (listed ts) = specifier_faults ts

abbrev pub is_reference : NodeType → Bool
is_reference types.IdentifierReference = true
is_reference type = false

-- what an export of another module is of is no reference, and that of this module is one
abbrev pub fits_source : Bool → NodeType → Bool
fits_source true type = not (is_reference type)
fits_source false type = is_reference type

abbrev pub export_faults : Bool → Trees → List TreeFault
export_faults has_source no_trees = []
export_faults has_source (more (tree.export_specifier a local exported) ts) = fault_if (not (fits_source has_source (type_of local))) (faults.Place a.span.start) ++ export_faults has_source ts
export_faults has_source (more t ts) = export_faults has_source ts
export_faults has_source (hole ts) = export_faults has_source ts

-- ---- comments (ECMA-262, 12.4 and B.1.1)

-- the text begins so, and what follows holds
abbrev pub begins_with_mark : List ℕ → (List ℕ → Bool) → List ℕ → Bool
begins_with_mark [] holds cs = holds cs
begins_with_mark (m ∷ mark) holds [] = false
begins_with_mark (m ∷ mark) holds (c ∷ cs) = (m == c) && begins_with_mark mark holds cs

-- the first `*/` is the end of the text
abbrev pub ends_at_close : List ℕ → Bool
ends_at_close [] = false
ends_at_close (c ∷ []) = false
ends_at_close (c ∷ d ∷ []) = (c == 42) && (d == 47)
ends_at_close (c ∷ d ∷ e ∷ cs) = not ((c == 42) && (d == 47)) && ends_at_close (d ∷ e ∷ cs)

-- the text is a comment of this kind
abbrev pub is_comment : CommentKind → List ℕ → Bool
is_comment comments.Line cs = begins_with_mark (codes "//") (λ rest. not (has_line_end rest)) cs
is_comment comments.HtmlOpen cs = begins_with_mark (codes "<!--") (λ rest. not (has_line_end rest)) cs
is_comment comments.HtmlClose cs = begins_with_mark (codes "-->") (λ rest. not (has_line_end rest)) cs
is_comment comments.SingleLineBlock cs = begins_with_mark (codes "/*") (λ rest. not (has_line_end rest) && ends_at_close rest) cs
is_comment comments.MultiLineBlock cs = begins_with_mark (codes "/*") (λ rest. has_line_end rest && ends_at_close rest) cs

-- a comment is one of its kind in the source
abbrev pub comment_faults : List ℕ → Span → CommentKind → List TreeFault
comment_faults source s kind = fault_if (not (spans_characters (encode_utf8_all source) s && is_comment kind (text_at (encode_utf8_all source) s))) (faults.Comment s.start)

-- what names the file of the licences is a line's end and a comment on one line, whatever the path in it holds
abbrev pub names_a_file : Legal → Bool
names_a_file (chosen.linked path) = begins_with_mark (codes "\n") (is_comment comments.SingleLineBlock) (reference path)
names_a_file legal = true

abbrev pub licence_faults : Span → Legal → List TreeFault
licence_faults s legal = fault_if (not (names_a_file legal)) (faults.Comment s.start)

-- ---- programs

-- offsets of the source don't fit 32 bits
abbrev pub is_too_long : List ℕ → Bool
is_too_long source = nat_lt 4294967295 (length (encode_utf8_all source))

abbrev pub source_faults : Span → List ℕ → List TreeFault
source_faults s source = fault_if (is_too_long source) (faults.Span s.start)

-- what a program breaks by its source and by the options, its height aside
abbrev pub program_faults : Span → List ℕ → Options → List TreeFault
program_faults s source options = source_faults s source ++ licence_faults s options.comments.legal

-- how many nodes stand on the longest way down: 1 without a child
abbrev mutual
  pub height : Tree → ℕ
  height (node type a slots) = suc (height_of_slots slots)

  pub height_of_slots : Slots → ℕ
  height_of_slots no_slots = 0
  height_of_slots (one t slots) = max (height t) (height_of_slots slots)
  height_of_slots (maybe m slots) = max (height_if_given m) (height_of_slots slots)
  height_of_slots (many ts slots) = max (greatest_height ts) (height_of_slots slots)
  height_of_slots (maybe_many ts slots) = max (height_if_listed ts) (height_of_slots slots)

  pub height_if_given : Maybe → ℕ
  height_if_given absent = 0
  height_if_given (given t) = height t

  pub greatest_height : Trees → ℕ
  greatest_height no_trees = 0
  greatest_height (more t ts) = max (height t) (greatest_height ts)
  greatest_height (hole ts) = greatest_height ts

  pub height_if_listed : MaybeTrees → ℕ
  height_if_listed no_list = 0
  height_if_listed (listed ts) = greatest_height ts

-- a level of indentation of a tree of this height could pass 32 bits, or be wider than 64 bits
abbrev pub passes_levels : Options → ℕ → Bool
passes_levels options height = nat_lt 4294967295 (options.initial_indent + height) || nat_lt 18446744073709551615 ((options.initial_indent + height) * options.indent_width)

-- minified text has no indentation
abbrev pub indent_faults : Options → Tree → List TreeFault
indent_faults options t = fault_if (if options.minify then false else passes_levels options (height t)) (faults.Indent (span_of t).start)

-- a row's rules of its own
abbrev pub own_faults : Surroundings → Tree → List TreeFault
own_faults around (tree.program a comments hashbang directives body) = program_faults a.span around.source around.options ++ indent_faults around.options (tree.program a comments hashbang directives body)
own_faults around (tree.comment a) = comment_faults around.source a.span (comment_kind a)
own_faults around (tree.directive a) = directive_faults a.span (as_text (directive_directive a))
own_faults around (tree.variable_declaration a declarations) = declaration_faults a.span declarations
own_faults around (tree.binding_identifier a) = name_faults around.tables a.span (binding_named a)
own_faults around (tree.identifier_reference a) = name_faults around.tables a.span (reference_named a)
own_faults around (tree.numeric_literal a) = number_faults a.span (numeric_literal_kind a) (numeric_literal_text a)
own_faults around (tree.big_int_literal a) = big_integer_faults a.span (big_int_literal_value a)
own_faults around (tree.reg_exp_literal a) = regular_expression_faults a.span (reg_exp_literal_pattern a) (reg_exp_literal_flags a)
own_faults around (tree.if_statement a test consequent alternate) = body_faults consequent ++ alternate_faults alternate
own_faults around (tree.for_statement a init test update body) = init_faults init ++ body_faults body
own_faults around (tree.for_in_statement a left right body) = left_faults left ++ body_faults body
own_faults around (tree.for_of_statement a left right body) = await_faults (for_of_statement_is_await a) around.may_await a.span ++ (left_faults left ++ body_faults body)
own_faults around (tree.while_statement a test body) = body_faults body
own_faults around (tree.do_while_statement a body test) = body_faults body
own_faults around (tree.label_identifier a) = label_faults a.span (label_identifier_name a)
own_faults around (tree.labeled_statement a label body) = body_faults body
own_faults around (tree.switch_statement a discriminant cases) = switch_faults a.span cases
own_faults around (tree.try_statement a block handler finalizer) = try_faults a.span handler finalizer
own_faults around (tree.identifier_name a) = written_name_faults a.span (identifier_name_name a)
own_faults around (tree.static_member a object property) = super_faults (static_member_expression_optional a) object
own_faults around (tree.computed_member a object expression) = super_faults (computed_member_expression_optional a) object
own_faults around (tree.call a callee arguments) = super_faults (call_expression_optional a) callee
own_faults around (tree.chain a element) = chain_faults a.span element
own_faults around (tree.update a argument) = target_faults argument
own_faults around (tree.assignment a left right) = assigned_faults (assignment_expression_operator a) left
own_faults around (tree.object_property a key value) = key_faults (object_property_computed a) key
    ++ (if is_method (object_property_kind a) (object_property_method a) then method_faults (object_property_kind a) (object_property_computed a) key value else shorthand_faults around.tables (object_property_shorthand a) key value)
own_faults around (tree.function a id params body) = function_faults a.span body
own_faults around (tree.private_identifier a) = private_name_faults around.tables around.classes a.span (private_identifier_name a)
-- `super` has no private member (ECMA-262, 13.3.5)
own_faults around (tree.private_member a object field) = super_faults true object
own_faults around (tree.method_definition a key value) = member_key_faults (method_definition_computed a) key ++ class_method_faults (method_definition_kind a) value
own_faults around (tree.property_definition a key value) = member_key_faults (property_definition_computed a) key
own_faults around (tree.await_expression a argument) = await_faults true around.may_await a.span
own_faults around (tree.yield_expression a argument) = yield_faults around.may_yield (yield_expression_delegate a) argument a.span
own_faults around (tree.return_statement a argument) = return_faults around.in_function a.span
own_faults around (tree.sequence a expressions) = sequence_faults a.span expressions
own_faults around (tree.object_pattern a properties rest) = rest_faults rest
own_faults around (tree.binding_property a key value) = pattern_key_faults (binding_property_computed a) key
own_faults around (tree.object_target a properties rest) = object_rest_faults rest
own_faults around (tree.target_with_default a binding init) = target_faults binding
own_faults around (tree.target_property_identifier a binding init) = shorthand_name_faults binding
own_faults around (tree.target_property a key binding) = pattern_key_faults (assignment_target_property_property_computed a) key
own_faults around (tree.target_rest a target) = target_faults target
own_faults around (tree.template_element a) = piece_faults a.span (template_element_raw a) (template_element_cooked a)
own_faults around (tree.template_literal a quasis expressions) = template_faults a.span quasis expressions
own_faults around (tree.hashbang a) = hashbang_faults a.span (hashbang_value a)
own_faults around (tree.import_declaration a specifiers source attributes) = import_faults specifiers
own_faults around (tree.export_named_declaration a specifiers) = export_faults false specifiers
own_faults around (tree.export_from_declaration a specifiers source attributes) = export_faults true specifiers
own_faults around t = []

abbrev pub takes_super : NodeSet → Bool
takes_super sets.Link = true
takes_super set = false

-- a default stands in a property or as an element, and nowhere else (ECMA-262, 14.3.3)
abbrev pub is_default : NodeType → Bool
is_default types.AssignmentPattern = true
is_default type = false

abbrev pub takes_default : NodeSet → Bool
takes_default sets.BindingElement = true
takes_default set = false

-- an import or an export stands among the statements of a module, and of nothing else (ECMA-262, 16.2)
abbrev pub is_module_item : NodeType → Bool
is_module_item types.ImportDeclaration = true
is_module_item types.ExportDeclaration = true
is_module_item types.ExportNamedDeclaration = true
is_module_item types.ExportFromDeclaration = true
is_module_item types.ExportAllDeclaration = true
is_module_item types.ExportDefaultDeclaration = true
is_module_item type = false

abbrev pub takes_module_items : NodeSet → Bool
takes_module_items sets.ModuleItem = true
takes_module_items set = false

-- of these three a node is none, or the place takes it
abbrev pub has_place : NodeSet → NodeType → Bool
has_place set type = (takes_super set || not (is_super type)) && ((takes_default set || not (is_default type)) && (takes_module_items set || not (is_module_item type)))

abbrev pub may_stand : NodeSet → NodeType → Bool
may_stand set type = in_set set type && has_place set type

-- Links of which one is optional stand in a chain: as its expression, or before a further link. Of what is changed, its operation has the rule.
abbrev pub takes_optional_link : NodeSet → Bool
takes_optional_link sets.Link = true
takes_optional_link sets.ChainElement = true
takes_optional_link sets.SimpleAssignmentTarget = true
takes_optional_link sets.AssignmentTarget = true
takes_optional_link sets.ForStatementLeft = true
takes_optional_link set = false

abbrev pub link_faults : NodeSet → Tree → List TreeFault
link_faults set t = fault_if (not (takes_optional_link set) && has_optional_link t) (faults.Place (span_of t).start)

-- a piece stands for nothing only in a template behind its tag (ECMA-262, 13.2.8.1)
abbrev pub is_uncooked : Tree → Bool
is_uncooked (tree.template_element a) = not (is_some (template_element_cooked a))
is_uncooked t = false

abbrev pub any_uncooked : Trees → Bool
any_uncooked no_trees = false
any_uncooked (more t ts) = is_uncooked t || any_uncooked ts
any_uncooked (hole ts) = any_uncooked ts

abbrev pub has_uncooked : Tree → Bool
has_uncooked (tree.template_literal a quasis expressions) = any_uncooked quasis
has_uncooked t = false

abbrev pub takes_uncooked : NodeSet → Bool
takes_uncooked sets.TemplateLiteral = true
takes_uncooked set = false

abbrev pub uncooked_faults : NodeSet → Tree → List TreeFault
uncooked_faults set t = fault_if (not (takes_uncooked set) && has_uncooked t) (faults.Template (span_of t).start)

-- a function or a class is a declaration where it stands among statements or is exported, and an expression everywhere else
abbrev pub stands_among : NodeSet → FunctionKind
stands_among sets.Statement = function_kinds.Declaration
stands_among sets.ModuleItem = function_kinds.Declaration
stands_among sets.Declaration = function_kinds.Declaration
stands_among set = function_kinds.Expression

abbrev pub same_kind : FunctionKind → FunctionKind → Bool
same_kind function_kinds.Declaration function_kinds.Declaration = true
same_kind function_kinds.Expression function_kinds.Expression = true
same_kind k l = false

abbrev pub is_among_statements : NodeSet → Bool
is_among_statements sets.Statement = true
is_among_statements sets.ModuleItem = true
is_among_statements sets.Declaration = true
is_among_statements set = false

abbrev pub is_default_export : NodeSet → Bool
is_default_export sets.ExportDefaultDeclarationKind = true
is_default_export set = false

-- A function or a class of this kind, with a name or without one, fits a place: as a declaration it has a name (ECMA-262, 15.2 and
-- 15.7). What is exported by default is either, and needs none (16.2.3)
abbrev pub fits_place : NodeSet → FunctionKind → Bool → Bool
fits_place set kind named = is_default_export set || (same_kind kind (stands_among set) && (named || same_kind kind function_kinds.Expression))

abbrev pub as_function_kind : ClassKind → FunctionKind
as_function_kind class_kinds.Declaration = function_kinds.Declaration
as_function_kind class_kinds.Expression = function_kinds.Expression

abbrev pub fits_kind : NodeSet → Tree → Bool
fits_kind set (tree.function a id params body) = fits_place set (function_kind a) (has_name id)
fits_kind set (tree.class a id heritage body) = fits_place set (as_function_kind (class_kind a)) (has_name id)
fits_kind set (tree.variable_declaration a declarations) = not (is_among_statements set && any_lacks_value declarations)
fits_kind set t = true

-- what doesn't fit a place: of a declaration that may stand there the declarator that lacks a value, else the child itself
abbrev pub misfit : NodeSet → Tree → Span
misfit set t = if may_stand set (type_of t) then unbound t else span_of t

-- a child is of the set that its field asks for, and `super`, defaults, optional links, pieces that stand for nothing, functions, classes and declarations only where they may be
abbrev pub set_faults : NodeSet → Tree → List TreeFault
set_faults set t = fault_if (not (may_stand set (type_of t) && fits_kind set t)) (faults.Place (misfit set t).start) ++ (link_faults set t ++ uncooked_faults set t)

-- no field asks for a child that has no place
abbrev pub place_faults : List ChildPlace → Tree → List TreeFault
place_faults [] t = faults.Place (span_of t).start ∷ []
place_faults (p ∷ ps) t = set_faults p.set t

-- what surrounds the child at the first place, in a node that this surrounds
abbrev pub around_first : Surroundings → List ChildPlace → Surroundings
around_first around [] = around
around_first around (p ∷ ps) = p.around

abbrev pub other_places : List ChildPlace → List ChildPlace
other_places [] = []
other_places (p ∷ ps) = ps

-- ---- the whole

abbrev mutual
  -- What is asked of a tree: its span, its own rules, and its children, each at its place. Classes are numbered in the order in which
  -- their bodies begin, and the next one has this number.
  pub breaches : Surroundings → ℕ → Tree → List TreeFault
  breaches around next (node type a slots) = span_faults around a.span ++ own_faults around (node type a slots) ++ in_slots around (child_places around next (node type a slots)) (first_number (node type a slots) next) slots

  pub in_slots : Surroundings → List ChildPlace → ℕ → Slots → List TreeFault
  in_slots around places next no_slots = []
  in_slots around places next (one t slots) = place_faults places t ++ breaches (around_first around places) next t ++ in_slots around (other_places places) (after t next) slots
  in_slots around places next (maybe m slots) = in_maybe around places next m ++ in_slots around (other_places places) (after_maybe m next) slots
  in_slots around places next (many ts slots) = in_trees around places next ts ++ in_slots around (other_places places) (after_trees ts next) slots
  in_slots around places next (maybe_many ts slots) = in_maybe_trees around places next ts ++ in_slots around (other_places places) (after_maybe_trees ts next) slots

  pub in_maybe : Surroundings → List ChildPlace → ℕ → Maybe → List TreeFault
  in_maybe around places next absent = []
  in_maybe around places next (given t) = place_faults places t ++ breaches (around_first around places) next t

  pub in_trees : Surroundings → List ChildPlace → ℕ → Trees → List TreeFault
  in_trees around places next no_trees = []
  in_trees around places next (more t ts) = place_faults places t ++ breaches (around_first around places) next t ++ in_trees around places (after t next) ts
  in_trees around places next (hole ts) = in_trees around places next ts

  pub in_maybe_trees : Surroundings → List ChildPlace → ℕ → MaybeTrees → List TreeFault
  in_maybe_trees around places next no_list = []
  in_maybe_trees around places next (listed ts) = in_trees around places next ts

-- ---- jobs

abbrev pub source_of : Tree → List ℕ
source_of (tree.program a comments hashbang directives body) = program_source a
source_of t = []

-- what surrounds a module's statements: no class and no function, and `await` may stand there (ECMA-262, 16.2)
abbrev pub at_top : Options → Tables → List ℕ → Bool → Surroundings
at_top options tables source is_mapped = record { options = options; tables = tables; source = source; is_mapped = is_mapped; classes = []; in_function = false; may_yield = false; may_await = true }

abbrev pub surroundings_of : JobData → Surroundings
surroundings_of job = at_top job.options job.tables (source_of job.program) (is_some job.options.source_map_path)

abbrev pub job_breaches : JobData → List TreeFault
job_breaches job = breaches (surroundings_of job) 0 job.program

-- no rule is broken by the program, under the job's options and tables
abbrev pub IsValid : JobData → Type 0
IsValid job = job_breaches job ≡ []

-- ---- expressions by themselves

-- An expression by itself is checked as that of the one statement of a module, where `super` has no place, and its classes are
-- numbered from 0. It has no source, and its own height counts
abbrev pub expression_breaches : Options → Tables → Tree → List TreeFault
expression_breaches options tables t = set_faults sets.Expression t ++ breaches (at_top options tables [] false) 0 t ++ indent_faults options t

-- no rule is broken by the expression, under these options and tables
abbrev pub IsValidExpression : Options → Tables → Tree → Type 0
IsValidExpression options tables t = expression_breaches options tables t ≡ []

-- Ok where no rule is broken, else one that is
abbrev pub Judges : List TreeFault → Result (Unit {0}) TreeFault → Type 0
Judges found (Ok done) = found ≡ []
Judges found (Err fault) = Contains found fault
