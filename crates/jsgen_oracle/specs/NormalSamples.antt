-- Pairs of trees that have one normal form, and pairs that have two, worked out by hand.
use Rattle.std.specs.Prelude.{◌≡◌, ℕ, List, [], ◌∷◌, Bool, true, false, codes}
use Rattle.jsgen_syntax.specs.declared.operator.LogicalOperator.{LogicalOperator}
use Rattle.jsgen_syntax.specs.declared.operator.LogicalOperator.TheVariants.{Or, And, Coalesce}
use Rattle.jsgen_syntax.specs.declared.operator.UnaryOperator.TheVariants.{UnaryNegation, UnaryPlus}
use Rattle.jsgen_syntax.specs.declared.operator.UpdateOperator.TheVariants.{Decrement}
use Rattle.jsgen_syntax.specs.declared.operator.AssignmentOperator.TheVariants.{LogicalOr}
use Rattle.jsgen_syntax.specs.declared.span.SourceKind.TheVariants.{Module}
use Rattle.jsgen_tree.specs.declared.statements.CommentKind.TheVariants.{Line}
use Rattle.jsgen_tree.specs.declared.statements.CommentContent.TheVariants.{Normal}
use Rattle.jsgen_tree.specs.declared.statements.VariableDeclarationKind.TheVariants.{Const, Let, Var}
use Rattle.jsgen_tree.specs.declared.collections.PropertyKind.TheVariants.{Init, Get, Set}
use Rattle.jsgen_tree.specs.declared.functions.FunctionKind.TheVariants.{Declaration, Expression}
use Rattle.jsgen_tree.specs.Atom.{no_value, text, units, digits, number, flag, kind_of_comment, content_of_comment, source_kind, numeric_kind, logical_operator, update_operator, assignment_operator, kind_of_function}
use Rattle.jsgen_tree.specs.Number.{Whole}
use Rattle.jsgen_tree.specs.Tree.{Tree, absent, given, Trees, no_trees, more, hole}
use Rattle.jsgen_tree.specs.Nodes as tree
use Rattle.jsgen_tree.specs.Places.{bare}
use Rattle.jsgen_model.specs.Normal.{nothing_of, named, unnumbered, by_text, property_values, function_values, normal}
use Rattle.jsgen_oracle.specs.Samples.{a, b, c, d, e, one, module_of, directed, sum_of, difference_of, power_of, in_parentheses, string_of, member_of, optional_member_of, element_of, call_of, chain_of, unary_of, incremented_before, incremented_behind, new_of, conditional_of, sequence_of, assignment_of, empty_object, arrow_of, parameters_of, parameter, rest_in, one_parameter, empty_body, return_of, super, statement_of, bound, const_of, block_of, if_of, empty}
use Rattle.jsgen_oracle.specs.StatementSamples.{declaration_of, for_of_parts, over_keys, over_values, while_of, do_of, labelled, label_of, continue_of, break_of, throw_of, debugger, switch_of, case_of, try_of, catch_of}
use Rattle.jsgen_oracle.specs.FunctionSamples.{name_of, no_parameters, body_with, directed_body, function_with, object_of, key_of, accessor_of}

abbrev pub AreOne : Tree → Tree → Type 0
AreOne t u = normal t ≡ normal u

abbrev pub AreTwo : Tree → Tree → Type 0
AreTwo t u = normal t ≡ normal u → ⊥

-- ---- trees

abbrev pub alone : Tree → Trees
alone t = more t no_trees

abbrev pub two_of : Tree → Tree → Trees
two_of t u = more t (alone u)

abbrev pub three_of : Tree → Tree → Tree → Trees
three_of t u v = more t (two_of u v)

abbrev pub logical_of : LogicalOperator → Tree → Tree → Tree
logical_of operator left right = tree.logical (bare (logical_operator operator ∷ [])) left right

-- a whole number by its digits; the flag tells that a minus stands before it
abbrev pub whole : Bool → ℕ → Tree
whole negative n = tree.numeric_literal (bare (numeric_kind Whole ∷ flag negative ∷ digits n ∷ no_value ∷ []))

abbrev pub big : List ℕ → Tree
big value = tree.big_int_literal (named value)

abbrev pub minus : Tree → Tree
minus t = unary_of UnaryNegation t

-- a piece of a template by its raw text and what it stands for
abbrev pub piece : List ℕ → List ℕ → Tree
piece raw value = tree.template_element (bare (text raw ∷ units value ∷ []))

abbrev pub template_of : Trees → Trees → Tree
template_of pieces expressions = tree.template_literal (nothing_of 0) pieces expressions

abbrev pub tagged_with : Tree → Tree → Tree
tagged_with tag quasi = tree.tagged_template (nothing_of 0) tag quasi

-- a property by whether its name alone says it and whether its key is computed
abbrev pub property_of : Bool → Bool → Tree → Tree → Tree
property_of shorthand computed key value = tree.object_property (property_values Init false shorthand computed) key value

abbrev pub plain_property : Tree → Tree → Tree
plain_property key value = property_of false false key value

-- an object of one property
abbrev pub single : Tree → Tree
single property = object_of (alone property)

abbrev pub proto : List ℕ
proto = codes "__proto__"

abbrev pub named_proto : Tree
named_proto = tree.identifier_reference (unnumbered proto)

-- a function expression without a name, with empty parentheses and braces
abbrev pub nameless : Tree
nameless = function_with Expression absent no_parameters empty_body

-- a declaration of such a function
abbrev pub declared : Tree → Tree
declared body = function_with Declaration (name_of (codes "f")) no_parameters body

-- `if(b)c;`, which ends in an `if` without `else`
abbrev pub open_if : Tree
open_if = if_of b (statement_of c) absent

abbrev pub in_braces : Tree → Tree
in_braces s = block_of (alone s)

-- a consequent in braces and the same without, and what else may stand there
abbrev pub BracesAreAway : Tree → Type 0
BracesAreAway s = AreOne (if_of a (in_braces s) absent) (if_of a s absent)

abbrev pub BracesStay : Tree → Type 0
BracesStay s = AreTwo (if_of a (in_braces s) absent) (if_of a s absent)

-- ---- the samples

pub record NormalSamples : Type 0 where
  -- ---- what is away
  -- `((a))` and `a`
  pub parentheses : AreOne (in_parentheses (in_parentheses a)) a
  -- `(a+b)-c` and `a+b-c`
  pub as_grouped : AreOne (difference_of (in_parentheses (sum_of a b)) c) (difference_of (sum_of a b) c)
  -- `a-(b-c)` and `a-b-c`
  pub grouped_otherwise : AreTwo (difference_of a (in_parentheses (difference_of b c))) (difference_of (difference_of a b) c)
  pub span : AreOne (tree.identifier_reference (record { span = record { start = 3; end = 5 }; values = text (codes "a") ∷ no_value ∷ [] })) a
  -- the number by which a table knows a name
  pub number_of_a_reference : AreOne (tree.identifier_reference (bare (text (codes "a") ∷ number 7 ∷ []))) a
  pub number_of_a_binding : AreOne (tree.binding_identifier (bare (text (codes "a") ∷ number 7 ∷ []))) (tree.binding_identifier (unnumbered (codes "a")))
  -- the text and the kind of a program, and its comments
  pub source_of_a_program : AreOne (tree.program (bare (text (codes "//\n;") ∷ source_kind Module ∷ no_value ∷ no_value ∷ [])) (alone (tree.comment (bare (kind_of_comment Line ∷ content_of_comment Normal ∷ flag true ∷ number 3 ∷ flag false ∷ flag true ∷ [])))) absent no_trees (alone empty)) (module_of (alone empty))
  -- that a call, `new` or a function is pure, and that one is called where it stands
  pub pure_call : AreOne (tree.call (bare (flag false ∷ flag true ∷ [])) a no_trees) (call_of a no_trees)
  pub pure_construction : AreOne (tree.new_expression (bare (flag true ∷ [])) a no_trees) (new_of a no_trees)
  pub marks_of_an_arrow : AreOne (tree.arrow_function (bare (no_value ∷ flag true ∷ flag true ∷ [])) (one_parameter (codes "a")) b) (arrow_of (one_parameter (codes "a")) b)
  pub marks_of_a_function : AreOne (tree.function (bare (kind_of_function Expression ∷ no_value ∷ no_value ∷ no_value ∷ flag true ∷ flag true ∷ [])) absent no_parameters (given empty_body)) nameless
  -- ---- names and literals
  pub other_name : AreTwo a b
  pub name_or_number : AreTwo a one
  pub name_or_string : AreTwo a (string_of (codes "a"))
  pub other_string : AreTwo (string_of (codes "a")) (string_of (codes "b"))
  pub true_or_false : AreTwo (tree.boolean_literal (bare (flag true ∷ []))) (tree.boolean_literal (bare (flag false ∷ [])))
  pub null_or_this : AreTwo (tree.null_literal (nothing_of 0)) (tree.this_expression (nothing_of 0))
  -- a number by its value, as a job gives it, and by its digits, as it is read
  pub number_by_text : AreOne (whole false 10) (tree.numeric_literal (by_text (codes "10")))
  -- `10` and `1e1`: texts of one value are two
  pub other_text : AreTwo (tree.numeric_literal (by_text (codes "10"))) (tree.numeric_literal (by_text (codes "1e1")))
  -- a minus that a number holds is an operation
  pub negative_number : AreOne (whole true 1) (minus one)
  pub minus_before_negative : AreOne (minus (whole true 1)) (minus (minus one))
  pub negative_or_positive : AreTwo (whole true 1) one
  pub negative_big_integer : AreOne (big (codes "-1")) (minus (big (codes "1")))
  pub big_or_not : AreTwo (big (codes "1")) one
  -- ---- operations
  pub other_operator : AreTwo (sum_of a b) (difference_of a b)
  pub order_of_operands : AreTwo (difference_of a b) (difference_of b a)
  -- `(-a)**b` and `-a**b`, as which no text is read
  pub minus_of_a_power : AreTwo (power_of (minus a) b) (minus (power_of a b))
  pub other_prefix : AreTwo (minus a) (unary_of UnaryPlus a)
  pub before_or_behind : AreTwo (incremented_before a) (incremented_behind a)
  pub up_or_down : AreTwo (incremented_before a) (tree.update (bare (update_operator Decrement ∷ flag true ∷ [])) a)
  -- `++a` and `+ +a`
  pub update_or_signs : AreTwo (incremented_before a) (unary_of UnaryPlus (unary_of UnaryPlus a))
  -- a chain of one logical operator is one list of operands: `a&&(b&&c)` and `a&&b&&c`
  pub chain : AreOne (logical_of And a (in_parentheses (logical_of And b c))) (logical_of And (logical_of And a b) c)
  -- `(a||b)||(c||d)` and `a||(b||(c||d))`
  pub chain_of_four : AreOne (logical_of Or (logical_of Or a b) (logical_of Or c d)) (logical_of Or a (logical_of Or b (logical_of Or c d)))
  pub coalesced_chain : AreOne (logical_of Coalesce (logical_of Coalesce a b) c) (logical_of Coalesce a (logical_of Coalesce b c))
  -- `a&&(b+c)&&d`, however it is grouped
  pub sum_in_a_chain : AreOne (logical_of And (logical_of And a (sum_of b c)) d) (logical_of And a (logical_of And (sum_of b c) d))
  pub order_in_a_chain : AreTwo (logical_of And a b) (logical_of And b a)
  pub length_of_a_chain : AreTwo (logical_of And a b) (logical_of And (logical_of And a b) c)
  pub other_logical_operator : AreTwo (logical_of Or a b) (logical_of Coalesce a b)
  -- `a&&(b||c)` and `a&&b||c`
  pub two_logical_operators : AreTwo (logical_of And a (in_parentheses (logical_of Or b c))) (logical_of Or (logical_of And a b) c)
  -- a sequence is one list of parts: `(a,b),c` and `a,(b,c)`
  pub parts_of_a_sequence : AreOne (sequence_of (two_of (in_parentheses (sequence_of (two_of a b))) c)) (sequence_of (two_of a (sequence_of (two_of b c))))
  -- `(a,b),(c,d)` and `a,b,(c,d)`
  pub four_parts : AreOne (sequence_of (two_of (sequence_of (two_of a b)) (sequence_of (two_of c d)))) (sequence_of (three_of a b (sequence_of (two_of c d))))
  pub order_of_parts : AreTwo (sequence_of (three_of a b c)) (sequence_of (three_of a c b))
  -- `f((a,b))` and `f(a,b)`
  pub sequence_or_arguments : AreTwo (call_of c (alone (sequence_of (two_of a b)))) (call_of c (two_of a b))
  -- `a?b:c` and `a?c:b`
  pub order_of_choices : AreTwo (conditional_of a b c) (conditional_of a c b)
  -- `(a?b:c)?d:e` and `a?b:c?d:e`
  pub choice_as_test : AreTwo (conditional_of (conditional_of a b c) d e) (conditional_of a b (conditional_of c d e))
  pub order_of_assignment : AreTwo (assignment_of a b) (assignment_of b a)
  -- `a||=b` and `a=a||b`
  pub assignment_with_operator : AreTwo (tree.assignment (bare (assignment_operator LogicalOr ∷ [])) a b) (assignment_of a (logical_of Or a b))
  -- ---- members, calls and lists
  pub other_member : AreTwo (member_of a (codes "b")) (member_of a (codes "c"))
  -- `a["b"]` and `a.b`
  pub element_or_member : AreTwo (element_of a (string_of (codes "b"))) (member_of a (codes "b"))
  -- `a?.b` and `a.b`
  pub optional_link : AreTwo (chain_of (optional_member_of a (codes "b"))) (chain_of (member_of a (codes "b")))
  -- `(a?.b).c` and `a?.b.c`
  pub end_of_a_chain : AreTwo (member_of (in_parentheses (chain_of (optional_member_of a (codes "b")))) (codes "c")) (chain_of (member_of (optional_member_of a (codes "b")) (codes "c")))
  -- `a(b,c)` and `a(c,b)`
  pub order_of_arguments : AreTwo (call_of a (two_of b c)) (call_of a (two_of c b))
  -- `new a` and `a()`
  pub construction_or_call : AreTwo (new_of a no_trees) (call_of a no_trees)
  -- `new (a())` and `(new a)()`
  pub constructed_call : AreTwo (new_of (call_of a no_trees) no_trees) (call_of (new_of a no_trees) no_trees)
  -- `super.a` and `this.a`
  pub super_or_this : AreTwo (member_of super (codes "a")) (member_of (tree.this_expression (nothing_of 0)) (codes "a"))
  -- `a(...b)` and `a(b)`
  pub spread_or_argument : AreTwo (call_of a (alone (tree.spread (nothing_of 0) b))) (call_of a (alone b))
  -- `[a,,b]` and `[a,b]`
  pub hole_or_none : AreTwo (tree.array (nothing_of 0) (more a (hole (alone b)))) (tree.array (nothing_of 0) (two_of a b))
  -- ---- properties
  -- `{a}` and `{a:a}`
  pub name_alone : AreOne (single (property_of true false (key_of (codes "a")) a)) (single (plain_property (key_of (codes "a")) a))
  -- `{__proto__}`, and `{__proto__:__proto__}`, which sets the prototype (B.3.1)
  pub proto_alone : AreTwo (single (property_of true false (key_of proto) named_proto)) (single (plain_property (key_of proto) named_proto))
  -- the method `__proto__` is neither
  pub method_called_proto : AreOne (single (tree.object_property (property_values Init true true false) (key_of proto) nameless)) (single (tree.object_property (property_values Init true false false) (key_of proto) nameless))
  -- `{["a"]:b}` and `{"a":b}`
  pub computed_or_not : AreTwo (single (property_of false true (string_of (codes "a")) b)) (single (plain_property (string_of (codes "a")) b))
  -- `{a:b}` and `{"a":b}`
  pub key_or_string : AreTwo (single (plain_property (key_of (codes "a")) b)) (single (plain_property (string_of (codes "a")) b))
  -- a negative number that is a key is a computed one: `{[-1]:a}`
  pub negative_key : AreOne (single (plain_property (whole true 1) a)) (single (property_of false true (minus one) a))
  -- `{1:a}` and `{[1]:a}`
  pub positive_key : AreTwo (single (plain_property one a)) (single (property_of false true one a))
  pub order_of_properties : AreTwo (object_of (two_of (plain_property one a) (plain_property one b))) (object_of (two_of (plain_property one b) (plain_property one a)))
  -- `{a(){}}` and `{a:function(){}}`
  pub method_or_value : AreTwo (accessor_of Init true (key_of (codes "a")) no_parameters empty_body) (accessor_of Init false (key_of (codes "a")) no_parameters empty_body)
  -- an accessor is one whether it is marked as a method or not
  pub accessor_as_method : AreOne (accessor_of Get true (key_of (codes "a")) no_parameters empty_body) (accessor_of Get false (key_of (codes "a")) no_parameters empty_body)
  pub accessor_or_method : AreTwo (accessor_of Get true (key_of (codes "a")) no_parameters empty_body) (accessor_of Init true (key_of (codes "a")) no_parameters empty_body)
  -- `get a(){}` and `set a(){}`, as which no text is read
  pub getter_or_setter : AreTwo (accessor_of Get false (key_of (codes "a")) no_parameters empty_body) (accessor_of Set false (key_of (codes "a")) no_parameters empty_body)
  -- ---- statements
  -- `a;b;` and `b;a;`
  pub order_of_statements : AreTwo (module_of (two_of (statement_of a) (statement_of b))) (module_of (two_of (statement_of b) (statement_of a)))
  pub semicolon_or_nothing : AreTwo (module_of (alone empty)) (module_of no_trees)
  -- a directive by its raw text, as a job gives it, and by its value, as it is read
  pub directive_by_value : AreOne (tree.directive (bare (text (codes "\\x61'") ∷ []))) (tree.directive (bare (units (codes "a'") ∷ [])))
  pub other_directive : AreTwo (directed (codes "a") no_trees) (directed (codes "b") no_trees)
  -- the directive `"a";` and the statement of that string
  pub directive_or_statement : AreTwo (directed (codes "a") no_trees) (module_of (alone (statement_of (string_of (codes "a")))))
  -- `const a;` and `const a=1;`
  pub value_or_none : AreTwo (const_of (alone (bound (codes "a") absent))) (const_of (alone (bound (codes "a") (given one))))
  -- `const a,b;` and `const a;const b;`
  pub one_declaration_or_two : AreTwo (module_of (alone (const_of (two_of (bound (codes "a") absent) (bound (codes "b") absent))))) (module_of (two_of (const_of (alone (bound (codes "a") absent))) (const_of (alone (bound (codes "b") absent)))))
  pub const_or_let : AreTwo (declaration_of Const (codes "a")) (declaration_of Let (codes "a"))
  pub let_or_var : AreTwo (declaration_of Let (codes "a")) (declaration_of Var (codes "a"))
  -- `{a;}` and `a;`
  pub block_or_statement : AreTwo (in_braces (statement_of a)) (statement_of a)
  -- `if(a)b;else;` and `if(a)b;`
  pub alternate_or_none : AreTwo (if_of a (statement_of b) (given empty)) (if_of a (statement_of b) absent)
  -- `if(a){if(b)c;}else d;` and the same without braces, as which no text is read
  pub braces_before_else : AreOne (if_of a (in_braces open_if) (given (statement_of d))) (if_of a open_if (given (statement_of d)))
  pub braces_round_if : BracesAreAway open_if
  -- `if(b)c;else if(b)c;`
  pub braces_round_last_if : BracesAreAway (if_of b (statement_of c) (given open_if))
  -- `for(;;)if(b)c;` and its like
  pub braces_round_for : BracesAreAway (for_of_parts absent absent absent open_if)
  pub braces_round_for_in : BracesAreAway (over_keys a b open_if)
  pub braces_round_for_of : BracesAreAway (over_values a b open_if)
  pub braces_round_while : BracesAreAway (while_of a open_if)
  pub braces_round_label : BracesAreAway (labelled (codes "a") open_if)
  pub braces_within_braces : AreOne (if_of a (in_braces (if_of b (in_braces open_if) absent)) absent) (if_of a (if_of b open_if absent) absent)
  -- they stay where an `else` is no danger
  pub braces_round_statement : BracesStay (statement_of b)
  pub braces_round_whole_if : BracesStay (if_of b (statement_of c) (given (statement_of d)))
  -- `do if(b)c;while(a);`
  pub braces_round_do : BracesStay (do_of open_if a)
  -- `while(a){if(b)c;}`
  pub braces_round_block : BracesStay (while_of a (in_braces open_if))
  -- `try{}finally{if(b)c;}`
  pub braces_round_try : BracesStay (try_of absent (given (in_braces open_if)))
  pub two_braces : BracesStay (in_braces open_if)
  -- `if(a){if(b)c;d}` and `if(a){if(b)c;}`
  pub two_in_braces : AreTwo (if_of a (block_of (two_of open_if (statement_of d))) absent) (if_of a (in_braces open_if) absent)
  pub braces_of_an_alternate : AreTwo (if_of a (statement_of b) (given (in_braces open_if))) (if_of a (statement_of b) (given open_if))
  pub braces_of_a_loop : AreTwo (while_of a (in_braces open_if)) (while_of a open_if)
  -- `for(;a;)b` and `for(;;a)b`
  pub test_or_update : AreTwo (for_of_parts absent (given a) absent (statement_of b)) (for_of_parts absent absent (given a) (statement_of b))
  pub for_or_while : AreTwo (for_of_parts absent (given a) absent (statement_of b)) (while_of a (statement_of b))
  pub while_or_do : AreTwo (while_of a (statement_of b)) (do_of (statement_of b) a)
  pub keys_or_values : AreTwo (over_keys a b empty) (over_values a b empty)
  -- `for(a of b);` and `for(let a of b);`
  pub assigned_or_declared : AreTwo (over_values a b empty) (over_values (declaration_of Let (codes "a")) b empty)
  -- `for await(a of b);`: a field that isn't read yet counts
  pub awaited_or_not : AreTwo (tree.for_of_statement (bare (flag true ∷ [])) a b empty) (over_values a b empty)
  pub other_label : AreTwo (labelled (codes "a") empty) (labelled (codes "b") empty)
  pub jump_to_label : AreTwo (break_of (given (label_of (codes "a")))) (break_of absent)
  pub break_or_continue : AreTwo (break_of absent) (continue_of absent)
  pub thrown_or_not : AreTwo (throw_of a) (statement_of a)
  pub debugger_or_empty : AreTwo debugger empty
  -- `case b:` and `default:`
  pub case_or_default : AreTwo (switch_of a (alone (case_of (given b) no_trees))) (switch_of a (alone (case_of absent no_trees)))
  -- `case b:c;case d:` and `case b:case d:c;`
  pub statements_of_a_case : AreTwo (switch_of a (two_of (case_of (given b) (alone (statement_of c))) (case_of (given d) no_trees))) (switch_of a (two_of (case_of (given b) no_trees) (case_of (given d) (alone (statement_of c)))))
  -- `try{}catch{}` and `try{}finally{}`
  pub handler_or_finalizer : AreTwo (try_of (given (catch_of absent)) absent) (try_of absent (given (block_of no_trees)))
  -- `catch(a){}` and `catch{}`
  pub caught_or_not : AreTwo (try_of (given (catch_of (name_of (codes "a")))) absent) (try_of (given (catch_of absent)) absent)
  -- ---- functions
  -- `a=>b` and `(a=1)=>b`
  pub parameter_without_value : AreTwo (arrow_of (one_parameter (codes "a")) b) (arrow_of (parameters_of (alone (parameter (codes "a") (given one))) absent) b)
  -- `a=>b` and `(...a)=>b`
  pub parameter_or_rest : AreTwo (arrow_of (one_parameter (codes "a")) b) (arrow_of (parameters_of no_trees (given (rest_in (codes "a")))) b)
  -- `a=>{}` and `a=>({})`
  pub body_or_object : AreTwo (arrow_of (one_parameter (codes "a")) empty_body) (arrow_of (one_parameter (codes "a")) (in_parentheses empty_object))
  -- `()=>{return a}` and `()=>a`
  pub returned_or_body : AreTwo (arrow_of no_parameters (body_with (alone (return_of (given a))))) (arrow_of no_parameters a)
  -- `(()=>a)()` and `()=>a()`
  pub called_or_calling : AreTwo (call_of (arrow_of no_parameters a) no_trees) (arrow_of no_parameters (call_of a no_trees))
  -- `function a(){}` among statements, and in an expression
  pub declaration_or_expression : AreTwo (function_with Declaration (name_of (codes "a")) no_parameters empty_body) (function_with Expression (name_of (codes "a")) no_parameters empty_body)
  -- `(function(){})` and `(function a(){})`
  pub function_with_name : AreTwo nameless (function_with Expression (name_of (codes "a")) no_parameters empty_body)
  -- `function(){}` and `()=>{}`
  pub function_or_arrow : AreTwo nameless (arrow_of no_parameters empty_body)
  -- `function*(){}`: a field that isn't read yet counts
  pub generator_or_not : AreTwo (tree.function (function_values Expression no_value (flag true) no_value) absent no_parameters (given empty_body)) nameless
  -- `return;` and `return a;`
  pub result_or_none : AreTwo (return_of absent) (return_of (given a))
  -- `function f(){return;}` and `function f(){}`
  pub return_or_nothing : AreTwo (declared (body_with (alone (return_of absent)))) (declared empty_body)
  -- `function f(){"use strict";}` and `function f(){("use strict");}`
  pub directive_in_body : AreTwo (declared (directed_body no_trees)) (declared (body_with (alone (statement_of (string_of (codes "use strict"))))))
  -- "`a`" and `"a"`
  pub template_of_one_piece : AreOne (template_of (alone (piece (codes "a") (codes "a"))) no_trees) (string_of (codes "a"))
  -- "`\\x61${b}c`" and "`a${b}c`"
  pub piece_by_value : AreOne (template_of (two_of (piece (codes "\\x61") (codes "a")) (piece (codes "c") (codes "c"))) (alone b)) (template_of (two_of (piece (codes "a") (codes "a")) (piece (codes "c") (codes "c"))) (alone b))
  -- "`a${b}c`" and "`a${b}d`"
  pub other_piece : AreTwo (template_of (two_of (piece (codes "a") (codes "a")) (piece (codes "c") (codes "c"))) (alone b)) (template_of (two_of (piece (codes "a") (codes "a")) (piece (codes "d") (codes "d"))) (alone b))
  -- "c`\\x61`" and "c`a`"
  pub raw_text_behind_a_tag : AreTwo (tagged_with c (template_of (alone (piece (codes "\\x61") (codes "a"))) no_trees)) (tagged_with c (template_of (alone (piece (codes "a") (codes "a"))) no_trees))
  -- "c`a`" and `c("a")`
  pub tagged_or_called : AreTwo (tagged_with c (template_of (alone (piece (codes "a") (codes "a"))) no_trees)) (call_of c (alone (string_of (codes "a"))))
  -- `import{a as b}`, and with `"a"`
  pub name_of_an_import : AreOne (tree.import_specifier (nothing_of 1) (key_of (codes "a")) (tree.binding_identifier (unnumbered (codes "b")))) (tree.import_specifier (nothing_of 1) (string_of (codes "a")) (tree.binding_identifier (unnumbered (codes "b"))))
  -- `export{a as b}`, and with `"b"`
  pub name_of_an_export : AreOne (tree.export_specifier (nothing_of 1) a (key_of (codes "b"))) (tree.export_specifier (nothing_of 1) a (string_of (codes "b")))
  -- `export{a as b}` and `export{a as c}`
  pub other_name_of_an_export : AreTwo (tree.export_specifier (nothing_of 1) a (key_of (codes "b"))) (tree.export_specifier (nothing_of 1) a (key_of (codes "c")))
  -- `a as b` of a binding, and of a name, as behind `from`
  pub exported_by_text : AreOne (tree.export_specifier (nothing_of 1) a (key_of (codes "b"))) (tree.export_specifier (nothing_of 1) (key_of (codes "a")) (key_of (codes "b")))
  -- `export{a as b}` of a binding, and of a name, as behind `from`
  pub exported_or_passed_on : AreTwo (tree.export_named_declaration (nothing_of 1) (alone (tree.export_specifier (nothing_of 1) a (key_of (codes "b"))))) (tree.export_from_declaration (nothing_of 1) (alone (tree.export_specifier (nothing_of 1) (key_of (codes "a")) (key_of (codes "b")))) (string_of (codes "c")) absent)
