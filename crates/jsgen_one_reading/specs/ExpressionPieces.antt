-- What the reader does in an expression at a token that is no bracket.
use Rattle.std.specs.Prelude.{ℕ, List, [], ◌∷◌, Bool, true, false, ◌||◌, nat_le, Option, Some, None, codes, if◌then◌else◌}
use Rattle.std.specs.Str.{bytes_eq}
use Rattle.jsgen_syntax.specs.Escapes.{word_value}
use Rattle.jsgen_syntax.specs.Strings.{is_backtick, string_value}
use Rattle.jsgen_tree.specs.declared.collections.PropertyKind.TheVariants.{Init}
use Rattle.jsgen_syntax.specs.Name.{is_free_name}
use Rattle.jsgen_syntax.specs.declared.operator.BinaryOperator.{BinaryOperator}
use Rattle.jsgen_syntax.specs.declared.operator.BinaryOperator.TheVariants as operators
use Rattle.jsgen_syntax.specs.declared.operator.LogicalOperator.{LogicalOperator}
use Rattle.jsgen_syntax.specs.declared.operator.LogicalOperator.TheVariants.{Coalesce}
use Rattle.jsgen_syntax.specs.declared.operator.UnaryOperator.TheVariants as unary_operators
use Rattle.jsgen_syntax.specs.declared.operator.UpdateOperator.TheVariants as update_operators
use Rattle.jsgen_syntax.specs.declared.operator.AssignmentOperator.{AssignmentOperator}
use Rattle.jsgen_syntax.specs.declared.operator.AssignmentOperator.TheVariants as assignment_operators
use Rattle.jsgen_tree.specs.Atom.{units, flag, logical_operator, text}
use Rattle.jsgen_tree.specs.Tree.{Tree, Maybe, absent, given, Trees, no_trees, more, hole}
use Rattle.jsgen_tree.specs.Places.{bare}
use Rattle.jsgen_tree.specs.Values.{identifier_reference_name}
use Rattle.jsgen_tree.specs.Nodes as tree
use Rattle.jsgen_model.specs.Punctuator.{plus, minus, star, dot, ellipsis, comma, semicolon, bang, tilde, Punctuator, plus_plus, minus_minus, colon}
use Rattle.jsgen_model.specs.Tokens.{Special, Piece, Private, Pattern, Head, Middle, Tail, Word, Number, Quoted, Sign, Beyond}
use Rattle.jsgen_model.specs.Normal.{nothing_of, named, unnumbered, link_values, by_text, declared_as, property_values, joined}
use Rattle.jsgen_model.specs.Grammar.{Allowed, with_in, operation_level, has_suffix, simple_target, names_function, computed_values, field_values, private_name, raw_piece, read_piece}
use Rattle.jsgen_one_reading.specs.Modules.{default_exported}
use Rattle.jsgen_one_reading.specs.States.{imported_of, exported_default, importing, import_dotted, rank, kind, kind_rank, wants, logic_rank, wanted, same, updated, settle, Kind, Binder, Place, Frame, Settled, State, binary, logic, assigning, updating, a_dot, a_link, an_arrow, a_question, a_colon, a_comma, a_semicolon, an_in, an_of, in_case, a_parameter, sole_parameter, an_element, a_value, a_declaration, in_array, in_object, names, targets, unary_of, await_of, before_of, left_of, logical_of, assign_to, test_of, choice_of, new_of, yield_of, value_of, target_of, default_of, elements_of, parts_of, arguments, spread_of, properties_of, property_of, expression_of, throw_of, return_of, list_of, wrap_of, first_part, test_part, in_right, of_right, case_test, stuck, at, as_operand, of_object, failed, operand, linked, async_word, yielded, settled, dotted, newly, targeting, supered, chaining, chained, chain_dotted, parameters_read, arrowed, parameter, binding, pattern_elements, pattern_properties, start, ended, second_part, third_part, function_word, property, field_of, of_class, class_word, a_quoted, a_whole, a_head, a_further, private_of, template_of, super_dotted, private_first}

-- ---- before an operand

-- a state under a condition
abbrev pub when : Bool → State → State
when true s = s
when false s = failed

-- a word or a string by its value, where it has one
abbrev pub by_word : Option (List ℕ) → (List ℕ → State) → State
by_word None f = failed
by_word (Some v) f = f v

-- a piece of a template, where what it stands for can be told
abbrev pub by_piece : Option Tree → (Tree → State) → State
by_piece None f = failed
by_piece (Some v) f = f v

-- an operator before its operand, which is no constructor
abbrev pub prefixed : Allowed → Frame → List Frame → State
prefixed c f k = when (nat_le (wanted k) 17) (operand c (f ∷ k))

-- a word where an operand is awaited
abbrev pub word_operand : Allowed → List Frame → List ℕ → State
word_operand c k w =
    if bytes_eq w (codes "async") then async_word c k
    else (if bytes_eq w (codes "await") then when c.await_operand (prefixed c await_of k)
    else (if bytes_eq w (codes "yield") then when c.yield_operand (when (nat_le (wanted k) 2) (yielded c k))
    else (if bytes_eq w (codes "typeof") then prefixed c (unary_of unary_operators.Typeof) k
    else (if bytes_eq w (codes "void") then prefixed c (unary_of unary_operators.Void) k
    else (if bytes_eq w (codes "delete") then prefixed c (unary_of unary_operators.Delete) k
    else (if bytes_eq w (codes "new") then newly c k
    else (if bytes_eq w (codes "super") then supered c k
    else (if bytes_eq w (codes "import") then importing c k
    else (if bytes_eq w (codes "function") then function_word (as_operand c k) false false
    else (if bytes_eq w (codes "class") then class_word (as_operand c k)
    else (if bytes_eq w (codes "this") then linked c k (tree.this_expression (nothing_of 0))
    else (if bytes_eq w (codes "null") then linked c k (tree.null_literal (nothing_of 0))
    else (if bytes_eq w (codes "true") then linked c k (tree.boolean_literal (bare (flag true ∷ [])))
    else (if bytes_eq w (codes "false") then linked c k (tree.boolean_literal (bare (flag false ∷ [])))
    else by_word (word_value w) (λ v. when (is_free_name v) (linked c k (tree.identifier_reference (unnumbered v))))))))))))))))))

-- `...` before an operand
abbrev pub spread_operand : Allowed → List Frame → State
spread_operand c [] = failed
spread_operand c (arguments ts ∷ k) = operand c (spread_of ∷ arguments ts ∷ k)
spread_operand c (elements_of ts ∷ k) = operand c (spread_of ∷ elements_of ts ∷ k)
spread_operand c (properties_of ps ∷ k) = operand c (spread_of ∷ properties_of ps ∷ k)
spread_operand c (f ∷ k) = failed

-- a comma before which no element stands
abbrev pub comma_operand : Allowed → List Frame → State
comma_operand c [] = failed
comma_operand c (elements_of ts ∷ k) = operand c (elements_of (joined ts (hole no_trees)) ∷ k)
comma_operand c (f ∷ k) = failed

-- a sign where an operand is awaited
abbrev pub sign_operand : Allowed → List Frame → Punctuator → State
sign_operand c k plus = prefixed c (unary_of unary_operators.UnaryPlus) k
sign_operand c k minus = prefixed c (unary_of unary_operators.UnaryNegation) k
sign_operand c k tilde = prefixed c (unary_of unary_operators.BitwiseNot) k
sign_operand c k bang = prefixed c (unary_of unary_operators.LogicalNot) k
sign_operand c k plus_plus = prefixed c (before_of update_operators.Increment) k
sign_operand c k minus_minus = prefixed c (before_of update_operators.Decrement) k
sign_operand c k ellipsis = spread_operand c k
sign_operand c k comma = comma_operand c k
sign_operand c k s = failed

-- without the last character
abbrev pub without_last : List ℕ → List ℕ
without_last [] = []
without_last (x ∷ []) = []
without_last (x ∷ y ∷ ys) = x ∷ without_last (y ∷ ys)

-- a number, or a big integer
abbrev pub number_operand : Allowed → List Frame → List ℕ → State
number_operand c k w = if has_suffix w then linked c k (tree.big_int_literal (named (without_last w))) else linked c k (tree.numeric_literal (by_text w))

-- a private name, which `in` follows, where the whole may stand; a regular expression; and the first piece of a template
abbrev pub special_operand : Allowed → List Frame → Special → State
special_operand c k (Private w) = by_word (word_value w) (λ v. when (nat_le (wanted k) 11) (private_first c k v))
special_operand c k (Pattern w flags) = linked c k (tree.reg_exp_literal (bare (text w ∷ text flags ∷ [])))
special_operand c k (Head w) = by_piece (read_piece false w) (λ v. operand (with_in c) (template_of c absent (more v no_trees) no_trees ∷ k))
special_operand c k s = failed

-- a token where an operand is awaited
abbrev pub operand_piece : Allowed → List Frame → Piece → State
operand_piece c k (Word w) = word_operand c k w
operand_piece c k (Number w) = number_operand c k w
operand_piece c k (Quoted q w) = by_word (string_value q w) (λ us. linked c k (tree.string_literal (bare (units us ∷ []))))
operand_piece c k (Sign s) = sign_operand c k s
operand_piece c k (Beyond s) = special_operand c k s

-- ---- behind an expression, by what follows

-- an operator behind its left operand, where what waits allows its level
abbrev pub pushed_binary : BinaryOperator → Settled → State
pushed_binary o stuck = failed
pushed_binary o (at c k t) = when (nat_le (wanted k) (rank (operation_level o))) (operand c (left_of o t ∷ k))

-- so `||` and `&&`, and the first `??`
abbrev pub pushed_logic : Allowed → LogicalOperator → List Frame → Tree → State
pushed_logic c o k t = when (nat_le (wanted k) (logic_rank o)) (operand c (logical_of o t ∷ k))

-- a chain of `??` goes on
abbrev pub pushed_coalesce : Allowed → List Frame → Tree → State
pushed_coalesce c [] t = pushed_logic c Coalesce [] t
pushed_coalesce c (logical_of Coalesce l ∷ k) t = operand c (logical_of Coalesce (tree.logical (bare (logical_operator Coalesce ∷ [])) l t) ∷ k)
pushed_coalesce c (f ∷ k) t = pushed_logic c Coalesce (f ∷ k) t

abbrev pub pushed_logical : LogicalOperator → Settled → State
pushed_logical o stuck = failed
pushed_logical Coalesce (at c k t) = pushed_coalesce c k t
pushed_logical o (at c k t) = pushed_logic c o k t

-- `?` behind a condition
abbrev pub pushed_test : Settled → State
pushed_test stuck = failed
pushed_test (at c k t) = when (nat_le (wanted k) 3) (operand (with_in c) (test_of c t ∷ k))

abbrev pub labelled : List ℕ → Tree → Tree
labelled v s = tree.labeled_statement (nothing_of 0) (tree.label_identifier (named v)) s

-- a colon behind a statement that is a name: its label
abbrev pub label_behind : Allowed → List Frame → Tree → State
label_behind c k (tree.identifier_reference a) = start c (wrap_of (labelled (identifier_reference_name a)) ∷ k)
label_behind c k t = failed

-- a colon, by what waits for it
abbrev pub pushed_choice : Settled → State
pushed_choice stuck = failed
pushed_choice (at c [] t) = failed
pushed_choice (at c (test_of d x ∷ k) t) = operand d (choice_of x t ∷ k)
pushed_choice (at c (expression_of ∷ k) t) = label_behind c k t
pushed_choice (at c (case_test more_default cs ∷ k) t) = start c (list_of (in_case more_default cs (given t)) no_trees ∷ [])
pushed_choice (at c (f ∷ k) t) = failed

abbrev pub declarator_of : Tree → Maybe → Tree
declarator_of b m = tree.variable_declarator (nothing_of 1) b m

abbrev pub property_with : Bool → Tree → Tree → Tree
property_with computed key e = tree.object_property (property_values Init false false computed) key e

-- the members of a class so far, with a field
abbrev pub with_field : Trees → Bool → Bool → Tree → Maybe → Trees
with_field ms static computed key value = joined ms (more (tree.property_definition (field_values static computed) key value) no_trees)

-- ---- bindings and targets behind a comma

-- a binding of a pattern with the value that it has where none is given
abbrev pub with_value : Tree → Maybe → Tree
with_value b absent = b
with_value b (given e) = tree.assignment_pattern (nothing_of 0) b e

-- what stands so far, with a binding and its value
abbrev pub with_bound : Binder → Tree → Maybe → Trees
with_bound (a_parameter ps) b m = joined ps (more (tree.formal_parameter (nothing_of 3) b m) no_trees)
with_bound sole_parameter b m = more (tree.formal_parameter (nothing_of 3) b m) no_trees
with_bound (an_element es) b m = joined es (more (with_value b m) no_trees)
with_bound (a_value ps computed key) b m = joined ps (more (tree.binding_property (computed_values computed) key (with_value b m)) no_trees)
with_bound (a_declaration kd ds) b m = joined ds (more (declarator_of b m) no_trees)
with_bound g b m = no_trees

-- the next binding
abbrev pub next_bound : Allowed → Binder → List Frame → Trees → State
next_bound c (a_parameter ps) k ts = parameter c ts
next_bound c (an_element es) k ts = pattern_elements names c ts
next_bound c (a_value ps computed key) k ts = pattern_properties names c ts
next_bound c (a_declaration kd ds) k ts = binding c (a_declaration kd ts) k
next_bound c g k ts = failed

-- what stands so far, with a target
abbrev pub with_target : Place → Tree → Trees
with_target (in_array es) t = joined es (more t no_trees)
with_target (in_object ps computed key) t = joined ps (more (tree.target_property (computed_values computed) key t) no_trees)
with_target g t = no_trees

-- the next target
abbrev pub next_target : Allowed → Place → Trees → State
next_target c (in_array es) ts = pattern_elements targets c ts
next_target c (in_object ps computed key) ts = pattern_properties targets c ts
next_target c g ts = failed

-- a target without parentheses
abbrev pub targeted : Allowed → Place → Option Tree → State
targeted c g None = failed
targeted c g (Some u) = next_target c g (with_target g u)

-- a target names no function that it doesn't name in parentheses
abbrev pub names_alike : Tree → Tree → Tree → Bool
names_alike t u e = same (names_function assignment_operators.Assign t e) (names_function assignment_operators.Assign u e)

-- a comma, by what waits
abbrev pub pushed_part : Settled → State
pushed_part stuck = failed
pushed_part (at c [] t) = operand c (parts_of (more t no_trees) ∷ [])
pushed_part (at c (parts_of ts ∷ k) t) = operand c (parts_of (joined ts (more t no_trees)) ∷ k)
pushed_part (at c (arguments ts ∷ k) t) = operand c (arguments (joined ts (more t no_trees)) ∷ k)
pushed_part (at c (elements_of ts ∷ k) t) = operand c (elements_of (joined ts (more t no_trees)) ∷ k)
pushed_part (at c (properties_of ps ∷ k) t) = property c (of_object (joined ps (more t no_trees)))
pushed_part (at c (property_of ps computed key ∷ k) t) = property c (of_object (joined ps (more (property_with computed key t) no_trees)))
pushed_part (at c (imported_of ts ∷ k) t) = operand c (imported_of (joined ts (more t no_trees)) ∷ k)
pushed_part (at c (value_of g b ∷ k) t) = next_bound c g k (with_bound g b (given t))
pushed_part (at c (target_of g ∷ k) t) = targeted c g (simple_target t)
pushed_part (at c (default_of g t u ∷ k) e) = when (names_alike t u e) (next_target c g (with_target g (tree.target_with_default (nothing_of 0) u e)))
pushed_part (at c (f ∷ k) t) = when (nat_le (wants f) 1) (operand c (parts_of (more t no_trees) ∷ f ∷ k))

-- variables end a statement, or the first part of a loop's head
abbrev pub variables_ended : Allowed → List Frame → Tree → State
variables_ended c [] d = failed
variables_ended c (first_part true ∷ k) d = failed
variables_ended c (first_part false ∷ k) d = second_part (with_in c) (given d)
variables_ended c (f ∷ k) d = ended c (f ∷ k) d

-- declared bindings end
abbrev pub variables_bound : Allowed → Binder → List Frame → Trees → State
variables_bound c (a_declaration kd ds) k ts = variables_ended c k (tree.variable_declaration (declared_as kd) ts)
variables_bound c g k ts = failed

-- a semicolon, by what waits
abbrev pub ended_by : Settled → State
ended_by stuck = failed
ended_by (at c [] t) = failed
ended_by (at c (expression_of ∷ k) t) = ended c k (tree.expression_statement (nothing_of 0) t)
ended_by (at c (throw_of ∷ k) t) = ended c k (tree.throw_statement (nothing_of 0) t)
ended_by (at c (return_of ∷ k) t) = ended c k (tree.return_statement (nothing_of 0) (given t))
ended_by (at c (exported_default ∷ k) t) = ended c k (default_exported t)
ended_by (at c (value_of g b ∷ k) t) = variables_bound c g k (with_bound g b (given t))
ended_by (at c (first_part false ∷ k) t) = second_part (with_in c) (given t)
ended_by (at c (test_part m ∷ k) t) = third_part c m (given t)
ended_by (at d (field_of c ms static computed key ∷ k) t) = property c (of_class (with_field ms static computed key (given t)) false)
ended_by (at c (f ∷ k) t) = failed

-- ---- templates

-- a template, behind its tag if it has one
abbrev pub template_as : Maybe → Trees → Trees → Tree
template_as absent qs es = tree.template_literal (nothing_of 0) qs es
template_as (given o) qs es = tree.tagged_template (nothing_of 0) o (tree.template_literal (nothing_of 0) qs es)

abbrev pub has_tag : Maybe → Bool
has_tag absent = false
has_tag (given o) = true

-- a template behind one more piece, which may be the last
abbrev pub pieced : Bool → Allowed → Allowed → Maybe → Trees → Trees → List Frame → State
pieced true c d tag qs es k = linked d k (template_as tag qs es)
pieced false c d tag qs es k = operand c (template_of d tag qs es ∷ k)

-- a piece behind an expression, by what waits
abbrev pub pushed_piece : Bool → List ℕ → Settled → State
pushed_piece last w stuck = failed
pushed_piece last w (at c [] t) = failed
pushed_piece last w (at c (template_of d tag qs es ∷ k) t) = by_piece (read_piece (has_tag tag) w) (λ v. pieced last c d tag (joined qs (more v no_trees)) (joined es (more t no_trees)) k)
pushed_piece last w (at c (f ∷ k) t) = failed

-- a template of one piece behind its tag
abbrev pub tagged_by : Allowed → List Frame → Tree → List ℕ → State
tagged_by c k t w = linked c k (template_as (given t) (more (raw_piece w) no_trees) no_trees)

-- a token behind an expression, where what waits was filled as far as the token allows
abbrev pub settled_kind : Kind → Settled → State
settled_kind (binary o) s = pushed_binary o s
settled_kind (logic o) s = pushed_logical o s
settled_kind a_question s = pushed_test s
settled_kind a_colon s = pushed_choice s
settled_kind a_comma s = pushed_part s
settled_kind a_semicolon s = ended_by s
settled_kind (a_further last w) s = pushed_piece last w s
settled_kind kd s = failed

abbrev pub settled_piece : Allowed → List Frame → Tree → Kind → State
settled_piece c k t kd = settled_kind kd (settle (kind_rank kd) c k t)

-- an element or a property of a pattern may have a value for where there is none
abbrev pub takes_default : Place → Bool
takes_default (in_array es) = true
takes_default (in_object ps computed key) = true
takes_default g = false

-- `=` behind a target in a pattern
abbrev pub defaulted : Allowed → List Frame → Tree → AssignmentOperator → Tree → State
defaulted c (target_of g ∷ k) t assignment_operators.Assign u = when (takes_default g) (operand c (default_of g t u ∷ k))
defaulted c k t o u = failed

-- an assignment behind its target
abbrev pub assigned : Allowed → List Frame → Tree → AssignmentOperator → Option Tree → State
assigned c k t o None = failed
assigned c k t o (Some u) = if nat_le (wanted k) 2 then operand c (assign_to o t u ∷ k) else defaulted c k t o u

-- `++` or `--` behind its operand
abbrev pub settled_update : Allowed → List Frame → Option Tree → State
settled_update c k None = failed
settled_update c k (Some u) = settled c k u

-- one parameter, by its name
abbrev pub named_parameter : List ℕ → Tree
named_parameter v = tree.formal_parameters (nothing_of 0) (more (tree.formal_parameter (nothing_of 3) (tree.binding_identifier (unnumbered v)) absent) no_trees) absent

-- an arrow behind a name
abbrev pub arrow_behind : Allowed → List Frame → Tree → State
arrow_behind c k (tree.identifier_reference a) = when (nat_le (wanted k) 2) (arrowed c k false (named_parameter (identifier_reference_name a)))
arrow_behind c k t = failed

-- behind `in` or `of`; a loop that waits for each value has `of`
abbrev pub looping : Bool → Bool → Allowed → Tree → State
looping true waits c l = operand (with_in c) (of_right waits l ∷ [])
looping false false c l = operand (with_in c) (in_right l ∷ [])
looping false true c l = failed

-- what a loop gives its values
abbrev pub looped : Bool → Allowed → List Frame → Option Tree → State
looped over c [] m = failed
looped over c (first_part waits ∷ k) None = failed
looped over c (first_part waits ∷ k) (Some u) = looping over waits c u
looped over c (f ∷ k) m = failed

-- a token behind a member or a call
abbrev pub linked_piece : Allowed → List Frame → Tree → Bool → Kind → State
linked_piece c k t mark a_dot = dotted c k t
linked_piece c k t mark an_in = looped false c k (simple_target t)
linked_piece c k t mark an_of = looped true c k (simple_target t)
linked_piece c k t mark a_link = when (nat_le (wanted k) 17) (chaining c k t)
linked_piece c k t mark (a_quoted q w) = when (is_backtick q) (tagged_by c k t w)
linked_piece c k t mark (a_whole w) = tagged_by c k t w
linked_piece c k t mark (a_head w) = operand (with_in c) (template_of c (given t) (more (raw_piece w) no_trees) no_trees ∷ k)
linked_piece c k t false an_arrow = arrow_behind c k t
linked_piece c k t mark (assigning o) = assigned c k t o (simple_target t)
linked_piece c k t false (updating o) = when (nat_le (wanted k) 17) (settled_update c k (updated false o (simple_target t)))
linked_piece c k t mark kd = settled_piece c k t kd

abbrev pub dotted_piece : Allowed → List Frame → Tree → Piece → State
dotted_piece c k t (Word w) = by_word (word_value w) (λ v. linked c k (tree.static_member (link_values false) t (tree.identifier_name (named v))))
dotted_piece c k t (Beyond (Private w)) = by_word (word_value w) (λ v. linked c k (tree.private_member (link_values false) t (private_name v)))
dotted_piece c k t p = failed

-- behind `new`
abbrev pub newly_piece : Allowed → List Frame → Piece → State
newly_piece c k (Sign dot) = targeting c k
newly_piece c k p = operand_piece c (new_of ∷ k) p

abbrev pub targeting_piece : Allowed → List Frame → Piece → State
targeting_piece c k (Word w) = when (bytes_eq w (codes "target")) (linked c k (tree.new_target (nothing_of 0)))
targeting_piece c k p = failed

abbrev pub supered_piece : Allowed → List Frame → Piece → State
supered_piece c k (Sign dot) = super_dotted c k
supered_piece c k p = failed

-- behind `import` in an expression
abbrev pub importing_piece : Allowed → List Frame → Piece → State
importing_piece c k (Sign dot) = import_dotted c k
importing_piece c k p = failed

abbrev pub import_dotted_piece : Allowed → List Frame → Piece → State
import_dotted_piece c k (Word w) = when (bytes_eq w (codes "meta")) (linked c k (tree.import_meta (nothing_of 0)))
import_dotted_piece c k p = failed

abbrev pub super_dotted_piece : Allowed → List Frame → Piece → State
super_dotted_piece c k (Word w) = dotted_piece c k (tree.super (nothing_of 0)) (Word w)
super_dotted_piece c k p = failed

-- `in` behind a private name
abbrev pub private_kind : Allowed → List Frame → List ℕ → Kind → State
private_kind c k v (binary operators.In) = operand c (private_of v ∷ k)
private_kind c k v kd = failed

-- ---- chains

abbrev pub chaining_piece : Allowed → List Frame → Tree → Piece → State
chaining_piece c k t (Word w) = by_word (word_value w) (λ v. chained c k (tree.static_member (link_values true) t (tree.identifier_name (named v))))
chaining_piece c k t (Beyond (Private w)) = by_word (word_value w) (λ v. chained c k (tree.private_member (link_values true) t (private_name v)))
chaining_piece c k t p = failed

-- a token behind a link of a chain
abbrev pub chained_piece : Allowed → List Frame → Tree → Kind → State
chained_piece c k t a_dot = chain_dotted c k t
chained_piece c k t a_link = chaining c k t
chained_piece c k t kd = settled_piece c k (tree.chain (nothing_of 0) t) kd

abbrev pub chain_dotted_piece : Allowed → List Frame → Tree → Piece → State
chain_dotted_piece c k t (Word w) = by_word (word_value w) (λ v. chained c k (tree.static_member (link_values false) t (tree.identifier_name (named v))))
chain_dotted_piece c k t (Beyond (Private w)) = by_word (word_value w) (λ v. chained c k (tree.private_member (link_values false) t (private_name v)))
chain_dotted_piece c k t p = failed

-- ---- arrows, `async` and `yield`

abbrev pub arrow_piece : Allowed → List Frame → Bool → Tree → Bool → Kind → State
arrow_piece c k async x false an_arrow = when (nat_le (wanted k) 2) (arrowed c k async x)
arrow_piece c k async x mark kd = failed

-- `async` as a name
abbrev pub async_reference : Tree
async_reference = tree.identifier_reference (unnumbered (codes "async"))

-- words that are operators behind an operand
abbrev pub is_operator : List ℕ → Bool
is_operator w = bytes_eq w (codes "in") || bytes_eq w (codes "instanceof")

-- a word behind `async`, on its line or not
abbrev pub async_name : Allowed → List Frame → Bool → List ℕ → State
async_name c k true w = failed
async_name c k false w = if bytes_eq w (codes "function") then function_word (as_operand c k) true false else by_word (word_value w) (λ v. when (is_free_name v) (parameters_read c k true (named_parameter v)))

abbrev pub async_piece : Allowed → List Frame → Bool → Piece → State
async_piece c k mark (Word w) = if is_operator w then linked_piece c k async_reference mark (kind c.in_operator (Word w)) else async_name c k mark w
async_piece c k mark p = linked_piece c k async_reference mark (kind c.in_operator p)

-- a token behind what no operator follows
abbrev pub closed_piece : Allowed → List Frame → Tree → Kind → State
closed_piece c k t kd = if nat_le (kind_rank kd) 2 then settled_piece c k t kd else failed

abbrev pub yield_alone : Tree
yield_alone = tree.yield_expression (bare (flag false ∷ [])) absent

-- `yield` is alone before the end of its line, and before what begins no operand
abbrev pub yielded_piece : Allowed → List Frame → Bool → Piece → State
yielded_piece c k true p = closed_piece c k yield_alone (kind c.in_operator p)
yielded_piece c k false (Sign star) = operand c (yield_of true ∷ k)
yielded_piece c k false (Sign comma) = closed_piece c k yield_alone a_comma
yielded_piece c k false (Sign colon) = closed_piece c k yield_alone a_colon
yielded_piece c k false (Sign semicolon) = closed_piece c k yield_alone a_semicolon
yielded_piece c k false (Beyond (Middle w)) = closed_piece c k yield_alone (a_further false w)
yielded_piece c k false (Beyond (Tail w)) = closed_piece c k yield_alone (a_further true w)
yielded_piece c k false p = operand_piece c (yield_of false ∷ k) p

-- a name as a binding
abbrev pub binding_of : Option (List ℕ) → (Tree → State) → State
binding_of None f = failed
binding_of (Some v) f = when (is_free_name v) (f (tree.binding_identifier (unnumbered v)))
