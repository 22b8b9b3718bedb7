-- What the reader does at a token that is no bracket.
use Rattle.std.specs.Prelude.{ℕ, List, [], ◌∷◌, Bool, true, false, not, ◌&&◌, Option, Some, None, codes, if◌then◌else◌}
use Rattle.std.specs.Str.{bytes_eq}
use Rattle.jsgen_syntax.specs.Escapes.{word_value}
use Rattle.jsgen_syntax.specs.Strings.{is_backtick, string_value}
use Rattle.jsgen_tree.specs.declared.statements.VariableDeclarationKind.TheVariants.{Const, Let, Var}
use Rattle.jsgen_tree.specs.declared.functions.FunctionKind.{FunctionKind}
use Rattle.jsgen_tree.specs.declared.functions.FunctionKind.TheVariants as kinds
use Rattle.jsgen_tree.specs.declared.collections.PropertyKind.TheVariants.{Init}
use Rattle.jsgen_tree.specs.declared.classes.ClassKind.{ClassKind}
use Rattle.jsgen_tree.specs.declared.classes.ClassKind.TheVariants as class_kinds
use Rattle.jsgen_syntax.specs.Name.{is_free_name}
use Rattle.jsgen_syntax.specs.declared.operator.AssignmentOperator.TheVariants as assignment_operators
use Rattle.jsgen_tree.specs.Atom.{units}
use Rattle.jsgen_tree.specs.Tree.{Tree, Maybe, absent, given, Trees, no_trees, more, hole, no_list, listed}
use Rattle.jsgen_tree.specs.Places.{bare}
use Rattle.jsgen_tree.specs.Nodes as tree
use Rattle.jsgen_model.specs.Punctuator.{star, ellipsis, comma, semicolon, Punctuator, colon, equal}
use Rattle.jsgen_model.specs.Tokens.{Special, Piece, Private, Word, Number, Quoted, Sign, Beyond}
use Rattle.jsgen_model.specs.Normal.{nothing_of, named, unnumbered, by_text, declared_as, property_values, joined}
use Rattle.jsgen_model.specs.Grammar.{Allowed, with_in, in_arrow_body, has_suffix, computed_values, in_member, private_name}
use Rattle.jsgen_one_reading.specs.Modules.{import_of, default_import, namespace_import, named_import, bound_alike, word_text, attribute_of, exported, default_exported, named_export, export_of, export_from, export_all}
use Rattle.jsgen_one_reading.specs.States.{Exchange, import_start, import_named, import_others, import_star, import_space, before_from, before_source, behind_source, source_with, attributes, attribute_key, attribute_colon, attribute_done, specifiers, specifier_named, specifier_as, specifier_done, exporting, exporting_async, before_default, all_exported, all_exported_as, exports, exported_named, exported_as, exported_done, names_exported, exported_default, importing, import_dotted, exchange, kind, Kind, Binder, Holds, Frame, Settled, Kept, Manner, Owner, State, assigning, a_colon, a_comma, a_semicolon, an_in, an_of, in_a_body, in_case, a_parameter, rest_parameter, sole_parameter, an_element, rest_element, a_value, rest_property, a_declaration, in_array, rest_of_array, in_object, rest_of_object, names, targets, arrow_of, value_of, target_of, default_of, spread_of, properties_of, property_of, expression_of, throw_of, return_of, list_of, then_of, wrap_of, do_of, first_part, test_part, last_part, case_test, stuck, at, as_operand, as_statement, with_words, getting, setting, of_object, failed, operand, linked, async_word, yielded, settled, dotted, newly, targeting, supered, chaining, chained, chain_dotted, before_parameters, parameters_read, arrowed, closed, parameter, binding, bound, before_pattern, pattern_behind, target, pattern_elements, pattern_properties, pattern_word, pattern_key, rest_name, start, async_start, ended, ending, tested, thrown, while_head, for_head, switch_head, switch_body, do_behind, do_tested, jumping, returning, head, async_first, second_part, third_part, before_case, default_case, trying, tried, catching, caught, handled, finalizing, before_directives, string_first, function_word, function_named, function_headed, property, property_word, method_key, keyed, method_headed, property_done, extends_of, field_of, of_class, class_word, class_headed, static_word, takes_private, super_dotted, private_first}
use Rattle.jsgen_one_reading.specs.ExpressionPieces.{when, by_word, word_operand, sign_operand, without_last, operand_piece, declarator_of, with_field, with_bound, next_bound, with_target, next_target, variables_bound, settled_piece, assigned, looping, looped, linked_piece, dotted_piece, newly_piece, targeting_piece, supered_piece, importing_piece, import_dotted_piece, super_dotted_piece, private_kind, chaining_piece, chained_piece, chain_dotted_piece, arrow_piece, async_reference, async_piece, closed_piece, yielded_piece, binding_of}

-- ---- bindings and patterns

-- a name is bound, or a pattern, which begins with a bracket
abbrev pub binding_piece : Allowed → Binder → List Frame → Piece → State
binding_piece c g k (Word w) = binding_of (word_value w) (λ b. bound c g k b)
binding_piece c g k p = failed

-- a parameter, or `...` before the last
abbrev pub parameter_piece : Allowed → Trees → Piece → State
parameter_piece c ps (Sign ellipsis) = binding c (rest_parameter ps) []
parameter_piece c ps p = binding_piece c (a_parameter ps) [] p

abbrev pub is_bound_name : Tree → Bool
is_bound_name (tree.binding_identifier a) = true
is_bound_name b = false

-- the binding may stand without a value where others follow; a declared pattern has one
abbrev pub stands_alone : Binder → Tree → Bool
stands_alone (a_parameter ps) b = true
stands_alone sole_parameter b = true
stands_alone (an_element es) b = true
stands_alone (a_value ps computed key) b = true
stands_alone (a_declaration kd ds) b = is_bound_name b
stands_alone g b = false

-- the binding may have a value
abbrev pub takes_value : Binder → Bool
takes_value (a_parameter ps) = true
takes_value sole_parameter = true
takes_value (an_element es) = true
takes_value (a_value ps computed key) = true
takes_value (a_declaration kd ds) = true
takes_value g = false

-- one name or one pattern that is declared is given the values of a loop
abbrev pub declared_loop : Bool → Allowed → Binder → List Frame → Tree → State
declared_loop over c (a_declaration kd no_trees) (first_part waits ∷ k) b = looping over waits c (tree.variable_declaration (declared_as kd) (more (declarator_of b absent) no_trees))
declared_loop over c g k b = failed

-- a token behind a binding
abbrev pub bound_kind : Allowed → Binder → List Frame → Tree → Kind → State
bound_kind c g k b a_comma = when (stands_alone g b) (next_bound c g k (with_bound g b absent))
bound_kind c g k b a_semicolon = when (stands_alone g b) (variables_bound c g k (with_bound g b absent))
bound_kind c g k b (assigning assignment_operators.Assign) = when (takes_value g) (operand c (value_of g b ∷ k))
bound_kind c g k b an_in = declared_loop false c g k b
bound_kind c g k b an_of = declared_loop true c g k b
bound_kind c g k b kd = failed

-- the name that takes the rest of the properties
abbrev pub rest_name_piece : Allowed → Trees → Piece → State
rest_name_piece c ps (Word w) = binding_of (word_value w) (λ b. bound c (rest_property ps) [] b)
rest_name_piece c ps p = failed

-- behind a pattern of targets: it is given a value, or the values of a loop, or another part of the pattern round it follows
abbrev pub pattern_kind : Allowed → List Frame → Tree → Kind → State
pattern_kind c k t (assigning assignment_operators.Assign) = assigned c k t assignment_operators.Assign (Some t)
pattern_kind c (target_of g ∷ k) t a_comma = next_target c g (with_target g t)
pattern_kind c k t an_in = looped false c k (Some t)
pattern_kind c k t an_of = looped true c k (Some t)
pattern_kind c k t kd = failed

-- before an element, which is no comma
abbrev pub element_piece : Holds → Allowed → Trees → Piece → State
element_piece names c es p = binding_piece c (an_element es) [] p
element_piece targets c es p = operand_piece c (target_of (in_array es) ∷ []) p

-- what takes the rest of the elements
abbrev pub rest_of_elements : Holds → Allowed → Trees → State
rest_of_elements names c es = binding c (rest_element es) []
rest_of_elements targets c es = target c (rest_of_array es)

-- a token before an element
abbrev pub elements_piece : Holds → Allowed → Trees → Piece → State
elements_piece h c es (Sign comma) = pattern_elements h c (joined es (hole no_trees))
elements_piece h c es (Sign ellipsis) = rest_of_elements h c es
elements_piece h c es p = element_piece h c es p

-- before the value of a key
abbrev pub before_value : Holds → Allowed → Trees → Bool → Tree → State
before_value names c ps computed key = binding c (a_value ps computed key) []
before_value targets c ps computed key = target c (in_object ps computed key)

-- what takes the rest of the properties
abbrev pub rest_of_properties : Holds → Allowed → Trees → State
rest_of_properties names c ps = rest_name c ps
rest_of_properties targets c ps = operand c (target_of (rest_of_object ps) ∷ [])

-- a name that is its key and what is bound or given there
abbrev pub short_part : Holds → List ℕ → Tree
short_part names v = tree.binding_property (computed_values false) (tree.identifier_name (named v)) (tree.binding_identifier (unnumbered v))
short_part targets v = tree.target_property (computed_values false) (tree.identifier_name (named v)) (tree.identifier_reference (unnumbered v))

-- and before the value that it has where none is given
abbrev pub short_value : Holds → Trees → List ℕ → Frame
short_value names ps v = value_of (a_value ps false (tree.identifier_name (named v))) (tree.binding_identifier (unnumbered v))
short_value targets ps v = default_of (in_object ps false (tree.identifier_name (named v))) (tree.identifier_reference (unnumbered v)) (tree.identifier_reference (unnumbered v))

-- a token behind a word that is a key, or a name by itself
abbrev pub pattern_word_kind : Holds → Allowed → Trees → List ℕ → Kind → State
pattern_word_kind h c ps w a_comma = by_word (word_value w) (λ v. when (is_free_name v) (pattern_properties h c (joined ps (more (short_part h v) no_trees))))
pattern_word_kind h c ps w (assigning assignment_operators.Assign) = by_word (word_value w) (λ v. when (is_free_name v) (operand c (short_value h ps v ∷ [])))
pattern_word_kind h c ps w a_colon = by_word (word_value w) (λ v. before_value h c ps false (tree.identifier_name (named v)))
pattern_word_kind h c ps w kd = failed

-- a colon behind a key
abbrev pub pattern_key_kind : Holds → Allowed → Trees → Bool → Tree → Kind → State
pattern_key_kind h c ps computed key a_colon = before_value h c ps computed key
pattern_key_kind h c ps computed key kd = failed

-- ---- statements

-- a statement has ended that no `else` follows: it stands in its list, or is the body of `do`
abbrev pub listed_in : Allowed → List Frame → Tree → State
listed_in c [] s = failed
listed_in c (list_of b ss ∷ k) s = start c (list_of b (joined ss (more s no_trees)) ∷ k)
listed_in c (then_of t ∷ k) s = listed_in c k (tree.if_statement (nothing_of 0) t s absent)
listed_in c (wrap_of f ∷ k) s = listed_in c k (f s)
listed_in c (exported_default ∷ k) s = listed_in c k (default_exported s)
listed_in c (do_of ∷ k) s = do_behind c k s
listed_in c (f ∷ k) s = failed

-- the `if` of an `else`
abbrev pub else_behind : Allowed → List Frame → Tree → State
else_behind c [] s = failed
else_behind c (then_of t ∷ k) s = start c (wrap_of (λ u. tree.if_statement (nothing_of 0) t s (given u)) ∷ k)
else_behind c (wrap_of f ∷ k) s = else_behind c k (f s)
else_behind c (exported_default ∷ k) s = else_behind c k (default_exported s)
else_behind c (f ∷ k) s = failed

-- a case, by its test and its statements
abbrev pub case_of : Maybe → Trees → Tree
case_of test ss = tree.switch_case (nothing_of 0) test ss

-- another case of a `switch` begins
abbrev pub case_begins : List Frame → (Bool → Trees → State) → State
case_begins (list_of (in_case more_default cs test) ss ∷ k) f = f more_default (joined cs (more (case_of test ss) no_trees))
case_begins k f = failed

-- a declaration may stand there
abbrev pub is_list : List Frame → Bool
is_list (list_of b ss ∷ k) = true
is_list k = false

-- an import or an export may stand there: among the items of a module
abbrev pub is_module : List Frame → Bool
is_module (list_of (in_a_body false ds) ss ∷ k) = true
is_module k = false

-- a word where a statement is awaited
abbrev pub word_start : Allowed → List Frame → List ℕ → State
word_start c k w =
    if bytes_eq w (codes "if") then tested c k
    else (if bytes_eq w (codes "throw") then thrown c k
    else (if bytes_eq w (codes "function") then when (is_list k) (function_word (as_statement c k) false false)
    else (if bytes_eq w (codes "class") then when (is_list k) (class_word (as_statement c k))
    else (if bytes_eq w (codes "async") then async_start c (expression_of ∷ k)
    else (if bytes_eq w (codes "var") then binding c (a_declaration Var no_trees) k
    else (if bytes_eq w (codes "let") then when (is_list k) (binding c (a_declaration Let no_trees) k)
    else (if bytes_eq w (codes "const") then when (is_list k) (binding c (a_declaration Const no_trees) k)
    else (if bytes_eq w (codes "while") then while_head c k
    else (if bytes_eq w (codes "for") then for_head false c k
    else (if bytes_eq w (codes "switch") then switch_head c k
    else (if bytes_eq w (codes "do") then start c (do_of ∷ k)
    else (if bytes_eq w (codes "break") then jumping c (λ m. tree.break_statement (nothing_of 0) m) k
    else (if bytes_eq w (codes "continue") then jumping c (λ m. tree.continue_statement (nothing_of 0) m) k
    else (if bytes_eq w (codes "return") then when c.return_statement (returning c k)
    else (if bytes_eq w (codes "debugger") then ending c k (tree.debugger_statement (nothing_of 0))
    else (if bytes_eq w (codes "try") then trying c k
    else (if bytes_eq w (codes "case") then case_begins k (λ more_default cs. operand c (case_test more_default cs ∷ []))
    else (if bytes_eq w (codes "default") then case_begins k (λ more_default cs. when more_default (default_case c cs))
    else (if bytes_eq w (codes "import") then (if is_module k then exchange (import_start c k) else importing c (expression_of ∷ k))
    else (if bytes_eq w (codes "export") then when (is_module k) (exchange (exporting c k))
    else word_operand c (expression_of ∷ k) w))))))))))))))))))))

abbrev pub sign_start : Allowed → List Frame → Punctuator → State
sign_start c k semicolon = ended c k (tree.empty_statement (nothing_of 0))
sign_start c k s = sign_operand c (expression_of ∷ k) s

abbrev pub start_piece : Allowed → List Frame → Piece → State
start_piece c k (Word w) = word_start c k w
start_piece c k (Sign s) = sign_start c k s
start_piece c k p = operand_piece c (expression_of ∷ k) p

abbrev pub is_the : List ℕ → Piece → Bool
is_the v (Word w) = bytes_eq w v
is_the v p = false

-- the function that `async` declares, by the frame that an expression there has: as a statement it stands in a list
abbrev pub async_declared : Allowed → List Frame → State
async_declared c (expression_of ∷ k) = when (is_list k) (function_word (as_statement c k) true false)
async_declared c (exported_default ∷ k) = function_word (as_statement c (exported_default ∷ k)) true false
async_declared c k = failed

-- `async` where a statement begins, or behind `export default`: with `function` on its line it declares one
abbrev pub async_start_piece : Allowed → List Frame → Bool → Piece → State
async_start_piece c k mark p = if not mark && is_the (codes "function") p then async_declared c k else async_piece c k mark p

abbrev pub started : State → Piece → State
started (start c k) p = start_piece c k p
started (do_behind c k s) p = when (is_the (codes "while") p) (do_tested c k s)
started s p = failed

abbrev pub is_else : Piece → Bool
is_else (Word w) = bytes_eq w (codes "else")
is_else p = false

abbrev pub ended_piece : Allowed → List Frame → Tree → Piece → State
ended_piece c k s p = if is_else p then else_behind c k s else started (listed_in c k s) p

abbrev pub ending_kind : Allowed → List Frame → Tree → Kind → State
ending_kind c k t a_semicolon = ended c k t
ending_kind c k t kd = failed

abbrev pub label_of : Option (List ℕ) → (Tree → State) → State
label_of None f = failed
label_of (Some v) f = when (is_free_name v) (f (tree.label_identifier (named v)))

abbrev pub jumping_piece : Allowed → (Maybe → Tree) → List Frame → Bool → Piece → State
jumping_piece c f k false (Word w) = label_of (word_value w) (λ l. ending c k (f (given l)))
jumping_piece c f k mark (Sign semicolon) = ended c k (f absent)
jumping_piece c f k mark p = failed

abbrev pub returning_piece : Allowed → List Frame → Bool → Piece → State
returning_piece c k mark (Sign semicolon) = ended c k (tree.return_statement (nothing_of 0) absent)
returning_piece c k true p = failed
returning_piece c k false p = operand_piece c (return_of ∷ k) p

-- `await` behind `for`
abbrev pub for_piece : Allowed → List Frame → Piece → State
for_piece c k p = when (is_the (codes "await") p) (when c.await_operand (for_head true c k))

abbrev pub head_word : Bool → Allowed → List ℕ → State
head_word waits c w =
    if bytes_eq w (codes "var") then binding c (a_declaration Var no_trees) (first_part waits ∷ [])
    else (if bytes_eq w (codes "let") then binding c (a_declaration Let no_trees) (first_part waits ∷ [])
    else (if bytes_eq w (codes "const") then binding c (a_declaration Const no_trees) (first_part waits ∷ [])
    else (if waits && bytes_eq w (codes "async") then async_first c
    else word_operand c (first_part waits ∷ []) w)))

abbrev pub head_piece : Bool → Allowed → Piece → State
head_piece waits c (Word w) = head_word waits c w
head_piece waits c (Sign semicolon) = when (not waits) (second_part (with_in c) absent)
head_piece waits c p = operand_piece c (first_part waits ∷ []) p

-- `async` and `of` there: it is what the values are given to
abbrev pub async_first_piece : Allowed → Bool → Piece → State
async_first_piece c mark p = if is_the (codes "of") p then looping true true c async_reference else async_piece c (first_part true ∷ []) mark p

abbrev pub second_piece : Allowed → Maybe → Piece → State
second_piece c m (Sign semicolon) = third_part c m absent
second_piece c m p = operand_piece c (test_part m ∷ []) p

abbrev pub case_piece : Allowed → Bool → Trees → Piece → State
case_piece c more_default cs (Word w) = if bytes_eq w (codes "case") then operand c (case_test more_default cs ∷ []) else when (bytes_eq w (codes "default")) (when more_default (default_case c cs))
case_piece c more_default cs p = failed

abbrev pub default_piece : Allowed → Trees → Kind → State
default_piece c cs a_colon = start c (list_of (in_case false cs absent) no_trees ∷ [])
default_piece c cs kd = failed

abbrev pub try_of : Trees → Maybe → Maybe → Tree
try_of body h f = tree.try_statement (nothing_of 0) (tree.block (nothing_of 0) body) h f

abbrev pub tried_piece : Allowed → List Frame → Trees → Piece → State
tried_piece c k body p = if is_the (codes "catch") p then catching c k body else when (is_the (codes "finally") p) (finalizing c k body absent)

abbrev pub handled_piece : Allowed → List Frame → Trees → Tree → Piece → State
handled_piece c k body h p = if is_the (codes "finally") p then finalizing c k body (given h) else ended_piece c k (try_of body (given h) absent) p

-- ---- bodies

abbrev pub directive_of : List ℕ → Tree
directive_of us = tree.directive (bare (units us ∷ []))

abbrev pub string_of : List ℕ → Tree
string_of us = tree.string_literal (bare (units us ∷ []))

-- an expression that begins with a string, behind directives
abbrev pub behind_directives : Allowed → Trees → List Frame
behind_directives c ds = expression_of ∷ list_of (in_a_body c.return_statement ds) no_trees ∷ []

abbrev pub quoted_first : Bool → Allowed → Trees → Option (List ℕ) → State
quoted_first true c ds us = by_word us (λ x. linked c (behind_directives c ds) (string_of x))
quoted_first false c ds us = by_word us (λ x. string_first c ds x)

abbrev pub directives_piece : Allowed → Trees → Piece → State
directives_piece c ds (Quoted q w) = quoted_first (is_backtick q) c ds (string_value q w)
directives_piece c ds p = start_piece c (list_of (in_a_body c.return_statement ds) no_trees ∷ []) p

abbrev pub string_first_kind : Allowed → Trees → List ℕ → Bool → Kind → State
string_first_kind c ds us mark a_semicolon = before_directives c (joined ds (more (directive_of us) no_trees))
string_first_kind c ds us mark kd = linked_piece c (behind_directives c ds) (string_of us) mark kd

-- ---- functions

abbrev pub kept : Kept → Tree → State
kept (as_operand c k) t = linked c k t
kept (as_statement c k) t = ended c k t

abbrev pub kept_kind : Kept → FunctionKind
kept_kind (as_operand c k) = kinds.Expression
kept_kind (as_statement c k) = kinds.Declaration

abbrev pub function_piece : Kept → Bool → Bool → Piece → State
function_piece g async generator (Word w) = binding_of (word_value w) (λ b. function_named g async generator (given b))
function_piece g async false (Sign star) = function_word g async true
function_piece g async generator p = failed

-- what is declared has a name, but not behind `export default`
abbrev pub may_lack_name : List Frame → Bool
may_lack_name (exported_default ∷ k) = true
may_lack_name k = false

abbrev pub may_be_nameless : Kept → Bool
may_be_nameless (as_operand c k) = true
may_be_nameless (as_statement c k) = may_lack_name k

abbrev pub nameless : Kept → State → State
nameless g s = when (may_be_nameless g) s

-- ---- objects

abbrev pub key_number : List ℕ → Tree
key_number w = if has_suffix w then tree.big_int_literal (named (without_last w)) else tree.numeric_literal (by_text w)

-- a property by its name alone
abbrev pub short_property : List ℕ → Tree
short_property v = tree.object_property (property_values Init false true false) (tree.identifier_name (named v)) (tree.identifier_reference (unnumbered v))

-- a string that is a key
abbrev pub quoted_key : Bool → Option (List ℕ) → (Tree → State) → State
quoted_key true us f = failed
quoted_key false us f = by_word us (λ x. f (string_of x))

-- before a property of a pattern
abbrev pub properties_piece : Holds → Allowed → Trees → Piece → State
properties_piece h c ps (Word w) = pattern_word h c ps w
properties_piece h c ps (Number w) = pattern_key h c ps false (key_number w)
properties_piece h c ps (Quoted q w) = quoted_key (is_backtick q) (string_value q w) (λ x. pattern_key h c ps false x)
properties_piece h c ps (Sign ellipsis) = rest_of_properties h c ps
properties_piece h c ps p = failed

-- a private name that is a key
abbrev pub private_key : Allowed → Owner → Manner → Special → State
private_key c o m (Private w) = when (takes_private o) (by_word (word_value w) (λ v. keyed c o m false (private_name v)))
private_key c o m s = failed

-- a token that begins a key, or the words of a method
abbrev pub key_piece : Allowed → Owner → Piece → State
key_piece c o (Word w) = property_word c o w
key_piece c o (Number w) = keyed c o (with_words false false) false (key_number w)
key_piece c o (Quoted q w) = quoted_key (is_backtick q) (string_value q w) (λ x. keyed c o (with_words false false) false x)
key_piece c o (Sign star) = method_key c o (with_words false true)
key_piece c o (Sign s) = failed
key_piece c o (Beyond s) = private_key c o (with_words false false) s

-- `...` before a property
abbrev pub spread_property : Allowed → Owner → State
spread_property c (of_object ps) = operand c (spread_of ∷ properties_of ps ∷ [])
spread_property c o = failed

-- a semicolon alone among members
abbrev pub semicolon_alone : Allowed → Owner → State
semicolon_alone c (of_class ms false) = property c (of_class ms false)
semicolon_alone c o = failed

abbrev pub property_piece : Allowed → Owner → Piece → State
property_piece c o (Sign ellipsis) = spread_property c o
property_piece c o (Sign semicolon) = semicolon_alone c o
property_piece c o p = key_piece c o p

-- the key of a method behind its words
abbrev pub method_key_piece : Allowed → Owner → Manner → Piece → State
method_key_piece c o m (Word w) = by_word (word_value w) (λ v. keyed c o m false (tree.identifier_name (named v)))
method_key_piece c o m (Number w) = keyed c o m false (key_number w)
method_key_piece c o m (Quoted q w) = quoted_key (is_backtick q) (string_value q w) (λ x. keyed c o m false x)
method_key_piece c o m (Sign s) = failed
method_key_piece c o m (Beyond s) = private_key c o m s

-- what a word says of the method whose key follows, on its line or not, or another state
abbrev pub by_manner : Bool → List ℕ → (Manner → State) → State → State
by_manner mark w f s = if bytes_eq w (codes "get") then f getting else (if bytes_eq w (codes "set") then f setting else (if bytes_eq w (codes "async") && not mark then f (with_words true false) else s))

-- `static` before a member
abbrev pub by_static : Owner → List ℕ → (Owner → State) → State
by_static (of_class ms false) w f = when (bytes_eq w (codes "static")) (f (of_class ms true))
by_static o w f = failed

-- a sign behind a key without words before it
abbrev pub keyed_sign : Allowed → Owner → Bool → Tree → Punctuator → State
keyed_sign c (of_object ps) computed key colon = operand c (property_of ps computed key ∷ [])
keyed_sign c (of_class ms static) computed key equal = operand in_member (field_of c ms static computed key ∷ [])
keyed_sign c (of_class ms static) computed key semicolon = property c (of_class (with_field ms static computed key absent) false)
keyed_sign c o computed key s = failed

abbrev pub keyed_piece : Allowed → Owner → Manner → Bool → Tree → Piece → State
keyed_piece c o (with_words false false) computed key (Sign s) = keyed_sign c o computed key s
keyed_piece c o m computed key p = failed

abbrev pub word_property_sign : Allowed → Owner → List ℕ → Punctuator → State
word_property_sign c (of_object ps) w comma = by_word (word_value w) (λ v. when (is_free_name v) (property c (of_object (joined ps (more (short_property v) no_trees)))))
word_property_sign c o w s = by_word (word_value w) (λ v. keyed_sign c o false (tree.identifier_name (named v)) s)

abbrev pub property_word_piece : Allowed → Owner → List ℕ → Bool → Piece → State
property_word_piece c o w mark (Sign star) = if bytes_eq w (codes "async") && not mark then method_key c o (with_words true true) else by_static o w (λ x. key_piece c x (Sign star))
property_word_piece c o w mark (Sign s) = word_property_sign c o w s
property_word_piece c o w mark p = by_manner mark w (λ m. method_key_piece c o m p) (by_static o w (λ x. key_piece c x p))

-- a comma behind a method
abbrev pub done_kind : Allowed → Trees → Kind → State
done_kind c ps a_comma = property c (of_object ps)
done_kind c ps kd = failed

-- ---- classes

abbrev pub kept_class : Kept → ClassKind
kept_class (as_operand c k) = class_kinds.Expression
kept_class (as_statement c k) = class_kinds.Declaration

abbrev pub kept_allowed : Kept → Allowed
kept_allowed (as_operand c k) = c
kept_allowed (as_statement c k) = c

-- before what a class extends, behind its name
abbrev pub extending : Kept → Maybe → State
extending (as_operand c k) id = operand (with_in c) (extends_of false c id ∷ k)
extending (as_statement c k) id = operand (with_in c) (extends_of true c id ∷ k)

abbrev pub class_piece : Kept → Piece → State
class_piece g (Word w) = if bytes_eq w (codes "extends") then nameless g (extending g absent) else binding_of (word_value w) (λ b. class_headed g (given b) absent)
class_piece g p = failed

abbrev pub class_headed_piece : Kept → Maybe → Maybe → Piece → State
class_headed_piece g id absent p = when (is_the (codes "extends") p) (extending g id)
class_headed_piece g id h p = failed

-- where a class stands, by what waits for what it extends
abbrev pub kept_again : Bool → Allowed → List Frame → Kept
kept_again false c k = as_operand c k
kept_again true c k = as_statement c k

-- `++` and `--` make no left-hand side
abbrev pub is_update : Tree → Bool
is_update (tree.update a t) = true
is_update t = false

-- braces behind what a class extends
abbrev pub extended : Settled → State
extended stuck = failed
extended (at d [] t) = failed
extended (at d (extends_of declared c id ∷ k) t) = when (not (is_update t)) (class_headed (kept_again declared c k) id (given t))
extended (at d (f ∷ k) t) = failed

-- ---- imports and exports

-- `as` or `from`
abbrev pub then_word : List ℕ → Piece → State → State
then_word w p s = when (is_the w p) s

-- a name of an import or an export, as a text
abbrev pub module_name : Piece → (Tree → State) → State
module_name (Word w) f = by_word (word_value w) (λ v. f (word_text v))
module_name (Quoted q w) f = quoted_key (is_backtick q) (string_value q w) f
module_name p f = failed

-- a string that names a module or is the value of an attribute
abbrev pub quoted_piece : Piece → (Tree → State) → State
quoted_piece (Quoted q w) f = quoted_key (is_backtick q) (string_value q w) f
quoted_piece p f = failed

-- a name that is bound
abbrev pub bound_piece : Piece → (Tree → State) → State
bound_piece (Word w) f = binding_of (word_value w) f
bound_piece p f = failed

-- behind `import` where an item of a module begins: an expression goes on with a dot
abbrev pub import_start_piece : Allowed → List Frame → Piece → State
import_start_piece c k (Word w) = bound_piece (Word w) (λ b. exchange (import_named c k (more (default_import b) no_trees)))
import_start_piece c k (Sign star) = exchange (import_star c k no_trees)
import_start_piece c k (Sign s) = importing_piece c (expression_of ∷ k) (Sign s)
import_start_piece c k p = quoted_piece p (λ s. exchange (behind_source c k (import_of no_list) s))

abbrev pub import_named_piece : Allowed → List Frame → Trees → Piece → State
import_named_piece c k ss (Sign comma) = exchange (import_others c k ss)
import_named_piece c k ss p = then_word (codes "from") p (exchange (before_source c k (import_of (listed ss))))

abbrev pub import_others_piece : Allowed → List Frame → Trees → Piece → State
import_others_piece c k ss (Sign star) = exchange (import_star c k ss)
import_others_piece c k ss p = failed

-- behind the braces of an import, or behind a namespace
abbrev pub others_imported : Allowed → List Frame → Trees → Trees → State
others_imported c k ss us = exchange (before_from c k (import_of (listed (joined ss us))))

abbrev pub behind_source_piece : Allowed → List Frame → (Tree → Maybe → Tree) → Tree → Piece → State
behind_source_piece c k f s p = if is_the (codes "with") p then exchange (source_with c k f s) else ending_kind c k (f s absent) (kind true p)

abbrev pub attributes_piece : Trees → Piece → State
attributes_piece ts (Word w) = by_word (word_value w) (λ v. exchange (attribute_key ts (tree.identifier_name (named v))))
attributes_piece ts p = quoted_piece p (λ x. exchange (attribute_key ts x))

abbrev pub attribute_colon_piece : Trees → Tree → Piece → State
attribute_colon_piece ts key p = quoted_piece p (λ x. exchange (attribute_done (joined ts (more (attribute_of key x) no_trees))))

abbrev pub specifiers_piece : Trees → Piece → State
specifiers_piece ts (Word w) = by_word (word_value w) (λ v. exchange (specifier_named ts (bound_alike v) (word_text v)))
specifiers_piece ts p = quoted_piece p (λ k. exchange (specifier_named ts absent k))

abbrev pub specifier_named_piece : Trees → Maybe → Tree → Piece → State
specifier_named_piece ts (given b) k (Sign comma) = exchange (specifiers (joined ts (more (named_import k b) no_trees)))
specifier_named_piece ts m k p = then_word (codes "as") p (exchange (specifier_as ts k))

abbrev pub specifier_as_piece : Trees → Tree → Piece → State
specifier_as_piece ts k p = bound_piece p (λ b. exchange (specifier_done (joined ts (more (named_import k b) no_trees))))

-- a colon behind the key of an attribute, and a comma behind what stands between braces
abbrev pub then_kind : Kind → Kind → State → State
then_kind a_colon a_colon s = s
then_kind a_comma a_comma s = s
then_kind x y s = failed

-- a declaration behind `export`
abbrev pub exporting_word : Allowed → List Frame → List ℕ → State
exporting_word c k w =
    if bytes_eq w (codes "default") then exchange (before_default c k)
    else (if bytes_eq w (codes "function") then function_word (as_statement c (wrap_of exported ∷ k)) false false
    else (if bytes_eq w (codes "class") then class_word (as_statement c (wrap_of exported ∷ k))
    else (if bytes_eq w (codes "async") then exchange (exporting_async c k)
    else (if bytes_eq w (codes "var") then binding c (a_declaration Var no_trees) (wrap_of exported ∷ k)
    else (if bytes_eq w (codes "let") then binding c (a_declaration Let no_trees) (wrap_of exported ∷ k)
    else (if bytes_eq w (codes "const") then binding c (a_declaration Const no_trees) (wrap_of exported ∷ k)
    else failed))))))

abbrev pub exporting_piece : Allowed → List Frame → Piece → State
exporting_piece c k (Word w) = exporting_word c k w
exporting_piece c k (Sign star) = exchange (all_exported c k)
exporting_piece c k p = failed

abbrev pub exporting_async_piece : Allowed → List Frame → Bool → Piece → State
exporting_async_piece c k mark p = when (not mark && is_the (codes "function") p) (function_word (as_statement c (wrap_of exported ∷ k)) true false)

abbrev pub before_default_piece : Allowed → List Frame → Piece → State
before_default_piece c k (Word w) =
    if bytes_eq w (codes "function") then function_word (as_statement c (exported_default ∷ k)) false false
    else (if bytes_eq w (codes "class") then class_word (as_statement c (exported_default ∷ k))
    else (if bytes_eq w (codes "async") then async_start c (exported_default ∷ k)
    else word_operand c (exported_default ∷ k) w))
before_default_piece c k p = operand_piece c (exported_default ∷ k) p

abbrev pub all_exported_piece : Allowed → List Frame → Piece → State
all_exported_piece c k p = if is_the (codes "as") p then exchange (all_exported_as c k) else then_word (codes "from") p (exchange (before_source c k (export_all absent)))

-- a word is a reference if it is free
abbrev pub exports_piece : Bool → Trees → Piece → State
exports_piece r ts (Word w) = by_word (word_value w) (λ v. exchange (exported_named (r && is_free_name v) ts (word_text v)))
exports_piece r ts p = quoted_piece p (λ k. exchange (exported_named false ts k))

abbrev pub exported_named_piece : Bool → Trees → Tree → Piece → State
exported_named_piece r ts k (Sign comma) = exchange (exports r (joined ts (more (named_export k k) no_trees)))
exported_named_piece r ts k p = then_word (codes "as") p (exchange (exported_as r ts k))

abbrev pub exported_as_piece : Bool → Trees → Tree → Piece → State
exported_as_piece r ts k p = module_name p (λ l. exchange (exported_done r (joined ts (more (named_export k l) no_trees))))

-- without a source each is a reference
abbrev pub names_exported_piece : Allowed → List Frame → Bool → Trees → Piece → State
names_exported_piece c k r ss p = if is_the (codes "from") p then exchange (before_source c k (export_from ss)) else when r (ending_kind c k (export_of ss) (kind true p))

abbrev pub exchange_piece : Exchange → Bool → Piece → State
exchange_piece (import_start c k) mark p = import_start_piece c k p
exchange_piece (import_named c k ss) mark p = import_named_piece c k ss p
exchange_piece (import_others c k ss) mark p = import_others_piece c k ss p
exchange_piece (import_star c k ss) mark p = then_word (codes "as") p (exchange (import_space c k ss))
exchange_piece (import_space c k ss) mark p = bound_piece p (λ b. others_imported c k ss (more (namespace_import b) no_trees))
exchange_piece (before_from c k f) mark p = then_word (codes "from") p (exchange (before_source c k f))
exchange_piece (before_source c k f) mark p = quoted_piece p (λ s. exchange (behind_source c k f s))
exchange_piece (behind_source c k f s) mark p = behind_source_piece c k f s p
exchange_piece (source_with c k f s) mark p = failed
exchange_piece (attributes ts) mark p = attributes_piece ts p
exchange_piece (attribute_key ts key) mark p = then_kind a_colon (kind true p) (exchange (attribute_colon ts key))
exchange_piece (attribute_colon ts key) mark p = attribute_colon_piece ts key p
exchange_piece (attribute_done ts) mark p = then_kind a_comma (kind true p) (exchange (attributes ts))
exchange_piece (specifiers ts) mark p = specifiers_piece ts p
exchange_piece (specifier_named ts m k) mark p = specifier_named_piece ts m k p
exchange_piece (specifier_as ts k) mark p = specifier_as_piece ts k p
exchange_piece (specifier_done ts) mark p = then_kind a_comma (kind true p) (exchange (specifiers ts))
exchange_piece (exporting c k) mark p = exporting_piece c k p
exchange_piece (exporting_async c k) mark p = exporting_async_piece c k mark p
exchange_piece (before_default c k) mark p = before_default_piece c k p
exchange_piece (all_exported c k) mark p = all_exported_piece c k p
exchange_piece (all_exported_as c k) mark p = module_name p (λ l. exchange (before_from c k (export_all (given l))))
exchange_piece (exports r ts) mark p = exports_piece r ts p
exchange_piece (exported_named r ts k) mark p = exported_named_piece r ts k p
exchange_piece (exported_as r ts k) mark p = exported_as_piece r ts k p
exchange_piece (exported_done r ts) mark p = then_kind a_comma (kind true p) (exchange (exports r ts))
exchange_piece (names_exported c k r ss) mark p = names_exported_piece c k r ss p

-- a token that is no bracket
abbrev pub step : State → Bool → Piece → State
step failed mark p = failed
step (operand c k) mark p = operand_piece c k p
step (linked c k t) mark p = linked_piece c k t mark (kind c.in_operator p)
step (async_word c k) mark p = async_piece c k mark p
step (yielded c k) mark p = yielded_piece c k mark p
step (settled c k t) mark p = settled_piece c k t (kind c.in_operator p)
step (dotted c k t) mark p = dotted_piece c k t p
step (newly c k) mark p = newly_piece c k p
step (targeting c k) mark p = targeting_piece c k p
step (supered c k) mark p = supered_piece c k p
step (importing c k) mark p = importing_piece c k p
step (import_dotted c k) mark p = import_dotted_piece c k p
step (super_dotted c k) mark p = super_dotted_piece c k p
step (private_first c k v) mark p = private_kind c k v (kind c.in_operator p)
step (chaining c k t) mark p = chaining_piece c k t p
step (chained c k t) mark p = chained_piece c k t (kind c.in_operator p)
step (chain_dotted c k t) mark p = chain_dotted_piece c k t p
step (before_parameters c k async) mark p = failed
step (parameters_read c k async x) mark p = arrow_piece c k async x mark (kind c.in_operator p)
step (arrowed c k async x) mark p = operand_piece (in_arrow_body async c) (arrow_of c async x ∷ k) p
step (parameter c ps) mark p = parameter_piece c ps p
step (binding c g k) mark p = binding_piece c g k p
step (bound c g k b) mark p = bound_kind c g k b (kind c.in_operator p)
step (before_pattern c k) mark p = failed
step (pattern_behind c k t) mark p = pattern_kind c k t (kind c.in_operator p)
step (target c g) mark p = operand_piece c (target_of g ∷ []) p
step (pattern_elements h c es) mark p = elements_piece h c es p
step (pattern_properties h c ps) mark p = properties_piece h c ps p
step (pattern_word h c ps w) mark p = pattern_word_kind h c ps w (kind c.in_operator p)
step (pattern_key h c ps computed key) mark p = pattern_key_kind h c ps computed key (kind c.in_operator p)
step (rest_name c ps) mark p = rest_name_piece c ps p
step (start c k) mark p = start_piece c k p
step (async_start c k) mark p = async_start_piece c k mark p
step (ended c k s) mark p = ended_piece c k s p
step (tested c k) mark p = failed
step (thrown c k) mark p = if mark then failed else operand_piece c (throw_of ∷ k) p
step (while_head c k) mark p = failed
step (for_head true c k) mark p = failed
step (for_head false c k) mark p = for_piece c k p
step (switch_head c k) mark p = failed
step (switch_body c k t) mark p = failed
step (do_behind c k s) mark p = started (do_behind c k s) p
step (do_tested c k s) mark p = failed
step (ending c k t) mark p = ending_kind c k t (kind true p)
step (jumping c f k) mark p = jumping_piece c f k mark p
step (returning c k) mark p = returning_piece c k mark p
step (head waits c) mark p = head_piece waits c p
step (async_first c) mark p = async_first_piece c mark p
step (second_part c m) mark p = second_piece c m p
step (third_part c m n) mark p = operand_piece c (last_part m n ∷ []) p
step (before_case c more_default cs) mark p = case_piece c more_default cs p
step (default_case c cs) mark p = default_piece c cs (kind true p)
step (trying c k) mark p = failed
step (tried c k body) mark p = tried_piece c k body p
step (catching c k body) mark p = failed
step (caught c k body m) mark p = failed
step (handled c k body h) mark p = handled_piece c k body h p
step (finalizing c k body h) mark p = failed
step (before_directives c ds) mark p = directives_piece c ds p
step (string_first c ds us) mark p = string_first_kind c ds us mark (kind c.in_operator p)
step (function_word g async generator) mark p = function_piece g async generator p
step (function_named g async generator m) mark p = failed
step (function_headed g async generator m ps rest) mark p = failed
step (closed c k t) mark p = closed_piece c k t (kind c.in_operator p)
step (property c o) mark p = property_piece c o p
step (property_word c o w) mark p = property_word_piece c o w mark p
step (keyed c o m computed key) mark p = keyed_piece c o m computed key p
step (method_key c o m) mark p = method_key_piece c o m p
step (method_headed c o m computed key xs rest) mark p = failed
step (property_done c ps) mark p = done_kind c ps (kind c.in_operator p)
step (class_word g) mark p = class_piece g p
step (class_headed g id h) mark p = class_headed_piece g id h p
step (static_word c ms) mark p = failed
step (exchange x) mark p = exchange_piece x mark p
