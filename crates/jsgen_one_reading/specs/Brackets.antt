-- What the reader does at brackets: where their inside begins, by what stands behind them, and what it makes of what was read there.
use Rattle.std.specs.Prelude.{ℕ, List, [], ◌∷◌, Bool, true, false, ◌||◌, nat_le, codes, if◌then◌else◌}
use Rattle.std.specs.Str.{bytes_eq}
use Rattle.jsgen_syntax.specs.Escapes.{word_value}
use Rattle.jsgen_tree.specs.declared.collections.PropertyKind.{PropertyKind}
use Rattle.jsgen_tree.specs.Tree.{Tree, Maybe, absent, given, Trees, no_trees, more}
use Rattle.jsgen_tree.specs.Nodes as tree
use Rattle.jsgen_model.specs.Punctuator.{comma, equal, Bracket, Round, Square, Brace, Punctuator, arrow}
use Rattle.jsgen_model.specs.Tokens.{Piece, Tokens, done, piece, group, Word, Sign}
use Rattle.jsgen_model.specs.Normal.{nothing_of, named, link_values, call_values, property_values, joined}
use Rattle.jsgen_model.specs.Grammar.{Allowed, with_in, without_in, in_parameters, in_body, in_arrow_body, arrow_values, is_plain_method, function_of, method_of, in_member, class_of, member_values}
use Rattle.jsgen_one_reading.specs.Modules.{import_call_of, attributes_of}
use Rattle.jsgen_one_reading.specs.States.{Exchange, import_start, import_others, source_with, attributes, specifiers, exporting, before_default, exports, names_exported, imported_of, exported_default, importing, exchange, some_exports, wanted, manner_kind, Place, Holds, Frame, Manner, Owner, State, Answer, in_braces, in_a_body, a_parameter, sole_parameter, an_element, a_catch, in_array, names, targets, new_of, arrow_of, yield_of, target_of, elements_of, arguments, key_alone, expression_of, throw_of, return_of, list_of, then_of, wrap_of, first_part, test_part, last_part, with_words, getting, setting, of_object, failed, operand, linked, async_word, yielded, newly, supered, chaining, chained, before_parameters, parameters_read, arrowed, closed, parameter, binding, bound, before_pattern, pattern_behind, target, pattern_elements, pattern_properties, pattern_key, start, async_start, ended, ending, tested, thrown, while_head, for_head, switch_head, switch_body, do_tested, returning, head, async_first, second_part, third_part, before_case, trying, tried, catching, caught, handled, finalizing, before_directives, string_first, function_word, function_named, function_headed, property, property_word, method_key, keyed, method_headed, property_done, one_tree, some_trees, with_rest, a_body, a_loop, settle, of_class, settled, class_word, class_headed, static_word}
use Rattle.jsgen_one_reading.specs.ExpressionPieces.{when, by_word, async_reference}
use Rattle.jsgen_one_reading.specs.Steps.{others_imported, listed_in, try_of, string_of, behind_directives, kept, kept_kind, by_manner, nameless, by_static, kept_class, kept_allowed, extended}

-- ---- brackets

-- what stands behind brackets
pub data Behind : Type 0 where
  -- `=>`, `=`, a comma, `of` or `in`, nothing, or something else
  arrow_next equal_next comma_next loop_next nothing_next other_next : Behind

abbrev pub behind_sign : Punctuator → Behind
behind_sign arrow = arrow_next
behind_sign equal = equal_next
behind_sign comma = comma_next
behind_sign s = other_next

abbrev pub behind_piece : Piece → Behind
behind_piece (Word w) = if bytes_eq w (codes "of") || bytes_eq w (codes "in") then loop_next else other_next
behind_piece (Sign s) = behind_sign s
behind_piece p = other_next

abbrev pub behind : Tokens → Behind
behind done = nothing_next
behind (piece mark p ts) = behind_piece p
behind (group mark b inside ts) = other_next

-- parentheses where an operand is awaited hold parameters where an arrow follows, and other brackets are a pattern before `=`
abbrev pub faced_operand : Allowed → List Frame → Bracket → Behind → State
faced_operand c k Round arrow_next = before_parameters c k false
faced_operand c k Square equal_next = before_pattern c k
faced_operand c k Brace equal_next = before_pattern c k
faced_operand c k b a = operand c k

-- behind `async` they do so on its line
abbrev pub faced_async : Allowed → List Frame → Bool → Bracket → Behind → State
faced_async c k false Round arrow_next = before_parameters c k true
faced_async c k mark Brace a = extended (settle 17 c k async_reference)
faced_async c k mark b a = linked c k async_reference

-- a target ends there
abbrev pub ends_target : Behind → Bool
ends_target equal_next = true
ends_target comma_next = true
ends_target nothing_next = true
ends_target a = false

-- brackets that are a whole target are a pattern
abbrev pub faced_target : Allowed → Place → Bracket → Behind → State
faced_target c g Round a = faced_operand c (target_of g ∷ []) Round a
faced_target c g b a = if ends_target a then before_pattern c (target_of g ∷ []) else faced_operand c (target_of g ∷ []) b a

-- brackets where an element of a pattern is awaited
abbrev pub faced_elements : Holds → Allowed → Trees → Bracket → Behind → State
faced_elements names c es b a = binding c (an_element es) []
faced_elements targets c es b a = faced_target c (in_array es) b a

abbrev pub is_loop : Behind → Bool
is_loop loop_next = true
is_loop a = false

-- first in the head of a loop brackets are a pattern before `of` and `in`
abbrev pub faced_head : Bool → Allowed → Bracket → Behind → State
faced_head waits c Round a = faced_operand c (first_part waits ∷ []) Round a
faced_head waits c b a = if is_loop a then before_pattern c (first_part waits ∷ []) else faced_operand c (first_part waits ∷ []) b a

-- brackets where a statement is awaited: only braces are one
abbrev pub faced_start : State → Bracket → Behind → State
faced_start (start c k) Brace a = start c k
faced_start (start c k) b a = faced_operand c (expression_of ∷ k) b a
faced_start s b a = failed

-- behind an arrow braces are a body
abbrev pub faced_arrow : Allowed → List Frame → Bool → Tree → Bracket → Behind → State
faced_arrow c k async x Brace a = arrowed c k async x
faced_arrow c k async x b a = faced_operand (in_arrow_body async c) (arrow_of c async x ∷ k) b a

-- `static` before braces
abbrev pub static_braces : Allowed → Owner → List ℕ → State
static_braces c (of_class ms false) w = when (bytes_eq w (codes "static")) (static_word c ms)
static_braces c o w = failed

-- a word that is a key, or what says that a method or a member with a computed key follows, or a static block
abbrev pub faced_word : Allowed → Owner → List ℕ → Bool → Bracket → State
faced_word c o w mark Round = by_word (word_value w) (λ v. keyed c o (with_words false false) false (tree.identifier_name (named v)))
faced_word c o w mark Square = by_manner mark w (λ m. method_key c o m) (by_static o w (λ x. property c x))
faced_word c o w mark Brace = static_braces c o w

-- behind `import` braces hold names, and parentheses are a call's; behind `export default` an expression begins
abbrev pub faced_exchange : Exchange → Bool → Bracket → Behind → State
faced_exchange (import_start c k) mark Brace a = exchange (import_others c k no_trees)
faced_exchange (import_start c k) mark b a = importing c (expression_of ∷ k)
faced_exchange (before_default c k) mark b a = faced_operand c (exported_default ∷ k) b a
faced_exchange x mark b a = exchange x

-- the state that faces a bracket, by what stands behind the whole
abbrev pub faced : State → Bool → Bracket → Behind → State
faced (operand c k) mark b a = faced_operand c k b a
faced (async_word c k) mark b a = faced_async c k mark b a
faced (yielded c k) mark b a = if mark then failed else faced_operand c (yield_of false ∷ k) b a
faced (newly c k) mark b a = faced_operand c (new_of ∷ k) b a
faced (arrowed c k async x) mark b a = faced_arrow c k async x b a
faced (head waits c) mark b a = faced_head waits c b a
faced (async_first c) mark b a = faced_async c (first_part true ∷ []) mark b a
faced (parameter c ps) mark b a = binding c (a_parameter ps) []
faced (target c g) mark b a = faced_target c g b a
faced (pattern_elements h c es) mark b a = faced_elements h c es b a
faced (second_part c m) mark b a = faced_operand c (test_part m ∷ []) b a
faced (third_part c m n) mark b a = faced_operand c (last_part m n ∷ []) b a
faced (returning c k) mark b a = if mark then failed else faced_operand c (return_of ∷ k) b a
faced (before_directives c ds) mark b a = faced_start (start c (list_of (in_a_body c.return_statement ds) no_trees ∷ [])) b a
faced (string_first c ds us) mark b a = linked c (behind_directives c ds) (string_of us)
faced (handled c k body h) mark b a = faced_start (listed_in c k (try_of body (given h) absent)) b a
faced (property_word c o w) mark b a = faced_word c o w mark b
faced (thrown c k) mark b a = if mark then failed else faced_operand c (throw_of ∷ k) b a
faced (start c k) mark b a = faced_start (start c k) b a
faced (async_start c k) mark b a = faced_async c k mark b a
faced (ended c k s) mark b a = faced_start (listed_in c k s) b a
faced (linked c k t) mark Brace a = extended (settle 17 c k t)
faced (settled c k t) mark Brace a = extended (settle 17 c k t)
faced (chained c k t) mark Brace a = extended (settle 17 c k (tree.chain (nothing_of 0) t))
faced (class_word g) mark b a = nameless g (class_headed g absent absent)
faced (exchange x) mark b a = faced_exchange x mark b a
faced s mark b a = s

-- what may stand in the body of a method
abbrev pub manner_body : Manner → Allowed
manner_body (with_words async generator) = in_body async generator
manner_body m = in_body false false

-- the braces of imports, exports and attributes
abbrev pub inner_exchange : Exchange → Bracket → State
inner_exchange (import_others c k ss) Brace = exchange (specifiers no_trees)
inner_exchange (source_with c k f s) Brace = exchange (attributes no_trees)
inner_exchange (exporting c k) Brace = exchange (exports true no_trees)
inner_exchange x b = failed

-- where what stands in brackets begins
abbrev pub inner : State → Bracket → State
inner (operand c k) Round = operand (with_in c) []
inner (operand c k) Square = operand (with_in c) (elements_of no_trees ∷ [])
inner (operand c k) Brace = property (with_in c) (of_object no_trees)
inner (binding c g k) Square = pattern_elements names (with_in c) no_trees
inner (binding c g k) Brace = pattern_properties names (with_in c) no_trees
inner (before_pattern c k) Square = pattern_elements targets (with_in c) no_trees
inner (before_pattern c k) Brace = pattern_properties targets (with_in c) no_trees
inner (pattern_properties h c ps) Square = operand (with_in c) (key_alone ∷ [])
inner (arrowed c k async x) Brace = before_directives (in_body async false) no_trees
inner (while_head c k) Round = operand c []
inner (for_head waits c k) Round = head waits (without_in c)
inner (switch_head c k) Round = operand c []
inner (switch_body c k t) Brace = before_case c true no_trees
inner (do_tested c k s) Round = operand c []
inner (trying c k) Brace = start c (list_of in_braces no_trees ∷ [])
inner (catching c k body) Round = binding c a_catch []
inner (catching c k body) Brace = start c (list_of in_braces no_trees ∷ [])
inner (caught c k body m) Brace = start c (list_of in_braces no_trees ∷ [])
inner (finalizing c k body h) Brace = start c (list_of in_braces no_trees ∷ [])
inner (function_word g async generator) Round = parameter in_parameters no_trees
inner (function_named g async generator m) Round = parameter in_parameters no_trees
inner (function_headed g async generator m ps rest) Brace = before_directives (in_body async generator) no_trees
inner (property c o) Square = operand (with_in c) (key_alone ∷ [])
inner (method_key c o m) Square = operand (with_in c) (key_alone ∷ [])
inner (keyed c o setting computed key) Round = binding in_parameters sole_parameter []
inner (keyed c o m computed key) Round = parameter in_parameters no_trees
inner (method_headed c o m computed key xs rest) Brace = before_directives (manner_body m) no_trees
inner (before_parameters c k async) Round = parameter in_parameters no_trees
inner (linked c k t) Round = operand (with_in c) (arguments no_trees ∷ [])
inner (linked c k t) Square = operand (with_in c) []
inner (supered c k) Round = operand (with_in c) (arguments no_trees ∷ [])
inner (supered c k) Square = operand (with_in c) []
inner (importing c k) Round = operand (with_in c) (imported_of no_trees ∷ [])
inner (chaining c k t) Round = operand (with_in c) (arguments no_trees ∷ [])
inner (chaining c k t) Square = operand (with_in c) []
inner (chained c k t) Round = operand (with_in c) (arguments no_trees ∷ [])
inner (chained c k t) Square = operand (with_in c) []
inner (tested c k) Round = operand c []
inner (start c k) Brace = start c (list_of in_braces no_trees ∷ [])
inner (class_headed g id h) Brace = property (with_in (kept_allowed g)) (of_class no_trees false)
inner (static_word c ms) Brace = start in_member (list_of in_braces no_trees ∷ [])
inner (exchange x) b = inner_exchange x b
inner s b = failed

abbrev pub in_parentheses_behind : Allowed → List Frame → Answer → State
in_parentheses_behind c k (one_tree t) = linked c k (tree.parenthesized (nothing_of 0) t)
in_parentheses_behind c k a = failed

-- parameters before an arrow
abbrev pub parameters_behind : Allowed → List Frame → Bool → Answer → State
parameters_behind c k async (with_rest ps rest) = parameters_read c k async (tree.formal_parameters (nothing_of 0) ps rest)
parameters_behind c k async a = failed

abbrev pub without_first : List Frame → List Frame
without_first [] = []
without_first (f ∷ k) = k

-- arguments are those of a `new` that waits
abbrev pub called_with : Allowed → List Frame → Tree → Answer → State
called_with c k t (some_trees es) = if nat_le (wanted k) 17 then linked c k (tree.call (call_values false) t es) else linked c (without_first k) (tree.new_expression (nothing_of 1) t es)
called_with c k t a = failed

abbrev pub super_called_with : Allowed → List Frame → Answer → State
super_called_with c k (some_trees es) = when (nat_le (wanted k) 17) (linked c k (tree.call (call_values false) (tree.super (nothing_of 0)) es))
super_called_with c k a = failed

abbrev pub computed_with : Allowed → List Frame → Tree → Answer → State
computed_with c k t (one_tree e) = linked c k (tree.computed_member (link_values false) t e)
computed_with c k t a = failed

abbrev pub chain_called_with : Bool → Allowed → List Frame → Tree → Answer → State
chain_called_with optional c k t (some_trees es) = chained c k (tree.call (call_values optional) t es)
chain_called_with optional c k t a = failed

abbrev pub chain_computed_with : Bool → Allowed → List Frame → Tree → Answer → State
chain_computed_with optional c k t (one_tree e) = chained c k (tree.computed_member (link_values optional) t e)
chain_computed_with optional c k t a = failed

abbrev pub tested_with : Allowed → List Frame → Answer → State
tested_with c k (one_tree t) = start c (then_of t ∷ k)
tested_with c k a = failed

abbrev pub block_behind : Allowed → List Frame → Answer → State
block_behind c k (some_trees ss) = ended c k (tree.block (nothing_of 0) ss)
block_behind c k a = failed

abbrev pub tree_then : Answer → (Tree → State) → State
tree_then (one_tree t) f = f t
tree_then a f = failed

abbrev pub trees_then : Answer → (Trees → State) → State
trees_then (some_trees ts) f = f ts
trees_then a f = failed

abbrev pub rest_then : Answer → (Trees → Maybe → State) → State
rest_then (with_rest ts rest) f = f ts rest
rest_then a f = failed

abbrev pub body_then : Answer → (Trees → Trees → State) → State
body_then (a_body ds ss) f = f ds ss
body_then a f = failed

abbrev pub loop_behind : Allowed → List Frame → Answer → State
loop_behind c k (a_loop f) = start c (wrap_of f ∷ k)
loop_behind c k a = failed

abbrev pub array_behind : Allowed → List Frame → Answer → State
array_behind c k a = trees_then a (λ es. linked c k (tree.array (nothing_of 0) es))

abbrev pub object_behind : Allowed → List Frame → Answer → State
object_behind c k a = trees_then a (λ ps. linked c k (tree.object_expression (nothing_of 0) ps))

abbrev pub arrow_body_behind : Allowed → List Frame → Bool → Tree → Answer → State
arrow_body_behind c k async x a = body_then a (λ ds ss. closed c k (tree.arrow_function (arrow_values async) x (tree.function_body (nothing_of 0) ds ss)))

abbrev pub catch_of : Maybe → Trees → Tree
catch_of m ss = tree.catch_clause (nothing_of 0) m (tree.block (nothing_of 0) ss)

-- the function of a method
abbrev pub manner_function : Manner → Trees → Maybe → Trees → Trees → Tree
manner_function (with_words async generator) xs rest ds ss = method_of async generator xs rest ds ss
manner_function m xs rest ds ss = method_of false false xs rest ds ss

-- a method of an object
abbrev pub method_with : PropertyKind → Bool → Tree → Tree → Tree
method_with kd computed key f = tree.object_property (property_values kd (is_plain_method kd) false computed) key f

-- behind a method, by what it belongs to
abbrev pub method_behind : Allowed → Owner → PropertyKind → Bool → Tree → Tree → State
method_behind c (of_object ps) kd computed key f = property_done c (joined ps (more (method_with kd computed key f) no_trees))
method_behind c (of_class ms static) kd computed key f = property c (of_class (joined ms (more (tree.method_definition (member_values kd static computed) key f) no_trees)) false)

-- a getter has no parameter
abbrev pub may_take : Manner → Trees → Maybe → Bool
may_take getting no_trees absent = true
may_take getting xs rest = false
may_take m xs rest = true

-- `import(..)`, with options or without
abbrev pub imported_with : Allowed → List Frame → Answer → State
imported_with c k (some_trees (more e no_trees)) = when (nat_le (wanted k) 17) (linked c k (import_call_of e absent))
imported_with c k (some_trees (more e (more options no_trees))) = when (nat_le (wanted k) 17) (linked c k (import_call_of e (given options)))
imported_with c k a = failed

abbrev pub exports_then : Answer → (Bool → Trees → State) → State
exports_then (some_exports r ss) f = f r ss
exports_then a f = failed

abbrev pub enter_exchange : Exchange → Bracket → Answer → State
enter_exchange (import_others c k ss) Brace a = trees_then a (λ us. others_imported c k ss us)
enter_exchange (source_with c k f s) Brace a = trees_then a (λ es. ending c k (f s (attributes_of es)))
enter_exchange (exporting c k) Brace a = exports_then a (λ r ss. exchange (names_exported c k r ss))
enter_exchange x b a = failed

-- the state behind brackets, by what was read in them
abbrev pub enter : State → Bracket → Answer → State
enter (operand c k) Round a = in_parentheses_behind c k a
enter (operand c k) Square a = array_behind c k a
enter (operand c k) Brace a = object_behind c k a
enter (binding c g k) Square a = rest_then a (λ es rest. bound c g k (tree.array_pattern (nothing_of 0) es rest))
enter (binding c g k) Brace a = rest_then a (λ ps rest. bound c g k (tree.object_pattern (nothing_of 0) ps rest))
enter (before_pattern c k) Square a = rest_then a (λ es rest. pattern_behind c k (tree.array_target (nothing_of 0) es rest))
enter (before_pattern c k) Brace a = rest_then a (λ ps rest. pattern_behind c k (tree.object_target (nothing_of 0) ps rest))
enter (pattern_properties h c ps) Square a = tree_then a (λ e. pattern_key h c ps true e)
enter (arrowed c k async x) Brace a = arrow_body_behind c k async x a
enter (while_head c k) Round a = tree_then a (λ t. start c (wrap_of (λ s. tree.while_statement (nothing_of 0) t s) ∷ k))
enter (for_head waits c k) Round a = loop_behind c k a
enter (switch_head c k) Round a = tree_then a (λ t. switch_body c k t)
enter (switch_body c k t) Brace a = trees_then a (λ cs. ended c k (tree.switch_statement (nothing_of 0) t cs))
enter (do_tested c k s) Round a = tree_then a (λ t. ending c k (tree.do_while_statement (nothing_of 0) s t))
enter (trying c k) Brace a = trees_then a (λ ss. tried c k ss)
enter (catching c k body) Round a = tree_then a (λ b. caught c k body (given b))
enter (catching c k body) Brace a = trees_then a (λ ss. handled c k body (catch_of absent ss))
enter (caught c k body m) Brace a = trees_then a (λ ss. handled c k body (catch_of m ss))
enter (finalizing c k body h) Brace a = trees_then a (λ ss. ended c k (try_of body h (given (tree.block (nothing_of 0) ss))))
enter (function_word g async generator) Round a = rest_then a (λ ps rest. nameless g (function_headed g async generator absent ps rest))
enter (function_named g async generator m) Round a = rest_then a (λ ps rest. function_headed g async generator m ps rest)
enter (function_headed g async generator m ps rest) Brace a = body_then a (λ ds ss. kept g (function_of (kept_kind g) async generator m ps rest ds ss))
enter (property c o) Square a = tree_then a (λ e. keyed c o (with_words false false) true e)
enter (method_key c o m) Square a = tree_then a (λ e. keyed c o m true e)
enter (keyed c o m computed key) Round a = rest_then a (λ xs rest. when (may_take m xs rest) (method_headed c o m computed key xs rest))
enter (method_headed c o m computed key xs rest) Brace a = body_then a (λ ds ss. method_behind c o (manner_kind m) computed key (manner_function m xs rest ds ss))
enter (before_parameters c k async) Round a = parameters_behind c k async a
enter (linked c k t) Round a = called_with c k t a
enter (linked c k t) Square a = computed_with c k t a
enter (supered c k) Round a = super_called_with c k a
enter (supered c k) Square a = computed_with c k (tree.super (nothing_of 0)) a
enter (importing c k) Round a = imported_with c k a
enter (chaining c k t) Round a = chain_called_with true c k t a
enter (chaining c k t) Square a = chain_computed_with true c k t a
enter (chained c k t) Round a = chain_called_with false c k t a
enter (chained c k t) Square a = chain_computed_with false c k t a
enter (tested c k) Round a = tested_with c k a
enter (start c k) Brace a = block_behind c k a
enter (class_headed g id h) Brace a = trees_then a (λ ms. kept g (class_of (kept_class g) id h ms))
enter (static_word c ms) Brace a = trees_then a (λ ss. property c (of_class (joined ms (more (tree.static_block (nothing_of 0) ss) no_trees)) false))
enter (exchange x) b a = enter_exchange x b a
enter s b a = failed
