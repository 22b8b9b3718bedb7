-- What the reader answers at the end of brackets, or of the whole.
use Rattle.std.specs.Prelude.{ℕ, List, [], ◌∷◌, Bool, true, false, Option, Some, None, if◌then◌else◌}
use Rattle.jsgen_syntax.specs.Escapes.{word_value}
use Rattle.jsgen_syntax.specs.Name.{is_free_name}
use Rattle.jsgen_tree.specs.Tree.{Tree, Maybe, absent, given, Trees, no_trees, more}
use Rattle.jsgen_tree.specs.Nodes as tree
use Rattle.jsgen_model.specs.Normal.{nothing_of, named, declared_as, joined}
use Rattle.jsgen_model.specs.Grammar.{loop_values, simple_target}
use Rattle.jsgen_one_reading.specs.Modules.{named_import, default_exported, named_export}
use Rattle.jsgen_one_reading.specs.States.{Exchange, attributes, attribute_done, specifiers, specifier_named, specifier_done, exports, exported_named, exported_done, imported_of, exported_default, exchange, some_exports, settle, Bottom, Binder, Place, Holds, Frame, Settled, Owner, State, Answer, in_braces, in_a_body, in_case, rest_parameter, rest_element, rest_property, a_declaration, a_catch, rest_of_array, rest_of_object, value_of, target_of, default_of, elements_of, arguments, properties_of, property_of, key_alone, expression_of, throw_of, return_of, list_of, then_of, wrap_of, do_of, last_part, in_right, of_right, stuck, at, of_object, operand, linked, async_word, yielded, settled, chained, closed, parameter, bound, pattern_behind, pattern_elements, pattern_properties, pattern_word, start, async_start, ended, ending, jumping, returning, third_part, before_case, handled, before_directives, string_first, property, property_word, property_done, wrong, one_tree, some_trees, with_rest, a_body, a_loop, Manner, field_of, with_words, of_class, keyed}
use Rattle.jsgen_one_reading.specs.ExpressionPieces.{property_with, with_bound, with_target, names_alike, async_reference, yield_alone, with_field}
use Rattle.jsgen_one_reading.specs.Steps.{stands_alone, short_part, case_of, try_of, directive_of, short_property}

-- ---- the end of brackets

-- the end of statements
abbrev pub list_answer : Bottom → Trees → Answer
list_answer in_braces ss = some_trees ss
list_answer (in_a_body r ds) ss = a_body ds ss
list_answer (in_case more_default cs test) ss = some_trees (joined cs (more (case_of test ss) no_trees))

-- the end behind a statement, which closes those round it
abbrev pub listed_at_end : List Frame → Tree → Answer
listed_at_end [] s = wrong
listed_at_end (list_of b ss ∷ k) s = list_answer b (joined ss (more s no_trees))
listed_at_end (then_of t ∷ k) s = listed_at_end k (tree.if_statement (nothing_of 0) t s absent)
listed_at_end (wrap_of f ∷ k) s = listed_at_end k (f s)
listed_at_end (exported_default ∷ k) s = listed_at_end k (default_exported s)
listed_at_end (f ∷ k) s = wrong

-- a semicolon may lack there: not at a module's end, nor before the `while` of a `do`
abbrev pub bottom_lacks : Bottom → Bool
bottom_lacks (in_a_body r ds) = r
bottom_lacks b = true

abbrev pub may_lack : List Frame → Bool
may_lack [] = false
may_lack (list_of b ss ∷ k) = bottom_lacks b
may_lack (do_of ∷ k) = false
may_lack (f ∷ k) = may_lack k

-- the end in place of a semicolon
abbrev pub lacking : List Frame → Tree → Answer
lacking k s = if may_lack k then listed_at_end k s else wrong

abbrev pub for_of_parts : Maybe → Maybe → Maybe → Tree → Tree
for_of_parts m n o s = tree.for_statement (nothing_of 0) m n o s

-- the end behind a binding in a list
abbrev pub bound_end : Binder → List Frame → Trees → Answer
bound_end (a_declaration kd ds) k ts = lacking k (tree.variable_declaration (declared_as kd) ts)
bound_end g k ts = with_rest ts absent

-- a binding that ends its brackets
abbrev pub rest_end : Binder → Tree → Answer
rest_end (rest_parameter ps) b = with_rest ps (given (tree.formal_parameter_rest (nothing_of 0) b))
rest_end (rest_element es) b = with_rest es (given (tree.binding_rest_element (nothing_of 0) b))
rest_end (rest_property ps) b = with_rest ps (given (tree.binding_rest_element (nothing_of 0) b))
rest_end a_catch b = one_tree b
rest_end g b = wrong

-- the end behind a target in a pattern
abbrev pub place_end : Place → Tree → Answer
place_end (rest_of_array es) u = with_rest es (given (tree.target_rest (nothing_of 0) u))
place_end (rest_of_object ps) u = with_rest ps (given (tree.target_rest (nothing_of 0) u))
place_end g u = with_rest (with_target g u) absent

-- which is one without its parentheses
abbrev pub target_end : Place → Option Tree → Answer
target_end g None = wrong
target_end g (Some u) = place_end g u

-- a pattern of targets is a target only within another one
abbrev pub pattern_end : List Frame → Tree → Answer
pattern_end (target_of g ∷ k) t = place_end g t
pattern_end k t = wrong

-- the end behind an expression, by what waits
abbrev pub at_end : Settled → Answer
at_end stuck = wrong
at_end (at c [] t) = one_tree t
at_end (at c (arguments ts ∷ k) t) = some_trees (joined ts (more t no_trees))
at_end (at c (elements_of ts ∷ k) t) = some_trees (joined ts (more t no_trees))
at_end (at c (imported_of ts ∷ k) t) = some_trees (joined ts (more t no_trees))
at_end (at c (value_of g b ∷ k) t) = bound_end g k (with_bound g b (given t))
at_end (at c (target_of g ∷ k) t) = target_end g (simple_target t)
at_end (at c (default_of g t u ∷ k) e) = if names_alike t u e then place_end g (tree.target_with_default (nothing_of 0) u e) else wrong
at_end (at c (expression_of ∷ k) t) = lacking k (tree.expression_statement (nothing_of 0) t)
at_end (at c (throw_of ∷ k) t) = lacking k (tree.throw_statement (nothing_of 0) t)
at_end (at c (return_of ∷ k) t) = lacking k (tree.return_statement (nothing_of 0) (given t))
at_end (at c (last_part m n ∷ k) t) = a_loop (for_of_parts m n (given t))
at_end (at c (in_right l ∷ k) t) = a_loop (λ s. tree.for_in_statement (nothing_of 0) l t s)
at_end (at c (of_right waits l ∷ k) t) = a_loop (λ s. tree.for_of_statement (loop_values waits) l t s)
at_end (at c (key_alone ∷ k) t) = one_tree t
at_end (at c (properties_of ps ∷ k) t) = some_trees (joined ps (more t no_trees))
at_end (at c (property_of ps computed key ∷ k) t) = some_trees (joined ps (more (property_with computed key t) no_trees))
at_end (at d (field_of c ms static computed key ∷ k) t) = some_trees (with_field ms static computed key (given t))
at_end (at c (f ∷ k) t) = wrong

-- the end before an operand: of a list that may be empty, or may end in a comma
abbrev pub operand_end : List Frame → Answer
operand_end (arguments ts ∷ k) = some_trees ts
operand_end (elements_of ts ∷ k) = some_trees ts
operand_end (imported_of ts ∷ k) = some_trees ts
operand_end k = wrong

-- the end before a statement
abbrev pub start_end : List Frame → Answer
start_end (list_of b ss ∷ k) = list_answer b ss
start_end k = wrong

-- a property or a field by its name alone
abbrev pub short_end : Owner → Option (List ℕ) → Answer
short_end o None = wrong
short_end (of_object ps) (Some v) = if is_free_name v then some_trees (joined ps (more (short_property v) no_trees)) else wrong
short_end (of_class ms static) (Some v) = some_trees (with_field ms static false (tree.identifier_name (named v)) absent)

-- the end behind another key, which is a field's
abbrev pub keyed_end : Owner → Manner → Bool → Tree → Answer
keyed_end (of_class ms static) (with_words false false) computed key = some_trees (with_field ms static computed key absent)
keyed_end o m computed key = wrong

-- and so in a pattern
abbrev pub short_part_end : Holds → Trees → Option (List ℕ) → Answer
short_part_end h ps None = wrong
short_part_end h ps (Some v) = if is_free_name v then with_rest (joined ps (more (short_part h v) no_trees)) absent else wrong

-- the end before a property or a member
abbrev pub property_end : Owner → Answer
property_end (of_object ps) = some_trees ps
property_end (of_class ms false) = some_trees ms
property_end o = wrong

-- the end in the braces of imports, exports and attributes; an import or an export itself ends by a semicolon
abbrev pub exchange_end : Exchange → Answer
exchange_end (attributes ts) = some_trees ts
exchange_end (attribute_done ts) = some_trees ts
exchange_end (specifiers ts) = some_trees ts
exchange_end (specifier_named ts (given b) k) = some_trees (joined ts (more (named_import k b) no_trees))
exchange_end (specifier_done ts) = some_trees ts
exchange_end (exports r ts) = some_exports r ts
exchange_end (exported_named r ts k) = some_exports r (joined ts (more (named_export k k) no_trees))
exchange_end (exported_done r ts) = some_exports r ts
exchange_end x = wrong

-- the end, by where the reader is
abbrev pub finish : State → Answer
finish (settled c k t) = at_end (settle 1 c k t)
finish (linked c k t) = at_end (settle 1 c k t)
finish (async_word c k) = at_end (settle 1 c k async_reference)
finish (async_start c k) = at_end (settle 1 c k async_reference)
finish (yielded c k) = at_end (settle 1 c k yield_alone)
finish (chained c k t) = at_end (settle 1 c k (tree.chain (nothing_of 0) t))
finish (closed c k t) = at_end (settle 1 c k t)
finish (operand c k) = operand_end k
finish (parameter c ps) = with_rest ps absent
finish (bound c g k b) = if stands_alone g b then bound_end g k (with_bound g b absent) else rest_end g b
finish (pattern_behind c k t) = pattern_end k t
finish (pattern_elements h c es) = with_rest es absent
finish (pattern_properties h c ps) = with_rest ps absent
finish (pattern_word h c ps w) = short_part_end h ps (word_value w)
finish (start c k) = start_end k
finish (ended c k s) = listed_at_end k s
finish (ending c k s) = lacking k s
finish (jumping c f k) = lacking k (f absent)
finish (returning c k) = lacking k (tree.return_statement (nothing_of 0) absent)
finish (third_part c m n) = a_loop (for_of_parts m n absent)
finish (before_case c more_default cs) = some_trees cs
finish (handled c k body h) = listed_at_end k (try_of body (given h) absent)
finish (before_directives c ds) = a_body ds no_trees
finish (string_first c ds us) = if c.return_statement then a_body (joined ds (more (directive_of us) no_trees)) no_trees else wrong
finish (property c o) = property_end o
finish (property_word c o w) = short_end o (word_value w)
finish (keyed c o m computed key) = keyed_end o m computed key
finish (property_done c ps) = some_trees ps
finish (exchange x) = exchange_end x
finish s = wrong
