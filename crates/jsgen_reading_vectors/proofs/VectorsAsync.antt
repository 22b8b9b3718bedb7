-- Generated from tools/vectors/chosen.json; edit that and run tools/vectors/generate.
-- That they are read so: async.
use Rattle.std.proofs.Common.{[], ◌∷◌, true, false, codes, refl}
use Rattle.unicode_ident.proofs.Computing.{unicode_ident}
use Rattle.jsgen_syntax.specs.Escapes.{word_value}
use Rattle.jsgen_syntax.specs.declared.operator.BinaryOperator.TheVariants as operators
use Rattle.jsgen_tree.specs.declared.statements.VariableDeclarationKind.TheVariants.{Const}
use Rattle.jsgen_tree.specs.declared.collections.PropertyKind.TheVariants.{Init}
use Rattle.jsgen_tree.specs.declared.functions.FunctionKind.TheVariants as kinds
use Rattle.jsgen_tree.specs.Atom.{binary_operator}
use Rattle.jsgen_tree.specs.Tree.{absent, given, no_trees, more}
use Rattle.jsgen_tree.specs.Places.{bare}
use Rattle.jsgen_tree.specs.Nodes as tree
use Rattle.jsgen_model.specs.Normal.{nothing_of, call_values, declared_as, property_values}
use Rattle.jsgen_model.specs.Punctuator.{star_star, ellipsis, comma, semicolon, colon, question, equal, arrow, Round, Square, Brace}
use Rattle.jsgen_model.specs.Tokens.{done, piece, group, Word, longer_stands}
use Rattle.jsgen_model.specs.Grammar.{function_of, arrow_values, loop_values, computed_values}
use Rattle.jsgen_model.specs.Grammar as grammar
use Rattle.jsgen_reading_vectors.specs.Reading.{IsRead, program_of, statement_of, reference_of, name_of, key_of}
use Rattle.jsgen_reading_vectors.proofs.Written.{word, sign}
use Rattle.jsgen_reading_vectors.proofs.Levels.{primary_value, member_value, call_value, unary_value, primary_left, left_unary}
use Rattle.jsgen_reading_vectors.proofs.Names.{free_a, free_async, free_b, free_c, free_d, free_e, free_of, free_x, value__u0061sync, value_a, value_async, value_b, value_c, value_d, value_e, value_of, value_x}

pub await_in_module : IsRead (codes "await a;") (program_of no_trees (more (statement_of (tree.await_expression (nothing_of 0) (reference_of (codes "a")))) no_trees))
unfolding unicode_ident longer_stands word_value
await_in_module = (
  word (codes "await") (word (codes "a") (sign semicolon done)),
  ([], codes " a;", refl, refl, refl, refl, refl, (codes " ", codes ";", refl, refl, refl, refl, refl, ([], [], refl, refl, refl, refl, refl, refl))),
  grammar.a_module (grammar.module_items refl (grammar.last_module_item (grammar.a_module_statement (grammar.a_statement (grammar.an_expression_statement (grammar.a_semicolon {a = word (codes "await") (word (codes "a") done)} false refl) refl (grammar.an_assignment (unary_value (grammar.an_await refl (left_unary (primary_left (grammar.a_reference value_a free_a))))))))))),
)

pub operand_on_next_line : IsRead (codes "await\n[a];") (program_of no_trees (more (statement_of (tree.await_expression (nothing_of 0) (tree.array (nothing_of 0) (more (reference_of (codes "a")) no_trees)))) no_trees))
unfolding unicode_ident longer_stands word_value
operand_on_next_line = (
  word (codes "await") (group true Square (word (codes "a") done) (sign semicolon done)),
  ([], codes "\n[a];", refl, refl, refl, refl, refl, (codes "\n", codes "a", codes ";", refl, refl, refl, ([], [], refl, refl, refl, refl, refl, refl), ([], [], refl, refl, refl, refl, refl, refl))),
  grammar.a_module (grammar.module_items refl (grammar.last_module_item (grammar.a_module_statement (grammar.a_statement (grammar.an_expression_statement (grammar.a_semicolon {a = word (codes "await") (group true Square (word (codes "a") done) done)} false refl) refl (grammar.an_assignment (unary_value (grammar.an_await refl (left_unary (primary_left (grammar.an_array (grammar.last_element (grammar.an_element (primary_value (grammar.a_reference value_a free_a))))))))))))))),
)

pub power_of_awaited : IsRead (codes "(await a) ** await b;") (program_of no_trees (more (statement_of (tree.binary (bare (binary_operator operators.Exponential ∷ [])) (tree.parenthesized (nothing_of 0) (tree.await_expression (nothing_of 0) (reference_of (codes "a")))) (tree.await_expression (nothing_of 0) (reference_of (codes "b"))))) no_trees))
unfolding unicode_ident longer_stands word_value
power_of_awaited = (
  group false Round (word (codes "await") (word (codes "a") done)) (sign star_star (word (codes "await") (word (codes "b") (sign semicolon done)))),
  ([], codes "await a", codes " ** await b;", refl, refl, refl, ([], codes " a", refl, refl, refl, refl, refl, (codes " ", [], refl, refl, refl, refl, refl, refl)), (codes " ", codes " await b;", refl, refl, refl, refl, refl, (codes " ", codes " b;", refl, refl, refl, refl, refl, (codes " ", codes ";", refl, refl, refl, refl, refl, ([], [], refl, refl, refl, refl, refl, refl))))),
  grammar.a_module (grammar.module_items refl (grammar.last_module_item (grammar.a_module_statement (grammar.a_statement (grammar.an_expression_statement (grammar.a_semicolon {a = group false Round (word (codes "await") (word (codes "a") done)) (sign star_star (word (codes "await") (word (codes "b") done)))} false refl) refl (grammar.an_assignment (grammar.a_conditional (grammar.a_short_circuit (grammar.a_logical_or (grammar.a_logical_and (grammar.a_bit_or (grammar.a_bit_xor (grammar.a_bit_and (grammar.an_equality (grammar.a_relation (grammar.a_shift (grammar.an_additive (grammar.a_multiplicative (grammar.an_exponent (grammar.a_power {a = group false Round (word (codes "await") (word (codes "a") done)) done} false refl (grammar.a_left_hand_side (primary_left (grammar.in_parentheses (grammar.an_assignment (unary_value (grammar.an_await refl (left_unary (primary_left (grammar.a_reference value_a free_a))))))))) (grammar.a_unary (grammar.an_await refl (left_unary (primary_left (grammar.a_reference value_b free_b))))))))))))))))))))))))),
)

pub new_of_awaited : IsRead (codes "new (await a)();") (program_of no_trees (more (statement_of (tree.new_expression (nothing_of 1) (tree.parenthesized (nothing_of 0) (tree.await_expression (nothing_of 0) (reference_of (codes "a")))) no_trees)) no_trees))
unfolding unicode_ident longer_stands word_value
new_of_awaited = (
  word (codes "new") (group false Round (word (codes "await") (word (codes "a") done)) (group false Round done (sign semicolon done))),
  ([], codes " (await a)();", refl, refl, refl, refl, refl, (codes " ", codes "await a", codes "();", refl, refl, refl, ([], codes " a", refl, refl, refl, refl, refl, (codes " ", [], refl, refl, refl, refl, refl, refl)), ([], [], codes ";", refl, refl, refl, refl, ([], [], refl, refl, refl, refl, refl, refl)))),
  grammar.a_module (grammar.module_items refl (grammar.last_module_item (grammar.a_module_statement (grammar.a_statement (grammar.an_expression_statement (grammar.a_semicolon {a = word (codes "new") (group false Round (word (codes "await") (word (codes "a") done)) (group false Round done done))} false refl) refl (grammar.an_assignment (member_value (grammar.new_with_arguments {a = group false Round (word (codes "await") (word (codes "a") done)) done} false false refl (grammar.a_primary (grammar.in_parentheses (grammar.an_assignment (unary_value (grammar.an_await refl (left_unary (primary_left (grammar.a_reference value_a free_a)))))))) grammar.no_argument)))))))),
)

pub async_arrow_as_default : IsRead (codes "(a = async () => await b) => a;") (program_of no_trees (more (statement_of (tree.arrow_function (arrow_values false) (tree.formal_parameters (nothing_of 0) (more (tree.formal_parameter (nothing_of 3) (name_of (codes "a")) (given (tree.arrow_function (arrow_values true) (tree.formal_parameters (nothing_of 0) no_trees absent) (tree.await_expression (nothing_of 0) (reference_of (codes "b")))))) no_trees) absent) (reference_of (codes "a")))) no_trees))
unfolding unicode_ident longer_stands word_value
async_arrow_as_default = (
  group false Round (word (codes "a") (sign equal (word (codes "async") (group false Round done (sign arrow (word (codes "await") (word (codes "b") done))))))) (sign arrow (word (codes "a") (sign semicolon done))),
  ([], codes "a = async () => await b", codes " => a;", refl, refl, refl, ([], codes " = async () => await b", refl, refl, refl, refl, refl, (codes " ", codes " async () => await b", refl, refl, refl, refl, refl, (codes " ", codes " () => await b", refl, refl, refl, refl, refl, (codes " ", [], codes " => await b", refl, refl, refl, refl, (codes " ", codes " await b", refl, refl, refl, refl, refl, (codes " ", codes " b", refl, refl, refl, refl, refl, (codes " ", [], refl, refl, refl, refl, refl, refl))))))), (codes " ", codes " a;", refl, refl, refl, refl, refl, (codes " ", codes ";", refl, refl, refl, refl, refl, ([], [], refl, refl, refl, refl, refl, refl)))),
  grammar.a_module (grammar.module_items refl (grammar.last_module_item (grammar.a_module_statement (grammar.a_statement (grammar.an_expression_statement (grammar.a_semicolon {a = group false Round (word (codes "a") (sign equal (word (codes "async") (group false Round done (sign arrow (word (codes "await") (word (codes "b") done))))))) (sign arrow (word (codes "a") done))} false refl) refl (grammar.an_assignment (grammar.an_arrow (grammar.an_arrow_function {a = group false Round (word (codes "a") (sign equal (word (codes "async") (group false Round done (sign arrow (word (codes "await") (word (codes "b") done))))))) done} refl (grammar.grouped_parameters (grammar.last_parameter (grammar.with_initializer {a = word (codes "a") done} false refl (grammar.a_bound_name value_a free_a) (grammar.an_async_arrow refl (grammar.an_arrow_function {a = group false Round done done} refl (grammar.grouped_parameters grammar.no_parameter) refl (unary_value (grammar.an_await refl (left_unary (primary_left (grammar.a_reference value_b free_b)))))))))) refl (primary_value (grammar.a_reference value_a free_a)))))))))),
)

pub async_named_async : IsRead (codes "async function async() { async(); }") (program_of no_trees (more (function_of kinds.Declaration true false (given (name_of (codes "async"))) no_trees absent no_trees (more (statement_of (tree.call (call_values false) (reference_of (codes "async")) no_trees)) no_trees)) no_trees))
unfolding unicode_ident longer_stands word_value
async_named_async = (
  word (codes "async") (word (codes "function") (word (codes "async") (group false Round done (group false Brace (word (codes "async") (group false Round done (sign semicolon done))) done)))),
  ([], codes " function async() { async(); }", refl, refl, refl, refl, refl, (codes " ", codes " async() { async(); }", refl, refl, refl, refl, refl, (codes " ", codes "() { async(); }", refl, refl, refl, refl, refl, ([], [], codes " { async(); }", refl, refl, refl, refl, (codes " ", codes " async(); ", [], refl, refl, refl, (codes " ", codes "(); ", refl, refl, refl, refl, refl, ([], [], codes "; ", refl, refl, refl, refl, ([], codes " ", refl, refl, refl, refl, refl, refl))), refl))))),
  grammar.a_module (grammar.module_items refl (grammar.last_module_item (grammar.a_module_statement (grammar.a_function_declaration (grammar.an_async_function (grammar.a_named_function value_async free_async grammar.no_parameter (grammar.statements refl (grammar.last_statement (grammar.a_statement (grammar.an_expression_statement (grammar.a_semicolon {a = word (codes "async") (group false Round done done)} false refl) refl (grammar.an_assignment (call_value (grammar.with_arguments {a = word (codes "async") done} false refl (grammar.a_called_member (grammar.a_primary (grammar.a_reference value_async free_async))) grammar.no_argument))))))))))))),
)

pub async_parameters : IsRead (codes "async ({a}, [b] = c, ...d) => e;") (program_of no_trees (more (statement_of (tree.arrow_function (arrow_values true) (tree.formal_parameters (nothing_of 0) (more (tree.formal_parameter (nothing_of 3) (tree.object_pattern (nothing_of 0) (more (tree.binding_property (computed_values false) (key_of (codes "a")) (name_of (codes "a"))) no_trees) absent) absent) (more (tree.formal_parameter (nothing_of 3) (tree.array_pattern (nothing_of 0) (more (name_of (codes "b")) no_trees) absent) (given (reference_of (codes "c")))) no_trees)) (given (tree.formal_parameter_rest (nothing_of 0) (name_of (codes "d"))))) (reference_of (codes "e")))) no_trees))
unfolding unicode_ident longer_stands word_value
async_parameters = (
  word (codes "async") (group false Round (group false Brace (word (codes "a") done) (sign comma (group false Square (word (codes "b") done) (sign equal (word (codes "c") (sign comma (sign ellipsis (word (codes "d") done)))))))) (sign arrow (word (codes "e") (sign semicolon done)))),
  ([], codes " ({a}, [b] = c, ...d) => e;", refl, refl, refl, refl, refl, (codes " ", codes "{a}, [b] = c, ...d", codes " => e;", refl, refl, refl, ([], codes "a", codes ", [b] = c, ...d", refl, refl, refl, ([], [], refl, refl, refl, refl, refl, refl), ([], codes " [b] = c, ...d", refl, refl, refl, refl, refl, (codes " ", codes "b", codes " = c, ...d", refl, refl, refl, ([], [], refl, refl, refl, refl, refl, refl), (codes " ", codes " c, ...d", refl, refl, refl, refl, refl, (codes " ", codes ", ...d", refl, refl, refl, refl, refl, ([], codes " ...d", refl, refl, refl, refl, refl, (codes " ", codes "d", refl, refl, refl, refl, refl, ([], [], refl, refl, refl, refl, refl, refl)))))))), (codes " ", codes " e;", refl, refl, refl, refl, refl, (codes " ", codes ";", refl, refl, refl, refl, refl, ([], [], refl, refl, refl, refl, refl, refl))))),
  grammar.a_module (grammar.module_items refl (grammar.last_module_item (grammar.a_module_statement (grammar.a_statement (grammar.an_expression_statement (grammar.a_semicolon {a = word (codes "async") (group false Round (group false Brace (word (codes "a") done) (sign comma (group false Square (word (codes "b") done) (sign equal (word (codes "c") (sign comma (sign ellipsis (word (codes "d") done)))))))) (sign arrow (word (codes "e") done)))} false refl) refl (grammar.an_assignment (grammar.an_async_arrow refl (grammar.an_arrow_function {a = group false Round (group false Brace (word (codes "a") done) (sign comma (group false Square (word (codes "b") done) (sign equal (word (codes "c") (sign comma (sign ellipsis (word (codes "d") done)))))))) done} refl (grammar.grouped_parameters (grammar.first_parameter {a = group false Brace (word (codes "a") done) done} false refl (grammar.a_parameter (grammar.an_object_binding (grammar.last_binding_property (grammar.a_bound_shorthand value_a free_a)))) (grammar.first_parameter {a = group false Square (word (codes "b") done) (sign equal (word (codes "c") done))} false refl (grammar.with_initializer {a = group false Square (word (codes "b") done) done} false refl (grammar.an_array_binding (grammar.last_binding_element (grammar.a_binding_alone (grammar.a_bound_name value_b free_b)))) (primary_value (grammar.a_reference value_c free_c))) (grammar.a_rest (grammar.a_bound_name value_d free_d))))) refl (primary_value (grammar.a_reference value_e free_e)))))))))),
)

pub async_as_condition : IsRead (codes "async ? a : b;") (program_of no_trees (more (statement_of (tree.conditional (nothing_of 0) (reference_of (codes "async")) (reference_of (codes "a")) (reference_of (codes "b")))) no_trees))
unfolding unicode_ident longer_stands word_value
async_as_condition = (
  word (codes "async") (sign question (word (codes "a") (sign colon (word (codes "b") (sign semicolon done))))),
  ([], codes " ? a : b;", refl, refl, refl, refl, refl, (codes " ", codes " a : b;", refl, refl, refl, refl, refl, (codes " ", codes " : b;", refl, refl, refl, refl, refl, (codes " ", codes " b;", refl, refl, refl, refl, refl, (codes " ", codes ";", refl, refl, refl, refl, refl, ([], [], refl, refl, refl, refl, refl, refl)))))),
  grammar.a_module (grammar.module_items refl (grammar.last_module_item (grammar.a_module_statement (grammar.a_statement (grammar.an_expression_statement (grammar.a_semicolon {a = word (codes "async") (sign question (word (codes "a") (sign colon (word (codes "b") done))))} false refl) refl (grammar.an_assignment (grammar.a_conditional (grammar.a_choice {a = word (codes "async") done} {b = word (codes "a") done} false false refl (grammar.a_logical_or (grammar.a_logical_and (grammar.a_bit_or (grammar.a_bit_xor (grammar.a_bit_and (grammar.an_equality (grammar.a_relation (grammar.a_shift (grammar.an_additive (grammar.a_multiplicative (grammar.an_exponent (grammar.a_unary (left_unary (primary_left (grammar.a_reference value_async free_async))))))))))))))) (primary_value (grammar.a_reference value_a free_a)) (primary_value (grammar.a_reference value_b free_b)))))))))),
)

pub async_of_arrow_in_head : IsRead (codes "for (async of => {};;);") (program_of no_trees (more (tree.for_statement (nothing_of 0) (given (tree.arrow_function (arrow_values true) (tree.formal_parameters (nothing_of 0) (more (tree.formal_parameter (nothing_of 3) (name_of (codes "of")) absent) no_trees) absent) (tree.function_body (nothing_of 0) no_trees no_trees))) absent absent (tree.empty_statement (nothing_of 0))) no_trees))
unfolding unicode_ident longer_stands word_value
async_of_arrow_in_head = (
  word (codes "for") (group false Round (word (codes "async") (word (codes "of") (sign arrow (group false Brace done (sign semicolon (sign semicolon done)))))) (sign semicolon done)),
  ([], codes " (async of => {};;);", refl, refl, refl, refl, refl, (codes " ", codes "async of => {};;", codes ";", refl, refl, refl, ([], codes " of => {};;", refl, refl, refl, refl, refl, (codes " ", codes " => {};;", refl, refl, refl, refl, refl, (codes " ", codes " {};;", refl, refl, refl, refl, refl, (codes " ", [], codes ";;", refl, refl, refl, refl, ([], codes ";", refl, refl, refl, refl, refl, ([], [], refl, refl, refl, refl, refl, refl)))))), ([], [], refl, refl, refl, refl, refl, refl))),
  grammar.a_module (grammar.module_items refl (grammar.last_module_item (grammar.a_module_statement (grammar.a_statement (grammar.a_for {a = word (codes "async") (word (codes "of") (sign arrow (group false Brace done done)))} {b = done} false false refl (grammar.first_expression (grammar.an_assignment (grammar.an_async_arrow refl (grammar.an_arrow_with_body {a = word (codes "of") done} false refl (grammar.a_parameter_name value_of free_of) (grammar.statements refl grammar.no_statement))))) grammar.nothing_there grammar.nothing_there grammar.an_empty_statement))))),
)

pub loop_that_gives_async : IsRead (codes "for await (async of x);") (program_of no_trees (more (tree.for_of_statement (loop_values true) (reference_of (codes "async")) (reference_of (codes "x")) (tree.empty_statement (nothing_of 0))) no_trees))
unfolding unicode_ident longer_stands word_value
loop_that_gives_async = (
  word (codes "for") (word (codes "await") (group false Round (word (codes "async") (word (codes "of") (word (codes "x") done))) (sign semicolon done))),
  ([], codes " await (async of x);", refl, refl, refl, refl, refl, (codes " ", codes " (async of x);", refl, refl, refl, refl, refl, (codes " ", codes "async of x", codes ";", refl, refl, refl, ([], codes " of x", refl, refl, refl, refl, refl, (codes " ", codes " x", refl, refl, refl, refl, refl, (codes " ", [], refl, refl, refl, refl, refl, refl))), ([], [], refl, refl, refl, refl, refl, refl)))),
  grammar.a_module (grammar.module_items refl (grammar.last_module_item (grammar.a_module_statement (grammar.a_statement (grammar.a_for_await {a = word (codes "async") done} false refl refl (grammar.a_target refl (primary_left (grammar.a_reference value_async free_async)) refl) (primary_value (grammar.a_reference value_x free_x)) grammar.an_empty_statement))))),
)

pub loop_on_three_lines : IsRead (codes "for\nawait\n(a of b);") (program_of no_trees (more (tree.for_of_statement (loop_values true) (reference_of (codes "a")) (reference_of (codes "b")) (tree.empty_statement (nothing_of 0))) no_trees))
unfolding unicode_ident longer_stands word_value
loop_on_three_lines = (
  word (codes "for") (piece true (Word (codes "await")) (group true Round (word (codes "a") (word (codes "of") (word (codes "b") done))) (sign semicolon done))),
  ([], codes "\nawait\n(a of b);", refl, refl, refl, refl, refl, (codes "\n", codes "\n(a of b);", refl, refl, refl, refl, refl, (codes "\n", codes "a of b", codes ";", refl, refl, refl, ([], codes " of b", refl, refl, refl, refl, refl, (codes " ", codes " b", refl, refl, refl, refl, refl, (codes " ", [], refl, refl, refl, refl, refl, refl))), ([], [], refl, refl, refl, refl, refl, refl)))),
  grammar.a_module (grammar.module_items refl (grammar.last_module_item (grammar.a_module_statement (grammar.a_statement (grammar.a_for_await {a = word (codes "a") done} false refl refl (grammar.a_target refl (primary_left (grammar.a_reference value_a free_a)) refl) (primary_value (grammar.a_reference value_b free_b)) grammar.an_empty_statement))))),
)

pub loop_in_async_arrow : IsRead (codes "async () => { for await (const [a] of b); };") (program_of no_trees (more (statement_of (tree.arrow_function (arrow_values true) (tree.formal_parameters (nothing_of 0) no_trees absent) (tree.function_body (nothing_of 0) no_trees (more (tree.for_of_statement (loop_values true) (tree.variable_declaration (declared_as Const) (more (tree.variable_declarator (nothing_of 1) (tree.array_pattern (nothing_of 0) (more (name_of (codes "a")) no_trees) absent) absent) no_trees)) (reference_of (codes "b")) (tree.empty_statement (nothing_of 0))) no_trees)))) no_trees))
unfolding unicode_ident longer_stands word_value
loop_in_async_arrow = (
  word (codes "async") (group false Round done (sign arrow (group false Brace (word (codes "for") (word (codes "await") (group false Round (word (codes "const") (group false Square (word (codes "a") done) (word (codes "of") (word (codes "b") done)))) (sign semicolon done)))) (sign semicolon done)))),
  ([], codes " () => { for await (const [a] of b); };", refl, refl, refl, refl, refl, (codes " ", [], codes " => { for await (const [a] of b); };", refl, refl, refl, refl, (codes " ", codes " { for await (const [a] of b); };", refl, refl, refl, refl, refl, (codes " ", codes " for await (const [a] of b); ", codes ";", refl, refl, refl, (codes " ", codes " await (const [a] of b); ", refl, refl, refl, refl, refl, (codes " ", codes " (const [a] of b); ", refl, refl, refl, refl, refl, (codes " ", codes "const [a] of b", codes "; ", refl, refl, refl, ([], codes " [a] of b", refl, refl, refl, refl, refl, (codes " ", codes "a", codes " of b", refl, refl, refl, ([], [], refl, refl, refl, refl, refl, refl), (codes " ", codes " b", refl, refl, refl, refl, refl, (codes " ", [], refl, refl, refl, refl, refl, refl)))), ([], codes " ", refl, refl, refl, refl, refl, refl)))), ([], [], refl, refl, refl, refl, refl, refl))))),
  grammar.a_module (grammar.module_items refl (grammar.last_module_item (grammar.a_module_statement (grammar.a_statement (grammar.an_expression_statement (grammar.a_semicolon {a = word (codes "async") (group false Round done (sign arrow (group false Brace (word (codes "for") (word (codes "await") (group false Round (word (codes "const") (group false Square (word (codes "a") done) (word (codes "of") (word (codes "b") done)))) (sign semicolon done)))) done)))} false refl) refl (grammar.an_assignment (grammar.an_async_arrow refl (grammar.an_arrow_with_body {a = group false Round done done} false refl (grammar.grouped_parameters grammar.no_parameter) (grammar.statements refl (grammar.last_statement (grammar.a_statement (grammar.a_for_await {a = word (codes "const") (group false Square (word (codes "a") done) done)} false refl refl (grammar.a_declared_name Const (grammar.an_array_binding (grammar.last_binding_element (grammar.a_binding_alone (grammar.a_bound_name value_a free_a))))) (primary_value (grammar.a_reference value_b free_b)) grammar.an_empty_statement)))))))))))),
)

pub escaped_async_as_key : IsRead (codes "({\\u0061sync() {}});") (program_of no_trees (more (statement_of (tree.parenthesized (nothing_of 0) (tree.object_expression (nothing_of 0) (more (tree.object_property (property_values Init true false false) (key_of (codes "async")) (function_of kinds.Expression false false absent no_trees absent no_trees no_trees)) no_trees)))) no_trees))
unfolding unicode_ident longer_stands word_value
escaped_async_as_key = (
  group false Round (group false Brace (word (codes "\\u0061sync") (group false Round done (group false Brace done done))) done) (sign semicolon done),
  ([], codes "{\\u0061sync() {}}", codes ";", refl, refl, refl, ([], codes "\\u0061sync() {}", [], refl, refl, refl, ([], codes "() {}", refl, refl, refl, refl, refl, ([], [], codes " {}", refl, refl, refl, refl, (codes " ", [], [], refl, refl, refl, refl, refl))), refl), ([], [], refl, refl, refl, refl, refl, refl)),
  grammar.a_module (grammar.module_items refl (grammar.last_module_item (grammar.a_module_statement (grammar.a_statement (grammar.an_expression_statement (grammar.a_semicolon {a = group false Round (group false Brace (word (codes "\\u0061sync") (group false Round done (group false Brace done done))) done) done} false refl) refl (grammar.an_assignment (primary_value (grammar.in_parentheses (grammar.an_assignment (primary_value (grammar.an_object (grammar.last_property (grammar.a_method (grammar.a_plain_method (grammar.a_method_behind_words {a = word (codes "\\u0061sync") done} false false refl (grammar.a_public_key (grammar.a_name_key value__u0061sync)) grammar.no_parameter (grammar.statements refl grammar.no_statement)))))))))))))))),
)
