-- Generated from tools/vectors/chosen.json; edit that and run tools/vectors/generate.
-- That they are read so: generators.
use Rattle.std.proofs.Common.{[], ◌∷◌, true, false, codes, refl}
use Rattle.unicode_ident.proofs.Computing.{unicode_ident}
use Rattle.jsgen_syntax.specs.Escapes.{word_value}
use Rattle.jsgen_syntax.specs.declared.operator.BinaryOperator.TheVariants as operators
use Rattle.jsgen_syntax.specs.declared.operator.AssignmentOperator.TheVariants as assignment_operators
use Rattle.jsgen_tree.specs.declared.statements.VariableDeclarationKind.TheVariants.{Const}
use Rattle.jsgen_tree.specs.declared.collections.PropertyKind.TheVariants.{Init}
use Rattle.jsgen_tree.specs.declared.functions.FunctionKind.TheVariants as kinds
use Rattle.jsgen_tree.specs.Atom.{flag, binary_operator, assignment_operator}
use Rattle.jsgen_tree.specs.Tree.{absent, given, no_trees, more}
use Rattle.jsgen_tree.specs.Places.{bare}
use Rattle.jsgen_tree.specs.Nodes as tree
use Rattle.jsgen_model.specs.Normal.{nothing_of, link_values, declared_as, property_values}
use Rattle.jsgen_model.specs.Punctuator.{plus, star, dot, comma, semicolon, colon, question, equal, Round, Square, Brace}
use Rattle.jsgen_model.specs.Tokens.{done, piece, group, Word, Sign, longer_stands}
use Rattle.jsgen_model.specs.Grammar.{function_of, loop_values, computed_values}
use Rattle.jsgen_model.specs.Grammar as grammar
use Rattle.jsgen_reading_vectors.specs.Reading.{IsRead, program_of, statement_of, reference_of, name_of, key_of}
use Rattle.jsgen_reading_vectors.proofs.Written.{word, sign}
use Rattle.jsgen_reading_vectors.proofs.Levels.{primary_value, unary_value, primary_left, member_left, left_unary}
use Rattle.jsgen_reading_vectors.proofs.Names.{free_a, free_b, free_c, free_d, free_f, free_g, value_a, value_b, value_c, value_d, value_f, value_g}

pub yield_before_brace : IsRead (codes "function* g() { yield\n}") (program_of no_trees (more (function_of kinds.Declaration false true (given (name_of (codes "g"))) no_trees absent no_trees (more (statement_of (tree.yield_expression (bare (flag false ∷ [])) absent)) no_trees)) no_trees))
unfolding unicode_ident longer_stands word_value
yield_before_brace = (
  word (codes "function") (sign star (word (codes "g") (group false Round done (group false Brace (word (codes "yield") done) done)))),
  ([], codes "* g() { yield\n}", refl, refl, refl, refl, refl, ([], codes " g() { yield\n}", refl, refl, refl, refl, refl, (codes " ", codes "() { yield\n}", refl, refl, refl, refl, refl, ([], [], codes " { yield\n}", refl, refl, refl, refl, (codes " ", codes " yield\n", [], refl, refl, refl, (codes " ", codes "\n", refl, refl, refl, refl, refl, refl), refl))))),
  grammar.a_module (grammar.module_items refl (grammar.last_module_item (grammar.a_module_statement (grammar.a_function_declaration (grammar.a_generator (grammar.a_named_function value_g free_g grammar.no_parameter (grammar.statements refl (grammar.last_statement (grammar.a_statement (grammar.an_expression_statement grammar.the_brace refl (grammar.an_assignment (grammar.a_yield_alone refl)))))))))))),
)

pub yield_of_object : IsRead (codes "function* g() { yield {} }") (program_of no_trees (more (function_of kinds.Declaration false true (given (name_of (codes "g"))) no_trees absent no_trees (more (statement_of (tree.yield_expression (bare (flag false ∷ [])) (given (tree.object_expression (nothing_of 0) no_trees)))) no_trees)) no_trees))
unfolding unicode_ident longer_stands word_value
yield_of_object = (
  word (codes "function") (sign star (word (codes "g") (group false Round done (group false Brace (word (codes "yield") (group false Brace done done)) done)))),
  ([], codes "* g() { yield {} }", refl, refl, refl, refl, refl, ([], codes " g() { yield {} }", refl, refl, refl, refl, refl, (codes " ", codes "() { yield {} }", refl, refl, refl, refl, refl, ([], [], codes " { yield {} }", refl, refl, refl, refl, (codes " ", codes " yield {} ", [], refl, refl, refl, (codes " ", codes " {} ", refl, refl, refl, refl, refl, (codes " ", [], codes " ", refl, refl, refl, refl, refl)), refl))))),
  grammar.a_module (grammar.module_items refl (grammar.last_module_item (grammar.a_module_statement (grammar.a_function_declaration (grammar.a_generator (grammar.a_named_function value_g free_g grammar.no_parameter (grammar.statements refl (grammar.last_statement (grammar.a_statement (grammar.an_expression_statement grammar.the_brace refl (grammar.an_assignment (grammar.a_yield refl refl (primary_value (grammar.an_object grammar.no_property)))))))))))))),
)

pub delegation_on_two_lines : IsRead (codes "function* g() { yield*\na }") (program_of no_trees (more (function_of kinds.Declaration false true (given (name_of (codes "g"))) no_trees absent no_trees (more (statement_of (tree.yield_expression (bare (flag true ∷ [])) (given (reference_of (codes "a"))))) no_trees)) no_trees))
unfolding unicode_ident longer_stands word_value
delegation_on_two_lines = (
  word (codes "function") (sign star (word (codes "g") (group false Round done (group false Brace (word (codes "yield") (sign star (piece true (Word (codes "a")) done))) done)))),
  ([], codes "* g() { yield*\na }", refl, refl, refl, refl, refl, ([], codes " g() { yield*\na }", refl, refl, refl, refl, refl, (codes " ", codes "() { yield*\na }", refl, refl, refl, refl, refl, ([], [], codes " { yield*\na }", refl, refl, refl, refl, (codes " ", codes " yield*\na ", [], refl, refl, refl, (codes " ", codes "*\na ", refl, refl, refl, refl, refl, ([], codes "\na ", refl, refl, refl, refl, refl, (codes "\n", codes " ", refl, refl, refl, refl, refl, refl))), refl))))),
  grammar.a_module (grammar.module_items refl (grammar.last_module_item (grammar.a_module_statement (grammar.a_function_declaration (grammar.a_generator (grammar.a_named_function value_g free_g grammar.no_parameter (grammar.statements refl (grammar.last_statement (grammar.a_statement (grammar.an_expression_statement grammar.the_brace refl (grammar.an_assignment (grammar.a_delegation refl (primary_value (grammar.a_reference value_a free_a)))))))))))))),
)

pub yields_in_choice : IsRead (codes "function* g() { yield a ? yield : yield b; }") (program_of no_trees (more (function_of kinds.Declaration false true (given (name_of (codes "g"))) no_trees absent no_trees (more (statement_of (tree.yield_expression (bare (flag false ∷ [])) (given (tree.conditional (nothing_of 0) (reference_of (codes "a")) (tree.yield_expression (bare (flag false ∷ [])) absent) (tree.yield_expression (bare (flag false ∷ [])) (given (reference_of (codes "b")))))))) no_trees)) no_trees))
unfolding unicode_ident longer_stands word_value
yields_in_choice = (
  word (codes "function") (sign star (word (codes "g") (group false Round done (group false Brace (word (codes "yield") (word (codes "a") (sign question (word (codes "yield") (sign colon (word (codes "yield") (word (codes "b") (sign semicolon done)))))))) done)))),
  ([], codes "* g() { yield a ? yield : yield b; }", refl, refl, refl, refl, refl, ([], codes " g() { yield a ? yield : yield b; }", refl, refl, refl, refl, refl, (codes " ", codes "() { yield a ? yield : yield b; }", refl, refl, refl, refl, refl, ([], [], codes " { yield a ? yield : yield b; }", refl, refl, refl, refl, (codes " ", codes " yield a ? yield : yield b; ", [], refl, refl, refl, (codes " ", codes " a ? yield : yield b; ", refl, refl, refl, refl, refl, (codes " ", codes " ? yield : yield b; ", refl, refl, refl, refl, refl, (codes " ", codes " yield : yield b; ", refl, refl, refl, refl, refl, (codes " ", codes " : yield b; ", refl, refl, refl, refl, refl, (codes " ", codes " yield b; ", refl, refl, refl, refl, refl, (codes " ", codes " b; ", refl, refl, refl, refl, refl, (codes " ", codes "; ", refl, refl, refl, refl, refl, ([], codes " ", refl, refl, refl, refl, refl, refl)))))))), refl))))),
  grammar.a_module (grammar.module_items refl (grammar.last_module_item (grammar.a_module_statement (grammar.a_function_declaration (grammar.a_generator (grammar.a_named_function value_g free_g grammar.no_parameter (grammar.statements refl (grammar.last_statement (grammar.a_statement (grammar.an_expression_statement (grammar.a_semicolon {a = word (codes "yield") (word (codes "a") (sign question (word (codes "yield") (sign colon (word (codes "yield") (word (codes "b") done))))))} false refl) refl (grammar.an_assignment (grammar.a_yield refl refl (grammar.a_conditional (grammar.a_choice {a = word (codes "a") done} {b = word (codes "yield") done} false false refl (grammar.a_logical_or (grammar.a_logical_and (grammar.a_bit_or (grammar.a_bit_xor (grammar.a_bit_and (grammar.an_equality (grammar.a_relation (grammar.a_shift (grammar.an_additive (grammar.a_multiplicative (grammar.an_exponent (grammar.a_unary (left_unary (primary_left (grammar.a_reference value_a free_a))))))))))))))) (grammar.a_yield_alone refl) (grammar.a_yield refl refl (primary_value (grammar.a_reference value_b free_b))))))))))))))))),
)

pub yield_as_operand : IsRead (codes "function* g() { a + (yield) * b; }") (program_of no_trees (more (function_of kinds.Declaration false true (given (name_of (codes "g"))) no_trees absent no_trees (more (statement_of (tree.binary (bare (binary_operator operators.Addition ∷ [])) (reference_of (codes "a")) (tree.binary (bare (binary_operator operators.Multiplication ∷ [])) (tree.parenthesized (nothing_of 0) (tree.yield_expression (bare (flag false ∷ [])) absent)) (reference_of (codes "b"))))) no_trees)) no_trees))
unfolding unicode_ident longer_stands word_value
yield_as_operand = (
  word (codes "function") (sign star (word (codes "g") (group false Round done (group false Brace (word (codes "a") (sign plus (group false Round (word (codes "yield") done) (sign star (word (codes "b") (sign semicolon done)))))) done)))),
  ([], codes "* g() { a + (yield) * b; }", refl, refl, refl, refl, refl, ([], codes " g() { a + (yield) * b; }", refl, refl, refl, refl, refl, (codes " ", codes "() { a + (yield) * b; }", refl, refl, refl, refl, refl, ([], [], codes " { a + (yield) * b; }", refl, refl, refl, refl, (codes " ", codes " a + (yield) * b; ", [], refl, refl, refl, (codes " ", codes " + (yield) * b; ", refl, refl, refl, refl, refl, (codes " ", codes " (yield) * b; ", refl, refl, refl, refl, refl, (codes " ", codes "yield", codes " * b; ", refl, refl, refl, ([], [], refl, refl, refl, refl, refl, refl), (codes " ", codes " b; ", refl, refl, refl, refl, refl, (codes " ", codes "; ", refl, refl, refl, refl, refl, ([], codes " ", refl, refl, refl, refl, refl, refl)))))), refl))))),
  grammar.a_module (grammar.module_items refl (grammar.last_module_item (grammar.a_module_statement (grammar.a_function_declaration (grammar.a_generator (grammar.a_named_function value_g free_g grammar.no_parameter (grammar.statements refl (grammar.last_statement (grammar.a_statement (grammar.an_expression_statement (grammar.a_semicolon {a = word (codes "a") (sign plus (group false Round (word (codes "yield") done) (sign star (word (codes "b") done))))} false refl) refl (grammar.an_assignment (grammar.a_conditional (grammar.a_short_circuit (grammar.a_logical_or (grammar.a_logical_and (grammar.a_bit_or (grammar.a_bit_xor (grammar.a_bit_and (grammar.an_equality (grammar.a_relation (grammar.a_shift (grammar.an_additive (grammar.an_operation {a = word (codes "a") done} operators.Addition false refl refl refl (grammar.a_multiplicative (grammar.an_exponent (grammar.a_unary (left_unary (primary_left (grammar.a_reference value_a free_a)))))) (grammar.an_operation {a = group false Round (word (codes "yield") done) done} operators.Multiplication false refl refl refl (grammar.an_exponent (grammar.a_unary (left_unary (primary_left (grammar.in_parentheses (grammar.an_assignment (grammar.a_yield_alone refl))))))) (grammar.a_unary (left_unary (primary_left (grammar.a_reference value_b free_b)))))))))))))))))))))))))))),
)

pub yields_in_pattern : IsRead (codes "function* g() { const {[yield]: a = yield} = yield; }") (program_of no_trees (more (function_of kinds.Declaration false true (given (name_of (codes "g"))) no_trees absent no_trees (more (tree.variable_declaration (declared_as Const) (more (tree.variable_declarator (nothing_of 1) (tree.object_pattern (nothing_of 0) (more (tree.binding_property (computed_values true) (tree.yield_expression (bare (flag false ∷ [])) absent) (tree.assignment_pattern (nothing_of 0) (name_of (codes "a")) (tree.yield_expression (bare (flag false ∷ [])) absent))) no_trees) absent) (given (tree.yield_expression (bare (flag false ∷ [])) absent))) no_trees)) no_trees)) no_trees))
unfolding unicode_ident longer_stands word_value
yields_in_pattern = (
  word (codes "function") (sign star (word (codes "g") (group false Round done (group false Brace (word (codes "const") (group false Brace (group false Square (word (codes "yield") done) (sign colon (word (codes "a") (sign equal (word (codes "yield") done))))) (sign equal (word (codes "yield") (sign semicolon done))))) done)))),
  ([], codes "* g() { const {[yield]: a = yield} = yield; }", refl, refl, refl, refl, refl, ([], codes " g() { const {[yield]: a = yield} = yield; }", refl, refl, refl, refl, refl, (codes " ", codes "() { const {[yield]: a = yield} = yield; }", refl, refl, refl, refl, refl, ([], [], codes " { const {[yield]: a = yield} = yield; }", refl, refl, refl, refl, (codes " ", codes " const {[yield]: a = yield} = yield; ", [], refl, refl, refl, (codes " ", codes " {[yield]: a = yield} = yield; ", refl, refl, refl, refl, refl, (codes " ", codes "[yield]: a = yield", codes " = yield; ", refl, refl, refl, ([], codes "yield", codes ": a = yield", refl, refl, refl, ([], [], refl, refl, refl, refl, refl, refl), ([], codes " a = yield", refl, refl, refl, refl, refl, (codes " ", codes " = yield", refl, refl, refl, refl, refl, (codes " ", codes " yield", refl, refl, refl, refl, refl, (codes " ", [], refl, refl, refl, refl, refl, refl))))), (codes " ", codes " yield; ", refl, refl, refl, refl, refl, (codes " ", codes "; ", refl, refl, refl, refl, refl, ([], codes " ", refl, refl, refl, refl, refl, refl))))), refl))))),
  grammar.a_module (grammar.module_items refl (grammar.last_module_item (grammar.a_module_statement (grammar.a_function_declaration (grammar.a_generator (grammar.a_named_function value_g free_g grammar.no_parameter (grammar.statements refl (grammar.last_statement (grammar.a_declaration Const refl (grammar.a_semicolon {a = word (codes "const") (group false Brace (group false Square (word (codes "yield") done) (sign colon (word (codes "a") (sign equal (word (codes "yield") done))))) (sign equal (word (codes "yield") done)))} false refl) (grammar.some_variables (grammar.last_declarator (grammar.with_value {a = group false Brace (group false Square (word (codes "yield") done) (sign colon (word (codes "a") (sign equal (word (codes "yield") done))))) done} false refl (grammar.an_object_binding (grammar.last_binding_property (grammar.a_bound_property {a = group false Square (word (codes "yield") done) done} false refl (grammar.a_computed_key (grammar.a_yield_alone refl)) (grammar.a_binding_with_default {a = word (codes "a") done} false refl (grammar.a_bound_name value_a free_a) (grammar.a_yield_alone refl))))) (grammar.a_yield_alone refl))))))))))))),
)

pub members_by_yields : IsRead (codes "function* g() { [a[yield], {b: yield}.c] = yield; }") (program_of no_trees (more (function_of kinds.Declaration false true (given (name_of (codes "g"))) no_trees absent no_trees (more (statement_of (tree.assignment (bare (assignment_operator assignment_operators.Assign ∷ [])) (tree.array_target (nothing_of 0) (more (tree.computed_member (link_values false) (reference_of (codes "a")) (tree.yield_expression (bare (flag false ∷ [])) absent)) (more (tree.static_member (link_values false) (tree.object_expression (nothing_of 0) (more (tree.object_property (property_values Init false false false) (key_of (codes "b")) (tree.yield_expression (bare (flag false ∷ [])) absent)) no_trees)) (key_of (codes "c"))) no_trees)) absent) (tree.yield_expression (bare (flag false ∷ [])) absent))) no_trees)) no_trees))
unfolding unicode_ident longer_stands word_value
members_by_yields = (
  word (codes "function") (sign star (word (codes "g") (group false Round done (group false Brace (group false Square (word (codes "a") (group false Square (word (codes "yield") done) (sign comma (group false Brace (word (codes "b") (sign colon (word (codes "yield") done))) (sign dot (word (codes "c") done)))))) (sign equal (word (codes "yield") (sign semicolon done)))) done)))),
  ([], codes "* g() { [a[yield], {b: yield}.c] = yield; }", refl, refl, refl, refl, refl, ([], codes " g() { [a[yield], {b: yield}.c] = yield; }", refl, refl, refl, refl, refl, (codes " ", codes "() { [a[yield], {b: yield}.c] = yield; }", refl, refl, refl, refl, refl, ([], [], codes " { [a[yield], {b: yield}.c] = yield; }", refl, refl, refl, refl, (codes " ", codes " [a[yield], {b: yield}.c] = yield; ", [], refl, refl, refl, (codes " ", codes "a[yield], {b: yield}.c", codes " = yield; ", refl, refl, refl, ([], codes "[yield], {b: yield}.c", refl, refl, refl, refl, refl, ([], codes "yield", codes ", {b: yield}.c", refl, refl, refl, ([], [], refl, refl, refl, refl, refl, refl), ([], codes " {b: yield}.c", refl, refl, refl, refl, refl, (codes " ", codes "b: yield", codes ".c", refl, refl, refl, ([], codes ": yield", refl, refl, refl, refl, refl, ([], codes " yield", refl, refl, refl, refl, refl, (codes " ", [], refl, refl, refl, refl, refl, refl))), ([], codes "c", refl, refl, refl, refl, refl, ([], [], refl, refl, refl, refl, refl, refl)))))), (codes " ", codes " yield; ", refl, refl, refl, refl, refl, (codes " ", codes "; ", refl, refl, refl, refl, refl, ([], codes " ", refl, refl, refl, refl, refl, refl)))), refl))))),
  grammar.a_module (grammar.module_items refl (grammar.last_module_item (grammar.a_module_statement (grammar.a_function_declaration (grammar.a_generator (grammar.a_named_function value_g free_g grammar.no_parameter (grammar.statements refl (grammar.last_statement (grammar.a_statement (grammar.an_expression_statement (grammar.a_semicolon {a = group false Square (word (codes "a") (group false Square (word (codes "yield") done) (sign comma (group false Brace (word (codes "b") (sign colon (word (codes "yield") done))) (sign dot (word (codes "c") done)))))) (sign equal (word (codes "yield") done))} false refl) refl (grammar.an_assignment (grammar.an_assignment_to_pattern {a = group false Square (word (codes "a") (group false Square (word (codes "yield") done) (sign comma (group false Brace (word (codes "b") (sign colon (word (codes "yield") done))) (sign dot (word (codes "c") done)))))) done} false refl (grammar.an_array_target (grammar.first_target_element {a = word (codes "a") (group false Square (word (codes "yield") done) done)} false refl (grammar.a_target_alone (grammar.a_simple_target (member_left (grammar.a_computed_member {a = word (codes "a") done} false refl (grammar.a_primary (grammar.a_reference value_a free_a)) (grammar.an_assignment (grammar.a_yield_alone refl)))) refl)) (grammar.last_target_element (grammar.a_target_alone (grammar.a_simple_target (member_left (grammar.a_named_member {a = group false Brace (word (codes "b") (sign colon (word (codes "yield") done))) done} (codes "c") false false refl value_c (grammar.a_primary (grammar.an_object (grammar.last_property (grammar.a_property {a = word (codes "b") done} false refl (grammar.a_name_key value_b) (grammar.a_yield_alone refl))))))) refl))))) (grammar.a_yield_alone refl))))))))))))),
)

pub async_generator : IsRead (codes "async function* g() { yield await a; await (yield b); for await (c of d) yield c; }") (program_of no_trees (more (function_of kinds.Declaration true true (given (name_of (codes "g"))) no_trees absent no_trees (more (statement_of (tree.yield_expression (bare (flag false ∷ [])) (given (tree.await_expression (nothing_of 0) (reference_of (codes "a")))))) (more (statement_of (tree.await_expression (nothing_of 0) (tree.parenthesized (nothing_of 0) (tree.yield_expression (bare (flag false ∷ [])) (given (reference_of (codes "b"))))))) (more (tree.for_of_statement (loop_values true) (reference_of (codes "c")) (reference_of (codes "d")) (statement_of (tree.yield_expression (bare (flag false ∷ [])) (given (reference_of (codes "c")))))) no_trees)))) no_trees))
unfolding unicode_ident longer_stands word_value
async_generator = (
  word (codes "async") (word (codes "function") (sign star (word (codes "g") (group false Round done (group false Brace (word (codes "yield") (word (codes "await") (word (codes "a") (sign semicolon (word (codes "await") (group false Round (word (codes "yield") (word (codes "b") done)) (sign semicolon (word (codes "for") (word (codes "await") (group false Round (word (codes "c") (word (codes "of") (word (codes "d") done))) (word (codes "yield") (word (codes "c") (sign semicolon done))))))))))))) done))))),
  ([], codes " function* g() { yield await a; await (yield b); for await (c of d) yield c; }", refl, refl, refl, refl, refl, (codes " ", codes "* g() { yield await a; await (yield b); for await (c of d) yield c; }", refl, refl, refl, refl, refl, ([], codes " g() { yield await a; await (yield b); for await (c of d) yield c; }", refl, refl, refl, refl, refl, (codes " ", codes "() { yield await a; await (yield b); for await (c of d) yield c; }", refl, refl, refl, refl, refl, ([], [], codes " { yield await a; await (yield b); for await (c of d) yield c; }", refl, refl, refl, refl, (codes " ", codes " yield await a; await (yield b); for await (c of d) yield c; ", [], refl, refl, refl, (codes " ", codes " await a; await (yield b); for await (c of d) yield c; ", refl, refl, refl, refl, refl, (codes " ", codes " a; await (yield b); for await (c of d) yield c; ", refl, refl, refl, refl, refl, (codes " ", codes "; await (yield b); for await (c of d) yield c; ", refl, refl, refl, refl, refl, ([], codes " await (yield b); for await (c of d) yield c; ", refl, refl, refl, refl, refl, (codes " ", codes " (yield b); for await (c of d) yield c; ", refl, refl, refl, refl, refl, (codes " ", codes "yield b", codes "; for await (c of d) yield c; ", refl, refl, refl, ([], codes " b", refl, refl, refl, refl, refl, (codes " ", [], refl, refl, refl, refl, refl, refl)), ([], codes " for await (c of d) yield c; ", refl, refl, refl, refl, refl, (codes " ", codes " await (c of d) yield c; ", refl, refl, refl, refl, refl, (codes " ", codes " (c of d) yield c; ", refl, refl, refl, refl, refl, (codes " ", codes "c of d", codes " yield c; ", refl, refl, refl, ([], codes " of d", refl, refl, refl, refl, refl, (codes " ", codes " d", refl, refl, refl, refl, refl, (codes " ", [], refl, refl, refl, refl, refl, refl))), (codes " ", codes " c; ", refl, refl, refl, refl, refl, (codes " ", codes "; ", refl, refl, refl, refl, refl, ([], codes " ", refl, refl, refl, refl, refl, refl))))))))))))), refl)))))),
  grammar.a_module (grammar.module_items refl (grammar.last_module_item (grammar.a_module_statement (grammar.a_function_declaration (grammar.an_async_generator (grammar.a_named_function value_g free_g grammar.no_parameter (grammar.statements refl (grammar.first_statement {a = word (codes "yield") (word (codes "await") (word (codes "a") (sign semicolon done)))} refl (grammar.a_statement (grammar.an_expression_statement (grammar.a_semicolon {a = word (codes "yield") (word (codes "await") (word (codes "a") done))} false refl) refl (grammar.an_assignment (grammar.a_yield refl refl (unary_value (grammar.an_await refl (left_unary (primary_left (grammar.a_reference value_a free_a))))))))) (grammar.first_statement {a = word (codes "await") (group false Round (word (codes "yield") (word (codes "b") done)) (sign semicolon done))} refl (grammar.a_statement (grammar.an_expression_statement (grammar.a_semicolon {a = word (codes "await") (group false Round (word (codes "yield") (word (codes "b") done)) done)} false refl) refl (grammar.an_assignment (unary_value (grammar.an_await refl (left_unary (primary_left (grammar.in_parentheses (grammar.an_assignment (grammar.a_yield refl refl (primary_value (grammar.a_reference value_b free_b)))))))))))) (grammar.last_statement (grammar.a_statement (grammar.a_for_await {a = word (codes "c") done} false refl refl (grammar.a_target refl (primary_left (grammar.a_reference value_c free_c)) refl) (primary_value (grammar.a_reference value_d free_d)) (grammar.an_expression_statement (grammar.a_semicolon {a = word (codes "yield") (word (codes "c") done)} false refl) refl (grammar.an_assignment (grammar.a_yield refl refl (primary_value (grammar.a_reference value_c free_c))))))))))))))))),
)

pub star_on_its_line : IsRead (codes "function\n*\nf() {}") (program_of no_trees (more (function_of kinds.Declaration false true (given (name_of (codes "f"))) no_trees absent no_trees no_trees) no_trees))
unfolding unicode_ident longer_stands word_value
star_on_its_line = (
  word (codes "function") (piece true (Sign star) (piece true (Word (codes "f")) (group false Round done (group false Brace done done)))),
  ([], codes "\n*\nf() {}", refl, refl, refl, refl, refl, (codes "\n", codes "\nf() {}", refl, refl, refl, refl, refl, (codes "\n", codes "() {}", refl, refl, refl, refl, refl, ([], [], codes " {}", refl, refl, refl, refl, (codes " ", [], [], refl, refl, refl, refl, refl))))),
  grammar.a_module (grammar.module_items refl (grammar.last_module_item (grammar.a_module_statement (grammar.a_function_declaration (grammar.a_generator (grammar.a_named_function value_f free_f grammar.no_parameter (grammar.statements refl grammar.no_statement))))))),
)

pub keys_by_yields : IsRead (codes "function* g() { ({[yield]() {}, async [yield a]() {}}); }") (program_of no_trees (more (function_of kinds.Declaration false true (given (name_of (codes "g"))) no_trees absent no_trees (more (statement_of (tree.parenthesized (nothing_of 0) (tree.object_expression (nothing_of 0) (more (tree.object_property (property_values Init true false true) (tree.yield_expression (bare (flag false ∷ [])) absent) (function_of kinds.Expression false false absent no_trees absent no_trees no_trees)) (more (tree.object_property (property_values Init true false true) (tree.yield_expression (bare (flag false ∷ [])) (given (reference_of (codes "a")))) (function_of kinds.Expression true false absent no_trees absent no_trees no_trees)) no_trees))))) no_trees)) no_trees))
unfolding unicode_ident longer_stands word_value
keys_by_yields = (
  word (codes "function") (sign star (word (codes "g") (group false Round done (group false Brace (group false Round (group false Brace (group false Square (word (codes "yield") done) (group false Round done (group false Brace done (sign comma (word (codes "async") (group false Square (word (codes "yield") (word (codes "a") done)) (group false Round done (group false Brace done done)))))))) done) (sign semicolon done)) done)))),
  ([], codes "* g() { ({[yield]() {}, async [yield a]() {}}); }", refl, refl, refl, refl, refl, ([], codes " g() { ({[yield]() {}, async [yield a]() {}}); }", refl, refl, refl, refl, refl, (codes " ", codes "() { ({[yield]() {}, async [yield a]() {}}); }", refl, refl, refl, refl, refl, ([], [], codes " { ({[yield]() {}, async [yield a]() {}}); }", refl, refl, refl, refl, (codes " ", codes " ({[yield]() {}, async [yield a]() {}}); ", [], refl, refl, refl, (codes " ", codes "{[yield]() {}, async [yield a]() {}}", codes "; ", refl, refl, refl, ([], codes "[yield]() {}, async [yield a]() {}", [], refl, refl, refl, ([], codes "yield", codes "() {}, async [yield a]() {}", refl, refl, refl, ([], [], refl, refl, refl, refl, refl, refl), ([], [], codes " {}, async [yield a]() {}", refl, refl, refl, refl, (codes " ", [], codes ", async [yield a]() {}", refl, refl, refl, refl, ([], codes " async [yield a]() {}", refl, refl, refl, refl, refl, (codes " ", codes " [yield a]() {}", refl, refl, refl, refl, refl, (codes " ", codes "yield a", codes "() {}", refl, refl, refl, ([], codes " a", refl, refl, refl, refl, refl, (codes " ", [], refl, refl, refl, refl, refl, refl)), ([], [], codes " {}", refl, refl, refl, refl, (codes " ", [], [], refl, refl, refl, refl, refl)))))))), refl), ([], codes " ", refl, refl, refl, refl, refl, refl)), refl))))),
  grammar.a_module (grammar.module_items refl (grammar.last_module_item (grammar.a_module_statement (grammar.a_function_declaration (grammar.a_generator (grammar.a_named_function value_g free_g grammar.no_parameter (grammar.statements refl (grammar.last_statement (grammar.a_statement (grammar.an_expression_statement (grammar.a_semicolon {a = group false Round (group false Brace (group false Square (word (codes "yield") done) (group false Round done (group false Brace done (sign comma (word (codes "async") (group false Square (word (codes "yield") (word (codes "a") done)) (group false Round done (group false Brace done done)))))))) done) done} false refl) refl (grammar.an_assignment (primary_value (grammar.in_parentheses (grammar.an_assignment (primary_value (grammar.an_object (grammar.first_property {a = group false Square (word (codes "yield") done) (group false Round done (group false Brace done done))} false refl (grammar.a_method (grammar.a_plain_method (grammar.a_method_behind_words {a = group false Square (word (codes "yield") done) done} false false refl (grammar.a_public_key (grammar.a_computed_key (grammar.a_yield_alone refl))) grammar.no_parameter (grammar.statements refl grammar.no_statement)))) (grammar.last_property (grammar.a_method (grammar.an_async_method refl (grammar.a_method_behind_words {a = group false Square (word (codes "yield") (word (codes "a") done)) done} false false refl (grammar.a_public_key (grammar.a_computed_key (grammar.a_yield refl refl (primary_value (grammar.a_reference value_a free_a))))) grammar.no_parameter (grammar.statements refl grammar.no_statement)))))))))))))))))))))),
)
