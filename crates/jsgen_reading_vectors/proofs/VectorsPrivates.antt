-- Generated from tools/vectors/chosen.json; edit that and run tools/vectors/generate.
-- That they are read so: privates.
use Rattle.std.proofs.Common.{[], ◌∷◌, true, false, codes, refl}
use Rattle.unicode_ident.proofs.Computing.{unicode_ident}
use Rattle.jsgen_syntax.specs.Escapes.{word_value}
use Rattle.jsgen_syntax.specs.declared.operator.BinaryOperator.TheVariants as operators
use Rattle.jsgen_syntax.specs.declared.operator.LogicalOperator.TheVariants.{And}
use Rattle.jsgen_syntax.specs.declared.operator.UpdateOperator.TheVariants as update_operators
use Rattle.jsgen_syntax.specs.declared.operator.AssignmentOperator.TheVariants as assignment_operators
use Rattle.jsgen_tree.specs.declared.collections.PropertyKind.TheVariants.{Init, Get, Set}
use Rattle.jsgen_tree.specs.declared.functions.FunctionKind.TheVariants as kinds
use Rattle.jsgen_tree.specs.declared.classes.ClassKind.TheVariants as class_kinds
use Rattle.jsgen_tree.specs.Atom.{flag, binary_operator, logical_operator, update_operator, assignment_operator}
use Rattle.jsgen_tree.specs.Tree.{absent, given, no_trees, more}
use Rattle.jsgen_tree.specs.Places.{bare}
use Rattle.jsgen_tree.specs.Nodes as tree
use Rattle.jsgen_model.specs.Normal.{nothing_of, link_values}
use Rattle.jsgen_model.specs.Punctuator.{plus, star, and_and, dot, ellipsis, comma, semicolon, colon, question, question_dot, equal, plus_plus, Round, Square, Brace}
use Rattle.jsgen_model.specs.Tokens.{done, piece, group, Beyond, Private, longer_stands}
use Rattle.jsgen_model.specs.Grammar.{function_of, class_of, member_values, field_values, computed_values, private_name}
use Rattle.jsgen_model.specs.Grammar as grammar
use Rattle.jsgen_reading_vectors.specs.Reading.{IsRead, program_of, statement_of, reference_of, name_of, key_of}
use Rattle.jsgen_reading_vectors.proofs.Written.{word, sign}
use Rattle.jsgen_reading_vectors.proofs.Levels.{primary_value, member_value, left_value, unary_value, primary_left, member_left, left_unary}
use Rattle.jsgen_reading_vectors.proofs.Names.{free_A, free_a, free_b, free_c, value_A, value_a, value_await, value_b, value_c, value_if, value_let, value_m, value_static, value_x, value_y, value_yield}

pub private_generator : IsRead (codes "class A { static async *#x(){} }") (program_of no_trees (more (class_of class_kinds.Declaration (given (name_of (codes "A"))) absent (more (tree.method_definition (member_values Init true false) (private_name (codes "x")) (function_of kinds.Expression true true absent no_trees absent no_trees no_trees)) no_trees)) no_trees))
unfolding unicode_ident longer_stands word_value
private_generator = (
  word (codes "class") (word (codes "A") (group false Brace (word (codes "static") (word (codes "async") (sign star (piece false (Beyond (Private (codes "x"))) (group false Round done (group false Brace done done)))))) done)),
  ([], codes " A { static async *#x(){} }", refl, refl, refl, refl, refl, (codes " ", codes " { static async *#x(){} }", refl, refl, refl, refl, refl, (codes " ", codes " static async *#x(){} ", [], refl, refl, refl, (codes " ", codes " async *#x(){} ", refl, refl, refl, refl, refl, (codes " ", codes " *#x(){} ", refl, refl, refl, refl, refl, (codes " ", codes "#x(){} ", refl, refl, refl, refl, refl, ([], codes "(){} ", refl, refl, refl, refl, refl, ([], [], codes "{} ", refl, refl, refl, refl, ([], [], codes " ", refl, refl, refl, refl, refl)))))), refl))),
  grammar.a_module (grammar.module_items refl (grammar.last_module_item (grammar.a_module_statement (grammar.a_class_declaration (grammar.a_named_class value_A free_A (grammar.without_heritage (grammar.a_first_member {a = word (codes "static") (word (codes "async") (sign star (piece false (Beyond (Private (codes "x"))) (group false Round done (group false Brace done done)))))} refl (grammar.a_static_method (grammar.an_async_generator_method (grammar.a_method_behind_words {a = piece false (Beyond (Private (codes "x"))) done} false false refl (grammar.a_private_key value_x) grammar.no_parameter (grammar.statements refl grammar.no_statement)))) grammar.no_member))))))),
)

pub private_accessors : IsRead (codes "class A { get #x() {} set #x(a) {} }") (program_of no_trees (more (class_of class_kinds.Declaration (given (name_of (codes "A"))) absent (more (tree.method_definition (member_values Get false false) (private_name (codes "x")) (function_of kinds.Expression false false absent no_trees absent no_trees no_trees)) (more (tree.method_definition (member_values Set false false) (private_name (codes "x")) (function_of kinds.Expression false false absent (more (tree.formal_parameter (nothing_of 3) (name_of (codes "a")) absent) no_trees) absent no_trees no_trees)) no_trees))) no_trees))
unfolding unicode_ident longer_stands word_value
private_accessors = (
  word (codes "class") (word (codes "A") (group false Brace (word (codes "get") (piece false (Beyond (Private (codes "x"))) (group false Round done (group false Brace done (word (codes "set") (piece false (Beyond (Private (codes "x"))) (group false Round (word (codes "a") done) (group false Brace done done)))))))) done)),
  ([], codes " A { get #x() {} set #x(a) {} }", refl, refl, refl, refl, refl, (codes " ", codes " { get #x() {} set #x(a) {} }", refl, refl, refl, refl, refl, (codes " ", codes " get #x() {} set #x(a) {} ", [], refl, refl, refl, (codes " ", codes " #x() {} set #x(a) {} ", refl, refl, refl, refl, refl, (codes " ", codes "() {} set #x(a) {} ", refl, refl, refl, refl, refl, ([], [], codes " {} set #x(a) {} ", refl, refl, refl, refl, (codes " ", [], codes " set #x(a) {} ", refl, refl, refl, refl, (codes " ", codes " #x(a) {} ", refl, refl, refl, refl, refl, (codes " ", codes "(a) {} ", refl, refl, refl, refl, refl, ([], codes "a", codes " {} ", refl, refl, refl, ([], [], refl, refl, refl, refl, refl, refl), (codes " ", [], codes " ", refl, refl, refl, refl, refl)))))))), refl))),
  grammar.a_module (grammar.module_items refl (grammar.last_module_item (grammar.a_module_statement (grammar.a_class_declaration (grammar.a_named_class value_A free_A (grammar.without_heritage (grammar.a_first_member {a = word (codes "get") (piece false (Beyond (Private (codes "x"))) (group false Round done (group false Brace done done)))} refl (grammar.a_member_method (grammar.a_getter {a = piece false (Beyond (Private (codes "x"))) done} false false refl (grammar.a_private_key value_x) (grammar.statements refl grammar.no_statement))) (grammar.a_first_member {a = word (codes "set") (piece false (Beyond (Private (codes "x"))) (group false Round (word (codes "a") done) (group false Brace done done)))} refl (grammar.a_member_method (grammar.a_setter {a = piece false (Beyond (Private (codes "x"))) done} false false refl (grammar.a_private_key value_x) (grammar.a_parameter (grammar.a_bound_name value_a free_a)) (grammar.statements refl grammar.no_statement))) grammar.no_member)))))))),
)

pub reserved_private_names : IsRead (codes "class A { #await; #yield; #static; #let; #if }") (program_of no_trees (more (class_of class_kinds.Declaration (given (name_of (codes "A"))) absent (more (tree.property_definition (field_values false false) (private_name (codes "await")) absent) (more (tree.property_definition (field_values false false) (private_name (codes "yield")) absent) (more (tree.property_definition (field_values false false) (private_name (codes "static")) absent) (more (tree.property_definition (field_values false false) (private_name (codes "let")) absent) (more (tree.property_definition (field_values false false) (private_name (codes "if")) absent) no_trees)))))) no_trees))
unfolding unicode_ident longer_stands word_value
reserved_private_names = (
  word (codes "class") (word (codes "A") (group false Brace (piece false (Beyond (Private (codes "await"))) (sign semicolon (piece false (Beyond (Private (codes "yield"))) (sign semicolon (piece false (Beyond (Private (codes "static"))) (sign semicolon (piece false (Beyond (Private (codes "let"))) (sign semicolon (piece false (Beyond (Private (codes "if"))) done))))))))) done)),
  ([], codes " A { #await; #yield; #static; #let; #if }", refl, refl, refl, refl, refl, (codes " ", codes " { #await; #yield; #static; #let; #if }", refl, refl, refl, refl, refl, (codes " ", codes " #await; #yield; #static; #let; #if ", [], refl, refl, refl, (codes " ", codes "; #yield; #static; #let; #if ", refl, refl, refl, refl, refl, ([], codes " #yield; #static; #let; #if ", refl, refl, refl, refl, refl, (codes " ", codes "; #static; #let; #if ", refl, refl, refl, refl, refl, ([], codes " #static; #let; #if ", refl, refl, refl, refl, refl, (codes " ", codes "; #let; #if ", refl, refl, refl, refl, refl, ([], codes " #let; #if ", refl, refl, refl, refl, refl, (codes " ", codes "; #if ", refl, refl, refl, refl, refl, ([], codes " #if ", refl, refl, refl, refl, refl, (codes " ", codes " ", refl, refl, refl, refl, refl, refl))))))))), refl))),
  grammar.a_module (grammar.module_items refl (grammar.last_module_item (grammar.a_module_statement (grammar.a_class_declaration (grammar.a_named_class value_A free_A (grammar.without_heritage (grammar.a_first_field {a = piece false (Beyond (Private (codes "await"))) done} false refl (grammar.a_field (grammar.a_field_alone (grammar.a_private_key value_await))) (grammar.a_first_field {a = piece false (Beyond (Private (codes "yield"))) done} false refl (grammar.a_field (grammar.a_field_alone (grammar.a_private_key value_yield))) (grammar.a_first_field {a = piece false (Beyond (Private (codes "static"))) done} false refl (grammar.a_field (grammar.a_field_alone (grammar.a_private_key value_static))) (grammar.a_first_field {a = piece false (Beyond (Private (codes "let"))) done} false refl (grammar.a_field (grammar.a_field_alone (grammar.a_private_key value_let))) (grammar.a_last_field (grammar.a_field (grammar.a_field_alone (grammar.a_private_key value_if)))))))))))))),
)

pub private_members : IsRead (codes "class A { #x; m(a) { a.#x; a?.#x; a.b?.c.#x; a.#x = b; a.#x++; } }") (program_of no_trees (more (class_of class_kinds.Declaration (given (name_of (codes "A"))) absent (more (tree.property_definition (field_values false false) (private_name (codes "x")) absent) (more (tree.method_definition (member_values Init false false) (key_of (codes "m")) (function_of kinds.Expression false false absent (more (tree.formal_parameter (nothing_of 3) (name_of (codes "a")) absent) no_trees) absent no_trees (more (statement_of (tree.private_member (link_values false) (reference_of (codes "a")) (private_name (codes "x")))) (more (statement_of (tree.chain (nothing_of 0) (tree.private_member (link_values true) (reference_of (codes "a")) (private_name (codes "x"))))) (more (statement_of (tree.chain (nothing_of 0) (tree.private_member (link_values false) (tree.static_member (link_values true) (tree.static_member (link_values false) (reference_of (codes "a")) (key_of (codes "b"))) (key_of (codes "c"))) (private_name (codes "x"))))) (more (statement_of (tree.assignment (bare (assignment_operator assignment_operators.Assign ∷ [])) (tree.private_member (link_values false) (reference_of (codes "a")) (private_name (codes "x"))) (reference_of (codes "b")))) (more (statement_of (tree.update (bare (update_operator update_operators.Increment ∷ flag false ∷ [])) (tree.private_member (link_values false) (reference_of (codes "a")) (private_name (codes "x"))))) no_trees))))))) no_trees))) no_trees))
unfolding unicode_ident longer_stands word_value
private_members = (
  word (codes "class") (word (codes "A") (group false Brace (piece false (Beyond (Private (codes "x"))) (sign semicolon (word (codes "m") (group false Round (word (codes "a") done) (group false Brace (word (codes "a") (sign dot (piece false (Beyond (Private (codes "x"))) (sign semicolon (word (codes "a") (sign question_dot (piece false (Beyond (Private (codes "x"))) (sign semicolon (word (codes "a") (sign dot (word (codes "b") (sign question_dot (word (codes "c") (sign dot (piece false (Beyond (Private (codes "x"))) (sign semicolon (word (codes "a") (sign dot (piece false (Beyond (Private (codes "x"))) (sign equal (word (codes "b") (sign semicolon (word (codes "a") (sign dot (piece false (Beyond (Private (codes "x"))) (sign plus_plus (sign semicolon done))))))))))))))))))))))))))) done))))) done)),
  ([], codes " A { #x; m(a) { a.#x; a?.#x; a.b?.c.#x; a.#x = b; a.#x++; } }", refl, refl, refl, refl, refl, (codes " ", codes " { #x; m(a) { a.#x; a?.#x; a.b?.c.#x; a.#x = b; a.#x++; } }", refl, refl, refl, refl, refl, (codes " ", codes " #x; m(a) { a.#x; a?.#x; a.b?.c.#x; a.#x = b; a.#x++; } ", [], refl, refl, refl, (codes " ", codes "; m(a) { a.#x; a?.#x; a.b?.c.#x; a.#x = b; a.#x++; } ", refl, refl, refl, refl, refl, ([], codes " m(a) { a.#x; a?.#x; a.b?.c.#x; a.#x = b; a.#x++; } ", refl, refl, refl, refl, refl, (codes " ", codes "(a) { a.#x; a?.#x; a.b?.c.#x; a.#x = b; a.#x++; } ", refl, refl, refl, refl, refl, ([], codes "a", codes " { a.#x; a?.#x; a.b?.c.#x; a.#x = b; a.#x++; } ", refl, refl, refl, ([], [], refl, refl, refl, refl, refl, refl), (codes " ", codes " a.#x; a?.#x; a.b?.c.#x; a.#x = b; a.#x++; ", codes " ", refl, refl, refl, (codes " ", codes ".#x; a?.#x; a.b?.c.#x; a.#x = b; a.#x++; ", refl, refl, refl, refl, refl, ([], codes "#x; a?.#x; a.b?.c.#x; a.#x = b; a.#x++; ", refl, refl, refl, refl, refl, ([], codes "; a?.#x; a.b?.c.#x; a.#x = b; a.#x++; ", refl, refl, refl, refl, refl, ([], codes " a?.#x; a.b?.c.#x; a.#x = b; a.#x++; ", refl, refl, refl, refl, refl, (codes " ", codes "?.#x; a.b?.c.#x; a.#x = b; a.#x++; ", refl, refl, refl, refl, refl, ([], codes "#x; a.b?.c.#x; a.#x = b; a.#x++; ", refl, refl, refl, refl, refl, ([], codes "; a.b?.c.#x; a.#x = b; a.#x++; ", refl, refl, refl, refl, refl, ([], codes " a.b?.c.#x; a.#x = b; a.#x++; ", refl, refl, refl, refl, refl, (codes " ", codes ".b?.c.#x; a.#x = b; a.#x++; ", refl, refl, refl, refl, refl, ([], codes "b?.c.#x; a.#x = b; a.#x++; ", refl, refl, refl, refl, refl, ([], codes "?.c.#x; a.#x = b; a.#x++; ", refl, refl, refl, refl, refl, ([], codes "c.#x; a.#x = b; a.#x++; ", refl, refl, refl, refl, refl, ([], codes ".#x; a.#x = b; a.#x++; ", refl, refl, refl, refl, refl, ([], codes "#x; a.#x = b; a.#x++; ", refl, refl, refl, refl, refl, ([], codes "; a.#x = b; a.#x++; ", refl, refl, refl, refl, refl, ([], codes " a.#x = b; a.#x++; ", refl, refl, refl, refl, refl, (codes " ", codes ".#x = b; a.#x++; ", refl, refl, refl, refl, refl, ([], codes "#x = b; a.#x++; ", refl, refl, refl, refl, refl, ([], codes " = b; a.#x++; ", refl, refl, refl, refl, refl, (codes " ", codes " b; a.#x++; ", refl, refl, refl, refl, refl, (codes " ", codes "; a.#x++; ", refl, refl, refl, refl, refl, ([], codes " a.#x++; ", refl, refl, refl, refl, refl, (codes " ", codes ".#x++; ", refl, refl, refl, refl, refl, ([], codes "#x++; ", refl, refl, refl, refl, refl, ([], codes "++; ", refl, refl, refl, refl, refl, ([], codes "; ", refl, refl, refl, refl, refl, ([], codes " ", refl, refl, refl, refl, refl, refl))))))))))))))))))))))))))), refl))))), refl))),
  grammar.a_module (grammar.module_items refl (grammar.last_module_item (grammar.a_module_statement (grammar.a_class_declaration (grammar.a_named_class value_A free_A (grammar.without_heritage (grammar.a_first_field {a = piece false (Beyond (Private (codes "x"))) done} false refl (grammar.a_field (grammar.a_field_alone (grammar.a_private_key value_x))) (grammar.a_first_member {a = word (codes "m") (group false Round (word (codes "a") done) (group false Brace (word (codes "a") (sign dot (piece false (Beyond (Private (codes "x"))) (sign semicolon (word (codes "a") (sign question_dot (piece false (Beyond (Private (codes "x"))) (sign semicolon (word (codes "a") (sign dot (word (codes "b") (sign question_dot (word (codes "c") (sign dot (piece false (Beyond (Private (codes "x"))) (sign semicolon (word (codes "a") (sign dot (piece false (Beyond (Private (codes "x"))) (sign equal (word (codes "b") (sign semicolon (word (codes "a") (sign dot (piece false (Beyond (Private (codes "x"))) (sign plus_plus (sign semicolon done))))))))))))))))))))))))))) done))} refl (grammar.a_member_method (grammar.a_plain_method (grammar.a_method_behind_words {a = word (codes "m") done} false false refl (grammar.a_public_key (grammar.a_name_key value_m)) (grammar.last_parameter (grammar.a_parameter (grammar.a_bound_name value_a free_a))) (grammar.statements refl (grammar.first_statement {a = word (codes "a") (sign dot (piece false (Beyond (Private (codes "x"))) (sign semicolon done)))} refl (grammar.a_statement (grammar.an_expression_statement (grammar.a_semicolon {a = word (codes "a") (sign dot (piece false (Beyond (Private (codes "x"))) done))} false refl) refl (grammar.an_assignment (member_value (grammar.a_private_member {a = word (codes "a") done} (codes "x") false false refl value_x (grammar.a_primary (grammar.a_reference value_a free_a))))))) (grammar.first_statement {a = word (codes "a") (sign question_dot (piece false (Beyond (Private (codes "x"))) (sign semicolon done)))} refl (grammar.a_statement (grammar.an_expression_statement (grammar.a_semicolon {a = word (codes "a") (sign question_dot (piece false (Beyond (Private (codes "x"))) done))} false refl) refl (grammar.an_assignment (left_value (grammar.an_optional_chain (grammar.an_optional_private_member {a = word (codes "a") done} (codes "x") false false refl value_x (grammar.a_first_link (grammar.a_called_member (grammar.a_primary (grammar.a_reference value_a free_a)))))))))) (grammar.first_statement {a = word (codes "a") (sign dot (word (codes "b") (sign question_dot (word (codes "c") (sign dot (piece false (Beyond (Private (codes "x"))) (sign semicolon done)))))))} refl (grammar.a_statement (grammar.an_expression_statement (grammar.a_semicolon {a = word (codes "a") (sign dot (word (codes "b") (sign question_dot (word (codes "c") (sign dot (piece false (Beyond (Private (codes "x"))) done))))))} false refl) refl (grammar.an_assignment (left_value (grammar.an_optional_chain (grammar.a_further_private_member {a = word (codes "a") (sign dot (word (codes "b") (sign question_dot (word (codes "c") done))))} (codes "x") false false refl value_x (grammar.an_optional_named_member {a = word (codes "a") (sign dot (word (codes "b") done))} (codes "c") false false refl value_c (grammar.a_first_link (grammar.a_called_member (grammar.a_named_member {a = word (codes "a") done} (codes "b") false false refl value_b (grammar.a_primary (grammar.a_reference value_a free_a)))))))))))) (grammar.first_statement {a = word (codes "a") (sign dot (piece false (Beyond (Private (codes "x"))) (sign equal (word (codes "b") (sign semicolon done)))))} refl (grammar.a_statement (grammar.an_expression_statement (grammar.a_semicolon {a = word (codes "a") (sign dot (piece false (Beyond (Private (codes "x"))) (sign equal (word (codes "b") done))))} false refl) refl (grammar.an_assignment (grammar.an_assignment_to {a = word (codes "a") (sign dot (piece false (Beyond (Private (codes "x"))) done))} assignment_operators.Assign false refl (member_left (grammar.a_private_member {a = word (codes "a") done} (codes "x") false false refl value_x (grammar.a_primary (grammar.a_reference value_a free_a)))) refl (primary_value (grammar.a_reference value_b free_b)) refl)))) (grammar.last_statement (grammar.a_statement (grammar.an_expression_statement (grammar.a_semicolon {a = word (codes "a") (sign dot (piece false (Beyond (Private (codes "x"))) (sign plus_plus done)))} false refl) refl (grammar.an_assignment (unary_value (grammar.an_update (grammar.an_update_behind {a = word (codes "a") (sign dot (piece false (Beyond (Private (codes "x"))) done))} update_operators.Increment refl (member_left (grammar.a_private_member {a = word (codes "a") done} (codes "x") false false refl value_x (grammar.a_primary (grammar.a_reference value_a free_a)))) refl))))))))))))))) grammar.no_member)))))))),
)

pub private_targets : IsRead (codes "class A { #x; m() { [this.#x, {a: this.#x = b}, ...this.#x] = c; } }") (program_of no_trees (more (class_of class_kinds.Declaration (given (name_of (codes "A"))) absent (more (tree.property_definition (field_values false false) (private_name (codes "x")) absent) (more (tree.method_definition (member_values Init false false) (key_of (codes "m")) (function_of kinds.Expression false false absent no_trees absent no_trees (more (statement_of (tree.assignment (bare (assignment_operator assignment_operators.Assign ∷ [])) (tree.array_target (nothing_of 0) (more (tree.private_member (link_values false) (tree.this_expression (nothing_of 0)) (private_name (codes "x"))) (more (tree.object_target (nothing_of 0) (more (tree.target_property (computed_values false) (key_of (codes "a")) (tree.target_with_default (nothing_of 0) (tree.private_member (link_values false) (tree.this_expression (nothing_of 0)) (private_name (codes "x"))) (reference_of (codes "b")))) no_trees) absent) no_trees)) (given (tree.target_rest (nothing_of 0) (tree.private_member (link_values false) (tree.this_expression (nothing_of 0)) (private_name (codes "x")))))) (reference_of (codes "c")))) no_trees))) no_trees))) no_trees))
unfolding unicode_ident longer_stands word_value
private_targets = (
  word (codes "class") (word (codes "A") (group false Brace (piece false (Beyond (Private (codes "x"))) (sign semicolon (word (codes "m") (group false Round done (group false Brace (group false Square (word (codes "this") (sign dot (piece false (Beyond (Private (codes "x"))) (sign comma (group false Brace (word (codes "a") (sign colon (word (codes "this") (sign dot (piece false (Beyond (Private (codes "x"))) (sign equal (word (codes "b") done))))))) (sign comma (sign ellipsis (word (codes "this") (sign dot (piece false (Beyond (Private (codes "x"))) done)))))))))) (sign equal (word (codes "c") (sign semicolon done)))) done))))) done)),
  ([], codes " A { #x; m() { [this.#x, {a: this.#x = b}, ...this.#x] = c; } }", refl, refl, refl, refl, refl, (codes " ", codes " { #x; m() { [this.#x, {a: this.#x = b}, ...this.#x] = c; } }", refl, refl, refl, refl, refl, (codes " ", codes " #x; m() { [this.#x, {a: this.#x = b}, ...this.#x] = c; } ", [], refl, refl, refl, (codes " ", codes "; m() { [this.#x, {a: this.#x = b}, ...this.#x] = c; } ", refl, refl, refl, refl, refl, ([], codes " m() { [this.#x, {a: this.#x = b}, ...this.#x] = c; } ", refl, refl, refl, refl, refl, (codes " ", codes "() { [this.#x, {a: this.#x = b}, ...this.#x] = c; } ", refl, refl, refl, refl, refl, ([], [], codes " { [this.#x, {a: this.#x = b}, ...this.#x] = c; } ", refl, refl, refl, refl, (codes " ", codes " [this.#x, {a: this.#x = b}, ...this.#x] = c; ", codes " ", refl, refl, refl, (codes " ", codes "this.#x, {a: this.#x = b}, ...this.#x", codes " = c; ", refl, refl, refl, ([], codes ".#x, {a: this.#x = b}, ...this.#x", refl, refl, refl, refl, refl, ([], codes "#x, {a: this.#x = b}, ...this.#x", refl, refl, refl, refl, refl, ([], codes ", {a: this.#x = b}, ...this.#x", refl, refl, refl, refl, refl, ([], codes " {a: this.#x = b}, ...this.#x", refl, refl, refl, refl, refl, (codes " ", codes "a: this.#x = b", codes ", ...this.#x", refl, refl, refl, ([], codes ": this.#x = b", refl, refl, refl, refl, refl, ([], codes " this.#x = b", refl, refl, refl, refl, refl, (codes " ", codes ".#x = b", refl, refl, refl, refl, refl, ([], codes "#x = b", refl, refl, refl, refl, refl, ([], codes " = b", refl, refl, refl, refl, refl, (codes " ", codes " b", refl, refl, refl, refl, refl, (codes " ", [], refl, refl, refl, refl, refl, refl))))))), ([], codes " ...this.#x", refl, refl, refl, refl, refl, (codes " ", codes "this.#x", refl, refl, refl, refl, refl, ([], codes ".#x", refl, refl, refl, refl, refl, ([], codes "#x", refl, refl, refl, refl, refl, ([], [], refl, refl, refl, refl, refl, refl)))))))))), (codes " ", codes " c; ", refl, refl, refl, refl, refl, (codes " ", codes "; ", refl, refl, refl, refl, refl, ([], codes " ", refl, refl, refl, refl, refl, refl)))), refl))))), refl))),
  grammar.a_module (grammar.module_items refl (grammar.last_module_item (grammar.a_module_statement (grammar.a_class_declaration (grammar.a_named_class value_A free_A (grammar.without_heritage (grammar.a_first_field {a = piece false (Beyond (Private (codes "x"))) done} false refl (grammar.a_field (grammar.a_field_alone (grammar.a_private_key value_x))) (grammar.a_first_member {a = word (codes "m") (group false Round done (group false Brace (group false Square (word (codes "this") (sign dot (piece false (Beyond (Private (codes "x"))) (sign comma (group false Brace (word (codes "a") (sign colon (word (codes "this") (sign dot (piece false (Beyond (Private (codes "x"))) (sign equal (word (codes "b") done))))))) (sign comma (sign ellipsis (word (codes "this") (sign dot (piece false (Beyond (Private (codes "x"))) done)))))))))) (sign equal (word (codes "c") (sign semicolon done)))) done))} refl (grammar.a_member_method (grammar.a_plain_method (grammar.a_method_behind_words {a = word (codes "m") done} false false refl (grammar.a_public_key (grammar.a_name_key value_m)) grammar.no_parameter (grammar.statements refl (grammar.last_statement (grammar.a_statement (grammar.an_expression_statement (grammar.a_semicolon {a = group false Square (word (codes "this") (sign dot (piece false (Beyond (Private (codes "x"))) (sign comma (group false Brace (word (codes "a") (sign colon (word (codes "this") (sign dot (piece false (Beyond (Private (codes "x"))) (sign equal (word (codes "b") done))))))) (sign comma (sign ellipsis (word (codes "this") (sign dot (piece false (Beyond (Private (codes "x"))) done)))))))))) (sign equal (word (codes "c") done))} false refl) refl (grammar.an_assignment (grammar.an_assignment_to_pattern {a = group false Square (word (codes "this") (sign dot (piece false (Beyond (Private (codes "x"))) (sign comma (group false Brace (word (codes "a") (sign colon (word (codes "this") (sign dot (piece false (Beyond (Private (codes "x"))) (sign equal (word (codes "b") done))))))) (sign comma (sign ellipsis (word (codes "this") (sign dot (piece false (Beyond (Private (codes "x"))) done)))))))))) done} false refl (grammar.an_array_target (grammar.first_target_element {a = word (codes "this") (sign dot (piece false (Beyond (Private (codes "x"))) done))} false refl (grammar.a_target_alone (grammar.a_simple_target (member_left (grammar.a_private_member {a = word (codes "this") done} (codes "x") false false refl value_x (grammar.a_primary grammar.a_this))) refl)) (grammar.first_target_element {a = group false Brace (word (codes "a") (sign colon (word (codes "this") (sign dot (piece false (Beyond (Private (codes "x"))) (sign equal (word (codes "b") done))))))) done} false refl (grammar.a_target_alone (grammar.a_target_pattern (grammar.an_object_target (grammar.last_target_property (grammar.a_target_property {a = word (codes "a") done} false refl (grammar.a_name_key value_a) (grammar.a_target_with_default {a = word (codes "this") (sign dot (piece false (Beyond (Private (codes "x"))) done))} false refl (member_left (grammar.a_private_member {a = word (codes "this") done} (codes "x") false false refl value_x (grammar.a_primary grammar.a_this))) refl (primary_value (grammar.a_reference value_b free_b)) refl)))))) (grammar.a_target_rest (grammar.a_simple_target (member_left (grammar.a_private_member {a = word (codes "this") done} (codes "x") false false refl value_x (grammar.a_primary grammar.a_this))) refl))))) (primary_value (grammar.a_reference value_c free_c))))))))))) grammar.no_member)))))))),
)

pub private_callees : IsRead (codes "class A { #x; m() { new this.#x; new this.#x.y(); } }") (program_of no_trees (more (class_of class_kinds.Declaration (given (name_of (codes "A"))) absent (more (tree.property_definition (field_values false false) (private_name (codes "x")) absent) (more (tree.method_definition (member_values Init false false) (key_of (codes "m")) (function_of kinds.Expression false false absent no_trees absent no_trees (more (statement_of (tree.new_expression (nothing_of 1) (tree.private_member (link_values false) (tree.this_expression (nothing_of 0)) (private_name (codes "x"))) no_trees)) (more (statement_of (tree.new_expression (nothing_of 1) (tree.static_member (link_values false) (tree.private_member (link_values false) (tree.this_expression (nothing_of 0)) (private_name (codes "x"))) (key_of (codes "y"))) no_trees)) no_trees)))) no_trees))) no_trees))
unfolding unicode_ident longer_stands word_value
private_callees = (
  word (codes "class") (word (codes "A") (group false Brace (piece false (Beyond (Private (codes "x"))) (sign semicolon (word (codes "m") (group false Round done (group false Brace (word (codes "new") (word (codes "this") (sign dot (piece false (Beyond (Private (codes "x"))) (sign semicolon (word (codes "new") (word (codes "this") (sign dot (piece false (Beyond (Private (codes "x"))) (sign dot (word (codes "y") (group false Round done (sign semicolon done))))))))))))) done))))) done)),
  ([], codes " A { #x; m() { new this.#x; new this.#x.y(); } }", refl, refl, refl, refl, refl, (codes " ", codes " { #x; m() { new this.#x; new this.#x.y(); } }", refl, refl, refl, refl, refl, (codes " ", codes " #x; m() { new this.#x; new this.#x.y(); } ", [], refl, refl, refl, (codes " ", codes "; m() { new this.#x; new this.#x.y(); } ", refl, refl, refl, refl, refl, ([], codes " m() { new this.#x; new this.#x.y(); } ", refl, refl, refl, refl, refl, (codes " ", codes "() { new this.#x; new this.#x.y(); } ", refl, refl, refl, refl, refl, ([], [], codes " { new this.#x; new this.#x.y(); } ", refl, refl, refl, refl, (codes " ", codes " new this.#x; new this.#x.y(); ", codes " ", refl, refl, refl, (codes " ", codes " this.#x; new this.#x.y(); ", refl, refl, refl, refl, refl, (codes " ", codes ".#x; new this.#x.y(); ", refl, refl, refl, refl, refl, ([], codes "#x; new this.#x.y(); ", refl, refl, refl, refl, refl, ([], codes "; new this.#x.y(); ", refl, refl, refl, refl, refl, ([], codes " new this.#x.y(); ", refl, refl, refl, refl, refl, (codes " ", codes " this.#x.y(); ", refl, refl, refl, refl, refl, (codes " ", codes ".#x.y(); ", refl, refl, refl, refl, refl, ([], codes "#x.y(); ", refl, refl, refl, refl, refl, ([], codes ".y(); ", refl, refl, refl, refl, refl, ([], codes "y(); ", refl, refl, refl, refl, refl, ([], codes "(); ", refl, refl, refl, refl, refl, ([], [], codes "; ", refl, refl, refl, refl, ([], codes " ", refl, refl, refl, refl, refl, refl))))))))))))), refl))))), refl))),
  grammar.a_module (grammar.module_items refl (grammar.last_module_item (grammar.a_module_statement (grammar.a_class_declaration (grammar.a_named_class value_A free_A (grammar.without_heritage (grammar.a_first_field {a = piece false (Beyond (Private (codes "x"))) done} false refl (grammar.a_field (grammar.a_field_alone (grammar.a_private_key value_x))) (grammar.a_first_member {a = word (codes "m") (group false Round done (group false Brace (word (codes "new") (word (codes "this") (sign dot (piece false (Beyond (Private (codes "x"))) (sign semicolon (word (codes "new") (word (codes "this") (sign dot (piece false (Beyond (Private (codes "x"))) (sign dot (word (codes "y") (group false Round done (sign semicolon done))))))))))))) done))} refl (grammar.a_member_method (grammar.a_plain_method (grammar.a_method_behind_words {a = word (codes "m") done} false false refl (grammar.a_public_key (grammar.a_name_key value_m)) grammar.no_parameter (grammar.statements refl (grammar.first_statement {a = word (codes "new") (word (codes "this") (sign dot (piece false (Beyond (Private (codes "x"))) (sign semicolon done))))} refl (grammar.a_statement (grammar.an_expression_statement (grammar.a_semicolon {a = word (codes "new") (word (codes "this") (sign dot (piece false (Beyond (Private (codes "x"))) done)))} false refl) refl (grammar.an_assignment (left_value (grammar.a_new (grammar.new_alone (grammar.a_member (grammar.a_private_member {a = word (codes "this") done} (codes "x") false false refl value_x (grammar.a_primary grammar.a_this))))))))) (grammar.last_statement (grammar.a_statement (grammar.an_expression_statement (grammar.a_semicolon {a = word (codes "new") (word (codes "this") (sign dot (piece false (Beyond (Private (codes "x"))) (sign dot (word (codes "y") (group false Round done done))))))} false refl) refl (grammar.an_assignment (member_value (grammar.new_with_arguments {a = word (codes "this") (sign dot (piece false (Beyond (Private (codes "x"))) (sign dot (word (codes "y") done))))} false false refl (grammar.a_named_member {a = word (codes "this") (sign dot (piece false (Beyond (Private (codes "x"))) done))} (codes "y") false false refl value_y (grammar.a_private_member {a = word (codes "this") done} (codes "x") false false refl value_x (grammar.a_primary grammar.a_this))) grammar.no_argument))))))))))) grammar.no_member)))))))),
)

pub private_test_of_sum : IsRead (codes "class A { #x; m() { #x in a + b } }") (program_of no_trees (more (class_of class_kinds.Declaration (given (name_of (codes "A"))) absent (more (tree.property_definition (field_values false false) (private_name (codes "x")) absent) (more (tree.method_definition (member_values Init false false) (key_of (codes "m")) (function_of kinds.Expression false false absent no_trees absent no_trees (more (statement_of (tree.private_in (nothing_of 0) (private_name (codes "x")) (tree.binary (bare (binary_operator operators.Addition ∷ [])) (reference_of (codes "a")) (reference_of (codes "b"))))) no_trees))) no_trees))) no_trees))
unfolding unicode_ident longer_stands word_value
private_test_of_sum = (
  word (codes "class") (word (codes "A") (group false Brace (piece false (Beyond (Private (codes "x"))) (sign semicolon (word (codes "m") (group false Round done (group false Brace (piece false (Beyond (Private (codes "x"))) (word (codes "in") (word (codes "a") (sign plus (word (codes "b") done))))) done))))) done)),
  ([], codes " A { #x; m() { #x in a + b } }", refl, refl, refl, refl, refl, (codes " ", codes " { #x; m() { #x in a + b } }", refl, refl, refl, refl, refl, (codes " ", codes " #x; m() { #x in a + b } ", [], refl, refl, refl, (codes " ", codes "; m() { #x in a + b } ", refl, refl, refl, refl, refl, ([], codes " m() { #x in a + b } ", refl, refl, refl, refl, refl, (codes " ", codes "() { #x in a + b } ", refl, refl, refl, refl, refl, ([], [], codes " { #x in a + b } ", refl, refl, refl, refl, (codes " ", codes " #x in a + b ", codes " ", refl, refl, refl, (codes " ", codes " in a + b ", refl, refl, refl, refl, refl, (codes " ", codes " a + b ", refl, refl, refl, refl, refl, (codes " ", codes " + b ", refl, refl, refl, refl, refl, (codes " ", codes " b ", refl, refl, refl, refl, refl, (codes " ", codes " ", refl, refl, refl, refl, refl, refl))))), refl))))), refl))),
  grammar.a_module (grammar.module_items refl (grammar.last_module_item (grammar.a_module_statement (grammar.a_class_declaration (grammar.a_named_class value_A free_A (grammar.without_heritage (grammar.a_first_field {a = piece false (Beyond (Private (codes "x"))) done} false refl (grammar.a_field (grammar.a_field_alone (grammar.a_private_key value_x))) (grammar.a_first_member {a = word (codes "m") (group false Round done (group false Brace (piece false (Beyond (Private (codes "x"))) (word (codes "in") (word (codes "a") (sign plus (word (codes "b") done))))) done))} refl (grammar.a_member_method (grammar.a_plain_method (grammar.a_method_behind_words {a = word (codes "m") done} false false refl (grammar.a_public_key (grammar.a_name_key value_m)) grammar.no_parameter (grammar.statements refl (grammar.last_statement (grammar.a_statement (grammar.an_expression_statement grammar.the_brace refl (grammar.an_assignment (grammar.a_conditional (grammar.a_short_circuit (grammar.a_logical_or (grammar.a_logical_and (grammar.a_bit_or (grammar.a_bit_xor (grammar.a_bit_and (grammar.an_equality (grammar.a_relation (grammar.a_private_test refl value_x (grammar.an_additive (grammar.an_operation {a = word (codes "a") done} operators.Addition false refl refl refl (grammar.a_multiplicative (grammar.an_exponent (grammar.a_unary (left_unary (primary_left (grammar.a_reference value_a free_a)))))) (grammar.an_exponent (grammar.a_unary (left_unary (primary_left (grammar.a_reference value_b free_b))))))))))))))))))))))))) grammar.no_member)))))))),
)

pub private_tests_in_choice : IsRead (codes "class A { #x; m() { #x in this && #x in a ? b : c } }") (program_of no_trees (more (class_of class_kinds.Declaration (given (name_of (codes "A"))) absent (more (tree.property_definition (field_values false false) (private_name (codes "x")) absent) (more (tree.method_definition (member_values Init false false) (key_of (codes "m")) (function_of kinds.Expression false false absent no_trees absent no_trees (more (statement_of (tree.conditional (nothing_of 0) (tree.logical (bare (logical_operator And ∷ [])) (tree.private_in (nothing_of 0) (private_name (codes "x")) (tree.this_expression (nothing_of 0))) (tree.private_in (nothing_of 0) (private_name (codes "x")) (reference_of (codes "a")))) (reference_of (codes "b")) (reference_of (codes "c")))) no_trees))) no_trees))) no_trees))
unfolding unicode_ident longer_stands word_value
private_tests_in_choice = (
  word (codes "class") (word (codes "A") (group false Brace (piece false (Beyond (Private (codes "x"))) (sign semicolon (word (codes "m") (group false Round done (group false Brace (piece false (Beyond (Private (codes "x"))) (word (codes "in") (word (codes "this") (sign and_and (piece false (Beyond (Private (codes "x"))) (word (codes "in") (word (codes "a") (sign question (word (codes "b") (sign colon (word (codes "c") done))))))))))) done))))) done)),
  ([], codes " A { #x; m() { #x in this && #x in a ? b : c } }", refl, refl, refl, refl, refl, (codes " ", codes " { #x; m() { #x in this && #x in a ? b : c } }", refl, refl, refl, refl, refl, (codes " ", codes " #x; m() { #x in this && #x in a ? b : c } ", [], refl, refl, refl, (codes " ", codes "; m() { #x in this && #x in a ? b : c } ", refl, refl, refl, refl, refl, ([], codes " m() { #x in this && #x in a ? b : c } ", refl, refl, refl, refl, refl, (codes " ", codes "() { #x in this && #x in a ? b : c } ", refl, refl, refl, refl, refl, ([], [], codes " { #x in this && #x in a ? b : c } ", refl, refl, refl, refl, (codes " ", codes " #x in this && #x in a ? b : c ", codes " ", refl, refl, refl, (codes " ", codes " in this && #x in a ? b : c ", refl, refl, refl, refl, refl, (codes " ", codes " this && #x in a ? b : c ", refl, refl, refl, refl, refl, (codes " ", codes " && #x in a ? b : c ", refl, refl, refl, refl, refl, (codes " ", codes " #x in a ? b : c ", refl, refl, refl, refl, refl, (codes " ", codes " in a ? b : c ", refl, refl, refl, refl, refl, (codes " ", codes " a ? b : c ", refl, refl, refl, refl, refl, (codes " ", codes " ? b : c ", refl, refl, refl, refl, refl, (codes " ", codes " b : c ", refl, refl, refl, refl, refl, (codes " ", codes " : c ", refl, refl, refl, refl, refl, (codes " ", codes " c ", refl, refl, refl, refl, refl, (codes " ", codes " ", refl, refl, refl, refl, refl, refl))))))))))), refl))))), refl))),
  grammar.a_module (grammar.module_items refl (grammar.last_module_item (grammar.a_module_statement (grammar.a_class_declaration (grammar.a_named_class value_A free_A (grammar.without_heritage (grammar.a_first_field {a = piece false (Beyond (Private (codes "x"))) done} false refl (grammar.a_field (grammar.a_field_alone (grammar.a_private_key value_x))) (grammar.a_first_member {a = word (codes "m") (group false Round done (group false Brace (piece false (Beyond (Private (codes "x"))) (word (codes "in") (word (codes "this") (sign and_and (piece false (Beyond (Private (codes "x"))) (word (codes "in") (word (codes "a") (sign question (word (codes "b") (sign colon (word (codes "c") done))))))))))) done))} refl (grammar.a_member_method (grammar.a_plain_method (grammar.a_method_behind_words {a = word (codes "m") done} false false refl (grammar.a_public_key (grammar.a_name_key value_m)) grammar.no_parameter (grammar.statements refl (grammar.last_statement (grammar.a_statement (grammar.an_expression_statement grammar.the_brace refl (grammar.an_assignment (grammar.a_conditional (grammar.a_choice {a = piece false (Beyond (Private (codes "x"))) (word (codes "in") (word (codes "this") (sign and_and (piece false (Beyond (Private (codes "x"))) (word (codes "in") (word (codes "a") done))))))} {b = word (codes "b") done} false false refl (grammar.a_logical_or (grammar.a_logical_and (grammar.a_conjunction {a = piece false (Beyond (Private (codes "x"))) (word (codes "in") (word (codes "this") done))} false refl (grammar.a_bit_or (grammar.a_bit_xor (grammar.a_bit_and (grammar.an_equality (grammar.a_relation (grammar.a_private_test refl value_x (grammar.an_additive (grammar.a_multiplicative (grammar.an_exponent (grammar.a_unary (left_unary (primary_left grammar.a_this)))))))))))) (grammar.a_bit_xor (grammar.a_bit_and (grammar.an_equality (grammar.a_relation (grammar.a_private_test refl value_x (grammar.an_additive (grammar.a_multiplicative (grammar.an_exponent (grammar.a_unary (left_unary (primary_left (grammar.a_reference value_a free_a))))))))))))))) (primary_value (grammar.a_reference value_b free_b)) (primary_value (grammar.a_reference value_c free_c)))))))))))) grammar.no_member)))))))),
)

pub private_test_as_operand : IsRead (codes "class A { #x; m() { #x in this in this } }") (program_of no_trees (more (class_of class_kinds.Declaration (given (name_of (codes "A"))) absent (more (tree.property_definition (field_values false false) (private_name (codes "x")) absent) (more (tree.method_definition (member_values Init false false) (key_of (codes "m")) (function_of kinds.Expression false false absent no_trees absent no_trees (more (statement_of (tree.binary (bare (binary_operator operators.In ∷ [])) (tree.private_in (nothing_of 0) (private_name (codes "x")) (tree.this_expression (nothing_of 0))) (tree.this_expression (nothing_of 0)))) no_trees))) no_trees))) no_trees))
unfolding unicode_ident longer_stands word_value
private_test_as_operand = (
  word (codes "class") (word (codes "A") (group false Brace (piece false (Beyond (Private (codes "x"))) (sign semicolon (word (codes "m") (group false Round done (group false Brace (piece false (Beyond (Private (codes "x"))) (word (codes "in") (word (codes "this") (word (codes "in") (word (codes "this") done))))) done))))) done)),
  ([], codes " A { #x; m() { #x in this in this } }", refl, refl, refl, refl, refl, (codes " ", codes " { #x; m() { #x in this in this } }", refl, refl, refl, refl, refl, (codes " ", codes " #x; m() { #x in this in this } ", [], refl, refl, refl, (codes " ", codes "; m() { #x in this in this } ", refl, refl, refl, refl, refl, ([], codes " m() { #x in this in this } ", refl, refl, refl, refl, refl, (codes " ", codes "() { #x in this in this } ", refl, refl, refl, refl, refl, ([], [], codes " { #x in this in this } ", refl, refl, refl, refl, (codes " ", codes " #x in this in this ", codes " ", refl, refl, refl, (codes " ", codes " in this in this ", refl, refl, refl, refl, refl, (codes " ", codes " this in this ", refl, refl, refl, refl, refl, (codes " ", codes " in this ", refl, refl, refl, refl, refl, (codes " ", codes " this ", refl, refl, refl, refl, refl, (codes " ", codes " ", refl, refl, refl, refl, refl, refl))))), refl))))), refl))),
  grammar.a_module (grammar.module_items refl (grammar.last_module_item (grammar.a_module_statement (grammar.a_class_declaration (grammar.a_named_class value_A free_A (grammar.without_heritage (grammar.a_first_field {a = piece false (Beyond (Private (codes "x"))) done} false refl (grammar.a_field (grammar.a_field_alone (grammar.a_private_key value_x))) (grammar.a_first_member {a = word (codes "m") (group false Round done (group false Brace (piece false (Beyond (Private (codes "x"))) (word (codes "in") (word (codes "this") (word (codes "in") (word (codes "this") done))))) done))} refl (grammar.a_member_method (grammar.a_plain_method (grammar.a_method_behind_words {a = word (codes "m") done} false false refl (grammar.a_public_key (grammar.a_name_key value_m)) grammar.no_parameter (grammar.statements refl (grammar.last_statement (grammar.a_statement (grammar.an_expression_statement grammar.the_brace refl (grammar.an_assignment (grammar.a_conditional (grammar.a_short_circuit (grammar.a_logical_or (grammar.a_logical_and (grammar.a_bit_or (grammar.a_bit_xor (grammar.a_bit_and (grammar.an_equality (grammar.a_relation (grammar.an_operation {a = piece false (Beyond (Private (codes "x"))) (word (codes "in") (word (codes "this") done))} operators.In false refl refl refl (grammar.a_private_test refl value_x (grammar.an_additive (grammar.a_multiplicative (grammar.an_exponent (grammar.a_unary (left_unary (primary_left grammar.a_this))))))) (grammar.an_additive (grammar.a_multiplicative (grammar.an_exponent (grammar.a_unary (left_unary (primary_left grammar.a_this)))))))))))))))))))))))) grammar.no_member)))))))),
)

pub private_test_in_head : IsRead (codes "class A { #x; m() { for ((#x in a);;); } }") (program_of no_trees (more (class_of class_kinds.Declaration (given (name_of (codes "A"))) absent (more (tree.property_definition (field_values false false) (private_name (codes "x")) absent) (more (tree.method_definition (member_values Init false false) (key_of (codes "m")) (function_of kinds.Expression false false absent no_trees absent no_trees (more (tree.for_statement (nothing_of 0) (given (tree.parenthesized (nothing_of 0) (tree.private_in (nothing_of 0) (private_name (codes "x")) (reference_of (codes "a"))))) absent absent (tree.empty_statement (nothing_of 0))) no_trees))) no_trees))) no_trees))
unfolding unicode_ident longer_stands word_value
private_test_in_head = (
  word (codes "class") (word (codes "A") (group false Brace (piece false (Beyond (Private (codes "x"))) (sign semicolon (word (codes "m") (group false Round done (group false Brace (word (codes "for") (group false Round (group false Round (piece false (Beyond (Private (codes "x"))) (word (codes "in") (word (codes "a") done))) (sign semicolon (sign semicolon done))) (sign semicolon done))) done))))) done)),
  ([], codes " A { #x; m() { for ((#x in a);;); } }", refl, refl, refl, refl, refl, (codes " ", codes " { #x; m() { for ((#x in a);;); } }", refl, refl, refl, refl, refl, (codes " ", codes " #x; m() { for ((#x in a);;); } ", [], refl, refl, refl, (codes " ", codes "; m() { for ((#x in a);;); } ", refl, refl, refl, refl, refl, ([], codes " m() { for ((#x in a);;); } ", refl, refl, refl, refl, refl, (codes " ", codes "() { for ((#x in a);;); } ", refl, refl, refl, refl, refl, ([], [], codes " { for ((#x in a);;); } ", refl, refl, refl, refl, (codes " ", codes " for ((#x in a);;); ", codes " ", refl, refl, refl, (codes " ", codes " ((#x in a);;); ", refl, refl, refl, refl, refl, (codes " ", codes "(#x in a);;", codes "; ", refl, refl, refl, ([], codes "#x in a", codes ";;", refl, refl, refl, ([], codes " in a", refl, refl, refl, refl, refl, (codes " ", codes " a", refl, refl, refl, refl, refl, (codes " ", [], refl, refl, refl, refl, refl, refl))), ([], codes ";", refl, refl, refl, refl, refl, ([], [], refl, refl, refl, refl, refl, refl))), ([], codes " ", refl, refl, refl, refl, refl, refl))), refl))))), refl))),
  grammar.a_module (grammar.module_items refl (grammar.last_module_item (grammar.a_module_statement (grammar.a_class_declaration (grammar.a_named_class value_A free_A (grammar.without_heritage (grammar.a_first_field {a = piece false (Beyond (Private (codes "x"))) done} false refl (grammar.a_field (grammar.a_field_alone (grammar.a_private_key value_x))) (grammar.a_first_member {a = word (codes "m") (group false Round done (group false Brace (word (codes "for") (group false Round (group false Round (piece false (Beyond (Private (codes "x"))) (word (codes "in") (word (codes "a") done))) (sign semicolon (sign semicolon done))) (sign semicolon done))) done))} refl (grammar.a_member_method (grammar.a_plain_method (grammar.a_method_behind_words {a = word (codes "m") done} false false refl (grammar.a_public_key (grammar.a_name_key value_m)) grammar.no_parameter (grammar.statements refl (grammar.last_statement (grammar.a_statement (grammar.a_for {a = group false Round (piece false (Beyond (Private (codes "x"))) (word (codes "in") (word (codes "a") done))) done} {b = done} false false refl (grammar.first_expression (grammar.an_assignment (primary_value (grammar.in_parentheses (grammar.an_assignment (grammar.a_conditional (grammar.a_short_circuit (grammar.a_logical_or (grammar.a_logical_and (grammar.a_bit_or (grammar.a_bit_xor (grammar.a_bit_and (grammar.an_equality (grammar.a_relation (grammar.a_private_test refl value_x (grammar.an_additive (grammar.a_multiplicative (grammar.an_exponent (grammar.a_unary (left_unary (primary_left (grammar.a_reference value_a free_a)))))))))))))))))))))) grammar.nothing_there grammar.nothing_there grammar.an_empty_statement))))))) grammar.no_member)))))))),
)
