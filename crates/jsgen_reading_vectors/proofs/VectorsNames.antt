-- Generated from tools/vectors/chosen.json; edit that and run tools/vectors/generate.
-- That they are read so: names.
use Rattle.std.proofs.Common.{[], true, false, codes, refl}
use Rattle.unicode_ident.proofs.Computing.{unicode_ident}
use Rattle.jsgen_syntax.specs.Escapes.{word_value}
use Rattle.jsgen_tree.specs.declared.statements.VariableDeclarationKind.TheVariants.{Let, Var}
use Rattle.jsgen_tree.specs.Tree.{absent, given, no_trees, more}
use Rattle.jsgen_tree.specs.Nodes as tree
use Rattle.jsgen_model.specs.Normal.{nothing_of, named, link_values, call_values, by_text, declared_as}
use Rattle.jsgen_model.specs.Numbers.{spells_number}
use Rattle.jsgen_model.specs.Punctuator.{dot, comma, semicolon, colon, equal, Round}
use Rattle.jsgen_model.specs.Tokens.{done, piece, group, Word, Number, longer_stands, longer_number_stands}
use Rattle.jsgen_model.specs.Grammar.{loop_values}
use Rattle.jsgen_model.specs.Grammar as grammar
use Rattle.jsgen_reading_vectors.specs.Reading.{IsRead, program_of, statement_of, reference_of, name_of, key_of}
use Rattle.jsgen_reading_vectors.proofs.Written.{word, sign}
use Rattle.jsgen_reading_vectors.proofs.Levels.{primary_value, call_value, primary_left, member_left}
use Rattle.jsgen_reading_vectors.proofs.Names.{free_a, free_as, free_async, free_b, free_from, free_get, free_of, free_set, free_x, value_a, value_as, value_async, value_b, value_from, value_get, value_of, value_set, value_x}

pub bound_words : IsRead (codes "let async = 1, of = 2, get, set, from, as;") (program_of no_trees (more (tree.variable_declaration (declared_as Let) (more (tree.variable_declarator (nothing_of 1) (name_of (codes "async")) (given (tree.numeric_literal (by_text (codes "1"))))) (more (tree.variable_declarator (nothing_of 1) (name_of (codes "of")) (given (tree.numeric_literal (by_text (codes "2"))))) (more (tree.variable_declarator (nothing_of 1) (name_of (codes "get")) absent) (more (tree.variable_declarator (nothing_of 1) (name_of (codes "set")) absent) (more (tree.variable_declarator (nothing_of 1) (name_of (codes "from")) absent) (more (tree.variable_declarator (nothing_of 1) (name_of (codes "as")) absent) no_trees))))))) no_trees))
unfolding unicode_ident longer_stands word_value longer_number_stands spells_number
bound_words = (
  word (codes "let") (word (codes "async") (sign equal (piece false (Number (codes "1")) (sign comma (word (codes "of") (sign equal (piece false (Number (codes "2")) (sign comma (word (codes "get") (sign comma (word (codes "set") (sign comma (word (codes "from") (sign comma (word (codes "as") (sign semicolon done)))))))))))))))),
  ([], codes " async = 1, of = 2, get, set, from, as;", refl, refl, refl, refl, refl, (codes " ", codes " = 1, of = 2, get, set, from, as;", refl, refl, refl, refl, refl, (codes " ", codes " 1, of = 2, get, set, from, as;", refl, refl, refl, refl, refl, (codes " ", codes ", of = 2, get, set, from, as;", refl, refl, refl, refl, refl, ([], codes " of = 2, get, set, from, as;", refl, refl, refl, refl, refl, (codes " ", codes " = 2, get, set, from, as;", refl, refl, refl, refl, refl, (codes " ", codes " 2, get, set, from, as;", refl, refl, refl, refl, refl, (codes " ", codes ", get, set, from, as;", refl, refl, refl, refl, refl, ([], codes " get, set, from, as;", refl, refl, refl, refl, refl, (codes " ", codes ", set, from, as;", refl, refl, refl, refl, refl, ([], codes " set, from, as;", refl, refl, refl, refl, refl, (codes " ", codes ", from, as;", refl, refl, refl, refl, refl, ([], codes " from, as;", refl, refl, refl, refl, refl, (codes " ", codes ", as;", refl, refl, refl, refl, refl, ([], codes " as;", refl, refl, refl, refl, refl, (codes " ", codes ";", refl, refl, refl, refl, refl, ([], [], refl, refl, refl, refl, refl, refl))))))))))))))))),
  grammar.a_module (grammar.module_items refl (grammar.last_module_item (grammar.a_module_statement (grammar.a_declaration Let refl (grammar.a_semicolon {a = word (codes "let") (word (codes "async") (sign equal (piece false (Number (codes "1")) (sign comma (word (codes "of") (sign equal (piece false (Number (codes "2")) (sign comma (word (codes "get") (sign comma (word (codes "set") (sign comma (word (codes "from") (sign comma (word (codes "as") done)))))))))))))))} false refl) (grammar.some_variables (grammar.first_declarator {a = word (codes "async") (sign equal (piece false (Number (codes "1")) done))} false refl (grammar.with_value {a = word (codes "async") done} false refl (grammar.a_bound_name value_async free_async) (primary_value (grammar.a_number refl))) (grammar.first_declarator {a = word (codes "of") (sign equal (piece false (Number (codes "2")) done))} false refl (grammar.with_value {a = word (codes "of") done} false refl (grammar.a_bound_name value_of free_of) (primary_value (grammar.a_number refl))) (grammar.first_declarator {a = word (codes "get") done} false refl (grammar.without_value value_get free_get) (grammar.first_declarator {a = word (codes "set") done} false refl (grammar.without_value value_set free_set) (grammar.first_declarator {a = word (codes "from") done} false refl (grammar.without_value value_from free_from) (grammar.last_declarator (grammar.without_value value_as free_as)))))))))))),
)

pub bound_on_next_line : IsRead (codes "let\nasync;") (program_of no_trees (more (tree.variable_declaration (declared_as Let) (more (tree.variable_declarator (nothing_of 1) (name_of (codes "async")) absent) no_trees)) no_trees))
unfolding unicode_ident longer_stands word_value
bound_on_next_line = (
  word (codes "let") (piece true (Word (codes "async")) (sign semicolon done)),
  ([], codes "\nasync;", refl, refl, refl, refl, refl, (codes "\n", codes ";", refl, refl, refl, refl, refl, ([], [], refl, refl, refl, refl, refl, refl))),
  grammar.a_module (grammar.module_items refl (grammar.last_module_item (grammar.a_module_statement (grammar.a_declaration Let refl (grammar.a_semicolon {a = word (codes "let") (piece true (Word (codes "async")) done)} false refl) (grammar.some_variables (grammar.last_declarator (grammar.without_value value_async free_async))))))),
)

pub labels : IsRead (codes "of: async: a;") (program_of no_trees (more (tree.labeled_statement (nothing_of 0) (tree.label_identifier (named (codes "of"))) (tree.labeled_statement (nothing_of 0) (tree.label_identifier (named (codes "async"))) (statement_of (reference_of (codes "a"))))) no_trees))
unfolding unicode_ident longer_stands word_value
labels = (
  word (codes "of") (sign colon (word (codes "async") (sign colon (word (codes "a") (sign semicolon done))))),
  ([], codes ": async: a;", refl, refl, refl, refl, refl, ([], codes " async: a;", refl, refl, refl, refl, refl, (codes " ", codes ": a;", refl, refl, refl, refl, refl, ([], codes " a;", refl, refl, refl, refl, refl, (codes " ", codes ";", refl, refl, refl, refl, refl, ([], [], refl, refl, refl, refl, refl, refl)))))),
  grammar.a_module (grammar.module_items refl (grammar.last_module_item (grammar.a_module_statement (grammar.a_statement (grammar.a_labelled_statement value_of free_of (grammar.a_labelled_statement value_async free_async (grammar.an_expression_statement (grammar.a_semicolon {a = word (codes "a") done} false refl) refl (grammar.an_assignment (primary_value (grammar.a_reference value_a free_a)))))))))),
)

pub call_over_line_end : IsRead (codes "async\n(a);") (program_of no_trees (more (statement_of (tree.call (call_values false) (reference_of (codes "async")) (more (reference_of (codes "a")) no_trees))) no_trees))
unfolding unicode_ident longer_stands word_value
call_over_line_end = (
  word (codes "async") (group true Round (word (codes "a") done) (sign semicolon done)),
  ([], codes "\n(a);", refl, refl, refl, refl, refl, (codes "\n", codes "a", codes ";", refl, refl, refl, ([], [], refl, refl, refl, refl, refl, refl), ([], [], refl, refl, refl, refl, refl, refl))),
  grammar.a_module (grammar.module_items refl (grammar.last_module_item (grammar.a_module_statement (grammar.a_statement (grammar.an_expression_statement (grammar.a_semicolon {a = word (codes "async") (group true Round (word (codes "a") done) done)} false refl) refl (grammar.an_assignment (call_value (grammar.with_arguments {a = word (codes "async") done} true refl (grammar.a_called_member (grammar.a_primary (grammar.a_reference value_async free_async))) (grammar.some_arguments (grammar.last_argument (grammar.an_element (primary_value (grammar.a_reference value_a free_a))))))))))))),
)

pub of_over_of : IsRead (codes "for (of of of);") (program_of no_trees (more (tree.for_of_statement (loop_values false) (reference_of (codes "of")) (reference_of (codes "of")) (tree.empty_statement (nothing_of 0))) no_trees))
unfolding unicode_ident longer_stands word_value
of_over_of = (
  word (codes "for") (group false Round (word (codes "of") (word (codes "of") (word (codes "of") done))) (sign semicolon done)),
  ([], codes " (of of of);", refl, refl, refl, refl, refl, (codes " ", codes "of of of", codes ";", refl, refl, refl, ([], codes " of of", refl, refl, refl, refl, refl, (codes " ", codes " of", refl, refl, refl, refl, refl, (codes " ", [], refl, refl, refl, refl, refl, refl))), ([], [], refl, refl, refl, refl, refl, refl))),
  grammar.a_module (grammar.module_items refl (grammar.last_module_item (grammar.a_module_statement (grammar.a_statement (grammar.a_for_of {a = word (codes "of") done} false refl (grammar.a_target refl (primary_left (grammar.a_reference value_of free_of)) refl) (primary_value (grammar.a_reference value_of free_of)) grammar.an_empty_statement))))),
)

pub of_in_head : IsRead (codes "for (of;;);") (program_of no_trees (more (tree.for_statement (nothing_of 0) (given (reference_of (codes "of"))) absent absent (tree.empty_statement (nothing_of 0))) no_trees))
unfolding unicode_ident longer_stands word_value
of_in_head = (
  word (codes "for") (group false Round (word (codes "of") (sign semicolon (sign semicolon done))) (sign semicolon done)),
  ([], codes " (of;;);", refl, refl, refl, refl, refl, (codes " ", codes "of;;", codes ";", refl, refl, refl, ([], codes ";;", refl, refl, refl, refl, refl, ([], codes ";", refl, refl, refl, refl, refl, ([], [], refl, refl, refl, refl, refl, refl))), ([], [], refl, refl, refl, refl, refl, refl))),
  grammar.a_module (grammar.module_items refl (grammar.last_module_item (grammar.a_module_statement (grammar.a_statement (grammar.a_for {a = word (codes "of") done} {b = done} false false refl (grammar.first_expression (grammar.an_assignment (primary_value (grammar.a_reference value_of free_of)))) grammar.nothing_there grammar.nothing_there grammar.an_empty_statement))))),
)

pub of_bound_over : IsRead (codes "for (var of of a);") (program_of no_trees (more (tree.for_of_statement (loop_values false) (tree.variable_declaration (declared_as Var) (more (tree.variable_declarator (nothing_of 1) (name_of (codes "of")) absent) no_trees)) (reference_of (codes "a")) (tree.empty_statement (nothing_of 0))) no_trees))
unfolding unicode_ident longer_stands word_value
of_bound_over = (
  word (codes "for") (group false Round (word (codes "var") (word (codes "of") (word (codes "of") (word (codes "a") done)))) (sign semicolon done)),
  ([], codes " (var of of a);", refl, refl, refl, refl, refl, (codes " ", codes "var of of a", codes ";", refl, refl, refl, ([], codes " of of a", refl, refl, refl, refl, refl, (codes " ", codes " of a", refl, refl, refl, refl, refl, (codes " ", codes " a", refl, refl, refl, refl, refl, (codes " ", [], refl, refl, refl, refl, refl, refl)))), ([], [], refl, refl, refl, refl, refl, refl))),
  grammar.a_module (grammar.module_items refl (grammar.last_module_item (grammar.a_module_statement (grammar.a_statement (grammar.a_for_of {a = word (codes "var") (word (codes "of") done)} false refl (grammar.a_declared_name Var (grammar.a_bound_name value_of free_of)) (primary_value (grammar.a_reference value_a free_a)) grammar.an_empty_statement))))),
)

pub member_of_async_before_of : IsRead (codes "for (async.a of b);") (program_of no_trees (more (tree.for_of_statement (loop_values false) (tree.static_member (link_values false) (reference_of (codes "async")) (key_of (codes "a"))) (reference_of (codes "b")) (tree.empty_statement (nothing_of 0))) no_trees))
unfolding unicode_ident longer_stands word_value
member_of_async_before_of = (
  word (codes "for") (group false Round (word (codes "async") (sign dot (word (codes "a") (word (codes "of") (word (codes "b") done))))) (sign semicolon done)),
  ([], codes " (async.a of b);", refl, refl, refl, refl, refl, (codes " ", codes "async.a of b", codes ";", refl, refl, refl, ([], codes ".a of b", refl, refl, refl, refl, refl, ([], codes "a of b", refl, refl, refl, refl, refl, ([], codes " of b", refl, refl, refl, refl, refl, (codes " ", codes " b", refl, refl, refl, refl, refl, (codes " ", [], refl, refl, refl, refl, refl, refl))))), ([], [], refl, refl, refl, refl, refl, refl))),
  grammar.a_module (grammar.module_items refl (grammar.last_module_item (grammar.a_module_statement (grammar.a_statement (grammar.a_for_of {a = word (codes "async") (sign dot (word (codes "a") done))} false refl (grammar.a_target refl (member_left (grammar.a_named_member {a = word (codes "async") done} (codes "a") false false refl value_a (grammar.a_primary (grammar.a_reference value_async free_async)))) refl) (primary_value (grammar.a_reference value_b free_b)) grammar.an_empty_statement))))),
)

pub async_in_parentheses_before_of : IsRead (codes "for ((async) of x);") (program_of no_trees (more (tree.for_of_statement (loop_values false) (reference_of (codes "async")) (reference_of (codes "x")) (tree.empty_statement (nothing_of 0))) no_trees))
unfolding unicode_ident longer_stands word_value
async_in_parentheses_before_of = (
  word (codes "for") (group false Round (group false Round (word (codes "async") done) (word (codes "of") (word (codes "x") done))) (sign semicolon done)),
  ([], codes " ((async) of x);", refl, refl, refl, refl, refl, (codes " ", codes "(async) of x", codes ";", refl, refl, refl, ([], codes "async", codes " of x", refl, refl, refl, ([], [], refl, refl, refl, refl, refl, refl), (codes " ", codes " x", refl, refl, refl, refl, refl, (codes " ", [], refl, refl, refl, refl, refl, refl))), ([], [], refl, refl, refl, refl, refl, refl))),
  grammar.a_module (grammar.module_items refl (grammar.last_module_item (grammar.a_module_statement (grammar.a_statement (grammar.a_for_of {a = group false Round (word (codes "async") done) done} false refl (grammar.a_target refl (primary_left (grammar.in_parentheses (grammar.an_assignment (primary_value (grammar.a_reference value_async free_async))))) refl) (primary_value (grammar.a_reference value_x free_x)) grammar.an_empty_statement))))),
)

pub async_before_in : IsRead (codes "for (async in a);") (program_of no_trees (more (tree.for_in_statement (nothing_of 0) (reference_of (codes "async")) (reference_of (codes "a")) (tree.empty_statement (nothing_of 0))) no_trees))
unfolding unicode_ident longer_stands word_value
async_before_in = (
  word (codes "for") (group false Round (word (codes "async") (word (codes "in") (word (codes "a") done))) (sign semicolon done)),
  ([], codes " (async in a);", refl, refl, refl, refl, refl, (codes " ", codes "async in a", codes ";", refl, refl, refl, ([], codes " in a", refl, refl, refl, refl, refl, (codes " ", codes " a", refl, refl, refl, refl, refl, (codes " ", [], refl, refl, refl, refl, refl, refl))), ([], [], refl, refl, refl, refl, refl, refl))),
  grammar.a_module (grammar.module_items refl (grammar.last_module_item (grammar.a_module_statement (grammar.a_statement (grammar.a_for_in {a = word (codes "async") done} false refl (grammar.a_target refl (primary_left (grammar.a_reference value_async free_async)) refl) (grammar.an_assignment (primary_value (grammar.a_reference value_a free_a))) grammar.an_empty_statement))))),
)
