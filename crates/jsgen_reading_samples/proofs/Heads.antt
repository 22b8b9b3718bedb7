-- Patterns in the heads of loops that are read.
use Rattle.std.proofs.Common.{false, [], codes, refl}
use Rattle.unicode_ident.proofs.Computing.{unicode_ident}
use Rattle.jsgen_syntax.specs.Escapes.{word_value}
use Rattle.jsgen_syntax.specs.declared.operator.BinaryOperator.TheVariants.{In}
use Rattle.jsgen_tree.specs.declared.statements.VariableDeclarationKind.TheVariants.{Const, Let}
use Rattle.jsgen_tree.specs.Tree.{absent, no_trees, more}
use Rattle.jsgen_model.specs.Punctuator.{dot, comma, semicolon, equal, Round, Square, Brace}
use Rattle.jsgen_model.specs.Tokens.{done, group, longer_stands}
use Rattle.jsgen_model.specs.Grammar as grammar
use Rattle.jsgen_reading_samples.specs.ReadPatterns.{IsRead}
use Rattle.jsgen_reading_samples.specs.ReadPatterns as samples
use Rattle.jsgen_reading_samples.proofs.Written.{word, sign}
use Rattle.jsgen_reading_samples.proofs.Parts.{of_member, shifted, related, valued, only, free_a, value_a, free_b, value_b, free_c, value_c, free_d, value_d, free_x, value_x, free_y, value_y, free_async, value_async}

pub object_before_of : IsRead (codes "for({a}of b);") (samples.module_of (samples.over_values (samples.object_target (more (samples.target_property false (samples.key_of (codes "a")) samples.a) no_trees) absent) samples.b))
unfolding unicode_ident longer_stands word_value
object_before_of = (
  word (codes "for") (group false Round (group false Brace (word (codes "a") done) (word (codes "of") (word (codes "b") done))) (sign semicolon done)),
  ([], codes "({a}of b);", refl, refl, refl, refl, refl, ([], codes "{a}of b", codes ";", refl, refl, refl, ([], codes "a", codes "of b", refl, refl, refl, ([], [], refl, refl, refl, refl, refl, refl), ([], codes " b", refl, refl, refl, refl, refl, (codes " ", [], refl, refl, refl, refl, refl, refl))), ([], [], refl, refl, refl, refl, refl, refl))),
  only refl (grammar.a_statement (grammar.a_for_of {a = group false Brace (word (codes "a") done) done} {b = word (codes "b") done} false refl (grammar.a_left_pattern (grammar.an_object_target (grammar.last_target_property (grammar.a_target_shorthand value_a free_a)))) (valued (related (of_member (grammar.a_primary (grammar.a_reference value_b free_b))))) grammar.an_empty_statement)),
)

pub object_before_of_with_spaces : IsRead (codes "for ({a} of b);") (samples.module_of (samples.over_values (samples.object_target (more (samples.target_property false (samples.key_of (codes "a")) samples.a) no_trees) absent) samples.b))
unfolding unicode_ident longer_stands word_value
object_before_of_with_spaces = (
  word (codes "for") (group false Round (group false Brace (word (codes "a") done) (word (codes "of") (word (codes "b") done))) (sign semicolon done)),
  ([], codes " ({a} of b);", refl, refl, refl, refl, refl, (codes " ", codes "{a} of b", codes ";", refl, refl, refl, ([], codes "a", codes " of b", refl, refl, refl, ([], [], refl, refl, refl, refl, refl, refl), (codes " ", codes " b", refl, refl, refl, refl, refl, (codes " ", [], refl, refl, refl, refl, refl, refl))), ([], [], refl, refl, refl, refl, refl, refl))),
  only refl (grammar.a_statement (grammar.a_for_of {a = group false Brace (word (codes "a") done) done} {b = word (codes "b") done} false refl (grammar.a_left_pattern (grammar.an_object_target (grammar.last_target_property (grammar.a_target_shorthand value_a free_a)))) (valued (related (of_member (grammar.a_primary (grammar.a_reference value_b free_b))))) grammar.an_empty_statement)),
)

pub in_in_default_before_of : IsRead (codes "for(let{a=b in c}of d);") (samples.module_of (samples.over_values (samples.declaration_of Let (samples.object_binding (more (samples.binding_property false (samples.key_of (codes "a")) (samples.binding_with_default (samples.name_of (codes "a")) (samples.in_of samples.b samples.c))) no_trees) absent) absent) samples.d))
unfolding unicode_ident longer_stands word_value
in_in_default_before_of = (
  word (codes "for") (group false Round (word (codes "let") (group false Brace (word (codes "a") (sign equal (word (codes "b") (word (codes "in") (word (codes "c") done))))) (word (codes "of") (word (codes "d") done)))) (sign semicolon done)),
  ([], codes "(let{a=b in c}of d);", refl, refl, refl, refl, refl, ([], codes "let{a=b in c}of d", codes ";", refl, refl, refl, ([], codes "{a=b in c}of d", refl, refl, refl, refl, refl, ([], codes "a=b in c", codes "of d", refl, refl, refl, ([], codes "=b in c", refl, refl, refl, refl, refl, ([], codes "b in c", refl, refl, refl, refl, refl, ([], codes " in c", refl, refl, refl, refl, refl, (codes " ", codes " c", refl, refl, refl, refl, refl, (codes " ", [], refl, refl, refl, refl, refl, refl))))), ([], codes " d", refl, refl, refl, refl, refl, (codes " ", [], refl, refl, refl, refl, refl, refl)))), ([], [], refl, refl, refl, refl, refl, refl))),
  only refl (grammar.a_statement (grammar.a_for_of {a = word (codes "let") (group false Brace (word (codes "a") (sign equal (word (codes "b") (word (codes "in") (word (codes "c") done))))) done)} {b = word (codes "d") done} false refl (grammar.a_declared_name Let (grammar.an_object_binding (grammar.last_binding_property (grammar.a_bound_shorthand_with_default value_a free_a (valued (grammar.an_operation {a = word (codes "b") done} {b = word (codes "c") done} In false refl refl refl (related (of_member (grammar.a_primary (grammar.a_reference value_b free_b)))) (shifted (of_member (grammar.a_primary (grammar.a_reference value_c free_c)))))))))) (valued (related (of_member (grammar.a_primary (grammar.a_reference value_d free_d))))) grammar.an_empty_statement)),
)

pub in_in_default_before_of_with_spaces : IsRead (codes "for (let { a = b in c } of d);") (samples.module_of (samples.over_values (samples.declaration_of Let (samples.object_binding (more (samples.binding_property false (samples.key_of (codes "a")) (samples.binding_with_default (samples.name_of (codes "a")) (samples.in_of samples.b samples.c))) no_trees) absent) absent) samples.d))
unfolding unicode_ident longer_stands word_value
in_in_default_before_of_with_spaces = (
  word (codes "for") (group false Round (word (codes "let") (group false Brace (word (codes "a") (sign equal (word (codes "b") (word (codes "in") (word (codes "c") done))))) (word (codes "of") (word (codes "d") done)))) (sign semicolon done)),
  ([], codes " (let { a = b in c } of d);", refl, refl, refl, refl, refl, (codes " ", codes "let { a = b in c } of d", codes ";", refl, refl, refl, ([], codes " { a = b in c } of d", refl, refl, refl, refl, refl, (codes " ", codes " a = b in c ", codes " of d", refl, refl, refl, (codes " ", codes " = b in c ", refl, refl, refl, refl, refl, (codes " ", codes " b in c ", refl, refl, refl, refl, refl, (codes " ", codes " in c ", refl, refl, refl, refl, refl, (codes " ", codes " c ", refl, refl, refl, refl, refl, (codes " ", codes " ", refl, refl, refl, refl, refl, refl))))), (codes " ", codes " d", refl, refl, refl, refl, refl, (codes " ", [], refl, refl, refl, refl, refl, refl)))), ([], [], refl, refl, refl, refl, refl, refl))),
  only refl (grammar.a_statement (grammar.a_for_of {a = word (codes "let") (group false Brace (word (codes "a") (sign equal (word (codes "b") (word (codes "in") (word (codes "c") done))))) done)} {b = word (codes "d") done} false refl (grammar.a_declared_name Let (grammar.an_object_binding (grammar.last_binding_property (grammar.a_bound_shorthand_with_default value_a free_a (valued (grammar.an_operation {a = word (codes "b") done} {b = word (codes "c") done} In false refl refl refl (related (of_member (grammar.a_primary (grammar.a_reference value_b free_b)))) (shifted (of_member (grammar.a_primary (grammar.a_reference value_c free_c)))))))))) (valued (related (of_member (grammar.a_primary (grammar.a_reference value_d free_d))))) grammar.an_empty_statement)),
)

pub pattern_within_pattern : IsRead (codes "for(const[a,{b}]in c);") (samples.module_of (samples.over_keys (samples.declaration_of Const (samples.array_binding (more (samples.name_of (codes "a")) (more (samples.object_binding (more (samples.binding_property false (samples.key_of (codes "b")) (samples.name_of (codes "b"))) no_trees) absent) no_trees)) absent) absent) samples.c))
unfolding unicode_ident longer_stands word_value
pattern_within_pattern = (
  word (codes "for") (group false Round (word (codes "const") (group false Square (word (codes "a") (sign comma (group false Brace (word (codes "b") done) done))) (word (codes "in") (word (codes "c") done)))) (sign semicolon done)),
  ([], codes "(const[a,{b}]in c);", refl, refl, refl, refl, refl, ([], codes "const[a,{b}]in c", codes ";", refl, refl, refl, ([], codes "[a,{b}]in c", refl, refl, refl, refl, refl, ([], codes "a,{b}", codes "in c", refl, refl, refl, ([], codes ",{b}", refl, refl, refl, refl, refl, ([], codes "{b}", refl, refl, refl, refl, refl, ([], codes "b", [], refl, refl, refl, ([], [], refl, refl, refl, refl, refl, refl), refl))), ([], codes " c", refl, refl, refl, refl, refl, (codes " ", [], refl, refl, refl, refl, refl, refl)))), ([], [], refl, refl, refl, refl, refl, refl))),
  only refl (grammar.a_statement (grammar.a_for_in {a = word (codes "const") (group false Square (word (codes "a") (sign comma (group false Brace (word (codes "b") done) done))) done)} {b = word (codes "c") done} false refl (grammar.a_declared_name Const (grammar.an_array_binding (grammar.first_binding_element {a = word (codes "a") done} {b = group false Brace (word (codes "b") done) done} false refl (grammar.a_binding_alone (grammar.a_bound_name value_a free_a)) (grammar.last_binding_element (grammar.a_binding_alone (grammar.an_object_binding (grammar.last_binding_property (grammar.a_bound_shorthand value_b free_b)))))))) (grammar.an_assignment (valued (related (of_member (grammar.a_primary (grammar.a_reference value_c free_c)))))) grammar.an_empty_statement)),
)

pub pattern_within_pattern_with_spaces : IsRead (codes "for (const [a, { b }] in c);") (samples.module_of (samples.over_keys (samples.declaration_of Const (samples.array_binding (more (samples.name_of (codes "a")) (more (samples.object_binding (more (samples.binding_property false (samples.key_of (codes "b")) (samples.name_of (codes "b"))) no_trees) absent) no_trees)) absent) absent) samples.c))
unfolding unicode_ident longer_stands word_value
pattern_within_pattern_with_spaces = (
  word (codes "for") (group false Round (word (codes "const") (group false Square (word (codes "a") (sign comma (group false Brace (word (codes "b") done) done))) (word (codes "in") (word (codes "c") done)))) (sign semicolon done)),
  ([], codes " (const [a, { b }] in c);", refl, refl, refl, refl, refl, (codes " ", codes "const [a, { b }] in c", codes ";", refl, refl, refl, ([], codes " [a, { b }] in c", refl, refl, refl, refl, refl, (codes " ", codes "a, { b }", codes " in c", refl, refl, refl, ([], codes ", { b }", refl, refl, refl, refl, refl, ([], codes " { b }", refl, refl, refl, refl, refl, (codes " ", codes " b ", [], refl, refl, refl, (codes " ", codes " ", refl, refl, refl, refl, refl, refl), refl))), (codes " ", codes " c", refl, refl, refl, refl, refl, (codes " ", [], refl, refl, refl, refl, refl, refl)))), ([], [], refl, refl, refl, refl, refl, refl))),
  only refl (grammar.a_statement (grammar.a_for_in {a = word (codes "const") (group false Square (word (codes "a") (sign comma (group false Brace (word (codes "b") done) done))) done)} {b = word (codes "c") done} false refl (grammar.a_declared_name Const (grammar.an_array_binding (grammar.first_binding_element {a = word (codes "a") done} {b = group false Brace (word (codes "b") done) done} false refl (grammar.a_binding_alone (grammar.a_bound_name value_a free_a)) (grammar.last_binding_element (grammar.a_binding_alone (grammar.an_object_binding (grammar.last_binding_property (grammar.a_bound_shorthand value_b free_b)))))))) (grammar.an_assignment (valued (related (of_member (grammar.a_primary (grammar.a_reference value_c free_c)))))) grammar.an_empty_statement)),
)

pub member_of_empty_object : IsRead (codes "for({}.x of y);") (samples.module_of (samples.over_values (samples.member_of (samples.object_of no_trees) (codes "x")) (samples.reference_of (codes "y"))))
unfolding unicode_ident longer_stands word_value
member_of_empty_object = (
  word (codes "for") (group false Round (group false Brace done (sign dot (word (codes "x") (word (codes "of") (word (codes "y") done))))) (sign semicolon done)),
  ([], codes "({}.x of y);", refl, refl, refl, refl, refl, ([], codes "{}.x of y", codes ";", refl, refl, refl, ([], [], codes ".x of y", refl, refl, refl, refl, ([], codes "x of y", refl, refl, refl, refl, refl, ([], codes " of y", refl, refl, refl, refl, refl, (codes " ", codes " y", refl, refl, refl, refl, refl, (codes " ", [], refl, refl, refl, refl, refl, refl))))), ([], [], refl, refl, refl, refl, refl, refl))),
  only refl (grammar.a_statement (grammar.a_for_of {a = group false Brace done (sign dot (word (codes "x") done))} {b = word (codes "y") done} false refl (grammar.a_target refl (of_member (grammar.a_named_member {a = group false Brace done done} (codes "x") false false refl value_x (grammar.a_primary (grammar.an_object grammar.no_property)))) refl) (valued (related (of_member (grammar.a_primary (grammar.a_reference value_y free_y))))) grammar.an_empty_statement)),
)

pub member_of_empty_object_with_spaces : IsRead (codes "for ({}.x of y);") (samples.module_of (samples.over_values (samples.member_of (samples.object_of no_trees) (codes "x")) (samples.reference_of (codes "y"))))
unfolding unicode_ident longer_stands word_value
member_of_empty_object_with_spaces = (
  word (codes "for") (group false Round (group false Brace done (sign dot (word (codes "x") (word (codes "of") (word (codes "y") done))))) (sign semicolon done)),
  ([], codes " ({}.x of y);", refl, refl, refl, refl, refl, (codes " ", codes "{}.x of y", codes ";", refl, refl, refl, ([], [], codes ".x of y", refl, refl, refl, refl, ([], codes "x of y", refl, refl, refl, refl, refl, ([], codes " of y", refl, refl, refl, refl, refl, (codes " ", codes " y", refl, refl, refl, refl, refl, (codes " ", [], refl, refl, refl, refl, refl, refl))))), ([], [], refl, refl, refl, refl, refl, refl))),
  only refl (grammar.a_statement (grammar.a_for_of {a = group false Brace done (sign dot (word (codes "x") done))} {b = word (codes "y") done} false refl (grammar.a_target refl (of_member (grammar.a_named_member {a = group false Brace done done} (codes "x") false false refl value_x (grammar.a_primary (grammar.an_object grammar.no_property)))) refl) (valued (related (of_member (grammar.a_primary (grammar.a_reference value_y free_y))))) grammar.an_empty_statement)),
)

pub async_in_parentheses : IsRead (codes "for((async)of x);") (samples.module_of (samples.over_values (samples.reference_of (codes "async")) (samples.reference_of (codes "x"))))
unfolding unicode_ident longer_stands word_value
async_in_parentheses = (
  word (codes "for") (group false Round (group false Round (word (codes "async") done) (word (codes "of") (word (codes "x") done))) (sign semicolon done)),
  ([], codes "((async)of x);", refl, refl, refl, refl, refl, ([], codes "(async)of x", codes ";", refl, refl, refl, ([], codes "async", codes "of x", refl, refl, refl, ([], [], refl, refl, refl, refl, refl, refl), ([], codes " x", refl, refl, refl, refl, refl, (codes " ", [], refl, refl, refl, refl, refl, refl))), ([], [], refl, refl, refl, refl, refl, refl))),
  only refl (grammar.a_statement (grammar.a_for_of {a = group false Round (word (codes "async") done) done} {b = word (codes "x") done} false refl (grammar.a_target refl (of_member (grammar.a_primary (grammar.in_parentheses (grammar.an_assignment (valued (related (of_member (grammar.a_primary (grammar.a_reference value_async free_async))))))))) refl) (valued (related (of_member (grammar.a_primary (grammar.a_reference value_x free_x))))) grammar.an_empty_statement)),
)

pub async_in_parentheses_with_spaces : IsRead (codes "for ((async) of x);") (samples.module_of (samples.over_values (samples.reference_of (codes "async")) (samples.reference_of (codes "x"))))
unfolding unicode_ident longer_stands word_value
async_in_parentheses_with_spaces = (
  word (codes "for") (group false Round (group false Round (word (codes "async") done) (word (codes "of") (word (codes "x") done))) (sign semicolon done)),
  ([], codes " ((async) of x);", refl, refl, refl, refl, refl, (codes " ", codes "(async) of x", codes ";", refl, refl, refl, ([], codes "async", codes " of x", refl, refl, refl, ([], [], refl, refl, refl, refl, refl, refl), (codes " ", codes " x", refl, refl, refl, refl, refl, (codes " ", [], refl, refl, refl, refl, refl, refl))), ([], [], refl, refl, refl, refl, refl, refl))),
  only refl (grammar.a_statement (grammar.a_for_of {a = group false Round (word (codes "async") done) done} {b = word (codes "x") done} false refl (grammar.a_target refl (of_member (grammar.a_primary (grammar.in_parentheses (grammar.an_assignment (valued (related (of_member (grammar.a_primary (grammar.a_reference value_async free_async))))))))) refl) (valued (related (of_member (grammar.a_primary (grammar.a_reference value_x free_x))))) grammar.an_empty_statement)),
)

pub async_over_other : IsRead (codes "for((async)of b);") (samples.module_of (samples.over_values (samples.reference_of (codes "async")) samples.b))
unfolding unicode_ident longer_stands word_value
async_over_other = (
  word (codes "for") (group false Round (group false Round (word (codes "async") done) (word (codes "of") (word (codes "b") done))) (sign semicolon done)),
  ([], codes "((async)of b);", refl, refl, refl, refl, refl, ([], codes "(async)of b", codes ";", refl, refl, refl, ([], codes "async", codes "of b", refl, refl, refl, ([], [], refl, refl, refl, refl, refl, refl), ([], codes " b", refl, refl, refl, refl, refl, (codes " ", [], refl, refl, refl, refl, refl, refl))), ([], [], refl, refl, refl, refl, refl, refl))),
  only refl (grammar.a_statement (grammar.a_for_of {a = group false Round (word (codes "async") done) done} {b = word (codes "b") done} false refl (grammar.a_target refl (of_member (grammar.a_primary (grammar.in_parentheses (grammar.an_assignment (valued (related (of_member (grammar.a_primary (grammar.a_reference value_async free_async))))))))) refl) (valued (related (of_member (grammar.a_primary (grammar.a_reference value_b free_b))))) grammar.an_empty_statement)),
)

pub async_over_other_with_spaces : IsRead (codes "for ((async) of b);") (samples.module_of (samples.over_values (samples.reference_of (codes "async")) samples.b))
unfolding unicode_ident longer_stands word_value
async_over_other_with_spaces = (
  word (codes "for") (group false Round (group false Round (word (codes "async") done) (word (codes "of") (word (codes "b") done))) (sign semicolon done)),
  ([], codes " ((async) of b);", refl, refl, refl, refl, refl, (codes " ", codes "(async) of b", codes ";", refl, refl, refl, ([], codes "async", codes " of b", refl, refl, refl, ([], [], refl, refl, refl, refl, refl, refl), (codes " ", codes " b", refl, refl, refl, refl, refl, (codes " ", [], refl, refl, refl, refl, refl, refl))), ([], [], refl, refl, refl, refl, refl, refl))),
  only refl (grammar.a_statement (grammar.a_for_of {a = group false Round (word (codes "async") done) done} {b = word (codes "b") done} false refl (grammar.a_target refl (of_member (grammar.a_primary (grammar.in_parentheses (grammar.an_assignment (valued (related (of_member (grammar.a_primary (grammar.a_reference value_async free_async))))))))) refl) (valued (related (of_member (grammar.a_primary (grammar.a_reference value_b free_b))))) grammar.an_empty_statement)),
)
