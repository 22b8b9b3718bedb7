-- Patterns of bindings and of targets that are read.
use Rattle.std.proofs.Common.{true, false, [], codes, refl}
use Rattle.unicode_ident.proofs.Computing.{unicode_ident}
use Rattle.jsgen_syntax.specs.Escapes.{word_value}
use Rattle.jsgen_syntax.specs.Strings.{string_value}
use Rattle.jsgen_syntax.specs.declared.quote.Quote.TheVariants.{Double}
use Rattle.jsgen_syntax.specs.declared.operator.BinaryOperator.TheVariants.{In}
use Rattle.jsgen_tree.specs.declared.statements.VariableDeclarationKind.TheVariants.{Const, Let, Var}
use Rattle.jsgen_tree.specs.Tree.{absent, given, no_trees, more, hole}
use Rattle.jsgen_model.specs.Numbers.{spells_number}
use Rattle.jsgen_model.specs.Punctuator.{ellipsis, arrow, dot, comma, semicolon, colon, question, equal, Round, Square, Brace}
use Rattle.jsgen_model.specs.Tokens.{done, piece, group, Number, Quoted, longer_stands, longer_number_stands}
use Rattle.jsgen_model.specs.Grammar as grammar
use Rattle.jsgen_reading_samples.specs.ReadPatterns.{IsRead}
use Rattle.jsgen_reading_samples.specs.ReadPatterns as samples
use Rattle.jsgen_reading_samples.proofs.Written.{word, sign}
use Rattle.jsgen_reading_samples.proofs.Parts.{of_member, shifted, related, tested, valued, read_arrow, only, item, free_a, value_a, free_b, value_b, free_c, value_c, free_d, value_d, free_e, value_e, free_f, value_f, free_g, value_g, free_h, value_h, value_if}

pub array_of_bindings : IsRead (codes "let[a]=b;") (samples.module_of (samples.declaration_of Let (samples.array_binding (more (samples.name_of (codes "a")) no_trees) absent) (given samples.b)))
unfolding unicode_ident longer_stands word_value
array_of_bindings = (
  word (codes "let") (group false Square (word (codes "a") done) (sign equal (word (codes "b") (sign semicolon done)))),
  ([], codes "[a]=b;", refl, refl, refl, refl, refl, ([], codes "a", codes "=b;", refl, refl, refl, ([], [], refl, refl, refl, refl, refl, refl), ([], codes "b;", refl, refl, refl, refl, refl, ([], codes ";", refl, refl, refl, refl, refl, ([], [], refl, refl, refl, refl, refl, refl))))),
  only refl ((grammar.a_declaration Let refl (grammar.a_semicolon {a = word (codes "let") (group false Square (word (codes "a") done) (sign equal (word (codes "b") done)))} false refl) (grammar.some_variables (grammar.last_declarator (grammar.with_value {a = group false Square (word (codes "a") done) done} {v = word (codes "b") done} false refl (grammar.an_array_binding (grammar.last_binding_element (grammar.a_binding_alone (grammar.a_bound_name value_a free_a)))) (valued (related (of_member (grammar.a_primary (grammar.a_reference value_b free_b)))))))))),
)

pub object_of_bindings : IsRead (codes "let{a,b:[c]}=d;") (samples.module_of (samples.declaration_of Let (samples.object_binding (more (samples.binding_property false (samples.key_of (codes "a")) (samples.name_of (codes "a"))) (more (samples.binding_property false (samples.key_of (codes "b")) (samples.array_binding (more (samples.name_of (codes "c")) no_trees) absent)) no_trees)) absent) (given samples.d)))
unfolding unicode_ident longer_stands word_value
object_of_bindings = (
  word (codes "let") (group false Brace (word (codes "a") (sign comma (word (codes "b") (sign colon (group false Square (word (codes "c") done) done))))) (sign equal (word (codes "d") (sign semicolon done)))),
  ([], codes "{a,b:[c]}=d;", refl, refl, refl, refl, refl, ([], codes "a,b:[c]", codes "=d;", refl, refl, refl, ([], codes ",b:[c]", refl, refl, refl, refl, refl, ([], codes "b:[c]", refl, refl, refl, refl, refl, ([], codes ":[c]", refl, refl, refl, refl, refl, ([], codes "[c]", refl, refl, refl, refl, refl, ([], codes "c", [], refl, refl, refl, ([], [], refl, refl, refl, refl, refl, refl), refl))))), ([], codes "d;", refl, refl, refl, refl, refl, ([], codes ";", refl, refl, refl, refl, refl, ([], [], refl, refl, refl, refl, refl, refl))))),
  only refl ((grammar.a_declaration Let refl (grammar.a_semicolon {a = word (codes "let") (group false Brace (word (codes "a") (sign comma (word (codes "b") (sign colon (group false Square (word (codes "c") done) done))))) (sign equal (word (codes "d") done)))} false refl) (grammar.some_variables (grammar.last_declarator (grammar.with_value {a = group false Brace (word (codes "a") (sign comma (word (codes "b") (sign colon (group false Square (word (codes "c") done) done))))) done} {v = word (codes "d") done} false refl (grammar.an_object_binding (grammar.first_binding_property {a = word (codes "a") done} {b = word (codes "b") (sign colon (group false Square (word (codes "c") done) done))} false refl (grammar.a_bound_shorthand value_a free_a) (grammar.last_binding_property (grammar.a_bound_property {a = word (codes "b") done} {b = group false Square (word (codes "c") done) done} false refl (grammar.a_name_key value_b) (grammar.a_binding_alone (grammar.an_array_binding (grammar.last_binding_element (grammar.a_binding_alone (grammar.a_bound_name value_c free_c))))))))) (valued (related (of_member (grammar.a_primary (grammar.a_reference value_d free_d)))))))))),
)

pub name_and_pattern : IsRead (codes "let a,[b]=c;") (samples.module_of (samples.declarations_of Let (more (samples.declared (samples.name_of (codes "a")) absent) (more (samples.declared (samples.array_binding (more (samples.name_of (codes "b")) no_trees) absent) (given samples.c)) no_trees))))
unfolding unicode_ident longer_stands word_value
name_and_pattern = (
  word (codes "let") (word (codes "a") (sign comma (group false Square (word (codes "b") done) (sign equal (word (codes "c") (sign semicolon done)))))),
  ([], codes " a,[b]=c;", refl, refl, refl, refl, refl, (codes " ", codes ",[b]=c;", refl, refl, refl, refl, refl, ([], codes "[b]=c;", refl, refl, refl, refl, refl, ([], codes "b", codes "=c;", refl, refl, refl, ([], [], refl, refl, refl, refl, refl, refl), ([], codes "c;", refl, refl, refl, refl, refl, ([], codes ";", refl, refl, refl, refl, refl, ([], [], refl, refl, refl, refl, refl, refl))))))),
  only refl ((grammar.a_declaration Let refl (grammar.a_semicolon {a = word (codes "let") (word (codes "a") (sign comma (group false Square (word (codes "b") done) (sign equal (word (codes "c") done)))))} false refl) (grammar.some_variables (grammar.first_declarator {a = word (codes "a") done} {b = group false Square (word (codes "b") done) (sign equal (word (codes "c") done))} false refl (grammar.without_value value_a free_a) (grammar.last_declarator (grammar.with_value {a = group false Square (word (codes "b") done) done} {v = word (codes "c") done} false refl (grammar.an_array_binding (grammar.last_binding_element (grammar.a_binding_alone (grammar.a_bound_name value_b free_b)))) (valued (related (of_member (grammar.a_primary (grammar.a_reference value_c free_c))))))))))),
)

pub no_element_bound : IsRead (codes "let[]=a;") (samples.module_of (samples.declaration_of Let (samples.array_binding no_trees absent) (given samples.a)))
unfolding unicode_ident longer_stands word_value
no_element_bound = (
  word (codes "let") (group false Square done (sign equal (word (codes "a") (sign semicolon done)))),
  ([], codes "[]=a;", refl, refl, refl, refl, refl, ([], [], codes "=a;", refl, refl, refl, refl, ([], codes "a;", refl, refl, refl, refl, refl, ([], codes ";", refl, refl, refl, refl, refl, ([], [], refl, refl, refl, refl, refl, refl))))),
  only refl ((grammar.a_declaration Let refl (grammar.a_semicolon {a = word (codes "let") (group false Square done (sign equal (word (codes "a") done)))} false refl) (grammar.some_variables (grammar.last_declarator (grammar.with_value {a = group false Square done done} {v = word (codes "a") done} false refl (grammar.an_array_binding grammar.no_binding_element) (valued (related (of_member (grammar.a_primary (grammar.a_reference value_a free_a)))))))))),
)

pub no_property_bound : IsRead (codes "let{}=a;") (samples.module_of (samples.declaration_of Let (samples.object_binding no_trees absent) (given samples.a)))
unfolding unicode_ident longer_stands word_value
no_property_bound = (
  word (codes "let") (group false Brace done (sign equal (word (codes "a") (sign semicolon done)))),
  ([], codes "{}=a;", refl, refl, refl, refl, refl, ([], [], codes "=a;", refl, refl, refl, refl, ([], codes "a;", refl, refl, refl, refl, refl, ([], codes ";", refl, refl, refl, refl, refl, ([], [], refl, refl, refl, refl, refl, refl))))),
  only refl ((grammar.a_declaration Let refl (grammar.a_semicolon {a = word (codes "let") (group false Brace done (sign equal (word (codes "a") done)))} false refl) (grammar.some_variables (grammar.last_declarator (grammar.with_value {a = group false Brace done done} {v = word (codes "a") done} false refl (grammar.an_object_binding grammar.no_binding_property) (valued (related (of_member (grammar.a_primary (grammar.a_reference value_a free_a)))))))))),
)

pub elision_alone : IsRead (codes "let[,]=a;") (samples.module_of (samples.declaration_of Let (samples.array_binding (hole no_trees) absent) (given samples.a)))
unfolding unicode_ident longer_stands word_value
elision_alone = (
  word (codes "let") (group false Square (sign comma done) (sign equal (word (codes "a") (sign semicolon done)))),
  ([], codes "[,]=a;", refl, refl, refl, refl, refl, ([], codes ",", codes "=a;", refl, refl, refl, ([], [], refl, refl, refl, refl, refl, refl), ([], codes "a;", refl, refl, refl, refl, refl, ([], codes ";", refl, refl, refl, refl, refl, ([], [], refl, refl, refl, refl, refl, refl))))),
  only refl ((grammar.a_declaration Let refl (grammar.a_semicolon {a = word (codes "let") (group false Square (sign comma done) (sign equal (word (codes "a") done)))} false refl) (grammar.some_variables (grammar.last_declarator (grammar.with_value {a = group false Square (sign comma done) done} {v = word (codes "a") done} false refl (grammar.an_array_binding (grammar.a_binding_elision grammar.no_binding_element)) (valued (related (of_member (grammar.a_primary (grammar.a_reference value_a free_a)))))))))),
)

pub defaults_and_rest : IsRead (codes "var[,a=b,...[c]]=d;") (samples.module_of (samples.declaration_of Var (samples.array_binding (hole (more (samples.binding_with_default (samples.name_of (codes "a")) samples.b) no_trees)) (given (samples.binding_rest (samples.array_binding (more (samples.name_of (codes "c")) no_trees) absent)))) (given samples.d)))
unfolding unicode_ident longer_stands word_value
defaults_and_rest = (
  word (codes "var") (group false Square (sign comma (word (codes "a") (sign equal (word (codes "b") (sign comma (sign ellipsis (group false Square (word (codes "c") done) done))))))) (sign equal (word (codes "d") (sign semicolon done)))),
  ([], codes "[,a=b,...[c]]=d;", refl, refl, refl, refl, refl, ([], codes ",a=b,...[c]", codes "=d;", refl, refl, refl, ([], codes "a=b,...[c]", refl, refl, refl, refl, refl, ([], codes "=b,...[c]", refl, refl, refl, refl, refl, ([], codes "b,...[c]", refl, refl, refl, refl, refl, ([], codes ",...[c]", refl, refl, refl, refl, refl, ([], codes "...[c]", refl, refl, refl, refl, refl, ([], codes "[c]", refl, refl, refl, refl, refl, ([], codes "c", [], refl, refl, refl, ([], [], refl, refl, refl, refl, refl, refl), refl))))))), ([], codes "d;", refl, refl, refl, refl, refl, ([], codes ";", refl, refl, refl, refl, refl, ([], [], refl, refl, refl, refl, refl, refl))))),
  only refl ((grammar.a_statement (grammar.a_variable_statement (grammar.a_semicolon {a = word (codes "var") (group false Square (sign comma (word (codes "a") (sign equal (word (codes "b") (sign comma (sign ellipsis (group false Square (word (codes "c") done) done))))))) (sign equal (word (codes "d") done)))} false refl) (grammar.some_variables (grammar.last_declarator (grammar.with_value {a = group false Square (sign comma (word (codes "a") (sign equal (word (codes "b") (sign comma (sign ellipsis (group false Square (word (codes "c") done) done))))))) done} {v = word (codes "d") done} false refl (grammar.an_array_binding (grammar.a_binding_elision (grammar.first_binding_element {a = word (codes "a") (sign equal (word (codes "b") done))} {b = sign ellipsis (group false Square (word (codes "c") done) done)} false refl (grammar.a_binding_with_default {a = word (codes "a") done} {v = word (codes "b") done} false refl (grammar.a_bound_name value_a free_a) (valued (related (of_member (grammar.a_primary (grammar.a_reference value_b free_b)))))) (grammar.a_binding_rest (grammar.an_array_binding (grammar.last_binding_element (grammar.a_binding_alone (grammar.a_bound_name value_c free_c)))))))) (valued (related (of_member (grammar.a_primary (grammar.a_reference value_d free_d))))))))))),
)

pub rest_of_object : IsRead (codes "let{a=b,...c}=d;") (samples.module_of (samples.declaration_of Let (samples.object_binding (more (samples.binding_property false (samples.key_of (codes "a")) (samples.binding_with_default (samples.name_of (codes "a")) samples.b)) no_trees) (given (samples.binding_rest (samples.name_of (codes "c"))))) (given samples.d)))
unfolding unicode_ident longer_stands word_value
rest_of_object = (
  word (codes "let") (group false Brace (word (codes "a") (sign equal (word (codes "b") (sign comma (sign ellipsis (word (codes "c") done)))))) (sign equal (word (codes "d") (sign semicolon done)))),
  ([], codes "{a=b,...c}=d;", refl, refl, refl, refl, refl, ([], codes "a=b,...c", codes "=d;", refl, refl, refl, ([], codes "=b,...c", refl, refl, refl, refl, refl, ([], codes "b,...c", refl, refl, refl, refl, refl, ([], codes ",...c", refl, refl, refl, refl, refl, ([], codes "...c", refl, refl, refl, refl, refl, ([], codes "c", refl, refl, refl, refl, refl, ([], [], refl, refl, refl, refl, refl, refl)))))), ([], codes "d;", refl, refl, refl, refl, refl, ([], codes ";", refl, refl, refl, refl, refl, ([], [], refl, refl, refl, refl, refl, refl))))),
  only refl ((grammar.a_declaration Let refl (grammar.a_semicolon {a = word (codes "let") (group false Brace (word (codes "a") (sign equal (word (codes "b") (sign comma (sign ellipsis (word (codes "c") done)))))) (sign equal (word (codes "d") done)))} false refl) (grammar.some_variables (grammar.last_declarator (grammar.with_value {a = group false Brace (word (codes "a") (sign equal (word (codes "b") (sign comma (sign ellipsis (word (codes "c") done)))))) done} {v = word (codes "d") done} false refl (grammar.an_object_binding (grammar.first_binding_property {a = word (codes "a") (sign equal (word (codes "b") done))} {b = sign ellipsis (word (codes "c") done)} false refl (grammar.a_bound_shorthand_with_default value_a free_a (valued (related (of_member (grammar.a_primary (grammar.a_reference value_b free_b)))))) (grammar.a_binding_rest_property value_c free_c))) (valued (related (of_member (grammar.a_primary (grammar.a_reference value_d free_d)))))))))),
)

pub keys_of_bindings : IsRead (codes "let{if:a,[b]:{c}=d}=e;") (samples.module_of (samples.declaration_of Let (samples.object_binding (more (samples.binding_property false (samples.key_of (codes "if")) (samples.name_of (codes "a"))) (more (samples.binding_property true samples.b (samples.binding_with_default (samples.object_binding (more (samples.binding_property false (samples.key_of (codes "c")) (samples.name_of (codes "c"))) no_trees) absent) samples.d)) no_trees)) absent) (given samples.e)))
unfolding unicode_ident longer_stands word_value
keys_of_bindings = (
  word (codes "let") (group false Brace (word (codes "if") (sign colon (word (codes "a") (sign comma (group false Square (word (codes "b") done) (sign colon (group false Brace (word (codes "c") done) (sign equal (word (codes "d") done))))))))) (sign equal (word (codes "e") (sign semicolon done)))),
  ([], codes "{if:a,[b]:{c}=d}=e;", refl, refl, refl, refl, refl, ([], codes "if:a,[b]:{c}=d", codes "=e;", refl, refl, refl, ([], codes ":a,[b]:{c}=d", refl, refl, refl, refl, refl, ([], codes "a,[b]:{c}=d", refl, refl, refl, refl, refl, ([], codes ",[b]:{c}=d", refl, refl, refl, refl, refl, ([], codes "[b]:{c}=d", refl, refl, refl, refl, refl, ([], codes "b", codes ":{c}=d", refl, refl, refl, ([], [], refl, refl, refl, refl, refl, refl), ([], codes "{c}=d", refl, refl, refl, refl, refl, ([], codes "c", codes "=d", refl, refl, refl, ([], [], refl, refl, refl, refl, refl, refl), ([], codes "d", refl, refl, refl, refl, refl, ([], [], refl, refl, refl, refl, refl, refl))))))))), ([], codes "e;", refl, refl, refl, refl, refl, ([], codes ";", refl, refl, refl, refl, refl, ([], [], refl, refl, refl, refl, refl, refl))))),
  only refl ((grammar.a_declaration Let refl (grammar.a_semicolon {a = word (codes "let") (group false Brace (word (codes "if") (sign colon (word (codes "a") (sign comma (group false Square (word (codes "b") done) (sign colon (group false Brace (word (codes "c") done) (sign equal (word (codes "d") done))))))))) (sign equal (word (codes "e") done)))} false refl) (grammar.some_variables (grammar.last_declarator (grammar.with_value {a = group false Brace (word (codes "if") (sign colon (word (codes "a") (sign comma (group false Square (word (codes "b") done) (sign colon (group false Brace (word (codes "c") done) (sign equal (word (codes "d") done))))))))) done} {v = word (codes "e") done} false refl (grammar.an_object_binding (grammar.first_binding_property {a = word (codes "if") (sign colon (word (codes "a") done))} {b = group false Square (word (codes "b") done) (sign colon (group false Brace (word (codes "c") done) (sign equal (word (codes "d") done))))} false refl (grammar.a_bound_property {a = word (codes "if") done} {b = word (codes "a") done} false refl (grammar.a_name_key value_if) (grammar.a_binding_alone (grammar.a_bound_name value_a free_a))) (grammar.last_binding_property (grammar.a_bound_property {a = group false Square (word (codes "b") done) done} {b = group false Brace (word (codes "c") done) (sign equal (word (codes "d") done))} false refl (grammar.a_computed_key (valued (related (of_member (grammar.a_primary (grammar.a_reference value_b free_b)))))) (grammar.a_binding_with_default {a = group false Brace (word (codes "c") done) done} {v = word (codes "d") done} false refl (grammar.an_object_binding (grammar.last_binding_property (grammar.a_bound_shorthand value_c free_c))) (valued (related (of_member (grammar.a_primary (grammar.a_reference value_d free_d)))))))))) (valued (related (of_member (grammar.a_primary (grammar.a_reference value_e free_e)))))))))),
)

pub in_in_default : IsRead (codes "for(let[a=b in c]=d;;);") (samples.module_of (samples.loop_from (samples.declaration_of Let (samples.array_binding (more (samples.binding_with_default (samples.name_of (codes "a")) (samples.in_of samples.b samples.c)) no_trees) absent) (given samples.d))))
unfolding unicode_ident longer_stands word_value
in_in_default = (
  word (codes "for") (group false Round (word (codes "let") (group false Square (word (codes "a") (sign equal (word (codes "b") (word (codes "in") (word (codes "c") done))))) (sign equal (word (codes "d") (sign semicolon (sign semicolon done)))))) (sign semicolon done)),
  ([], codes "(let[a=b in c]=d;;);", refl, refl, refl, refl, refl, ([], codes "let[a=b in c]=d;;", codes ";", refl, refl, refl, ([], codes "[a=b in c]=d;;", refl, refl, refl, refl, refl, ([], codes "a=b in c", codes "=d;;", refl, refl, refl, ([], codes "=b in c", refl, refl, refl, refl, refl, ([], codes "b in c", refl, refl, refl, refl, refl, ([], codes " in c", refl, refl, refl, refl, refl, (codes " ", codes " c", refl, refl, refl, refl, refl, (codes " ", [], refl, refl, refl, refl, refl, refl))))), ([], codes "d;;", refl, refl, refl, refl, refl, ([], codes ";;", refl, refl, refl, refl, refl, ([], codes ";", refl, refl, refl, refl, refl, ([], [], refl, refl, refl, refl, refl, refl)))))), ([], [], refl, refl, refl, refl, refl, refl))),
  only refl ((grammar.a_statement (grammar.a_for {a = word (codes "let") (group false Square (word (codes "a") (sign equal (word (codes "b") (word (codes "in") (word (codes "c") done))))) (sign equal (word (codes "d") done)))} {b = done} {d = done} false false refl (grammar.first_variables Let (grammar.some_variables (grammar.last_declarator (grammar.with_value {a = group false Square (word (codes "a") (sign equal (word (codes "b") (word (codes "in") (word (codes "c") done))))) done} {v = word (codes "d") done} false refl (grammar.an_array_binding (grammar.last_binding_element (grammar.a_binding_with_default {a = word (codes "a") done} {v = word (codes "b") (word (codes "in") (word (codes "c") done))} false refl (grammar.a_bound_name value_a free_a) (valued (grammar.an_operation {a = word (codes "b") done} {b = word (codes "c") done} In false refl refl refl (related (of_member (grammar.a_primary (grammar.a_reference value_b free_b)))) (shifted (of_member (grammar.a_primary (grammar.a_reference value_c free_c))))))))) (valued (related (of_member (grammar.a_primary (grammar.a_reference value_d free_d))))))))) grammar.nothing_there grammar.nothing_there grammar.an_empty_statement))),
)

pub loop_over_pattern : IsRead (codes "for(const{a}of b);") (samples.module_of (samples.over_values (samples.declaration_of Const (samples.object_binding (more (samples.binding_property false (samples.key_of (codes "a")) (samples.name_of (codes "a"))) no_trees) absent) absent) samples.b))
unfolding unicode_ident longer_stands word_value
loop_over_pattern = (
  word (codes "for") (group false Round (word (codes "const") (group false Brace (word (codes "a") done) (word (codes "of") (word (codes "b") done)))) (sign semicolon done)),
  ([], codes "(const{a}of b);", refl, refl, refl, refl, refl, ([], codes "const{a}of b", codes ";", refl, refl, refl, ([], codes "{a}of b", refl, refl, refl, refl, refl, ([], codes "a", codes "of b", refl, refl, refl, ([], [], refl, refl, refl, refl, refl, refl), ([], codes " b", refl, refl, refl, refl, refl, (codes " ", [], refl, refl, refl, refl, refl, refl)))), ([], [], refl, refl, refl, refl, refl, refl))),
  only refl ((grammar.a_statement (grammar.a_for_of {a = word (codes "const") (group false Brace (word (codes "a") done) done)} {b = word (codes "b") done} false refl (grammar.a_declared_name Const (grammar.an_object_binding (grammar.last_binding_property (grammar.a_bound_shorthand value_a free_a)))) (valued (related (of_member (grammar.a_primary (grammar.a_reference value_b free_b))))) grammar.an_empty_statement))),
)

pub caught_pattern : IsRead (codes "try{}catch([a]){}") (samples.module_of (samples.caught (samples.array_binding (more (samples.name_of (codes "a")) no_trees) absent)))
unfolding unicode_ident longer_stands word_value
caught_pattern = (
  word (codes "try") (group false Brace done (word (codes "catch") (group false Round (group false Square (word (codes "a") done) done) (group false Brace done done)))),
  ([], codes "{}catch([a]){}", refl, refl, refl, refl, refl, ([], [], codes "catch([a]){}", refl, refl, refl, refl, ([], codes "([a]){}", refl, refl, refl, refl, refl, ([], codes "[a]", codes "{}", refl, refl, refl, ([], codes "a", [], refl, refl, refl, ([], [], refl, refl, refl, refl, refl, refl), refl), ([], [], [], refl, refl, refl, refl, refl))))),
  only refl ((grammar.a_statement (grammar.a_try grammar.no_statement (grammar.a_handler (grammar.a_catch_by_name (grammar.an_array_binding (grammar.last_binding_element (grammar.a_binding_alone (grammar.a_bound_name value_a free_a)))) grammar.no_statement))))),
)

pub pattern_parameters : IsRead (codes "({a},[b]=c,...[d])=>e;") (samples.module_of (samples.statement_of (samples.arrow_of (samples.parameters_of (more (samples.parameter (samples.object_binding (more (samples.binding_property false (samples.key_of (codes "a")) (samples.name_of (codes "a"))) no_trees) absent) absent) (more (samples.parameter (samples.array_binding (more (samples.name_of (codes "b")) no_trees) absent) (given samples.c)) no_trees)) (given (samples.parameter_rest (samples.array_binding (more (samples.name_of (codes "d")) no_trees) absent)))) samples.e)))
unfolding unicode_ident longer_stands word_value
pattern_parameters = (
  group false Round (group false Brace (word (codes "a") done) (sign comma (group false Square (word (codes "b") done) (sign equal (word (codes "c") (sign comma (sign ellipsis (group false Square (word (codes "d") done) done)))))))) (sign arrow (word (codes "e") (sign semicolon done))),
  ([], codes "{a},[b]=c,...[d]", codes "=>e;", refl, refl, refl, ([], codes "a", codes ",[b]=c,...[d]", refl, refl, refl, ([], [], refl, refl, refl, refl, refl, refl), ([], codes "[b]=c,...[d]", refl, refl, refl, refl, refl, ([], codes "b", codes "=c,...[d]", refl, refl, refl, ([], [], refl, refl, refl, refl, refl, refl), ([], codes "c,...[d]", refl, refl, refl, refl, refl, ([], codes ",...[d]", refl, refl, refl, refl, refl, ([], codes "...[d]", refl, refl, refl, refl, refl, ([], codes "[d]", refl, refl, refl, refl, refl, ([], codes "d", [], refl, refl, refl, ([], [], refl, refl, refl, refl, refl, refl), refl)))))))), ([], codes "e;", refl, refl, refl, refl, refl, ([], codes ";", refl, refl, refl, refl, refl, ([], [], refl, refl, refl, refl, refl, refl)))),
  only refl ((item {a = group false Round (group false Brace (word (codes "a") done) (sign comma (group false Square (word (codes "b") done) (sign equal (word (codes "c") (sign comma (sign ellipsis (group false Square (word (codes "d") done) done)))))))) (sign arrow (word (codes "e") done))} refl (grammar.an_assignment (read_arrow {a = group false Round (group false Brace (word (codes "a") done) (sign comma (group false Square (word (codes "b") done) (sign equal (word (codes "c") (sign comma (sign ellipsis (group false Square (word (codes "d") done) done)))))))) done} {b = word (codes "e") done} refl (grammar.grouped_parameters (grammar.first_parameter {a = group false Brace (word (codes "a") done) done} {b = group false Square (word (codes "b") done) (sign equal (word (codes "c") (sign comma (sign ellipsis (group false Square (word (codes "d") done) done)))))} false refl (grammar.a_parameter (grammar.an_object_binding (grammar.last_binding_property (grammar.a_bound_shorthand value_a free_a)))) (grammar.first_parameter {a = group false Square (word (codes "b") done) (sign equal (word (codes "c") done))} {b = sign ellipsis (group false Square (word (codes "d") done) done)} false refl (grammar.with_initializer {a = group false Square (word (codes "b") done) done} {v = word (codes "c") done} false refl (grammar.an_array_binding (grammar.last_binding_element (grammar.a_binding_alone (grammar.a_bound_name value_b free_b)))) (valued (related (of_member (grammar.a_primary (grammar.a_reference value_c free_c)))))) (grammar.a_rest (grammar.an_array_binding (grammar.last_binding_element (grammar.a_binding_alone (grammar.a_bound_name value_d free_d)))))))) refl (valued (related (of_member (grammar.a_primary (grammar.a_reference value_e free_e))))))))),
)

pub array_of_targets : IsRead (codes "[a]=b;") (samples.module_of (samples.statement_of (samples.assignment_of (samples.array_target (more samples.a no_trees) absent) samples.b)))
unfolding unicode_ident longer_stands word_value
array_of_targets = (
  group false Square (word (codes "a") done) (sign equal (word (codes "b") (sign semicolon done))),
  ([], codes "a", codes "=b;", refl, refl, refl, ([], [], refl, refl, refl, refl, refl, refl), ([], codes "b;", refl, refl, refl, refl, refl, ([], codes ";", refl, refl, refl, refl, refl, ([], [], refl, refl, refl, refl, refl, refl)))),
  only refl ((item {a = group false Square (word (codes "a") done) (sign equal (word (codes "b") done))} refl (grammar.an_assignment (grammar.an_assignment_to_pattern {a = group false Square (word (codes "a") done) done} {b = word (codes "b") done} false refl (grammar.an_array_target (grammar.last_target_element (grammar.a_target_alone (grammar.a_simple_target (of_member (grammar.a_primary (grammar.a_reference value_a free_a))) refl)))) (valued (related (of_member (grammar.a_primary (grammar.a_reference value_b free_b))))))))),
)

pub object_of_targets : IsRead (codes "({a,b:[c]}=d);") (samples.module_of (samples.statement_of (samples.in_parentheses (samples.assignment_of (samples.object_target (more (samples.target_property false (samples.key_of (codes "a")) samples.a) (more (samples.target_property false (samples.key_of (codes "b")) (samples.array_target (more samples.c no_trees) absent)) no_trees)) absent) samples.d))))
unfolding unicode_ident longer_stands word_value
object_of_targets = (
  group false Round (group false Brace (word (codes "a") (sign comma (word (codes "b") (sign colon (group false Square (word (codes "c") done) done))))) (sign equal (word (codes "d") done))) (sign semicolon done),
  ([], codes "{a,b:[c]}=d", codes ";", refl, refl, refl, ([], codes "a,b:[c]", codes "=d", refl, refl, refl, ([], codes ",b:[c]", refl, refl, refl, refl, refl, ([], codes "b:[c]", refl, refl, refl, refl, refl, ([], codes ":[c]", refl, refl, refl, refl, refl, ([], codes "[c]", refl, refl, refl, refl, refl, ([], codes "c", [], refl, refl, refl, ([], [], refl, refl, refl, refl, refl, refl), refl))))), ([], codes "d", refl, refl, refl, refl, refl, ([], [], refl, refl, refl, refl, refl, refl))), ([], [], refl, refl, refl, refl, refl, refl)),
  only refl ((item {a = group false Round (group false Brace (word (codes "a") (sign comma (word (codes "b") (sign colon (group false Square (word (codes "c") done) done))))) (sign equal (word (codes "d") done))) done} refl (grammar.an_assignment (valued (related (of_member (grammar.a_primary (grammar.in_parentheses (grammar.an_assignment (grammar.an_assignment_to_pattern {a = group false Brace (word (codes "a") (sign comma (word (codes "b") (sign colon (group false Square (word (codes "c") done) done))))) done} {b = word (codes "d") done} false refl (grammar.an_object_target (grammar.first_target_property {a = word (codes "a") done} {b = word (codes "b") (sign colon (group false Square (word (codes "c") done) done))} false refl (grammar.a_target_shorthand value_a free_a) (grammar.last_target_property (grammar.a_target_property {a = word (codes "b") done} {b = group false Square (word (codes "c") done) done} false refl (grammar.a_name_key value_b) (grammar.a_target_alone (grammar.a_target_pattern (grammar.an_array_target (grammar.last_target_element (grammar.a_target_alone (grammar.a_simple_target (of_member (grammar.a_primary (grammar.a_reference value_c free_c))) refl)))))))))) (valued (related (of_member (grammar.a_primary (grammar.a_reference value_d free_d))))))))))))))),
)

pub no_element_assigned : IsRead (codes "[]=a;") (samples.module_of (samples.statement_of (samples.assignment_of (samples.array_target no_trees absent) samples.a)))
unfolding unicode_ident longer_stands word_value
no_element_assigned = (
  group false Square done (sign equal (word (codes "a") (sign semicolon done))),
  ([], [], codes "=a;", refl, refl, refl, refl, ([], codes "a;", refl, refl, refl, refl, refl, ([], codes ";", refl, refl, refl, refl, refl, ([], [], refl, refl, refl, refl, refl, refl)))),
  only refl ((item {a = group false Square done (sign equal (word (codes "a") done))} refl (grammar.an_assignment (grammar.an_assignment_to_pattern {a = group false Square done done} {b = word (codes "a") done} false refl (grammar.an_array_target grammar.no_target_element) (valued (related (of_member (grammar.a_primary (grammar.a_reference value_a free_a))))))))),
)

pub no_property_assigned : IsRead (codes "({}=a);") (samples.module_of (samples.statement_of (samples.in_parentheses (samples.assignment_of (samples.object_target no_trees absent) samples.a))))
unfolding unicode_ident longer_stands word_value
no_property_assigned = (
  group false Round (group false Brace done (sign equal (word (codes "a") done))) (sign semicolon done),
  ([], codes "{}=a", codes ";", refl, refl, refl, ([], [], codes "=a", refl, refl, refl, refl, ([], codes "a", refl, refl, refl, refl, refl, ([], [], refl, refl, refl, refl, refl, refl))), ([], [], refl, refl, refl, refl, refl, refl)),
  only refl ((item {a = group false Round (group false Brace done (sign equal (word (codes "a") done))) done} refl (grammar.an_assignment (valued (related (of_member (grammar.a_primary (grammar.in_parentheses (grammar.an_assignment (grammar.an_assignment_to_pattern {a = group false Brace done done} {b = word (codes "a") done} false refl (grammar.an_object_target grammar.no_target_property) (valued (related (of_member (grammar.a_primary (grammar.a_reference value_a free_a))))))))))))))),
)

pub targets_left_out : IsRead (codes "[,a=b,...[c]]=d;") (samples.module_of (samples.statement_of (samples.assignment_of (samples.array_target (hole (more (samples.target_with_default samples.a samples.b) no_trees)) (given (samples.target_rest (samples.array_target (more samples.c no_trees) absent)))) samples.d)))
unfolding unicode_ident longer_stands word_value
targets_left_out = (
  group false Square (sign comma (word (codes "a") (sign equal (word (codes "b") (sign comma (sign ellipsis (group false Square (word (codes "c") done) done))))))) (sign equal (word (codes "d") (sign semicolon done))),
  ([], codes ",a=b,...[c]", codes "=d;", refl, refl, refl, ([], codes "a=b,...[c]", refl, refl, refl, refl, refl, ([], codes "=b,...[c]", refl, refl, refl, refl, refl, ([], codes "b,...[c]", refl, refl, refl, refl, refl, ([], codes ",...[c]", refl, refl, refl, refl, refl, ([], codes "...[c]", refl, refl, refl, refl, refl, ([], codes "[c]", refl, refl, refl, refl, refl, ([], codes "c", [], refl, refl, refl, ([], [], refl, refl, refl, refl, refl, refl), refl))))))), ([], codes "d;", refl, refl, refl, refl, refl, ([], codes ";", refl, refl, refl, refl, refl, ([], [], refl, refl, refl, refl, refl, refl)))),
  only refl ((item {a = group false Square (sign comma (word (codes "a") (sign equal (word (codes "b") (sign comma (sign ellipsis (group false Square (word (codes "c") done) done))))))) (sign equal (word (codes "d") done))} refl (grammar.an_assignment (grammar.an_assignment_to_pattern {a = group false Square (sign comma (word (codes "a") (sign equal (word (codes "b") (sign comma (sign ellipsis (group false Square (word (codes "c") done) done))))))) done} {b = word (codes "d") done} false refl (grammar.an_array_target (grammar.a_target_elision (grammar.first_target_element {a = word (codes "a") (sign equal (word (codes "b") done))} {b = sign ellipsis (group false Square (word (codes "c") done) done)} false refl (grammar.a_target_with_default {a = word (codes "a") done} {b = word (codes "b") done} false refl (of_member (grammar.a_primary (grammar.a_reference value_a free_a))) refl (valued (related (of_member (grammar.a_primary (grammar.a_reference value_b free_b))))) refl) (grammar.a_target_rest (grammar.a_target_pattern (grammar.an_array_target (grammar.last_target_element (grammar.a_target_alone (grammar.a_simple_target (of_member (grammar.a_primary (grammar.a_reference value_c free_c))) refl))))))))) (valued (related (of_member (grammar.a_primary (grammar.a_reference value_d free_d))))))))),
)

pub rest_to_member : IsRead (codes "({a=b,...c.d}=e);") (samples.module_of (samples.statement_of (samples.in_parentheses (samples.assignment_of (samples.object_target (more (samples.target_property false (samples.key_of (codes "a")) (samples.target_with_default samples.a samples.b)) no_trees) (given (samples.target_rest (samples.member_of samples.c (codes "d"))))) samples.e))))
unfolding unicode_ident longer_stands word_value
rest_to_member = (
  group false Round (group false Brace (word (codes "a") (sign equal (word (codes "b") (sign comma (sign ellipsis (word (codes "c") (sign dot (word (codes "d") done)))))))) (sign equal (word (codes "e") done))) (sign semicolon done),
  ([], codes "{a=b,...c.d}=e", codes ";", refl, refl, refl, ([], codes "a=b,...c.d", codes "=e", refl, refl, refl, ([], codes "=b,...c.d", refl, refl, refl, refl, refl, ([], codes "b,...c.d", refl, refl, refl, refl, refl, ([], codes ",...c.d", refl, refl, refl, refl, refl, ([], codes "...c.d", refl, refl, refl, refl, refl, ([], codes "c.d", refl, refl, refl, refl, refl, ([], codes ".d", refl, refl, refl, refl, refl, ([], codes "d", refl, refl, refl, refl, refl, ([], [], refl, refl, refl, refl, refl, refl)))))))), ([], codes "e", refl, refl, refl, refl, refl, ([], [], refl, refl, refl, refl, refl, refl))), ([], [], refl, refl, refl, refl, refl, refl)),
  only refl ((item {a = group false Round (group false Brace (word (codes "a") (sign equal (word (codes "b") (sign comma (sign ellipsis (word (codes "c") (sign dot (word (codes "d") done)))))))) (sign equal (word (codes "e") done))) done} refl (grammar.an_assignment (valued (related (of_member (grammar.a_primary (grammar.in_parentheses (grammar.an_assignment (grammar.an_assignment_to_pattern {a = group false Brace (word (codes "a") (sign equal (word (codes "b") (sign comma (sign ellipsis (word (codes "c") (sign dot (word (codes "d") done)))))))) done} {b = word (codes "e") done} false refl (grammar.an_object_target (grammar.first_target_property {a = word (codes "a") (sign equal (word (codes "b") done))} {b = sign ellipsis (word (codes "c") (sign dot (word (codes "d") done)))} false refl (grammar.a_target_shorthand_with_default value_a free_a (valued (related (of_member (grammar.a_primary (grammar.a_reference value_b free_b)))))) (grammar.a_target_rest_property (of_member (grammar.a_named_member {a = word (codes "c") done} (codes "d") false false refl value_d (grammar.a_primary (grammar.a_reference value_c free_c)))) refl))) (valued (related (of_member (grammar.a_primary (grammar.a_reference value_e free_e))))))))))))))),
)

pub keys_of_targets : IsRead (codes "({\"a\":b,[c]:d=e}=f);") (samples.module_of (samples.statement_of (samples.in_parentheses (samples.assignment_of (samples.object_target (more (samples.target_property false (samples.string_of (codes "a")) samples.b) (more (samples.target_property true samples.c (samples.target_with_default samples.d samples.e)) no_trees)) absent) samples.f))))
unfolding unicode_ident longer_stands word_value string_value
keys_of_targets = (
  group false Round (group false Brace (piece false (Quoted Double (codes "a")) (sign colon (word (codes "b") (sign comma (group false Square (word (codes "c") done) (sign colon (word (codes "d") (sign equal (word (codes "e") done))))))))) (sign equal (word (codes "f") done))) (sign semicolon done),
  ([], codes "{\"a\":b,[c]:d=e}=f", codes ";", refl, refl, refl, ([], codes "\"a\":b,[c]:d=e", codes "=f", refl, refl, refl, ([], codes ":b,[c]:d=e", refl, refl, refl, refl, refl, ([], codes "b,[c]:d=e", refl, refl, refl, refl, refl, ([], codes ",[c]:d=e", refl, refl, refl, refl, refl, ([], codes "[c]:d=e", refl, refl, refl, refl, refl, ([], codes "c", codes ":d=e", refl, refl, refl, ([], [], refl, refl, refl, refl, refl, refl), ([], codes "d=e", refl, refl, refl, refl, refl, ([], codes "=e", refl, refl, refl, refl, refl, ([], codes "e", refl, refl, refl, refl, refl, ([], [], refl, refl, refl, refl, refl, refl))))))))), ([], codes "f", refl, refl, refl, refl, refl, ([], [], refl, refl, refl, refl, refl, refl))), ([], [], refl, refl, refl, refl, refl, refl)),
  only refl ((item {a = group false Round (group false Brace (piece false (Quoted Double (codes "a")) (sign colon (word (codes "b") (sign comma (group false Square (word (codes "c") done) (sign colon (word (codes "d") (sign equal (word (codes "e") done))))))))) (sign equal (word (codes "f") done))) done} refl (grammar.an_assignment (valued (related (of_member (grammar.a_primary (grammar.in_parentheses (grammar.an_assignment (grammar.an_assignment_to_pattern {a = group false Brace (piece false (Quoted Double (codes "a")) (sign colon (word (codes "b") (sign comma (group false Square (word (codes "c") done) (sign colon (word (codes "d") (sign equal (word (codes "e") done))))))))) done} {b = word (codes "f") done} false refl (grammar.an_object_target (grammar.first_target_property {a = piece false (Quoted Double (codes "a")) (sign colon (word (codes "b") done))} {b = group false Square (word (codes "c") done) (sign colon (word (codes "d") (sign equal (word (codes "e") done))))} false refl (grammar.a_target_property {a = piece false (Quoted Double (codes "a")) done} {b = word (codes "b") done} false refl (grammar.a_string_key refl refl) (grammar.a_target_alone (grammar.a_simple_target (of_member (grammar.a_primary (grammar.a_reference value_b free_b))) refl))) (grammar.last_target_property (grammar.a_target_property {a = group false Square (word (codes "c") done) done} {b = word (codes "d") (sign equal (word (codes "e") done))} false refl (grammar.a_computed_key (valued (related (of_member (grammar.a_primary (grammar.a_reference value_c free_c)))))) (grammar.a_target_with_default {a = word (codes "d") done} {b = word (codes "e") done} false refl (of_member (grammar.a_primary (grammar.a_reference value_d free_d))) refl (valued (related (of_member (grammar.a_primary (grammar.a_reference value_e free_e))))) refl))))) (valued (related (of_member (grammar.a_primary (grammar.a_reference value_f free_f))))))))))))))),
)

pub defaults_of_patterns : IsRead (codes "[[a]=b,{c=d}=e]=f;") (samples.module_of (samples.statement_of (samples.assignment_of (samples.array_target (more (samples.target_with_default (samples.array_target (more samples.a no_trees) absent) samples.b) (more (samples.target_with_default (samples.object_target (more (samples.target_property false (samples.key_of (codes "c")) (samples.target_with_default samples.c samples.d)) no_trees) absent) samples.e) no_trees)) absent) samples.f)))
unfolding unicode_ident longer_stands word_value
defaults_of_patterns = (
  group false Square (group false Square (word (codes "a") done) (sign equal (word (codes "b") (sign comma (group false Brace (word (codes "c") (sign equal (word (codes "d") done))) (sign equal (word (codes "e") done))))))) (sign equal (word (codes "f") (sign semicolon done))),
  ([], codes "[a]=b,{c=d}=e", codes "=f;", refl, refl, refl, ([], codes "a", codes "=b,{c=d}=e", refl, refl, refl, ([], [], refl, refl, refl, refl, refl, refl), ([], codes "b,{c=d}=e", refl, refl, refl, refl, refl, ([], codes ",{c=d}=e", refl, refl, refl, refl, refl, ([], codes "{c=d}=e", refl, refl, refl, refl, refl, ([], codes "c=d", codes "=e", refl, refl, refl, ([], codes "=d", refl, refl, refl, refl, refl, ([], codes "d", refl, refl, refl, refl, refl, ([], [], refl, refl, refl, refl, refl, refl))), ([], codes "e", refl, refl, refl, refl, refl, ([], [], refl, refl, refl, refl, refl, refl))))))), ([], codes "f;", refl, refl, refl, refl, refl, ([], codes ";", refl, refl, refl, refl, refl, ([], [], refl, refl, refl, refl, refl, refl)))),
  only refl ((item {a = group false Square (group false Square (word (codes "a") done) (sign equal (word (codes "b") (sign comma (group false Brace (word (codes "c") (sign equal (word (codes "d") done))) (sign equal (word (codes "e") done))))))) (sign equal (word (codes "f") done))} refl (grammar.an_assignment (grammar.an_assignment_to_pattern {a = group false Square (group false Square (word (codes "a") done) (sign equal (word (codes "b") (sign comma (group false Brace (word (codes "c") (sign equal (word (codes "d") done))) (sign equal (word (codes "e") done))))))) done} {b = word (codes "f") done} false refl (grammar.an_array_target (grammar.first_target_element {a = group false Square (word (codes "a") done) (sign equal (word (codes "b") done))} {b = group false Brace (word (codes "c") (sign equal (word (codes "d") done))) (sign equal (word (codes "e") done))} false refl (grammar.a_pattern_with_default {a = group false Square (word (codes "a") done) done} {b = word (codes "b") done} false refl (grammar.an_array_target (grammar.last_target_element (grammar.a_target_alone (grammar.a_simple_target (of_member (grammar.a_primary (grammar.a_reference value_a free_a))) refl)))) (valued (related (of_member (grammar.a_primary (grammar.a_reference value_b free_b)))))) (grammar.last_target_element (grammar.a_pattern_with_default {a = group false Brace (word (codes "c") (sign equal (word (codes "d") done))) done} {b = word (codes "e") done} false refl (grammar.an_object_target (grammar.last_target_property (grammar.a_target_shorthand_with_default value_c free_c (valued (related (of_member (grammar.a_primary (grammar.a_reference value_d free_d)))))))) (valued (related (of_member (grammar.a_primary (grammar.a_reference value_e free_e))))))))) (valued (related (of_member (grammar.a_primary (grammar.a_reference value_f free_f))))))))),
)

pub target_in_parentheses : IsRead (codes "[(a)]=b;") (samples.module_of (samples.statement_of (samples.assignment_of (samples.array_target (more samples.a no_trees) absent) samples.b)))
unfolding unicode_ident longer_stands word_value
target_in_parentheses = (
  group false Square (group false Round (word (codes "a") done) done) (sign equal (word (codes "b") (sign semicolon done))),
  ([], codes "(a)", codes "=b;", refl, refl, refl, ([], codes "a", [], refl, refl, refl, ([], [], refl, refl, refl, refl, refl, refl), refl), ([], codes "b;", refl, refl, refl, refl, refl, ([], codes ";", refl, refl, refl, refl, refl, ([], [], refl, refl, refl, refl, refl, refl)))),
  only refl ((item {a = group false Square (group false Round (word (codes "a") done) done) (sign equal (word (codes "b") done))} refl (grammar.an_assignment (grammar.an_assignment_to_pattern {a = group false Square (group false Round (word (codes "a") done) done) done} {b = word (codes "b") done} false refl (grammar.an_array_target (grammar.last_target_element (grammar.a_target_alone (grammar.a_simple_target (of_member (grammar.a_primary (grammar.in_parentheses (grammar.an_assignment (valued (related (of_member (grammar.a_primary (grammar.a_reference value_a free_a))))))))) refl)))) (valued (related (of_member (grammar.a_primary (grammar.a_reference value_b free_b))))))))),
)

pub member_of_object : IsRead (codes "[{a}.b]=c;") (samples.module_of (samples.statement_of (samples.assignment_of (samples.array_target (more (samples.member_of (samples.object_of_name (codes "a")) (codes "b")) no_trees) absent) samples.c)))
unfolding unicode_ident longer_stands word_value
member_of_object = (
  group false Square (group false Brace (word (codes "a") done) (sign dot (word (codes "b") done))) (sign equal (word (codes "c") (sign semicolon done))),
  ([], codes "{a}.b", codes "=c;", refl, refl, refl, ([], codes "a", codes ".b", refl, refl, refl, ([], [], refl, refl, refl, refl, refl, refl), ([], codes "b", refl, refl, refl, refl, refl, ([], [], refl, refl, refl, refl, refl, refl))), ([], codes "c;", refl, refl, refl, refl, refl, ([], codes ";", refl, refl, refl, refl, refl, ([], [], refl, refl, refl, refl, refl, refl)))),
  only refl ((item {a = group false Square (group false Brace (word (codes "a") done) (sign dot (word (codes "b") done))) (sign equal (word (codes "c") done))} refl (grammar.an_assignment (grammar.an_assignment_to_pattern {a = group false Square (group false Brace (word (codes "a") done) (sign dot (word (codes "b") done))) done} {b = word (codes "c") done} false refl (grammar.an_array_target (grammar.last_target_element (grammar.a_target_alone (grammar.a_simple_target (of_member (grammar.a_named_member {a = group false Brace (word (codes "a") done) done} (codes "b") false false refl value_b (grammar.a_primary (grammar.an_object (grammar.last_property (grammar.a_shorthand value_a free_a)))))) refl)))) (valued (related (of_member (grammar.a_primary (grammar.a_reference value_c free_c))))))))),
)

pub loop_into_array : IsRead (codes "for([a]of b);") (samples.module_of (samples.over_values (samples.array_target (more samples.a no_trees) absent) samples.b))
unfolding unicode_ident longer_stands word_value
loop_into_array = (
  word (codes "for") (group false Round (group false Square (word (codes "a") done) (word (codes "of") (word (codes "b") done))) (sign semicolon done)),
  ([], codes "([a]of b);", refl, refl, refl, refl, refl, ([], codes "[a]of b", codes ";", refl, refl, refl, ([], codes "a", codes "of b", refl, refl, refl, ([], [], refl, refl, refl, refl, refl, refl), ([], codes " b", refl, refl, refl, refl, refl, (codes " ", [], refl, refl, refl, refl, refl, refl))), ([], [], refl, refl, refl, refl, refl, refl))),
  only refl ((grammar.a_statement (grammar.a_for_of {a = group false Square (word (codes "a") done) done} {b = word (codes "b") done} false refl (grammar.a_left_pattern (grammar.an_array_target (grammar.last_target_element (grammar.a_target_alone (grammar.a_simple_target (of_member (grammar.a_primary (grammar.a_reference value_a free_a))) refl))))) (valued (related (of_member (grammar.a_primary (grammar.a_reference value_b free_b))))) grammar.an_empty_statement))),
)

pub loop_into_object : IsRead (codes "for({a}in b);") (samples.module_of (samples.over_keys (samples.object_target (more (samples.target_property false (samples.key_of (codes "a")) samples.a) no_trees) absent) samples.b))
unfolding unicode_ident longer_stands word_value
loop_into_object = (
  word (codes "for") (group false Round (group false Brace (word (codes "a") done) (word (codes "in") (word (codes "b") done))) (sign semicolon done)),
  ([], codes "({a}in b);", refl, refl, refl, refl, refl, ([], codes "{a}in b", codes ";", refl, refl, refl, ([], codes "a", codes "in b", refl, refl, refl, ([], [], refl, refl, refl, refl, refl, refl), ([], codes " b", refl, refl, refl, refl, refl, (codes " ", [], refl, refl, refl, refl, refl, refl))), ([], [], refl, refl, refl, refl, refl, refl))),
  only refl ((grammar.a_statement (grammar.a_for_in {a = group false Brace (word (codes "a") done) done} {b = word (codes "b") done} false refl (grammar.a_left_pattern (grammar.an_object_target (grammar.last_target_property (grammar.a_target_shorthand value_a free_a)))) (grammar.an_assignment (valued (related (of_member (grammar.a_primary (grammar.a_reference value_b free_b)))))) grammar.an_empty_statement))),
)

pub sides_of_choice : IsRead (codes "a?[b]=c:{d}=e;") (samples.module_of (samples.statement_of (samples.conditional_of samples.a (samples.assignment_of (samples.array_target (more samples.b no_trees) absent) samples.c) (samples.assignment_of (samples.object_target (more (samples.target_property false (samples.key_of (codes "d")) samples.d) no_trees) absent) samples.e))))
unfolding unicode_ident longer_stands word_value
sides_of_choice = (
  word (codes "a") (sign question (group false Square (word (codes "b") done) (sign equal (word (codes "c") (sign colon (group false Brace (word (codes "d") done) (sign equal (word (codes "e") (sign semicolon done))))))))),
  ([], codes "?[b]=c:{d}=e;", refl, refl, refl, refl, refl, ([], codes "[b]=c:{d}=e;", refl, refl, refl, refl, refl, ([], codes "b", codes "=c:{d}=e;", refl, refl, refl, ([], [], refl, refl, refl, refl, refl, refl), ([], codes "c:{d}=e;", refl, refl, refl, refl, refl, ([], codes ":{d}=e;", refl, refl, refl, refl, refl, ([], codes "{d}=e;", refl, refl, refl, refl, refl, ([], codes "d", codes "=e;", refl, refl, refl, ([], [], refl, refl, refl, refl, refl, refl), ([], codes "e;", refl, refl, refl, refl, refl, ([], codes ";", refl, refl, refl, refl, refl, ([], [], refl, refl, refl, refl, refl, refl)))))))))),
  only refl ((item {a = word (codes "a") (sign question (group false Square (word (codes "b") done) (sign equal (word (codes "c") (sign colon (group false Brace (word (codes "d") done) (sign equal (word (codes "e") done))))))))} refl (grammar.an_assignment (grammar.a_conditional (grammar.a_choice {a = word (codes "a") done} {b = group false Square (word (codes "b") done) (sign equal (word (codes "c") done))} {d = group false Brace (word (codes "d") done) (sign equal (word (codes "e") done))} false false refl (tested (related (of_member (grammar.a_primary (grammar.a_reference value_a free_a))))) (grammar.an_assignment_to_pattern {a = group false Square (word (codes "b") done) done} {b = word (codes "c") done} false refl (grammar.an_array_target (grammar.last_target_element (grammar.a_target_alone (grammar.a_simple_target (of_member (grammar.a_primary (grammar.a_reference value_b free_b))) refl)))) (valued (related (of_member (grammar.a_primary (grammar.a_reference value_c free_c)))))) (grammar.an_assignment_to_pattern {a = group false Brace (word (codes "d") done) done} {b = word (codes "e") done} false refl (grammar.an_object_target (grammar.last_target_property (grammar.a_target_shorthand value_d free_d))) (valued (related (of_member (grammar.a_primary (grammar.a_reference value_e free_e))))))))))),
)

pub kinds_of_properties : IsRead (codes "let{a,b:c,d=1,e:{f},...g}=h;") (samples.module_of (samples.declaration_of Let (samples.object_binding (more (samples.binding_property false (samples.key_of (codes "a")) (samples.name_of (codes "a"))) (more (samples.binding_property false (samples.key_of (codes "b")) (samples.name_of (codes "c"))) (more (samples.binding_property false (samples.key_of (codes "d")) (samples.binding_with_default (samples.name_of (codes "d")) (samples.number_of (codes "1")))) (more (samples.binding_property false (samples.key_of (codes "e")) (samples.object_binding (more (samples.binding_property false (samples.key_of (codes "f")) (samples.name_of (codes "f"))) no_trees) absent)) no_trees)))) (given (samples.binding_rest (samples.name_of (codes "g"))))) (given (samples.reference_of (codes "h")))))
unfolding unicode_ident longer_stands longer_number_stands spells_number word_value
kinds_of_properties = (
  word (codes "let") (group false Brace (word (codes "a") (sign comma (word (codes "b") (sign colon (word (codes "c") (sign comma (word (codes "d") (sign equal (piece false (Number (codes "1")) (sign comma (word (codes "e") (sign colon (group false Brace (word (codes "f") done) (sign comma (sign ellipsis (word (codes "g") done)))))))))))))))) (sign equal (word (codes "h") (sign semicolon done)))),
  ([], codes "{a,b:c,d=1,e:{f},...g}=h;", refl, refl, refl, refl, refl, ([], codes "a,b:c,d=1,e:{f},...g", codes "=h;", refl, refl, refl, ([], codes ",b:c,d=1,e:{f},...g", refl, refl, refl, refl, refl, ([], codes "b:c,d=1,e:{f},...g", refl, refl, refl, refl, refl, ([], codes ":c,d=1,e:{f},...g", refl, refl, refl, refl, refl, ([], codes "c,d=1,e:{f},...g", refl, refl, refl, refl, refl, ([], codes ",d=1,e:{f},...g", refl, refl, refl, refl, refl, ([], codes "d=1,e:{f},...g", refl, refl, refl, refl, refl, ([], codes "=1,e:{f},...g", refl, refl, refl, refl, refl, ([], codes "1,e:{f},...g", refl, refl, refl, refl, refl, ([], codes ",e:{f},...g", refl, refl, refl, refl, refl, ([], codes "e:{f},...g", refl, refl, refl, refl, refl, ([], codes ":{f},...g", refl, refl, refl, refl, refl, ([], codes "{f},...g", refl, refl, refl, refl, refl, ([], codes "f", codes ",...g", refl, refl, refl, ([], [], refl, refl, refl, refl, refl, refl), ([], codes "...g", refl, refl, refl, refl, refl, ([], codes "g", refl, refl, refl, refl, refl, ([], [], refl, refl, refl, refl, refl, refl)))))))))))))))), ([], codes "h;", refl, refl, refl, refl, refl, ([], codes ";", refl, refl, refl, refl, refl, ([], [], refl, refl, refl, refl, refl, refl))))),
  only refl (grammar.a_declaration Let refl (grammar.a_semicolon {a = word (codes "let") (group false Brace (word (codes "a") (sign comma (word (codes "b") (sign colon (word (codes "c") (sign comma (word (codes "d") (sign equal (piece false (Number (codes "1")) (sign comma (word (codes "e") (sign colon (group false Brace (word (codes "f") done) (sign comma (sign ellipsis (word (codes "g") done)))))))))))))))) (sign equal (word (codes "h") done)))} false refl) (grammar.some_variables (grammar.last_declarator (grammar.with_value {a = group false Brace (word (codes "a") (sign comma (word (codes "b") (sign colon (word (codes "c") (sign comma (word (codes "d") (sign equal (piece false (Number (codes "1")) (sign comma (word (codes "e") (sign colon (group false Brace (word (codes "f") done) (sign comma (sign ellipsis (word (codes "g") done)))))))))))))))) done} {v = word (codes "h") done} false refl (grammar.an_object_binding (grammar.first_binding_property {a = word (codes "a") done} {b = word (codes "b") (sign colon (word (codes "c") (sign comma (word (codes "d") (sign equal (piece false (Number (codes "1")) (sign comma (word (codes "e") (sign colon (group false Brace (word (codes "f") done) (sign comma (sign ellipsis (word (codes "g") done)))))))))))))} false refl (grammar.a_bound_shorthand value_a free_a) (grammar.first_binding_property {a = word (codes "b") (sign colon (word (codes "c") done))} {b = word (codes "d") (sign equal (piece false (Number (codes "1")) (sign comma (word (codes "e") (sign colon (group false Brace (word (codes "f") done) (sign comma (sign ellipsis (word (codes "g") done)))))))))} false refl (grammar.a_bound_property {a = word (codes "b") done} {b = word (codes "c") done} false refl (grammar.a_name_key value_b) (grammar.a_binding_alone (grammar.a_bound_name value_c free_c))) (grammar.first_binding_property {a = word (codes "d") (sign equal (piece false (Number (codes "1")) done))} {b = word (codes "e") (sign colon (group false Brace (word (codes "f") done) (sign comma (sign ellipsis (word (codes "g") done)))))} false refl (grammar.a_bound_shorthand_with_default value_d free_d (valued (related (of_member (grammar.a_primary (grammar.a_number refl)))))) (grammar.first_binding_property {a = word (codes "e") (sign colon (group false Brace (word (codes "f") done) done))} {b = sign ellipsis (word (codes "g") done)} false refl (grammar.a_bound_property {a = word (codes "e") done} {b = group false Brace (word (codes "f") done) done} false refl (grammar.a_name_key value_e) (grammar.a_binding_alone (grammar.an_object_binding (grammar.last_binding_property (grammar.a_bound_shorthand value_f free_f))))) (grammar.a_binding_rest_property value_g free_g)))))) (valued (related (of_member (grammar.a_primary (grammar.a_reference value_h free_h))))))))),
)

pub kinds_of_properties_with_spaces : IsRead (codes "let { a, b: c, d = 1, e: { f }, ...g } = h;") (samples.module_of (samples.declaration_of Let (samples.object_binding (more (samples.binding_property false (samples.key_of (codes "a")) (samples.name_of (codes "a"))) (more (samples.binding_property false (samples.key_of (codes "b")) (samples.name_of (codes "c"))) (more (samples.binding_property false (samples.key_of (codes "d")) (samples.binding_with_default (samples.name_of (codes "d")) (samples.number_of (codes "1")))) (more (samples.binding_property false (samples.key_of (codes "e")) (samples.object_binding (more (samples.binding_property false (samples.key_of (codes "f")) (samples.name_of (codes "f"))) no_trees) absent)) no_trees)))) (given (samples.binding_rest (samples.name_of (codes "g"))))) (given (samples.reference_of (codes "h")))))
unfolding unicode_ident longer_stands longer_number_stands spells_number word_value
kinds_of_properties_with_spaces = (
  word (codes "let") (group false Brace (word (codes "a") (sign comma (word (codes "b") (sign colon (word (codes "c") (sign comma (word (codes "d") (sign equal (piece false (Number (codes "1")) (sign comma (word (codes "e") (sign colon (group false Brace (word (codes "f") done) (sign comma (sign ellipsis (word (codes "g") done)))))))))))))))) (sign equal (word (codes "h") (sign semicolon done)))),
  ([], codes " { a, b: c, d = 1, e: { f }, ...g } = h;", refl, refl, refl, refl, refl, (codes " ", codes " a, b: c, d = 1, e: { f }, ...g ", codes " = h;", refl, refl, refl, (codes " ", codes ", b: c, d = 1, e: { f }, ...g ", refl, refl, refl, refl, refl, ([], codes " b: c, d = 1, e: { f }, ...g ", refl, refl, refl, refl, refl, (codes " ", codes ": c, d = 1, e: { f }, ...g ", refl, refl, refl, refl, refl, ([], codes " c, d = 1, e: { f }, ...g ", refl, refl, refl, refl, refl, (codes " ", codes ", d = 1, e: { f }, ...g ", refl, refl, refl, refl, refl, ([], codes " d = 1, e: { f }, ...g ", refl, refl, refl, refl, refl, (codes " ", codes " = 1, e: { f }, ...g ", refl, refl, refl, refl, refl, (codes " ", codes " 1, e: { f }, ...g ", refl, refl, refl, refl, refl, (codes " ", codes ", e: { f }, ...g ", refl, refl, refl, refl, refl, ([], codes " e: { f }, ...g ", refl, refl, refl, refl, refl, (codes " ", codes ": { f }, ...g ", refl, refl, refl, refl, refl, ([], codes " { f }, ...g ", refl, refl, refl, refl, refl, (codes " ", codes " f ", codes ", ...g ", refl, refl, refl, (codes " ", codes " ", refl, refl, refl, refl, refl, refl), ([], codes " ...g ", refl, refl, refl, refl, refl, (codes " ", codes "g ", refl, refl, refl, refl, refl, ([], codes " ", refl, refl, refl, refl, refl, refl)))))))))))))))), (codes " ", codes " h;", refl, refl, refl, refl, refl, (codes " ", codes ";", refl, refl, refl, refl, refl, ([], [], refl, refl, refl, refl, refl, refl))))),
  only refl (grammar.a_declaration Let refl (grammar.a_semicolon {a = word (codes "let") (group false Brace (word (codes "a") (sign comma (word (codes "b") (sign colon (word (codes "c") (sign comma (word (codes "d") (sign equal (piece false (Number (codes "1")) (sign comma (word (codes "e") (sign colon (group false Brace (word (codes "f") done) (sign comma (sign ellipsis (word (codes "g") done)))))))))))))))) (sign equal (word (codes "h") done)))} false refl) (grammar.some_variables (grammar.last_declarator (grammar.with_value {a = group false Brace (word (codes "a") (sign comma (word (codes "b") (sign colon (word (codes "c") (sign comma (word (codes "d") (sign equal (piece false (Number (codes "1")) (sign comma (word (codes "e") (sign colon (group false Brace (word (codes "f") done) (sign comma (sign ellipsis (word (codes "g") done)))))))))))))))) done} {v = word (codes "h") done} false refl (grammar.an_object_binding (grammar.first_binding_property {a = word (codes "a") done} {b = word (codes "b") (sign colon (word (codes "c") (sign comma (word (codes "d") (sign equal (piece false (Number (codes "1")) (sign comma (word (codes "e") (sign colon (group false Brace (word (codes "f") done) (sign comma (sign ellipsis (word (codes "g") done)))))))))))))} false refl (grammar.a_bound_shorthand value_a free_a) (grammar.first_binding_property {a = word (codes "b") (sign colon (word (codes "c") done))} {b = word (codes "d") (sign equal (piece false (Number (codes "1")) (sign comma (word (codes "e") (sign colon (group false Brace (word (codes "f") done) (sign comma (sign ellipsis (word (codes "g") done)))))))))} false refl (grammar.a_bound_property {a = word (codes "b") done} {b = word (codes "c") done} false refl (grammar.a_name_key value_b) (grammar.a_binding_alone (grammar.a_bound_name value_c free_c))) (grammar.first_binding_property {a = word (codes "d") (sign equal (piece false (Number (codes "1")) done))} {b = word (codes "e") (sign colon (group false Brace (word (codes "f") done) (sign comma (sign ellipsis (word (codes "g") done)))))} false refl (grammar.a_bound_shorthand_with_default value_d free_d (valued (related (of_member (grammar.a_primary (grammar.a_number refl)))))) (grammar.first_binding_property {a = word (codes "e") (sign colon (group false Brace (word (codes "f") done) done))} {b = sign ellipsis (word (codes "g") done)} false refl (grammar.a_bound_property {a = word (codes "e") done} {b = group false Brace (word (codes "f") done) done} false refl (grammar.a_name_key value_e) (grammar.a_binding_alone (grammar.an_object_binding (grammar.last_binding_property (grammar.a_bound_shorthand value_f free_f))))) (grammar.a_binding_rest_property value_g free_g)))))) (valued (related (of_member (grammar.a_primary (grammar.a_reference value_h free_h))))))))),
)

pub keys_that_are_no_names : IsRead (codes "let{if:a,\"b\":b,[c]:d}=e;") (samples.module_of (samples.declaration_of Let (samples.object_binding (more (samples.binding_property false (samples.key_of (codes "if")) (samples.name_of (codes "a"))) (more (samples.binding_property false (samples.string_of (codes "b")) (samples.name_of (codes "b"))) (more (samples.binding_property true samples.c (samples.name_of (codes "d"))) no_trees))) absent) (given samples.e)))
unfolding unicode_ident longer_stands word_value string_value
keys_that_are_no_names = (
  word (codes "let") (group false Brace (word (codes "if") (sign colon (word (codes "a") (sign comma (piece false (Quoted Double (codes "b")) (sign colon (word (codes "b") (sign comma (group false Square (word (codes "c") done) (sign colon (word (codes "d") done))))))))))) (sign equal (word (codes "e") (sign semicolon done)))),
  ([], codes "{if:a,\"b\":b,[c]:d}=e;", refl, refl, refl, refl, refl, ([], codes "if:a,\"b\":b,[c]:d", codes "=e;", refl, refl, refl, ([], codes ":a,\"b\":b,[c]:d", refl, refl, refl, refl, refl, ([], codes "a,\"b\":b,[c]:d", refl, refl, refl, refl, refl, ([], codes ",\"b\":b,[c]:d", refl, refl, refl, refl, refl, ([], codes "\"b\":b,[c]:d", refl, refl, refl, refl, refl, ([], codes ":b,[c]:d", refl, refl, refl, refl, refl, ([], codes "b,[c]:d", refl, refl, refl, refl, refl, ([], codes ",[c]:d", refl, refl, refl, refl, refl, ([], codes "[c]:d", refl, refl, refl, refl, refl, ([], codes "c", codes ":d", refl, refl, refl, ([], [], refl, refl, refl, refl, refl, refl), ([], codes "d", refl, refl, refl, refl, refl, ([], [], refl, refl, refl, refl, refl, refl))))))))))), ([], codes "e;", refl, refl, refl, refl, refl, ([], codes ";", refl, refl, refl, refl, refl, ([], [], refl, refl, refl, refl, refl, refl))))),
  only refl (grammar.a_declaration Let refl (grammar.a_semicolon {a = word (codes "let") (group false Brace (word (codes "if") (sign colon (word (codes "a") (sign comma (piece false (Quoted Double (codes "b")) (sign colon (word (codes "b") (sign comma (group false Square (word (codes "c") done) (sign colon (word (codes "d") done))))))))))) (sign equal (word (codes "e") done)))} false refl) (grammar.some_variables (grammar.last_declarator (grammar.with_value {a = group false Brace (word (codes "if") (sign colon (word (codes "a") (sign comma (piece false (Quoted Double (codes "b")) (sign colon (word (codes "b") (sign comma (group false Square (word (codes "c") done) (sign colon (word (codes "d") done))))))))))) done} {v = word (codes "e") done} false refl (grammar.an_object_binding (grammar.first_binding_property {a = word (codes "if") (sign colon (word (codes "a") done))} {b = piece false (Quoted Double (codes "b")) (sign colon (word (codes "b") (sign comma (group false Square (word (codes "c") done) (sign colon (word (codes "d") done))))))} false refl (grammar.a_bound_property {a = word (codes "if") done} {b = word (codes "a") done} false refl (grammar.a_name_key value_if) (grammar.a_binding_alone (grammar.a_bound_name value_a free_a))) (grammar.first_binding_property {a = piece false (Quoted Double (codes "b")) (sign colon (word (codes "b") done))} {b = group false Square (word (codes "c") done) (sign colon (word (codes "d") done))} false refl (grammar.a_bound_property {a = piece false (Quoted Double (codes "b")) done} {b = word (codes "b") done} false refl (grammar.a_string_key refl refl) (grammar.a_binding_alone (grammar.a_bound_name value_b free_b))) (grammar.last_binding_property (grammar.a_bound_property {a = group false Square (word (codes "c") done) done} {b = word (codes "d") done} false refl (grammar.a_computed_key (valued (related (of_member (grammar.a_primary (grammar.a_reference value_c free_c)))))) (grammar.a_binding_alone (grammar.a_bound_name value_d free_d))))))) (valued (related (of_member (grammar.a_primary (grammar.a_reference value_e free_e))))))))),
)

pub keys_that_are_no_names_with_spaces : IsRead (codes "let { if: a, \"b\": b, [c]: d } = e;") (samples.module_of (samples.declaration_of Let (samples.object_binding (more (samples.binding_property false (samples.key_of (codes "if")) (samples.name_of (codes "a"))) (more (samples.binding_property false (samples.string_of (codes "b")) (samples.name_of (codes "b"))) (more (samples.binding_property true samples.c (samples.name_of (codes "d"))) no_trees))) absent) (given samples.e)))
unfolding unicode_ident longer_stands word_value string_value
keys_that_are_no_names_with_spaces = (
  word (codes "let") (group false Brace (word (codes "if") (sign colon (word (codes "a") (sign comma (piece false (Quoted Double (codes "b")) (sign colon (word (codes "b") (sign comma (group false Square (word (codes "c") done) (sign colon (word (codes "d") done))))))))))) (sign equal (word (codes "e") (sign semicolon done)))),
  ([], codes " { if: a, \"b\": b, [c]: d } = e;", refl, refl, refl, refl, refl, (codes " ", codes " if: a, \"b\": b, [c]: d ", codes " = e;", refl, refl, refl, (codes " ", codes ": a, \"b\": b, [c]: d ", refl, refl, refl, refl, refl, ([], codes " a, \"b\": b, [c]: d ", refl, refl, refl, refl, refl, (codes " ", codes ", \"b\": b, [c]: d ", refl, refl, refl, refl, refl, ([], codes " \"b\": b, [c]: d ", refl, refl, refl, refl, refl, (codes " ", codes ": b, [c]: d ", refl, refl, refl, refl, refl, ([], codes " b, [c]: d ", refl, refl, refl, refl, refl, (codes " ", codes ", [c]: d ", refl, refl, refl, refl, refl, ([], codes " [c]: d ", refl, refl, refl, refl, refl, (codes " ", codes "c", codes ": d ", refl, refl, refl, ([], [], refl, refl, refl, refl, refl, refl), ([], codes " d ", refl, refl, refl, refl, refl, (codes " ", codes " ", refl, refl, refl, refl, refl, refl))))))))))), (codes " ", codes " e;", refl, refl, refl, refl, refl, (codes " ", codes ";", refl, refl, refl, refl, refl, ([], [], refl, refl, refl, refl, refl, refl))))),
  only refl (grammar.a_declaration Let refl (grammar.a_semicolon {a = word (codes "let") (group false Brace (word (codes "if") (sign colon (word (codes "a") (sign comma (piece false (Quoted Double (codes "b")) (sign colon (word (codes "b") (sign comma (group false Square (word (codes "c") done) (sign colon (word (codes "d") done))))))))))) (sign equal (word (codes "e") done)))} false refl) (grammar.some_variables (grammar.last_declarator (grammar.with_value {a = group false Brace (word (codes "if") (sign colon (word (codes "a") (sign comma (piece false (Quoted Double (codes "b")) (sign colon (word (codes "b") (sign comma (group false Square (word (codes "c") done) (sign colon (word (codes "d") done))))))))))) done} {v = word (codes "e") done} false refl (grammar.an_object_binding (grammar.first_binding_property {a = word (codes "if") (sign colon (word (codes "a") done))} {b = piece false (Quoted Double (codes "b")) (sign colon (word (codes "b") (sign comma (group false Square (word (codes "c") done) (sign colon (word (codes "d") done))))))} false refl (grammar.a_bound_property {a = word (codes "if") done} {b = word (codes "a") done} false refl (grammar.a_name_key value_if) (grammar.a_binding_alone (grammar.a_bound_name value_a free_a))) (grammar.first_binding_property {a = piece false (Quoted Double (codes "b")) (sign colon (word (codes "b") done))} {b = group false Square (word (codes "c") done) (sign colon (word (codes "d") done))} false refl (grammar.a_bound_property {a = piece false (Quoted Double (codes "b")) done} {b = word (codes "b") done} false refl (grammar.a_string_key refl refl) (grammar.a_binding_alone (grammar.a_bound_name value_b free_b))) (grammar.last_binding_property (grammar.a_bound_property {a = group false Square (word (codes "c") done) done} {b = word (codes "d") done} false refl (grammar.a_computed_key (valued (related (of_member (grammar.a_primary (grammar.a_reference value_c free_c)))))) (grammar.a_binding_alone (grammar.a_bound_name value_d free_d))))))) (valued (related (of_member (grammar.a_primary (grammar.a_reference value_e free_e))))))))),
)

pub name_with_default : IsRead (codes "let{b=1}=d;") (samples.module_of (samples.declaration_of Let (samples.object_binding (more (samples.binding_property false (samples.key_of (codes "b")) (samples.binding_with_default (samples.name_of (codes "b")) (samples.number_of (codes "1")))) no_trees) absent) (given samples.d)))
unfolding unicode_ident longer_stands longer_number_stands spells_number word_value
name_with_default = (
  word (codes "let") (group false Brace (word (codes "b") (sign equal (piece false (Number (codes "1")) done))) (sign equal (word (codes "d") (sign semicolon done)))),
  ([], codes "{b=1}=d;", refl, refl, refl, refl, refl, ([], codes "b=1", codes "=d;", refl, refl, refl, ([], codes "=1", refl, refl, refl, refl, refl, ([], codes "1", refl, refl, refl, refl, refl, ([], [], refl, refl, refl, refl, refl, refl))), ([], codes "d;", refl, refl, refl, refl, refl, ([], codes ";", refl, refl, refl, refl, refl, ([], [], refl, refl, refl, refl, refl, refl))))),
  only refl (grammar.a_declaration Let refl (grammar.a_semicolon {a = word (codes "let") (group false Brace (word (codes "b") (sign equal (piece false (Number (codes "1")) done))) (sign equal (word (codes "d") done)))} false refl) (grammar.some_variables (grammar.last_declarator (grammar.with_value {a = group false Brace (word (codes "b") (sign equal (piece false (Number (codes "1")) done))) done} {v = word (codes "d") done} false refl (grammar.an_object_binding (grammar.last_binding_property (grammar.a_bound_shorthand_with_default value_b free_b (valued (related (of_member (grammar.a_primary (grammar.a_number refl)))))))) (valued (related (of_member (grammar.a_primary (grammar.a_reference value_d free_d))))))))),
)

pub name_with_default_with_spaces : IsRead (codes "let { b = 1 } = d;") (samples.module_of (samples.declaration_of Let (samples.object_binding (more (samples.binding_property false (samples.key_of (codes "b")) (samples.binding_with_default (samples.name_of (codes "b")) (samples.number_of (codes "1")))) no_trees) absent) (given samples.d)))
unfolding unicode_ident longer_stands longer_number_stands spells_number word_value
name_with_default_with_spaces = (
  word (codes "let") (group false Brace (word (codes "b") (sign equal (piece false (Number (codes "1")) done))) (sign equal (word (codes "d") (sign semicolon done)))),
  ([], codes " { b = 1 } = d;", refl, refl, refl, refl, refl, (codes " ", codes " b = 1 ", codes " = d;", refl, refl, refl, (codes " ", codes " = 1 ", refl, refl, refl, refl, refl, (codes " ", codes " 1 ", refl, refl, refl, refl, refl, (codes " ", codes " ", refl, refl, refl, refl, refl, refl))), (codes " ", codes " d;", refl, refl, refl, refl, refl, (codes " ", codes ";", refl, refl, refl, refl, refl, ([], [], refl, refl, refl, refl, refl, refl))))),
  only refl (grammar.a_declaration Let refl (grammar.a_semicolon {a = word (codes "let") (group false Brace (word (codes "b") (sign equal (piece false (Number (codes "1")) done))) (sign equal (word (codes "d") done)))} false refl) (grammar.some_variables (grammar.last_declarator (grammar.with_value {a = group false Brace (word (codes "b") (sign equal (piece false (Number (codes "1")) done))) done} {v = word (codes "d") done} false refl (grammar.an_object_binding (grammar.last_binding_property (grammar.a_bound_shorthand_with_default value_b free_b (valued (related (of_member (grammar.a_primary (grammar.a_number refl)))))))) (valued (related (of_member (grammar.a_primary (grammar.a_reference value_d free_d))))))))),
)
