-- Texts that are read, and one that is read as nothing else.
use Rattle.std.proofs.Common.{◌≡◌, ℕ, Bool, true, false, Some, List, [], ◌∷◌, codes, refl}
use lib.Utf8.{encode}
use Rattle.unicode_ident.proofs.Computing.{unicode_ident}
use Rattle.jsgen_syntax.specs.Escapes.{word_value}
use Rattle.jsgen_syntax.specs.Name.{is_reserved, is_strict_reserved, is_free_name}
use Rattle.jsgen_syntax.specs.Strings.{string_value}
use Rattle.jsgen_syntax.specs.declared.quote.Quote.TheVariants.{Single, Double, Backtick}
use Rattle.jsgen_syntax.specs.declared.operator.BinaryOperator.TheVariants.{Addition, Subtraction, Multiplication}
use Rattle.jsgen_syntax.specs.declared.operator.UnaryOperator.TheVariants.{UnaryNegation, Typeof}
use Rattle.jsgen_syntax.specs.declared.operator.UpdateOperator.TheVariants.{Increment}
use Rattle.jsgen_tree.specs.declared.statements.VariableDeclarationKind.TheVariants.{Const}
use Rattle.jsgen_tree.specs.Tree.{Tree, absent, given, Trees, no_trees, more}
use Rattle.jsgen_model.specs.Punctuator.{Punctuator, plus, plus_plus, minus, star, star_star, comma, semicolon, dot, equal, Round, Square, Brace}
use Rattle.jsgen_model.specs.Numbers.{spells_number}
use Rattle.jsgen_model.specs.Tokens.{Tokens, done, piece, group, ◌⧺◌, Word, Number, Quoted, Sign, longer_stands, longer_number_stands, AreTokensOf}
use Rattle.jsgen_model.specs.Grammar.{Allowed, Expression, Assignment, ShortCircuit, Multiplicative, Additive, Exponent, Unary, Update, LeftHandSide, Primary, in_module, with_in, ReadsExpression, ReadsStatement, ReadsItem, ReadsStatements, ReadsModuleItems, ReadsModule, a_module, starts_with_directive, starts_statement}
use Rattle.jsgen_model.specs.Grammar as grammar
use Rattle.jsgen_oracle.specs.Samples.{IsRead}
use Rattle.jsgen_oracle.specs.Samples as samples

-- ---- levels

pub update : {c : Allowed} {ts : Tokens} {t : Tree} → ReadsExpression c Primary ts t → ReadsExpression c Update ts t
update r = grammar.a_left_hand_side (grammar.a_new (grammar.a_member (grammar.a_primary r)))

power : {c : Allowed} {ts : Tokens} {t : Tree} → ReadsExpression c Primary ts t → ReadsExpression c Exponent ts t
power r = grammar.a_unary (grammar.an_update (update r))

times : {c : Allowed} {ts : Tokens} {t : Tree} → ReadsExpression c Primary ts t → ReadsExpression c Multiplicative ts t
times r = grammar.an_exponent (power r)

pub first_of_sum : {c : Allowed} {ts : Tokens} {t : Tree} → ReadsExpression c Primary ts t → ReadsExpression c Additive ts t
first_of_sum r = grammar.a_multiplicative (times r)

pub test : {c : Allowed} {ts : Tokens} {t : Tree} → ReadsExpression c Additive ts t → ReadsExpression c ShortCircuit ts t
test r = grammar.a_logical_or (grammar.a_logical_and (grammar.a_bit_or (grammar.a_bit_xor (grammar.a_bit_and (grammar.an_equality (grammar.a_relation (grammar.a_shift (grammar.an_additive r))))))))

pub value : {c : Allowed} {ts : Tokens} {t : Tree} → ReadsExpression c Additive ts t → ReadsExpression c Assignment ts t
value r = grammar.a_conditional (grammar.a_short_circuit (test r))

pub whole : {c : Allowed} {ts : Tokens} {t : Tree} → ReadsExpression c Additive ts t → ReadsExpression c Expression ts t
whole r = grammar.an_assignment (value r)

abbrev pub word : List ℕ → Tokens → Tokens
word w ts = piece false (Word w) ts

abbrev pub sign : Punctuator → Tokens → Tokens
sign s ts = piece false (Sign s) ts

-- statements are items of a module
pub module_items : {last : Bool} {ts : Tokens} {ss : Trees} → ReadsStatements in_module last ts ss → ReadsModuleItems last ts ss
module_items grammar.no_statement = grammar.no_module_item
module_items (grammar.last_statement r) = grammar.last_module_item (grammar.a_module_statement r)
module_items (grammar.first_statement e r s) = grammar.first_module_item e (grammar.a_module_statement r) (module_items s)

-- a program without directives
pub undirected : {ts : Tokens} {body : Trees} → starts_with_directive ts ≡ false → ReadsStatements in_module false ts body → ReadsModule ts (samples.module_of body)
undirected h r = a_module (grammar.module_items h (module_items r))

-- an expression with its semicolon, as a statement and in a list of statements
pub ended : {c : Allowed} {last before_else : Bool} {a : Tokens} {e : Tree} → starts_statement a ≡ true → ReadsExpression (with_in c) Expression a e → ReadsStatement c last before_else (a ⧺ sign semicolon done) (samples.statement_of e)
ended h r = grammar.an_expression_statement (grammar.a_semicolon false refl) h r

pub item : {c : Allowed} {last : Bool} {a : Tokens} {e : Tree} → starts_statement a ≡ true → ReadsExpression (with_in c) Expression a e → ReadsItem c last (a ⧺ sign semicolon done) (samples.statement_of e)
item h r = grammar.a_statement (ended h r)

-- ---- names

pub free_a : is_free_name (codes "a") ≡ true
unfolding unicode_ident is_reserved is_strict_reserved encode
free_a = refl

pub free_b : is_free_name (codes "b") ≡ true
unfolding unicode_ident is_reserved is_strict_reserved encode
free_b = refl

pub value_a : word_value (codes "a") ≡ Some (codes "a")
unfolding word_value
value_a = refl

pub value_b : word_value (codes "b") ≡ Some (codes "b")
unfolding word_value
value_b = refl

pub value_c : word_value (codes "c") ≡ Some (codes "c")
unfolding word_value
value_c = refl

pub free_c : is_free_name (codes "c") ≡ true
unfolding unicode_ident is_reserved is_strict_reserved encode
free_c = refl

pub value_d : word_value (codes "d") ≡ Some (codes "d")
unfolding word_value
value_d = refl

pub free_d : is_free_name (codes "d") ≡ true
unfolding unicode_ident is_reserved is_strict_reserved encode
free_d = refl

value_e : word_value (codes "e") ≡ Some (codes "e")
unfolding word_value
value_e = refl

free_e : is_free_name (codes "e") ≡ true
unfolding unicode_ident is_reserved is_strict_reserved encode
free_e = refl

pub read_a : {c : Allowed} {mark : Bool} → ReadsExpression c Primary (piece mark (Word (codes "a")) done) samples.a
read_a = grammar.a_reference value_a free_a

pub read_b : {c : Allowed} {mark : Bool} → ReadsExpression c Primary (piece mark (Word (codes "b")) done) samples.b
read_b = grammar.a_reference value_b free_b

pub read_c : {c : Allowed} {mark : Bool} → ReadsExpression c Primary (piece mark (Word (codes "c")) done) samples.c
read_c = grammar.a_reference value_c free_c

pub read_d : {c : Allowed} {mark : Bool} → ReadsExpression c Primary (piece mark (Word (codes "d")) done) samples.d
read_d = grammar.a_reference value_d free_d

pub read_e : {c : Allowed} {mark : Bool} → ReadsExpression c Primary (piece mark (Word (codes "e")) done) samples.e
read_e = grammar.a_reference value_e free_e

-- ---- what is read

pub nothing : IsRead (codes "") (samples.module_of no_trees)
nothing = (done, refl, undirected refl grammar.no_statement)

pub two_statements : IsRead (codes "a;b;") (samples.module_of (more (samples.statement_of samples.a) (more (samples.statement_of samples.b) no_trees)))
unfolding unicode_ident longer_stands word_value
two_statements = (
  word (codes "a") (sign semicolon (word (codes "b") (sign semicolon done))),
  ([], codes ";b;", refl, refl, refl, refl, refl, ([], codes "b;", refl, refl, refl, refl, refl, ([], codes ";", refl, refl, refl, refl, refl, ([], [], refl, refl, refl, refl, refl, refl)))),
  undirected refl (grammar.first_statement {a = word (codes "a") (sign semicolon done)} {b = word (codes "b") (sign semicolon done)} refl (item {a = word (codes "a") done} refl (whole (first_of_sum read_a))) (grammar.last_statement (item {a = word (codes "b") done} refl (whole (first_of_sum read_b))))),
)

pub to_the_left : IsRead (codes "a+b-c;") (samples.module_of (more (samples.statement_of (samples.difference_of (samples.sum_of samples.a samples.b) samples.c)) no_trees))
unfolding unicode_ident longer_stands word_value
to_the_left = (
  word (codes "a") (sign plus (word (codes "b") (sign minus (word (codes "c") (sign semicolon done))))),
  ([], codes "+b-c;", refl, refl, refl, refl, refl, ([], codes "b-c;", refl, refl, refl, refl, refl, ([], codes "-c;", refl, refl, refl, refl, refl, ([], codes "c;", refl, refl, refl, refl, refl, ([], codes ";", refl, refl, refl, refl, refl, ([], [], refl, refl, refl, refl, refl, refl)))))),
  undirected refl (grammar.last_statement (item {a = word (codes "a") (sign plus (word (codes "b") (sign minus (word (codes "c") done))))} refl (whole (grammar.an_operation {a = word (codes "a") (sign plus (word (codes "b") done))} {b = word (codes "c") done} Subtraction false refl refl refl (grammar.an_operation {a = word (codes "a") done} {b = word (codes "b") done} Addition false refl refl refl (first_of_sum read_a) (times read_b)) (times read_c))))),
)

pub to_the_right : IsRead (codes "a-(b-c);") (samples.module_of (more (samples.statement_of (samples.difference_of samples.a (samples.in_parentheses (samples.difference_of samples.b samples.c)))) no_trees))
unfolding unicode_ident longer_stands word_value
to_the_right =
    let inside = word (codes "b") (sign minus (word (codes "c") done)) in (
      word (codes "a") (sign minus (group false Round inside (sign semicolon done))),
      ([], codes "-(b-c);", refl, refl, refl, refl, refl, ([], codes "(b-c);", refl, refl, refl, refl, refl, ([], codes "b-c", codes ";", refl, refl, refl, ([], codes "-c", refl, refl, refl, refl, refl, ([], codes "c", refl, refl, refl, refl, refl, ([], [], refl, refl, refl, refl, refl, refl))), ([], [], refl, refl, refl, refl, refl, refl)))),
      undirected refl (grammar.last_statement (item {a = word (codes "a") (sign minus (group false Round inside done))} refl (whole (grammar.an_operation {a = word (codes "a") done} {b = group false Round inside done} Subtraction false refl refl refl (first_of_sum read_a) (times (grammar.in_parentheses (whole (grammar.an_operation {a = word (codes "b") done} {b = word (codes "c") done} Subtraction false refl refl refl (first_of_sum read_b) (times read_c))))))))),
    )

pub parentheses : IsRead (codes "(a);") (samples.module_of (more (samples.statement_of (samples.in_parentheses samples.a)) no_trees))
unfolding unicode_ident longer_stands word_value
parentheses = (
  group false Round (word (codes "a") done) (sign semicolon done),
  ([], codes "a", codes ";", refl, refl, refl, ([], [], refl, refl, refl, refl, refl, refl), ([], [], refl, refl, refl, refl, refl, refl)),
  undirected refl (grammar.last_statement (item {a = group false Round (word (codes "a") done) done} refl (whole (first_of_sum (grammar.in_parentheses (whole (first_of_sum read_a))))))),
)

pub declarators : IsRead (codes "const a=1,b=c;") (samples.module_of (more (samples.const_of (more (samples.bound (codes "a") (given samples.one)) (more (samples.bound (codes "b") (given samples.c)) no_trees))) no_trees))
unfolding unicode_ident longer_stands longer_number_stands spells_number word_value
declarators =
    let first = word (codes "a") (sign equal (piece false (Number (codes "1")) done)) in
    let second = word (codes "b") (sign equal (word (codes "c") done)) in (
      word (codes "const") ((first ⧺ sign comma second) ⧺ sign semicolon done),
      ([], codes " a=1,b=c;", refl, refl, refl, refl, refl, (codes " ", codes "=1,b=c;", refl, refl, refl, refl, refl, ([], codes "1,b=c;", refl, refl, refl, refl, refl, ([], codes ",b=c;", refl, refl, refl, refl, refl, ([], codes "b=c;", refl, refl, refl, refl, refl, ([], codes "=c;", refl, refl, refl, refl, refl, ([], codes "c;", refl, refl, refl, refl, refl, ([], codes ";", refl, refl, refl, refl, refl, ([], [], refl, refl, refl, refl, refl, refl))))))))),
      undirected refl (grammar.last_statement (grammar.a_declaration Const refl (grammar.a_semicolon {a = word (codes "const") (first ⧺ sign comma second)} false refl) (grammar.some_variables (grammar.first_declarator {a = first} {b = second} false refl (grammar.with_value {a = word (codes "a") done} {v = piece false (Number (codes "1")) done} false refl (grammar.a_bound_name value_a free_a) (value (first_of_sum (grammar.a_number refl)))) (grammar.last_declarator (grammar.with_value {a = word (codes "b") done} {v = word (codes "c") done} false refl (grammar.a_bound_name value_b free_b) (value (first_of_sum read_c)))))))),
    )

pub without_value : IsRead (codes "const a;") (samples.module_of (more (samples.const_of (more (samples.bound (codes "a") absent) no_trees)) no_trees))
unfolding unicode_ident longer_stands word_value
without_value = (
  word (codes "const") (word (codes "a") (sign semicolon done)),
  ([], codes " a;", refl, refl, refl, refl, refl, (codes " ", codes ";", refl, refl, refl, refl, refl, ([], [], refl, refl, refl, refl, refl, refl))),
  undirected refl (grammar.last_statement (grammar.a_declaration Const refl (grammar.a_semicolon {a = word (codes "const") (word (codes "a") done)} false refl) (grammar.some_variables (grammar.last_declarator (grammar.without_value value_a free_a))))),
)

pub over_lines : IsRead (codes "a\n+b;") (samples.module_of (more (samples.statement_of (samples.sum_of samples.a samples.b)) no_trees))
unfolding unicode_ident longer_stands word_value
over_lines =
    let tail = piece true (Sign plus) (word (codes "b") done) in (
      word (codes "a") (tail ⧺ sign semicolon done),
      ([], codes "\n+b;", refl, refl, refl, refl, refl, (codes "\n", codes "b;", refl, refl, refl, refl, refl, ([], codes ";", refl, refl, refl, refl, refl, ([], [], refl, refl, refl, refl, refl, refl)))),
      undirected refl (grammar.last_statement (item {a = word (codes "a") tail} refl (whole (grammar.an_operation {a = word (codes "a") done} {b = word (codes "b") done} Addition true refl refl refl (first_of_sum read_a) (times read_b))))),
    )

pub powers_to_the_right : IsRead (codes "a**b**c;") (samples.module_of (more (samples.statement_of (samples.power_of samples.a (samples.power_of samples.b samples.c))) no_trees))
unfolding unicode_ident longer_stands word_value
powers_to_the_right = (
  word (codes "a") (sign star_star (word (codes "b") (sign star_star (word (codes "c") (sign semicolon done))))),
  ([], codes "**b**c;", refl, refl, refl, refl, refl, ([], codes "b**c;", refl, refl, refl, refl, refl, ([], codes "**c;", refl, refl, refl, refl, refl, ([], codes "c;", refl, refl, refl, refl, refl, ([], codes ";", refl, refl, refl, refl, refl, ([], [], refl, refl, refl, refl, refl, refl)))))),
  undirected refl (grammar.last_statement (item {a = word (codes "a") (sign star_star (word (codes "b") (sign star_star (word (codes "c") done))))} refl (whole (grammar.a_multiplicative (grammar.an_exponent (grammar.a_power {a = word (codes "a") done} {b = word (codes "b") (sign star_star (word (codes "c") done))} false refl (update read_a) (grammar.a_power {a = word (codes "b") done} {b = word (codes "c") done} false refl (update read_b) (power read_c)))))))),
)

pub product_in_sum : IsRead (codes "a+b*c;") (samples.module_of (more (samples.statement_of (samples.sum_of samples.a (samples.product_of samples.b samples.c))) no_trees))
unfolding unicode_ident longer_stands word_value
product_in_sum = (
  word (codes "a") (sign plus (word (codes "b") (sign star (word (codes "c") (sign semicolon done))))),
  ([], codes "+b*c;", refl, refl, refl, refl, refl, ([], codes "b*c;", refl, refl, refl, refl, refl, ([], codes "*c;", refl, refl, refl, refl, refl, ([], codes "c;", refl, refl, refl, refl, refl, ([], codes ";", refl, refl, refl, refl, refl, ([], [], refl, refl, refl, refl, refl, refl)))))),
  undirected refl (grammar.last_statement (item {a = word (codes "a") (sign plus (word (codes "b") (sign star (word (codes "c") done))))} refl (whole (grammar.an_operation {a = word (codes "a") done} {b = word (codes "b") (sign star (word (codes "c") done))} Addition false refl refl refl (first_of_sum read_a) (grammar.an_operation {a = word (codes "b") done} {b = word (codes "c") done} Multiplication false refl refl refl (times read_b) (power read_c)))))),
)

pub members : IsRead (codes "a.b(c)[1];") (samples.module_of (more (samples.statement_of (samples.element_of (samples.call_of (samples.member_of samples.a (codes "b")) (more samples.c no_trees)) samples.one)) no_trees))
unfolding unicode_ident longer_stands longer_number_stands spells_number word_value
members =
    let callee = word (codes "a") (sign dot (word (codes "b") done)) in
    let called = word (codes "a") (sign dot (word (codes "b") (group false Round (word (codes "c") done) done))) in
    let all = word (codes "a") (sign dot (word (codes "b") (group false Round (word (codes "c") done) (group false Square (piece false (Number (codes "1")) done) done)))) in (
      all ⧺ sign semicolon done,
      ([], codes ".b(c)[1];", refl, refl, refl, refl, refl, ([], codes "b(c)[1];", refl, refl, refl, refl, refl, ([], codes "(c)[1];", refl, refl, refl, refl, refl, ([], codes "c", codes "[1];", refl, refl, refl, ([], [], refl, refl, refl, refl, refl, refl), ([], codes "1", codes ";", refl, refl, refl, ([], [], refl, refl, refl, refl, refl, refl), ([], [], refl, refl, refl, refl, refl, refl)))))),
      undirected refl (grammar.last_statement (item {a = all} refl (whole (grammar.a_multiplicative (grammar.an_exponent (grammar.a_unary (grammar.an_update (grammar.a_left_hand_side (grammar.a_call (grammar.a_computed_member_of_call {a = called} {inside = piece false (Number (codes "1")) done} false refl (grammar.with_arguments {a = callee} {inside = word (codes "c") done} false refl (grammar.a_called_member (grammar.a_named_member {a = word (codes "a") done} (codes "b") false false refl value_b (grammar.a_primary read_a))) (grammar.some_arguments (grammar.last_argument (grammar.an_element (value (first_of_sum read_c)))))) (whole (first_of_sum (grammar.a_number refl))))))))))))),
    )

-- ---- operators of one operand, `new` and `super`

pub of_unary : {c : Allowed} {ts : Tokens} {t : Tree} → ReadsExpression c Unary ts t → ReadsExpression c Expression ts t
of_unary r = whole (grammar.a_multiplicative (grammar.an_exponent (grammar.a_unary r)))

pub of_left : {c : Allowed} {ts : Tokens} {t : Tree} → ReadsExpression c LeftHandSide ts t → ReadsExpression c Expression ts t
of_left r = of_unary (grammar.an_update (grammar.a_left_hand_side r))

pub two_minuses : IsRead (codes "- -a;") (samples.module_of (more (samples.statement_of (samples.unary_of UnaryNegation (samples.unary_of UnaryNegation samples.a))) no_trees))
unfolding unicode_ident longer_stands word_value
two_minuses = (
  sign minus (sign minus (word (codes "a") (sign semicolon done))),
  ([], codes " -a;", refl, refl, refl, refl, refl, (codes " ", codes "a;", refl, refl, refl, refl, refl, ([], codes ";", refl, refl, refl, refl, refl, ([], [], refl, refl, refl, refl, refl, refl)))),
  undirected refl (grammar.last_statement (item {a = sign minus (sign minus (word (codes "a") done))} refl (of_unary (grammar.a_unary_operation UnaryNegation (grammar.a_unary_operation UnaryNegation (grammar.an_update (update read_a))))))),
)

pub member_of_number : IsRead (codes "1.5.a;") (samples.module_of (more (samples.statement_of (samples.member_of samples.one_and_a_half (codes "a"))) no_trees))
unfolding unicode_ident longer_stands longer_number_stands spells_number word_value
member_of_number =
    let object = piece false (Number (codes "1.5")) done in (
      object ⧺ sign dot (word (codes "a") (sign semicolon done)),
      ([], codes ".a;", refl, refl, refl, refl, refl, ([], codes "a;", refl, refl, refl, refl, refl, ([], codes ";", refl, refl, refl, refl, refl, ([], [], refl, refl, refl, refl, refl, refl)))),
      undirected refl (grammar.last_statement (item {a = object ⧺ sign dot (word (codes "a") done)} refl (of_left (grammar.a_new (grammar.a_member (grammar.a_named_member {a = object} (codes "a") false false refl value_a (grammar.a_primary (grammar.a_number refl)))))))),
    )

pub type_of_member : IsRead (codes "typeof a.b;") (samples.module_of (more (samples.statement_of (samples.unary_of Typeof (samples.member_of samples.a (codes "b")))) no_trees))
unfolding unicode_ident longer_stands word_value
type_of_member =
    let member = word (codes "a") (sign dot (word (codes "b") done)) in (
      word (codes "typeof") (member ⧺ sign semicolon done),
      ([], codes " a.b;", refl, refl, refl, refl, refl, (codes " ", codes ".b;", refl, refl, refl, refl, refl, ([], codes "b;", refl, refl, refl, refl, refl, ([], codes ";", refl, refl, refl, refl, refl, ([], [], refl, refl, refl, refl, refl, refl))))),
      undirected refl (grammar.last_statement (item {a = word (codes "typeof") member} refl (of_unary (grammar.a_unary_operation Typeof (grammar.an_update (grammar.a_left_hand_side (grammar.a_new (grammar.a_member (grammar.a_named_member {a = word (codes "a") done} (codes "b") false false refl value_b (grammar.a_primary read_a)))))))))),
    )

pub update_before : IsRead (codes "++\n(a);") (samples.module_of (more (samples.statement_of (samples.incremented_before samples.a)) no_trees))
unfolding unicode_ident longer_stands word_value
update_before =
    let target = group true Round (word (codes "a") done) done in (
      sign plus_plus (target ⧺ sign semicolon done),
      ([], codes "\n(a);", refl, refl, refl, refl, refl, (codes "\n", codes "a", codes ";", refl, refl, refl, ([], [], refl, refl, refl, refl, refl, refl), ([], [], refl, refl, refl, refl, refl, refl))),
      undirected refl (grammar.last_statement (item {a = sign plus_plus target} refl (of_unary (grammar.an_update (grammar.an_update_before Increment (grammar.an_update (update (grammar.in_parentheses (whole (first_of_sum read_a))))) refl))))),
    )

pub update_behind : IsRead (codes "a++;") (samples.module_of (more (samples.statement_of (samples.incremented_behind samples.a)) no_trees))
unfolding unicode_ident longer_stands word_value
update_behind = (
  word (codes "a") (sign plus_plus (sign semicolon done)),
  ([], codes "++;", refl, refl, refl, refl, refl, ([], codes ";", refl, refl, refl, refl, refl, ([], [], refl, refl, refl, refl, refl, refl))),
  undirected refl (grammar.last_statement (item {a = word (codes "a") (sign plus_plus done)} refl (of_unary (grammar.an_update (grammar.an_update_behind {a = word (codes "a") done} Increment refl (grammar.a_new (grammar.a_member (grammar.a_primary read_a))) refl))))),
)

pub two_news : IsRead (codes "new new a(b);") (samples.module_of (more (samples.statement_of (samples.new_of (samples.new_of samples.a (more samples.b no_trees)) no_trees)) no_trees))
unfolding unicode_ident longer_stands word_value
two_news =
    let arguments = group false Round (word (codes "b") done) done in (
      word (codes "new") (word (codes "new") (word (codes "a") (arguments ⧺ sign semicolon done))),
      ([], codes " new a(b);", refl, refl, refl, refl, refl, (codes " ", codes " a(b);", refl, refl, refl, refl, refl, (codes " ", codes "(b);", refl, refl, refl, refl, refl, ([], codes "b", codes ";", refl, refl, refl, ([], [], refl, refl, refl, refl, refl, refl), ([], [], refl, refl, refl, refl, refl, refl))))),
      undirected refl (grammar.last_statement (item {a = word (codes "new") (word (codes "new") (word (codes "a") arguments))} refl (of_left (grammar.a_new (grammar.new_alone (grammar.a_member (grammar.new_with_arguments {a = word (codes "a") done} {inside = word (codes "b") done} false false refl (grammar.a_primary read_a) (grammar.some_arguments (grammar.last_argument (grammar.an_element (value (first_of_sum read_b)))))))))))),
    )

pub member_of_super : IsRead (codes "super.a;") (samples.module_of (more (samples.statement_of (samples.member_of samples.super (codes "a"))) no_trees))
unfolding unicode_ident longer_stands word_value
member_of_super = (
  word (codes "super") (sign dot (word (codes "a") (sign semicolon done))),
  ([], codes ".a;", refl, refl, refl, refl, refl, ([], codes "a;", refl, refl, refl, refl, refl, ([], codes ";", refl, refl, refl, refl, refl, ([], [], refl, refl, refl, refl, refl, refl)))),
  undirected refl (grammar.last_statement (item {a = word (codes "super") (sign dot (word (codes "a") done))} refl (of_left (grammar.a_new (grammar.a_member (grammar.a_named_member_of_super (codes "a") false false false value_a)))))),
)

pub string : IsRead (codes "(\"a\");") (samples.module_of (more (samples.statement_of (samples.in_parentheses (samples.string_of (codes "a")))) no_trees))
unfolding unicode_ident longer_stands word_value string_value
string =
    let inside = piece false (Quoted Double (codes "a")) done in (
      group false Round inside (sign semicolon done),
      ([], codes "\"a\"", codes ";", refl, refl, refl, ([], [], refl, refl, refl, refl, refl, refl), ([], [], refl, refl, refl, refl, refl, refl)),
      undirected refl (grammar.last_statement (item {a = group false Round inside done} refl (whole (first_of_sum (grammar.in_parentheses (whole (first_of_sum (grammar.a_string {q = Double} {w = codes "a"} {us = codes "a"} refl)))))))),
    )

pub template : IsRead (codes "`\\n`;") (samples.module_of (more (samples.statement_of (samples.string_of (10 ∷ []))) no_trees))
unfolding unicode_ident longer_stands word_value string_value
template = (
  piece false (Quoted Backtick (codes "\\n")) (sign semicolon done),
  ([], codes ";", refl, refl, refl, refl, refl, ([], [], refl, refl, refl, refl, refl, refl)),
  undirected refl (grammar.last_statement (item {a = piece false (Quoted Backtick (codes "\\n")) done} refl (whole (first_of_sum (grammar.a_string {q = Backtick} {w = codes "\\n"} {us = 10 ∷ []} refl))))),
)

pub template_statement : IsRead (codes "`a`;") (samples.module_of (more (samples.statement_of (samples.string_of (codes "a"))) no_trees))
unfolding unicode_ident longer_stands word_value string_value
template_statement = (
  piece false (Quoted Backtick (codes "a")) (sign semicolon done),
  ([], codes ";", refl, refl, refl, refl, refl, ([], [], refl, refl, refl, refl, refl, refl)),
  undirected refl (grammar.last_statement (item {a = piece false (Quoted Backtick (codes "a")) done} refl (whole (first_of_sum (grammar.a_string {q = Backtick} {w = codes "a"} {us = codes "a"} refl))))),
)

pub directive : IsRead (codes "\"a\";") (samples.directed (codes "a") no_trees)
unfolding unicode_ident longer_stands word_value string_value
directive = (
  piece false (Quoted Double (codes "a")) (sign semicolon done),
  ([], codes ";", refl, refl, refl, refl, refl, ([], [], refl, refl, refl, refl, refl, refl)),
  a_module (grammar.a_module_directive {q = Double} {w = codes "a"} {us = codes "a"} refl refl (grammar.module_items refl grammar.no_module_item)),
)

pub use_strict : IsRead (codes "'use strict';a;") (samples.directed (codes "use strict") (more (samples.statement_of samples.a) no_trees))
unfolding unicode_ident longer_stands word_value string_value
use_strict =
    let first = piece false (Quoted Single (codes "use strict")) (sign semicolon done) in
    let second = word (codes "a") (sign semicolon done) in (
      first ⧺ second,
      ([], codes ";a;", refl, refl, refl, refl, refl, ([], codes "a;", refl, refl, refl, refl, refl, ([], codes ";", refl, refl, refl, refl, refl, ([], [], refl, refl, refl, refl, refl, refl)))),
      a_module (grammar.a_module_directive {q = Single} {w = codes "use strict"} {us = codes "use strict"} refl refl (grammar.module_items refl (module_items (grammar.last_statement (item {a = word (codes "a") done} refl (whole (first_of_sum read_a))))))),
    )

pub escaped_name : IsRead (codes "\\u0061;") (samples.module_of (more (samples.statement_of samples.a) no_trees))
unfolding unicode_ident longer_stands word_value
escaped_name = (
  word (codes "\\u0061") (sign semicolon done),
  ([], codes ";", refl, refl, refl, refl, refl, ([], [], refl, refl, refl, refl, refl, refl)),
  undirected refl (grammar.last_statement (item {a = word (codes "\\u0061") done} refl (whole (first_of_sum (grammar.a_reference {w = codes "\\u0061"} {v = codes "a"} refl free_a))))),
)

-- ---- blocks, `if` and a semicolon alone

pub semicolon_alone : IsRead (codes ";") (samples.module_of (more samples.empty no_trees))
unfolding unicode_ident longer_stands word_value
semicolon_alone = (
  sign semicolon done,
  ([], [], refl, refl, refl, refl, refl, refl),
  undirected refl (grammar.last_statement (grammar.a_statement grammar.an_empty_statement)),
)

pub block : IsRead (codes "{a;b}") (samples.module_of (more (samples.block_of (more (samples.statement_of samples.a) (more (samples.statement_of samples.b) no_trees))) no_trees))
unfolding unicode_ident longer_stands word_value
block = (
  group false Brace (word (codes "a") (sign semicolon (word (codes "b") done))) done,
  ([], codes "a;b", [], refl, refl, refl, ([], codes ";b", refl, refl, refl, refl, refl, ([], codes "b", refl, refl, refl, refl, refl, ([], [], refl, refl, refl, refl, refl, refl))), refl),
  undirected refl (grammar.last_statement (grammar.a_statement (grammar.a_block (grammar.first_statement {a = word (codes "a") (sign semicolon done)} {b = word (codes "b") done} refl (item {a = word (codes "a") done} refl (whole (first_of_sum read_a))) (grammar.last_statement (grammar.a_statement (grammar.an_expression_statement grammar.the_brace refl (whole (first_of_sum read_b))))))))),
)

pub empty_in_block : IsRead (codes "{;}") (samples.module_of (more (samples.block_of (more samples.empty no_trees)) no_trees))
unfolding unicode_ident longer_stands word_value
empty_in_block = (
  group false Brace (sign semicolon done) done,
  ([], codes ";", [], refl, refl, refl, ([], [], refl, refl, refl, refl, refl, refl), refl),
  undirected refl (grammar.last_statement (grammar.a_statement (grammar.a_block (grammar.last_statement (grammar.a_statement grammar.an_empty_statement))))),
)

pub without_else : IsRead (codes "if(a)b;") (samples.module_of (more (samples.if_of samples.a (samples.statement_of samples.b) absent) no_trees))
unfolding unicode_ident longer_stands word_value
without_else = (
  word (codes "if") (group false Round (word (codes "a") done) (word (codes "b") (sign semicolon done))),
  ([], codes "(a)b;", refl, refl, refl, refl, refl, ([], codes "a", codes "b;", refl, refl, refl, ([], [], refl, refl, refl, refl, refl, refl), ([], codes ";", refl, refl, refl, refl, refl, ([], [], refl, refl, refl, refl, refl, refl)))),
  undirected refl (grammar.last_statement (grammar.a_statement (grammar.an_if (whole (first_of_sum read_a)) (ended {a = word (codes "b") done} refl (whole (first_of_sum read_b)))))),
)

pub with_else : IsRead (codes "if(a)b;else c;") (samples.module_of (more (samples.if_of samples.a (samples.statement_of samples.b) (given (samples.statement_of samples.c))) no_trees))
unfolding unicode_ident longer_stands word_value
with_else = (
  word (codes "if") (group false Round (word (codes "a") done) (word (codes "b") (sign semicolon (word (codes "else") (word (codes "c") (sign semicolon done)))))),
  ([], codes "(a)b;else c;", refl, refl, refl, refl, refl, ([], codes "a", codes "b;else c;", refl, refl, refl, ([], [], refl, refl, refl, refl, refl, refl), ([], codes ";else c;", refl, refl, refl, refl, refl, ([], codes "else c;", refl, refl, refl, refl, refl, ([], codes " c;", refl, refl, refl, refl, refl, (codes " ", codes ";", refl, refl, refl, refl, refl, ([], [], refl, refl, refl, refl, refl, refl))))))),
  undirected refl (grammar.last_statement (grammar.a_statement (grammar.an_if_with_else {a = word (codes "b") (sign semicolon done)} {b = word (codes "c") (sign semicolon done)} false refl (whole (first_of_sum read_a)) (ended {a = word (codes "b") done} refl (whole (first_of_sum read_b))) (ended {a = word (codes "c") done} refl (whole (first_of_sum read_c)))))),
)

pub last_if : IsRead (codes "if(a)if(b)c;else;") (samples.module_of (more (samples.if_of samples.a (samples.if_of samples.b (samples.statement_of samples.c) (given samples.empty)) absent) no_trees))
unfolding unicode_ident longer_stands word_value
last_if = (
  word (codes "if") (group false Round (word (codes "a") done) (word (codes "if") (group false Round (word (codes "b") done) (word (codes "c") (sign semicolon (word (codes "else") (sign semicolon done))))))),
  ([], codes "(a)if(b)c;else;", refl, refl, refl, refl, refl, ([], codes "a", codes "if(b)c;else;", refl, refl, refl, ([], [], refl, refl, refl, refl, refl, refl), ([], codes "(b)c;else;", refl, refl, refl, refl, refl, ([], codes "b", codes "c;else;", refl, refl, refl, ([], [], refl, refl, refl, refl, refl, refl), ([], codes ";else;", refl, refl, refl, refl, refl, ([], codes "else;", refl, refl, refl, refl, refl, ([], codes ";", refl, refl, refl, refl, refl, ([], [], refl, refl, refl, refl, refl, refl)))))))),
  undirected refl (grammar.last_statement (grammar.a_statement (grammar.an_if (whole (first_of_sum read_a)) (grammar.an_if_with_else {a = word (codes "c") (sign semicolon done)} {b = sign semicolon done} false refl (whole (first_of_sum read_b)) (ended {a = word (codes "c") done} refl (whole (first_of_sum read_c))) grammar.an_empty_statement)))),
)
