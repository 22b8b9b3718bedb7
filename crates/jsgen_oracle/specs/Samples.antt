-- What a few texts are read as by ECMA-262, worked out by hand.
use Rattle.std.specs.Prelude.{ℕ, List, [], ◌∷◌, true, false, codes}
use Rattle.jsgen_syntax.specs.declared.operator.BinaryOperator.TheVariants.{Addition, Subtraction, Multiplication, Exponential}
use Rattle.jsgen_syntax.specs.declared.operator.UnaryOperator.{UnaryOperator}
use Rattle.jsgen_syntax.specs.declared.operator.UnaryOperator.TheVariants.{UnaryNegation, Typeof}
use Rattle.jsgen_syntax.specs.declared.operator.UpdateOperator.TheVariants.{Increment}
use Rattle.jsgen_syntax.specs.declared.operator.AssignmentOperator.TheVariants.{Assign}
use Rattle.jsgen_tree.specs.declared.statements.VariableDeclarationKind.TheVariants.{Const}
use Rattle.jsgen_tree.specs.Atom.{units, flag, binary_operator, unary_operator, update_operator, assignment_operator}
use Rattle.jsgen_tree.specs.Tree.{Tree, Maybe, absent, given, Trees, no_trees, more}
use Rattle.jsgen_tree.specs.Nodes as tree
use Rattle.jsgen_model.specs.Tokens.{Tokens, AreTokensOf}
use Rattle.jsgen_tree.specs.Places.{bare}
use Rattle.jsgen_model.specs.Normal.{nothing_of, link_values, call_values, named, unnumbered, by_text, declared_as}
use Rattle.jsgen_model.specs.Grammar.{ReadsModule}

-- the text has tokens, and they are read as this program
abbrev pub IsRead : List ℕ → Tree → Type 0
IsRead source t = (ts : Tokens) × AreTokensOf source ts × ReadsModule ts t

-- ---- trees

abbrev pub module_of : Trees → Tree
module_of statements = tree.program (nothing_of 4) no_trees absent no_trees statements

abbrev pub directed : List ℕ → Trees → Tree
directed value statements = tree.program (nothing_of 4) no_trees absent (more (tree.directive (bare (units value ∷ []))) no_trees) statements

abbrev pub a : Tree
a = tree.identifier_reference (unnumbered (codes "a"))

abbrev pub b : Tree
b = tree.identifier_reference (unnumbered (codes "b"))

abbrev pub c : Tree
c = tree.identifier_reference (unnumbered (codes "c"))

abbrev pub d : Tree
d = tree.identifier_reference (unnumbered (codes "d"))

abbrev pub e : Tree
e = tree.identifier_reference (unnumbered (codes "e"))

abbrev pub one : Tree
one = tree.numeric_literal (by_text (codes "1"))

abbrev pub one_and_a_half : Tree
one_and_a_half = tree.numeric_literal (by_text (codes "1.5"))

abbrev pub half : Tree
half = tree.numeric_literal (by_text (codes ".5"))

abbrev pub sum_of : Tree → Tree → Tree
sum_of left right = tree.binary (bare (binary_operator Addition ∷ [])) left right

abbrev pub difference_of : Tree → Tree → Tree
difference_of left right = tree.binary (bare (binary_operator Subtraction ∷ [])) left right

abbrev pub product_of : Tree → Tree → Tree
product_of left right = tree.binary (bare (binary_operator Multiplication ∷ [])) left right

abbrev pub power_of : Tree → Tree → Tree
power_of left right = tree.binary (bare (binary_operator Exponential ∷ [])) left right

abbrev pub in_parentheses : Tree → Tree
in_parentheses inner = tree.parenthesized (nothing_of 0) inner

abbrev pub string_of : List ℕ → Tree
string_of value = tree.string_literal (bare (units value ∷ []))

abbrev pub member_of : Tree → List ℕ → Tree
member_of object name = tree.static_member (link_values false) object (tree.identifier_name (named name))

abbrev pub element_of : Tree → Tree → Tree
element_of object expression = tree.computed_member (link_values false) object expression

abbrev pub call_of : Tree → Trees → Tree
call_of callee arguments = tree.call (call_values false) callee arguments

abbrev pub unary_of : UnaryOperator → Tree → Tree
unary_of operator argument = tree.unary (bare (unary_operator operator ∷ [])) argument

abbrev pub incremented_before : Tree → Tree
incremented_before argument = tree.update (bare (update_operator Increment ∷ flag true ∷ [])) argument

abbrev pub incremented_behind : Tree → Tree
incremented_behind argument = tree.update (bare (update_operator Increment ∷ flag false ∷ [])) argument

abbrev pub new_of : Tree → Trees → Tree
new_of callee arguments = tree.new_expression (nothing_of 1) callee arguments

abbrev pub conditional_of : Tree → Tree → Tree → Tree
conditional_of test consequent alternate = tree.conditional (nothing_of 0) test consequent alternate

abbrev pub sequence_of : Trees → Tree
sequence_of expressions = tree.sequence (nothing_of 0) expressions

abbrev pub assignment_of : Tree → Tree → Tree
assignment_of target value = tree.assignment (bare (assignment_operator Assign ∷ [])) target value

abbrev pub optional_member_of : Tree → List ℕ → Tree
optional_member_of object name = tree.static_member (link_values true) object (tree.identifier_name (named name))

abbrev pub optional_element_of : Tree → Tree → Tree
optional_element_of object expression = tree.computed_member (link_values true) object expression

abbrev pub chain_of : Tree → Tree
chain_of last = tree.chain (nothing_of 0) last

abbrev pub empty_object : Tree
empty_object = tree.object_expression (nothing_of 0) no_trees

abbrev pub arrow_of : Tree → Tree → Tree
arrow_of parameters body = tree.arrow_function (nothing_of 3) parameters body

abbrev pub parameters_of : Trees → Maybe → Tree
parameters_of items rest = tree.formal_parameters (nothing_of 0) items rest

abbrev pub parameter : List ℕ → Maybe → Tree
parameter name value = tree.formal_parameter (nothing_of 3) (tree.binding_identifier (unnumbered name)) value

abbrev pub rest_in : List ℕ → Tree
rest_in name = tree.formal_parameter_rest (nothing_of 0) (tree.binding_identifier (unnumbered name))

abbrev pub one_parameter : List ℕ → Tree
one_parameter name = parameters_of (more (parameter name absent) no_trees) absent

-- a function without parameters whose body is empty
abbrev pub empty_body : Tree
empty_body = tree.function_body (nothing_of 0) no_trees no_trees

abbrev pub return_of : Maybe → Tree
return_of result = tree.return_statement (nothing_of 0) result

abbrev pub super : Tree
super = tree.super (nothing_of 0)

abbrev pub statement_of : Tree → Tree
statement_of expression = tree.expression_statement (nothing_of 0) expression

abbrev pub bound : List ℕ → Maybe → Tree
bound name value = tree.variable_declarator (nothing_of 1) (tree.binding_identifier (unnumbered name)) value

abbrev pub const_of : Trees → Tree
const_of bounds = tree.variable_declaration (declared_as Const) bounds

abbrev pub block_of : Trees → Tree
block_of statements = tree.block (nothing_of 0) statements

abbrev pub if_of : Tree → Tree → Maybe → Tree
if_of test consequent alternate = tree.if_statement (nothing_of 0) test consequent alternate

abbrev pub empty : Tree
empty = tree.empty_statement (nothing_of 0)

-- ---- the samples

pub record GrammarSamples : Type 0 where
  pub nothing : IsRead (codes "") (module_of no_trees)
  pub two_statements : IsRead (codes "a;b;") (module_of (more (statement_of a) (more (statement_of b) no_trees)))
  -- `+` and `-` group to the left (13.8)
  pub to_the_left : IsRead (codes "a+b-c;") (module_of (more (statement_of (difference_of (sum_of a b) c)) no_trees))
  pub to_the_right : IsRead (codes "a-(b-c);") (module_of (more (statement_of (difference_of a (in_parentheses (difference_of b c)))) no_trees))
  -- `**` groups to the right (13.6), `*` before `+` (13.7)
  pub powers_to_the_right : IsRead (codes "a**b**c;") (module_of (more (statement_of (power_of a (power_of b c))) no_trees))
  pub product_in_sum : IsRead (codes "a+b*c;") (module_of (more (statement_of (sum_of a (product_of b c))) no_trees))
  pub parentheses : IsRead (codes "(a);") (module_of (more (statement_of (in_parentheses a)) no_trees))
  pub declarators : IsRead (codes "const a=1,b=c;") (module_of (more (const_of (more (bound (codes "a") (given one)) (more (bound (codes "b") (given c)) no_trees))) no_trees))
  -- by the grammar; that a constant needs a value is an early error (14.3.1.1)
  pub without_value : IsRead (codes "const a;") (module_of (more (const_of (more (bound (codes "a") absent) no_trees)) no_trees))
  -- a line end before `+` ends no statement (12.10)
  pub over_lines : IsRead (codes "a\n+b;") (module_of (more (statement_of (sum_of a b)) no_trees))
  -- members and calls group to the left (13.3)
  pub members : IsRead (codes "a.b(c)[1];") (module_of (more (statement_of (element_of (call_of (member_of a (codes "b")) (more c no_trees)) one)) no_trees))
  -- operators before an operand group from the right (13.5)
  pub two_minuses : IsRead (codes "- -a;") (module_of (more (statement_of (unary_of UnaryNegation (unary_of UnaryNegation a))) no_trees))
  -- a dot behind a number that has one is no part of it (12.9.3)
  pub member_of_number : IsRead (codes "1.5.a;") (module_of (more (statement_of (member_of one_and_a_half (codes "a"))) no_trees))
  pub type_of_member : IsRead (codes "typeof a.b;") (module_of (more (statement_of (unary_of Typeof (member_of a (codes "b")))) no_trees))
  -- `++` before its operand, from which a line end may part it, and behind it (13.4); parentheses round a target are away (8.6.4)
  pub update_before : IsRead (codes "++\n(a);") (module_of (more (statement_of (incremented_before a)) no_trees))
  pub update_behind : IsRead (codes "a++;") (module_of (more (statement_of (incremented_behind a)) no_trees))
  -- arguments go with the last `new` that has none (13.3.5)
  pub two_news : IsRead (codes "new new a(b);") (module_of (more (statement_of (new_of (new_of a (more b no_trees)) no_trees)) no_trees))
  pub member_of_super : IsRead (codes "super.a;") (module_of (more (statement_of (member_of super (codes "a"))) no_trees))
  -- the last alternate takes as much as it can (13.14)
  pub choices_to_the_right : IsRead (codes "a?b:c?d:e;") (module_of (more (statement_of (conditional_of a b (conditional_of c d e))) no_trees))
  -- `?.` before a digit is no sign, and the number begins with its dot (12.8)
  pub number_behind_question : IsRead (codes "a?.5:b;") (module_of (more (statement_of (conditional_of a half b)) no_trees))
  pub sequence : IsRead (codes "a,b;") (module_of (more (statement_of (sequence_of (more a (more b no_trees)))) no_trees))
  -- assignments group to the right (13.15)
  pub assignments_to_the_right : IsRead (codes "a=b=c;") (module_of (more (statement_of (assignment_of a (assignment_of b c))) no_trees))
  -- parentheses round a target are away (8.6.4)
  pub assignment_to_parentheses : IsRead (codes "(a)=b;") (module_of (more (statement_of (assignment_of a b)) no_trees))
  pub assignment_in_alternate : IsRead (codes "a?b:c=d;") (module_of (more (statement_of (conditional_of a b (assignment_of c d))) no_trees))
  -- the links behind an optional one are of its chain (13.3)
  pub chain : IsRead (codes "a?.b.c;") (module_of (more (statement_of (chain_of (member_of (optional_member_of a (codes "b")) (codes "c")))) no_trees))
  pub optional_element : IsRead (codes "a?.[b];") (module_of (more (statement_of (chain_of (optional_element_of a b))) no_trees))
  -- one parameter by its name alone, and parameters in parentheses (15.3)
  pub arrow_with_name : IsRead (codes "a=>b;") (module_of (more (statement_of (arrow_of (one_parameter (codes "a")) b)) no_trees))
  pub parameters : IsRead (codes "(a,b=1,...c)=>a;") (module_of (more (statement_of (arrow_of (parameters_of (more (parameter (codes "a") absent) (more (parameter (codes "b") (given one)) no_trees)) (given (rest_in (codes "c")))) a)) no_trees))
  -- an object that is a body stands in parentheses
  pub arrow_to_object : IsRead (codes "()=>({});") (module_of (more (statement_of (arrow_of (parameters_of no_trees absent) (in_parentheses empty_object))) no_trees))
  -- a comma may end the parameters (15.1)
  pub comma_behind_parameters : IsRead (codes "(a,)=>b;") (module_of (more (statement_of (arrow_of (one_parameter (codes "a")) b)) no_trees))
  -- a body takes as much as it can
  pub arrow_to_arrow : IsRead (codes "a=>b=>c;") (module_of (more (statement_of (arrow_of (one_parameter (codes "a")) (arrow_of (one_parameter (codes "b")) c))) no_trees))
  pub arrow_to_choice : IsRead (codes "(a)=>a?b:c;") (module_of (more (statement_of (arrow_of (one_parameter (codes "a")) (conditional_of a b c))) no_trees))
  pub arrow_in_alternate : IsRead (codes "a?(b):c=>d;") (module_of (more (statement_of (conditional_of a (in_parentheses b) (arrow_of (one_parameter (codes "c")) d))) no_trees))
  pub string : IsRead (codes "(\"a\");") (module_of (more (statement_of (in_parentheses (string_of (codes "a")))) no_trees))
  -- a template may begin a program, since it is no directive (11.2.1), and an escape is read
  pub template : IsRead (codes "`\\n`;") (module_of (more (statement_of (string_of (10 ∷ []))) no_trees))
  pub template_statement : IsRead (codes "`a`;") (module_of (more (statement_of (string_of (codes "a"))) no_trees))
  -- a string in other quotes that begins a program is a directive (11.2.1)
  pub directive : IsRead (codes "\"a\";") (directed (codes "a") no_trees)
  pub use_strict : IsRead (codes "'use strict';a;") (directed (codes "use strict") (more (statement_of a) no_trees))
  -- an escape in a name is its character (12.7)
  pub escaped_name : IsRead (codes "\\u0061;") (module_of (more (statement_of a) no_trees))
  pub semicolon_alone : IsRead (codes ";") (module_of (more empty no_trees))
  -- before a closing brace the semicolon may be omitted (12.10)
  pub block : IsRead (codes "{a;b}") (module_of (more (block_of (more (statement_of a) (more (statement_of b) no_trees))) no_trees))
  pub empty_in_block : IsRead (codes "{;}") (module_of (more (block_of (more empty no_trees)) no_trees))
  pub without_else : IsRead (codes "if(a)b;") (module_of (more (if_of a (statement_of b) absent) no_trees))
  pub with_else : IsRead (codes "if(a)b;else c;") (module_of (more (if_of a (statement_of b) (given (statement_of c))) no_trees))
  -- `else` goes with the last `if` that has none (14.6); that the grammar reads no tokens twice is a law of jsgen_one_reading
  pub last_if : IsRead (codes "if(a)if(b)c;else;") (module_of (more (if_of a (if_of b (statement_of c) (given empty)) absent) no_trees))
