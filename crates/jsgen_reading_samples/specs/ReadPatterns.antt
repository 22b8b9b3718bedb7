-- What patterns of bindings and of targets are read as by ECMA-262, worked out by hand.
use Rattle.std.specs.Prelude.{ℕ, List, [], ◌∷◌, Bool, true, false, codes}
use Rattle.jsgen_syntax.specs.declared.operator.BinaryOperator.TheVariants.{In}
use Rattle.jsgen_syntax.specs.declared.operator.AssignmentOperator.TheVariants.{Assign}
use Rattle.jsgen_tree.specs.declared.collections.PropertyKind.TheVariants.{Init}
use Rattle.jsgen_tree.specs.declared.statements.VariableDeclarationKind.{VariableDeclarationKind}
use Rattle.jsgen_tree.specs.declared.statements.VariableDeclarationKind.TheVariants.{Const, Let, Var}
use Rattle.jsgen_tree.specs.Atom.{units, flag, binary_operator, assignment_operator}
use Rattle.jsgen_tree.specs.Tree.{Tree, Maybe, absent, given, Trees, no_trees, more, hole}
use Rattle.jsgen_tree.specs.Places.{bare}
use Rattle.jsgen_tree.specs.Nodes as tree
use Rattle.jsgen_model.specs.Tokens.{Tokens, AreTokensOf}
use Rattle.jsgen_model.specs.Normal.{nothing_of, link_values, by_text, named, unnumbered, declared_as, property_values}
use Rattle.jsgen_model.specs.Grammar.{ReadsModule}

-- the text has tokens, and they are read as this program
abbrev pub IsRead : List ℕ → Tree → Type 0
IsRead source t = (ts : Tokens) × AreTokensOf source ts × ReadsModule ts t

-- ---- trees

abbrev pub module_of : Tree → Tree
module_of statement = tree.program (nothing_of 4) no_trees absent no_trees (more statement no_trees)

abbrev pub reference_of : List ℕ → Tree
reference_of name = tree.identifier_reference (unnumbered name)

abbrev pub a : Tree
a = reference_of (codes "a")

abbrev pub b : Tree
b = reference_of (codes "b")

abbrev pub c : Tree
c = reference_of (codes "c")

abbrev pub d : Tree
d = reference_of (codes "d")

abbrev pub e : Tree
e = reference_of (codes "e")

abbrev pub f : Tree
f = reference_of (codes "f")

abbrev pub name_of : List ℕ → Tree
name_of name = tree.binding_identifier (unnumbered name)

abbrev pub key_of : List ℕ → Tree
key_of name = tree.identifier_name (named name)

abbrev pub string_of : List ℕ → Tree
string_of value = tree.string_literal (bare (units value ∷ []))

abbrev pub in_parentheses : Tree → Tree
in_parentheses inner = tree.parenthesized (nothing_of 0) inner

abbrev pub member_of : Tree → List ℕ → Tree
member_of object name = tree.static_member (link_values false) object (key_of name)

abbrev pub in_of : Tree → Tree → Tree
in_of left right = tree.binary (bare (binary_operator In ∷ [])) left right

abbrev pub conditional_of : Tree → Tree → Tree → Tree
conditional_of test consequent alternate = tree.conditional (nothing_of 0) test consequent alternate

abbrev pub assignment_of : Tree → Tree → Tree
assignment_of target value = tree.assignment (bare (assignment_operator Assign ∷ [])) target value

abbrev pub number_of : List ℕ → Tree
number_of text = tree.numeric_literal (by_text text)

abbrev pub sequence_of : Tree → Tree → Tree
sequence_of first second = tree.sequence (nothing_of 0) (more first (more second no_trees))

abbrev pub object_of : Trees → Tree
object_of properties = tree.object_expression (nothing_of 0) properties

-- an object that has one property, whose name is its key and its value
abbrev pub object_of_name : List ℕ → Tree
object_of_name name = tree.object_expression (nothing_of 0) (more (tree.object_property (property_values Init false true false) (key_of name) (reference_of name)) no_trees)

abbrev pub array_binding : Trees → Maybe → Tree
array_binding elements rest = tree.array_pattern (nothing_of 0) elements rest

abbrev pub object_binding : Trees → Maybe → Tree
object_binding properties rest = tree.object_pattern (nothing_of 0) properties rest

abbrev pub binding_with_default : Tree → Tree → Tree
binding_with_default binding value = tree.assignment_pattern (nothing_of 0) binding value

-- the flag tells that the key is computed
abbrev pub binding_property : Bool → Tree → Tree → Tree
binding_property computed key binding = tree.binding_property (bare (flag computed ∷ [])) key binding

abbrev pub binding_rest : Tree → Tree
binding_rest binding = tree.binding_rest_element (nothing_of 0) binding

abbrev pub array_target : Trees → Maybe → Tree
array_target elements rest = tree.array_target (nothing_of 0) elements rest

abbrev pub object_target : Trees → Maybe → Tree
object_target properties rest = tree.object_target (nothing_of 0) properties rest

abbrev pub target_with_default : Tree → Tree → Tree
target_with_default target value = tree.target_with_default (nothing_of 0) target value

abbrev pub target_property : Bool → Tree → Tree → Tree
target_property computed key target = tree.target_property (bare (flag computed ∷ [])) key target

abbrev pub target_rest : Tree → Tree
target_rest target = tree.target_rest (nothing_of 0) target

abbrev pub parameter : Tree → Maybe → Tree
parameter binding value = tree.formal_parameter (nothing_of 3) binding value

abbrev pub parameter_rest : Tree → Tree
parameter_rest binding = tree.formal_parameter_rest (nothing_of 0) binding

abbrev pub parameters_of : Trees → Maybe → Tree
parameters_of items rest = tree.formal_parameters (nothing_of 0) items rest

abbrev pub arrow_of : Tree → Tree → Tree
arrow_of parameters body = tree.arrow_function (nothing_of 3) parameters body

abbrev pub statement_of : Tree → Tree
statement_of expression = tree.expression_statement (nothing_of 0) expression

abbrev pub declared : Tree → Maybe → Tree
declared binding value = tree.variable_declarator (nothing_of 1) binding value

abbrev pub declarations_of : VariableDeclarationKind → Trees → Tree
declarations_of kind declarators = tree.variable_declaration (declared_as kind) declarators

abbrev pub declaration_of : VariableDeclarationKind → Tree → Maybe → Tree
declaration_of kind binding value = declarations_of kind (more (declared binding value) no_trees)

abbrev pub empty : Tree
empty = tree.empty_statement (nothing_of 0)

-- loops whose body is an empty statement
abbrev pub loop_from : Tree → Tree
loop_from init = tree.for_statement (nothing_of 0) (given init) absent absent empty

abbrev pub over_values : Tree → Tree → Tree
over_values left right = tree.for_of_statement (nothing_of 1) left right empty

abbrev pub over_keys : Tree → Tree → Tree
over_keys left right = tree.for_in_statement (nothing_of 0) left right empty

-- an empty block and its handler, whose block is empty
abbrev pub caught : Tree → Tree
caught binding = tree.try_statement (nothing_of 0) (tree.block (nothing_of 0) no_trees) (given (tree.catch_clause (nothing_of 0) (given binding) (tree.block (nothing_of 0) no_trees))) absent

-- ---- the samples

pub record ReadPatterns : Type 0 where
  -- a pattern of bindings begins with a bracket or a brace (14.3.3)
  pub array_of_bindings : IsRead (codes "let[a]=b;") (module_of (declaration_of Let (array_binding (more (name_of (codes "a")) no_trees) absent) (given b)))
  -- a name alone stands for a key and a name, and behind a key a pattern may stand (14.3.3)
  pub object_of_bindings : IsRead (codes "let{a,b:[c]}=d;") (module_of (declaration_of Let (object_binding (more (binding_property false (key_of (codes "a")) (name_of (codes "a"))) (more (binding_property false (key_of (codes "b")) (array_binding (more (name_of (codes "c")) no_trees) absent)) no_trees)) absent) (given d)))
  -- a pattern has a value (14.3.1), and a name needs none
  pub name_and_pattern : IsRead (codes "let a,[b]=c;") (module_of (declarations_of Let (more (declared (name_of (codes "a")) absent) (more (declared (array_binding (more (name_of (codes "b")) no_trees) absent) (given c)) no_trees))))
  -- a pattern may be empty (14.3.3)
  pub no_element_bound : IsRead (codes "let[]=a;") (module_of (declaration_of Let (array_binding no_trees absent) (given a)))
  -- of either kind (14.3.3)
  pub no_property_bound : IsRead (codes "let{}=a;") (module_of (declaration_of Let (object_binding no_trees absent) (given a)))
  -- one comma leaves one element out, and no element follows it (14.3.3)
  pub elision_alone : IsRead (codes "let[,]=a;") (module_of (declaration_of Let (array_binding (hole no_trees) absent) (given a)))
  -- an element may have a default, and what takes the rest may be a pattern (14.3.3)
  pub defaults_and_rest : IsRead (codes "var[,a=b,...[c]]=d;") (module_of (declaration_of Var (array_binding (hole (more (binding_with_default (name_of (codes "a")) b) no_trees)) (given (binding_rest (array_binding (more (name_of (codes "c")) no_trees) absent)))) (given d)))
  -- in braces it is a name (14.3.3)
  pub rest_of_object : IsRead (codes "let{a=b,...c}=d;") (module_of (declaration_of Let (object_binding (more (binding_property false (key_of (codes "a")) (binding_with_default (name_of (codes "a")) b)) no_trees) (given (binding_rest (name_of (codes "c"))))) (given d)))
  -- a key may be a reserved word or computed (13.2.5), and a pattern behind it may have a default
  pub keys_of_bindings : IsRead (codes "let{if:a,[b]:{c}=d}=e;") (module_of (declaration_of Let (object_binding (more (binding_property false (key_of (codes "if")) (name_of (codes "a"))) (more (binding_property true b (binding_with_default (object_binding (more (binding_property false (key_of (codes "c")) (name_of (codes "c"))) no_trees) absent) d)) no_trees)) absent) (given e)))
  -- within a pattern `in` may stand, also in the head of a loop (14.7.4)
  pub in_in_default : IsRead (codes "for(let[a=b in c]=d;;);") (module_of (loop_from (declaration_of Let (array_binding (more (binding_with_default (name_of (codes "a")) (in_of b c)) no_trees) absent) (given d))))
  -- a pattern that is declared has no value in such a head (14.7.5)
  pub loop_over_pattern : IsRead (codes "for(const{a}of b);") (module_of (over_values (declaration_of Const (object_binding (more (binding_property false (key_of (codes "a")) (name_of (codes "a"))) no_trees) absent) absent) b))
  -- what is caught may be a pattern (14.15)
  pub caught_pattern : IsRead (codes "try{}catch([a]){}") (module_of (caught (array_binding (more (name_of (codes "a")) no_trees) absent)))
  -- so may a parameter, and what takes the rest of them (15.1)
  pub pattern_parameters : IsRead (codes "({a},[b]=c,...[d])=>e;") (module_of (statement_of (arrow_of (parameters_of (more (parameter (object_binding (more (binding_property false (key_of (codes "a")) (name_of (codes "a"))) no_trees) absent) absent) (more (parameter (array_binding (more (name_of (codes "b")) no_trees) absent) (given c)) no_trees)) (given (parameter_rest (array_binding (more (name_of (codes "d")) no_trees) absent)))) e)))
  -- a pattern of targets (13.15.5)
  pub array_of_targets : IsRead (codes "[a]=b;") (module_of (statement_of (assignment_of (array_target (more a no_trees) absent) b)))
  -- one that begins with a brace stands in parentheses, as the brace would begin a block (14.5)
  pub object_of_targets : IsRead (codes "({a,b:[c]}=d);") (module_of (statement_of (in_parentheses (assignment_of (object_target (more (target_property false (key_of (codes "a")) a) (more (target_property false (key_of (codes "b")) (array_target (more c no_trees) absent)) no_trees)) absent) d))))
  -- a pattern may be empty (13.15.5)
  pub no_element_assigned : IsRead (codes "[]=a;") (module_of (statement_of (assignment_of (array_target no_trees absent) a)))
  -- of either kind (13.15.5)
  pub no_property_assigned : IsRead (codes "({}=a);") (module_of (statement_of (in_parentheses (assignment_of (object_target no_trees absent) a))))
  -- a comma leaves an element out, an element may have a default, and what takes the rest may be a pattern (13.15.5)
  pub targets_left_out : IsRead (codes "[,a=b,...[c]]=d;") (module_of (statement_of (assignment_of (array_target (hole (more (target_with_default a b) no_trees)) (given (target_rest (array_target (more c no_trees) absent)))) d)))
  -- in braces it is a name or a member (13.15.5.1)
  pub rest_to_member : IsRead (codes "({a=b,...c.d}=e);") (module_of (statement_of (in_parentheses (assignment_of (object_target (more (target_property false (key_of (codes "a")) (target_with_default a b)) no_trees) (given (target_rest (member_of c (codes "d"))))) e))))
  -- keys that are no names (13.2.5)
  pub keys_of_targets : IsRead (codes "({\"a\":b,[c]:d=e}=f);") (module_of (statement_of (in_parentheses (assignment_of (object_target (more (target_property false (string_of (codes "a")) b) (more (target_property true c (target_with_default d e)) no_trees)) absent) f))))
  -- a pattern may have a default within another (13.15.5)
  pub defaults_of_patterns : IsRead (codes "[[a]=b,{c=d}=e]=f;") (module_of (statement_of (assignment_of (array_target (more (target_with_default (array_target (more a no_trees) absent) b) (more (target_with_default (object_target (more (target_property false (key_of (codes "c")) (target_with_default c d)) no_trees) absent) e) no_trees)) absent) f)))
  -- parentheses round a simple target are away (8.6.4)
  pub target_in_parentheses : IsRead (codes "[(a)]=b;") (module_of (statement_of (assignment_of (array_target (more a no_trees) absent) b)))
  -- an object of which a member is taken is no pattern (13.15.5)
  pub member_of_object : IsRead (codes "[{a}.b]=c;") (module_of (statement_of (assignment_of (array_target (more (member_of (object_of_name (codes "a")) (codes "b")) no_trees) absent) c)))
  -- a pattern gets the values of a loop (14.7.5)
  pub loop_into_array : IsRead (codes "for([a]of b);") (module_of (over_values (array_target (more a no_trees) absent) b))
  -- or the keys (14.7.5)
  pub loop_into_object : IsRead (codes "for({a}in b);") (module_of (over_keys (object_target (more (target_property false (key_of (codes "a")) a) no_trees) absent) b))
  -- assignments on both sides of a choice (13.14), where a brace begins no statement
  pub sides_of_choice : IsRead (codes "a?[b]=c:{d}=e;") (module_of (statement_of (conditional_of a (assignment_of (array_target (more b no_trees) absent) c) (assignment_of (object_target (more (target_property false (key_of (codes "d")) d) no_trees) absent) e))))
  -- properties of each kind (14.3.3)
  pub kinds_of_properties : IsRead (codes "let{a,b:c,d=1,e:{f},...g}=h;") (module_of (declaration_of Let (object_binding (more (binding_property false (key_of (codes "a")) (name_of (codes "a"))) (more (binding_property false (key_of (codes "b")) (name_of (codes "c"))) (more (binding_property false (key_of (codes "d")) (binding_with_default (name_of (codes "d")) (number_of (codes "1")))) (more (binding_property false (key_of (codes "e")) (object_binding (more (binding_property false (key_of (codes "f")) (name_of (codes "f"))) no_trees) absent)) no_trees)))) (given (binding_rest (name_of (codes "g"))))) (given (reference_of (codes "h")))))
  -- with white space between tokens (12.2)
  pub kinds_of_properties_with_spaces : IsRead (codes "let { a, b: c, d = 1, e: { f }, ...g } = h;") (module_of (declaration_of Let (object_binding (more (binding_property false (key_of (codes "a")) (name_of (codes "a"))) (more (binding_property false (key_of (codes "b")) (name_of (codes "c"))) (more (binding_property false (key_of (codes "d")) (binding_with_default (name_of (codes "d")) (number_of (codes "1")))) (more (binding_property false (key_of (codes "e")) (object_binding (more (binding_property false (key_of (codes "f")) (name_of (codes "f"))) no_trees) absent)) no_trees)))) (given (binding_rest (name_of (codes "g"))))) (given (reference_of (codes "h")))))
  -- a reserved word, a string and a value as keys (13.2.5)
  pub keys_that_are_no_names : IsRead (codes "let{if:a,\"b\":b,[c]:d}=e;") (module_of (declaration_of Let (object_binding (more (binding_property false (key_of (codes "if")) (name_of (codes "a"))) (more (binding_property false (string_of (codes "b")) (name_of (codes "b"))) (more (binding_property true c (name_of (codes "d"))) no_trees))) absent) (given e)))
  -- with white space between tokens (12.2)
  pub keys_that_are_no_names_with_spaces : IsRead (codes "let { if: a, \"b\": b, [c]: d } = e;") (module_of (declaration_of Let (object_binding (more (binding_property false (key_of (codes "if")) (name_of (codes "a"))) (more (binding_property false (string_of (codes "b")) (name_of (codes "b"))) (more (binding_property true c (name_of (codes "d"))) no_trees))) absent) (given e)))
  -- a name alone with a default (14.3.3)
  pub name_with_default : IsRead (codes "let{b=1}=d;") (module_of (declaration_of Let (object_binding (more (binding_property false (key_of (codes "b")) (binding_with_default (name_of (codes "b")) (number_of (codes "1")))) no_trees) absent) (given d)))
  -- with white space between tokens (12.2)
  pub name_with_default_with_spaces : IsRead (codes "let { b = 1 } = d;") (module_of (declaration_of Let (object_binding (more (binding_property false (key_of (codes "b")) (binding_with_default (name_of (codes "b")) (number_of (codes "1")))) no_trees) absent) (given d)))
