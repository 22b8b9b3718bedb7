-- What functions, methods and accessors are read as by ECMA-262, worked out by hand.
use Rattle.std.specs.Prelude.{ℕ, List, [], ◌∷◌, Bool, true, false, codes}
use Rattle.jsgen_tree.specs.declared.collections.PropertyKind.{PropertyKind}
use Rattle.jsgen_tree.specs.declared.collections.PropertyKind.TheVariants.{Init, Get, Set}
use Rattle.jsgen_tree.specs.declared.functions.FunctionKind.{FunctionKind}
use Rattle.jsgen_tree.specs.declared.functions.FunctionKind.TheVariants.{Declaration, Expression}
use Rattle.jsgen_tree.specs.Atom.{no_value, units}
use Rattle.jsgen_tree.specs.Tree.{Tree, Maybe, absent, given, Trees, no_trees, more}
use Rattle.jsgen_tree.specs.Nodes as tree
use Rattle.jsgen_tree.specs.Places.{bare}
use Rattle.jsgen_model.specs.Normal.{nothing_of, named, unnumbered, function_values, property_values}
use Rattle.jsgen_oracle.specs.Samples.{IsRead, module_of, statement_of, block_of, in_parentheses, assignment_of, call_of, arrow_of, parameters_of, parameter, rest_in, one_parameter, return_of, empty_body, string_of, a, b, one}

-- ---- trees

abbrev pub name_of : List ℕ → Maybe
name_of name = given (tree.binding_identifier (unnumbered name))

abbrev pub no_parameters : Tree
no_parameters = parameters_of no_trees absent

abbrev pub body_with : Trees → Tree
body_with statements = tree.function_body (nothing_of 0) no_trees statements

-- a body whose one directive is `use strict`
abbrev pub directed_body : Trees → Tree
directed_body statements = tree.function_body (nothing_of 0) (more (tree.directive (bare (units (codes "use strict") ∷ []))) no_trees) statements

abbrev pub function_with : FunctionKind → Maybe → Tree → Tree → Tree
function_with kind name parameters body = tree.function (function_values kind no_value no_value no_value) name parameters (given body)

abbrev pub object_of : Trees → Tree
object_of properties = tree.object_expression (nothing_of 0) properties

abbrev pub key_of : List ℕ → Tree
key_of name = tree.identifier_name (named name)

-- an accessor, or a method by the flag
abbrev pub accessor_of : PropertyKind → Bool → Tree → Tree → Tree → Tree
accessor_of kind method key parameters body = tree.object_property (property_values kind method false false) key (function_with Expression absent parameters body)

-- the same without parameters, by a computed key
abbrev pub computed_of : PropertyKind → Bool → Tree → Tree → Tree
computed_of kind method key body = tree.object_property (property_values kind method false true) key (function_with Expression absent no_parameters body)

-- ---- the samples

pub record FunctionSamples : Type 0 where
  pub declaration : IsRead (codes "function f(){}") (module_of (more (function_with Declaration (name_of (codes "f")) no_parameters empty_body) no_trees))
  -- parameters are those of an arrow function (15.1), and before a closing brace the semicolon may be omitted (12.10)
  pub parameters : IsRead (codes "function f(a,b=1,...c){return a}") (module_of (more (function_with Declaration (name_of (codes "f")) (parameters_of (more (parameter (codes "a") absent) (more (parameter (codes "b") (given one)) no_trees)) (given (rest_in (codes "c")))) (body_with (more (return_of (given a)) no_trees))) no_trees))
  pub comma_behind_parameters : IsRead (codes "function f(a,){}") (module_of (more (function_with Declaration (name_of (codes "f")) (one_parameter (codes "a")) empty_body) no_trees))
  -- no semicolon ends a declaration
  pub declaration_and_statement : IsRead (codes "function f(){}a;") (module_of (more (function_with Declaration (name_of (codes "f")) no_parameters empty_body) (more (statement_of a) no_trees)))
  -- a block has declarations too (14.2)
  pub declaration_in_block : IsRead (codes "{function f(){}}") (module_of (more (block_of (more (function_with Declaration (name_of (codes "f")) no_parameters empty_body) no_trees)) no_trees))
  pub declaration_in_body : IsRead (codes "function f(){function a(){}}") (module_of (more (function_with Declaration (name_of (codes "f")) no_parameters (body_with (more (function_with Declaration (name_of (codes "a")) no_parameters empty_body) no_trees))) no_trees))
  -- in an expression the name may be omitted, and it begins no statement (14.5)
  pub nameless : IsRead (codes "(function(){});") (module_of (more (statement_of (in_parentheses (function_with Expression absent no_parameters empty_body))) no_trees))
  pub named_in_assignment : IsRead (codes "a=function b(){};") (module_of (more (statement_of (assignment_of a (function_with Expression (name_of (codes "b")) no_parameters empty_body))) no_trees))
  -- a function in parentheses may be called (13.3)
  pub called : IsRead (codes "(function(){})();") (module_of (more (statement_of (call_of (in_parentheses (function_with Expression absent no_parameters empty_body)) no_trees)) no_trees))
  -- a brace behind an arrow begins a body (15.3)
  pub arrow_with_body : IsRead (codes "a=>{};") (module_of (more (statement_of (arrow_of (one_parameter (codes "a")) empty_body)) no_trees))
  pub arrow_that_returns : IsRead (codes "a=>{return b};") (module_of (more (statement_of (arrow_of (one_parameter (codes "a")) (body_with (more (return_of (given b)) no_trees)))) no_trees))
  pub return_and_statement : IsRead (codes "function f(){return;a}") (module_of (more (function_with Declaration (name_of (codes "f")) no_parameters (body_with (more (return_of absent) (more (statement_of a) no_trees)))) no_trees))
  -- methods and accessors (15.4)
  pub methods : IsRead (codes "({get a(){return 1},set a(b){},c(d){}});") (module_of (more (statement_of (in_parentheses (object_of (more (accessor_of Get false (key_of (codes "a")) no_parameters (body_with (more (return_of (given one)) no_trees))) (more (accessor_of Set false (key_of (codes "a")) (one_parameter (codes "b")) empty_body) (more (accessor_of Init true (key_of (codes "c")) (one_parameter (codes "d")) empty_body) no_trees)))))) no_trees))
  -- `get` before parameters is a key
  pub method_get : IsRead (codes "({get(){}});") (module_of (more (statement_of (in_parentheses (object_of (more (accessor_of Init true (key_of (codes "get")) no_parameters empty_body) no_trees)))) no_trees))
  pub computed_getter : IsRead (codes "({get[a](){}});") (module_of (more (statement_of (in_parentheses (object_of (more (computed_of Get false a empty_body) no_trees)))) no_trees))
  -- a body begins with directives too (11.2.1)
  pub directive_in_body : IsRead (codes "function f(){\"use strict\";a}") (module_of (more (function_with Declaration (name_of (codes "f")) no_parameters (directed_body (more (statement_of a) no_trees))) no_trees))
  pub last_directive : IsRead (codes "function f(){\"use strict\"}") (module_of (more (function_with Declaration (name_of (codes "f")) no_parameters (directed_body no_trees)) no_trees))
  -- a key is a string, a number or computed too (13.2.5)
  pub keys : IsRead (codes "({\"a\"(){},1(){},[b](){}});") (module_of (more (statement_of (in_parentheses (object_of (more (accessor_of Init true (string_of (codes "a")) no_parameters empty_body) (more (accessor_of Init true one no_parameters empty_body) (more (computed_of Init true b empty_body) no_trees)))))) no_trees))
  pub setter_with_value : IsRead (codes "({set a(b=1){}});") (module_of (more (statement_of (in_parentheses (object_of (more (accessor_of Set false (key_of (codes "a")) (parameters_of (more (parameter (codes "b") (given one)) no_trees) absent) empty_body) no_trees)))) no_trees))
  pub function_in_parameter : IsRead (codes "function f(a=function(){}){}") (module_of (more (function_with Declaration (name_of (codes "f")) (parameters_of (more (parameter (codes "a") (given (function_with Expression absent no_parameters empty_body))) no_trees) absent) empty_body) no_trees))
  pub arrow_with_rest : IsRead (codes "(a,...b)=>{return};") (module_of (more (statement_of (arrow_of (parameters_of (more (parameter (codes "a") absent) no_trees) (given (rest_in (codes "b")))) (body_with (more (return_of absent) no_trees)))) no_trees))
