-- What async functions, generators, `await`, `yield` and loops that wait are read as by ECMA-262, worked out by hand.
use Rattle.std.specs.Prelude.{[], ◌∷◌, Bool, true, false, codes}
use Rattle.jsgen_tree.specs.declared.collections.PropertyKind.TheVariants.{Init}
use Rattle.jsgen_tree.specs.declared.functions.FunctionKind.{FunctionKind}
use Rattle.jsgen_tree.specs.declared.functions.FunctionKind.TheVariants.{Declaration, Expression}
use Rattle.jsgen_tree.specs.Atom.{flag, no_value}
use Rattle.jsgen_tree.specs.Tree.{Tree, Maybe, absent, given, Trees, no_trees, more}
use Rattle.jsgen_tree.specs.Places.{bare}
use Rattle.jsgen_tree.specs.Nodes as tree
use Rattle.jsgen_model.specs.Normal.{nothing_of, if_set, call_values, function_values, property_values}
use Rattle.jsgen_reading_samples.specs.ReadPatterns.{IsRead, module_of, reference_of, a, name_of, key_of, in_parentheses, object_of, parameters_of, statement_of, empty}

-- ---- trees

abbrev pub await_of : Tree → Tree
await_of operand = tree.await_expression (nothing_of 0) operand

-- what is given is absent where `yield` stands alone
abbrev pub yield_of : Maybe → Tree
yield_of operand = tree.yield_expression (bare (flag false ∷ [])) operand

abbrev pub delegation_of : Tree → Tree
delegation_of operand = tree.yield_expression (bare (flag true ∷ [])) (given operand)

-- a call without arguments
abbrev pub call_of : Tree → Tree
call_of callee = tree.call (call_values false) callee no_trees

abbrev pub async_arrow_of : Tree → Tree → Tree
async_arrow_of parameters body = tree.arrow_function (bare (flag true ∷ no_value ∷ no_value ∷ [])) parameters body

-- a function without parameters; the flags tell that it is `async`, and a generator
abbrev pub function_with : FunctionKind → Bool → Bool → Maybe → Trees → Tree
function_with kind async generator name statements = tree.function (function_values kind (if_set async) (if_set generator) no_value) name (parameters_of no_trees absent) (given (tree.function_body (nothing_of 0) no_trees statements))

-- a method whose body is empty, with the same flags
abbrev pub method_of : Bool → Bool → Tree → Tree
method_of async generator key = tree.object_property (property_values Init true false false) key (function_with Expression async generator absent no_trees)

-- a loop that waits for each value, whose body is an empty statement
abbrev pub over_awaited : Tree → Tree → Tree
over_awaited left right = tree.for_of_statement (bare (flag true ∷ [])) left right empty

-- ---- the samples

pub record ReadFunctions : Type 0 where
  -- `await` is an operator in a module (16.2)
  pub await_in_module : IsRead (codes "await a;") (module_of (statement_of (await_of a)))
  -- a loop may wait for each value there, and before its `of` the target may be `async` (14.7.5)
  pub loop_that_waits : IsRead (codes "for await (async of x);") (module_of (over_awaited (reference_of (codes "async")) (reference_of (codes "x"))))
  -- the word `async` begins an arrow function, in whose body `await` is an operator (15.9)
  pub async_arrow : IsRead (codes "async () => await a;") (module_of (statement_of (async_arrow_of (parameters_of no_trees absent) (await_of a))))
  -- a function with the word, whose name it may be too (15.8)
  pub async_function : IsRead (codes "async function async() { async(); }") (module_of (function_with Declaration true false (given (name_of (codes "async"))) (more (statement_of (call_of (reference_of (codes "async")))) no_trees)))
  -- in the body of a generator `yield` is an operator, which stands alone or gives what is on its line (15.5)
  pub yields_in_generator : IsRead (codes "function* g() { yield yield yield; }") (module_of (function_with Declaration false true (given (name_of (codes "g"))) (more (statement_of (yield_of (given (yield_of (given (yield_of absent)))))) no_trees)))
  -- behind a star it hands on values (15.5)
  pub delegations : IsRead (codes "function* g() { yield* yield* a; }") (module_of (function_with Declaration false true (given (name_of (codes "g"))) (more (statement_of (delegation_of (delegation_of a))) no_trees)))
  -- methods that are `async`, generators, or both (15.4 to 15.6 and 15.8)
  pub async_methods : IsRead (codes "({async a() {}, *b() {}, async *c() {}});") (module_of (statement_of (in_parentheses (object_of (more (method_of true false (key_of (codes "a"))) (more (method_of false true (key_of (codes "b"))) (more (method_of true true (key_of (codes "c"))) no_trees)))))))
