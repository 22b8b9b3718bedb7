-- Generated from tools/vectors/chosen.json; edit that and run tools/vectors/generate.
-- What texts are read as by ECMA-262: async.
use Rattle.std.specs.Prelude.{[], ◌∷◌, true, false, codes}
use Rattle.jsgen_syntax.specs.declared.operator.BinaryOperator.TheVariants as operators
use Rattle.jsgen_tree.specs.declared.statements.VariableDeclarationKind.TheVariants.{Const}
use Rattle.jsgen_tree.specs.declared.collections.PropertyKind.TheVariants.{Init}
use Rattle.jsgen_tree.specs.declared.functions.FunctionKind.TheVariants as kinds
use Rattle.jsgen_tree.specs.Atom.{binary_operator}
use Rattle.jsgen_tree.specs.Tree.{absent, given, no_trees, more}
use Rattle.jsgen_tree.specs.Places.{bare}
use Rattle.jsgen_tree.specs.Nodes as tree
use Rattle.jsgen_model.specs.Normal.{nothing_of, call_values, declared_as, property_values}
use Rattle.jsgen_model.specs.Grammar.{function_of, arrow_values, loop_values, computed_values}
use Rattle.jsgen_reading_vectors.specs.Reading.{IsRead, program_of, statement_of, reference_of, name_of, key_of}

pub record VectorsAsync : Type 0 where
  -- `await` is an operator in a module (16.2)
  pub await_in_module : IsRead (codes "await a;") (program_of no_trees (more (statement_of (tree.await_expression (nothing_of 0) (reference_of (codes "a")))) no_trees))
  -- what it waits for may be on the next line (15.8)
  pub operand_on_next_line : IsRead (codes "await\n[a];") (program_of no_trees (more (statement_of (tree.await_expression (nothing_of 0) (tree.array (nothing_of 0) (more (reference_of (codes "a")) no_trees)))) no_trees))
  -- before `**` it stands in parentheses, and behind it not (13.6)
  pub power_of_awaited : IsRead (codes "(await a) ** await b;") (program_of no_trees (more (statement_of (tree.binary (bare (binary_operator operators.Exponential ∷ [])) (tree.parenthesized (nothing_of 0) (tree.await_expression (nothing_of 0) (reference_of (codes "a")))) (tree.await_expression (nothing_of 0) (reference_of (codes "b"))))) no_trees))
  -- under `new` it stands in parentheses (13.3.5)
  pub new_of_awaited : IsRead (codes "new (await a)();") (program_of no_trees (more (statement_of (tree.new_expression (nothing_of 1) (tree.parenthesized (nothing_of 0) (tree.await_expression (nothing_of 0) (reference_of (codes "a")))) no_trees)) no_trees))
  -- among parameters it is an operator in the body of an `async` function alone (15.3.1)
  pub async_arrow_as_default : IsRead (codes "(a = async () => await b) => a;") (program_of no_trees (more (statement_of (tree.arrow_function (arrow_values false) (tree.formal_parameters (nothing_of 0) (more (tree.formal_parameter (nothing_of 3) (name_of (codes "a")) (given (tree.arrow_function (arrow_values true) (tree.formal_parameters (nothing_of 0) no_trees absent) (tree.await_expression (nothing_of 0) (reference_of (codes "b")))))) no_trees) absent) (reference_of (codes "a")))) no_trees))
  -- a function with the word `async` may have it as its name (15.8)
  pub async_named_async : IsRead (codes "async function async() { async(); }") (program_of no_trees (more (function_of kinds.Declaration true false (given (name_of (codes "async"))) no_trees absent no_trees (more (statement_of (tree.call (call_values false) (reference_of (codes "async")) no_trees)) no_trees)) no_trees))
  -- an `async` arrow function has parameters as any other (15.9)
  pub async_parameters : IsRead (codes "async ({a}, [b] = c, ...d) => e;") (program_of no_trees (more (statement_of (tree.arrow_function (arrow_values true) (tree.formal_parameters (nothing_of 0) (more (tree.formal_parameter (nothing_of 3) (tree.object_pattern (nothing_of 0) (more (tree.binding_property (computed_values false) (key_of (codes "a")) (name_of (codes "a"))) no_trees) absent) absent) (more (tree.formal_parameter (nothing_of 3) (tree.array_pattern (nothing_of 0) (more (name_of (codes "b")) no_trees) absent) (given (reference_of (codes "c")))) no_trees)) (given (tree.formal_parameter_rest (nothing_of 0) (name_of (codes "d"))))) (reference_of (codes "e")))) no_trees))
  -- the word by itself is a reference (12.7.2)
  pub async_as_condition : IsRead (codes "async ? a : b;") (program_of no_trees (more (statement_of (tree.conditional (nothing_of 0) (reference_of (codes "async")) (reference_of (codes "a")) (reference_of (codes "b")))) no_trees))
  -- first in the head of a loop `async of` begins an arrow function (14.7.4)
  pub async_of_arrow_in_head : IsRead (codes "for (async of => {};;);") (program_of no_trees (more (tree.for_statement (nothing_of 0) (given (tree.arrow_function (arrow_values true) (tree.formal_parameters (nothing_of 0) (more (tree.formal_parameter (nothing_of 3) (name_of (codes "of")) absent) no_trees) absent) (tree.function_body (nothing_of 0) no_trees no_trees))) absent absent (tree.empty_statement (nothing_of 0))) no_trees))
  -- a loop that waits may give its values to `async` (14.7.5)
  pub loop_that_gives_async : IsRead (codes "for await (async of x);") (program_of no_trees (more (tree.for_of_statement (loop_values true) (reference_of (codes "async")) (reference_of (codes "x")) (tree.empty_statement (nothing_of 0))) no_trees))
  -- line ends between its words end nothing
  pub loop_on_three_lines : IsRead (codes "for\nawait\n(a of b);") (program_of no_trees (more (tree.for_of_statement (loop_values true) (reference_of (codes "a")) (reference_of (codes "b")) (tree.empty_statement (nothing_of 0))) no_trees))
  -- it stands in the body of an `async` arrow function too (15.9)
  pub loop_in_async_arrow : IsRead (codes "async () => { for await (const [a] of b); };") (program_of no_trees (more (statement_of (tree.arrow_function (arrow_values true) (tree.formal_parameters (nothing_of 0) no_trees absent) (tree.function_body (nothing_of 0) no_trees (more (tree.for_of_statement (loop_values true) (tree.variable_declaration (declared_as Const) (more (tree.variable_declarator (nothing_of 1) (tree.array_pattern (nothing_of 0) (more (name_of (codes "a")) no_trees) absent) absent) no_trees)) (reference_of (codes "b")) (tree.empty_statement (nothing_of 0))) no_trees)))) no_trees))
  -- with an escape the word is a name and nothing else (12.7.1)
  pub escaped_async_as_key : IsRead (codes "({\\u0061sync() {}});") (program_of no_trees (more (statement_of (tree.parenthesized (nothing_of 0) (tree.object_expression (nothing_of 0) (more (tree.object_property (property_values Init true false false) (key_of (codes "async")) (function_of kinds.Expression false false absent no_trees absent no_trees no_trees)) no_trees)))) no_trees))
