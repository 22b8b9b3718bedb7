-- Generated from tools/vectors/chosen.json; edit that and run tools/vectors/generate.
-- What texts are read as by ECMA-262: generators.
use Rattle.std.specs.Prelude.{[], ◌∷◌, true, false, codes}
use Rattle.jsgen_syntax.specs.declared.operator.BinaryOperator.TheVariants as operators
use Rattle.jsgen_syntax.specs.declared.operator.AssignmentOperator.TheVariants as assignment_operators
use Rattle.jsgen_tree.specs.declared.statements.VariableDeclarationKind.TheVariants.{Const}
use Rattle.jsgen_tree.specs.declared.collections.PropertyKind.TheVariants.{Init}
use Rattle.jsgen_tree.specs.declared.functions.FunctionKind.TheVariants as kinds
use Rattle.jsgen_tree.specs.Atom.{flag, binary_operator, assignment_operator}
use Rattle.jsgen_tree.specs.Tree.{absent, given, no_trees, more}
use Rattle.jsgen_tree.specs.Places.{bare}
use Rattle.jsgen_tree.specs.Nodes as tree
use Rattle.jsgen_model.specs.Normal.{nothing_of, link_values, declared_as, property_values}
use Rattle.jsgen_model.specs.Grammar.{function_of, loop_values, computed_values}
use Rattle.jsgen_reading_vectors.specs.Reading.{IsRead, program_of, statement_of, reference_of, name_of, key_of}

pub record VectorsGenerators : Type 0 where
  -- `yield` stands alone before the brace that ends a body (15.5)
  pub yield_before_brace : IsRead (codes "function* g() { yield\n}") (program_of no_trees (more (function_of kinds.Declaration false true (given (name_of (codes "g"))) no_trees absent no_trees (more (statement_of (tree.yield_expression (bare (flag false ∷ [])) absent)) no_trees)) no_trees))
  -- a brace behind it begins an object, which it gives
  pub yield_of_object : IsRead (codes "function* g() { yield {} }") (program_of no_trees (more (function_of kinds.Declaration false true (given (name_of (codes "g"))) no_trees absent no_trees (more (statement_of (tree.yield_expression (bare (flag false ∷ [])) (given (tree.object_expression (nothing_of 0) no_trees)))) no_trees)) no_trees))
  -- behind the star of `yield *` a line may end
  pub delegation_on_two_lines : IsRead (codes "function* g() { yield*\na }") (program_of no_trees (more (function_of kinds.Declaration false true (given (name_of (codes "g"))) no_trees absent no_trees (more (statement_of (tree.yield_expression (bare (flag true ∷ [])) (given (reference_of (codes "a"))))) no_trees)) no_trees))
  -- `yield` stands on both sides of a colon (13.14)
  pub yields_in_choice : IsRead (codes "function* g() { yield a ? yield : yield b; }") (program_of no_trees (more (function_of kinds.Declaration false true (given (name_of (codes "g"))) no_trees absent no_trees (more (statement_of (tree.yield_expression (bare (flag false ∷ [])) (given (tree.conditional (nothing_of 0) (reference_of (codes "a")) (tree.yield_expression (bare (flag false ∷ [])) absent) (tree.yield_expression (bare (flag false ∷ [])) (given (reference_of (codes "b")))))))) no_trees)) no_trees))
  -- as an operand it stands in parentheses
  pub yield_as_operand : IsRead (codes "function* g() { a + (yield) * b; }") (program_of no_trees (more (function_of kinds.Declaration false true (given (name_of (codes "g"))) no_trees absent no_trees (more (statement_of (tree.binary (bare (binary_operator operators.Addition ∷ [])) (reference_of (codes "a")) (tree.binary (bare (binary_operator operators.Multiplication ∷ [])) (tree.parenthesized (nothing_of 0) (tree.yield_expression (bare (flag false ∷ [])) absent)) (reference_of (codes "b"))))) no_trees)) no_trees))
  -- it stands in keys and in values of a pattern (14.3.3)
  pub yields_in_pattern : IsRead (codes "function* g() { const {[yield]: a = yield} = yield; }") (program_of no_trees (more (function_of kinds.Declaration false true (given (name_of (codes "g"))) no_trees absent no_trees (more (tree.variable_declaration (declared_as Const) (more (tree.variable_declarator (nothing_of 1) (tree.object_pattern (nothing_of 0) (more (tree.binding_property (computed_values true) (tree.yield_expression (bare (flag false ∷ [])) absent) (tree.assignment_pattern (nothing_of 0) (name_of (codes "a")) (tree.yield_expression (bare (flag false ∷ [])) absent))) no_trees) absent) (given (tree.yield_expression (bare (flag false ∷ [])) absent))) no_trees)) no_trees)) no_trees))
  -- a target may be a member by it (13.15.5)
  pub members_by_yields : IsRead (codes "function* g() { [a[yield], {b: yield}.c] = yield; }") (program_of no_trees (more (function_of kinds.Declaration false true (given (name_of (codes "g"))) no_trees absent no_trees (more (statement_of (tree.assignment (bare (assignment_operator assignment_operators.Assign ∷ [])) (tree.array_target (nothing_of 0) (more (tree.computed_member (link_values false) (reference_of (codes "a")) (tree.yield_expression (bare (flag false ∷ [])) absent)) (more (tree.static_member (link_values false) (tree.object_expression (nothing_of 0) (more (tree.object_property (property_values Init false false false) (key_of (codes "b")) (tree.yield_expression (bare (flag false ∷ [])) absent)) no_trees)) (key_of (codes "c"))) no_trees)) absent) (tree.yield_expression (bare (flag false ∷ [])) absent))) no_trees)) no_trees))
  -- in an `async` generator `await` is an operator beside it (15.6)
  pub async_generator : IsRead (codes "async function* g() { yield await a; await (yield b); for await (c of d) yield c; }") (program_of no_trees (more (function_of kinds.Declaration true true (given (name_of (codes "g"))) no_trees absent no_trees (more (statement_of (tree.yield_expression (bare (flag false ∷ [])) (given (tree.await_expression (nothing_of 0) (reference_of (codes "a")))))) (more (statement_of (tree.await_expression (nothing_of 0) (tree.parenthesized (nothing_of 0) (tree.yield_expression (bare (flag false ∷ [])) (given (reference_of (codes "b"))))))) (more (tree.for_of_statement (loop_values true) (reference_of (codes "c")) (reference_of (codes "d")) (statement_of (tree.yield_expression (bare (flag false ∷ [])) (given (reference_of (codes "c")))))) no_trees)))) no_trees))
  -- before the star of a generator a line may end, and behind it (15.5)
  pub star_on_its_line : IsRead (codes "function\n*\nf() {}") (program_of no_trees (more (function_of kinds.Declaration false true (given (name_of (codes "f"))) no_trees absent no_trees no_trees) no_trees))
  -- keys of methods are read as what surrounds the object (15.4)
  pub keys_by_yields : IsRead (codes "function* g() { ({[yield]() {}, async [yield a]() {}}); }") (program_of no_trees (more (function_of kinds.Declaration false true (given (name_of (codes "g"))) no_trees absent no_trees (more (statement_of (tree.parenthesized (nothing_of 0) (tree.object_expression (nothing_of 0) (more (tree.object_property (property_values Init true false true) (tree.yield_expression (bare (flag false ∷ [])) absent) (function_of kinds.Expression false false absent no_trees absent no_trees no_trees)) (more (tree.object_property (property_values Init true false true) (tree.yield_expression (bare (flag false ∷ [])) (given (reference_of (codes "a")))) (function_of kinds.Expression true false absent no_trees absent no_trees no_trees)) no_trees))))) no_trees)) no_trees))
