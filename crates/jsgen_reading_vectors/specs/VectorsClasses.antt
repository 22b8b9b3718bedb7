-- Generated from tools/vectors/chosen.json; edit that and run tools/vectors/generate.
-- What texts are read as by ECMA-262: classes.
use Rattle.std.specs.Prelude.{[], ◌∷◌, true, false, codes}
use Rattle.jsgen_syntax.specs.declared.operator.BinaryOperator.TheVariants as operators
use Rattle.jsgen_tree.specs.declared.collections.PropertyKind.TheVariants.{Init}
use Rattle.jsgen_tree.specs.declared.functions.FunctionKind.TheVariants as kinds
use Rattle.jsgen_tree.specs.declared.classes.ClassKind.TheVariants as class_kinds
use Rattle.jsgen_tree.specs.Atom.{flag, binary_operator}
use Rattle.jsgen_tree.specs.Tree.{absent, given, no_trees, more}
use Rattle.jsgen_tree.specs.Places.{bare}
use Rattle.jsgen_tree.specs.Nodes as tree
use Rattle.jsgen_model.specs.Normal.{nothing_of, link_values, call_values}
use Rattle.jsgen_model.specs.Grammar.{function_of, class_of, member_values, field_values, arrow_values, loop_values}
use Rattle.jsgen_reading_vectors.specs.Reading.{IsRead, program_of, statement_of, reference_of, name_of, key_of}

pub record VectorsClasses : Type 0 where
  -- in parentheses a class extends any expression (15.7)
  pub extends_parentheses : IsRead (codes "class A extends (a, b) {}") (program_of no_trees (more (class_of class_kinds.Declaration (given (name_of (codes "A"))) (given (tree.parenthesized (nothing_of 0) (tree.sequence (nothing_of 0) (more (reference_of (codes "a")) (more (reference_of (codes "b")) no_trees))))) no_trees) no_trees))
  -- a brace behind `extends` begins an object
  pub extends_object : IsRead (codes "class A extends {} {}") (program_of no_trees (more (class_of class_kinds.Declaration (given (name_of (codes "A"))) (given (tree.object_expression (nothing_of 0) no_trees)) no_trees) no_trees))
  -- a declaration is ended by its brace, and isn't called (14.2)
  pub parentheses_behind_declaration : IsRead (codes "class A {}\n(a);") (program_of no_trees (more (class_of class_kinds.Declaration (given (name_of (codes "A"))) absent no_trees) (more (statement_of (tree.parenthesized (nothing_of 0) (reference_of (codes "a")))) no_trees)))
  -- in parentheses a class is an expression where a statement begins (14.5)
  pub member_of_class : IsRead (codes "(class {}).a;") (program_of no_trees (more (statement_of (tree.static_member (link_values false) (tree.parenthesized (nothing_of 0) (class_of class_kinds.Expression absent absent no_trees)) (key_of (codes "a")))) no_trees))
  -- a class under `new` has arguments on the next line (13.3.5)
  pub new_class : IsRead (codes "new class { a }\n(b);") (program_of no_trees (more (statement_of (tree.new_expression (nothing_of 1) (class_of class_kinds.Expression absent absent (more (tree.property_definition (field_values false false) (key_of (codes "a")) absent) no_trees)) (more (reference_of (codes "b")) no_trees))) no_trees))
  -- first in the head of a loop `in` is no operator, but in the value of a field it is (14.7.4)
  pub class_first_in_head : IsRead (codes "for (class { a = b in c }.d;;);") (program_of no_trees (more (tree.for_statement (nothing_of 0) (given (tree.static_member (link_values false) (class_of class_kinds.Expression absent absent (more (tree.property_definition (field_values false false) (key_of (codes "a")) (given (tree.binary (bare (binary_operator operators.In ∷ [])) (reference_of (codes "b")) (reference_of (codes "c"))))) no_trees)) (key_of (codes "d")))) absent absent (tree.empty_statement (nothing_of 0))) no_trees))
  -- a target may begin with a class (14.7.5)
  pub class_before_of : IsRead (codes "for (class {}.a of b);") (program_of no_trees (more (tree.for_of_statement (loop_values false) (tree.static_member (link_values false) (class_of class_kinds.Expression absent absent no_trees) (key_of (codes "a"))) (reference_of (codes "b")) (tree.empty_statement (nothing_of 0))) no_trees))
  -- static blocks stand one behind the other (15.7)
  pub static_blocks : IsRead (codes "class A { static {} static { a } static\n{} }") (program_of no_trees (more (class_of class_kinds.Declaration (given (name_of (codes "A"))) absent (more (tree.static_block (nothing_of 0) no_trees) (more (tree.static_block (nothing_of 0) (more (statement_of (reference_of (codes "a"))) no_trees)) (more (tree.static_block (nothing_of 0) no_trees) no_trees)))) no_trees))
  -- in one of them `await` is an operator within an `async` function alone
  pub async_arrow_in_static_block : IsRead (codes "class A { static { async () => await a; } }") (program_of no_trees (more (class_of class_kinds.Declaration (given (name_of (codes "A"))) absent (more (tree.static_block (nothing_of 0) (more (statement_of (tree.arrow_function (arrow_values true) (tree.formal_parameters (nothing_of 0) no_trees absent) (tree.await_expression (nothing_of 0) (reference_of (codes "a"))))) no_trees)) no_trees)) no_trees))
  -- `super` stands in a constructor, a method and a field (13.3.7)
  pub members_of_super : IsRead (codes "class A extends B { constructor() { super(); } a() { super.b; } static c = super.d }") (program_of no_trees (more (class_of class_kinds.Declaration (given (name_of (codes "A"))) (given (reference_of (codes "B"))) (more (tree.method_definition (member_values Init false false) (key_of (codes "constructor")) (function_of kinds.Expression false false absent no_trees absent no_trees (more (statement_of (tree.call (call_values false) (tree.super (nothing_of 0)) no_trees)) no_trees))) (more (tree.method_definition (member_values Init false false) (key_of (codes "a")) (function_of kinds.Expression false false absent no_trees absent no_trees (more (statement_of (tree.static_member (link_values false) (tree.super (nothing_of 0)) (key_of (codes "b")))) no_trees))) (more (tree.property_definition (field_values true false) (key_of (codes "c")) (given (tree.static_member (link_values false) (tree.super (nothing_of 0)) (key_of (codes "d"))))) no_trees)))) no_trees))
  -- what a class extends and its keys are read as what surrounds it, so that `yield` stands there (15.7)
  pub keys_in_generator : IsRead (codes "function* g() { class A extends (yield) { [yield]() {} static [yield a] = b } }") (program_of no_trees (more (function_of kinds.Declaration false true (given (name_of (codes "g"))) no_trees absent no_trees (more (class_of class_kinds.Declaration (given (name_of (codes "A"))) (given (tree.parenthesized (nothing_of 0) (tree.yield_expression (bare (flag false ∷ [])) absent))) (more (tree.method_definition (member_values Init false true) (tree.yield_expression (bare (flag false ∷ [])) absent) (function_of kinds.Expression false false absent no_trees absent no_trees no_trees)) (more (tree.property_definition (field_values true true) (tree.yield_expression (bare (flag false ∷ [])) (given (reference_of (codes "a")))) (given (reference_of (codes "b")))) no_trees))) no_trees)) no_trees))
