-- Generated from tools/vectors/chosen.json; edit that and run tools/vectors/generate.
-- What texts are read as by ECMA-262: members.
use Rattle.std.specs.Prelude.{[], ◌∷◌, true, false, codes}
use Rattle.jsgen_tree.specs.declared.collections.PropertyKind.TheVariants.{Init, Get, Set}
use Rattle.jsgen_tree.specs.declared.functions.FunctionKind.TheVariants as kinds
use Rattle.jsgen_tree.specs.declared.classes.ClassKind.TheVariants as class_kinds
use Rattle.jsgen_tree.specs.Atom.{units}
use Rattle.jsgen_tree.specs.Tree.{absent, given, no_trees, more}
use Rattle.jsgen_tree.specs.Places.{bare}
use Rattle.jsgen_tree.specs.Nodes as tree
use Rattle.jsgen_model.specs.Normal.{nothing_of, named, link_values, by_text}
use Rattle.jsgen_model.specs.Grammar.{function_of, class_of, member_values, field_values, arrow_values}
use Rattle.jsgen_reading_vectors.specs.Reading.{IsRead, program_of, reference_of, name_of, key_of}

pub record VectorsMembers : Type 0 where
  -- a line end behind `get` ends no field (15.7)
  pub getter_on_two_lines : IsRead (codes "class A { get\nx(){} }") (program_of no_trees (more (class_of class_kinds.Declaration (given (name_of (codes "A"))) absent (more (tree.method_definition (member_values Get false false) (key_of (codes "x")) (function_of kinds.Expression false false absent no_trees absent no_trees no_trees)) no_trees)) no_trees))
  -- nor does one behind `static` before a name
  pub static_field_on_two_lines : IsRead (codes "class A { static\na }") (program_of no_trees (more (class_of class_kinds.Declaration (given (name_of (codes "A"))) absent (more (tree.property_definition (field_values true false) (key_of (codes "a")) absent) no_trees)) no_trees))
  -- nor before a star
  pub static_generator_on_two_lines : IsRead (codes "class A { static\n*a() {} }") (program_of no_trees (more (class_of class_kinds.Declaration (given (name_of (codes "A"))) absent (more (tree.method_definition (member_values Init true false) (key_of (codes "a")) (function_of kinds.Expression false true absent no_trees absent no_trees no_trees)) no_trees)) no_trees))
  -- `static` before a brace is a field's name
  pub field_named_static : IsRead (codes "class A { static\n}") (program_of no_trees (more (class_of class_kinds.Declaration (given (name_of (codes "A"))) absent (more (tree.property_definition (field_values false false) (key_of (codes "static")) absent) no_trees)) no_trees))
  -- and before a value
  pub value_of_static : IsRead (codes "class A { static = {} }") (program_of no_trees (more (class_of class_kinds.Declaration (given (name_of (codes "A"))) absent (more (tree.property_definition (field_values false false) (key_of (codes "static")) (given (tree.object_expression (nothing_of 0) no_trees))) no_trees)) no_trees))
  -- `get` before parentheses is a method's name
  pub method_named_get : IsRead (codes "class A { get\n() {} }") (program_of no_trees (more (class_of class_kinds.Declaration (given (name_of (codes "A"))) absent (more (tree.method_definition (member_values Init false false) (key_of (codes "get")) (function_of kinds.Expression false false absent no_trees absent no_trees no_trees)) no_trees)) no_trees))
  -- before a semicolon each word is a field's name
  pub fields_named_by_words : IsRead (codes "class A { get; set; async; static; of; await; yield; let }") (program_of no_trees (more (class_of class_kinds.Declaration (given (name_of (codes "A"))) absent (more (tree.property_definition (field_values false false) (key_of (codes "get")) absent) (more (tree.property_definition (field_values false false) (key_of (codes "set")) absent) (more (tree.property_definition (field_values false false) (key_of (codes "async")) absent) (more (tree.property_definition (field_values false false) (key_of (codes "static")) absent) (more (tree.property_definition (field_values false false) (key_of (codes "of")) absent) (more (tree.property_definition (field_values false false) (key_of (codes "await")) absent) (more (tree.property_definition (field_values false false) (key_of (codes "yield")) absent) (more (tree.property_definition (field_values false false) (key_of (codes "let")) absent) no_trees))))))))) no_trees))
  -- methods are accessors, `async`, generators, or both of the last (15.4 to 15.6 and 15.8)
  pub methods_of_class : IsRead (codes "class A { get a() {} set a(b) {} async c() {} *d() {} async *e() {} }") (program_of no_trees (more (class_of class_kinds.Declaration (given (name_of (codes "A"))) absent (more (tree.method_definition (member_values Get false false) (key_of (codes "a")) (function_of kinds.Expression false false absent no_trees absent no_trees no_trees)) (more (tree.method_definition (member_values Set false false) (key_of (codes "a")) (function_of kinds.Expression false false absent (more (tree.formal_parameter (nothing_of 3) (name_of (codes "b")) absent) no_trees) absent no_trees no_trees)) (more (tree.method_definition (member_values Init false false) (key_of (codes "c")) (function_of kinds.Expression true false absent no_trees absent no_trees no_trees)) (more (tree.method_definition (member_values Init false false) (key_of (codes "d")) (function_of kinds.Expression false true absent no_trees absent no_trees no_trees)) (more (tree.method_definition (member_values Init false false) (key_of (codes "e")) (function_of kinds.Expression true true absent no_trees absent no_trees no_trees)) no_trees)))))) no_trees))
  -- brackets on the next line belong to the value of a field (12.10)
  pub member_on_next_line : IsRead (codes "class A { a = b\n[c] }") (program_of no_trees (more (class_of class_kinds.Declaration (given (name_of (codes "A"))) absent (more (tree.property_definition (field_values false false) (key_of (codes "a")) (given (tree.computed_member (link_values false) (reference_of (codes "b")) (reference_of (codes "c"))))) no_trees)) no_trees))
  -- semicolons stand by themselves among members (15.7)
  pub semicolons_alone : IsRead (codes "class A { ; ; a; ; b() {}; }") (program_of no_trees (more (class_of class_kinds.Declaration (given (name_of (codes "A"))) absent (more (tree.property_definition (field_values false false) (key_of (codes "a")) absent) (more (tree.method_definition (member_values Init false false) (key_of (codes "b")) (function_of kinds.Expression false false absent no_trees absent no_trees no_trees)) no_trees))) no_trees))
  -- members have keys of each kind, and a string is no directive
  pub keys_of_members : IsRead (codes "class A { 1 = 2; 1n; 'use strict'; [a]; [b] = c; if = d }") (program_of no_trees (more (class_of class_kinds.Declaration (given (name_of (codes "A"))) absent (more (tree.property_definition (field_values false false) (tree.numeric_literal (by_text (codes "1"))) (given (tree.numeric_literal (by_text (codes "2"))))) (more (tree.property_definition (field_values false false) (tree.big_int_literal (named (codes "1"))) absent) (more (tree.property_definition (field_values false false) (tree.string_literal (bare (units (codes "use strict") ∷ []))) absent) (more (tree.property_definition (field_values false true) (reference_of (codes "a")) absent) (more (tree.property_definition (field_values false true) (reference_of (codes "b")) (given (reference_of (codes "c")))) (more (tree.property_definition (field_values false false) (key_of (codes "if")) (given (reference_of (codes "d")))) no_trees))))))) no_trees))
  -- `await` is an operator in a key (15.7)
  pub key_awaited : IsRead (codes "class A { [await 1]() {} }") (program_of no_trees (more (class_of class_kinds.Declaration (given (name_of (codes "A"))) absent (more (tree.method_definition (member_values Init false true) (tree.await_expression (nothing_of 0) (tree.numeric_literal (by_text (codes "1")))) (function_of kinds.Expression false false absent no_trees absent no_trees no_trees)) no_trees)) no_trees))
  -- in the value of a field it is one within an `async` function alone
  pub async_arrow_as_value : IsRead (codes "class A { a = async () => await b }") (program_of no_trees (more (class_of class_kinds.Declaration (given (name_of (codes "A"))) absent (more (tree.property_definition (field_values false false) (key_of (codes "a")) (given (tree.arrow_function (arrow_values true) (tree.formal_parameters (nothing_of 0) no_trees absent) (tree.await_expression (nothing_of 0) (reference_of (codes "b")))))) no_trees)) no_trees))
  -- words with escapes are names and nothing else (12.7.1)
  pub escaped_words : IsRead (codes "class A { st\\u0061tic; g\\u0065t = a; \\u0061sync() {} }") (program_of no_trees (more (class_of class_kinds.Declaration (given (name_of (codes "A"))) absent (more (tree.property_definition (field_values false false) (key_of (codes "static")) absent) (more (tree.property_definition (field_values false false) (key_of (codes "get")) (given (reference_of (codes "a")))) (more (tree.method_definition (member_values Init false false) (key_of (codes "async")) (function_of kinds.Expression false false absent no_trees absent no_trees no_trees)) no_trees)))) no_trees))
