-- Generated from tools/nodes/table.txt; edit that and run tools/nodes/generate.
-- A value that a node holds itself.
use Rattle.std.specs.Prelude.{ℕ, List, Bool}
use Rattle.jsgen_tree.specs.declared.statements.CommentKind.{CommentKind}
use Rattle.jsgen_tree.specs.declared.statements.CommentContent.{CommentContent}
use Rattle.jsgen_syntax.specs.declared.span.SourceKind.{SourceKind}
use Rattle.jsgen_tree.specs.declared.statements.VariableDeclarationKind.{VariableDeclarationKind}
use Rattle.jsgen_tree.specs.Number.{NumericKind}
use Rattle.jsgen_syntax.specs.declared.operator.BinaryOperator.{BinaryOperator}
use Rattle.jsgen_syntax.specs.declared.operator.LogicalOperator.{LogicalOperator}
use Rattle.jsgen_tree.specs.declared.collections.PropertyKind.{PropertyKind}
use Rattle.jsgen_syntax.specs.declared.operator.UnaryOperator.{UnaryOperator}
use Rattle.jsgen_syntax.specs.declared.operator.UpdateOperator.{UpdateOperator}
use Rattle.jsgen_syntax.specs.declared.operator.AssignmentOperator.{AssignmentOperator}
use Rattle.jsgen_tree.specs.declared.functions.FunctionKind.{FunctionKind}
use Rattle.jsgen_tree.specs.declared.classes.ClassKind.{ClassKind}
use Rattle.jsgen_tree.specs.declared.classes.MethodDefinitionKind.{MethodDefinitionKind}
use Rattle.jsgen_tree.specs.declared.modules.ImportOrExportKind.{ImportOrExportKind}
use Rattle.jsgen_tree.specs.declared.modules.WithKeyword.{WithKeyword}

pub data Atom : Type 0 where
  -- of a field that is absent
  no_value : Atom
  text : List ℕ → Atom
  -- a string's value, by its units of UTF-16
  units : List ℕ → Atom
  digits : ℕ → Atom
  number : ℕ → Atom
  flag : Bool → Atom
  kind_of_comment : CommentKind → Atom
  content_of_comment : CommentContent → Atom
  source_kind : SourceKind → Atom
  declaration_kind : VariableDeclarationKind → Atom
  numeric_kind : NumericKind → Atom
  binary_operator : BinaryOperator → Atom
  logical_operator : LogicalOperator → Atom
  property_kind : PropertyKind → Atom
  unary_operator : UnaryOperator → Atom
  update_operator : UpdateOperator → Atom
  assignment_operator : AssignmentOperator → Atom
  kind_of_function : FunctionKind → Atom
  class_form : ClassKind → Atom
  kind_of_method : MethodDefinitionKind → Atom
  kind_of_import : ImportOrExportKind → Atom
  with_keyword : WithKeyword → Atom
