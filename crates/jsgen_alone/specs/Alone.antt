-- Generated from tools/nodes/table.txt; edit that and run tools/nodes/generate.
-- What is printed of a node by itself.
use Rattle.jsgen_tree.specs.declared.types.NodeType.{NodeType}
use Rattle.jsgen_tree.specs.declared.types.NodeSet.{NodeSet}
use Rattle.jsgen_tree.specs.Tree.{Tree, type_of}
use Rattle.jsgen_place.specs.declared.place.Context.{Context}
use Rattle.jsgen_syntax.specs.declared.precedence.Precedence.TheVariants.{Lowest, Comma}
use Rattle.jsgen_place.specs.Place.{at_level, in_brackets, among_statements, within_statement, loop_head, plainly}
use Rattle.jsgen_model.specs.Items.{Items, ◌⊕◌, due_semicolon}
use Rattle.jsgen_model.specs.Spell.{spell, key_text, left_place, element_end, default_items, is_declared}
use Rattle.jsgen_tree.specs.declared.types.NodeType.TheVariants as types
use Rattle.jsgen_tree.specs.declared.types.NodeSet.TheVariants as sets

-- as what holds it prints it, with nothing round it
pub data How : Type 0 where
  -- at the lowest level, in the context that is given
  by_itself : How
  -- as a member of a list, and as a statement among statements, whatever the context is
  list_member : How
  statement : How
  -- as what stands first in the head of a loop, and as what gives it values
  loop_init : How
  loop_left : How
  -- as the key of a property, as a case, as a member of a class, as a name of an import or export, and behind `export default`
  key : How
  switch_case : How
  class_member : How
  export_name : How
  default_export : How

-- the items of a tree that is printed so
abbrev pub alone : How → Tree → Context → Items
alone by_itself t context = spell t (at_level Lowest context)
alone list_member t context = spell t (in_brackets Comma)
alone statement t context = spell t among_statements
alone loop_init t context = spell t loop_head
alone loop_left t context = spell t (left_place (type_of t))
alone key t context = key_text t (spell t (in_brackets Comma))
alone switch_case t context = due_semicolon ⊕ spell t among_statements
alone class_member t context = spell t (at_level Lowest context) ⊕ element_end (type_of t)
alone export_name t context = spell t plainly
alone default_export t context = default_items (is_declared t) (spell t within_statement) (spell t (in_brackets Comma))

-- ---- by type, and by the set of which it is a member

abbrev pub of_type : NodeType → How
of_type types.Program = statement
of_type types.Directive = statement
of_type types.ExpressionStatement = statement
of_type types.BlockStatement = statement
of_type types.IfStatement = statement
of_type types.EmptyStatement = statement
of_type types.ObjectProperty = list_member
of_type types.ForStatement = statement
of_type types.ForInStatement = statement
of_type types.ForOfStatement = statement
of_type types.WhileStatement = statement
of_type types.DoWhileStatement = statement
of_type types.LabeledStatement = statement
of_type types.ContinueStatement = statement
of_type types.BreakStatement = statement
of_type types.ReturnStatement = statement
of_type types.ThrowStatement = statement
of_type types.DebuggerStatement = statement
of_type types.SwitchStatement = statement
of_type types.SwitchCase = switch_case
of_type types.TryStatement = statement
of_type type = by_itself

abbrev pub of_set : NodeSet → How
of_set sets.Argument = list_member
of_set sets.ArrayExpressionElement = list_member
of_set sets.AssignmentTarget = list_member
of_set sets.AssignmentTargetMaybeDefault = list_member
of_set sets.ForStatementInit = loop_init
of_set sets.ForStatementLeft = loop_left
of_set sets.ObjectPropertyKind = list_member
of_set sets.PropertyKey = key
of_set sets.Statement = statement
of_set sets.ClassElement = class_member
of_set sets.ModuleExportName = export_name
of_set sets.ExportDefaultDeclarationKind = default_export
of_set set = by_itself
