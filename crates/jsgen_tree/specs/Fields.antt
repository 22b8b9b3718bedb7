-- Generated from tools/nodes/table.txt; edit that and run tools/nodes/generate.
-- For each type of node its fields in their order.
use Rattle.std.specs.Prelude.{List, [], ◌∷◌, codes, false}
use Rattle.jsgen_tree.specs.Table.{Word, means, Field, needs, needs_for, may_have, has_by_default, may_be_set_for, not_yet}
use Rattle.jsgen_tree.specs.declared.types.NodeType.{NodeType}
use Rattle.jsgen_tree.specs.declared.types.NodeType.TheVariants as types
use Rattle.jsgen_tree.specs.declared.types.NodeSet.TheVariants as sets
use Rattle.jsgen_tree.specs.Table as sorts
use Rattle.jsgen_tree.specs.Atom as atoms
use Rattle.jsgen_tree.specs.declared.statements.CommentKind.TheVariants as kind_of_comments
use Rattle.jsgen_tree.specs.declared.statements.CommentContent.TheVariants as content_of_comments
use Rattle.jsgen_syntax.specs.declared.span.SourceKind.TheVariants as source_kinds
use Rattle.jsgen_tree.specs.declared.statements.VariableDeclarationKind.TheVariants as declaration_kinds
use Rattle.jsgen_tree.specs.Number as numeric_kinds
use Rattle.jsgen_syntax.specs.declared.operator.BinaryOperator.TheVariants as binary_operators
use Rattle.jsgen_syntax.specs.declared.operator.LogicalOperator.TheVariants as logical_operators
use Rattle.jsgen_tree.specs.declared.collections.PropertyKind.TheVariants as property_kinds
use Rattle.jsgen_syntax.specs.declared.operator.UnaryOperator.TheVariants as unary_operators
use Rattle.jsgen_syntax.specs.declared.operator.UpdateOperator.TheVariants as update_operators
use Rattle.jsgen_syntax.specs.declared.operator.AssignmentOperator.TheVariants as assignment_operators
use Rattle.jsgen_tree.specs.declared.functions.FunctionKind.TheVariants as kind_of_functions
use Rattle.jsgen_tree.specs.declared.classes.ClassKind.TheVariants as class_forms
use Rattle.jsgen_tree.specs.declared.classes.MethodDefinitionKind.TheVariants as kind_of_methods
use Rattle.jsgen_tree.specs.declared.modules.ImportOrExportKind.TheVariants as kind_of_imports
use Rattle.jsgen_tree.specs.declared.modules.WithKeyword.TheVariants as with_keywords

-- ---- words

abbrev pub kind_of_comment_words : List Word
kind_of_comment_words = means (codes "line") (atoms.kind_of_comment kind_of_comments.Line) ∷ means (codes "block") (atoms.kind_of_comment kind_of_comments.SingleLineBlock) ∷ means (codes "multiline") (atoms.kind_of_comment kind_of_comments.MultiLineBlock) ∷ means (codes "htmlopen") (atoms.kind_of_comment kind_of_comments.HtmlOpen) ∷ means (codes "htmlclose") (atoms.kind_of_comment kind_of_comments.HtmlClose) ∷ []

abbrev pub content_of_comment_words : List Word
content_of_comment_words = means (codes "normal") (atoms.content_of_comment content_of_comments.Normal) ∷ means (codes "legal") (atoms.content_of_comment content_of_comments.Legal) ∷ means (codes "jsdoc") (atoms.content_of_comment content_of_comments.Jsdoc) ∷ means (codes "jsdoclegal") (atoms.content_of_comment content_of_comments.JsdocLegal) ∷ means (codes "pure") (atoms.content_of_comment content_of_comments.Pure) ∷ means (codes "nosideeffects") (atoms.content_of_comment content_of_comments.NoSideEffects) ∷ means (codes "webpack") (atoms.content_of_comment content_of_comments.Webpack) ∷ means (codes "vite") (atoms.content_of_comment content_of_comments.Vite) ∷ means (codes "propertykey") (atoms.content_of_comment content_of_comments.PropertyKey) ∷ means (codes "coverage") (atoms.content_of_comment content_of_comments.CoverageIgnore) ∷ means (codes "coveragefile") (atoms.content_of_comment content_of_comments.CoverageIgnoreFile) ∷ []

abbrev pub source_kind_words : List Word
source_kind_words = means (codes "module") (atoms.source_kind source_kinds.Module) ∷ []

abbrev pub declaration_kind_words : List Word
declaration_kind_words = means (codes "const") (atoms.declaration_kind declaration_kinds.Const) ∷ means (codes "let") (atoms.declaration_kind declaration_kinds.Let) ∷ means (codes "var") (atoms.declaration_kind declaration_kinds.Var) ∷ []

abbrev pub numeric_kind_words : List Word
numeric_kind_words = means (codes "whole") (atoms.numeric_kind numeric_kinds.Whole) ∷ means (codes "raw") (atoms.numeric_kind numeric_kinds.Raw) ∷ []

abbrev pub binary_operator_words : List Word
binary_operator_words = means (codes "==") (atoms.binary_operator binary_operators.Equality) ∷ means (codes "!=") (atoms.binary_operator binary_operators.Inequality) ∷ means (codes "===") (atoms.binary_operator binary_operators.StrictEquality) ∷ means (codes "!==") (atoms.binary_operator binary_operators.StrictInequality) ∷ means (codes "<") (atoms.binary_operator binary_operators.LessThan) ∷ means (codes "<=") (atoms.binary_operator binary_operators.LessEqualThan) ∷ means (codes ">") (atoms.binary_operator binary_operators.GreaterThan) ∷ means (codes ">=") (atoms.binary_operator binary_operators.GreaterEqualThan) ∷ means (codes "+") (atoms.binary_operator binary_operators.Addition) ∷ means (codes "-") (atoms.binary_operator binary_operators.Subtraction) ∷ means (codes "*") (atoms.binary_operator binary_operators.Multiplication) ∷ means (codes "/") (atoms.binary_operator binary_operators.Division) ∷ means (codes "%") (atoms.binary_operator binary_operators.Remainder) ∷ means (codes "**") (atoms.binary_operator binary_operators.Exponential) ∷ means (codes "<<") (atoms.binary_operator binary_operators.ShiftLeft) ∷ means (codes ">>") (atoms.binary_operator binary_operators.ShiftRight) ∷ means (codes ">>>") (atoms.binary_operator binary_operators.ShiftRightZeroFill) ∷ means (codes "|") (atoms.binary_operator binary_operators.BitwiseOR) ∷ means (codes "^") (atoms.binary_operator binary_operators.BitwiseXOR) ∷ means (codes "&") (atoms.binary_operator binary_operators.BitwiseAnd) ∷ means (codes "in") (atoms.binary_operator binary_operators.In) ∷ means (codes "instanceof") (atoms.binary_operator binary_operators.Instanceof) ∷ []

abbrev pub logical_operator_words : List Word
logical_operator_words = means (codes "||") (atoms.logical_operator logical_operators.Or) ∷ means (codes "&&") (atoms.logical_operator logical_operators.And) ∷ means (codes "??") (atoms.logical_operator logical_operators.Coalesce) ∷ []

abbrev pub property_kind_words : List Word
property_kind_words = means (codes "init") (atoms.property_kind property_kinds.Init) ∷ means (codes "get") (atoms.property_kind property_kinds.Get) ∷ means (codes "set") (atoms.property_kind property_kinds.Set) ∷ []

abbrev pub unary_operator_words : List Word
unary_operator_words = means (codes "+") (atoms.unary_operator unary_operators.UnaryPlus) ∷ means (codes "-") (atoms.unary_operator unary_operators.UnaryNegation) ∷ means (codes "!") (atoms.unary_operator unary_operators.LogicalNot) ∷ means (codes "~") (atoms.unary_operator unary_operators.BitwiseNot) ∷ means (codes "typeof") (atoms.unary_operator unary_operators.Typeof) ∷ means (codes "void") (atoms.unary_operator unary_operators.Void) ∷ means (codes "delete") (atoms.unary_operator unary_operators.Delete) ∷ []

abbrev pub update_operator_words : List Word
update_operator_words = means (codes "++") (atoms.update_operator update_operators.Increment) ∷ means (codes "--") (atoms.update_operator update_operators.Decrement) ∷ []

abbrev pub assignment_operator_words : List Word
assignment_operator_words = means (codes "=") (atoms.assignment_operator assignment_operators.Assign) ∷ means (codes "+=") (atoms.assignment_operator assignment_operators.Addition) ∷ means (codes "-=") (atoms.assignment_operator assignment_operators.Subtraction) ∷ means (codes "*=") (atoms.assignment_operator assignment_operators.Multiplication) ∷ means (codes "/=") (atoms.assignment_operator assignment_operators.Division) ∷ means (codes "%=") (atoms.assignment_operator assignment_operators.Remainder) ∷ means (codes "**=") (atoms.assignment_operator assignment_operators.Exponential) ∷ means (codes "<<=") (atoms.assignment_operator assignment_operators.ShiftLeft) ∷ means (codes ">>=") (atoms.assignment_operator assignment_operators.ShiftRight) ∷ means (codes ">>>=") (atoms.assignment_operator assignment_operators.ShiftRightZeroFill) ∷ means (codes "|=") (atoms.assignment_operator assignment_operators.BitwiseOR) ∷ means (codes "^=") (atoms.assignment_operator assignment_operators.BitwiseXOR) ∷ means (codes "&=") (atoms.assignment_operator assignment_operators.BitwiseAnd) ∷ means (codes "||=") (atoms.assignment_operator assignment_operators.LogicalOr) ∷ means (codes "&&=") (atoms.assignment_operator assignment_operators.LogicalAnd) ∷ means (codes "??=") (atoms.assignment_operator assignment_operators.LogicalNullish) ∷ []

abbrev pub kind_of_function_words : List Word
kind_of_function_words = means (codes "declaration") (atoms.kind_of_function kind_of_functions.Declaration) ∷ means (codes "expression") (atoms.kind_of_function kind_of_functions.Expression) ∷ []

abbrev pub class_form_words : List Word
class_form_words = means (codes "declaration") (atoms.class_form class_forms.Declaration) ∷ means (codes "expression") (atoms.class_form class_forms.Expression) ∷ []

abbrev pub kind_of_method_words : List Word
kind_of_method_words = means (codes "constructor") (atoms.kind_of_method kind_of_methods.Constructor) ∷ means (codes "method") (atoms.kind_of_method kind_of_methods.Method) ∷ means (codes "get") (atoms.kind_of_method kind_of_methods.Get) ∷ means (codes "set") (atoms.kind_of_method kind_of_methods.Set) ∷ []

abbrev pub kind_of_import_words : List Word
kind_of_import_words = means (codes "value") (atoms.kind_of_import kind_of_imports.Value) ∷ []

abbrev pub with_keyword_words : List Word
with_keyword_words = means (codes "with") (atoms.with_keyword with_keywords.With) ∷ []

-- ---- fields: one list for each type, in the order of their numbers, from 2 on

abbrev pub fields : NodeType → List Field
fields types.Program = has_by_default (atoms.text []) (codes "source") sorts.text ∷ needs (codes "kind") (sorts.word source_kind_words) ∷ not_yet (codes "jsx") sorts.flag ∷ not_yet (codes "typescript") sorts.flag ∷ may_have (codes "comments") (sorts.children sets.Comment) ∷ may_have (codes "hashbang") (sorts.child sets.Hashbang) ∷ may_have (codes "directives") (sorts.children sets.Directive) ∷ may_have (codes "body") (sorts.children sets.Statement) ∷ []
fields types.Comment = needs (codes "kind") (sorts.word kind_of_comment_words) ∷ needs (codes "content") (sorts.word content_of_comment_words) ∷ has_by_default (atoms.flag false) (codes "leading") sorts.flag ∷ needs (codes "attached_to") sorts.number ∷ has_by_default (atoms.flag false) (codes "preceded_by_newline") sorts.flag ∷ has_by_default (atoms.flag false) (codes "followed_by_newline") sorts.flag ∷ []
fields types.Directive = needs (codes "directive") sorts.text ∷ []
fields types.VariableDeclaration = needs (codes "kind") (sorts.word declaration_kind_words) ∷ not_yet (codes "declare") sorts.flag ∷ may_have (codes "declarations") (sorts.children sets.VariableDeclarator) ∷ []
fields types.VariableDeclarator = needs (codes "id") (sorts.child sets.BindingPattern) ∷ not_yet (codes "definite") sorts.flag ∷ not_yet (codes "type_annotation") sorts.unread_child ∷ may_have (codes "init") (sorts.child sets.Expression) ∷ []
fields types.BindingIdentifier = needs (codes "name") sorts.text ∷ may_have (codes "symbol") sorts.number ∷ []
fields types.ExpressionStatement = needs (codes "expression") (sorts.child sets.Expression) ∷ []
fields types.BlockStatement = may_have (codes "body") (sorts.children sets.Statement) ∷ []
fields types.IfStatement = needs (codes "test") (sorts.child sets.Expression) ∷ needs (codes "consequent") (sorts.child sets.Statement) ∷ may_have (codes "alternate") (sorts.child sets.Statement) ∷ []
fields types.EmptyStatement = []
fields types.IdentifierReference = needs (codes "name") sorts.text ∷ may_have (codes "reference") sorts.number ∷ []
fields types.ThisExpression = []
fields types.NullLiteral = []
fields types.BooleanLiteral = needs (codes "value") sorts.flag ∷ []
fields types.NumericLiteral = needs (codes "kind") (sorts.word numeric_kind_words) ∷ may_be_set_for (codes "whole") (codes "negative") sorts.flag ∷ needs_for (codes "whole") (codes "digits") sorts.digits ∷ needs_for (codes "raw") (codes "text") sorts.text ∷ []
fields types.BigIntLiteral = needs (codes "value") sorts.text ∷ []
fields types.StringLiteral = needs (codes "value") sorts.units ∷ []
fields types.RegExpLiteral = needs (codes "pattern") sorts.text ∷ needs (codes "flags") sorts.text ∷ []
fields types.ParenthesizedExpression = needs (codes "expression") (sorts.child sets.Expression) ∷ []
fields types.BinaryExpression = needs (codes "operator") (sorts.word binary_operator_words) ∷ needs (codes "left") (sorts.child sets.Expression) ∷ needs (codes "right") (sorts.child sets.Expression) ∷ []
fields types.LogicalExpression = needs (codes "operator") (sorts.word logical_operator_words) ∷ needs (codes "left") (sorts.child sets.Expression) ∷ needs (codes "right") (sorts.child sets.Expression) ∷ []
fields types.IdentifierName = needs (codes "name") sorts.text ∷ []
fields types.StaticMemberExpression = needs (codes "object") (sorts.child sets.Expression) ∷ has_by_default (atoms.flag false) (codes "optional") sorts.flag ∷ needs (codes "property") (sorts.child sets.IdentifierName) ∷ []
fields types.ComputedMemberExpression = needs (codes "object") (sorts.child sets.Expression) ∷ has_by_default (atoms.flag false) (codes "optional") sorts.flag ∷ needs (codes "expression") (sorts.child sets.Expression) ∷ []
fields types.CallExpression = needs (codes "callee") (sorts.child sets.Expression) ∷ not_yet (codes "type_arguments") sorts.unread_child ∷ may_have (codes "arguments") (sorts.children sets.Argument) ∷ has_by_default (atoms.flag false) (codes "optional") sorts.flag ∷ has_by_default (atoms.flag false) (codes "pure") sorts.flag ∷ []
fields types.ChainExpression = needs (codes "expression") (sorts.child sets.ChainElement) ∷ []
fields types.SpreadElement = needs (codes "argument") (sorts.child sets.Expression) ∷ []
fields types.ArrayExpression = may_have (codes "elements") (sorts.children_or_holes sets.ArrayExpressionElement) ∷ []
fields types.ObjectProperty = needs (codes "kind") (sorts.word property_kind_words) ∷ needs (codes "key") (sorts.child sets.PropertyKey) ∷ needs (codes "value") (sorts.child sets.Expression) ∷ has_by_default (atoms.flag false) (codes "method") sorts.flag ∷ has_by_default (atoms.flag false) (codes "shorthand") sorts.flag ∷ has_by_default (atoms.flag false) (codes "computed") sorts.flag ∷ []
fields types.ObjectExpression = may_have (codes "properties") (sorts.children sets.ObjectPropertyKind) ∷ []
fields types.UnaryExpression = needs (codes "operator") (sorts.word unary_operator_words) ∷ needs (codes "argument") (sorts.child sets.Expression) ∷ []
fields types.NewTarget = []
fields types.UpdateExpression = needs (codes "operator") (sorts.word update_operator_words) ∷ has_by_default (atoms.flag false) (codes "prefix") sorts.flag ∷ needs (codes "argument") (sorts.child sets.SimpleAssignmentTarget) ∷ []
fields types.NewExpression = needs (codes "callee") (sorts.child sets.Expression) ∷ not_yet (codes "type_arguments") sorts.unread_child ∷ may_have (codes "arguments") (sorts.children sets.Argument) ∷ has_by_default (atoms.flag false) (codes "pure") sorts.flag ∷ []
fields types.Super = []
fields types.ImportMeta = []
fields types.ConditionalExpression = needs (codes "test") (sorts.child sets.Expression) ∷ needs (codes "consequent") (sorts.child sets.Expression) ∷ needs (codes "alternate") (sorts.child sets.Expression) ∷ []
fields types.SequenceExpression = may_have (codes "expressions") (sorts.children sets.Expression) ∷ []
fields types.AssignmentExpression = needs (codes "operator") (sorts.word assignment_operator_words) ∷ needs (codes "left") (sorts.child sets.AssignmentTarget) ∷ needs (codes "right") (sorts.child sets.Expression) ∷ []
fields types.FormalParameter = not_yet (codes "decorators") sorts.unread_child ∷ not_yet (codes "accessibility") sorts.unread_child ∷ not_yet (codes "is_override") sorts.flag ∷ not_yet (codes "readonly") sorts.flag ∷ needs (codes "pattern") (sorts.child sets.BindingPattern) ∷ not_yet (codes "optional") sorts.flag ∷ not_yet (codes "type_annotation") sorts.unread_child ∷ may_have (codes "initializer") (sorts.child sets.Expression) ∷ []
fields types.FormalParameterRest = not_yet (codes "decorators") sorts.unread_child ∷ needs (codes "argument") (sorts.child sets.BindingPattern) ∷ not_yet (codes "type_annotation") sorts.unread_child ∷ []
fields types.FormalParameters = may_have (codes "items") (sorts.children sets.FormalParameter) ∷ may_have (codes "rest") (sorts.child sets.FormalParameterRest) ∷ []
fields types.Function = needs (codes "kind") (sorts.word kind_of_function_words) ∷ may_have (codes "id") (sorts.child sets.BindingIdentifier) ∷ has_by_default (atoms.flag false) (codes "is_async") sorts.flag ∷ has_by_default (atoms.flag false) (codes "generator") sorts.flag ∷ not_yet (codes "declare") sorts.flag ∷ has_by_default (atoms.flag false) (codes "pure") sorts.flag ∷ has_by_default (atoms.flag false) (codes "pife") sorts.flag ∷ not_yet (codes "type_parameters") sorts.unread_child ∷ not_yet (codes "this_param") sorts.unread_child ∷ needs (codes "params") (sorts.child sets.FormalParameters) ∷ not_yet (codes "return_type") sorts.unread_child ∷ may_have (codes "body") (sorts.child sets.FunctionBody) ∷ []
fields types.FunctionBody = may_have (codes "directives") (sorts.children sets.Directive) ∷ may_have (codes "statements") (sorts.children sets.Statement) ∷ []
fields types.ArrowFunctionExpression = has_by_default (atoms.flag false) (codes "is_async") sorts.flag ∷ has_by_default (atoms.flag false) (codes "pure") sorts.flag ∷ has_by_default (atoms.flag false) (codes "pife") sorts.flag ∷ not_yet (codes "type_parameters") sorts.unread_child ∷ needs (codes "params") (sorts.child sets.FormalParameters) ∷ not_yet (codes "return_type") sorts.unread_child ∷ needs (codes "body") (sorts.child sets.ArrowFunctionBody) ∷ []
fields types.AwaitExpression = needs (codes "argument") (sorts.child sets.Expression) ∷ []
fields types.YieldExpression = has_by_default (atoms.flag false) (codes "delegate") sorts.flag ∷ may_have (codes "argument") (sorts.child sets.Expression) ∷ []
fields types.TemplateElement = needs (codes "raw") sorts.text ∷ may_have (codes "cooked") sorts.units ∷ []
fields types.TemplateLiteral = may_have (codes "quasis") (sorts.children sets.TemplateElement) ∷ may_have (codes "expressions") (sorts.children sets.Expression) ∷ []
fields types.TaggedTemplateExpression = needs (codes "tag") (sorts.child sets.Expression) ∷ not_yet (codes "type_arguments") sorts.unread_child ∷ needs (codes "quasi") (sorts.child sets.TemplateLiteral) ∷ []
fields types.ImportExpression = not_yet (codes "phase") sorts.unread_child ∷ needs (codes "source") (sorts.child sets.Expression) ∷ may_have (codes "options") (sorts.child sets.Expression) ∷ []
fields types.ForStatement = may_have (codes "init") (sorts.child sets.ForStatementInit) ∷ may_have (codes "test") (sorts.child sets.Expression) ∷ may_have (codes "update") (sorts.child sets.Expression) ∷ needs (codes "body") (sorts.child sets.Statement) ∷ []
fields types.ForInStatement = needs (codes "left") (sorts.child sets.ForStatementLeft) ∷ needs (codes "right") (sorts.child sets.Expression) ∷ needs (codes "body") (sorts.child sets.Statement) ∷ []
fields types.ForOfStatement = has_by_default (atoms.flag false) (codes "is_await") sorts.flag ∷ needs (codes "left") (sorts.child sets.ForStatementLeft) ∷ needs (codes "right") (sorts.child sets.Expression) ∷ needs (codes "body") (sorts.child sets.Statement) ∷ []
fields types.WhileStatement = needs (codes "test") (sorts.child sets.Expression) ∷ needs (codes "body") (sorts.child sets.Statement) ∷ []
fields types.DoWhileStatement = needs (codes "body") (sorts.child sets.Statement) ∷ needs (codes "test") (sorts.child sets.Expression) ∷ []
fields types.LabelIdentifier = needs (codes "name") sorts.text ∷ []
fields types.LabeledStatement = needs (codes "label") (sorts.child sets.LabelIdentifier) ∷ needs (codes "body") (sorts.child sets.Statement) ∷ []
fields types.ContinueStatement = may_have (codes "label") (sorts.child sets.LabelIdentifier) ∷ []
fields types.BreakStatement = may_have (codes "label") (sorts.child sets.LabelIdentifier) ∷ []
fields types.ReturnStatement = may_have (codes "argument") (sorts.child sets.Expression) ∷ []
fields types.ThrowStatement = needs (codes "argument") (sorts.child sets.Expression) ∷ []
fields types.DebuggerStatement = []
fields types.SwitchStatement = needs (codes "discriminant") (sorts.child sets.Expression) ∷ may_have (codes "cases") (sorts.children sets.SwitchCase) ∷ []
fields types.SwitchCase = may_have (codes "test") (sorts.child sets.Expression) ∷ may_have (codes "consequent") (sorts.children sets.Statement) ∷ []
fields types.TryStatement = needs (codes "block") (sorts.child sets.BlockStatement) ∷ may_have (codes "handler") (sorts.child sets.CatchClause) ∷ may_have (codes "finalizer") (sorts.child sets.BlockStatement) ∷ []
fields types.CatchClause = may_have (codes "param") (sorts.child sets.BindingPattern) ∷ not_yet (codes "type_annotation") sorts.unread_child ∷ needs (codes "body") (sorts.child sets.BlockStatement) ∷ []
fields types.ObjectPattern = may_have (codes "properties") (sorts.children sets.BindingProperty) ∷ may_have (codes "rest") (sorts.child sets.BindingRestElement) ∷ []
fields types.BindingProperty = needs (codes "key") (sorts.child sets.PropertyKey) ∷ needs (codes "value") (sorts.child sets.BindingPattern) ∷ has_by_default (atoms.flag false) (codes "computed") sorts.flag ∷ []
fields types.BindingRestElement = needs (codes "argument") (sorts.child sets.BindingPattern) ∷ []
fields types.ArrayPattern = may_have (codes "elements") (sorts.children_or_holes sets.BindingPattern) ∷ may_have (codes "rest") (sorts.child sets.BindingRestElement) ∷ []
fields types.AssignmentPattern = needs (codes "left") (sorts.child sets.BindingPattern) ∷ needs (codes "right") (sorts.child sets.Expression) ∷ []
fields types.ArrayAssignmentTarget = may_have (codes "elements") (sorts.children_or_holes sets.AssignmentTargetMaybeDefault) ∷ may_have (codes "rest") (sorts.child sets.AssignmentTargetRest) ∷ []
fields types.ObjectAssignmentTarget = may_have (codes "properties") (sorts.children sets.AssignmentTargetProperty) ∷ may_have (codes "rest") (sorts.child sets.AssignmentTargetRest) ∷ []
fields types.AssignmentTargetWithDefault = needs (codes "binding") (sorts.child sets.AssignmentTarget) ∷ needs (codes "init") (sorts.child sets.Expression) ∷ []
fields types.AssignmentTargetPropertyIdentifier = needs (codes "binding") (sorts.child sets.IdentifierReference) ∷ may_have (codes "init") (sorts.child sets.Expression) ∷ []
fields types.AssignmentTargetPropertyProperty = needs (codes "name") (sorts.child sets.PropertyKey) ∷ needs (codes "binding") (sorts.child sets.AssignmentTargetMaybeDefault) ∷ has_by_default (atoms.flag false) (codes "computed") sorts.flag ∷ []
fields types.AssignmentTargetRest = needs (codes "target") (sorts.child sets.AssignmentTarget) ∷ []
fields types.PrivateIdentifier = needs (codes "name") sorts.text ∷ []
fields types.PrivateFieldExpression = needs (codes "object") (sorts.child sets.Expression) ∷ has_by_default (atoms.flag false) (codes "optional") sorts.flag ∷ needs (codes "field") (sorts.child sets.PrivateIdentifier) ∷ []
fields types.PrivateInExpression = needs (codes "left") (sorts.child sets.PrivateIdentifier) ∷ needs (codes "right") (sorts.child sets.Expression) ∷ []
fields types.Class = needs (codes "kind") (sorts.word class_form_words) ∷ not_yet (codes "decorators") sorts.unread_child ∷ may_have (codes "id") (sorts.child sets.BindingIdentifier) ∷ not_yet (codes "declare") sorts.flag ∷ not_yet (codes "is_abstract") sorts.flag ∷ not_yet (codes "type_parameters") sorts.unread_child ∷ may_have (codes "heritage") (sorts.child sets.Expression) ∷ not_yet (codes "heritage_arguments") sorts.unread_child ∷ not_yet (codes "implements") sorts.unread_child ∷ needs (codes "body") (sorts.child sets.ClassBody) ∷ []
fields types.ClassBody = may_have (codes "body") (sorts.children sets.ClassElement) ∷ []
fields types.StaticBlock = may_have (codes "body") (sorts.children sets.Statement) ∷ []
fields types.MethodDefinition = not_yet (codes "decorators") sorts.unread_child ∷ needs (codes "kind") (sorts.word kind_of_method_words) ∷ needs (codes "key") (sorts.child sets.PropertyKey) ∷ needs (codes "value") (sorts.child sets.Function) ∷ not_yet (codes "accessibility") sorts.unread_child ∷ has_by_default (atoms.flag false) (codes "computed") sorts.flag ∷ has_by_default (atoms.flag false) (codes "is_static") sorts.flag ∷ not_yet (codes "is_override") sorts.flag ∷ not_yet (codes "is_abstract") sorts.flag ∷ not_yet (codes "optional") sorts.flag ∷ []
fields types.PropertyDefinition = not_yet (codes "decorators") sorts.unread_child ∷ needs (codes "key") (sorts.child sets.PropertyKey) ∷ not_yet (codes "accessibility") sorts.unread_child ∷ has_by_default (atoms.flag false) (codes "computed") sorts.flag ∷ not_yet (codes "declare") sorts.flag ∷ not_yet (codes "is_abstract") sorts.flag ∷ has_by_default (atoms.flag false) (codes "is_static") sorts.flag ∷ not_yet (codes "is_override") sorts.flag ∷ not_yet (codes "readonly") sorts.flag ∷ not_yet (codes "optional") sorts.flag ∷ not_yet (codes "definite") sorts.flag ∷ not_yet (codes "type_annotation") sorts.unread_child ∷ may_have (codes "value") (sorts.child sets.Expression) ∷ []
fields types.Hashbang = needs (codes "value") sorts.text ∷ []
fields types.ImportDeclaration = needs (codes "import_kind") (sorts.word kind_of_import_words) ∷ not_yet (codes "phase") sorts.unread_child ∷ may_have (codes "specifiers") (sorts.maybe_children sets.ImportDeclarationSpecifier) ∷ needs (codes "source") (sorts.child sets.StringLiteral) ∷ may_have (codes "with_clause") (sorts.child sets.WithClause) ∷ []
fields types.ImportDefaultSpecifier = needs (codes "local") (sorts.child sets.BindingIdentifier) ∷ []
fields types.ImportNamespaceSpecifier = needs (codes "local") (sorts.child sets.BindingIdentifier) ∷ []
fields types.ImportSpecifier = needs (codes "import_kind") (sorts.word kind_of_import_words) ∷ needs (codes "imported") (sorts.child sets.ModuleExportName) ∷ needs (codes "local") (sorts.child sets.BindingIdentifier) ∷ []
fields types.WithClause = needs (codes "keyword") (sorts.word with_keyword_words) ∷ may_have (codes "entries") (sorts.children sets.ImportAttribute) ∷ []
fields types.ImportAttribute = needs (codes "key") (sorts.child sets.ImportAttributeKey) ∷ needs (codes "value") (sorts.child sets.StringLiteral) ∷ []
fields types.ExportDeclaration = needs (codes "declaration") (sorts.child sets.Declaration) ∷ []
fields types.ExportNamedDeclaration = needs (codes "export_kind") (sorts.word kind_of_import_words) ∷ may_have (codes "specifiers") (sorts.children sets.ExportSpecifier) ∷ []
fields types.ExportFromDeclaration = needs (codes "export_kind") (sorts.word kind_of_import_words) ∷ may_have (codes "specifiers") (sorts.children sets.ExportSpecifier) ∷ needs (codes "source") (sorts.child sets.StringLiteral) ∷ may_have (codes "with_clause") (sorts.child sets.WithClause) ∷ []
fields types.ExportSpecifier = needs (codes "export_kind") (sorts.word kind_of_import_words) ∷ needs (codes "local") (sorts.child sets.ModuleExportName) ∷ needs (codes "exported") (sorts.child sets.ModuleExportName) ∷ []
fields types.ExportAllDeclaration = needs (codes "export_kind") (sorts.word kind_of_import_words) ∷ may_have (codes "exported") (sorts.child sets.ModuleExportName) ∷ needs (codes "source") (sorts.child sets.StringLiteral) ∷ may_have (codes "with_clause") (sorts.child sets.WithClause) ∷ []
fields types.ExportDefaultDeclaration = needs (codes "declaration") (sorts.child sets.ExportDefaultDeclarationKind) ∷ []
