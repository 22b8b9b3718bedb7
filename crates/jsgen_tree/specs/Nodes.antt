-- Generated from tools/nodes/table.txt; edit that and run tools/nodes/generate.
-- The row of each type of node, as a pattern.
use Rattle.jsgen_tree.specs.Tree.{Tree, Trees, Maybe, MaybeTrees, Atoms, node, no_slots, one, maybe, many, maybe_many}
use Rattle.jsgen_tree.specs.declared.types.NodeType.TheVariants as types

pattern abbrev pub program : Atoms → Trees → Maybe → Trees → Trees → Tree
program a comments hashbang_child directives body = node types.Program a (many comments (maybe hashbang_child (many directives (many body no_slots))))

pattern abbrev pub comment : Atoms → Tree
comment a = node types.Comment a no_slots

pattern abbrev pub directive : Atoms → Tree
directive a = node types.Directive a no_slots

pattern abbrev pub variable_declaration : Atoms → Trees → Tree
variable_declaration a declarations = node types.VariableDeclaration a (many declarations no_slots)

pattern abbrev pub variable_declarator : Atoms → Tree → Maybe → Tree
variable_declarator a id init = node types.VariableDeclarator a (one id (maybe init no_slots))

pattern abbrev pub binding_identifier : Atoms → Tree
binding_identifier a = node types.BindingIdentifier a no_slots

pattern abbrev pub expression_statement : Atoms → Tree → Tree
expression_statement a expression = node types.ExpressionStatement a (one expression no_slots)

pattern abbrev pub block : Atoms → Trees → Tree
block a body = node types.BlockStatement a (many body no_slots)

pattern abbrev pub if_statement : Atoms → Tree → Tree → Maybe → Tree
if_statement a test consequent alternate = node types.IfStatement a (one test (one consequent (maybe alternate no_slots)))

pattern abbrev pub empty_statement : Atoms → Tree
empty_statement a = node types.EmptyStatement a no_slots

pattern abbrev pub identifier_reference : Atoms → Tree
identifier_reference a = node types.IdentifierReference a no_slots

pattern abbrev pub this_expression : Atoms → Tree
this_expression a = node types.ThisExpression a no_slots

pattern abbrev pub null_literal : Atoms → Tree
null_literal a = node types.NullLiteral a no_slots

pattern abbrev pub boolean_literal : Atoms → Tree
boolean_literal a = node types.BooleanLiteral a no_slots

pattern abbrev pub numeric_literal : Atoms → Tree
numeric_literal a = node types.NumericLiteral a no_slots

pattern abbrev pub big_int_literal : Atoms → Tree
big_int_literal a = node types.BigIntLiteral a no_slots

pattern abbrev pub string_literal : Atoms → Tree
string_literal a = node types.StringLiteral a no_slots

pattern abbrev pub reg_exp_literal : Atoms → Tree
reg_exp_literal a = node types.RegExpLiteral a no_slots

pattern abbrev pub parenthesized : Atoms → Tree → Tree
parenthesized a expression = node types.ParenthesizedExpression a (one expression no_slots)

pattern abbrev pub binary : Atoms → Tree → Tree → Tree
binary a left right = node types.BinaryExpression a (one left (one right no_slots))

pattern abbrev pub logical : Atoms → Tree → Tree → Tree
logical a left right = node types.LogicalExpression a (one left (one right no_slots))

pattern abbrev pub identifier_name : Atoms → Tree
identifier_name a = node types.IdentifierName a no_slots

pattern abbrev pub static_member : Atoms → Tree → Tree → Tree
static_member a object property = node types.StaticMemberExpression a (one object (one property no_slots))

pattern abbrev pub computed_member : Atoms → Tree → Tree → Tree
computed_member a object expression = node types.ComputedMemberExpression a (one object (one expression no_slots))

pattern abbrev pub call : Atoms → Tree → Trees → Tree
call a callee arguments = node types.CallExpression a (one callee (many arguments no_slots))

pattern abbrev pub chain : Atoms → Tree → Tree
chain a expression = node types.ChainExpression a (one expression no_slots)

pattern abbrev pub spread : Atoms → Tree → Tree
spread a argument = node types.SpreadElement a (one argument no_slots)

pattern abbrev pub array : Atoms → Trees → Tree
array a elements = node types.ArrayExpression a (many elements no_slots)

pattern abbrev pub object_property : Atoms → Tree → Tree → Tree
object_property a key value = node types.ObjectProperty a (one key (one value no_slots))

pattern abbrev pub object_expression : Atoms → Trees → Tree
object_expression a properties = node types.ObjectExpression a (many properties no_slots)

pattern abbrev pub unary : Atoms → Tree → Tree
unary a argument = node types.UnaryExpression a (one argument no_slots)

pattern abbrev pub new_target : Atoms → Tree
new_target a = node types.NewTarget a no_slots

pattern abbrev pub update : Atoms → Tree → Tree
update a argument = node types.UpdateExpression a (one argument no_slots)

pattern abbrev pub new_expression : Atoms → Tree → Trees → Tree
new_expression a callee arguments = node types.NewExpression a (one callee (many arguments no_slots))

pattern abbrev pub super : Atoms → Tree
super a = node types.Super a no_slots

pattern abbrev pub import_meta : Atoms → Tree
import_meta a = node types.ImportMeta a no_slots

pattern abbrev pub conditional : Atoms → Tree → Tree → Tree → Tree
conditional a test consequent alternate = node types.ConditionalExpression a (one test (one consequent (one alternate no_slots)))

pattern abbrev pub sequence : Atoms → Trees → Tree
sequence a expressions = node types.SequenceExpression a (many expressions no_slots)

pattern abbrev pub assignment : Atoms → Tree → Tree → Tree
assignment a left right = node types.AssignmentExpression a (one left (one right no_slots))

pattern abbrev pub formal_parameter : Atoms → Tree → Maybe → Tree
formal_parameter a pattern initializer = node types.FormalParameter a (one pattern (maybe initializer no_slots))

pattern abbrev pub formal_parameter_rest : Atoms → Tree → Tree
formal_parameter_rest a argument = node types.FormalParameterRest a (one argument no_slots)

pattern abbrev pub formal_parameters : Atoms → Trees → Maybe → Tree
formal_parameters a items rest = node types.FormalParameters a (many items (maybe rest no_slots))

pattern abbrev pub function : Atoms → Maybe → Tree → Maybe → Tree
function a id params body = node types.Function a (maybe id (one params (maybe body no_slots)))

pattern abbrev pub function_body : Atoms → Trees → Trees → Tree
function_body a directives statements = node types.FunctionBody a (many directives (many statements no_slots))

pattern abbrev pub arrow_function : Atoms → Tree → Tree → Tree
arrow_function a params body = node types.ArrowFunctionExpression a (one params (one body no_slots))

pattern abbrev pub await_expression : Atoms → Tree → Tree
await_expression a argument = node types.AwaitExpression a (one argument no_slots)

pattern abbrev pub yield_expression : Atoms → Maybe → Tree
yield_expression a argument = node types.YieldExpression a (maybe argument no_slots)

pattern abbrev pub template_element : Atoms → Tree
template_element a = node types.TemplateElement a no_slots

pattern abbrev pub template_literal : Atoms → Trees → Trees → Tree
template_literal a quasis expressions = node types.TemplateLiteral a (many quasis (many expressions no_slots))

pattern abbrev pub tagged_template : Atoms → Tree → Tree → Tree
tagged_template a tag quasi = node types.TaggedTemplateExpression a (one tag (one quasi no_slots))

pattern abbrev pub import_call : Atoms → Tree → Maybe → Tree
import_call a source options = node types.ImportExpression a (one source (maybe options no_slots))

pattern abbrev pub for_statement : Atoms → Maybe → Maybe → Maybe → Tree → Tree
for_statement a init test update_child body = node types.ForStatement a (maybe init (maybe test (maybe update_child (one body no_slots))))

pattern abbrev pub for_in_statement : Atoms → Tree → Tree → Tree → Tree
for_in_statement a left right body = node types.ForInStatement a (one left (one right (one body no_slots)))

pattern abbrev pub for_of_statement : Atoms → Tree → Tree → Tree → Tree
for_of_statement a left right body = node types.ForOfStatement a (one left (one right (one body no_slots)))

pattern abbrev pub while_statement : Atoms → Tree → Tree → Tree
while_statement a test body = node types.WhileStatement a (one test (one body no_slots))

pattern abbrev pub do_while_statement : Atoms → Tree → Tree → Tree
do_while_statement a body test = node types.DoWhileStatement a (one body (one test no_slots))

pattern abbrev pub label_identifier : Atoms → Tree
label_identifier a = node types.LabelIdentifier a no_slots

pattern abbrev pub labeled_statement : Atoms → Tree → Tree → Tree
labeled_statement a label body = node types.LabeledStatement a (one label (one body no_slots))

pattern abbrev pub continue_statement : Atoms → Maybe → Tree
continue_statement a label = node types.ContinueStatement a (maybe label no_slots)

pattern abbrev pub break_statement : Atoms → Maybe → Tree
break_statement a label = node types.BreakStatement a (maybe label no_slots)

pattern abbrev pub return_statement : Atoms → Maybe → Tree
return_statement a argument = node types.ReturnStatement a (maybe argument no_slots)

pattern abbrev pub throw_statement : Atoms → Tree → Tree
throw_statement a argument = node types.ThrowStatement a (one argument no_slots)

pattern abbrev pub debugger_statement : Atoms → Tree
debugger_statement a = node types.DebuggerStatement a no_slots

pattern abbrev pub switch_statement : Atoms → Tree → Trees → Tree
switch_statement a discriminant cases = node types.SwitchStatement a (one discriminant (many cases no_slots))

pattern abbrev pub switch_case : Atoms → Maybe → Trees → Tree
switch_case a test consequent = node types.SwitchCase a (maybe test (many consequent no_slots))

pattern abbrev pub try_statement : Atoms → Tree → Maybe → Maybe → Tree
try_statement a block_child handler finalizer = node types.TryStatement a (one block_child (maybe handler (maybe finalizer no_slots)))

pattern abbrev pub catch_clause : Atoms → Maybe → Tree → Tree
catch_clause a param body = node types.CatchClause a (maybe param (one body no_slots))

pattern abbrev pub object_pattern : Atoms → Trees → Maybe → Tree
object_pattern a properties rest = node types.ObjectPattern a (many properties (maybe rest no_slots))

pattern abbrev pub binding_property : Atoms → Tree → Tree → Tree
binding_property a key value = node types.BindingProperty a (one key (one value no_slots))

pattern abbrev pub binding_rest_element : Atoms → Tree → Tree
binding_rest_element a argument = node types.BindingRestElement a (one argument no_slots)

pattern abbrev pub array_pattern : Atoms → Trees → Maybe → Tree
array_pattern a elements rest = node types.ArrayPattern a (many elements (maybe rest no_slots))

pattern abbrev pub assignment_pattern : Atoms → Tree → Tree → Tree
assignment_pattern a left right = node types.AssignmentPattern a (one left (one right no_slots))

pattern abbrev pub array_target : Atoms → Trees → Maybe → Tree
array_target a elements rest = node types.ArrayAssignmentTarget a (many elements (maybe rest no_slots))

pattern abbrev pub object_target : Atoms → Trees → Maybe → Tree
object_target a properties rest = node types.ObjectAssignmentTarget a (many properties (maybe rest no_slots))

pattern abbrev pub target_with_default : Atoms → Tree → Tree → Tree
target_with_default a binding init = node types.AssignmentTargetWithDefault a (one binding (one init no_slots))

pattern abbrev pub target_property_identifier : Atoms → Tree → Maybe → Tree
target_property_identifier a binding init = node types.AssignmentTargetPropertyIdentifier a (one binding (maybe init no_slots))

pattern abbrev pub target_property : Atoms → Tree → Tree → Tree
target_property a name binding = node types.AssignmentTargetPropertyProperty a (one name (one binding no_slots))

pattern abbrev pub target_rest : Atoms → Tree → Tree
target_rest a target = node types.AssignmentTargetRest a (one target no_slots)

pattern abbrev pub private_identifier : Atoms → Tree
private_identifier a = node types.PrivateIdentifier a no_slots

pattern abbrev pub private_member : Atoms → Tree → Tree → Tree
private_member a object field = node types.PrivateFieldExpression a (one object (one field no_slots))

pattern abbrev pub private_in : Atoms → Tree → Tree → Tree
private_in a left right = node types.PrivateInExpression a (one left (one right no_slots))

pattern abbrev pub class : Atoms → Maybe → Maybe → Tree → Tree
class a id heritage body = node types.Class a (maybe id (maybe heritage (one body no_slots)))

pattern abbrev pub class_body : Atoms → Trees → Tree
class_body a body = node types.ClassBody a (many body no_slots)

pattern abbrev pub static_block : Atoms → Trees → Tree
static_block a body = node types.StaticBlock a (many body no_slots)

pattern abbrev pub method_definition : Atoms → Tree → Tree → Tree
method_definition a key value = node types.MethodDefinition a (one key (one value no_slots))

pattern abbrev pub property_definition : Atoms → Tree → Maybe → Tree
property_definition a key value = node types.PropertyDefinition a (one key (maybe value no_slots))

pattern abbrev pub hashbang : Atoms → Tree
hashbang a = node types.Hashbang a no_slots

pattern abbrev pub import_declaration : Atoms → MaybeTrees → Tree → Maybe → Tree
import_declaration a specifiers source with_clause_child = node types.ImportDeclaration a (maybe_many specifiers (one source (maybe with_clause_child no_slots)))

pattern abbrev pub import_default_specifier : Atoms → Tree → Tree
import_default_specifier a local = node types.ImportDefaultSpecifier a (one local no_slots)

pattern abbrev pub import_namespace_specifier : Atoms → Tree → Tree
import_namespace_specifier a local = node types.ImportNamespaceSpecifier a (one local no_slots)

pattern abbrev pub import_specifier : Atoms → Tree → Tree → Tree
import_specifier a imported local = node types.ImportSpecifier a (one imported (one local no_slots))

pattern abbrev pub with_clause : Atoms → Trees → Tree
with_clause a entries = node types.WithClause a (many entries no_slots)

pattern abbrev pub import_attribute : Atoms → Tree → Tree → Tree
import_attribute a key value = node types.ImportAttribute a (one key (one value no_slots))

pattern abbrev pub export_declaration : Atoms → Tree → Tree
export_declaration a declaration = node types.ExportDeclaration a (one declaration no_slots)

pattern abbrev pub export_named_declaration : Atoms → Trees → Tree
export_named_declaration a specifiers = node types.ExportNamedDeclaration a (many specifiers no_slots)

pattern abbrev pub export_from_declaration : Atoms → Trees → Tree → Maybe → Tree
export_from_declaration a specifiers source with_clause_child = node types.ExportFromDeclaration a (many specifiers (one source (maybe with_clause_child no_slots)))

pattern abbrev pub export_specifier : Atoms → Tree → Tree → Tree
export_specifier a local exported = node types.ExportSpecifier a (one local (one exported no_slots))

pattern abbrev pub export_all_declaration : Atoms → Maybe → Tree → Maybe → Tree
export_all_declaration a exported source with_clause_child = node types.ExportAllDeclaration a (maybe exported (one source (maybe with_clause_child no_slots)))

pattern abbrev pub export_default_declaration : Atoms → Tree → Tree
export_default_declaration a declaration = node types.ExportDefaultDeclaration a (one declaration no_slots)
