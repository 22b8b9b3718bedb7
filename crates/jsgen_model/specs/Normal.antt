-- What two trees of one meaning have in common.
use Rattle.std.specs.Prelude.{ℕ, List, [], ◌∷◌, Bool, true, false, not, flat_map, Option, Some, None, decimal, if◌then◌else◌, ◌&&◌, ◌||◌, nat_lt}
use Rattle.jsgen_tree.specs.Atom.{Atom, no_value, text, units, flag, numeric_kind, declaration_kind, kind_of_function, binary_operator, logical_operator, unary_operator, update_operator, property_kind, assignment_operator, kind_of_method, class_form, kind_of_import, with_keyword}
use Rattle.std.specs.List.{list_all}
use Rattle.std.specs.Option.{option_map_or}
use Rattle.std.specs.Char.Escape.{encode_utf16}
use Rattle.jsgen_tree.specs.Number.{NumericKind, Whole, Raw}
use Rattle.jsgen_tree.specs.Tree.{Tree, node, Slots, no_slots, one, maybe, many, maybe_many, Maybe, absent, given, Trees, no_trees, more, hole, MaybeTrees, no_list, listed, Atoms}
use Rattle.jsgen_tree.specs.declared.types.NodeType.TheVariants as types
use Rattle.jsgen_tree.specs.Places.{bare, absent_values}
use Rattle.jsgen_tree.specs.Values.{directive_directive, variable_declaration_kind, binding_identifier_name, identifier_reference_name, identifier_name_name, label_identifier_name, for_of_statement_is_await, boolean_literal_value, numeric_literal_kind, numeric_literal_negative, numeric_literal_digits, numeric_literal_text, big_int_literal_value, string_literal_value, binary_expression_operator, logical_expression_operator, unary_expression_operator, update_expression_operator, update_expression_prefix, variable_declaration_declare, variable_declarator_definite, static_member_expression_optional, computed_member_expression_optional, call_expression_optional, object_property_kind, object_property_method, object_property_shorthand, object_property_computed, assignment_expression_operator, function_kind, function_is_async, function_generator, function_declare, formal_parameter_is_override, formal_parameter_readonly, formal_parameter_optional, arrow_function_expression_is_async, reg_exp_literal_pattern, reg_exp_literal_flags, method_definition_kind, method_definition_computed, method_definition_is_static, method_definition_is_override, method_definition_is_abstract, method_definition_optional, template_element_raw, template_element_cooked, assignment_target_property_property_computed, binding_property_computed, class_declare, class_is_abstract, class_kind, export_from_declaration_export_kind, export_named_declaration_export_kind, export_specifier_export_kind, export_all_declaration_export_kind, hashbang_value, import_declaration_import_kind, import_specifier_import_kind, private_field_expression_optional, private_identifier_name, property_definition_computed, property_definition_declare, property_definition_definite, property_definition_is_abstract, property_definition_is_override, property_definition_is_static, property_definition_optional, property_definition_readonly, with_clause_keyword, yield_expression_delegate}
use Rattle.jsgen_syntax.specs.Raw.{directive_value, pattern_text}
use Rattle.jsgen_syntax.specs.declared.operator.LogicalOperator.{LogicalOperator}
use Rattle.jsgen_syntax.specs.declared.operator.UnaryOperator.TheVariants.{UnaryNegation}
use Rattle.jsgen_syntax.specs.declared.operator.LogicalOperator.TheVariants.{Or, And, Coalesce}
use Rattle.jsgen_tree.specs.declared.statements.VariableDeclarationKind.{VariableDeclarationKind}
use Rattle.jsgen_tree.specs.declared.collections.PropertyKind.{PropertyKind}
use Rattle.jsgen_tree.specs.declared.collections.PropertyKind.TheVariants as property_kinds
use Rattle.jsgen_tree.specs.declared.functions.FunctionKind.{FunctionKind}
use Rattle.jsgen_tree.specs.Inside.{ends_open, written_name_in, is_proto, is_method, behind_minus, is_negative_number}
use Rattle.jsgen_tree.specs.declared.classes.MethodDefinitionKind.{MethodDefinitionKind}
use Rattle.jsgen_tree.specs.declared.classes.MethodDefinitionKind.TheVariants as method_kinds
use Rattle.jsgen_tree.specs.Nodes as tree
use Rattle.jsgen_model.specs.Renamed.{written_out}

-- ---- what a normal form holds: one value for each field, and none of a field that doesn't count

-- of a row none of whose n fields counts
abbrev pub nothing_of : ℕ → Atoms
nothing_of n = bare (absent_values n)

-- a flag that counts where it is set
abbrev pub if_set : Bool → Atom
if_set true = flag true
if_set false = no_value

-- a name by itself
abbrev pub named : List ℕ → Atoms
named name = bare (text name ∷ [])

-- a name without the number by which a table knows it
abbrev pub unnumbered : List ℕ → Atoms
unnumbered name = bare (text name ∷ no_value ∷ [])

-- a member by whether its link is `?.`
abbrev pub link_values : Bool → Atoms
link_values optional = bare (flag optional ∷ [])

-- a call likewise; whether it is pure doesn't count
abbrev pub call_values : Bool → Atoms
call_values optional = bare (flag optional ∷ no_value ∷ [])

-- a number by its text
abbrev pub by_text : List ℕ → Atoms
by_text w = bare (numeric_kind Raw ∷ no_value ∷ no_value ∷ text w ∷ [])

abbrev pub declared_as : VariableDeclarationKind → Atoms
declared_as kind = bare (declaration_kind kind ∷ no_value ∷ [])

-- a function by where it stands; whether it is pure or marked as called doesn't count
abbrev pub function_values : FunctionKind → Atom → Atom → Atom → Atoms
function_values kind is_async generator declare = bare (kind_of_function kind ∷ is_async ∷ generator ∷ declare ∷ no_value ∷ no_value ∷ [])

abbrev pub number_text : NumericKind → Atoms → List ℕ
number_text Whole a = decimal (numeric_literal_digits a)
number_text Raw a = numeric_literal_text a

-- a number or a big integer with a minus before it is an operation on the positive one
abbrev pub minus_before : Bool → Tree → Tree
minus_before true t = tree.unary (bare (unary_operator UnaryNegation ∷ [])) t
minus_before false t = t

abbrev pub big_integer : List ℕ → Option (List ℕ) → Tree
big_integer value (Some digits) = minus_before true (tree.big_int_literal (named digits))
big_integer value None = tree.big_int_literal (named value)

abbrev pub or_none : Option (List ℕ) → List ℕ
or_none None = []
or_none (Some us) = us

-- a directive by its value, which raw text stands for
abbrev pub directive_units : Atom → List ℕ
directive_units (units us) = us
directive_units (text raw) = or_none (directive_value raw)
directive_units v = []

abbrev pub is_code_point : ℕ → Bool
is_code_point c = nat_lt c 0x11_0000

-- a pattern of a regular expression in ASCII, where it is a text of code points
abbrev pub ascii_pattern : List ℕ → List ℕ
ascii_pattern w = if list_all is_code_point w then pattern_text true w else w

-- a constructor is known by its key
abbrev pub as_method : MethodDefinitionKind → MethodDefinitionKind
as_method method_kinds.Constructor = method_kinds.Method
as_method kind = kind

-- of a member of a class: what it is, whether its key is computed, whether it is static, and what TypeScript adds
abbrev pub method_values : MethodDefinitionKind → Bool → Bool → Atom → Atom → Atom → Atoms
method_values kind computed is_static is_override is_abstract optional = bare (kind_of_method kind ∷ flag computed ∷ flag is_static ∷ is_override ∷ is_abstract ∷ optional ∷ [])

-- ---- chains of one logical operator

-- operands of one operator, from left to right
pattern abbrev pub chain : Atoms → Trees → Tree
chain a operands = node types.LogicalExpression a (many operands no_slots)

abbrev pub same_operator : LogicalOperator → LogicalOperator → Bool
same_operator Or Or = true
same_operator And And = true
same_operator Coalesce Coalesce = true
same_operator o p = false

abbrev pub joined : Trees → Trees → Trees
joined no_trees us = us
joined (more t ts) us = more t (joined ts us)
joined (hole ts) us = hole (joined ts us)

-- what an operand adds to a chain: a chain of the same operator adds its own operands
abbrev pub links : LogicalOperator → Tree → Trees
links o (chain a operands) = if same_operator o (logical_expression_operator a) then operands else more (chain a operands) no_trees
links o t = more t no_trees

-- ---- sequences

-- what a part adds to a sequence: a sequence adds its own parts
abbrev pub parts_of : Tree → Trees
parts_of (tree.sequence a expressions) = expressions
parts_of t = more t no_trees

-- the parts of each, one after another
abbrev pub flattened : Trees → Trees
flattened no_trees = no_trees
flattened (more t ts) = joined (parts_of t) (flattened ts)
flattened (hole ts) = hole (flattened ts)

-- a block round one statement that ends in an `if` without `else`, where such a statement couldn't stand by itself
abbrev pub unbraced : Tree → Tree
unbraced (tree.block a (more s no_trees)) = if ends_open s then s else tree.block a (more s no_trees)
unbraced t = t

-- of a property: what it is, whether it is written as a method, whether its name alone says it, and whether its key is computed
abbrev pub property_values : PropertyKind → Bool → Bool → Bool → Atoms
property_values kind method shorthand computed = bare (property_kind kind ∷ flag method ∷ flag shorthand ∷ flag computed ∷ [])

-- of an accessor the flag doesn't count
abbrev pub is_written_as_method : PropertyKind → Bool → Bool
is_written_as_method property_kinds.Init method = method
is_written_as_method kind method = false

-- the property `__proto__` that its value alone says, which is another thing than `__proto__: __proto__`; no method is one
abbrev pub is_proto_shorthand : Bool → Bool → Tree → Bool
is_proto_shorthand method shorthand key = not method && option_map_or is_proto (written_name_in key) false && shorthand

-- a key that is computed, or stands in brackets since it is a negative number
abbrev pub is_computed : Bool → Tree → Bool
is_computed computed key = computed || is_negative_number key

-- what counts of a property
abbrev pub property_form : Atoms → Tree → Atoms
property_form a key = property_values (object_property_kind a) (is_written_as_method (object_property_kind a) (object_property_method a))
    (is_proto_shorthand (is_method (object_property_kind a) (object_property_method a)) (object_property_shorthand a) key) (is_computed (object_property_computed a) key)

-- ---- templates

-- what an untagged piece stands for, and nothing of another tree
abbrev pub piece_value : Tree → List ℕ
piece_value (tree.template_element a) = or_none (template_element_cooked a)
piece_value t = []

-- a piece by what it stands for
abbrev pub by_value : Tree → Tree
by_value t = tree.template_element (bare (no_value ∷ units (piece_value t) ∷ []))

abbrev pub by_values : Trees → Trees
by_values no_trees = no_trees
by_values (more t ts) = more (by_value t) (by_values ts)
by_values (hole ts) = hole (by_values ts)

-- the raw text of a piece, which its tag sees, and nothing of another tree
abbrev pub raw_of_piece : Tree → List ℕ
raw_of_piece (tree.template_element a) = template_element_raw a
raw_of_piece t = []

abbrev pub by_raw_text : Tree → Tree
by_raw_text t = tree.template_element (bare (text (raw_of_piece t) ∷ no_value ∷ []))

abbrev pub by_raw_texts : Trees → Trees
by_raw_texts no_trees = no_trees
by_raw_texts (more t ts) = more (by_raw_text t) (by_raw_texts ts)
by_raw_texts (hole ts) = hole (by_raw_texts ts)

-- a template without a tag: of one piece alone a string (ECMA-262, 13.2.8.6)
abbrev pub untagged : Trees → Trees → Tree
untagged (more t no_trees) no_trees = tree.string_literal (bare (units (piece_value t) ∷ []))
untagged pieces expressions = tree.template_literal (nothing_of 0) pieces expressions

-- ---- names of imports and exports

-- a name by its text, whether it is written as a name or as a string (ECMA-262, 16.2, ModuleExportName)
abbrev pub by_its_text : Tree → Tree
by_its_text (tree.identifier_name a) = tree.string_literal (bare (units (flat_map encode_utf16 (identifier_name_name a)) ∷ []))
by_its_text (tree.identifier_reference a) = tree.string_literal (bare (units (flat_map encode_utf16 (identifier_reference_name a)) ∷ []))
by_its_text t = t

abbrev pub maybe_by_its_text : Maybe → Maybe
maybe_by_its_text absent = absent
maybe_by_its_text (given t) = given (by_its_text t)

-- Parentheses, spans, the source and the kind of a program are away, and whether a call, `new` or a function is pure, or is marked as called; a flag such as `is_async` that is false counts like one that is absent; a directive is its value; a
-- whole number is its digits, and a minus before a number is an operation; a negative number that is a key is a computed one; a chain of one logical operator is one list, however it was grouped, and so is a sequence; braces round a consequent
-- that ends in an `if` without `else` are away; a property that its value alone says is written out, but for `__proto__`, and so is one of a target; a pattern of a regular expression is in ASCII; a constructor is a method; the
-- pieces of a template are what they stand for, and behind a tag their raw texts, and an untagged template of one piece is a string; a name of an import or an export is its text.
abbrev mutual
  pub normal : Tree → Tree
  normal (tree.program a comments hashbang directives body) = tree.program (nothing_of 4) no_trees (normal_maybe hashbang) (normal_trees directives) (normal_trees body)
  normal (tree.directive a) = tree.directive (bare (units (directive_units (directive_directive a)) ∷ []))
  normal (tree.binding_identifier a) = tree.binding_identifier (unnumbered (binding_identifier_name a))
  normal (tree.identifier_reference a) = tree.identifier_reference (unnumbered (identifier_reference_name a))
  normal (tree.numeric_literal a) = minus_before (numeric_literal_negative a) (tree.numeric_literal (by_text (number_text (numeric_literal_kind a) a)))
  normal (tree.big_int_literal a) = big_integer (big_int_literal_value a) (behind_minus (big_int_literal_value a))
  normal (tree.parenthesized a expression) = normal expression
  normal (tree.logical a left right) = chain (bare (logical_operator (logical_expression_operator a) ∷ [])) (joined (links (logical_expression_operator a) (normal left)) (links (logical_expression_operator a) (normal right)))
  normal (tree.if_statement a test consequent alternate) = tree.if_statement (nothing_of 0) (normal test) (unbraced (normal consequent)) (normal_maybe alternate)
  normal (tree.label_identifier a) = tree.label_identifier (named (label_identifier_name a))
  normal (tree.identifier_name a) = tree.identifier_name (named (identifier_name_name a))
  normal (tree.static_member a object property) = tree.static_member (link_values (static_member_expression_optional a)) (normal object) (normal property)
  normal (tree.computed_member a object expression) = tree.computed_member (link_values (computed_member_expression_optional a)) (normal object) (normal expression)
  normal (tree.call a callee arguments) = tree.call (call_values (call_expression_optional a)) (normal callee) (normal_trees arguments)
  normal (tree.object_property a key value) = tree.object_property (property_form a key) (normal key) (normal value)
  normal (tree.sequence a expressions) = tree.sequence (nothing_of 0) (flattened (normal_trees expressions))
  normal (tree.function a id params body) = tree.function (function_values (function_kind a) (if_set (function_is_async a)) (if_set (function_generator a)) (if_set (function_declare a))) (normal_maybe id) (normal params) (normal_maybe body)
  normal (tree.reg_exp_literal a) = tree.reg_exp_literal (bare (text (ascii_pattern (reg_exp_literal_pattern a)) ∷ text (reg_exp_literal_flags a) ∷ []))
  normal (tree.method_definition a key value) = tree.method_definition (method_values (as_method (method_definition_kind a)) (method_definition_computed a) (method_definition_is_static a) (if_set (method_definition_is_override a)) (if_set (method_definition_is_abstract a)) (if_set (method_definition_optional a))) (normal key) (normal value)
  normal (tree.target_property_identifier a binding init) = written_out (nothing_of 0) (normal binding) (normal binding) (normal_maybe init)
  normal (tree.template_literal a quasis expressions) = untagged (by_values quasis) (normal_trees expressions)
  normal (tree.tagged_template a tag quasi) = tree.tagged_template (nothing_of 0) (normal tag) (normal_quasi quasi)
  normal (tree.import_specifier a imported local) = tree.import_specifier (bare (kind_of_import (import_specifier_import_kind a) ∷ [])) (by_its_text (normal imported)) (normal local)
  normal (tree.export_specifier a local exported) = tree.export_specifier (bare (kind_of_import (export_specifier_export_kind a) ∷ [])) (by_its_text (normal local)) (by_its_text (normal exported))
  normal (tree.export_all_declaration a exported source with_clause) = tree.export_all_declaration (bare (kind_of_import (export_all_declaration_export_kind a) ∷ [])) (maybe_by_its_text (normal_maybe exported)) (normal source) (normal_maybe with_clause)
  normal (tree.comment a) = tree.comment (bare a.values)
  normal (tree.template_element a) = tree.template_element (bare a.values)
  -- generated from tools/nodes/table.txt: clauses
  normal (tree.variable_declaration a declarations) = tree.variable_declaration (bare (declaration_kind (variable_declaration_kind a) ∷ if_set (variable_declaration_declare a) ∷ [])) (normal_trees declarations)
  normal (tree.variable_declarator a id init) = tree.variable_declarator (bare (if_set (variable_declarator_definite a) ∷ [])) (normal id) (normal_maybe init)
  normal (tree.expression_statement a expression) = tree.expression_statement (nothing_of 0) (normal expression)
  normal (tree.block a body) = tree.block (nothing_of 0) (normal_trees body)
  normal (tree.empty_statement a) = tree.empty_statement (nothing_of 0)
  normal (tree.this_expression a) = tree.this_expression (nothing_of 0)
  normal (tree.null_literal a) = tree.null_literal (nothing_of 0)
  normal (tree.boolean_literal a) = tree.boolean_literal (bare (flag (boolean_literal_value a) ∷ []))
  normal (tree.string_literal a) = tree.string_literal (bare (units (string_literal_value a) ∷ []))
  normal (tree.binary a left right) = tree.binary (bare (binary_operator (binary_expression_operator a) ∷ [])) (normal left) (normal right)
  normal (tree.chain a expression) = tree.chain (nothing_of 0) (normal expression)
  normal (tree.spread a argument) = tree.spread (nothing_of 0) (normal argument)
  normal (tree.array a elements) = tree.array (nothing_of 0) (normal_trees elements)
  normal (tree.object_expression a properties) = tree.object_expression (nothing_of 0) (normal_trees properties)
  normal (tree.unary a argument) = tree.unary (bare (unary_operator (unary_expression_operator a) ∷ [])) (normal argument)
  normal (tree.new_target a) = tree.new_target (nothing_of 0)
  normal (tree.update a argument) = tree.update (bare (update_operator (update_expression_operator a) ∷ flag (update_expression_prefix a) ∷ [])) (normal argument)
  normal (tree.new_expression a callee arguments) = tree.new_expression (nothing_of 1) (normal callee) (normal_trees arguments)
  normal (tree.super a) = tree.super (nothing_of 0)
  normal (tree.import_meta a) = tree.import_meta (nothing_of 0)
  normal (tree.conditional a test consequent alternate) = tree.conditional (nothing_of 0) (normal test) (normal consequent) (normal alternate)
  normal (tree.assignment a left right) = tree.assignment (bare (assignment_operator (assignment_expression_operator a) ∷ [])) (normal left) (normal right)
  normal (tree.formal_parameter a pattern initializer) = tree.formal_parameter (bare (if_set (formal_parameter_is_override a) ∷ if_set (formal_parameter_readonly a) ∷ if_set (formal_parameter_optional a) ∷ [])) (normal pattern) (normal_maybe initializer)
  normal (tree.formal_parameter_rest a argument) = tree.formal_parameter_rest (nothing_of 0) (normal argument)
  normal (tree.formal_parameters a items rest) = tree.formal_parameters (nothing_of 0) (normal_trees items) (normal_maybe rest)
  normal (tree.function_body a directives statements) = tree.function_body (nothing_of 0) (normal_trees directives) (normal_trees statements)
  normal (tree.arrow_function a params body) = tree.arrow_function (bare (if_set (arrow_function_expression_is_async a) ∷ no_value ∷ no_value ∷ [])) (normal params) (normal body)
  normal (tree.await_expression a argument) = tree.await_expression (nothing_of 0) (normal argument)
  normal (tree.yield_expression a argument) = tree.yield_expression (bare (flag (yield_expression_delegate a) ∷ [])) (normal_maybe argument)
  normal (tree.import_call a source options) = tree.import_call (nothing_of 0) (normal source) (normal_maybe options)
  normal (tree.for_statement a init test update body) = tree.for_statement (nothing_of 0) (normal_maybe init) (normal_maybe test) (normal_maybe update) (normal body)
  normal (tree.for_in_statement a left right body) = tree.for_in_statement (nothing_of 0) (normal left) (normal right) (normal body)
  normal (tree.for_of_statement a left right body) = tree.for_of_statement (bare (if_set (for_of_statement_is_await a) ∷ [])) (normal left) (normal right) (normal body)
  normal (tree.while_statement a test body) = tree.while_statement (nothing_of 0) (normal test) (normal body)
  normal (tree.do_while_statement a body test) = tree.do_while_statement (nothing_of 0) (normal body) (normal test)
  normal (tree.labeled_statement a label body) = tree.labeled_statement (nothing_of 0) (normal label) (normal body)
  normal (tree.continue_statement a label) = tree.continue_statement (nothing_of 0) (normal_maybe label)
  normal (tree.break_statement a label) = tree.break_statement (nothing_of 0) (normal_maybe label)
  normal (tree.return_statement a argument) = tree.return_statement (nothing_of 0) (normal_maybe argument)
  normal (tree.throw_statement a argument) = tree.throw_statement (nothing_of 0) (normal argument)
  normal (tree.debugger_statement a) = tree.debugger_statement (nothing_of 0)
  normal (tree.switch_statement a discriminant cases) = tree.switch_statement (nothing_of 0) (normal discriminant) (normal_trees cases)
  normal (tree.switch_case a test consequent) = tree.switch_case (nothing_of 0) (normal_maybe test) (normal_trees consequent)
  normal (tree.try_statement a block handler finalizer) = tree.try_statement (nothing_of 0) (normal block) (normal_maybe handler) (normal_maybe finalizer)
  normal (tree.catch_clause a param body) = tree.catch_clause (nothing_of 0) (normal_maybe param) (normal body)
  normal (tree.object_pattern a properties rest) = tree.object_pattern (nothing_of 0) (normal_trees properties) (normal_maybe rest)
  normal (tree.binding_property a key value) = tree.binding_property (bare (flag (binding_property_computed a) ∷ [])) (normal key) (normal value)
  normal (tree.binding_rest_element a argument) = tree.binding_rest_element (nothing_of 0) (normal argument)
  normal (tree.array_pattern a elements rest) = tree.array_pattern (nothing_of 0) (normal_trees elements) (normal_maybe rest)
  normal (tree.assignment_pattern a left right) = tree.assignment_pattern (nothing_of 0) (normal left) (normal right)
  normal (tree.array_target a elements rest) = tree.array_target (nothing_of 0) (normal_trees elements) (normal_maybe rest)
  normal (tree.object_target a properties rest) = tree.object_target (nothing_of 0) (normal_trees properties) (normal_maybe rest)
  normal (tree.target_with_default a binding init) = tree.target_with_default (nothing_of 0) (normal binding) (normal init)
  normal (tree.target_property a the_name binding) = tree.target_property (bare (flag (assignment_target_property_property_computed a) ∷ [])) (normal the_name) (normal binding)
  normal (tree.target_rest a target) = tree.target_rest (nothing_of 0) (normal target)
  normal (tree.private_identifier a) = tree.private_identifier (bare (text (private_identifier_name a) ∷ []))
  normal (tree.private_member a object field) = tree.private_member (bare (flag (private_field_expression_optional a) ∷ [])) (normal object) (normal field)
  normal (tree.private_in a left right) = tree.private_in (nothing_of 0) (normal left) (normal right)
  normal (tree.class a id heritage body) = tree.class (bare (class_form (class_kind a) ∷ if_set (class_declare a) ∷ if_set (class_is_abstract a) ∷ [])) (normal_maybe id) (normal_maybe heritage) (normal body)
  normal (tree.class_body a body) = tree.class_body (nothing_of 0) (normal_trees body)
  normal (tree.static_block a body) = tree.static_block (nothing_of 0) (normal_trees body)
  normal (tree.property_definition a key value) = tree.property_definition (bare (flag (property_definition_computed a) ∷ if_set (property_definition_declare a) ∷ if_set (property_definition_is_abstract a) ∷ flag (property_definition_is_static a) ∷ if_set (property_definition_is_override a) ∷ if_set (property_definition_readonly a) ∷ if_set (property_definition_optional a) ∷ if_set (property_definition_definite a) ∷ [])) (normal key) (normal_maybe value)
  normal (tree.hashbang a) = tree.hashbang (bare (text (hashbang_value a) ∷ []))
  normal (tree.import_declaration a specifiers source with_clause) = tree.import_declaration (bare (kind_of_import (import_declaration_import_kind a) ∷ [])) (normal_maybe_trees specifiers) (normal source) (normal_maybe with_clause)
  normal (tree.import_default_specifier a local) = tree.import_default_specifier (nothing_of 0) (normal local)
  normal (tree.import_namespace_specifier a local) = tree.import_namespace_specifier (nothing_of 0) (normal local)
  normal (tree.with_clause a entries) = tree.with_clause (bare (with_keyword (with_clause_keyword a) ∷ [])) (normal_trees entries)
  normal (tree.import_attribute a key value) = tree.import_attribute (nothing_of 0) (normal key) (normal value)
  normal (tree.export_declaration a declaration) = tree.export_declaration (nothing_of 0) (normal declaration)
  normal (tree.export_named_declaration a specifiers) = tree.export_named_declaration (bare (kind_of_import (export_named_declaration_export_kind a) ∷ [])) (normal_trees specifiers)
  normal (tree.export_from_declaration a specifiers source with_clause) = tree.export_from_declaration (bare (kind_of_import (export_from_declaration_export_kind a) ∷ [])) (normal_trees specifiers) (normal source) (normal_maybe with_clause)
  normal (tree.export_default_declaration a declaration) = tree.export_default_declaration (nothing_of 0) (normal declaration)
  -- end of what is generated: clauses
  normal (node type a slots) = node type (bare a.values) (normal_slots slots)

  -- the template behind a tag; what is no template has no piece
  pub normal_quasi : Tree → Tree
  normal_quasi (tree.template_literal a quasis expressions) = tree.template_literal (nothing_of 0) (by_raw_texts quasis) (normal_trees expressions)
  normal_quasi t = tree.template_literal (nothing_of 0) no_trees no_trees

  pub normal_slots : Slots → Slots
  normal_slots no_slots = no_slots
  normal_slots (one t slots) = one (normal t) (normal_slots slots)
  normal_slots (maybe m slots) = maybe (normal_maybe m) (normal_slots slots)
  normal_slots (many ts slots) = many (normal_trees ts) (normal_slots slots)
  normal_slots (maybe_many ts slots) = maybe_many (normal_maybe_trees ts) (normal_slots slots)

  pub normal_maybe : Maybe → Maybe
  normal_maybe absent = absent
  normal_maybe (given t) = given (normal t)

  pub normal_trees : Trees → Trees
  normal_trees no_trees = no_trees
  normal_trees (more t ts) = more (normal t) (normal_trees ts)
  normal_trees (hole ts) = hole (normal_trees ts)

  pub normal_maybe_trees : MaybeTrees → MaybeTrees
  normal_maybe_trees no_list = no_list
  normal_maybe_trees (listed ts) = listed (normal_trees ts)
