-- The trees of which a reading is promised: core, and among these the plain ones.
use Rattle.std.specs.Prelude.{◌≡◌, ◌^◌, ◌&&◌, ◌||◌, ◌⊎◌, Bool, true, false, not, nat_lt, codes, List, [], ◌∷◌, if◌then◌else◌}
use Rattle.std.specs.Str.{all_scalars}
use Rattle.jsgen_syntax.specs.Raw.{holds_close_tag}
use Rattle.jsgen_syntax.specs.Wtf8.{are_units}
use Rattle.jsgen_syntax.specs.declared.span.SourceKind.{SourceKind}
use Rattle.jsgen_syntax.specs.declared.span.SourceKind.TheVariants as source_kinds
use Rattle.jsgen_tree.specs.Atom.{Atom, text}
use Rattle.jsgen_tree.specs.Number.{NumericKind, Whole, Raw}
use Rattle.jsgen_tree.specs.Tree.{Tree, node, Slots, no_slots, one, maybe, many, maybe_many, Trees, no_trees, more, hole, MaybeTrees, no_list, listed, Atoms}
use Rattle.jsgen_tree.specs.Nodes as tree
use Rattle.jsgen_tree.specs.declared.types.NodeType.{NodeType}
use Rattle.jsgen_tree.specs.declared.types.NodeType.TheVariants as types
use Rattle.jsgen_tree.specs.Table.{Field, Presence, needed, may_be_absent, Sort, child, children, children_or_holes, maybe_children, is_value, value_named}
use Rattle.jsgen_tree.specs.Fields.{fields}
use Rattle.jsgen_tree.specs.Values.{as_flag, program_kind, directive_directive, numeric_literal_kind, numeric_literal_digits, string_literal_value, reg_exp_literal_pattern, template_element_raw, hashbang_value, variable_declaration_declare, variable_declarator_definite, for_of_statement_is_await, function_is_async, function_generator, function_declare, formal_parameter_is_override, formal_parameter_readonly, formal_parameter_optional, arrow_function_expression_is_async, class_declare, class_is_abstract, method_definition_is_override, method_definition_is_abstract, method_definition_optional, property_definition_declare, property_definition_is_abstract, property_definition_is_override, property_definition_readonly, property_definition_optional, property_definition_definite}
use Rattle.jsgen_tree.specs.Everywhere.{Everywhere}
use Rattle.jsgen_tree.specs.Options.{Comments, is_none}
use Rattle.jsgen_tree.specs.Job.{JobData}

-- ---- types and flags

-- Each type of which no reading is promised is left out here by its name.
abbrev pub is_core_type : NodeType → Bool
-- generated from tools/nodes/table.txt: types
-- end of what is generated: types
is_core_type type = true

-- no flag is set of which no reading is promised
abbrev pub has_core_flags : NodeType → Atoms → Bool
-- generated from tools/nodes/table.txt: flags
has_core_flags types.VariableDeclaration a = not (variable_declaration_declare a)
has_core_flags types.VariableDeclarator a = not (variable_declarator_definite a)
has_core_flags types.FormalParameter a = not (formal_parameter_is_override a) && not (formal_parameter_readonly a) && not (formal_parameter_optional a)
has_core_flags types.Function a = not (function_declare a)
has_core_flags types.Class a = not (class_declare a) && not (class_is_abstract a)
has_core_flags types.MethodDefinition a = not (method_definition_is_override a) && not (method_definition_is_abstract a) && not (method_definition_optional a)
has_core_flags types.PropertyDefinition a = not (property_definition_declare a) && not (property_definition_is_abstract a) && not (property_definition_is_override a) && not (property_definition_readonly a) && not (property_definition_optional a) && not (property_definition_definite a)
-- end of what is generated: flags
has_core_flags type a = true

-- Behind a tag the raw texts of pieces are seen, of which none may end a script: there it would get a backslash
abbrev pub keep_raw_texts : Trees → Bool
keep_raw_texts no_trees = true
keep_raw_texts (more (tree.template_element a) ts) = not (holds_close_tag (template_element_raw a)) && keep_raw_texts ts
keep_raw_texts (more t ts) = keep_raw_texts ts
keep_raw_texts (hole ts) = keep_raw_texts ts

abbrev pub keeps_raw_texts : Tree → Bool
keeps_raw_texts (tree.tagged_template a tag (tree.template_literal b quasis expressions)) = keep_raw_texts quasis
keeps_raw_texts t = true

-- by its type and its flags a reading is promised of the node
abbrev pub is_core_by_type : Tree → Bool
is_core_by_type (node type a slots) = keeps_raw_texts (node type a slots) && (is_core_type type && has_core_flags type a)

-- Of these types all are plain but those that are named here.
abbrev pub is_core_alone : NodeType → Bool
-- generated from tools/nodes/table.txt: core_types
is_core_alone types.RegExpLiteral = true
is_core_alone types.ImportMeta = true
is_core_alone types.AwaitExpression = true
is_core_alone types.YieldExpression = true
is_core_alone types.TemplateElement = true
is_core_alone types.TemplateLiteral = true
is_core_alone types.TaggedTemplateExpression = true
is_core_alone types.ImportExpression = true
is_core_alone types.ObjectPattern = true
is_core_alone types.BindingProperty = true
is_core_alone types.BindingRestElement = true
is_core_alone types.ArrayPattern = true
is_core_alone types.AssignmentPattern = true
is_core_alone types.ArrayAssignmentTarget = true
is_core_alone types.ObjectAssignmentTarget = true
is_core_alone types.AssignmentTargetWithDefault = true
is_core_alone types.AssignmentTargetPropertyIdentifier = true
is_core_alone types.AssignmentTargetPropertyProperty = true
is_core_alone types.AssignmentTargetRest = true
is_core_alone types.PrivateIdentifier = true
is_core_alone types.PrivateFieldExpression = true
is_core_alone types.PrivateInExpression = true
is_core_alone types.Class = true
is_core_alone types.ClassBody = true
is_core_alone types.StaticBlock = true
is_core_alone types.MethodDefinition = true
is_core_alone types.PropertyDefinition = true
is_core_alone types.Hashbang = true
is_core_alone types.ImportDeclaration = true
is_core_alone types.ImportDefaultSpecifier = true
is_core_alone types.ImportNamespaceSpecifier = true
is_core_alone types.ImportSpecifier = true
is_core_alone types.WithClause = true
is_core_alone types.ImportAttribute = true
is_core_alone types.ExportDeclaration = true
is_core_alone types.ExportNamedDeclaration = true
is_core_alone types.ExportFromDeclaration = true
is_core_alone types.ExportSpecifier = true
is_core_alone types.ExportAllDeclaration = true
is_core_alone types.ExportDefaultDeclaration = true
-- end of what is generated: core_types
is_core_alone type = false

-- a flag is set that no plain node has
abbrev pub sets_core_flag : NodeType → Atoms → Bool
-- generated from tools/nodes/table.txt: core_flags
sets_core_flag types.Function a = function_is_async a || function_generator a
sets_core_flag types.ArrowFunctionExpression a = arrow_function_expression_is_async a
sets_core_flag types.ForOfStatement a = for_of_statement_is_await a
-- end of what is generated: core_flags
sets_core_flag type a = false

abbrev pub is_plain_type : NodeType → Bool
is_plain_type type = is_core_type type && not (is_core_alone type)

abbrev pub has_plain_flags : NodeType → Atoms → Bool
has_plain_flags type a = has_core_flags type a && not (sets_core_flag type a)

-- by its type and its flags the node is plain
abbrev pub is_plain_by_type : Tree → Bool
is_plain_by_type (node type a slots) = is_plain_type type && has_plain_flags type a

-- ---- nodes as they are built

abbrev pub is_module : SourceKind → Bool
is_module source_kinds.Module = true

-- a whole number of 128 bits, or a number by its text
abbrev pub is_number : NumericKind → Atoms → Bool
is_number Whole a = nat_lt (numeric_literal_digits a) (2 ^ 128)
is_number Raw a = true

-- a directive by its raw text
abbrev pub is_raw_text : Atom → Bool
is_raw_text (text raw) = true
is_raw_text v = false

abbrev pub has_no_hole : Trees → Bool
has_no_hole no_trees = true
has_no_hole (more t ts) = has_no_hole ts
has_no_hole (hole ts) = false

abbrev pub has_no_hole_if_listed : MaybeTrees → Bool
has_no_hole_if_listed no_list = true
has_no_hole_if_listed (listed ts) = has_no_hole ts

-- the first slot is that of a field that holds children: one child, one that may be absent, or a list, in which no hole stands but where the field has holes; and the rest holds of the other slots
abbrev pub fills_first_field : Presence → Sort → Slots → (Slots → Bool) → Bool
fills_first_field needed (child set) (one t others) rest = rest others
fills_first_field may_be_absent (child set) (maybe m others) rest = rest others
fills_first_field p (children set) (many ts others) rest = rest others && has_no_hole ts
fills_first_field p (children_or_holes set) (many ts others) rest = rest others
fills_first_field p (maybe_children set) (maybe_many ts others) rest = rest others && has_no_hole_if_listed ts
fills_first_field p sort slots rest = false

-- the children are those of the fields that are read, in their order, and the test holds
abbrev pub fills_fields : Bool → List Field → Slots → Bool
fills_fields test [] no_slots = test
fills_fields test [] slots = false
fills_fields test (f ∷ fs) slots = if f.is_read && not (is_value f.sort) then fills_first_field f.presence f.sort slots (fills_fields test fs) else fills_fields test fs slots

-- A program is a module, a whole number is of 128 bits, a string is of units of 16 bits, a directive has its raw text, and the characters of a regular expression, of a piece of a template and of a hashbang are Unicode scalar values
abbrev pub has_formed_values : NodeType → Atoms → Bool
has_formed_values types.Program a = is_module (program_kind a)
has_formed_values types.Directive a = is_raw_text (directive_directive a)
has_formed_values types.NumericLiteral a = is_number (numeric_literal_kind a) a
has_formed_values types.StringLiteral a = are_units (string_literal_value a)
has_formed_values types.RegExpLiteral a = all_scalars (reg_exp_literal_pattern a)
has_formed_values types.TemplateElement a = all_scalars (template_element_raw a)
has_formed_values types.Hashbang a = all_scalars (hashbang_value a)
has_formed_values type a = true

-- Each node that is built in Rust is so.
abbrev pub is_formed : Tree → Bool
is_formed (node type a slots) = fills_fields (has_formed_values type a) (fields type) slots

-- ---- core, and plain

-- the word that grows: each family of which a reading is proved joins it
abbrev pub is_core_row : Tree → Bool
is_core_row t = is_core_by_type t && is_formed t

abbrev pub IsCore : Tree → Type 0
IsCore t = Everywhere is_core_row t

abbrev pub is_plain_row : Tree → Bool
is_plain_row t = is_plain_by_type t && is_formed t

abbrev pub IsPlain : Tree → Type 0
IsPlain t = Everywhere is_plain_row t

-- ---- quiet

-- the node is no comment and has no `pure` mark
abbrev pub is_quiet_row : Tree → Bool
is_quiet_row (tree.comment a) = false
is_quiet_row (node type a slots) = not (as_flag (value_named (codes "pure") (fields type) a.values))

-- no comment is printed, whatever the program holds
abbrev pub are_off : Comments → Bool
are_off c = not c.normal && not c.jsdoc && not c.annotation && is_none c.legal

-- The program holds no comment and no `pure` mark, or the options let none be printed.
abbrev pub IsQuiet : JobData → Type 0
IsQuiet job = Everywhere is_quiet_row job.program ⊎ (are_off job.options.comments ≡ true)
