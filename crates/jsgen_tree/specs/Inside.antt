-- What a statement ends in, what a declaration declares by, what stands within the parentheses of an expression, what a link goes on from, which name a node is, and whether a number is negative.
use Rattle.std.specs.Prelude.{◌≡◌, ◌==◌, ℕ, List, [], ◌∷◌, Bool, true, false, Option, Some, None, is_some, option_and_then, codes, if◌then◌else◌, ◌||◌}
use Rattle.std.specs.Str.{bytes_eq}
use Rattle.jsgen_tree.specs.Tree.{Tree, Maybe, Atoms, absent, given, type_of}
use Rattle.jsgen_tree.specs.Nodes.{parenthesized, if_statement, for_statement, for_in_statement, for_of_statement, while_statement, labeled_statement, variable_declaration, function, identifier_reference, identifier_name, numeric_literal, big_int_literal, static_member, computed_member, call, binding_identifier, assignment_pattern, private_member, class}
use Rattle.jsgen_tree.specs.Named.{Named, looked_up, bound}
use Rattle.jsgen_tree.specs.Values.{variable_declaration_kind, identifier_reference_name, identifier_reference_reference, binding_identifier_name, binding_identifier_symbol, identifier_name_name, numeric_literal_negative, big_int_literal_value, static_member_expression_optional, computed_member_expression_optional, call_expression_optional, private_field_expression_optional, class_kind}
use Rattle.jsgen_tree.specs.Sets.{is_expression}
use Rattle.jsgen_tree.specs.Characters.{characters}
use Rattle.jsgen_tree.specs.declared.collections.PropertyKind.{PropertyKind}
use Rattle.jsgen_tree.specs.declared.collections.PropertyKind.TheVariants as property_kinds
use Rattle.jsgen_tree.specs.declared.classes.ClassKind.{ClassKind}
use Rattle.jsgen_tree.specs.declared.types.NodeType.{NodeType}
use Rattle.jsgen_tree.specs.declared.types.NodeType.TheVariants as types
use Rattle.jsgen_tree.specs.declared.expressions.IdentifierReference.{IdentifierReference}
use Rattle.jsgen_tree.specs.declared.statements.BindingIdentifier.{BindingIdentifier}
use Rattle.jsgen_tree.specs.declared.statements.VariableDeclarationKind.{VariableDeclarationKind}

-- a statement ends in an `if` without `else`: by itself, or by what it ends in
abbrev pub ends_open : Tree → Bool
ends_open (if_statement a test consequent absent) = true
ends_open (if_statement a test consequent (given alternate)) = ends_open alternate
ends_open (for_statement a init test _ body) = ends_open body
ends_open (for_in_statement a left right body) = ends_open body
ends_open (for_of_statement a left right body) = ends_open body
ends_open (while_statement a test body) = ends_open body
ends_open (labeled_statement a label body) = ends_open body
ends_open t = false

-- a function, be it a declaration or an expression
abbrev pub function_in : Tree → Option Tree
function_in (function a id params body) = Some (function a id params body)
function_in t = None

abbrev pub has_name : Maybe → Bool
has_name absent = false
has_name (given id) = true

-- of which kind a class is, and whether it has a name
abbrev pub class_head_in : Tree → Option (ClassKind × Bool)
class_head_in (class a id heritage body) = Some (class_kind a, has_name id)
class_head_in t = None

-- a property is a method or an accessor, whose function follows its key (ECMA-262, 15.4)
abbrev pub is_method : PropertyKind → Bool → Bool
is_method property_kinds.Init method = method
is_method kind method = true

-- the word that begins a declaration of variables
abbrev pub declared_kind : Tree → Option VariableDeclarationKind
declared_kind (variable_declaration a declarations) = Some (variable_declaration_kind a)
declared_kind t = None

-- the type is one of expressions, and of nothing else: a function or a class may be a declaration too
abbrev pub is_only_expression : NodeType → Bool
is_only_expression types.Function = false
is_only_expression types.Class = false
is_only_expression type = is_expression type

-- what stands within all parentheses that a tree has round it
abbrev pub without_parentheses : Tree → Tree
without_parentheses (parenthesized a expression) = without_parentheses expression
without_parentheses t = t

-- What a parent asks about: what stands within the parentheses that an expression may have round it, but that round a function or a class
-- they stay, which is one for all that is asked of what stands there
abbrev pub inside_parentheses : Tree → Tree
inside_parentheses (parenthesized a expression) = if is_only_expression (type_of expression) then inside_parentheses expression else parenthesized a expression
inside_parentheses t = t

-- an expression that is no function or class, and what stands within its parentheses
abbrev pub IsInside : Tree → Tree → Type 0
IsInside outer inner = (is_only_expression (type_of outer) ≡ true) × (inner ≡ inside_parentheses outer)

-- the links of a member or a call are those behind one another up to this one; one of them is `?.`
abbrev pub has_optional_link : Tree → Bool
has_optional_link (static_member a object property) = static_member_expression_optional a || has_optional_link object
has_optional_link (computed_member a object expression) = computed_member_expression_optional a || has_optional_link object
has_optional_link (call a callee arguments) = call_expression_optional a || has_optional_link callee
has_optional_link (private_member a object field) = private_field_expression_optional a || has_optional_link object
has_optional_link t = false

-- ---- names

-- the name that is looked up
abbrev pub reference_in : Tree → Option (List ℕ)
reference_in (identifier_reference a) = Some (identifier_reference_name a)
reference_in t = None

-- the same name, as it is looked up
abbrev pub reference_named : Atoms → Named
reference_named a = looked_up (identifier_reference_reference a) (identifier_reference_name a)

abbrev pub binding_named : Atoms → Named
binding_named a = bound (binding_identifier_symbol a) (binding_identifier_name a)

abbrev pub looked_up_in : Tree → Option Named
looked_up_in (identifier_reference a) = Some (reference_named a)
looked_up_in t = None

-- the name of a reference, which its row holds
abbrev pub named_by : IdentifierReference → Named
named_by n = looked_up n.reference (characters n.name)

-- the name that a pattern is, by itself or with a default (ECMA-262, 14.3.3)
abbrev pub bound_in : Tree → Option Named
bound_in (binding_identifier a) = Some (binding_named a)
bound_in (assignment_pattern a left right) = bound_in left
bound_in t = None

-- the name of a binding, which its row holds
abbrev pub bound_by : BindingIdentifier → Named
bound_by n = bound n.symbol (characters n.name)

-- the name that stands there as it is written
abbrev pub written_name_in : Tree → Option (List ℕ)
written_name_in (identifier_name a) = Some (identifier_name_name a)
written_name_in t = None

-- the name by which a property with a value sets the prototype (ECMA-262, 13.2.5.5)
abbrev pub is_proto : List ℕ → Bool
is_proto name = bytes_eq name (codes "__proto__")

-- ---- numbers

-- what stands behind a minus
abbrev pub after_minus : List ℕ → Option (List ℕ)
after_minus [] = None
after_minus (c ∷ cs) = if c == 45 then Some cs else None

abbrev pub unless_minus : List ℕ → Option (List ℕ)
unless_minus digits = if is_some (after_minus digits) then None else Some digits

-- the digits of a big integer behind its one minus, if it has one
abbrev pub behind_minus : List ℕ → Option (List ℕ)
behind_minus value = option_and_then unless_minus (after_minus value)

-- a number, or a big integer, with a minus before it
abbrev pub is_negative_number : Tree → Bool
is_negative_number (numeric_literal a) = numeric_literal_negative a
is_negative_number t = false

abbrev pub is_negative_big_integer : Tree → Bool
is_negative_big_integer (big_int_literal a) = is_some (behind_minus (big_int_literal_value a))
is_negative_big_integer t = false

abbrev pub is_negative : Tree → Bool
is_negative (numeric_literal a) = numeric_literal_negative a
is_negative (big_int_literal a) = is_some (behind_minus (big_int_literal_value a))
is_negative t = false
