-- The trees over which the induction goes, where names are printed by these tables.
use Rattle.std.proofs.Common.{◌≡◌, ◌^◌, nat_lt, ℕ, Bool, true, false, List, [], Some, None, ◌||◌}
use Rattle.std.specs.Str.{all_scalars}
use Rattle.jsgen_tree.specs.Tree.{Tree, Maybe, absent, given, Trees, no_trees, more, hole, Atoms, type_of}
use Rattle.jsgen_tree.specs.Nodes as tree
use Rattle.jsgen_tree.specs.Values.{identifier_reference_name, assignment_target_property_property_computed, assignment_expression_operator, binding_property_computed, as_text, directive_directive, identifier_name_name, numeric_literal_kind, numeric_literal_digits, numeric_literal_text, big_int_literal_value, string_literal_value, reg_exp_literal_pattern, reg_exp_literal_flags, template_element_raw, template_element_cooked, private_identifier_name, private_field_expression_optional, variable_declaration_kind, variable_declaration_declare, variable_declarator_definite, label_identifier_name, for_of_statement_is_await, static_member_expression_optional, computed_member_expression_optional, call_expression_optional, object_property_kind, object_property_method, object_property_shorthand, object_property_computed, formal_parameter_is_override, formal_parameter_readonly, formal_parameter_optional, function_kind, function_is_async, function_generator, function_declare, arrow_function_expression_is_async, yield_expression_delegate, class_kind, class_declare, class_is_abstract, method_definition_kind, method_definition_computed, method_definition_is_override, method_definition_is_abstract, method_definition_optional, property_definition_computed, property_definition_declare, property_definition_is_abstract, property_definition_is_override, property_definition_readonly, property_definition_optional, property_definition_definite}
use Rattle.jsgen_tree.specs.declared.functions.FunctionKind.{FunctionKind}
use Rattle.jsgen_tree.specs.declared.functions.FunctionKind.TheVariants as kinds
use Rattle.jsgen_tree.specs.declared.classes.ClassKind.{ClassKind}
use Rattle.jsgen_tree.specs.declared.classes.ClassKind.TheVariants as class_kinds
use Rattle.jsgen_tree.specs.Number.{NumericKind, Whole, Raw}
use Rattle.jsgen_tree.specs.Job.{Tables}
use Rattle.jsgen_tree.specs.Named.{printed_name}
use Rattle.jsgen_tree.specs.Inside.{reference_named, binding_named, is_method, is_negative_big_integer, is_negative_number}
use Rattle.jsgen_tree.specs.Sets.{is_simple_assignment_target}
use Rattle.jsgen_syntax.specs.declared.operator.AssignmentOperator.TheVariants as operators
use Rattle.jsgen_syntax.specs.Name.{spells_name, is_free_name}
use Rattle.jsgen_syntax.specs.Raw.{directive_value, holds_close_tag}
use Rattle.jsgen_syntax.specs.Strings.{string_value}
use Rattle.jsgen_syntax.specs.declared.quote.Quote.TheVariants.{Backtick}
use Rattle.jsgen_syntax.specs.Wtf8.{are_units}
use Rattle.jsgen_model.specs.Numbers.{is_raw_number, is_big_integer}
use Rattle.jsgen_model.specs.RegularExpressions.{is_body, are_flags}
use Rattle.jsgen_model.specs.Templates.{is_raw}
use Rattle.jsgen_model.specs.Grammar.{Allowed, in_arrow_body, in_parameters, in_body, in_member}
use Rattle.jsgen_model.specs.Normal.{directive_units}
use Rattle.jsgen_model.specs.Valid.{Surroundings, shorthand_faults, fits_accessor, fits_words, as_property, is_lexical_word}

-- the value of a number: a whole one of 128 bits, or the text of one
abbrev pub has_value : NumericKind → Atoms → Bool
has_value Whole a = nat_lt (numeric_literal_digits a) (2 ^ 128)
has_value Raw a = is_raw_number (numeric_literal_text a)

-- what may stand where this surrounds a node: in an expression `in` may, where its place doesn't forbid it
abbrev pub allowed_in : Surroundings → Allowed
allowed_in around = record { in_operator = true; yield_operand = around.may_yield; await_operand = around.may_await; return_statement = around.in_function }

-- the words of a function: whether it is `async`, and a generator; no word of TypeScript is among them
abbrev pub IsMarked : Atoms → Bool → Bool → Type 0
IsMarked a async generator = (function_is_async a ≡ async) × (function_generator a ≡ generator) × (function_declare a ≡ false)

-- no word of TypeScript is among those of a method of a class, nor among those of a field
abbrev pub IsPlainMethod : Atoms → Type 0
IsPlainMethod a = (method_definition_is_override a ≡ false) × (method_definition_is_abstract a ≡ false) × (method_definition_optional a ≡ false)

abbrev pub IsPlainField : Atoms → Type 0
IsPlainField a = (property_definition_declare a ≡ false) × (property_definition_is_abstract a ≡ false) × (property_definition_is_override a ≡ false) × (property_definition_readonly a ≡ false) × (property_definition_optional a ≡ false) × (property_definition_definite a ≡ false)

-- the name of a function or a class; the flag tells that it may be omitted
pub data HasName : Tables → Bool → Maybe → Type 0 where
  a_name : {names : Tables} {nameless : Bool} {a : Atoms} → is_free_name (printed_name names (binding_named a)) ≡ true → HasName names nameless (given (tree.binding_identifier a))
  no_name : {names : Tables} → HasName names true absent

-- a raw text with its value
pub data AreDirectives : Trees → Type 0 where
  no_directive : AreDirectives no_trees
  first_directive : {a : Atoms} {ds : Trees} (us : List ℕ) → directive_value (as_text (directive_directive a)) ≡ Some us → directive_units (directive_directive a) ≡ us → AreDirectives ds → AreDirectives (more (tree.directive a) ds)

-- A piece of a template: without a tag it is what its raw text stands for, and behind one that text, which is printed as it is
pub data IsPiece : Bool → Tree → Type 0 where
  a_piece : {a : Atoms} {us : List ℕ} → all_scalars (template_element_raw a) ≡ true → is_raw (template_element_raw a) ≡ true → string_value Backtick (template_element_raw a) ≡ Some us → template_element_cooked a ≡ Some us → IsPiece false (tree.template_element a)
  a_tagged_piece : {a : Atoms} → all_scalars (template_element_raw a) ≡ true → is_raw (template_element_raw a) ≡ true → holds_close_tag (template_element_raw a) ≡ false → IsPiece true (tree.template_element a)

-- one piece without a tag, maybe in parentheses
pub data IsInBackticks : Tree → Type 0 where
  a_piece_alone : {a : Atoms} {q : Tree} → IsPiece false q → IsInBackticks (tree.template_literal a (more q no_trees) no_trees)
  a_parenthesized_piece : {a : Atoms} {t : Tree} → IsInBackticks t → IsInBackticks (tree.parenthesized a t)

mutual
  -- what a link goes on from
  pub data IsLink : Tables → Allowed → Tree → Type 0 where
    a_super : {names : Tables} {c : Allowed} {a : Atoms} → IsLink names c (tree.super a)
    an_operand : {names : Tables} {c : Allowed} {t : Tree} → IsExpression names c t → IsLink names c t

  pub data IsExpression : Tables → Allowed → Tree → Type 0 where
    a_reference : {names : Tables} {c : Allowed} {a : Atoms} → is_free_name (printed_name names (reference_named a)) ≡ true → IsExpression names c (tree.identifier_reference a)
    a_this : {names : Tables} {c : Allowed} {a : Atoms} → IsExpression names c (tree.this_expression a)
    a_null : {names : Tables} {c : Allowed} {a : Atoms} → IsExpression names c (tree.null_literal a)
    a_boolean : {names : Tables} {c : Allowed} {a : Atoms} → IsExpression names c (tree.boolean_literal a)
    a_number : {names : Tables} {c : Allowed} {a : Atoms} → has_value (numeric_literal_kind a) a ≡ true → IsExpression names c (tree.numeric_literal a)
    a_big_integer : {names : Tables} {c : Allowed} {a : Atoms} → is_big_integer (big_int_literal_value a) ≡ true → IsExpression names c (tree.big_int_literal a)
    a_string : {names : Tables} {c : Allowed} {a : Atoms} → are_units (string_literal_value a) ≡ true → IsExpression names c (tree.string_literal a)
    a_regular_expression : {names : Tables} {c : Allowed} {a : Atoms} → all_scalars (reg_exp_literal_pattern a) ≡ true → is_body (reg_exp_literal_pattern a) ≡ true → are_flags (reg_exp_literal_flags a) ≡ true → IsExpression names c (tree.reg_exp_literal a)
    in_parentheses : {names : Tables} {c : Allowed} {a : Atoms} {t : Tree} → IsExpression names c t → IsExpression names c (tree.parenthesized a t)
    a_named_member : {names : Tables} {c : Allowed} {a b : Atoms} {o : Tree} → static_member_expression_optional a ≡ false → IsLink names c o → spells_name (identifier_name_name b) ≡ true → IsExpression names c (tree.static_member a o (tree.identifier_name b))
    a_private_member : {names : Tables} {c : Allowed} {a b : Atoms} {o : Tree} → names.private ≡ None → private_field_expression_optional a ≡ false → IsExpression names c o → spells_name (private_identifier_name b) ≡ true → IsExpression names c (tree.private_member a o (tree.private_identifier b))
    a_private_test : {names : Tables} {c : Allowed} {a b : Atoms} {t : Tree} → names.private ≡ None → spells_name (private_identifier_name b) ≡ true → IsExpression names c t → IsExpression names c (tree.private_in a (tree.private_identifier b) t)
    a_template_alone : {names : Tables} {c : Allowed} {a : Atoms} {q : Tree} → IsPiece false q → IsExpression names c (tree.template_literal a (more q no_trees) no_trees)
    a_template : {names : Tables} {c : Allowed} {a : Atoms} {q r : Tree} {qs es : Trees} → IsPiece false q → ArePieces names c false (more r qs) es → IsExpression names c (tree.template_literal a (more q (more r qs)) es)
    a_tagged_template : {names : Tables} {c : Allowed} {a : Atoms} {t q : Tree} → IsExpression names c t → IsTemplate names c q → IsExpression names c (tree.tagged_template a t q)
    a_computed_member : {names : Tables} {c : Allowed} {a : Atoms} {o e : Tree} → computed_member_expression_optional a ≡ false → IsLink names c o → IsExpression names c e → IsExpression names c (tree.computed_member a o e)
    a_call : {names : Tables} {c : Allowed} {a : Atoms} {f : Tree} {es : Trees} → call_expression_optional a ≡ false → IsLink names c f → AreArguments names c es → IsExpression names c (tree.call a f es)
    a_chain : {names : Tables} {c : Allowed} {a : Atoms} {t : Tree} → IsChain names c t → IsExpression names c (tree.chain a t)
    a_unary_operation : {names : Tables} {c : Allowed} {a : Atoms} {t : Tree} → IsExpression names c t → IsExpression names c (tree.unary a t)
    an_update : {names : Tables} {c : Allowed} {a : Atoms} {t : Tree} → is_simple_assignment_target (type_of t) ≡ true → IsExpression names c t → IsExpression names c (tree.update a t)
    a_construction : {names : Tables} {c : Allowed} {a : Atoms} {f : Tree} {es : Trees} → IsExpression names c f → AreArguments names c es → IsExpression names c (tree.new_expression a f es)
    a_new_target : {names : Tables} {c : Allowed} {a : Atoms} → IsExpression names c (tree.new_target a)
    an_import_meta : {names : Tables} {c : Allowed} {a : Atoms} → IsExpression names c (tree.import_meta a)
    an_import_call : {names : Tables} {c : Allowed} {a : Atoms} {t : Tree} {m : Maybe} → IsExpression names c t → IsValue names c m → IsExpression names c (tree.import_call a t m)
    an_operation : {names : Tables} {c : Allowed} {a : Atoms} {l r : Tree} → IsExpression names c l → IsExpression names c r → IsExpression names c (tree.binary a l r)
    a_logical_operation : {names : Tables} {c : Allowed} {a : Atoms} {l r : Tree} → IsExpression names c l → IsExpression names c r → IsExpression names c (tree.logical a l r)
    a_choice : {names : Tables} {c : Allowed} {a : Atoms} {x y z : Tree} → IsExpression names c x → IsExpression names c y → IsExpression names c z → IsExpression names c (tree.conditional a x y z)
    a_sequence : {names : Tables} {c : Allowed} {a : Atoms} {t u : Tree} {ts : Trees} → IsExpression names c t → IsExpression names c u → AreParts names c ts → IsExpression names c (tree.sequence a (more t (more u ts)))
    an_assignment : {names : Tables} {c : Allowed} {a : Atoms} {t u : Tree} → is_simple_assignment_target (type_of t) ≡ true → IsExpression names c t → IsExpression names c u → IsExpression names c (tree.assignment a t u)
    an_assignment_to_pattern : {names : Tables} {c : Allowed} {a : Atoms} {t u : Tree} → assignment_expression_operator a ≡ operators.Assign → IsPattern names c t → IsExpression names c u → IsExpression names c (tree.assignment a t u)
    an_array : {names : Tables} {c : Allowed} {a : Atoms} {es : Trees} → AreElements names c es → IsExpression names c (tree.array a es)
    an_object : {names : Tables} {c : Allowed} {a : Atoms} {ps : Trees} → AreProperties names c ps → IsExpression names c (tree.object_expression a ps)
    a_function : {names : Tables} {c : Allowed} {a : Atoms} {id : Maybe} {ps body : Tree} → IsFunction names kinds.Expression true (tree.function a id ps (given body)) → IsExpression names c (tree.function a id ps (given body))
    a_class : {names : Tables} {c : Allowed} {a : Atoms} {id heritage : Maybe} {body : Tree} → IsClass names c class_kinds.Expression true (tree.class a id heritage body) → IsExpression names c (tree.class a id heritage body)
    an_arrow_with_body : {names : Tables} {c : Allowed} {a b : Atoms} {ps : Tree} {ds ss : Trees} → IsParameters names in_parameters ps → IsBody names (in_body (arrow_function_expression_is_async a) false) (tree.function_body b ds ss) → IsExpression names c (tree.arrow_function a ps (tree.function_body b ds ss))
    an_arrow_function : {names : Tables} {c : Allowed} {a : Atoms} {ps e : Tree} → IsParameters names in_parameters ps → IsExpression names (in_arrow_body (arrow_function_expression_is_async a) c) e → IsExpression names c (tree.arrow_function a ps e)
    an_await : {names : Tables} {c : Allowed} {a : Atoms} {t : Tree} → c.await_operand ≡ true → IsExpression names c t → IsExpression names c (tree.await_expression a t)
    a_yield_alone : {names : Tables} {c : Allowed} {a : Atoms} → c.yield_operand ≡ true → yield_expression_delegate a ≡ false → IsExpression names c (tree.yield_expression a absent)
    a_yield : {names : Tables} {c : Allowed} {a : Atoms} {t : Tree} → c.yield_operand ≡ true → IsExpression names c t → IsExpression names c (tree.yield_expression a (given t))

  -- behind a template's first piece: as many pieces as expressions
  pub data ArePieces : Tables → Allowed → Bool → Trees → Trees → Type 0 where
    last_piece : {names : Tables} {c : Allowed} {tagged : Bool} {q e : Tree} → IsPiece tagged q → IsExpression names c e → ArePieces names c tagged (more q no_trees) (more e no_trees)
    piece_before : {names : Tables} {c : Allowed} {tagged : Bool} {q r e : Tree} {qs es : Trees} → IsPiece tagged q → IsExpression names c e → ArePieces names c tagged (more r qs) es → ArePieces names c tagged (more q (more r qs)) (more e es)

  -- the template behind a tag
  pub data IsTemplate : Tables → Allowed → Tree → Type 0 where
    a_whole_template : {names : Tables} {c : Allowed} {a : Atoms} {q : Tree} → IsPiece true q → IsTemplate names c (tree.template_literal a (more q no_trees) no_trees)
    a_template_of_parts : {names : Tables} {c : Allowed} {a : Atoms} {q r : Tree} {qs es : Trees} → IsPiece true q → ArePieces names c true (more r qs) es → IsTemplate names c (tree.template_literal a (more q (more r qs)) es)

  -- a function of this kind; the flag tells that its name may be omitted
  pub data IsFunction : Tables → FunctionKind → Bool → Tree → Type 0 where
    some_function : {names : Tables} {kind : FunctionKind} {nameless : Bool} {a : Atoms} {id : Maybe} {ps body : Tree} → function_kind a ≡ kind → function_declare a ≡ false → HasName names nameless id → IsParameters names in_parameters ps → IsBody names (in_body (function_is_async a) (function_generator a)) body → IsFunction names kind nameless (tree.function a id ps (given body))

  pub data IsBody : Tables → Allowed → Tree → Type 0 where
    some_body : {names : Tables} {c : Allowed} {a : Atoms} {ds ss : Trees} → AreDirectives ds → AreStatements names c ss → IsBody names c (tree.function_body a ds ss)

  -- a class of this kind; the flag tells that its name may be omitted
  pub data IsClass : Tables → Allowed → ClassKind → Bool → Tree → Type 0 where
    some_class : {names : Tables} {c : Allowed} {kind : ClassKind} {nameless : Bool} {a b : Atoms} {id heritage : Maybe} {ms : Trees} → class_kind a ≡ kind → class_declare a ≡ false → class_is_abstract a ≡ false → HasName names nameless id → IsValue names c heritage → AreMembers names c ms → IsClass names c kind nameless (tree.class a id heritage (tree.class_body b ms))

  pub data AreMembers : Tables → Allowed → Trees → Type 0 where
    no_member : {names : Tables} {c : Allowed} → AreMembers names c no_trees
    first_member : {names : Tables} {c : Allowed} {t : Tree} {ts : Trees} → IsMember names c t → AreMembers names c ts → AreMembers names c (more t ts)

  -- a method or an accessor, a field, or a static block
  pub data IsMember : Tables → Allowed → Tree → Type 0 where
    a_member_method : {names : Tables} {c : Allowed} {a b : Atoms} {k ps body : Tree} → IsPlainMethod a → IsMemberKey names c (method_definition_computed a) k → fits_accessor (as_property (method_definition_kind a)) ps ≡ true → fits_words (as_property (method_definition_kind a)) (function_is_async b) (function_generator b) ≡ true → IsFunction names kinds.Expression true (tree.function b absent ps (given body)) → IsMember names c (tree.method_definition a k (tree.function b absent ps (given body)))
    a_field : {names : Tables} {c : Allowed} {a : Atoms} {k : Tree} {m : Maybe} → IsPlainField a → IsMemberKey names c (property_definition_computed a) k → IsValue names in_member m → IsMember names c (tree.property_definition a k m)
    a_static_block : {names : Tables} {c : Allowed} {a : Atoms} {ss : Trees} → AreStatements names in_member ss → IsMember names c (tree.static_block a ss)

  -- the parts of a sequence behind its first two
  pub data AreParts : Tables → Allowed → Trees → Type 0 where
    no_part : {names : Tables} {c : Allowed} → AreParts names c no_trees
    first_part : {names : Tables} {c : Allowed} {t : Tree} {ts : Trees} → IsExpression names c t → AreParts names c ts → AreParts names c (more t ts)

  -- links of which one at least is optional
  pub data IsChain : Tables → Allowed → Tree → Type 0 where
    an_optional_named_member : {names : Tables} {c : Allowed} {a b : Atoms} {o : Tree} → static_member_expression_optional a ≡ true → IsChainBase names c o → spells_name (identifier_name_name b) ≡ true → IsChain names c (tree.static_member a o (tree.identifier_name b))
    an_optional_computed_member : {names : Tables} {c : Allowed} {a : Atoms} {o e : Tree} → computed_member_expression_optional a ≡ true → IsChainBase names c o → IsExpression names c e → IsChain names c (tree.computed_member a o e)
    an_optional_call : {names : Tables} {c : Allowed} {a : Atoms} {f : Tree} {es : Trees} → call_expression_optional a ≡ true → IsChainBase names c f → AreArguments names c es → IsChain names c (tree.call a f es)
    an_optional_private_member : {names : Tables} {c : Allowed} {a b : Atoms} {o : Tree} → names.private ≡ None → private_field_expression_optional a ≡ true → IsChainBase names c o → spells_name (private_identifier_name b) ≡ true → IsChain names c (tree.private_member a o (tree.private_identifier b))
    a_further_private_member : {names : Tables} {c : Allowed} {a b : Atoms} {o : Tree} → names.private ≡ None → private_field_expression_optional a ≡ false → IsChain names c o → spells_name (private_identifier_name b) ≡ true → IsChain names c (tree.private_member a o (tree.private_identifier b))
    a_further_named_member : {names : Tables} {c : Allowed} {a b : Atoms} {o : Tree} → static_member_expression_optional a ≡ false → IsChain names c o → spells_name (identifier_name_name b) ≡ true → IsChain names c (tree.static_member a o (tree.identifier_name b))
    a_further_computed_member : {names : Tables} {c : Allowed} {a : Atoms} {o e : Tree} → computed_member_expression_optional a ≡ false → IsChain names c o → IsExpression names c e → IsChain names c (tree.computed_member a o e)
    a_further_call : {names : Tables} {c : Allowed} {a : Atoms} {f : Tree} {es : Trees} → call_expression_optional a ≡ false → IsChain names c f → AreArguments names c es → IsChain names c (tree.call a f es)

  -- what an optional link goes on from
  pub data IsChainBase : Tables → Allowed → Tree → Type 0 where
    a_first_link : {names : Tables} {c : Allowed} {t : Tree} → IsExpression names c t → IsChainBase names c t
    a_further_link : {names : Tables} {c : Allowed} {t : Tree} → IsChain names c t → IsChainBase names c t

  pub data AreProperties : Tables → Allowed → Trees → Type 0 where
    no_property : {names : Tables} {c : Allowed} → AreProperties names c no_trees
    first_property : {names : Tables} {c : Allowed} {t : Tree} {ts : Trees} → IsProperty names c t → AreProperties names c ts → AreProperties names c (more t ts)

  -- a property with a value, a method or an accessor, or an object whose properties are spread
  pub data IsProperty : Tables → Allowed → Tree → Type 0 where
    a_property : {names : Tables} {c : Allowed} {computed : Bool} {a : Atoms} {k v : Tree} → is_method (object_property_kind a) (object_property_method a) ≡ false → object_property_computed a ≡ computed → IsKey names c computed k → shorthand_faults names (object_property_shorthand a) k v ≡ [] → IsExpression names c v → IsProperty names c (tree.object_property a k v)
    a_method : {names : Tables} {c : Allowed} {computed : Bool} {a b : Atoms} {k ps body : Tree} → is_method (object_property_kind a) (object_property_method a) ≡ true → object_property_computed a ≡ computed → IsKey names c computed k → fits_accessor (object_property_kind a) ps ≡ true → fits_words (object_property_kind a) (function_is_async b) (function_generator b) ≡ true → IsFunction names kinds.Expression true (tree.function b absent ps (given body)) → IsProperty names c (tree.object_property a k (tree.function b absent ps (given body)))
    a_spread_property : {names : Tables} {c : Allowed} {a : Atoms} {e : Tree} → IsExpression names c e → IsProperty names c (tree.spread a e)

  -- the flag tells that the key is computed
  pub data IsKey : Tables → Allowed → Bool → Tree → Type 0 where
    a_name_key : {names : Tables} {c : Allowed} {a : Atoms} → spells_name (identifier_name_name a) ≡ true → IsKey names c false (tree.identifier_name a)
    a_string_key : {names : Tables} {c : Allowed} {a : Atoms} → are_units (string_literal_value a) ≡ true → IsKey names c false (tree.string_literal a)
    a_number_key : {names : Tables} {c : Allowed} {a : Atoms} → has_value (numeric_literal_kind a) a ≡ true → IsKey names c false (tree.numeric_literal a)
    a_big_integer_key : {names : Tables} {c : Allowed} {a : Atoms} → is_big_integer (big_int_literal_value a) ≡ true → is_negative_big_integer (tree.big_int_literal a) ≡ false → IsKey names c false (tree.big_int_literal a)
    a_computed_key : {names : Tables} {c : Allowed} {t : Tree} → IsExpression names c t → IsKey names c true t

  -- the key of a member of a class, which is no negative number where it isn't computed, and may be a private name
  pub data IsMemberKey : Tables → Allowed → Bool → Tree → Type 0 where
    a_public_key : {names : Tables} {c : Allowed} {computed : Bool} {k : Tree} → (computed || is_negative_number k) ≡ computed → IsKey names c computed k → IsMemberKey names c computed k
    a_private_key : {names : Tables} {c : Allowed} {a : Atoms} → names.private ≡ None → spells_name (private_identifier_name a) ≡ true → IsMemberKey names c false (tree.private_identifier a)

  pub data AreArguments : Tables → Allowed → Trees → Type 0 where
    no_argument : {names : Tables} {c : Allowed} → AreArguments names c no_trees
    first_argument : {names : Tables} {c : Allowed} {e : Tree} {es : Trees} → IsElement names c e → AreArguments names c es → AreArguments names c (more e es)

  -- elements of an array, of which some are left out
  pub data AreElements : Tables → Allowed → Trees → Type 0 where
    no_element : {names : Tables} {c : Allowed} → AreElements names c no_trees
    first_element : {names : Tables} {c : Allowed} {e : Tree} {es : Trees} → IsElement names c e → AreElements names c es → AreElements names c (more e es)
    an_elision : {names : Tables} {c : Allowed} {es : Trees} → AreElements names c es → AreElements names c (hole es)

  -- an argument, or an element of an array
  pub data IsElement : Tables → Allowed → Tree → Type 0 where
    an_element : {names : Tables} {c : Allowed} {e : Tree} → IsExpression names c e → IsElement names c e
    a_spread : {names : Tables} {c : Allowed} {a : Atoms} {e : Tree} → IsExpression names c e → IsElement names c (tree.spread a e)

  -- the parameters of a function, of which one may take the rest
  pub data IsParameters : Tables → Allowed → Tree → Type 0 where
    all_parameters : {names : Tables} {c : Allowed} {a : Atoms} {ps : Trees} {rest : Maybe} → AreParameters names c ps → IsRest names c rest → IsParameters names c (tree.formal_parameters a ps rest)

  pub data AreParameters : Tables → Allowed → Trees → Type 0 where
    no_parameter : {names : Tables} {c : Allowed} → AreParameters names c no_trees
    first_parameter : {names : Tables} {c : Allowed} {t : Tree} {ts : Trees} → IsParameter names c t → AreParameters names c ts → AreParameters names c (more t ts)

  pub data IsParameter : Tables → Allowed → Tree → Type 0 where
    a_parameter : {names : Tables} {c : Allowed} {a : Atoms} {b : Tree} {m : Maybe} → formal_parameter_is_override a ≡ false → formal_parameter_readonly a ≡ false → formal_parameter_optional a ≡ false → IsBinding names c b → IsValue names c m → IsParameter names c (tree.formal_parameter a b m)

  pub data IsRest : Tables → Allowed → Maybe → Type 0 where
    no_rest : {names : Tables} {c : Allowed} → IsRest names c absent
    a_rest : {names : Tables} {c : Allowed} {a : Atoms} {b : Tree} → IsBinding names c b → IsRest names c (given (tree.formal_parameter_rest a b))

  pub data IsBinding : Tables → Allowed → Tree → Type 0 where
    a_bound_name : {names : Tables} {c : Allowed} {a : Atoms} → is_free_name (printed_name names (binding_named a)) ≡ true → IsBinding names c (tree.binding_identifier a)
    an_array_pattern : {names : Tables} {c : Allowed} {a : Atoms} {es : Trees} {rest : Maybe} → AreBindingElements names c es → IsBindingRest names c rest → IsBinding names c (tree.array_pattern a es rest)
    an_object_pattern : {names : Tables} {c : Allowed} {a : Atoms} {ps : Trees} {rest : Maybe} → AreBindingProperties names c ps → IsNameOfRest names rest → IsBinding names c (tree.object_pattern a ps rest)

  pub data AreBindingElements : Tables → Allowed → Trees → Type 0 where
    no_binding_element : {names : Tables} {c : Allowed} → AreBindingElements names c no_trees
    first_binding_element : {names : Tables} {c : Allowed} {t : Tree} {ts : Trees} → IsBindingElement names c t → AreBindingElements names c ts → AreBindingElements names c (more t ts)
    a_binding_elision : {names : Tables} {c : Allowed} {ts : Trees} → AreBindingElements names c ts → AreBindingElements names c (hole ts)

  -- with a value or without one
  pub data IsBindingElement : Tables → Allowed → Tree → Type 0 where
    a_binding_alone : {names : Tables} {c : Allowed} {t : Tree} → IsBinding names c t → IsBindingElement names c t
    a_binding_with_value : {names : Tables} {c : Allowed} {a : Atoms} {b v : Tree} → IsBinding names c b → IsExpression names c v → IsBindingElement names c (tree.assignment_pattern a b v)

  pub data IsBindingRest : Tables → Allowed → Maybe → Type 0 where
    no_binding_rest : {names : Tables} {c : Allowed} → IsBindingRest names c absent
    a_binding_rest : {names : Tables} {c : Allowed} {a : Atoms} {b : Tree} → IsBinding names c b → IsBindingRest names c (given (tree.binding_rest_element a b))

  -- what takes the rest of an object is a name
  pub data IsNameOfRest : Tables → Maybe → Type 0 where
    no_name_of_rest : {names : Tables} → IsNameOfRest names absent
    a_name_of_rest : {names : Tables} {a d : Atoms} → is_free_name (printed_name names (binding_named d)) ≡ true → IsNameOfRest names (given (tree.binding_rest_element a (tree.binding_identifier d)))

  pub data AreBindingProperties : Tables → Allowed → Trees → Type 0 where
    no_binding_property : {names : Tables} {c : Allowed} → AreBindingProperties names c no_trees
    first_binding_property : {names : Tables} {c : Allowed} {t : Tree} {ts : Trees} → IsBindingProperty names c t → AreBindingProperties names c ts → AreBindingProperties names c (more t ts)

  pub data IsBindingProperty : Tables → Allowed → Tree → Type 0 where
    a_binding_property : {names : Tables} {c : Allowed} {a : Atoms} {k v : Tree} → (binding_property_computed a || is_negative_number k) ≡ binding_property_computed a → IsKey names c (binding_property_computed a) k → IsBindingElement names c v → IsBindingProperty names c (tree.binding_property a k v)

  -- what is given a value: a name or a member, or a pattern
  pub data IsTarget : Tables → Allowed → Tree → Type 0 where
    a_simple_target : {names : Tables} {c : Allowed} {t : Tree} → is_simple_assignment_target (type_of t) ≡ true → IsExpression names c t → IsTarget names c t
    a_target_pattern : {names : Tables} {c : Allowed} {t : Tree} → IsPattern names c t → IsTarget names c t

  pub data IsPattern : Tables → Allowed → Tree → Type 0 where
    an_array_target : {names : Tables} {c : Allowed} {a : Atoms} {es : Trees} {rest : Maybe} → AreTargetElements names c es → IsTargetRest names c rest → IsPattern names c (tree.array_target a es rest)
    an_object_target : {names : Tables} {c : Allowed} {a : Atoms} {ps : Trees} {rest : Maybe} → AreTargetProperties names c ps → IsSimpleRest names c rest → IsPattern names c (tree.object_target a ps rest)

  pub data AreTargetElements : Tables → Allowed → Trees → Type 0 where
    no_target_element : {names : Tables} {c : Allowed} → AreTargetElements names c no_trees
    first_target_element : {names : Tables} {c : Allowed} {t : Tree} {ts : Trees} → IsTargetElement names c t → AreTargetElements names c ts → AreTargetElements names c (more t ts)
    a_target_elision : {names : Tables} {c : Allowed} {ts : Trees} → AreTargetElements names c ts → AreTargetElements names c (hole ts)

  -- with a default or without one
  pub data IsTargetElement : Tables → Allowed → Tree → Type 0 where
    a_target_alone : {names : Tables} {c : Allowed} {t : Tree} → IsTarget names c t → IsTargetElement names c t
    a_target_with_default : {names : Tables} {c : Allowed} {a : Atoms} {t v : Tree} → IsTarget names c t → IsExpression names c v → IsTargetElement names c (tree.target_with_default a t v)

  pub data IsTargetRest : Tables → Allowed → Maybe → Type 0 where
    no_target_rest : {names : Tables} {c : Allowed} → IsTargetRest names c absent
    a_target_rest : {names : Tables} {c : Allowed} {a : Atoms} {t : Tree} → IsTarget names c t → IsTargetRest names c (given (tree.target_rest a t))

  -- what takes the rest of an object is no pattern
  pub data IsSimpleRest : Tables → Allowed → Maybe → Type 0 where
    no_simple_rest : {names : Tables} {c : Allowed} → IsSimpleRest names c absent
    a_simple_rest : {names : Tables} {c : Allowed} {a : Atoms} {t : Tree} → is_simple_assignment_target (type_of t) ≡ true → IsExpression names c t → IsSimpleRest names c (given (tree.target_rest a t))

  pub data AreTargetProperties : Tables → Allowed → Trees → Type 0 where
    no_target_property : {names : Tables} {c : Allowed} → AreTargetProperties names c no_trees
    first_target_property : {names : Tables} {c : Allowed} {t : Tree} {ts : Trees} → IsTargetProperty names c t → AreTargetProperties names c ts → AreTargetProperties names c (more t ts)

  -- by its own name alone, which may be printed as a key, or by a key
  pub data IsTargetProperty : Tables → Allowed → Tree → Type 0 where
    a_target_name : {names : Tables} {c : Allowed} {a b : Atoms} {m : Maybe} → spells_name (identifier_reference_name b) ≡ true → is_free_name (printed_name names (reference_named b)) ≡ true → IsValue names c m → IsTargetProperty names c (tree.target_property_identifier a (tree.identifier_reference b) m)
    a_target_property : {names : Tables} {c : Allowed} {a : Atoms} {k t : Tree} → (assignment_target_property_property_computed a || is_negative_number k) ≡ assignment_target_property_property_computed a → IsKey names c (assignment_target_property_property_computed a) k → IsTargetElement names c t → IsTargetProperty names c (tree.target_property a k t)

  pub data IsValue : Tables → Allowed → Maybe → Type 0 where
    no_value : {names : Tables} {c : Allowed} → IsValue names c absent
    a_value : {names : Tables} {c : Allowed} {t : Tree} → IsExpression names c t → IsValue names c (given t)

  pub data IsDeclarator : Tables → Allowed → Tree → Type 0 where
    a_declared_alone : {names : Tables} {c : Allowed} {a b : Atoms} → variable_declarator_definite a ≡ false → IsBinding names c (tree.binding_identifier b) → IsDeclarator names c (tree.variable_declarator a (tree.binding_identifier b) absent)
    a_declared_with_value : {names : Tables} {c : Allowed} {a : Atoms} {b v : Tree} → variable_declarator_definite a ≡ false → IsBinding names c b → IsExpression names c v → IsDeclarator names c (tree.variable_declarator a b (given v))

  pub data AreDeclarators : Tables → Allowed → Trees → Type 0 where
    last_declarator : {names : Tables} {c : Allowed} {d : Tree} → IsDeclarator names c d → AreDeclarators names c (more d no_trees)
    first_declarator : {names : Tables} {c : Allowed} {d e : Tree} {ds : Trees} → IsDeclarator names c d → AreDeclarators names c (more e ds) → AreDeclarators names c (more d (more e ds))

  -- no lexical declaration
  pub data IsStatement : Tables → Allowed → Tree → Type 0 where
    an_expression_statement : {names : Tables} {c : Allowed} {a : Atoms} {e : Tree} → IsExpression names c e → IsStatement names c (tree.expression_statement a e)
    an_empty_statement : {names : Tables} {c : Allowed} {a : Atoms} → IsStatement names c (tree.empty_statement a)
    a_block : {names : Tables} {c : Allowed} {a : Atoms} {ss : Trees} → AreStatements names c ss → IsStatement names c (tree.block a ss)
    an_if : {names : Tables} {c : Allowed} {a : Atoms} {t s : Tree} → IsExpression names c t → IsStatement names c s → IsStatement names c (tree.if_statement a t s absent)
    an_if_with_else : {names : Tables} {c : Allowed} {a : Atoms} {t s u : Tree} → IsExpression names c t → IsStatement names c s → IsStatement names c u → IsStatement names c (tree.if_statement a t s (given u))
    a_variable_statement : {names : Tables} {c : Allowed} {a : Atoms} {ds : Trees} → is_lexical_word (variable_declaration_kind a) ≡ false → variable_declaration_declare a ≡ false → AreDeclarators names c ds → IsStatement names c (tree.variable_declaration a ds)
    a_for : {names : Tables} {c : Allowed} {a : Atoms} {init test update : Maybe} {s : Tree} → IsInit names c init → IsValue names c test → IsValue names c update → IsStatement names c s → IsStatement names c (tree.for_statement a init test update s)
    a_for_in : {names : Tables} {c : Allowed} {a : Atoms} {l e s : Tree} → IsLeft names c l → IsExpression names c e → IsStatement names c s → IsStatement names c (tree.for_in_statement a l e s)
    a_for_of : {names : Tables} {c : Allowed} {a : Atoms} {l e s : Tree} → (for_of_statement_is_await a ≡ true → c.await_operand ≡ true) → IsLeft names c l → IsExpression names c e → IsStatement names c s → IsStatement names c (tree.for_of_statement a l e s)
    a_while : {names : Tables} {c : Allowed} {a : Atoms} {t s : Tree} → IsExpression names c t → IsStatement names c s → IsStatement names c (tree.while_statement a t s)
    a_do_while : {names : Tables} {c : Allowed} {a : Atoms} {s t : Tree} → IsStatement names c s → IsExpression names c t → IsStatement names c (tree.do_while_statement a s t)
    a_labelled_statement : {names : Tables} {c : Allowed} {a b : Atoms} {s : Tree} → is_free_name (label_identifier_name b) ≡ true → IsStatement names c s → IsStatement names c (tree.labeled_statement a (tree.label_identifier b) s)
    a_continue : {names : Tables} {c : Allowed} {a : Atoms} {m : Maybe} → IsLabel m → IsStatement names c (tree.continue_statement a m)
    a_break : {names : Tables} {c : Allowed} {a : Atoms} {m : Maybe} → IsLabel m → IsStatement names c (tree.break_statement a m)
    a_throw : {names : Tables} {c : Allowed} {a : Atoms} {e : Tree} → IsExpression names c e → IsStatement names c (tree.throw_statement a e)
    a_debugger : {names : Tables} {c : Allowed} {a : Atoms} → IsStatement names c (tree.debugger_statement a)
    a_switch : {names : Tables} {c : Allowed} {a : Atoms} {e : Tree} {cases : Trees} → IsExpression names c e → AreCases names c true cases → IsStatement names c (tree.switch_statement a e cases)
    a_try : {names : Tables} {c : Allowed} {a : Atoms} {t : Tree} {handler finalizer : Maybe} → IsBlock names c t → AreEndsOfTry names c handler finalizer → IsStatement names c (tree.try_statement a t handler finalizer)
    a_return : {names : Tables} {c : Allowed} {a : Atoms} {m : Maybe} → c.return_statement ≡ true → IsValue names c m → IsStatement names c (tree.return_statement a m)

  -- first in the head of a loop
  pub data IsInit : Tables → Allowed → Maybe → Type 0 where
    no_init : {names : Tables} {c : Allowed} → IsInit names c absent
    first_variables : {names : Tables} {c : Allowed} {a : Atoms} {ds : Trees} → variable_declaration_declare a ≡ false → AreDeclarators names c ds → IsInit names c (given (tree.variable_declaration a ds))
    first_expression : {names : Tables} {c : Allowed} {t : Tree} → IsExpression names c t → IsInit names c (given t)

  -- what a loop gives its values
  pub data IsLeft : Tables → Allowed → Tree → Type 0 where
    a_declared_name : {names : Tables} {c : Allowed} {a b : Atoms} {t : Tree} → variable_declaration_declare a ≡ false → variable_declarator_definite b ≡ false → IsBinding names c t → IsLeft names c (tree.variable_declaration a (more (tree.variable_declarator b t absent) no_trees))
    a_target : {names : Tables} {c : Allowed} {t : Tree} → is_simple_assignment_target (type_of t) ≡ true → IsExpression names c t → IsLeft names c t
    a_left_pattern : {names : Tables} {c : Allowed} {t : Tree} → IsPattern names c t → IsLeft names c t

  -- what a jump leads to
  pub data IsLabel : Maybe → Type 0 where
    no_label : IsLabel absent
    a_label : {a : Atoms} → is_free_name (label_identifier_name a) ≡ true → IsLabel (given (tree.label_identifier a))

  -- cases; the flag tells that one without a test may come
  pub data AreCases : Tables → Allowed → Bool → Trees → Type 0 where
    no_case : {names : Tables} {c : Allowed} {default : Bool} → AreCases names c default no_trees
    first_case : {names : Tables} {c : Allowed} {default rest : Bool} {t : Tree} {ts : Trees} → IsCase names c default rest t → AreCases names c rest ts → AreCases names c default (more t ts)

  -- whether a case without a test may come, before it and behind it
  pub data IsCase : Tables → Allowed → Bool → Bool → Tree → Type 0 where
    a_case : {names : Tables} {c : Allowed} {default : Bool} {a : Atoms} {t : Tree} {ss : Trees} → IsExpression names c t → AreStatements names c ss → IsCase names c default default (tree.switch_case a (given t) ss)
    a_default : {names : Tables} {c : Allowed} {a : Atoms} {ss : Trees} → AreStatements names c ss → IsCase names c true false (tree.switch_case a absent ss)

  -- a handler, a finalizer or both
  pub data AreEndsOfTry : Tables → Allowed → Maybe → Maybe → Type 0 where
    a_handler : {names : Tables} {c : Allowed} {h : Tree} → IsHandler names c h → AreEndsOfTry names c (given h) absent
    a_finalizer : {names : Tables} {c : Allowed} {f : Tree} → IsBlock names c f → AreEndsOfTry names c absent (given f)
    a_handler_and_a_finalizer : {names : Tables} {c : Allowed} {h f : Tree} → IsHandler names c h → IsBlock names c f → AreEndsOfTry names c (given h) (given f)

  pub data IsHandler : Tables → Allowed → Tree → Type 0 where
    a_catch : {names : Tables} {c : Allowed} {a : Atoms} {t : Tree} → IsBlock names c t → IsHandler names c (tree.catch_clause a absent t)
    a_catch_by_name : {names : Tables} {c : Allowed} {a : Atoms} {n t : Tree} → IsBinding names c n → IsBlock names c t → IsHandler names c (tree.catch_clause a (given n) t)

  pub data IsBlock : Tables → Allowed → Tree → Type 0 where
    some_block : {names : Tables} {c : Allowed} {a : Atoms} {ss : Trees} → AreStatements names c ss → IsBlock names c (tree.block a ss)

  -- a statement or a declaration
  pub data IsItem : Tables → Allowed → Tree → Type 0 where
    a_statement : {names : Tables} {c : Allowed} {s : Tree} → IsStatement names c s → IsItem names c s
    a_function_declaration : {names : Tables} {c : Allowed} {a : Atoms} {id : Maybe} {ps body : Tree} → IsFunction names kinds.Declaration false (tree.function a id ps (given body)) → IsItem names c (tree.function a id ps (given body))
    a_class_declaration : {names : Tables} {c : Allowed} {a : Atoms} {id heritage : Maybe} {body : Tree} → IsClass names c class_kinds.Declaration false (tree.class a id heritage body) → IsItem names c (tree.class a id heritage body)
    a_declaration : {names : Tables} {c : Allowed} {a : Atoms} {ds : Trees} → is_lexical_word (variable_declaration_kind a) ≡ true → variable_declaration_declare a ≡ false → AreDeclarators names c ds → IsItem names c (tree.variable_declaration a ds)

  pub data AreStatements : Tables → Allowed → Trees → Type 0 where
    no_statement : {names : Tables} {c : Allowed} → AreStatements names c no_trees
    first_statement : {names : Tables} {c : Allowed} {s : Tree} {ss : Trees} → IsItem names c s → AreStatements names c ss → AreStatements names c (more s ss)
