-- What the grammar reads of expressions and statements, the reader reads.
use Rattle.std.proofs.Common.{Bool, true, false}
use Rattle.jsgen_tree.specs.declared.classes.ClassKind.{ClassKind}
use Rattle.jsgen_tree.specs.declared.classes.ClassKind.TheVariants as class_kinds
use Rattle.jsgen_tree.specs.declared.functions.FunctionKind.TheVariants as kinds
use Rattle.jsgen_tree.specs.declared.functions.FunctionKind.{FunctionKind}
use Rattle.jsgen_tree.specs.declared.collections.PropertyKind.{PropertyKind}
use Rattle.jsgen_tree.specs.Tree.{Tree, Maybe, Trees}
use Rattle.jsgen_model.specs.Tokens.{Tokens}
use Rattle.jsgen_model.specs.Grammar.{in_member, in_body, in_parameters, Expression, Assignment, Conditional, ShortCircuit, Coalesced, CoalesceHead, LogicalOr, LogicalAnd, BitOr, BitXor, BitAnd, Equality, Relational, Shift, Additive, Multiplicative, Exponent, Unary, Update, LeftHandSide, New, Callee, Call, Member, Primary, operation_level, next_level, Allowed, with_in, without_in, in_arrow_body, Level, operator_piece, update_sign, assignment_sign, names_function, on_same_line, function_of, method_of, arrow_values, loop_values, computed_values, ReadsImported, ReadsExpression, ReadsClass, ReadsClassTail, ReadsMembers, ReadsMember, ReadsField, ReadsFieldAs, ReadsFunction, ReadsFunctionAs, ReadsArrow, ReadsArrowParameters, ReadsParameters, ReadsParameter, ReadsParts, ReadsChain, ReadsChainBase, ReadsProperties, ReadsProperty, ReadsMethod, ReadsMethodAs, ReadsKey, ReadsElements, ReadsArguments, ReadsArgumentList, ReadsElement, ReadsBinding, ReadsBindingElement, ReadsBindingElements, ReadsBindingProperty, ReadsBindingProperties, ReadsPattern, ReadsTarget, ReadsTargetElement, ReadsTargetElements, ReadsTargetProperties, ReadsTargetProperty, ReadsDeclarator, ReadsDeclarators, ReadsStatement, ReadsReturned, ReadsInit, ReadsPart, ReadsLeft, ReadsLabel, ReadsCases, ReadsCase, ReadsEndsOfTry, ReadsHandler, ReadsItem, ReadsStatements, ReadsBody, ReadsModule, ReadsTemplate, ReadsPieces, ReadsMemberKey}
use Rattle.jsgen_model.specs.Grammar as grammar
use Rattle.jsgen_one_reading.proofs.ModuleSteps.{ImportedParts}
use Rattle.jsgen_one_reading.proofs.Expressions.{ExpressionParts, SequenceParts, ArgumentsParts, ArgumentListParts, ElementParts, ElementsParts, ChainParts, ChainBaseParts, ArrowParts, ArrowParametersParts, expression_read, sequence_read, arguments_read, list_read, element_read, elements_read, chain_read, base_read, arrow_read, arrow_parameters, TemplateParts, PiecesParts, tag_read, pieces_read}
use Rattle.jsgen_one_reading.proofs.Patterns.{ParametersParts, ParameterParts, BindingParts, BindingElementParts, BindingElementsParts, BindingPropertiesParts, BindingPropertyParts, PatternParts, TargetParts, TargetElementParts, TargetElementsParts, TargetPropertiesParts, TargetPropertyParts, parameters_all, parameter_one, binding_read, bound_element_read, bound_elements_read, bound_properties_read, bound_property_read, pattern_read, target_read, target_element_read, target_elements_read, target_properties_read, target_property_read}
use Rattle.jsgen_one_reading.proofs.Functions.{FunctionParts, FunctionAsParts, PropertiesParts, PropertyParts, function_read, function_as, properties_read, property_read}
use Rattle.jsgen_one_reading.proofs.Statements.{BodyParts, StatementParts, ReturnedParts, EndsOfTryParts, HandlerParts, InitParts, PartParts, LeftParts, DeclaratorsParts, DeclaratorParts, CasesParts, CaseParts, ItemParts, StatementsParts, body_read, statement_read, returned_read, label_read, ends_of_try, handler_read, init_read, test_read, update_read, left_read, declarators_read, declarator_read, cases_read, case_read, item_read, statements_read}
use Rattle.jsgen_one_reading.proofs.Methods.{KeyParts, MethodAsParts, MethodParts, MemberKeyParts}
use Rattle.jsgen_one_reading.proofs.Classes.{FieldAsParts, FieldParts, MemberParts, MembersParts, ClassTailParts, ClassParts, class_read}

-- ---- the parts of what the grammar reads

mutual
  pub expression_parts : {c : Allowed} {g : Level} {ts : Tokens} {t : Tree} → (d : ReadsExpression c g ts t) → ExpressionParts d
  expression_parts (grammar.an_assignment {c} {ts} {t} d) = expression_read {c = c} {g = Assignment} {ts = ts} {t = t} d (expression_parts {c = c} {g = Assignment} {ts = ts} {t = t} d)
  expression_parts (grammar.a_sequence {c} {a} {b} {t} {us} _ _ d p) = (expression_read {c = c} {g = Assignment} {ts = a} {t = t} d (expression_parts {c = c} {g = Assignment} {ts = a} {t = t} d), sequence_read {c = c} {ts = b} {us = us} p (sequence_parts {c = c} {ts = b} {us = us} p))
  expression_parts (grammar.a_conditional {c} {ts} {t} d) = expression_read {c = c} {g = Conditional} {ts = ts} {t = t} d (expression_parts {c = c} {g = Conditional} {ts = ts} {t = t} d)
  expression_parts (grammar.an_assignment_to {c} {a} {b} {t} {v} _ _ _ d _ f _) = (expression_read {c = with_in c} {g = LeftHandSide} {ts = a} {t = t} d (expression_parts {c = with_in c} {g = LeftHandSide} {ts = a} {t = t} d), expression_read {c = c} {g = Assignment} {ts = b} {t = v} f (expression_parts {c = c} {g = Assignment} {ts = b} {t = v} f))
  expression_parts (grammar.an_assignment_to_pattern {c} {a} {b} {t} {v} _ _ d f) = (pattern_read {c = with_in c} {ts = a} {t = t} d (pattern_parts {c = with_in c} {ts = a} {t = t} d), expression_read {c = c} {g = Assignment} {ts = b} {t = v} f (expression_parts {c = c} {g = Assignment} {ts = b} {t = v} f))
  expression_parts (grammar.a_short_circuit {c} {ts} {t} d) = expression_read {c = c} {g = ShortCircuit} {ts = ts} {t = t} d (expression_parts {c = c} {g = ShortCircuit} {ts = ts} {t = t} d)
  expression_parts (grammar.a_logical_or {c} {ts} {t} d) = expression_read {c = c} {g = LogicalOr} {ts = ts} {t = t} d (expression_parts {c = c} {g = LogicalOr} {ts = ts} {t = t} d)
  expression_parts (grammar.a_logical_and {c} {ts} {t} d) = expression_read {c = c} {g = LogicalAnd} {ts = ts} {t = t} d (expression_parts {c = c} {g = LogicalAnd} {ts = ts} {t = t} d)
  expression_parts (grammar.a_bit_or {c} {ts} {t} d) = expression_read {c = c} {g = BitOr} {ts = ts} {t = t} d (expression_parts {c = c} {g = BitOr} {ts = ts} {t = t} d)
  expression_parts (grammar.a_bit_xor {c} {ts} {t} d) = expression_read {c = c} {g = BitXor} {ts = ts} {t = t} d (expression_parts {c = c} {g = BitXor} {ts = ts} {t = t} d)
  expression_parts (grammar.a_bit_and {c} {ts} {t} d) = expression_read {c = c} {g = BitAnd} {ts = ts} {t = t} d (expression_parts {c = c} {g = BitAnd} {ts = ts} {t = t} d)
  expression_parts (grammar.an_equality {c} {ts} {t} d) = expression_read {c = c} {g = Equality} {ts = ts} {t = t} d (expression_parts {c = c} {g = Equality} {ts = ts} {t = t} d)
  expression_parts (grammar.a_relation {c} {ts} {t} d) = expression_read {c = c} {g = Relational} {ts = ts} {t = t} d (expression_parts {c = c} {g = Relational} {ts = ts} {t = t} d)
  expression_parts (grammar.a_shift {c} {ts} {t} d) = expression_read {c = c} {g = Shift} {ts = ts} {t = t} d (expression_parts {c = c} {g = Shift} {ts = ts} {t = t} d)
  expression_parts (grammar.an_additive {c} {ts} {t} d) = expression_read {c = c} {g = Additive} {ts = ts} {t = t} d (expression_parts {c = c} {g = Additive} {ts = ts} {t = t} d)
  expression_parts (grammar.a_multiplicative {c} {ts} {t} d) = expression_read {c = c} {g = Multiplicative} {ts = ts} {t = t} d (expression_parts {c = c} {g = Multiplicative} {ts = ts} {t = t} d)
  expression_parts (grammar.an_exponent {c} {ts} {t} d) = expression_read {c = c} {g = Exponent} {ts = ts} {t = t} d (expression_parts {c = c} {g = Exponent} {ts = ts} {t = t} d)
  expression_parts (grammar.a_unary {c} {ts} {t} d) = expression_read {c = c} {g = Unary} {ts = ts} {t = t} d (expression_parts {c = c} {g = Unary} {ts = ts} {t = t} d)
  expression_parts (grammar.an_update {c} {ts} {t} d) = expression_read {c = c} {g = Update} {ts = ts} {t = t} d (expression_parts {c = c} {g = Update} {ts = ts} {t = t} d)
  expression_parts (grammar.a_left_hand_side {c} {ts} {t} d) = expression_read {c = c} {g = LeftHandSide} {ts = ts} {t = t} d (expression_parts {c = c} {g = LeftHandSide} {ts = ts} {t = t} d)
  expression_parts (grammar.a_new {c} {ts} {t} d) = expression_read {c = c} {g = New} {ts = ts} {t = t} d (expression_parts {c = c} {g = New} {ts = ts} {t = t} d)
  expression_parts (grammar.a_call {c} {ts} {t} d) = expression_read {c = c} {g = Call} {ts = ts} {t = t} d (expression_parts {c = c} {g = Call} {ts = ts} {t = t} d)
  expression_parts (grammar.a_member {c} {ts} {t} d) = expression_read {c = c} {g = Member} {ts = ts} {t = t} d (expression_parts {c = c} {g = Member} {ts = ts} {t = t} d)
  expression_parts (grammar.a_primary {c} {ts} {t} d) = expression_read {c = c} {g = Primary} {ts = ts} {t = t} d (expression_parts {c = c} {g = Primary} {ts = ts} {t = t} d)
  expression_parts (grammar.a_called_member {c} {ts} {t} d) = expression_read {c = c} {g = Member} {ts = ts} {t = t} d (expression_parts {c = c} {g = Member} {ts = ts} {t = t} d)
  expression_parts (grammar.a_called_call {c} {ts} {t} d) = expression_read {c = c} {g = Call} {ts = ts} {t = t} d (expression_parts {c = c} {g = Call} {ts = ts} {t = t} d)
  expression_parts (grammar.a_named_member {c} {a} {o} _ _ _ _ _ d) = expression_read {c = c} {g = Member} {ts = a} {t = o} d (expression_parts {c = c} {g = Member} {ts = a} {t = o} d)
  expression_parts (grammar.a_computed_member {c} {a} {inside} {o} {e = e1} _ _ d f) = (expression_read {c = c} {g = Member} {ts = a} {t = o} d (expression_parts {c = c} {g = Member} {ts = a} {t = o} d), expression_read {c = with_in c} {g = Expression} {ts = inside} {t = e1} f (expression_parts {c = with_in c} {g = Expression} {ts = inside} {t = e1} f))
  expression_parts (grammar.with_arguments {c} {a} {inside} {f} {es} _ _ d p) = (expression_read {c = c} {g = Callee} {ts = a} {t = f} d (expression_parts {c = c} {g = Callee} {ts = a} {t = f} d), arguments_read {c = with_in c} {ts = inside} {es = es} p (arguments_parts {c = with_in c} {ts = inside} {es = es} p))
  expression_parts (grammar.a_named_member_of_call {c} {a} {o} _ _ _ _ _ d) = expression_read {c = c} {g = Call} {ts = a} {t = o} d (expression_parts {c = c} {g = Call} {ts = a} {t = o} d)
  expression_parts (grammar.a_computed_member_of_call {c} {a} {inside} {o} {e = e1} _ _ d f) = (expression_read {c = c} {g = Call} {ts = a} {t = o} d (expression_parts {c = c} {g = Call} {ts = a} {t = o} d), expression_read {c = with_in c} {g = Expression} {ts = inside} {t = e1} f (expression_parts {c = with_in c} {g = Expression} {ts = inside} {t = e1} f))
  expression_parts (grammar.an_operation {c} {a} {b} {l} {r} o _ _ _ _ d f) = (expression_read {c = c} {g = operation_level o} {ts = a} {t = l} d (expression_parts {c = c} {g = operation_level o} {ts = a} {t = l} d), expression_read {c = c} {g = next_level (operation_level o)} {ts = b} {t = r} f (expression_parts {c = c} {g = next_level (operation_level o)} {ts = b} {t = r} f))
  expression_parts (grammar.a_power {c} {a} {b} {l} {r} _ _ d f) = (expression_read {c = c} {g = Update} {ts = a} {t = l} d (expression_parts {c = c} {g = Update} {ts = a} {t = l} d), expression_read {c = c} {g = Exponent} {ts = b} {t = r} f (expression_parts {c = c} {g = Exponent} {ts = b} {t = r} f))
  expression_parts (grammar.a_conjunction {c} {a} {b} {l} {r} _ _ d f) = (expression_read {c = c} {g = LogicalAnd} {ts = a} {t = l} d (expression_parts {c = c} {g = LogicalAnd} {ts = a} {t = l} d), expression_read {c = c} {g = BitOr} {ts = b} {t = r} f (expression_parts {c = c} {g = BitOr} {ts = b} {t = r} f))
  expression_parts (grammar.a_disjunction {c} {a} {b} {l} {r} _ _ d f) = (expression_read {c = c} {g = LogicalOr} {ts = a} {t = l} d (expression_parts {c = c} {g = LogicalOr} {ts = a} {t = l} d), expression_read {c = c} {g = LogicalAnd} {ts = b} {t = r} f (expression_parts {c = c} {g = LogicalAnd} {ts = b} {t = r} f))
  expression_parts (grammar.a_coalesce {c} {ts} {t} d) = expression_read {c = c} {g = Coalesced} {ts = ts} {t = t} d (expression_parts {c = c} {g = Coalesced} {ts = ts} {t = t} d)
  expression_parts (grammar.a_coalescing {c} {a} {b} {l} {r} _ _ d f) = (expression_read {c = c} {g = CoalesceHead} {ts = a} {t = l} d (expression_parts {c = c} {g = CoalesceHead} {ts = a} {t = l} d), expression_read {c = c} {g = BitOr} {ts = b} {t = r} f (expression_parts {c = c} {g = BitOr} {ts = b} {t = r} f))
  expression_parts (grammar.a_coalesced_head {c} {ts} {t} d) = expression_read {c = c} {g = Coalesced} {ts = ts} {t = t} d (expression_parts {c = c} {g = Coalesced} {ts = ts} {t = t} d)
  expression_parts (grammar.a_bit_or_head {c} {ts} {t} d) = expression_read {c = c} {g = BitOr} {ts = ts} {t = t} d (expression_parts {c = c} {g = BitOr} {ts = ts} {t = t} d)
  expression_parts (grammar.a_choice {c} {a} {b} {d} {x} {y} {z} _ _ _ p q r) = (expression_read {c = c} {g = ShortCircuit} {ts = a} {t = x} p (expression_parts {c = c} {g = ShortCircuit} {ts = a} {t = x} p), expression_read {c = with_in c} {g = Assignment} {ts = b} {t = y} q (expression_parts {c = with_in c} {g = Assignment} {ts = b} {t = y} q), expression_read {c = c} {g = Assignment} {ts = d} {t = z} r (expression_parts {c = c} {g = Assignment} {ts = d} {t = z} r))
  expression_parts (grammar.a_unary_operation {c} {ts} {t} _ d) = expression_read {c = c} {g = Unary} {ts = ts} {t = t} d (expression_parts {c = c} {g = Unary} {ts = ts} {t = t} d)
  expression_parts (grammar.an_update_before {c} {ts} {t} _ d _) = expression_read {c = c} {g = Unary} {ts = ts} {t = t} d (expression_parts {c = c} {g = Unary} {ts = ts} {t = t} d)
  expression_parts (grammar.an_update_behind {c} {a} {t} _ _ d _) = expression_read {c = c} {g = LeftHandSide} {ts = a} {t = t} d (expression_parts {c = c} {g = LeftHandSide} {ts = a} {t = t} d)
  expression_parts (grammar.new_with_arguments {c} {a} {inside} {f} {es} _ _ _ d p) = (expression_read {c = c} {g = Member} {ts = a} {t = f} d (expression_parts {c = c} {g = Member} {ts = a} {t = f} d), arguments_read {c = with_in c} {ts = inside} {es = es} p (arguments_parts {c = with_in c} {ts = inside} {es = es} p))
  expression_parts (grammar.new_alone {c} {ts} {f} d) = expression_read {c = c} {g = New} {ts = ts} {t = f} d (expression_parts {c = c} {g = New} {ts = ts} {t = f} d)
  expression_parts (grammar.a_computed_member_of_super {c} {inside} {e} d) = expression_read {c = with_in c} {g = Expression} {ts = inside} {t = e} d (expression_parts {c = with_in c} {g = Expression} {ts = inside} {t = e} d)
  expression_parts (grammar.a_call_of_super {c} {inside} {es} p) = arguments_read {c = with_in c} {ts = inside} {es = es} p (arguments_parts {c = with_in c} {ts = inside} {es = es} p)
  expression_parts (grammar.an_import_call {c} {inside = inside} {e = x} {options = o} p) = imported_parts {c = with_in c} {ts = inside} {e = x} {options = o} p
  expression_parts (grammar.a_private_member {c} {a} {o} _ _ _ _ _ d) = expression_read {c = c} {g = Member} {ts = a} {t = o} d (expression_parts {c = c} {g = Member} {ts = a} {t = o} d)
  expression_parts (grammar.a_private_member_of_call {c} {a} {o} _ _ _ _ _ d) = expression_read {c = c} {g = Call} {ts = a} {t = o} d (expression_parts {c = c} {g = Call} {ts = a} {t = o} d)
  expression_parts (grammar.a_private_test {c} {ts} {t} _ _ d) = expression_read {c = c} {g = Shift} {ts = ts} {t = t} d (expression_parts {c = c} {g = Shift} {ts = ts} {t = t} d)
  expression_parts (grammar.a_template {c} {ts} {qs} {es} _ p) = pieces_read {c = with_in c} {tagged = false} {ts = ts} {qs = qs} {es = es} p (pieces_parts {c = with_in c} {tagged = false} {ts = ts} {qs = qs} {es = es} p)
  expression_parts (grammar.a_tagged_template {c} {a} {b} {o} {q} _ r d) = (tag_read {c = with_in c} {ts = b} {q = q} r (template_parts {c = with_in c} {ts = b} {q = q} r), expression_read {c = c} {g = Member} {ts = a} {t = o} d (expression_parts {c = c} {g = Member} {ts = a} {t = o} d))
  expression_parts (grammar.a_tagged_template_of_call {c} {a} {b} {o} {q} _ r d) = (tag_read {c = with_in c} {ts = b} {q = q} r (template_parts {c = with_in c} {ts = b} {q = q} r), expression_read {c = c} {g = Call} {ts = a} {t = o} d (expression_parts {c = c} {g = Call} {ts = a} {t = o} d))
  expression_parts (grammar.in_parentheses {c} {ts} {t} d) = expression_read {c = with_in c} {g = Expression} {ts = ts} {t = t} d (expression_parts {c = with_in c} {g = Expression} {ts = ts} {t = t} d)
  expression_parts (grammar.an_optional_chain {c} {ts} {t} d) = chain_read {c = c} {ts = ts} {t = t} d (chain_parts {c = c} {ts = ts} {t = t} d)
  expression_parts (grammar.an_array {c} {inside} {es} p) = elements_read {c = with_in c} {ts = inside} {es = es} p (elements_parts {c = with_in c} {ts = inside} {es = es} p)
  expression_parts (grammar.an_object {c} {inside} {ps} p) = properties_read {c = with_in c} {ts = inside} {ps = ps} p (properties_parts {c = with_in c} {ts = inside} {ps = ps} p)
  expression_parts (grammar.a_function {ts} {t} d) = function_read {kd = kinds.Expression} {unnamed = true} {ts = ts} {t = t} d (function_parts {kd = kinds.Expression} {unnamed = true} {ts = ts} {t = t} d)
  expression_parts (grammar.a_class {c} {ts} {t} d) = class_read {c = with_in c} {kd = class_kinds.Expression} {unnamed = true} {ts = ts} {t = t} d (class_parts {c = with_in c} {kd = class_kinds.Expression} {unnamed = true} {ts = ts} {t = t} d)
  expression_parts (grammar.an_arrow {c} {ts} {t} d) = arrow_read {c = c} {async = false} {ts = ts} {t = t} d (arrow_parts {c = c} {async = false} {ts = ts} {t = t} d)
  expression_parts (grammar.an_async_arrow {c} {ts} {t} _ d) = arrow_read {c = c} {async = true} {ts = ts} {t = t} d (arrow_parts {c = c} {async = true} {ts = ts} {t = t} d)
  expression_parts (grammar.an_await {c} {ts} {t} _ d) = expression_read {c = c} {g = Unary} {ts = ts} {t = t} d (expression_parts {c = c} {g = Unary} {ts = ts} {t = t} d)
  expression_parts (grammar.a_yield {c} {ts} {t} _ _ d) = expression_read {c = c} {g = Assignment} {ts = ts} {t = t} d (expression_parts {c = c} {g = Assignment} {ts = ts} {t = t} d)
  expression_parts (grammar.a_delegation {c} {ts} {t} _ d) = expression_read {c = c} {g = Assignment} {ts = ts} {t = t} d (expression_parts {c = c} {g = Assignment} {ts = ts} {t = t} d)
  expression_parts d = tt

  imported_parts : {c : Allowed} {ts : Tokens} {e : Tree} {options : Maybe} → (d : ReadsImported c ts e options) → ImportedParts d
  imported_parts (grammar.an_imported {c} {ts = ts} {e = x} d) = expression_read {c = c} {g = Assignment} {ts = ts} {t = x} d (expression_parts {c = c} {g = Assignment} {ts = ts} {t = x} d)
  imported_parts (grammar.an_imported_and_a_comma {c} {a = a} {e = x} _ _ d) = expression_read {c = c} {g = Assignment} {ts = a} {t = x} d (expression_parts {c = c} {g = Assignment} {ts = a} {t = x} d)
  imported_parts (grammar.with_options {c} {a = a} {b = b} {e = x} {f = y} _ _ d f) = (expression_read {c = c} {g = Assignment} {ts = a} {t = x} d (expression_parts {c = c} {g = Assignment} {ts = a} {t = x} d), expression_read {c = c} {g = Assignment} {ts = b} {t = y} f (expression_parts {c = c} {g = Assignment} {ts = b} {t = y} f))
  imported_parts (grammar.with_options_and_a_comma {c} {a = a} {b = b} {e = x} {f = y} _ _ _ d f) = (expression_read {c = c} {g = Assignment} {ts = a} {t = x} d (expression_parts {c = c} {g = Assignment} {ts = a} {t = x} d), expression_read {c = c} {g = Assignment} {ts = b} {t = y} f (expression_parts {c = c} {g = Assignment} {ts = b} {t = y} f))

  template_parts : {c : Allowed} {ts : Tokens} {q : Tree} → (d : ReadsTemplate c ts q) → TemplateParts d
  template_parts (grammar.a_template_of_parts {c} {ts} {qs} {es} p) = pieces_read {c = c} {tagged = true} {ts = ts} {qs = qs} {es = es} p (pieces_parts {c = c} {tagged = true} {ts = ts} {qs = qs} {es = es} p)
  template_parts d = tt

  pieces_parts : {c : Allowed} {tagged : Bool} {ts : Tokens} {qs es : Trees} → (d : ReadsPieces c tagged ts qs es) → PiecesParts d
  pieces_parts (grammar.a_last_piece {c} {a} {e} _ _ _ d _) = expression_read {c = c} {g = Expression} {ts = a} {t = e} d (expression_parts {c = c} {g = Expression} {ts = a} {t = e} d)
  pieces_parts (grammar.a_piece_between {c} {tagged} {a} {b} {e} {qs} {es} _ _ _ d _ p) = (expression_read {c = c} {g = Expression} {ts = a} {t = e} d (expression_parts {c = c} {g = Expression} {ts = a} {t = e} d), pieces_read {c = c} {tagged = tagged} {ts = b} {qs = qs} {es = es} p (pieces_parts {c = c} {tagged = tagged} {ts = b} {qs = qs} {es = es} p))

  sequence_parts : {c : Allowed} {ts : Tokens} {us : Trees} → (d : ReadsParts c ts us) → SequenceParts d
  sequence_parts (grammar.last_part {c} {ts} {t} d) = expression_read {c = c} {g = Assignment} {ts = ts} {t = t} d (expression_parts {c = c} {g = Assignment} {ts = ts} {t = t} d)
  sequence_parts (grammar.first_part {c} {a} {b} {t} {us} _ _ d p) = (expression_read {c = c} {g = Assignment} {ts = a} {t = t} d (expression_parts {c = c} {g = Assignment} {ts = a} {t = t} d), sequence_read {c = c} {ts = b} {us = us} p (sequence_parts {c = c} {ts = b} {us = us} p))

  arguments_parts : {c : Allowed} {ts : Tokens} {es : Trees} → (d : ReadsArguments c ts es) → ArgumentsParts d
  arguments_parts (grammar.some_arguments {c} {ts} {es} d) = list_read {c = c} {ts = ts} {es = es} d (argument_list_parts {c = c} {ts = ts} {es = es} d)
  arguments_parts (grammar.with_last_comma {c} {a} {es} _ _ d) = list_read {c = c} {ts = a} {es = es} d (argument_list_parts {c = c} {ts = a} {es = es} d)
  arguments_parts d = tt

  argument_list_parts : {c : Allowed} {ts : Tokens} {es : Trees} → (d : ReadsArgumentList c ts es) → ArgumentListParts d
  argument_list_parts (grammar.last_argument {c} {ts} {e} d) = element_read {c = c} {ts = ts} {e = e} d (element_parts {c = c} {ts = ts} {e = e} d)
  argument_list_parts (grammar.first_argument {c} {a} {b} {e} {es} _ _ d p) = (element_read {c = c} {ts = a} {e = e} d (element_parts {c = c} {ts = a} {e = e} d), list_read {c = c} {ts = b} {es = es} p (argument_list_parts {c = c} {ts = b} {es = es} p))

  element_parts : {c : Allowed} {ts : Tokens} {e : Tree} → (d : ReadsElement c ts e) → ElementParts d
  element_parts (grammar.an_element {c} {ts} {e} d) = expression_read {c = c} {g = Assignment} {ts = ts} {t = e} d (expression_parts {c = c} {g = Assignment} {ts = ts} {t = e} d)
  element_parts (grammar.a_spread {c} {ts} {e} d) = expression_read {c = c} {g = Assignment} {ts = ts} {t = e} d (expression_parts {c = c} {g = Assignment} {ts = ts} {t = e} d)

  elements_parts : {c : Allowed} {ts : Tokens} {es : Trees} → (d : ReadsElements c ts es) → ElementsParts d
  elements_parts (grammar.last_element {c} {ts} {e} d) = element_read {c = c} {ts = ts} {e = e} d (element_parts {c = c} {ts = ts} {e = e} d)
  elements_parts (grammar.first_element {c} {a} {b} {e} {es} _ _ d p) = (element_read {c = c} {ts = a} {e = e} d (element_parts {c = c} {ts = a} {e = e} d), elements_read {c = c} {ts = b} {es = es} p (elements_parts {c = c} {ts = b} {es = es} p))
  elements_parts (grammar.an_elision {c} {ts} {es} p) = elements_read {c = c} {ts = ts} {es = es} p (elements_parts {c = c} {ts = ts} {es = es} p)
  elements_parts d = tt

  chain_parts : {c : Allowed} {ts : Tokens} {t : Tree} → (d : ReadsChain c ts t) → ChainParts d
  chain_parts (grammar.an_optional_named_member {c} {a} {o} _ _ _ _ _ b) = base_read {c = c} {ts = a} {t = o} b (chain_base_parts {c = c} {ts = a} {t = o} b)
  chain_parts (grammar.an_optional_computed_member {c} {a} {inside} {o} {e = e1} _ _ _ b d) = (base_read {c = c} {ts = a} {t = o} b (chain_base_parts {c = c} {ts = a} {t = o} b), expression_read {c = with_in c} {g = Expression} {ts = inside} {t = e1} d (expression_parts {c = with_in c} {g = Expression} {ts = inside} {t = e1} d))
  chain_parts (grammar.an_optional_call {c} {a} {inside} {f} {es} _ _ _ b p) = (base_read {c = c} {ts = a} {t = f} b (chain_base_parts {c = c} {ts = a} {t = f} b), arguments_read {c = with_in c} {ts = inside} {es = es} p (arguments_parts {c = with_in c} {ts = inside} {es = es} p))
  chain_parts (grammar.an_optional_private_member {c} {a} {o} _ _ _ _ _ b) = base_read {c = c} {ts = a} {t = o} b (chain_base_parts {c = c} {ts = a} {t = o} b)
  chain_parts (grammar.a_further_private_member {c} {a} {o} _ _ _ _ _ d) = chain_read {c = c} {ts = a} {t = o} d (chain_parts {c = c} {ts = a} {t = o} d)
  chain_parts (grammar.a_further_named_member {c} {a} {o} _ _ _ _ _ d) = chain_read {c = c} {ts = a} {t = o} d (chain_parts {c = c} {ts = a} {t = o} d)
  chain_parts (grammar.a_further_computed_member {c} {a} {inside} {o} {e = e1} _ _ b d) = (chain_read {c = c} {ts = a} {t = o} b (chain_parts {c = c} {ts = a} {t = o} b), expression_read {c = with_in c} {g = Expression} {ts = inside} {t = e1} d (expression_parts {c = with_in c} {g = Expression} {ts = inside} {t = e1} d))
  chain_parts (grammar.a_further_call {c} {a} {inside} {f} {es} _ _ b p) = (chain_read {c = c} {ts = a} {t = f} b (chain_parts {c = c} {ts = a} {t = f} b), arguments_read {c = with_in c} {ts = inside} {es = es} p (arguments_parts {c = with_in c} {ts = inside} {es = es} p))

  chain_base_parts : {c : Allowed} {ts : Tokens} {t : Tree} → (d : ReadsChainBase c ts t) → ChainBaseParts d
  chain_base_parts (grammar.a_first_link {c} {ts} {t} d) = expression_read {c = c} {g = Callee} {ts = ts} {t = t} d (expression_parts {c = c} {g = Callee} {ts = ts} {t = t} d)
  chain_base_parts (grammar.a_further_link {c} {ts} {t} d) = chain_read {c = c} {ts = ts} {t = t} d (chain_parts {c = c} {ts = ts} {t = t} d)

  arrow_parts : {c : Allowed} {async : Bool} {ts : Tokens} {t : Tree} → (d : ReadsArrow c async ts t) → ArrowParts d
  arrow_parts (grammar.an_arrow_function {c} {async} {a} {b} {ps} {e} _ p _ d) = (arrow_parameters {a = a} {ps = ps} p (arrow_parameters_parts {a = a} {ps = ps} p), expression_read {c = in_arrow_body async c} {g = Assignment} {ts = b} {t = e} d (expression_parts {c = in_arrow_body async c} {g = Assignment} {ts = b} {t = e} d))
  arrow_parts (grammar.an_arrow_with_body {async} {a} {inside} {ps} {ds} {ss} _ _ p b) = (arrow_parameters {a = a} {ps = ps} p (arrow_parameters_parts {a = a} {ps = ps} p), body_read {c = in_body async false} {last = true} {ts = inside} {ds = ds} {ss = ss} b (body_parts {c = in_body async false} {last = true} {ts = inside} {ds = ds} {ss = ss} b))

  arrow_parameters_parts : {a : Tokens} {ps : Tree} → (d : ReadsArrowParameters a ps) → ArrowParametersParts d
  arrow_parameters_parts (grammar.grouped_parameters {inside} {ps} {rest} p) = parameters_all {c = in_parameters} {ts = inside} {ps = ps} {r = rest} p (parameters_parts {c = in_parameters} {ts = inside} {ps = ps} {r = rest} p)
  arrow_parameters_parts d = tt

  parameters_parts : {c : Allowed} {ts : Tokens} {ps : Trees} {r : Maybe} → (d : ReadsParameters c ts ps r) → ParametersParts d
  parameters_parts (grammar.last_parameter {c} {ts} {p} d) = parameter_one {c = c} {ts = ts} {p = p} d (parameter_parts {c = c} {ts = ts} {p = p} d)
  parameters_parts (grammar.first_parameter {c} {a} {b} {p} {ps} {rest} _ _ d q) = (parameter_one {c = c} {ts = a} {p = p} d (parameter_parts {c = c} {ts = a} {p = p} d), parameters_all {c = c} {ts = b} {ps = ps} {r = rest} q (parameters_parts {c = c} {ts = b} {ps = ps} {r = rest} q))
  parameters_parts (grammar.a_rest {c} {ts} {b} d) = binding_read {c = c} {ts = ts} {b = b} d (binding_parts {c = c} {ts = ts} {b = b} d)
  parameters_parts d = tt

  parameter_parts : {c : Allowed} {ts : Tokens} {p : Tree} → (d : ReadsParameter c ts p) → ParameterParts d
  parameter_parts (grammar.a_parameter {c} {ts} {b} d) = binding_read {c = c} {ts = ts} {b = b} d (binding_parts {c = c} {ts = ts} {b = b} d)
  parameter_parts (grammar.with_initializer {c} {a} {v} {b} {e} _ _ d f) = (binding_read {c = c} {ts = a} {b = b} d (binding_parts {c = c} {ts = a} {b = b} d), expression_read {c = c} {g = Assignment} {ts = v} {t = e} f (expression_parts {c = c} {g = Assignment} {ts = v} {t = e} f))

  binding_parts : {c : Allowed} {ts : Tokens} {b : Tree} → (d : ReadsBinding c ts b) → BindingParts d
  binding_parts (grammar.an_object_binding {c} {inside} {ps} {rest} p) = bound_properties_read {c = with_in c} {ts = inside} {ps = ps} {r = rest} p (binding_properties_parts {c = with_in c} {ts = inside} {ps = ps} {r = rest} p)
  binding_parts (grammar.an_array_binding {c} {inside} {es} {rest} p) = bound_elements_read {c = with_in c} {ts = inside} {es = es} {r = rest} p (binding_elements_parts {c = with_in c} {ts = inside} {es = es} {r = rest} p)
  binding_parts d = tt

  binding_element_parts : {c : Allowed} {ts : Tokens} {t : Tree} → (d : ReadsBindingElement c ts t) → BindingElementParts d
  binding_element_parts (grammar.a_binding_alone {c} {ts} {b} d) = binding_read {c = c} {ts = ts} {b = b} d (binding_parts {c = c} {ts = ts} {b = b} d)
  binding_element_parts (grammar.a_binding_with_default {c} {a} {v} {b} {e} _ _ d p) = (binding_read {c = c} {ts = a} {b = b} d (binding_parts {c = c} {ts = a} {b = b} d), expression_read {c = c} {g = Assignment} {ts = v} {t = e} p (expression_parts {c = c} {g = Assignment} {ts = v} {t = e} p))

  binding_elements_parts : {c : Allowed} {ts : Tokens} {es : Trees} {r : Maybe} → (d : ReadsBindingElements c ts es r) → BindingElementsParts d
  binding_elements_parts (grammar.last_binding_element {c} {ts} {e} d) = bound_element_read {c = c} {ts = ts} {t = e} d (binding_element_parts {c = c} {ts = ts} {t = e} d)
  binding_elements_parts (grammar.first_binding_element {c} {a} {b} {e} {es} {rest} _ _ d p) = (bound_element_read {c = c} {ts = a} {t = e} d (binding_element_parts {c = c} {ts = a} {t = e} d), bound_elements_read {c = c} {ts = b} {es = es} {r = rest} p (binding_elements_parts {c = c} {ts = b} {es = es} {r = rest} p))
  binding_elements_parts (grammar.a_binding_elision {c} {ts} {es} {rest} p) = bound_elements_read {c = c} {ts = ts} {es = es} {r = rest} p (binding_elements_parts {c = c} {ts = ts} {es = es} {r = rest} p)
  binding_elements_parts (grammar.a_binding_rest {c} {ts} {b} d) = binding_read {c = c} {ts = ts} {b = b} d (binding_parts {c = c} {ts = ts} {b = b} d)
  binding_elements_parts d = tt

  binding_properties_parts : {c : Allowed} {ts : Tokens} {ps : Trees} {r : Maybe} → (d : ReadsBindingProperties c ts ps r) → BindingPropertiesParts d
  binding_properties_parts (grammar.last_binding_property {c} {ts} {p} d) = bound_property_read {c = c} {ts = ts} {p = p} d (binding_property_parts {c = c} {ts = ts} {p = p} d)
  binding_properties_parts (grammar.first_binding_property {c} {a} {b} {p} {ps} {rest} _ _ d x) = (bound_property_read {c = c} {ts = a} {p = p} d (binding_property_parts {c = c} {ts = a} {p = p} d), bound_properties_read {c = c} {ts = b} {ps = ps} {r = rest} x (binding_properties_parts {c = c} {ts = b} {ps = ps} {r = rest} x))
  binding_properties_parts d = tt

  binding_property_parts : {c : Allowed} {ts : Tokens} {p : Tree} → (d : ReadsBindingProperty c ts p) → BindingPropertyParts d
  binding_property_parts (grammar.a_bound_shorthand_with_default {c} {ts} {e = e1} _ _ d) = expression_read {c = c} {g = Assignment} {ts = ts} {t = e1} d (expression_parts {c = c} {g = Assignment} {ts = ts} {t = e1} d)
  binding_property_parts (grammar.a_bound_property {c} {computed} {a} {b} {k} {t} _ _ kr d) = (key_parts {c = c} {computed = computed} {ts = a} {key = k} kr, bound_element_read {c = c} {ts = b} {t = t} d (binding_element_parts {c = c} {ts = b} {t = t} d))
  binding_property_parts d = tt

  pattern_parts : {c : Allowed} {ts : Tokens} {t : Tree} → (d : ReadsPattern c ts t) → PatternParts d
  pattern_parts (grammar.an_array_target {c} {inside} {es} {rest} p) = target_elements_read {c = with_in c} {ts = inside} {es = es} {r = rest} p (target_elements_parts {c = with_in c} {ts = inside} {es = es} {r = rest} p)
  pattern_parts (grammar.an_object_target {c} {inside} {ps} {rest} p) = target_properties_read {c = with_in c} {ts = inside} {ps = ps} {r = rest} p (target_properties_parts {c = with_in c} {ts = inside} {ps = ps} {r = rest} p)

  target_parts : {c : Allowed} {ts : Tokens} {t : Tree} → (d : ReadsTarget c ts t) → TargetParts d
  target_parts (grammar.a_simple_target {c} {ts} {t} d _) = expression_read {c = c} {g = LeftHandSide} {ts = ts} {t = t} d (expression_parts {c = c} {g = LeftHandSide} {ts = ts} {t = t} d)
  target_parts (grammar.a_target_pattern {c} {ts} {t} d) = pattern_read {c = c} {ts = ts} {t = t} d (pattern_parts {c = c} {ts = ts} {t = t} d)

  target_element_parts : {c : Allowed} {ts : Tokens} {t : Tree} → (d : ReadsTargetElement c ts t) → TargetElementParts d
  target_element_parts (grammar.a_target_alone {c} {ts} {t} d) = target_read {c = c} {ts = ts} {t = t} d (target_parts {c = c} {ts = ts} {t = t} d)
  target_element_parts (grammar.a_target_with_default {c} {a} {b} {t} {e} _ _ d _ f _) = (expression_read {c = c} {g = LeftHandSide} {ts = a} {t = t} d (expression_parts {c = c} {g = LeftHandSide} {ts = a} {t = t} d), expression_read {c = c} {g = Assignment} {ts = b} {t = e} f (expression_parts {c = c} {g = Assignment} {ts = b} {t = e} f))
  target_element_parts (grammar.a_pattern_with_default {c} {a} {b} {t} {e} _ _ d f) = (pattern_read {c = c} {ts = a} {t = t} d (pattern_parts {c = c} {ts = a} {t = t} d), expression_read {c = c} {g = Assignment} {ts = b} {t = e} f (expression_parts {c = c} {g = Assignment} {ts = b} {t = e} f))

  target_elements_parts : {c : Allowed} {ts : Tokens} {es : Trees} {r : Maybe} → (d : ReadsTargetElements c ts es r) → TargetElementsParts d
  target_elements_parts (grammar.last_target_element {c} {ts} {e} d) = target_element_read {c = c} {ts = ts} {t = e} d (target_element_parts {c = c} {ts = ts} {t = e} d)
  target_elements_parts (grammar.first_target_element {c} {a} {b} {e} {es} {rest} _ _ d p) = (target_element_read {c = c} {ts = a} {t = e} d (target_element_parts {c = c} {ts = a} {t = e} d), target_elements_read {c = c} {ts = b} {es = es} {r = rest} p (target_elements_parts {c = c} {ts = b} {es = es} {r = rest} p))
  target_elements_parts (grammar.a_target_elision {c} {ts} {es} {rest} p) = target_elements_read {c = c} {ts = ts} {es = es} {r = rest} p (target_elements_parts {c = c} {ts = ts} {es = es} {r = rest} p)
  target_elements_parts (grammar.a_target_rest {c} {ts} {t} d) = target_read {c = c} {ts = ts} {t = t} d (target_parts {c = c} {ts = ts} {t = t} d)
  target_elements_parts d = tt

  target_properties_parts : {c : Allowed} {ts : Tokens} {ps : Trees} {r : Maybe} → (d : ReadsTargetProperties c ts ps r) → TargetPropertiesParts d
  target_properties_parts (grammar.last_target_property {c} {ts} {p} d) = target_property_read {c = c} {ts = ts} {p = p} d (target_property_parts {c = c} {ts = ts} {p = p} d)
  target_properties_parts (grammar.first_target_property {c} {a} {b} {p} {ps} {rest} _ _ d x) = (target_property_read {c = c} {ts = a} {p = p} d (target_property_parts {c = c} {ts = a} {p = p} d), target_properties_read {c = c} {ts = b} {ps = ps} {r = rest} x (target_properties_parts {c = c} {ts = b} {ps = ps} {r = rest} x))
  target_properties_parts (grammar.a_target_rest_property {c} {ts} {t} d _) = expression_read {c = c} {g = LeftHandSide} {ts = ts} {t = t} d (expression_parts {c = c} {g = LeftHandSide} {ts = ts} {t = t} d)
  target_properties_parts d = tt

  target_property_parts : {c : Allowed} {ts : Tokens} {p : Tree} → (d : ReadsTargetProperty c ts p) → TargetPropertyParts d
  target_property_parts (grammar.a_target_shorthand_with_default {c} {ts} {e = e1} _ _ d) = expression_read {c = c} {g = Assignment} {ts = ts} {t = e1} d (expression_parts {c = c} {g = Assignment} {ts = ts} {t = e1} d)
  target_property_parts (grammar.a_target_property {c} {computed} {a} {b} {k} {t} _ _ kr d) = (key_parts {c = c} {computed = computed} {ts = a} {key = k} kr, target_element_read {c = c} {ts = b} {t = t} d (target_element_parts {c = c} {ts = b} {t = t} d))
  target_property_parts d = tt

  pub function_parts : {kd : FunctionKind} {unnamed : Bool} {ts : Tokens} {t : Tree} → (d : ReadsFunction kd unnamed ts t) → FunctionParts d
  function_parts (grammar.a_plain_function {kind} {nameless} {ts} {t} d) = function_as {kd = kind} {unnamed = nameless} {async = false} {generator = false} {ts = ts} {t = t} d (function_as_parts {kd = kind} {unnamed = nameless} {async = false} {generator = false} {ts = ts} {t = t} d)
  function_parts (grammar.a_generator {kind} {nameless} {ts} {t} d) = function_as {kd = kind} {unnamed = nameless} {async = false} {generator = true} {ts = ts} {t = t} d (function_as_parts {kd = kind} {unnamed = nameless} {async = false} {generator = true} {ts = ts} {t = t} d)
  function_parts (grammar.an_async_function {kind} {nameless} {ts} {t} d) = function_as {kd = kind} {unnamed = nameless} {async = true} {generator = false} {ts = ts} {t = t} d (function_as_parts {kd = kind} {unnamed = nameless} {async = true} {generator = false} {ts = ts} {t = t} d)
  function_parts (grammar.an_async_generator {kind} {nameless} {ts} {t} d) = function_as {kd = kind} {unnamed = nameless} {async = true} {generator = true} {ts = ts} {t = t} d (function_as_parts {kd = kind} {unnamed = nameless} {async = true} {generator = true} {ts = ts} {t = t} d)

  function_as_parts : {kd : FunctionKind} {unnamed async generator : Bool} {ts : Tokens} {t : Tree} → (d : ReadsFunctionAs kd unnamed async generator ts t) → FunctionAsParts d
  function_as_parts (grammar.a_named_function {async} {generator} {head} {inside} {ps} {ds} {ss} {rest} _ _ p b) = (parameters_all {c = in_parameters} {ts = head} {ps = ps} {r = rest} p (parameters_parts {c = in_parameters} {ts = head} {ps = ps} {r = rest} p), body_read {c = in_body async generator} {last = true} {ts = inside} {ds = ds} {ss = ss} b (body_parts {c = in_body async generator} {last = true} {ts = inside} {ds = ds} {ss = ss} b))
  function_as_parts (grammar.a_nameless_function {async} {generator} {head} {inside} {ps} {ds} {ss} {rest} p b) = (parameters_all {c = in_parameters} {ts = head} {ps = ps} {r = rest} p (parameters_parts {c = in_parameters} {ts = head} {ps = ps} {r = rest} p), body_read {c = in_body async generator} {last = true} {ts = inside} {ds = ds} {ss = ss} b (body_parts {c = in_body async generator} {last = true} {ts = inside} {ds = ds} {ss = ss} b))

  properties_parts : {c : Allowed} {ts : Tokens} {ps : Trees} → (d : ReadsProperties c ts ps) → PropertiesParts d
  properties_parts (grammar.last_property {c} {ts} {t} d) = property_read {c = c} {ts = ts} {t = t} d (property_parts {c = c} {ts = ts} {t = t} d)
  properties_parts (grammar.first_property {c} {a} {b} {t} {us} _ _ d p) = (property_read {c = c} {ts = a} {t = t} d (property_parts {c = c} {ts = a} {t = t} d), properties_read {c = c} {ts = b} {ps = us} p (properties_parts {c = c} {ts = b} {ps = us} p))
  properties_parts d = tt

  property_parts : {c : Allowed} {ts : Tokens} {t : Tree} → (d : ReadsProperty c ts t) → PropertyParts d
  property_parts (grammar.a_property {c} {computed} {a} {b} {k} {e} _ _ kr d) = (key_parts {c = c} {computed = computed} {ts = a} {key = k} kr, expression_read {c = c} {g = Assignment} {ts = b} {t = e} d (expression_parts {c = c} {g = Assignment} {ts = b} {t = e} d))
  property_parts (grammar.a_method {c} {kind} {computed} {ts} {k} {v} d) = method_parts {c = c} {private = false} {kd = kind} {computed = computed} {ts = ts} {key = k} {v = v} d
  property_parts (grammar.a_spread_property {c} {ts} {e} d) = expression_read {c = c} {g = Assignment} {ts = ts} {t = e} d (expression_parts {c = c} {g = Assignment} {ts = ts} {t = e} d)
  property_parts d = tt

  -- the parts of a key
  key_parts : {c : Allowed} {computed : Bool} {ts : Tokens} {key : Tree} → (d : ReadsKey c computed ts key) → KeyParts d
  key_parts (grammar.a_computed_key {c} {inside} {e} d) = expression_read {c = with_in c} {g = Assignment} {ts = inside} {t = e} d (expression_parts {c = with_in c} {g = Assignment} {ts = inside} {t = e} d)
  key_parts d = tt

  member_key_parts : {c : Allowed} {private computed : Bool} {ts : Tokens} {key : Tree} → (d : ReadsMemberKey c private computed ts key) → MemberKeyParts d
  member_key_parts (grammar.a_public_key {c} {computed} {ts} {k} kr) = key_parts {c = c} {computed = computed} {ts = ts} {key = k} kr
  member_key_parts d = tt

  -- the parts of methods
  method_as_parts : {c : Allowed} {private async generator computed : Bool} {ts : Tokens} {key v : Tree} → (d : ReadsMethodAs c private async generator computed ts key v) → MethodAsParts d
  method_as_parts (grammar.a_method_behind_words {c} {private} {async} {generator} {computed} {a} {head} {inside} {k} {ps} {ds} {ss} {rest} _ _ _ kr p b) = (member_key_parts {c = c} {private = private} {computed = computed} {ts = a} {key = k} kr, parameters_all {c = in_parameters} {ts = head} {ps = ps} {r = rest} p (parameters_parts {c = in_parameters} {ts = head} {ps = ps} {r = rest} p), body_read {c = in_body async generator} {last = true} {ts = inside} {ds = ds} {ss = ss} b (body_parts {c = in_body async generator} {last = true} {ts = inside} {ds = ds} {ss = ss} b))

  method_parts : {c : Allowed} {private : Bool} {kd : PropertyKind} {computed : Bool} {ts : Tokens} {key v : Tree} → (d : ReadsMethod c private kd computed ts key v) → MethodParts d
  method_parts (grammar.a_plain_method {c} {private} {computed} {ts} {k} {v} d) = method_as_parts {c = c} {private = private} {async = false} {generator = false} {computed = computed} {ts = ts} {key = k} {v = v} d
  method_parts (grammar.a_generator_method {c} {private} {computed} {ts} {k} {v} d) = method_as_parts {c = c} {private = private} {async = false} {generator = true} {computed = computed} {ts = ts} {key = k} {v = v} d
  method_parts (grammar.an_async_method {c} {private} {computed} {ts} {k} {v} _ d) = method_as_parts {c = c} {private = private} {async = true} {generator = false} {computed = computed} {ts = ts} {key = k} {v = v} d
  method_parts (grammar.an_async_generator_method {c} {private} {computed} {ts} {k} {v} d) = method_as_parts {c = c} {private = private} {async = true} {generator = true} {computed = computed} {ts = ts} {key = k} {v = v} d
  method_parts (grammar.a_getter {c} {private} {computed} {a} {inside} {k} {ds} {ss} _ _ _ kr b) = (member_key_parts {c = c} {private = private} {computed = computed} {ts = a} {key = k} kr, body_read {c = in_body false false} {last = true} {ts = inside} {ds = ds} {ss = ss} b (body_parts {c = in_body false false} {last = true} {ts = inside} {ds = ds} {ss = ss} b))
  method_parts (grammar.a_setter {c} {private} {computed} {a} {head} {inside} {k} {p = p1} {ds} {ss} _ _ _ kr p b) = (member_key_parts {c = c} {private = private} {computed = computed} {ts = a} {key = k} kr, parameter_one {c = in_parameters} {ts = head} {p = p1} p (parameter_parts {c = in_parameters} {ts = head} {p = p1} p), body_read {c = in_body false false} {last = true} {ts = inside} {ds = ds} {ss = ss} b (body_parts {c = in_body false false} {last = true} {ts = inside} {ds = ds} {ss = ss} b))

  -- the parts of classes
  pub class_parts : {c : Allowed} {kd : ClassKind} {unnamed : Bool} {ts : Tokens} {t : Tree} → (d : ReadsClass c kd unnamed ts t) → ClassParts d
  class_parts (grammar.a_named_class {c} {ts} {heritage} {ms} _ _ d) = tail_parts {c = c} {ts = ts} {heritage = heritage} {ms = ms} d
  class_parts (grammar.a_nameless_class {c} {ts} {heritage} {ms} d) = tail_parts {c = c} {ts = ts} {heritage = heritage} {ms = ms} d

  tail_parts : {c : Allowed} {ts : Tokens} {heritage : Maybe} {ms : Trees} → (d : ReadsClassTail c ts heritage ms) → ClassTailParts d
  tail_parts (grammar.without_heritage {c} {inside} {ms} p) = members_parts {c = c} {ts = inside} {ms = ms} p
  tail_parts (grammar.with_heritage {c} {a} {inside} {e = e1} {ms} _ _ d p) = (expression_read {c = c} {g = LeftHandSide} {ts = a} {t = e1} d (expression_parts {c = c} {g = LeftHandSide} {ts = a} {t = e1} d), members_parts {c = c} {ts = inside} {ms = ms} p)

  members_parts : {c : Allowed} {ts : Tokens} {ms : Trees} → (d : ReadsMembers c ts ms) → MembersParts d
  members_parts grammar.no_member = tt
  members_parts (grammar.a_semicolon_alone {c} {ts} {ms} p) = members_parts {c = c} {ts = ts} {ms = ms} p
  members_parts (grammar.a_last_field {c} {ts} {t} d) = field_parts {c = c} {ts = ts} {t = t} d
  members_parts (grammar.a_first_field {c} {a} {b} {t} {ms} _ _ d p) = (field_parts {c = c} {ts = a} {t = t} d, members_parts {c = c} {ts = b} {ms = ms} p)
  members_parts (grammar.a_first_member {c} {a} {b} {t} {ms} _ d p) = (member_parts {c = c} {ts = a} {t = t} d, members_parts {c = c} {ts = b} {ms = ms} p)

  member_parts : {c : Allowed} {ts : Tokens} {t : Tree} → (d : ReadsMember c ts t) → MemberParts d
  member_parts (grammar.a_member_method {c} {kind} {computed} {ts} {k} {v} d) = method_parts {c = c} {private = true} {kd = kind} {computed = computed} {ts = ts} {key = k} {v = v} d
  member_parts (grammar.a_static_method {c} {kind} {computed} {ts} {k} {v} d) = method_parts {c = c} {private = true} {kd = kind} {computed = computed} {ts = ts} {key = k} {v = v} d
  member_parts (grammar.a_static_block {inside} {ss} d) = statements_read {c = in_member} {last = true} {ts = inside} {ss = ss} d (statements_parts {c = in_member} {last = true} {ts = inside} {ss = ss} d)

  field_parts : {c : Allowed} {ts : Tokens} {t : Tree} → (d : ReadsField c ts t) → FieldParts d
  field_parts (grammar.a_field {c} {computed} {ts} {k} {value} d) = field_as_parts {c = c} {computed = computed} {ts = ts} {key = k} {value = value} d
  field_parts (grammar.a_static_field {c} {computed} {ts} {k} {value} d) = field_as_parts {c = c} {computed = computed} {ts = ts} {key = k} {value = value} d

  field_as_parts : {c : Allowed} {computed : Bool} {ts : Tokens} {key : Tree} {value : Maybe} → (d : ReadsFieldAs c computed ts key value) → FieldAsParts d
  field_as_parts (grammar.a_field_alone {c} {computed} {ts} {k} kr) = member_key_parts {c = c} {private = true} {computed = computed} {ts = ts} {key = k} kr
  field_as_parts (grammar.a_field_with_value {c} {computed} {a} {b} {k} {e} _ _ kr d) = (member_key_parts {c = c} {private = true} {computed = computed} {ts = a} {key = k} kr, expression_read {c = in_member} {g = Assignment} {ts = b} {t = e} d (expression_parts {c = in_member} {g = Assignment} {ts = b} {t = e} d))

  body_parts : {c : Allowed} {last : Bool} {ts : Tokens} {ds ss : Trees} → (d : ReadsBody c last ts ds ss) → BodyParts d
  body_parts (grammar.a_directive {c} {last} {ts} {ds} {ss} _ _ d) = body_read {c = c} {last = last} {ts = ts} {ds = ds} {ss = ss} d (body_parts {c = c} {last = last} {ts = ts} {ds = ds} {ss = ss} d)
  body_parts (grammar.statements {c} {last} {ts} {ss} _ d) = statements_read {c = c} {last = last} {ts = ts} {ss = ss} d (statements_parts {c = c} {last = last} {ts = ts} {ss = ss} d)
  body_parts d = tt

  statement_parts : {c : Allowed} {last before_else : Bool} {ts : Tokens} {s : Tree} → (d : ReadsStatement c last before_else ts s) → StatementParts d
  statement_parts (grammar.an_expression_statement {c} {a} {e} _ g d) = expression_read {c = with_in c} {g = Expression} {ts = a} {t = e} d (expression_parts {c = with_in c} {g = Expression} {ts = a} {t = e} d)
  statement_parts (grammar.a_block {c} {inside} {body} d) = statements_read {c = c} {last = true} {ts = inside} {ss = body} d (statements_parts {c = c} {last = true} {ts = inside} {ss = body} d)
  statement_parts (grammar.an_if {c} {last} {test} {ts} {t} {s} p d) = (expression_read {c = with_in c} {g = Expression} {ts = test} {t = t} p (expression_parts {c = with_in c} {g = Expression} {ts = test} {t = t} p), statement_read {c = c} {last = last} {before_else = false} {ts = ts} {s = s} d (statement_parts {c = c} {last = last} {before_else = false} {ts = ts} {s = s} d))
  statement_parts (grammar.an_if_with_else {c} {last} {before_else} {test} {a} {b} {t} {s} {u} _ _ p d r) = (expression_read {c = with_in c} {g = Expression} {ts = test} {t = t} p (expression_parts {c = with_in c} {g = Expression} {ts = test} {t = t} p), statement_read {c = c} {last = false} {before_else = true} {ts = a} {s = s} d (statement_parts {c = c} {last = false} {before_else = true} {ts = a} {s = s} d), statement_read {c = c} {last = last} {before_else = before_else} {ts = b} {s = u} r (statement_parts {c = c} {last = last} {before_else = before_else} {ts = b} {s = u} r))
  statement_parts (grammar.a_throw {c} {a} {e} _ g d) = expression_read {c = with_in c} {g = Expression} {ts = a} {t = e} d (expression_parts {c = with_in c} {g = Expression} {ts = a} {t = e} d)
  statement_parts (grammar.a_variable_statement _ (grammar.some_variables {c = c2} {ts = ts2} {ds = ds2} p)) = declarators_read {c = c2} {ts = ts2} {ds = ds2} p (declarators_parts {c = c2} {ts = ts2} {ds = ds2} p)
  statement_parts (grammar.a_for {c} {last} {before_else} {a} {b} {d} {ts} {init} {test} {update} {s} _ _ _ x y w r) = (init_read {c = c} {a = a} {init = init} x (init_parts {c = c} {a = a} {init = init} x), test_read {c = with_in c} {b = b} {test = test} y (part_parts {c = with_in c} {b = b} {test = test} y), update_read {c = with_in c} {b = d} {update = update} w (part_parts {c = with_in c} {b = d} {test = update} w), statement_read {c = c} {last = last} {before_else = before_else} {ts = ts} {s = s} r (statement_parts {c = c} {last = last} {before_else = before_else} {ts = ts} {s = s} r))
  statement_parts (grammar.a_for_in {c} {last} {before_else} {a} {b} {ts} {l} {e = e1} {s} _ _ y d r) = (left_read {c = with_in c} {precedes = false} {a = a} {l = l} y (left_parts {c = with_in c} {precedes = false} {a = a} {l = l} y), expression_read {c = with_in c} {g = Expression} {ts = b} {t = e1} d (expression_parts {c = with_in c} {g = Expression} {ts = b} {t = e1} d), statement_read {c = c} {last = last} {before_else = before_else} {ts = ts} {s = s} r (statement_parts {c = c} {last = last} {before_else = before_else} {ts = ts} {s = s} r))
  statement_parts (grammar.a_for_of {c} {last} {before_else} {a} {b} {ts} {l} {e = e1} {s} _ _ y d r) = (left_read {c = with_in c} {precedes = true} {a = a} {l = l} y (left_parts {c = with_in c} {precedes = true} {a = a} {l = l} y), expression_read {c = with_in c} {g = Assignment} {ts = b} {t = e1} d (expression_parts {c = with_in c} {g = Assignment} {ts = b} {t = e1} d), statement_read {c = c} {last = last} {before_else = before_else} {ts = ts} {s = s} r (statement_parts {c = c} {last = last} {before_else = before_else} {ts = ts} {s = s} r))
  statement_parts (grammar.a_for_await {c} {last} {before_else} {a} {b} {ts} {l} {e = e1} {s} _ _ _ y d r) = (left_read {c = with_in c} {precedes = false} {a = a} {l = l} y (left_parts {c = with_in c} {precedes = false} {a = a} {l = l} y), expression_read {c = with_in c} {g = Assignment} {ts = b} {t = e1} d (expression_parts {c = with_in c} {g = Assignment} {ts = b} {t = e1} d), statement_read {c = c} {last = last} {before_else = before_else} {ts = ts} {s = s} r (statement_parts {c = c} {last = last} {before_else = before_else} {ts = ts} {s = s} r))
  statement_parts (grammar.a_while {c} {last} {before_else} {test} {ts} {t} {s} p d) = (expression_read {c = with_in c} {g = Expression} {ts = test} {t = t} p (expression_parts {c = with_in c} {g = Expression} {ts = test} {t = t} p), statement_read {c = c} {last = last} {before_else = before_else} {ts = ts} {s = s} d (statement_parts {c = c} {last = last} {before_else = before_else} {ts = ts} {s = s} d))
  statement_parts (grammar.a_do_while {c} {b} {test} {s} {t} _ _ _ _ d p) = (statement_read {c = c} {last = false} {before_else = false} {ts = b} {s = s} d (statement_parts {c = c} {last = false} {before_else = false} {ts = b} {s = s} d), expression_read {c = with_in c} {g = Expression} {ts = test} {t = t} p (expression_parts {c = with_in c} {g = Expression} {ts = test} {t = t} p))
  statement_parts (grammar.a_labelled_statement {c} {last} {before_else} {ts} {s} _ _ d) = statement_read {c = c} {last = last} {before_else = before_else} {ts = ts} {s = s} d (statement_parts {c = c} {last = last} {before_else = before_else} {ts = ts} {s = s} d)
  statement_parts (grammar.a_continue {a} {l} _ r) = label_read {a = a} {m = l} r
  statement_parts (grammar.a_break {a} {l} _ r) = label_read {a = a} {m = l} r
  statement_parts (grammar.a_switch {c} {head} {inside} {e} {cases} p d) = (expression_read {c = with_in c} {g = Expression} {ts = head} {t = e} p (expression_parts {c = with_in c} {g = Expression} {ts = head} {t = e} p), cases_read {c = c} {default = true} {ts = inside} {cs = cases} d (cases_parts {c = c} {default = true} {ts = inside} {cs = cases} d))
  statement_parts (grammar.a_try {c} {inside} {ts} {body} {handler} {finalizer} p r) = (statements_read {c = c} {last = true} {ts = inside} {ss = body} p (statements_parts {c = c} {last = true} {ts = inside} {ss = body} p), ends_of_try {c = c} {ts = ts} {h = handler} {g = finalizer} r (ends_of_try_parts {c = c} {ts = ts} {h = handler} {g = finalizer} r))
  statement_parts (grammar.a_return {c} {a} {m} _ _ r) = returned_read {c = c} {a = a} {m = m} r (returned_parts {c = c} {a = a} {m = m} r)
  statement_parts d = tt

  returned_parts : {c : Allowed} {a : Tokens} {m : Maybe} → (d : ReadsReturned c a m) → ReturnedParts d
  returned_parts (grammar.a_returned_value {c} {ts} {e} _ d) = expression_read {c = with_in c} {g = Expression} {ts = ts} {t = e} d (expression_parts {c = with_in c} {g = Expression} {ts = ts} {t = e} d)
  returned_parts d = tt

  ends_of_try_parts : {c : Allowed} {ts : Tokens} {h g : Maybe} → (d : ReadsEndsOfTry c ts h g) → EndsOfTryParts d
  ends_of_try_parts (grammar.a_handler {c} {ts} {h} r) = handler_read {c = c} {ts = ts} {h = h} r (handler_parts {c = c} {ts = ts} {h = h} r)
  ends_of_try_parts (grammar.a_finalizer (grammar.a_finally {c = c2} {inside = inside2} {body = body2} d)) = statements_read {c = c2} {last = true} {ts = inside2} {ss = body2} d (statements_parts {c = c2} {last = true} {ts = inside2} {ss = body2} d)
  ends_of_try_parts (grammar.a_handler_and_a_finalizer {c} {a} {h} _ r (grammar.a_finally {c = c2} {inside = inside2} {body = body2} d)) = (handler_read {c = c} {ts = a} {h = h} r (handler_parts {c = c} {ts = a} {h = h} r), statements_read {c = c2} {last = true} {ts = inside2} {ss = body2} d (statements_parts {c = c2} {last = true} {ts = inside2} {ss = body2} d))

  handler_parts : {c : Allowed} {ts : Tokens} {h : Tree} → (d : ReadsHandler c ts h) → HandlerParts d
  handler_parts (grammar.a_catch {c} {inside} {body} d) = statements_read {c = c} {last = true} {ts = inside} {ss = body} d (statements_parts {c = c} {last = true} {ts = inside} {ss = body} d)
  handler_parts (grammar.a_catch_by_name {c} {name} {inside} {b} {body} p d) = (binding_read {c = with_in c} {ts = name} {b = b} p (binding_parts {c = with_in c} {ts = name} {b = b} p), statements_read {c = c} {last = true} {ts = inside} {ss = body} d (statements_parts {c = c} {last = true} {ts = inside} {ss = body} d))

  init_parts : {c : Allowed} {a : Tokens} {init : Maybe} → (d : ReadsInit c a init) → InitParts d
  init_parts (grammar.first_variables _ (grammar.some_variables {c = c2} {ts = ts2} {ds = ds2} p)) = declarators_read {c = c2} {ts = ts2} {ds = ds2} p (declarators_parts {c = c2} {ts = ts2} {ds = ds2} p)
  init_parts (grammar.first_expression {c} {ts} {e} d) = expression_read {c = without_in c} {g = Expression} {ts = ts} {t = e} d (expression_parts {c = without_in c} {g = Expression} {ts = ts} {t = e} d)
  init_parts d = tt

  part_parts : {c : Allowed} {b : Tokens} {test : Maybe} → (d : ReadsPart c b test) → PartParts d
  part_parts (grammar.an_expression_there {c} {ts} {e} d) = expression_read {c = c} {g = Expression} {ts = ts} {t = e} d (expression_parts {c = c} {g = Expression} {ts = ts} {t = e} d)
  part_parts d = tt

  left_parts : {c : Allowed} {precedes : Bool} {a : Tokens} {l : Tree} → (d : ReadsLeft c precedes a l) → LeftParts d
  left_parts (grammar.a_declared_name {c} {ts} {b} _ d) = binding_read {c = c} {ts = ts} {b = b} d (binding_parts {c = c} {ts = ts} {b = b} d)
  left_parts (grammar.a_target {c} {ts} {t} g d _) = expression_read {c = c} {g = LeftHandSide} {ts = ts} {t = t} d (expression_parts {c = c} {g = LeftHandSide} {ts = ts} {t = t} d)
  left_parts (grammar.a_left_pattern {c} {ts} {t} d) = pattern_read {c = c} {ts = ts} {t = t} d (pattern_parts {c = c} {ts = ts} {t = t} d)

  pub declarators_parts : {c : Allowed} {ts : Tokens} {ds : Trees} → (d : ReadsDeclarators c ts ds) → DeclaratorsParts d
  declarators_parts (grammar.last_declarator {c} {ts} {d = d1} d) = declarator_read {c = c} {ts = ts} {d = d1} d (declarator_parts {c = c} {ts = ts} {d = d1} d)
  declarators_parts (grammar.first_declarator {c} {a} {b} {d = d1} {ds} _ _ d p) = (declarator_read {c = c} {ts = a} {d = d1} d (declarator_parts {c = c} {ts = a} {d = d1} d), declarators_read {c = c} {ts = b} {ds = ds} p (declarators_parts {c = c} {ts = b} {ds = ds} p))

  declarator_parts : {c : Allowed} {ts : Tokens} {d : Tree} → (d : ReadsDeclarator c ts d) → DeclaratorParts d
  declarator_parts (grammar.with_value {c} {a} {v} {b} {e} _ _ d f) = (binding_read {c = c} {ts = a} {b = b} d (binding_parts {c = c} {ts = a} {b = b} d), expression_read {c = c} {g = Assignment} {ts = v} {t = e} f (expression_parts {c = c} {g = Assignment} {ts = v} {t = e} f))
  declarator_parts d = tt

  cases_parts : {c : Allowed} {default : Bool} {ts : Tokens} {cs : Trees} → (d : ReadsCases c default ts cs) → CasesParts d
  cases_parts (grammar.last_case {c} {default} {rest} {ts} {t} d) = case_read {c = c} {last = true} {default = default} {next = rest} {ts = ts} {t = t} d (case_parts {c = c} {last = true} {default = default} {next = rest} {ts = ts} {t = t} d)
  cases_parts (grammar.first_case {c} {default} {rest} {a} {b} {t} {us} _ d p) = (case_read {c = c} {last = false} {default = default} {next = rest} {ts = a} {t = t} d (case_parts {c = c} {last = false} {default = default} {next = rest} {ts = a} {t = t} d), cases_read {c = c} {default = rest} {ts = b} {cs = us} p (cases_parts {c = c} {default = rest} {ts = b} {cs = us} p))
  cases_parts d = tt

  case_parts : {c : Allowed} {last default next : Bool} {ts : Tokens} {t : Tree} → (d : ReadsCase c last default next ts t) → CaseParts d
  case_parts (grammar.a_case {c} {last} {a} {b} {t} {ss} _ _ d p) = (expression_read {c = with_in c} {g = Expression} {ts = a} {t = t} d (expression_parts {c = with_in c} {g = Expression} {ts = a} {t = t} d), statements_read {c = c} {last = last} {ts = b} {ss = ss} p (statements_parts {c = c} {last = last} {ts = b} {ss = ss} p))
  case_parts (grammar.a_default {c} {last} {ts} {ss} p) = statements_read {c = c} {last = last} {ts = ts} {ss = ss} p (statements_parts {c = c} {last = last} {ts = ts} {ss = ss} p)

  pub item_parts : {c : Allowed} {last : Bool} {ts : Tokens} {s : Tree} → (d : ReadsItem c last ts s) → ItemParts d
  item_parts (grammar.a_statement {c} {last} {ts} {s} d) = statement_read {c = c} {last = last} {before_else = false} {ts = ts} {s = s} d (statement_parts {c = c} {last = last} {before_else = false} {ts = ts} {s = s} d)
  item_parts (grammar.a_function_declaration {ts} {t} d) = function_read {kd = kinds.Declaration} {unnamed = false} {ts = ts} {t = t} d (function_parts {kd = kinds.Declaration} {unnamed = false} {ts = ts} {t = t} d)
  item_parts (grammar.a_class_declaration {c} {ts} {t} d) = class_read {c = with_in c} {kd = class_kinds.Declaration} {unnamed = false} {ts = ts} {t = t} d (class_parts {c = with_in c} {kd = class_kinds.Declaration} {unnamed = false} {ts = ts} {t = t} d)
  item_parts (grammar.a_declaration _ _ _ (grammar.some_variables {c = c2} {ts = ts2} {ds = ds2} p)) = declarators_read {c = c2} {ts = ts2} {ds = ds2} p (declarators_parts {c = c2} {ts = ts2} {ds = ds2} p)

  statements_parts : {c : Allowed} {last : Bool} {ts : Tokens} {ss : Trees} → (d : ReadsStatements c last ts ss) → StatementsParts d
  statements_parts (grammar.last_statement {c} {last} {ts} {s} d) = item_read {c = c} {last = last} {ts = ts} {s = s} d (item_parts {c = c} {last = last} {ts = ts} {s = s} d)
  statements_parts (grammar.first_statement {c} {last} {a} {b} {s} {ss} _ d p) = (item_read {c = c} {last = false} {ts = a} {s = s} d (item_parts {c = c} {last = false} {ts = a} {s = s} d), statements_read {c = c} {last = last} {ts = b} {ss = ss} p (statements_parts {c = c} {last = last} {ts = b} {ss = ss} p))
  statements_parts d = tt
