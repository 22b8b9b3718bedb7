-- What is read where `in` may not stand is read where it may.
use Rattle.std.proofs.Common.{◌≡◌, Bool, true, refl}
use Rattle.jsgen_syntax.specs.declared.operator.BinaryOperator.{BinaryOperator}
use Rattle.jsgen_syntax.specs.declared.operator.BinaryOperator.TheVariants as operators
use Rattle.jsgen_tree.specs.Tree.{Tree, Maybe, Trees}
use Rattle.jsgen_model.specs.Tokens.{Tokens}
use Rattle.jsgen_model.specs.Grammar.{Allowed, Level, ReadsExpression, ReadsArrow, ReadsBinding, ReadsParameters, ReadsParameter, ReadsParts, ReadsChain, ReadsChainBase, with_in, may_operate}
use Rattle.jsgen_model.specs.Grammar as grammar

all_stand : (c : Allowed) (o : BinaryOperator) → may_operate (with_in c) o ≡ true
all_stand c operators.In = refl
all_stand c o = refl

mutual
  pub freed : {c : Allowed} {g : Level} {ts : Tokens} {t : Tree} → ReadsExpression c g ts t → ReadsExpression (with_in c) g ts t
  freed (grammar.an_assignment x) = grammar.an_assignment (freed x)
  freed (grammar.a_sequence mark x y z) = grammar.a_sequence mark x (freed y) (freed_parts z)
  freed (grammar.a_conditional x) = grammar.a_conditional (freed x)
  freed (grammar.an_assignment_to o mark x y z u v) = grammar.an_assignment_to o mark x y z (freed u) v
  freed (grammar.an_assignment_to_pattern mark x y z) = grammar.an_assignment_to_pattern mark x y (freed z)
  freed (grammar.a_short_circuit x) = grammar.a_short_circuit (freed x)
  freed (grammar.a_logical_or x) = grammar.a_logical_or (freed x)
  freed (grammar.a_logical_and x) = grammar.a_logical_and (freed x)
  freed (grammar.a_bit_or x) = grammar.a_bit_or (freed x)
  freed (grammar.a_bit_xor x) = grammar.a_bit_xor (freed x)
  freed (grammar.a_bit_and x) = grammar.a_bit_and (freed x)
  freed (grammar.an_equality x) = grammar.an_equality (freed x)
  freed (grammar.a_relation x) = grammar.a_relation (freed x)
  freed (grammar.a_shift x) = grammar.a_shift (freed x)
  freed (grammar.an_additive x) = grammar.an_additive (freed x)
  freed (grammar.a_multiplicative x) = grammar.a_multiplicative (freed x)
  freed (grammar.an_exponent x) = grammar.an_exponent (freed x)
  freed (grammar.a_unary x) = grammar.a_unary (freed x)
  freed (grammar.an_update x) = grammar.an_update (freed x)
  freed (grammar.a_left_hand_side x) = grammar.a_left_hand_side (freed x)
  freed (grammar.a_new x) = grammar.a_new (freed x)
  freed (grammar.a_call x) = grammar.a_call (freed x)
  freed (grammar.a_member x) = grammar.a_member (freed x)
  freed (grammar.a_primary x) = grammar.a_primary (freed x)
  freed (grammar.a_called_member x) = grammar.a_called_member (freed x)
  freed (grammar.a_called_call x) = grammar.a_called_call (freed x)
  freed (grammar.a_named_member w mark next x y z) = grammar.a_named_member w mark next x y (freed z)
  freed (grammar.a_computed_member mark x y z) = grammar.a_computed_member mark x (freed y) z
  freed (grammar.with_arguments mark x y z) = grammar.with_arguments mark x (freed y) z
  freed (grammar.a_named_member_of_call w mark next x y z) = grammar.a_named_member_of_call w mark next x y (freed z)
  freed (grammar.a_computed_member_of_call mark x y z) = grammar.a_computed_member_of_call mark x (freed y) z
  freed {c} (grammar.an_operation o mark x y z u v) = grammar.an_operation o mark x (all_stand c o) z (freed u) (freed v)
  freed (grammar.a_power mark x y z) = grammar.a_power mark x (freed y) (freed z)
  freed (grammar.a_conjunction mark x y z) = grammar.a_conjunction mark x (freed y) (freed z)
  freed (grammar.a_disjunction mark x y z) = grammar.a_disjunction mark x (freed y) (freed z)
  freed (grammar.a_coalesce x) = grammar.a_coalesce (freed x)
  freed (grammar.a_coalescing mark x y z) = grammar.a_coalescing mark x (freed y) (freed z)
  freed (grammar.a_coalesced_head x) = grammar.a_coalesced_head (freed x)
  freed (grammar.a_bit_or_head x) = grammar.a_bit_or_head (freed x)
  freed (grammar.a_choice mark next x y z u) = grammar.a_choice mark next x (freed y) z (freed u)
  freed (grammar.a_unary_operation o x) = grammar.a_unary_operation o (freed x)
  freed (grammar.an_update_before o x y) = grammar.an_update_before o (freed x) y
  freed (grammar.an_update_behind o x y z) = grammar.an_update_behind o x (freed y) z
  freed (grammar.new_with_arguments mark next x y z) = grammar.new_with_arguments mark next x (freed y) z
  freed (grammar.new_alone x) = grammar.new_alone (freed x)
  freed (grammar.a_named_member_of_super w mark next last x) = grammar.a_named_member_of_super w mark next last x
  freed (grammar.a_computed_member_of_super x) = grammar.a_computed_member_of_super x
  freed (grammar.a_call_of_super x) = grammar.a_call_of_super x
  freed (grammar.an_import_call x) = grammar.an_import_call x
  freed grammar.an_import_meta = grammar.an_import_meta
  freed grammar.a_new_target = grammar.a_new_target
  freed (grammar.a_reference x y) = grammar.a_reference x y
  freed grammar.a_this = grammar.a_this
  freed grammar.a_null = grammar.a_null
  freed grammar.a_true = grammar.a_true
  freed grammar.a_false = grammar.a_false
  freed (grammar.a_number h) = grammar.a_number h
  freed (grammar.a_big_integer e) = grammar.a_big_integer e
  freed (grammar.a_string x) = grammar.a_string x
  freed (grammar.in_parentheses x) = grammar.in_parentheses x
  freed (grammar.an_optional_chain x) = grammar.an_optional_chain (freed_chain x)
  freed (grammar.an_array x) = grammar.an_array x
  freed (grammar.an_object x) = grammar.an_object x
  freed (grammar.a_function x) = grammar.a_function x
  freed (grammar.a_class x) = grammar.a_class x
  freed (grammar.an_arrow x) = grammar.an_arrow (freed_arrow x)
  freed (grammar.an_async_arrow l x) = grammar.an_async_arrow l (freed_arrow x)
  freed (grammar.an_await h x) = grammar.an_await h (freed x)
  freed (grammar.a_yield_alone h) = grammar.a_yield_alone h
  freed (grammar.a_yield h l x) = grammar.a_yield h l (freed x)
  freed (grammar.a_delegation h x) = grammar.a_delegation h (freed x)
  freed (grammar.a_private_member w mark next x y z) = grammar.a_private_member w mark next x y (freed z)
  freed (grammar.a_private_member_of_call w mark next x y z) = grammar.a_private_member_of_call w mark next x y (freed z)
  freed (grammar.a_private_test h x y) = grammar.a_private_test refl x (freed y)
  freed grammar.a_regular_expression = grammar.a_regular_expression
  freed (grammar.a_template x y) = grammar.a_template x y
  freed (grammar.a_tagged_template x y z) = grammar.a_tagged_template x y (freed z)
  freed (grammar.a_tagged_template_of_call x y z) = grammar.a_tagged_template_of_call x y (freed z)

  freed_arrow : {c : Allowed} {async : Bool} {ts : Tokens} {t : Tree} → ReadsArrow c async ts t → ReadsArrow (with_in c) async ts t
  freed_arrow (grammar.an_arrow_function x y z u) = grammar.an_arrow_function x y z (freed u)
  freed_arrow (grammar.an_arrow_with_body mark x y z) = grammar.an_arrow_with_body mark x y z

  freed_parts : {c : Allowed} {ts : Tokens} {us : Trees} → ReadsParts c ts us → ReadsParts (with_in c) ts us
  freed_parts (grammar.last_part r) = grammar.last_part (freed r)
  freed_parts (grammar.first_part mark e r s) = grammar.first_part mark e (freed r) (freed_parts s)

  freed_chain : {c : Allowed} {ts : Tokens} {t : Tree} → ReadsChain c ts t → ReadsChain (with_in c) ts t
  freed_chain (grammar.an_optional_named_member w mark next e x r) = grammar.an_optional_named_member w mark next e x (freed_base r)
  freed_chain (grammar.an_optional_computed_member mark next e r s) = grammar.an_optional_computed_member mark next e (freed_base r) s
  freed_chain (grammar.an_optional_call mark next e r s) = grammar.an_optional_call mark next e (freed_base r) s
  freed_chain (grammar.an_optional_private_member w mark next e x r) = grammar.an_optional_private_member w mark next e x (freed_base r)
  freed_chain (grammar.a_further_private_member w mark next e x r) = grammar.a_further_private_member w mark next e x (freed_chain r)
  freed_chain (grammar.a_further_named_member w mark next e x r) = grammar.a_further_named_member w mark next e x (freed_chain r)
  freed_chain (grammar.a_further_computed_member mark e r s) = grammar.a_further_computed_member mark e (freed_chain r) s
  freed_chain (grammar.a_further_call mark e r s) = grammar.a_further_call mark e (freed_chain r) s

  freed_base : {c : Allowed} {ts : Tokens} {t : Tree} → ReadsChainBase c ts t → ReadsChainBase (with_in c) ts t
  freed_base (grammar.a_first_link r) = grammar.a_first_link (freed r)
  freed_base (grammar.a_further_link r) = grammar.a_further_link (freed_chain r)

-- ---- parameters

pub freed_binding : {c : Allowed} {ts : Tokens} {b : Tree} → ReadsBinding c ts b → ReadsBinding (with_in c) ts b
freed_binding (grammar.a_bound_name e h) = grammar.a_bound_name e h
freed_binding (grammar.an_object_binding r) = grammar.an_object_binding r
freed_binding (grammar.an_array_binding r) = grammar.an_array_binding r

pub freed_parameter : {c : Allowed} {ts : Tokens} {t : Tree} → ReadsParameter c ts t → ReadsParameter (with_in c) ts t
freed_parameter (grammar.a_parameter r) = grammar.a_parameter (freed_binding r)
freed_parameter (grammar.with_initializer mark e r s) = grammar.with_initializer mark e (freed_binding r) (freed s)

pub freed_list : {c : Allowed} {ts : Tokens} {ps : Trees} {rest : Maybe} → ReadsParameters c ts ps rest → ReadsParameters (with_in c) ts ps rest
freed_list grammar.no_parameter = grammar.no_parameter
freed_list (grammar.last_parameter r) = grammar.last_parameter (freed_parameter r)
freed_list (grammar.first_parameter mark e r s) = grammar.first_parameter mark e (freed_parameter r) (freed_list s)
freed_list (grammar.a_rest r) = grammar.a_rest (freed_binding r)
