-- What is read as a left-hand side is read so whether `in` may stand outside or not: within it, it stands in brackets alone.
use Rattle.std.proofs.Common.{◌≡◌, Bool, true, false, refl, sym, ◌∙◌}
use Rattle.std.proofs.lemmas.Bool.{both_ways}
use Rattle.jsgen_syntax.specs.declared.operator.BinaryOperator.{BinaryOperator}
use Rattle.jsgen_syntax.specs.declared.operator.BinaryOperator.TheVariants as operators
use Rattle.jsgen_tree.specs.Tree.{Tree}
use Rattle.jsgen_model.specs.Tokens.{Tokens}
use Rattle.jsgen_model.specs.Grammar.{Allowed, Level, ReadsExpression, ReadsChain, ReadsChainBase, operation_level}
use Rattle.jsgen_model.specs.Grammar as grammar

-- the levels of left-hand sides
abbrev pub is_left_level : Level → Bool
is_left_level grammar.LeftHandSide = true
is_left_level grammar.New = true
is_left_level grammar.Callee = true
is_left_level grammar.Call = true
is_left_level grammar.Member = true
is_left_level grammar.Primary = true
is_left_level level = false

no_operation : (o : BinaryOperator) → is_left_level (operation_level o) ≡ false
no_operation operators.Equality = refl
no_operation o = refl

abbrev apart_from : Bool → Allowed → Allowed
apart_from b c = record c { in_operator = b }

loose : {A : Type 0} → false ≡ true → A
loose h = absurd (both_ways false refl h)

mutual
  pub confined : {c : Allowed} {g : Level} {ts : Tokens} {t : Tree} (b : Bool) → is_left_level g ≡ true → ReadsExpression c g ts t → ReadsExpression (apart_from b c) g ts t
  confined b low (grammar.an_assignment x) = loose low
  confined b low (grammar.a_sequence mark x y z) = loose low
  confined b low (grammar.a_conditional x) = loose low
  confined b low (grammar.an_assignment_to o mark x y z u v) = loose low
  confined b low (grammar.a_short_circuit x) = loose low
  confined b low (grammar.a_logical_or x) = loose low
  confined b low (grammar.a_logical_and x) = loose low
  confined b low (grammar.a_bit_or x) = loose low
  confined b low (grammar.a_bit_xor x) = loose low
  confined b low (grammar.a_bit_and x) = loose low
  confined b low (grammar.an_equality x) = loose low
  confined b low (grammar.a_relation x) = loose low
  confined b low (grammar.a_shift x) = loose low
  confined b low (grammar.an_additive x) = loose low
  confined b low (grammar.a_multiplicative x) = loose low
  confined b low (grammar.an_exponent x) = loose low
  confined b low (grammar.a_unary x) = loose low
  confined b low (grammar.an_update x) = loose low
  confined b low (grammar.a_left_hand_side x) = loose low
  confined b low (grammar.a_new x) = grammar.a_new (confined b refl x)
  confined b low (grammar.a_call x) = grammar.a_call (confined b refl x)
  confined b low (grammar.a_member x) = grammar.a_member (confined b refl x)
  confined b low (grammar.a_primary x) = grammar.a_primary (confined b refl x)
  confined b low (grammar.a_called_member x) = grammar.a_called_member (confined b refl x)
  confined b low (grammar.a_called_call x) = grammar.a_called_call (confined b refl x)
  confined b low (grammar.a_named_member w mark next x y z) = grammar.a_named_member w mark next x y (confined b refl z)
  confined b low (grammar.a_computed_member mark x y z) = grammar.a_computed_member mark x (confined b refl y) z
  confined b low (grammar.with_arguments mark x y z) = grammar.with_arguments mark x (confined b refl y) z
  confined b low (grammar.a_named_member_of_call w mark next x y z) = grammar.a_named_member_of_call w mark next x y (confined b refl z)
  confined b low (grammar.a_computed_member_of_call mark x y z) = grammar.a_computed_member_of_call mark x (confined b refl y) z
  confined b low (grammar.an_operation o mark x y z u v) = loose (sym (no_operation o) ∙ low)
  confined b low (grammar.a_power mark x y z) = loose low
  confined b low (grammar.a_conjunction mark x y z) = loose low
  confined b low (grammar.a_disjunction mark x y z) = loose low
  confined b low (grammar.a_coalesce x) = loose low
  confined b low (grammar.a_coalescing mark x y z) = loose low
  confined b low (grammar.a_coalesced_head x) = loose low
  confined b low (grammar.a_bit_or_head x) = loose low
  confined b low (grammar.a_choice mark next x y z u) = loose low
  confined b low (grammar.a_unary_operation o x) = loose low
  confined b low (grammar.an_update_before o x y) = loose low
  confined b low (grammar.an_update_behind o x y z) = loose low
  confined b low (grammar.new_with_arguments mark next x y z) = grammar.new_with_arguments mark next x (confined b refl y) z
  confined b low (grammar.new_alone x) = grammar.new_alone (confined b refl x)
  confined b low (grammar.a_named_member_of_super w mark next last x) = grammar.a_named_member_of_super w mark next last x
  confined b low (grammar.a_computed_member_of_super x) = grammar.a_computed_member_of_super x
  confined b low (grammar.a_call_of_super x) = grammar.a_call_of_super x
  confined b low grammar.a_new_target = grammar.a_new_target
  confined b low (grammar.a_reference x y) = grammar.a_reference x y
  confined b low grammar.a_this = grammar.a_this
  confined b low grammar.a_null = grammar.a_null
  confined b low grammar.a_true = grammar.a_true
  confined b low grammar.a_false = grammar.a_false
  confined b low (grammar.a_number h) = grammar.a_number h
  confined b low (grammar.a_big_integer e) = grammar.a_big_integer e
  confined b low (grammar.a_string x) = grammar.a_string x
  confined b low (grammar.in_parentheses x) = grammar.in_parentheses x
  confined b low (grammar.an_optional_chain x) = grammar.an_optional_chain (confined_chain b x)
  confined b low (grammar.an_array x) = grammar.an_array x
  confined b low (grammar.an_object x) = grammar.an_object x
  confined b low (grammar.a_function x) = grammar.a_function x
  confined b low (grammar.an_arrow x) = loose low
  confined b low (grammar.an_async_arrow h x) = loose low
  confined b low (grammar.a_yield_alone h) = loose low
  confined b low (grammar.a_yield h l x) = loose low
  confined b low (grammar.a_delegation h x) = loose low
  confined b low (grammar.an_await h x) = loose low
  confined b low (grammar.an_assignment_to_pattern mark x y z) = loose low
  confined b low (grammar.a_private_test h x y) = loose low
  confined b low (grammar.a_private_member w mark next x y z) = grammar.a_private_member w mark next x y (confined b refl z)
  confined b low (grammar.a_private_member_of_call w mark next x y z) = grammar.a_private_member_of_call w mark next x y (confined b refl z)
  confined b low (grammar.a_tagged_template x y z) = grammar.a_tagged_template x y (confined b refl z)
  confined b low (grammar.a_tagged_template_of_call x y z) = grammar.a_tagged_template_of_call x y (confined b refl z)
  confined b low (grammar.an_import_call x) = grammar.an_import_call x
  confined b low grammar.an_import_meta = grammar.an_import_meta
  confined b low grammar.a_regular_expression = grammar.a_regular_expression
  confined b low (grammar.a_template x y) = grammar.a_template x y
  confined b low (grammar.a_class x) = grammar.a_class x

  confined_chain : {c : Allowed} {ts : Tokens} {t : Tree} (b : Bool) → ReadsChain c ts t → ReadsChain (apart_from b c) ts t
  confined_chain b (grammar.an_optional_named_member w mark next e x r) = grammar.an_optional_named_member w mark next e x (confined_base b r)
  confined_chain b (grammar.an_optional_computed_member mark next e r s) = grammar.an_optional_computed_member mark next e (confined_base b r) s
  confined_chain b (grammar.an_optional_call mark next e r s) = grammar.an_optional_call mark next e (confined_base b r) s
  confined_chain b (grammar.a_further_named_member w mark next e x r) = grammar.a_further_named_member w mark next e x (confined_chain b r)
  confined_chain b (grammar.a_further_computed_member mark e r s) = grammar.a_further_computed_member mark e (confined_chain b r) s
  confined_chain b (grammar.a_further_call mark e r s) = grammar.a_further_call mark e (confined_chain b r) s
  confined_chain b (grammar.an_optional_private_member w mark next e x r) = grammar.an_optional_private_member w mark next e x (confined_base b r)
  confined_chain b (grammar.a_further_private_member w mark next e x r) = grammar.a_further_private_member w mark next e x (confined_chain b r)

  confined_base : {c : Allowed} {ts : Tokens} {t : Tree} (b : Bool) → ReadsChainBase c ts t → ReadsChainBase (apart_from b c) ts t
  confined_base b (grammar.a_first_link r) = grammar.a_first_link (confined b refl r)
  confined_base b (grammar.a_further_link r) = grammar.a_further_link (confined_chain b r)
