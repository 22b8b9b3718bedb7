-- Generated from tools/vectors/chosen.json; edit that and run tools/vectors/generate.
-- Expressions on several levels.
use Rattle.jsgen_tree.specs.Tree.{Tree}
use Rattle.jsgen_model.specs.Tokens.{Tokens}
use Rattle.jsgen_model.specs.Grammar.{Allowed, Assignment, LeftHandSide, Call, Member, Primary, Unary, ReadsExpression}
use Rattle.jsgen_model.specs.Grammar as grammar

pub primary_value : {c : Allowed} {ts : Tokens} {t : Tree} → ReadsExpression c Primary ts t → ReadsExpression c Assignment ts t
primary_value r = grammar.a_conditional (grammar.a_short_circuit (grammar.a_logical_or (grammar.a_logical_and (grammar.a_bit_or (grammar.a_bit_xor (grammar.a_bit_and (grammar.an_equality (grammar.a_relation (grammar.a_shift (grammar.an_additive (grammar.a_multiplicative (grammar.an_exponent (grammar.a_unary (grammar.an_update (grammar.a_left_hand_side (grammar.a_new (grammar.a_member (grammar.a_primary r))))))))))))))))))

pub member_value : {c : Allowed} {ts : Tokens} {t : Tree} → ReadsExpression c Member ts t → ReadsExpression c Assignment ts t
member_value r = grammar.a_conditional (grammar.a_short_circuit (grammar.a_logical_or (grammar.a_logical_and (grammar.a_bit_or (grammar.a_bit_xor (grammar.a_bit_and (grammar.an_equality (grammar.a_relation (grammar.a_shift (grammar.an_additive (grammar.a_multiplicative (grammar.an_exponent (grammar.a_unary (grammar.an_update (grammar.a_left_hand_side (grammar.a_new (grammar.a_member r)))))))))))))))))

pub call_value : {c : Allowed} {ts : Tokens} {t : Tree} → ReadsExpression c Call ts t → ReadsExpression c Assignment ts t
call_value r = grammar.a_conditional (grammar.a_short_circuit (grammar.a_logical_or (grammar.a_logical_and (grammar.a_bit_or (grammar.a_bit_xor (grammar.a_bit_and (grammar.an_equality (grammar.a_relation (grammar.a_shift (grammar.an_additive (grammar.a_multiplicative (grammar.an_exponent (grammar.a_unary (grammar.an_update (grammar.a_left_hand_side (grammar.a_call r))))))))))))))))

pub left_value : {c : Allowed} {ts : Tokens} {t : Tree} → ReadsExpression c LeftHandSide ts t → ReadsExpression c Assignment ts t
left_value r = grammar.a_conditional (grammar.a_short_circuit (grammar.a_logical_or (grammar.a_logical_and (grammar.a_bit_or (grammar.a_bit_xor (grammar.a_bit_and (grammar.an_equality (grammar.a_relation (grammar.a_shift (grammar.an_additive (grammar.a_multiplicative (grammar.an_exponent (grammar.a_unary (grammar.an_update (grammar.a_left_hand_side r)))))))))))))))

pub unary_value : {c : Allowed} {ts : Tokens} {t : Tree} → ReadsExpression c Unary ts t → ReadsExpression c Assignment ts t
unary_value r = grammar.a_conditional (grammar.a_short_circuit (grammar.a_logical_or (grammar.a_logical_and (grammar.a_bit_or (grammar.a_bit_xor (grammar.a_bit_and (grammar.an_equality (grammar.a_relation (grammar.a_shift (grammar.an_additive (grammar.a_multiplicative (grammar.an_exponent (grammar.a_unary r)))))))))))))

pub primary_left : {c : Allowed} {ts : Tokens} {t : Tree} → ReadsExpression c Primary ts t → ReadsExpression c LeftHandSide ts t
primary_left r = grammar.a_new (grammar.a_member (grammar.a_primary r))

pub member_left : {c : Allowed} {ts : Tokens} {t : Tree} → ReadsExpression c Member ts t → ReadsExpression c LeftHandSide ts t
member_left r = grammar.a_new (grammar.a_member r)

pub left_unary : {c : Allowed} {ts : Tokens} {t : Tree} → ReadsExpression c LeftHandSide ts t → ReadsExpression c Unary ts t
left_unary r = grammar.an_update (grammar.a_left_hand_side r)
