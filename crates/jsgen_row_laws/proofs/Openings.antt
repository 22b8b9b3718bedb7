-- What an expression begins with.
use Rattle.std.proofs.Common.{◌≡◌, ℕ, Bool, true, false, not, codes, List, bytes_eq, refl, sym, ap, subst}
use Rattle.std.proofs.lemmas.Bool.{both_ways}
use Rattle.jsgen_syntax.specs.declared.quote.Quote.{Quote}
use Rattle.jsgen_syntax.specs.declared.operator.BinaryOperator.{BinaryOperator}
use Rattle.jsgen_syntax.specs.declared.operator.BinaryOperator.TheVariants as operators
use Rattle.jsgen_syntax.specs.declared.operator.UnaryOperator.{UnaryOperator}
use Rattle.jsgen_syntax.specs.declared.operator.UnaryOperator.TheVariants as unary_operators
use Rattle.jsgen_syntax.specs.declared.operator.UpdateOperator.{UpdateOperator}
use Rattle.jsgen_syntax.specs.declared.operator.UpdateOperator.TheVariants as update_operators
use Rattle.jsgen_syntax.specs.declared.operator.AssignmentOperator.{AssignmentOperator}
use Rattle.jsgen_syntax.specs.declared.operator.AssignmentOperator.TheVariants as assignment_operators
use Rattle.jsgen_tree.specs.Tree.{Tree}
use Rattle.jsgen_tree.specs.declared.functions.FunctionKind.{FunctionKind}
use Rattle.jsgen_tree.specs.declared.classes.ClassKind.{ClassKind}
use Rattle.jsgen_model.specs.Punctuator.{dot, question_dot, comma, star_star, and_and, or_or, nullish, question, arrow, semicolon, equal, Round, Square}
use Rattle.jsgen_model.specs.Tokens.{Tokens, done, piece, group, ◌⧺◌, Word, Quoted, Sign}
use Rattle.jsgen_model.specs.Grammar.{Allowed, Level, ReadsExpression, ReadsFunction, ReadsClass, ReadsArrow, ReadsArrowParameters, ReadsChain, ReadsChainBase, ReadsPattern, ReadsTemplate, operator_piece, unary_piece, update_sign, assignment_sign, may_precede_of}
use Rattle.jsgen_model.specs.Grammar as grammar
use Rattle.jsgen_model.specs.Normal.{normal}
use Rattle.jsgen_row_laws.proofs.Good.{is_word_alone}
use Rattle.jsgen_row_laws.proofs.Names.{free_no_let}
use Rattle.jsgen_row_laws.proofs.Asked.{is_string}

-- no expression is without tokens, what is a string alone is read as one, and no word `let` begins one
abbrev pub Opens : Tokens → Tree → Type 0
Opens done t = ⊥
Opens (piece m (Quoted q w) done) t = is_string (normal t) ≡ true
Opens (piece m (Quoted q w) (piece n (Sign semicolon) ts)) t = ⊥
Opens (piece m (Word w) ts) t = bytes_eq w (codes "let") ≡ false
Opens ts t = Unit {0}

-- what may stand behind an operand: neither nothing nor a semicolon
abbrev Goes : Tokens → Type 0
Goes done = ⊥
Goes (piece m (Sign semicolon) ts) = ⊥
Goes ts = Unit {0}

quoted_goes : (m : Bool) (q : Quote) (w : List ℕ) (b : Tokens) (u : Tree) → Goes b → Opens (piece m (Quoted q w) b) u
quoted_goes m q w done u g = absurd g
quoted_goes m q w (piece n (Sign semicolon) ts) u g = absurd g
quoted_goes m q w b u g = tt

opens_more : (a b : Tokens) (t u : Tree) → Opens a t → Goes b → Opens (a ⧺ b) u
opens_more done b t u h g = absurd h
opens_more (piece m (Quoted q w) done) b t u h g = quoted_goes m q w b u g
opens_more (piece m (Quoted q w) (piece n (Sign semicolon) ts)) b t u h g = absurd h
opens_more (piece m (Word w) ts) b t u h g = h
opens_more a b t u h g = tt

operator_goes : (o : BinaryOperator) (m : Bool) (b : Tokens) → Goes (piece m (operator_piece o) b)
operator_goes operators.Equality m b = tt
operator_goes o m b = tt

opens_behind : (ts a b : Tokens) (t u : Tree) → ts ≡ a ⧺ b → Opens a t → Goes b → Opens ts u
opens_behind ts a b t u e h g = subst (λ x. Opens x u) (sym e) (opens_more a b t u h g)

unary_opens : (o : UnaryOperator) (m : Bool) (b : Tokens) (t : Tree) → Opens (piece m (unary_piece o) b) t
unary_opens unary_operators.Delete m b t = refl
unary_opens unary_operators.Void m b t = refl
unary_opens unary_operators.Typeof m b t = refl
unary_opens o m b t = tt

update_goes : (o : UpdateOperator) (m : Bool) (b : Tokens) → Goes (piece m (Sign (update_sign o)) b)
update_goes update_operators.Increment m b = tt
update_goes update_operators.Decrement m b = tt

assignment_goes : (o : AssignmentOperator) (m : Bool) (b : Tokens) → Goes (piece m (Sign (assignment_sign o)) b)
assignment_goes assignment_operators.Assign m b = tt
assignment_goes o m b = tt

parameters_open : {ts : Tokens} {t : Tree} → ReadsArrowParameters ts t → Opens ts t
parameters_open (grammar.a_parameter_name {w} {v} e h) = free_no_let w v e h
parameters_open (grammar.grouped_parameters r) = tt

arrow_opens : {c : Allowed} {async : Bool} {ts : Tokens} {t : Tree} → ReadsArrow c async ts t → Opens ts t
arrow_opens (grammar.an_arrow_with_body {a = a} {ps = ps} m e r s) = opens_behind _ a (piece false (Sign arrow) _) ps _ e (parameters_open r) tt
arrow_opens (grammar.an_arrow_function {a = a} {ps = ps} e r n s) = opens_behind _ a (piece false (Sign arrow) _) ps _ e (parameters_open r) tt

function_opens : {kind : FunctionKind} {nameless : Bool} {ts : Tokens} {t : Tree} → ReadsFunction kind nameless ts t → Opens ts t
function_opens (grammar.a_plain_function r) = refl
function_opens (grammar.a_generator r) = refl
function_opens (grammar.an_async_function r) = refl
function_opens (grammar.an_async_generator r) = refl

class_opens : {c : Allowed} {kind : ClassKind} {nameless : Bool} {ts : Tokens} {t : Tree} → ReadsClass c kind nameless ts t → Opens ts t
class_opens (grammar.a_named_class e h r) = refl
class_opens (grammar.a_nameless_class r) = refl

-- a template behind its tag begins with one of its tokens
template_goes : {c : Allowed} {ts : Tokens} {t : Tree} → ReadsTemplate c ts t → Goes ts
template_goes grammar.a_template_of_a_string = tt
template_goes grammar.a_whole_template = tt
template_goes (grammar.a_template_of_parts r) = tt

pattern_opens : {c : Allowed} {ts : Tokens} {t : Tree} → ReadsPattern c ts t → Opens ts t
pattern_opens (grammar.an_array_target r) = tt
pattern_opens (grammar.an_object_target r) = tt

-- what a chain begins with is what it goes on from
mutual
  pub opens : {c : Allowed} {g : Level} {ts : Tokens} {t : Tree} → ReadsExpression c g ts t → Opens ts t
  opens (grammar.an_assignment r) = opens r
  opens (grammar.a_sequence {a = a} {t = t} m e r s) = opens_behind _ a (piece m (Sign comma) _) t _ e (opens r) tt
  opens (grammar.an_assignment_to {a = a} {t = t} o m e r s w n) = opens_behind _ a (piece m (Sign (assignment_sign o)) _) t _ e (opens r) (assignment_goes o m _)
  opens (grammar.an_assignment_to_pattern {a = a} {t = t} m e r s) = opens_behind _ a (piece m (Sign equal) _) t _ e (pattern_opens r) tt
  opens (grammar.a_conditional r) = opens r
  opens (grammar.a_short_circuit r) = opens r
  opens (grammar.a_logical_or r) = opens r
  opens (grammar.a_logical_and r) = opens r
  opens (grammar.a_bit_or r) = opens r
  opens (grammar.a_bit_xor r) = opens r
  opens (grammar.a_bit_and r) = opens r
  opens (grammar.an_equality r) = opens r
  opens (grammar.a_relation r) = opens r
  opens (grammar.a_shift r) = opens r
  opens (grammar.an_additive r) = opens r
  opens (grammar.a_multiplicative r) = opens r
  opens (grammar.an_exponent r) = opens r
  opens (grammar.a_unary r) = opens r
  opens (grammar.an_update r) = opens r
  opens (grammar.a_left_hand_side r) = opens r
  opens (grammar.a_new r) = opens r
  opens (grammar.a_call r) = opens r
  opens (grammar.a_member r) = opens r
  opens (grammar.a_primary r) = opens r
  opens (grammar.a_called_member r) = opens r
  opens (grammar.a_called_call r) = opens r
  opens (grammar.a_coalesce r) = opens r
  opens (grammar.a_coalesced_head r) = opens r
  opens (grammar.a_bit_or_head r) = opens r
  opens (grammar.an_operation {a = a} {l = l} o m p q e r s) = opens_behind _ a (piece m (operator_piece o) _) l _ e (opens r) (operator_goes o m _)
  opens (grammar.a_power {a = a} {l = l} m e r s) = opens_behind _ a (piece m (Sign star_star) _) l _ e (opens r) tt
  opens (grammar.a_conjunction {a = a} {l = l} m e r s) = opens_behind _ a (piece m (Sign and_and) _) l _ e (opens r) tt
  opens (grammar.a_disjunction {a = a} {l = l} m e r s) = opens_behind _ a (piece m (Sign or_or) _) l _ e (opens r) tt
  opens (grammar.a_coalescing {a = a} {l = l} m e r s) = opens_behind _ a (piece m (Sign nullish) _) l _ e (opens r) tt
  opens (grammar.a_choice {a = a} {x = x} m n e r s t) = opens_behind _ a (piece m (Sign question) _) x _ e (opens r) tt
  opens (grammar.a_named_member {a = a} {o = o} w m n e v r) = opens_behind _ a (piece m (Sign dot) _) o _ e (opens r) tt
  opens (grammar.a_computed_member {a = a} {o = o} m e r s) = opens_behind _ a (group m Square _ done) o _ e (opens r) tt
  opens (grammar.with_arguments {a = a} {f = f} m e r s) = opens_behind _ a (group m Round _ done) f _ e (opens r) tt
  opens (grammar.a_named_member_of_call {a = a} {o = o} w m n e v r) = opens_behind _ a (piece m (Sign dot) _) o _ e (opens r) tt
  opens (grammar.a_computed_member_of_call {a = a} {o = o} m e r s) = opens_behind _ a (group m Square _ done) o _ e (opens r) tt
  opens (grammar.a_unary_operation {mark = m} o r) = unary_opens o m _ _
  opens (grammar.an_update_before o r s) = tt
  opens (grammar.an_update_behind {a = a} {t = t} o e r s) = opens_behind _ a (piece false (Sign (update_sign o)) done) t _ e (opens r) (update_goes o false done)
  opens (grammar.new_with_arguments m n e r s) = refl
  opens (grammar.new_alone r) = refl
  opens (grammar.a_named_member_of_super w m n l e) = refl
  opens (grammar.a_computed_member_of_super r) = refl
  opens (grammar.a_call_of_super r) = refl
  opens (grammar.an_import_call r) = refl
  opens grammar.an_import_meta = refl
  opens grammar.a_new_target = refl
  opens (grammar.a_reference {w} {v} e h) = free_no_let w v e h
  opens grammar.a_this = refl
  opens grammar.a_null = refl
  opens grammar.a_true = refl
  opens grammar.a_false = refl
  opens (grammar.a_number h) = tt
  opens (grammar.a_big_integer e) = tt
  opens (grammar.a_string e) = refl
  opens (grammar.in_parentheses r) = tt
  opens (grammar.an_optional_chain r) = chain_opens _ r
  opens (grammar.an_array r) = tt
  opens (grammar.an_object r) = tt
  opens (grammar.a_function r) = function_opens r
  opens (grammar.a_class r) = class_opens r
  opens (grammar.an_arrow r) = arrow_opens r
  opens (grammar.an_async_arrow l r) = refl
  opens (grammar.an_await h r) = refl
  opens (grammar.a_yield_alone h) = refl
  opens (grammar.a_yield h l r) = refl
  opens (grammar.a_delegation h r) = refl
  opens (grammar.a_private_member {a = a} {o = o} w m n e v r) = opens_behind _ a (piece m (Sign dot) _) o _ e (opens r) tt
  opens (grammar.a_private_member_of_call {a = a} {o = o} w m n e v r) = opens_behind _ a (piece m (Sign dot) _) o _ e (opens r) tt
  opens (grammar.a_private_test h e r) = tt
  opens grammar.a_regular_expression = tt
  opens (grammar.a_template e r) = tt
  opens (grammar.a_tagged_template {a = a} {o = o} e q r) = opens_behind _ a _ o _ e (opens r) (template_goes q)
  opens (grammar.a_tagged_template_of_call {a = a} {o = o} e q r) = opens_behind _ a _ o _ e (opens r) (template_goes q)

  chain_opens : {c : Allowed} {ts : Tokens} {t : Tree} (u : Tree) → ReadsChain c ts t → Opens ts u
  chain_opens u (grammar.an_optional_named_member {a = a} {o = o} w m n e v r) = opens_behind _ a (piece m (Sign question_dot) _) o _ e (base_opens r) tt
  chain_opens u (grammar.an_optional_computed_member {a = a} {o = o} m n e r s) = opens_behind _ a (piece m (Sign question_dot) _) o _ e (base_opens r) tt
  chain_opens u (grammar.an_optional_call {a = a} {f = f} m n e r s) = opens_behind _ a (piece m (Sign question_dot) _) f _ e (base_opens r) tt
  chain_opens u (grammar.an_optional_private_member {a = a} {o = o} w m n e v r) = opens_behind _ a (piece m (Sign question_dot) _) o _ e (base_opens r) tt
  chain_opens u (grammar.a_further_private_member {a = a} {o = o} w m n e v r) = opens_behind _ a (piece m (Sign dot) _) o _ e (chain_opens _ r) tt
  chain_opens u (grammar.a_further_named_member {a = a} {o = o} w m n e v r) = opens_behind _ a (piece m (Sign dot) _) o _ e (chain_opens _ r) tt
  chain_opens u (grammar.a_further_computed_member {a = a} {o = o} m e r s) = opens_behind _ a (group m Square _ done) o _ e (chain_opens _ r) tt
  chain_opens u (grammar.a_further_call {a = a} {f = f} m e r s) = opens_behind _ a (group m Round _ done) f _ e (chain_opens _ r) tt

  base_opens : {c : Allowed} {ts : Tokens} {t : Tree} → ReadsChainBase c ts t → Opens ts t
  base_opens (grammar.a_first_link r) = opens r
  base_opens (grammar.a_further_link r) = chain_opens _ r

-- ---- before `of`

-- what is more than one word may stand there
precedes : (ts : Tokens) (t : Tree) → Opens ts t → is_word_alone ts ≡ false → may_precede_of ts ≡ true
precedes (piece m (Word w) done) t h n = absurd (both_ways true n refl)
precedes (piece m (Word w) ts) t h n = ap not h
precedes ts t h n = refl

pub precedes_of : {c : Allowed} {g : Level} {ts : Tokens} {t : Tree} → ReadsExpression c g ts t → is_word_alone ts ≡ false → may_precede_of ts ≡ true
precedes_of {ts = ts} {t} r n = precedes ts t (opens r) n
