-- Generated from crates/jsgen_model/specs/Grammar.antt; edit tools/laws and run tools/laws/plainness.
-- What is read as a tree without private names, hashbangs, regular expressions and templates has plain tokens, production by production.
use Rattle.std.proofs.Common.{◌≡◌, ℕ, Bool, true, false, codes, List, refl, sym, subst}
use Rattle.std.proofs.lemmas.Bool.{and_from}
use Rattle.jsgen_tree.specs.declared.classes.ClassKind.{ClassKind}
use Rattle.jsgen_tree.specs.declared.collections.PropertyKind.{PropertyKind}
use Rattle.jsgen_tree.specs.declared.functions.FunctionKind.{FunctionKind}
use Rattle.jsgen_tree.specs.declared.statements.VariableDeclarationKind.{VariableDeclarationKind}
use Rattle.jsgen_tree.specs.Tree.{Tree, Trees, Maybe}
use Rattle.jsgen_model.specs.Punctuator.{comma, dot, semicolon, colon, question, question_dot, arrow, equal, star_star, and_and, or_or, nullish, Round, Square, Brace}
use Rattle.jsgen_model.specs.Tokens.{Tokens, done, piece, group, ◌⧺◌, Word, Sign, is_plain_piece, are_plain}
use Rattle.jsgen_model.specs.Grammar.{Allowed, Level, operator_piece, unary_piece, update_sign, assignment_sign, ReadsExpression, ReadsImported, ReadsFunction, ReadsFunctionAs, ReadsArrow, ReadsArrowParameters, ReadsParameters, ReadsParameter, ReadsParts, ReadsChain, ReadsChainBase, ReadsProperties, ReadsProperty, ReadsMethod, ReadsMethodAs, ReadsClass, ReadsClassTail, ReadsMembers, ReadsMember, ReadsField, ReadsFieldAs, ReadsMemberKey, ReadsKey, ReadsElements, ReadsArguments, ReadsArgumentList, ReadsElement, ReadsBinding, ReadsBindingElement, ReadsBindingElements, ReadsBindingProperty, ReadsBindingProperties, ReadsPattern, ReadsTarget, ReadsTargetElement, ReadsTargetElements, ReadsTargetProperties, ReadsTargetProperty, ReadsDeclarator, ReadsDeclarators, ReadsVariables, ReadsStatement, ReadsReturned, ReadsInit, ReadsPart, ReadsLeft, ReadsLabel, ReadsCases, ReadsCase, ReadsEndsOfTry, ReadsHandler, ReadsFinalizer, ReadsItem, ReadsStatements, ReadsBody, ReadsModuleName, ReadsAttribute, ReadsAttributes, ReadsSource, ReadsSpecifier, ReadsSpecifiers, ReadsNamedImports, ReadsImportClause, ReadsImport, ReadsExported, ReadsAllExported, ReadsDeclared, ReadsDefault, ReadsExport, ReadsModuleItem, ReadsModuleItems, ReadsModuleBody, ReadsModule}
use Rattle.jsgen_model.specs.Grammar as grammar
use Rattle.jsgen_token_laws.proofs.Plain.{plain_then}
use Rattle.jsgen_plain_laws.proofs.Free.{Free, FreeMaybe, FreeTrees}
use Rattle.jsgen_plain_laws.proofs.Pieces.{operator_plain, unary_plain, target_free, plain_end, no_pieces}

mutual
  pub plain_expression : {c : Allowed} {level : Level} {ts : Tokens} {t : Tree} → ReadsExpression c level ts t → Free t → are_plain ts ≡ true
  plain_expression (grammar.an_assignment r1) h1 = plain_expression r1 h1
  plain_expression (grammar.a_sequence {a = a} {b = b} mark r1 r2 r3) h1 = subst (λ tokens. are_plain tokens ≡ true) (sym r1) (plain_then a (piece mark (Sign comma) b) (plain_expression r2 h1.0.0) (plain_parts r3 h1.0.1))
  plain_expression (grammar.a_conditional r1) h1 = plain_expression r1 h1
  plain_expression (grammar.an_assignment_to {a = a} {b = b} {t = t} {u = u} o mark r1 r2 r3 r4 _) h1 = subst (λ tokens. are_plain tokens ≡ true) (sym r1) (plain_then a (piece mark (Sign (assignment_sign o)) b) (plain_expression r2 (target_free t u r3 h1.0)) (plain_expression r4 h1.1.0))
  plain_expression (grammar.an_assignment_to_pattern {a = a} {b = b} mark r1 r2 r3) h1 = subst (λ tokens. are_plain tokens ≡ true) (sym r1) (plain_then a (piece mark (Sign equal) b) (plain_pattern r2 h1.0) (plain_expression r3 h1.1.0))
  plain_expression (grammar.a_short_circuit r1) h1 = plain_expression r1 h1
  plain_expression (grammar.a_logical_or r1) h1 = plain_expression r1 h1
  plain_expression (grammar.a_logical_and r1) h1 = plain_expression r1 h1
  plain_expression (grammar.a_bit_or r1) h1 = plain_expression r1 h1
  plain_expression (grammar.a_bit_xor r1) h1 = plain_expression r1 h1
  plain_expression (grammar.a_bit_and r1) h1 = plain_expression r1 h1
  plain_expression (grammar.an_equality r1) h1 = plain_expression r1 h1
  plain_expression (grammar.a_relation r1) h1 = plain_expression r1 h1
  plain_expression (grammar.a_shift r1) h1 = plain_expression r1 h1
  plain_expression (grammar.an_additive r1) h1 = plain_expression r1 h1
  plain_expression (grammar.a_multiplicative r1) h1 = plain_expression r1 h1
  plain_expression (grammar.an_exponent r1) h1 = plain_expression r1 h1
  plain_expression (grammar.a_unary r1) h1 = plain_expression r1 h1
  plain_expression (grammar.an_update r1) h1 = plain_expression r1 h1
  plain_expression (grammar.a_left_hand_side r1) h1 = plain_expression r1 h1
  plain_expression (grammar.a_new r1) h1 = plain_expression r1 h1
  plain_expression (grammar.a_call r1) h1 = plain_expression r1 h1
  plain_expression (grammar.a_member r1) h1 = plain_expression r1 h1
  plain_expression (grammar.a_primary r1) h1 = plain_expression r1 h1
  plain_expression (grammar.a_called_member r1) h1 = plain_expression r1 h1
  plain_expression (grammar.a_called_call r1) h1 = plain_expression r1 h1
  plain_expression (grammar.a_named_member {a = a} w mark next r1 _ r3) h1 = subst (λ tokens. are_plain tokens ≡ true) (sym r1) (plain_then a (piece mark (Sign dot) (piece next (Word w) done)) (plain_expression r3 h1.0) refl)
  plain_expression (grammar.a_computed_member {a = a} {inside = inside} mark r1 r2 r3) h1 = subst (λ tokens. are_plain tokens ≡ true) (sym r1) (plain_then a (group mark Square inside done) (plain_expression r2 h1.0) (and_from (are_plain inside) (are_plain done) (plain_expression r3 h1.1.0) refl))
  plain_expression (grammar.with_arguments {a = a} {inside = inside} mark r1 r2 r3) h1 = subst (λ tokens. are_plain tokens ≡ true) (sym r1) (plain_then a (group mark Round inside done) (plain_expression r2 h1.0) (and_from (are_plain inside) (are_plain done) (plain_arguments r3 h1.1.0) refl))
  plain_expression (grammar.a_named_member_of_call {a = a} w mark next r1 _ r3) h1 = subst (λ tokens. are_plain tokens ≡ true) (sym r1) (plain_then a (piece mark (Sign dot) (piece next (Word w) done)) (plain_expression r3 h1.0) refl)
  plain_expression (grammar.a_computed_member_of_call {a = a} {inside = inside} mark r1 r2 r3) h1 = subst (λ tokens. are_plain tokens ≡ true) (sym r1) (plain_then a (group mark Square inside done) (plain_expression r2 h1.0) (and_from (are_plain inside) (are_plain done) (plain_expression r3 h1.1.0) refl))
  plain_expression (grammar.an_operation {a = a} {b = b} o mark _ _ r3 r4 r5) h1 = subst (λ tokens. are_plain tokens ≡ true) (sym r3) (plain_then a (piece mark (operator_piece o) b) (plain_expression r4 h1.0) (and_from (is_plain_piece (operator_piece o)) (are_plain b) (operator_plain o) (plain_expression r5 h1.1.0)))
  plain_expression (grammar.a_power {a = a} {b = b} mark r1 r2 r3) h1 = subst (λ tokens. are_plain tokens ≡ true) (sym r1) (plain_then a (piece mark (Sign star_star) b) (plain_expression r2 h1.0) (plain_expression r3 h1.1.0))
  plain_expression (grammar.a_conjunction {a = a} {b = b} mark r1 r2 r3) h1 = subst (λ tokens. are_plain tokens ≡ true) (sym r1) (plain_then a (piece mark (Sign and_and) b) (plain_expression r2 h1.0) (plain_expression r3 h1.1.0))
  plain_expression (grammar.a_disjunction {a = a} {b = b} mark r1 r2 r3) h1 = subst (λ tokens. are_plain tokens ≡ true) (sym r1) (plain_then a (piece mark (Sign or_or) b) (plain_expression r2 h1.0) (plain_expression r3 h1.1.0))
  plain_expression (grammar.a_coalesce r1) h1 = plain_expression r1 h1
  plain_expression (grammar.a_coalescing {a = a} {b = b} mark r1 r2 r3) h1 = subst (λ tokens. are_plain tokens ≡ true) (sym r1) (plain_then a (piece mark (Sign nullish) b) (plain_expression r2 h1.0) (plain_expression r3 h1.1.0))
  plain_expression (grammar.a_coalesced_head r1) h1 = plain_expression r1 h1
  plain_expression (grammar.a_bit_or_head r1) h1 = plain_expression r1 h1
  plain_expression (grammar.a_choice {a = a} {b = b} {d = d} mark next r1 r2 r3 r4) h1 = subst (λ tokens. are_plain tokens ≡ true) (sym r1) (plain_then a (piece mark (Sign question) (b ⧺ (piece next (Sign colon) d))) (plain_expression r2 h1.0) (plain_then b (piece next (Sign colon) d) (plain_expression r3 h1.1.0) (plain_expression r4 h1.1.1.0)))
  plain_expression (grammar.a_unary_operation {ts = ts} o r1) h1 = and_from (is_plain_piece (unary_piece o)) (are_plain ts) (unary_plain o) (plain_expression r1 h1.0)
  plain_expression (grammar.an_update_before {t = t} {u = u} _ r1 r2) h1 = plain_expression r1 (target_free t u r2 h1.0)
  plain_expression (grammar.an_update_behind {a = a} {t = t} {u = u} o r1 r2 r3) h1 = subst (λ tokens. are_plain tokens ≡ true) (sym r1) (plain_then a (piece false (Sign (update_sign o)) done) (plain_expression r2 (target_free t u r3 h1.0)) refl)
  plain_expression (grammar.new_with_arguments {a = a} {inside = inside} _ next r1 r2 r3) h1 = subst (λ tokens. are_plain tokens ≡ true) (sym r1) (plain_then a (group next Round inside done) (plain_expression r2 h1.0) (and_from (are_plain inside) (are_plain done) (plain_arguments r3 h1.1.0) refl))
  plain_expression (grammar.new_alone r1) h1 = plain_expression r1 h1.0
  plain_expression (grammar.a_named_member_of_super _ _ _ _ _) _ = refl
  plain_expression (grammar.a_computed_member_of_super {inside = inside} r1) h1 = and_from (are_plain inside) (are_plain done) (plain_expression r1 h1.1.0) refl
  plain_expression (grammar.a_call_of_super {inside = inside} r1) h1 = and_from (are_plain inside) (are_plain done) (plain_arguments r1 h1.1.0) refl
  plain_expression (grammar.a_private_member _ _ _ _ _ _) h1 = absurd h1.1.0
  plain_expression (grammar.a_private_member_of_call _ _ _ _ _ _) h1 = absurd h1.1.0
  plain_expression (grammar.a_private_test _ _ _) h1 = absurd h1.0
  plain_expression grammar.a_regular_expression h1 = absurd h1
  plain_expression (grammar.a_template {v = v} _ r2) h1 = absurd (no_pieces v r2 h1)
  plain_expression (grammar.a_tagged_template _ _ _) h1 = absurd h1
  plain_expression (grammar.a_tagged_template_of_call _ _ _) h1 = absurd h1
  plain_expression (grammar.an_import_call {inside = inside} r1) h1 = and_from (are_plain inside) (are_plain done) (plain_imported r1 h1.0 h1.1.0) refl
  plain_expression grammar.an_import_meta _ = refl
  plain_expression grammar.a_new_target _ = refl
  plain_expression (grammar.a_reference _ _) _ = refl
  plain_expression grammar.a_this _ = refl
  plain_expression grammar.a_null _ = refl
  plain_expression grammar.a_true _ = refl
  plain_expression grammar.a_false _ = refl
  plain_expression (grammar.a_number _) _ = refl
  plain_expression (grammar.a_big_integer _) _ = refl
  plain_expression (grammar.a_string _) _ = refl
  plain_expression (grammar.in_parentheses {ts = ts} r1) h1 = and_from (are_plain ts) (are_plain done) (plain_expression r1 h1.0) refl
  plain_expression (grammar.an_optional_chain r1) h1 = plain_chain r1 h1.0
  plain_expression (grammar.an_array {inside = inside} r1) h1 = and_from (are_plain inside) (are_plain done) (plain_elements r1 h1.0) refl
  plain_expression (grammar.an_object {inside = inside} r1) h1 = and_from (are_plain inside) (are_plain done) (plain_properties r1 h1.0) refl
  plain_expression (grammar.a_function r1) h1 = plain_function r1 h1
  plain_expression (grammar.a_class r1) h1 = plain_class r1 h1
  plain_expression (grammar.an_arrow r1) h1 = plain_arrow r1 h1
  plain_expression (grammar.an_async_arrow _ r2) h1 = plain_arrow r2 h1
  plain_expression (grammar.an_await _ r2) h1 = plain_expression r2 h1.0
  plain_expression (grammar.a_yield_alone _) _ = refl
  plain_expression (grammar.a_yield _ _ r3) h1 = plain_expression r3 h1.0
  plain_expression (grammar.a_delegation _ r2) h1 = plain_expression r2 h1.0

  pub plain_imported : {c : Allowed} {ts : Tokens} {t : Tree} {m : Maybe} → ReadsImported c ts t m → Free t → FreeMaybe m → are_plain ts ≡ true
  plain_imported (grammar.an_imported r1) h1 _ = plain_expression r1 h1
  plain_imported (grammar.an_imported_and_a_comma {a = a} mark r1 r2) h1 _ = subst (λ tokens. are_plain tokens ≡ true) (sym r1) (plain_then a (piece mark (Sign comma) done) (plain_expression r2 h1) refl)
  plain_imported (grammar.with_options {a = a} {b = b} mark r1 r2 r3) h1 h2 = subst (λ tokens. are_plain tokens ≡ true) (sym r1) (plain_then a (piece mark (Sign comma) b) (plain_expression r2 h1) (plain_expression r3 h2))
  plain_imported (grammar.with_options_and_a_comma {a = a} {b = b} mark next r1 r2 r3) h1 h2 = subst (λ tokens. are_plain tokens ≡ true) (sym r1) (plain_then a (piece mark (Sign comma) (b ⧺ (piece next (Sign comma) done))) (plain_expression r2 h1) (plain_then b (piece next (Sign comma) done) (plain_expression r3 h2) refl))

  pub plain_function : {kind : FunctionKind} {b : Bool} {ts : Tokens} {t : Tree} → ReadsFunction kind b ts t → Free t → are_plain ts ≡ true
  plain_function (grammar.a_plain_function r1) h1 = plain_function_as r1 h1
  plain_function (grammar.a_generator r1) h1 = plain_function_as r1 h1
  plain_function (grammar.an_async_function r1) h1 = plain_function_as r1 h1
  plain_function (grammar.an_async_generator r1) h1 = plain_function_as r1 h1

  pub plain_function_as : {kind : FunctionKind} {b1 : Bool} {b2 : Bool} {b3 : Bool} {ts : Tokens} {t : Tree} → ReadsFunctionAs kind b1 b2 b3 ts t → Free t → are_plain ts ≡ true
  plain_function_as (grammar.a_named_function {third = third} {head = head} {inside = inside} _ _ r3 r4) h1 = and_from (are_plain head) (are_plain (group third Brace inside done)) (plain_parameters r3 h1.1.0.0 h1.1.0.1.0) (and_from (are_plain inside) (are_plain done) (plain_body r4 h1.1.1.0.0 h1.1.1.0.1.0) refl)
  plain_function_as (grammar.a_nameless_function {third = third} {head = head} {inside = inside} r1 r2) h1 = and_from (are_plain head) (are_plain (group third Brace inside done)) (plain_parameters r1 h1.1.0.0 h1.1.0.1.0) (and_from (are_plain inside) (are_plain done) (plain_body r2 h1.1.1.0.0 h1.1.1.0.1.0) refl)

  pub plain_arrow : {c : Allowed} {b : Bool} {ts : Tokens} {t : Tree} → ReadsArrow c b ts t → Free t → are_plain ts ≡ true
  plain_arrow (grammar.an_arrow_function {a = a} {b = b} r1 r2 _ r4) h1 = subst (λ tokens. are_plain tokens ≡ true) (sym r1) (plain_then a (piece false (Sign arrow) b) (plain_arrow_parameters r2 h1.0) (plain_expression r4 h1.1.0))
  plain_arrow (grammar.an_arrow_with_body {a = a} {inside = inside} mark r1 r2 r3) h1 = subst (λ tokens. are_plain tokens ≡ true) (sym r1) (plain_then a (piece false (Sign arrow) (group mark Brace inside done)) (plain_arrow_parameters r2 h1.0) (and_from (are_plain inside) (are_plain done) (plain_body r3 h1.1.0.0 h1.1.0.1.0) refl))

  pub plain_arrow_parameters : {ts : Tokens} {t : Tree} → ReadsArrowParameters ts t → Free t → are_plain ts ≡ true
  plain_arrow_parameters (grammar.a_parameter_name _ _) _ = refl
  plain_arrow_parameters (grammar.grouped_parameters {inside = inside} r1) h1 = and_from (are_plain inside) (are_plain done) (plain_parameters r1 h1.0 h1.1.0) refl

  pub plain_parameters : {c : Allowed} {ts : Tokens} {us : Trees} {m : Maybe} → ReadsParameters c ts us m → FreeTrees us → FreeMaybe m → are_plain ts ≡ true
  plain_parameters grammar.no_parameter _ _ = refl
  plain_parameters (grammar.last_parameter r1) h1 _ = plain_parameter r1 h1.0
  plain_parameters (grammar.first_parameter {a = a} {b = b} mark r1 r2 r3) h1 h2 = subst (λ tokens. are_plain tokens ≡ true) (sym r1) (plain_then a (piece mark (Sign comma) b) (plain_parameter r2 h1.0) (plain_parameters r3 h1.1 h2))
  plain_parameters (grammar.a_rest r1) _ h2 = plain_binding r1 h2.0

  pub plain_parameter : {c : Allowed} {ts : Tokens} {t : Tree} → ReadsParameter c ts t → Free t → are_plain ts ≡ true
  plain_parameter (grammar.a_parameter r1) h1 = plain_binding r1 h1.0
  plain_parameter (grammar.with_initializer {a = a} {v = v} mark r1 r2 r3) h1 = subst (λ tokens. are_plain tokens ≡ true) (sym r1) (plain_then a (piece mark (Sign equal) v) (plain_binding r2 h1.0) (plain_expression r3 h1.1.0))

  pub plain_parts : {c : Allowed} {ts : Tokens} {us : Trees} → ReadsParts c ts us → FreeTrees us → are_plain ts ≡ true
  plain_parts (grammar.last_part r1) h1 = plain_expression r1 h1.0
  plain_parts (grammar.first_part {a = a} {b = b} mark r1 r2 r3) h1 = subst (λ tokens. are_plain tokens ≡ true) (sym r1) (plain_then a (piece mark (Sign comma) b) (plain_expression r2 h1.0) (plain_parts r3 h1.1))

  pub plain_chain : {c : Allowed} {ts : Tokens} {t : Tree} → ReadsChain c ts t → Free t → are_plain ts ≡ true
  plain_chain (grammar.an_optional_named_member {a = a} w mark next r1 _ r3) h1 = subst (λ tokens. are_plain tokens ≡ true) (sym r1) (plain_then a (piece mark (Sign question_dot) (piece next (Word w) done)) (plain_chain_base r3 h1.0) refl)
  plain_chain (grammar.an_optional_computed_member {a = a} {inside = inside} mark next r1 r2 r3) h1 = subst (λ tokens. are_plain tokens ≡ true) (sym r1) (plain_then a (piece mark (Sign question_dot) (group next Square inside done)) (plain_chain_base r2 h1.0) (and_from (are_plain inside) (are_plain done) (plain_expression r3 h1.1.0) refl))
  plain_chain (grammar.an_optional_call {a = a} {inside = inside} mark next r1 r2 r3) h1 = subst (λ tokens. are_plain tokens ≡ true) (sym r1) (plain_then a (piece mark (Sign question_dot) (group next Round inside done)) (plain_chain_base r2 h1.0) (and_from (are_plain inside) (are_plain done) (plain_arguments r3 h1.1.0) refl))
  plain_chain (grammar.an_optional_private_member _ _ _ _ _ _) h1 = absurd h1.1.0
  plain_chain (grammar.a_further_private_member _ _ _ _ _ _) h1 = absurd h1.1.0
  plain_chain (grammar.a_further_named_member {a = a} w mark next r1 _ r3) h1 = subst (λ tokens. are_plain tokens ≡ true) (sym r1) (plain_then a (piece mark (Sign dot) (piece next (Word w) done)) (plain_chain r3 h1.0) refl)
  plain_chain (grammar.a_further_computed_member {a = a} {inside = inside} mark r1 r2 r3) h1 = subst (λ tokens. are_plain tokens ≡ true) (sym r1) (plain_then a (group mark Square inside done) (plain_chain r2 h1.0) (and_from (are_plain inside) (are_plain done) (plain_expression r3 h1.1.0) refl))
  plain_chain (grammar.a_further_call {a = a} {inside = inside} mark r1 r2 r3) h1 = subst (λ tokens. are_plain tokens ≡ true) (sym r1) (plain_then a (group mark Round inside done) (plain_chain r2 h1.0) (and_from (are_plain inside) (are_plain done) (plain_arguments r3 h1.1.0) refl))

  pub plain_chain_base : {c : Allowed} {ts : Tokens} {t : Tree} → ReadsChainBase c ts t → Free t → are_plain ts ≡ true
  plain_chain_base (grammar.a_first_link r1) h1 = plain_expression r1 h1
  plain_chain_base (grammar.a_further_link r1) h1 = plain_chain r1 h1

  pub plain_properties : {c : Allowed} {ts : Tokens} {us : Trees} → ReadsProperties c ts us → FreeTrees us → are_plain ts ≡ true
  plain_properties grammar.no_property _ = refl
  plain_properties (grammar.last_property r1) h1 = plain_property r1 h1.0
  plain_properties (grammar.first_property {a = a} {b = b} mark r1 r2 r3) h1 = subst (λ tokens. are_plain tokens ≡ true) (sym r1) (plain_then a (piece mark (Sign comma) b) (plain_property r2 h1.0) (plain_properties r3 h1.1))

  pub plain_property : {c : Allowed} {ts : Tokens} {t : Tree} → ReadsProperty c ts t → Free t → are_plain ts ≡ true
  plain_property (grammar.a_shorthand _ _) _ = refl
  plain_property (grammar.a_property {a = a} {b = b} mark r1 r2 r3) h1 = subst (λ tokens. are_plain tokens ≡ true) (sym r1) (plain_then a (piece mark (Sign colon) b) (plain_key r2 h1.0) (plain_expression r3 h1.1.0))
  plain_property (grammar.a_method r1) h1 = plain_method r1 h1.0 h1.1.0
  plain_property (grammar.a_spread_property r1) h1 = plain_expression r1 h1.0

  pub plain_method : {c : Allowed} {b1 : Bool} {kind : PropertyKind} {b2 : Bool} {ts : Tokens} {t1 : Tree} {t2 : Tree} → ReadsMethod c b1 kind b2 ts t1 t2 → Free t1 → Free t2 → are_plain ts ≡ true
  plain_method (grammar.a_plain_method r1) h1 h2 = plain_method_as r1 h1 h2
  plain_method (grammar.a_generator_method r1) h1 h2 = plain_method_as r1 h1 h2
  plain_method (grammar.an_async_method _ r2) h1 h2 = plain_method_as r2 h1 h2
  plain_method (grammar.an_async_generator_method r1) h1 h2 = plain_method_as r1 h1 h2
  plain_method (grammar.a_getter {a = a} {inside = inside} next third r1 r2 r3) h1 h2 = subst (λ tokens. are_plain tokens ≡ true) (sym r1) (plain_then a (group next Round done (group third Brace inside done)) (plain_member_key r2 h1) (and_from (are_plain done) (are_plain (group third Brace inside done)) refl (and_from (are_plain inside) (are_plain done) (plain_body r3 h2.1.1.0.0 h2.1.1.0.1.0) refl)))
  plain_method (grammar.a_setter {a = a} {head = head} {inside = inside} next third r1 r2 r3 r4) h1 h2 = subst (λ tokens. are_plain tokens ≡ true) (sym r1) (plain_then a (group next Round head (group third Brace inside done)) (plain_member_key r2 h1) (and_from (are_plain head) (are_plain (group third Brace inside done)) (plain_parameter r3 h2.1.0.0.0) (and_from (are_plain inside) (are_plain done) (plain_body r4 h2.1.1.0.0 h2.1.1.0.1.0) refl)))

  pub plain_method_as : {c : Allowed} {b1 : Bool} {b2 : Bool} {b3 : Bool} {b4 : Bool} {ts : Tokens} {t1 : Tree} {t2 : Tree} → ReadsMethodAs c b1 b2 b3 b4 ts t1 t2 → Free t1 → Free t2 → are_plain ts ≡ true
  plain_method_as (grammar.a_method_behind_words {a = a} {head = head} {inside = inside} next third r1 r2 r3 r4) h1 h2 = subst (λ tokens. are_plain tokens ≡ true) (sym r1) (plain_then a (group next Round head (group third Brace inside done)) (plain_member_key r2 h1) (and_from (are_plain head) (are_plain (group third Brace inside done)) (plain_parameters r3 h2.1.0.0 h2.1.0.1.0) (and_from (are_plain inside) (are_plain done) (plain_body r4 h2.1.1.0.0 h2.1.1.0.1.0) refl)))

  pub plain_class : {c : Allowed} {kind : ClassKind} {b : Bool} {ts : Tokens} {t : Tree} → ReadsClass c kind b ts t → Free t → are_plain ts ≡ true
  plain_class (grammar.a_named_class _ _ r3) h1 = plain_class_tail r3 h1.1.0 h1.1.1.0.0
  plain_class (grammar.a_nameless_class r1) h1 = plain_class_tail r1 h1.1.0 h1.1.1.0.0

  pub plain_class_tail : {c : Allowed} {ts : Tokens} {m : Maybe} {us : Trees} → ReadsClassTail c ts m us → FreeMaybe m → FreeTrees us → are_plain ts ≡ true
  plain_class_tail (grammar.without_heritage {inside = inside} r1) _ h2 = and_from (are_plain inside) (are_plain done) (plain_members r1 h2) refl
  plain_class_tail (grammar.with_heritage {a = a} {inside = inside} next r1 r2 r3) h1 h2 = subst (λ tokens. are_plain tokens ≡ true) (sym r1) (plain_then a (group next Brace inside done) (plain_expression r2 h1) (and_from (are_plain inside) (are_plain done) (plain_members r3 h2) refl))

  pub plain_members : {c : Allowed} {ts : Tokens} {us : Trees} → ReadsMembers c ts us → FreeTrees us → are_plain ts ≡ true
  plain_members grammar.no_member _ = refl
  plain_members (grammar.a_semicolon_alone r1) h1 = plain_members r1 h1
  plain_members (grammar.a_last_field r1) h1 = plain_field r1 h1.0
  plain_members (grammar.a_first_field {a = a} {b = b} mark r1 r2 r3) h1 = subst (λ tokens. are_plain tokens ≡ true) (sym r1) (plain_then a (piece mark (Sign semicolon) b) (plain_field r2 h1.0) (plain_members r3 h1.1))
  plain_members (grammar.a_first_member {a = a} {b = b} r1 r2 r3) h1 = subst (λ tokens. are_plain tokens ≡ true) (sym r1) (plain_then a b (plain_member r2 h1.0) (plain_members r3 h1.1))

  pub plain_member : {c : Allowed} {ts : Tokens} {t : Tree} → ReadsMember c ts t → Free t → are_plain ts ≡ true
  plain_member (grammar.a_member_method r1) h1 = plain_method r1 h1.0 h1.1.0
  plain_member (grammar.a_static_method r1) h1 = plain_method r1 h1.0 h1.1.0
  plain_member (grammar.a_static_block {inside = inside} r1) h1 = and_from (are_plain inside) (are_plain done) (plain_statements r1 h1.0) refl

  pub plain_field : {c : Allowed} {ts : Tokens} {t : Tree} → ReadsField c ts t → Free t → are_plain ts ≡ true
  plain_field (grammar.a_field r1) h1 = plain_field_as r1 h1.0 h1.1.0
  plain_field (grammar.a_static_field r1) h1 = plain_field_as r1 h1.0 h1.1.0

  pub plain_field_as : {c : Allowed} {b : Bool} {ts : Tokens} {t : Tree} {m : Maybe} → ReadsFieldAs c b ts t m → Free t → FreeMaybe m → are_plain ts ≡ true
  plain_field_as (grammar.a_field_alone r1) h1 _ = plain_member_key r1 h1
  plain_field_as (grammar.a_field_with_value {a = a} {b = b} mark r1 r2 r3) h1 h2 = subst (λ tokens. are_plain tokens ≡ true) (sym r1) (plain_then a (piece mark (Sign equal) b) (plain_member_key r2 h1) (plain_expression r3 h2))

  pub plain_member_key : {c : Allowed} {b1 : Bool} {b2 : Bool} {ts : Tokens} {t : Tree} → ReadsMemberKey c b1 b2 ts t → Free t → are_plain ts ≡ true
  plain_member_key (grammar.a_public_key r1) h1 = plain_key r1 h1
  plain_member_key (grammar.a_private_key _) h1 = absurd h1

  pub plain_key : {c : Allowed} {b : Bool} {ts : Tokens} {t : Tree} → ReadsKey c b ts t → Free t → are_plain ts ≡ true
  plain_key (grammar.a_name_key _) _ = refl
  plain_key (grammar.a_string_key _ _) _ = refl
  plain_key (grammar.a_number_key _) _ = refl
  plain_key (grammar.a_big_integer_key _) _ = refl
  plain_key (grammar.a_computed_key {inside = inside} r1) h1 = and_from (are_plain inside) (are_plain done) (plain_expression r1 h1) refl

  pub plain_elements : {c : Allowed} {ts : Tokens} {us : Trees} → ReadsElements c ts us → FreeTrees us → are_plain ts ≡ true
  plain_elements grammar.no_element _ = refl
  plain_elements (grammar.last_element r1) h1 = plain_element r1 h1.0
  plain_elements (grammar.first_element {a = a} {b = b} mark r1 r2 r3) h1 = subst (λ tokens. are_plain tokens ≡ true) (sym r1) (plain_then a (piece mark (Sign comma) b) (plain_element r2 h1.0) (plain_elements r3 h1.1))
  plain_elements (grammar.an_elision r1) h1 = plain_elements r1 h1

  pub plain_arguments : {c : Allowed} {ts : Tokens} {us : Trees} → ReadsArguments c ts us → FreeTrees us → are_plain ts ≡ true
  plain_arguments grammar.no_argument _ = refl
  plain_arguments (grammar.some_arguments r1) h1 = plain_argument_list r1 h1
  plain_arguments (grammar.with_last_comma {a = a} mark r1 r2) h1 = subst (λ tokens. are_plain tokens ≡ true) (sym r1) (plain_then a (piece mark (Sign comma) done) (plain_argument_list r2 h1) refl)

  pub plain_argument_list : {c : Allowed} {ts : Tokens} {us : Trees} → ReadsArgumentList c ts us → FreeTrees us → are_plain ts ≡ true
  plain_argument_list (grammar.last_argument r1) h1 = plain_element r1 h1.0
  plain_argument_list (grammar.first_argument {a = a} {b = b} mark r1 r2 r3) h1 = subst (λ tokens. are_plain tokens ≡ true) (sym r1) (plain_then a (piece mark (Sign comma) b) (plain_element r2 h1.0) (plain_argument_list r3 h1.1))

  pub plain_element : {c : Allowed} {ts : Tokens} {t : Tree} → ReadsElement c ts t → Free t → are_plain ts ≡ true
  plain_element (grammar.an_element r1) h1 = plain_expression r1 h1
  plain_element (grammar.a_spread r1) h1 = plain_expression r1 h1.0

  pub plain_binding : {c : Allowed} {ts : Tokens} {t : Tree} → ReadsBinding c ts t → Free t → are_plain ts ≡ true
  plain_binding (grammar.a_bound_name _ _) _ = refl
  plain_binding (grammar.an_object_binding {inside = inside} r1) h1 = and_from (are_plain inside) (are_plain done) (plain_binding_properties r1 h1.0 h1.1.0) refl
  plain_binding (grammar.an_array_binding {inside = inside} r1) h1 = and_from (are_plain inside) (are_plain done) (plain_binding_elements r1 h1.0 h1.1.0) refl

  pub plain_binding_element : {c : Allowed} {ts : Tokens} {t : Tree} → ReadsBindingElement c ts t → Free t → are_plain ts ≡ true
  plain_binding_element (grammar.a_binding_alone r1) h1 = plain_binding r1 h1
  plain_binding_element (grammar.a_binding_with_default {a = a} {v = v} mark r1 r2 r3) h1 = subst (λ tokens. are_plain tokens ≡ true) (sym r1) (plain_then a (piece mark (Sign equal) v) (plain_binding r2 h1.0) (plain_expression r3 h1.1.0))

  pub plain_binding_elements : {c : Allowed} {ts : Tokens} {us : Trees} {m : Maybe} → ReadsBindingElements c ts us m → FreeTrees us → FreeMaybe m → are_plain ts ≡ true
  plain_binding_elements grammar.no_binding_element _ _ = refl
  plain_binding_elements (grammar.last_binding_element r1) h1 _ = plain_binding_element r1 h1.0
  plain_binding_elements (grammar.first_binding_element {a = a} {b = b} mark r1 r2 r3) h1 h2 = subst (λ tokens. are_plain tokens ≡ true) (sym r1) (plain_then a (piece mark (Sign comma) b) (plain_binding_element r2 h1.0) (plain_binding_elements r3 h1.1 h2))
  plain_binding_elements (grammar.a_binding_elision r1) h1 h2 = plain_binding_elements r1 h1 h2
  plain_binding_elements (grammar.a_binding_rest r1) _ h2 = plain_binding r1 h2.0

  pub plain_binding_property : {c : Allowed} {ts : Tokens} {t : Tree} → ReadsBindingProperty c ts t → Free t → are_plain ts ≡ true
  plain_binding_property (grammar.a_bound_shorthand _ _) _ = refl
  plain_binding_property (grammar.a_bound_shorthand_with_default _ _ r3) h1 = plain_expression r3 h1.1.0.1.0
  plain_binding_property (grammar.a_bound_property {a = a} {b = b} mark r1 r2 r3) h1 = subst (λ tokens. are_plain tokens ≡ true) (sym r1) (plain_then a (piece mark (Sign colon) b) (plain_key r2 h1.0) (plain_binding_element r3 h1.1.0))

  pub plain_binding_properties : {c : Allowed} {ts : Tokens} {us : Trees} {m : Maybe} → ReadsBindingProperties c ts us m → FreeTrees us → FreeMaybe m → are_plain ts ≡ true
  plain_binding_properties grammar.no_binding_property _ _ = refl
  plain_binding_properties (grammar.last_binding_property r1) h1 _ = plain_binding_property r1 h1.0
  plain_binding_properties (grammar.first_binding_property {a = a} {b = b} mark r1 r2 r3) h1 h2 = subst (λ tokens. are_plain tokens ≡ true) (sym r1) (plain_then a (piece mark (Sign comma) b) (plain_binding_property r2 h1.0) (plain_binding_properties r3 h1.1 h2))
  plain_binding_properties (grammar.a_binding_rest_property _ _) _ _ = refl

  pub plain_pattern : {c : Allowed} {ts : Tokens} {t : Tree} → ReadsPattern c ts t → Free t → are_plain ts ≡ true
  plain_pattern (grammar.an_array_target {inside = inside} r1) h1 = and_from (are_plain inside) (are_plain done) (plain_target_elements r1 h1.0 h1.1.0) refl
  plain_pattern (grammar.an_object_target {inside = inside} r1) h1 = and_from (are_plain inside) (are_plain done) (plain_target_properties r1 h1.0 h1.1.0) refl

  pub plain_target : {c : Allowed} {ts : Tokens} {t : Tree} → ReadsTarget c ts t → Free t → are_plain ts ≡ true
  plain_target (grammar.a_simple_target {t = t} {u = u} r1 r2) h1 = plain_expression r1 (target_free t u r2 h1)
  plain_target (grammar.a_target_pattern r1) h1 = plain_pattern r1 h1

  pub plain_target_element : {c : Allowed} {ts : Tokens} {t : Tree} → ReadsTargetElement c ts t → Free t → are_plain ts ≡ true
  plain_target_element (grammar.a_target_alone r1) h1 = plain_target r1 h1
  plain_target_element (grammar.a_target_with_default {a = a} {b = b} {t = t} {u = u} mark r1 r2 r3 r4 _) h1 = subst (λ tokens. are_plain tokens ≡ true) (sym r1) (plain_then a (piece mark (Sign equal) b) (plain_expression r2 (target_free t u r3 h1.0)) (plain_expression r4 h1.1.0))
  plain_target_element (grammar.a_pattern_with_default {a = a} {b = b} mark r1 r2 r3) h1 = subst (λ tokens. are_plain tokens ≡ true) (sym r1) (plain_then a (piece mark (Sign equal) b) (plain_pattern r2 h1.0) (plain_expression r3 h1.1.0))

  pub plain_target_elements : {c : Allowed} {ts : Tokens} {us : Trees} {m : Maybe} → ReadsTargetElements c ts us m → FreeTrees us → FreeMaybe m → are_plain ts ≡ true
  plain_target_elements grammar.no_target_element _ _ = refl
  plain_target_elements (grammar.last_target_element r1) h1 _ = plain_target_element r1 h1.0
  plain_target_elements (grammar.first_target_element {a = a} {b = b} mark r1 r2 r3) h1 h2 = subst (λ tokens. are_plain tokens ≡ true) (sym r1) (plain_then a (piece mark (Sign comma) b) (plain_target_element r2 h1.0) (plain_target_elements r3 h1.1 h2))
  plain_target_elements (grammar.a_target_elision r1) h1 h2 = plain_target_elements r1 h1 h2
  plain_target_elements (grammar.a_target_rest r1) _ h2 = plain_target r1 h2.0

  pub plain_target_properties : {c : Allowed} {ts : Tokens} {us : Trees} {m : Maybe} → ReadsTargetProperties c ts us m → FreeTrees us → FreeMaybe m → are_plain ts ≡ true
  plain_target_properties grammar.no_target_property _ _ = refl
  plain_target_properties (grammar.last_target_property r1) h1 _ = plain_target_property r1 h1.0
  plain_target_properties (grammar.first_target_property {a = a} {b = b} mark r1 r2 r3) h1 h2 = subst (λ tokens. are_plain tokens ≡ true) (sym r1) (plain_then a (piece mark (Sign comma) b) (plain_target_property r2 h1.0) (plain_target_properties r3 h1.1 h2))
  plain_target_properties (grammar.a_target_rest_property {t = t} {u = u} r1 r2) _ h2 = plain_expression r1 (target_free t u r2 h2.0)

  pub plain_target_property : {c : Allowed} {ts : Tokens} {t : Tree} → ReadsTargetProperty c ts t → Free t → are_plain ts ≡ true
  plain_target_property (grammar.a_target_shorthand _ _) _ = refl
  plain_target_property (grammar.a_target_shorthand_with_default _ _ r3) h1 = plain_expression r3 h1.1.0.1.0
  plain_target_property (grammar.a_target_property {a = a} {b = b} mark r1 r2 r3) h1 = subst (λ tokens. are_plain tokens ≡ true) (sym r1) (plain_then a (piece mark (Sign colon) b) (plain_key r2 h1.0) (plain_target_element r3 h1.1.0))

  pub plain_declarator : {c : Allowed} {ts : Tokens} {t : Tree} → ReadsDeclarator c ts t → Free t → are_plain ts ≡ true
  plain_declarator (grammar.without_value _ _) _ = refl
  plain_declarator (grammar.with_value {a = a} {v = v} mark r1 r2 r3) h1 = subst (λ tokens. are_plain tokens ≡ true) (sym r1) (plain_then a (piece mark (Sign equal) v) (plain_binding r2 h1.0) (plain_expression r3 h1.1.0))

  pub plain_declarators : {c : Allowed} {ts : Tokens} {us : Trees} → ReadsDeclarators c ts us → FreeTrees us → are_plain ts ≡ true
  plain_declarators (grammar.last_declarator r1) h1 = plain_declarator r1 h1.0
  plain_declarators (grammar.first_declarator {a = a} {b = b} mark r1 r2 r3) h1 = subst (λ tokens. are_plain tokens ≡ true) (sym r1) (plain_then a (piece mark (Sign comma) b) (plain_declarator r2 h1.0) (plain_declarators r3 h1.1))

  pub plain_variables : {c : Allowed} {kind : VariableDeclarationKind} {ts : Tokens} {t : Tree} → ReadsVariables c kind ts t → Free t → are_plain ts ≡ true
  plain_variables (grammar.some_variables r1) h1 = plain_declarators r1 h1.0

  pub plain_statement : {c : Allowed} {b1 : Bool} {b2 : Bool} {ts : Tokens} {t : Tree} → ReadsStatement c b1 b2 ts t → Free t → are_plain ts ≡ true
  plain_statement (grammar.an_expression_statement r1 _ r3) h1 = plain_end r1 (plain_expression r3 h1.0)
  plain_statement grammar.an_empty_statement _ = refl
  plain_statement (grammar.a_block {inside = inside} r1) h1 = and_from (are_plain inside) (are_plain done) (plain_statements r1 h1.0) refl
  plain_statement (grammar.an_if {test = test} {ts = ts} r1 r2) h1 = and_from (are_plain test) (are_plain ts) (plain_expression r1 h1.0) (plain_statement r2 h1.1.0)
  plain_statement (grammar.an_if_with_else {test = test} {ts = ts} {a = a} {b = b} k r1 r2 r3 r4) h1 = and_from (are_plain test) (are_plain ts) (plain_expression r2 h1.0) (subst (λ tokens. are_plain tokens ≡ true) (sym r1) (plain_then a (piece k (Word (codes "else")) b) (plain_statement r3 h1.1.0) (plain_statement r4 h1.1.1.0)))
  plain_statement (grammar.a_variable_statement r1 r2) h1 = plain_end r1 (plain_variables r2 h1)
  plain_statement (grammar.a_for {head = head} {a = a} {b = b} {d = d} {ts = ts} k l r1 r2 r3 r4 r5) h1 = and_from (are_plain head) (are_plain ts) (subst (λ tokens. are_plain tokens ≡ true) (sym r1) (plain_then a (piece k (Sign semicolon) (b ⧺ (piece l (Sign semicolon) d))) (plain_init r2 h1.0) (plain_then b (piece l (Sign semicolon) d) (plain_part r3 h1.1.0) (plain_part r4 h1.1.1.0)))) (plain_statement r5 h1.1.1.1.0)
  plain_statement (grammar.a_for_in {head = head} {a = a} {b = b} {ts = ts} k r1 r2 r3 r4) h1 = and_from (are_plain head) (are_plain ts) (subst (λ tokens. are_plain tokens ≡ true) (sym r1) (plain_then a (piece k (Word (codes "in")) b) (plain_left r2 h1.0) (plain_expression r3 h1.1.0))) (plain_statement r4 h1.1.1.0)
  plain_statement (grammar.a_for_of {head = head} {a = a} {b = b} {ts = ts} k r1 r2 r3 r4) h1 = and_from (are_plain head) (are_plain ts) (subst (λ tokens. are_plain tokens ≡ true) (sym r1) (plain_then a (piece k (Word (codes "of")) b) (plain_left r2 h1.0) (plain_expression r3 h1.1.0))) (plain_statement r4 h1.1.1.0)
  plain_statement (grammar.a_for_await {head = head} {a = a} {b = b} {ts = ts} k _ r2 r3 r4 r5) h1 = and_from (are_plain head) (are_plain ts) (subst (λ tokens. are_plain tokens ≡ true) (sym r2) (plain_then a (piece k (Word (codes "of")) b) (plain_left r3 h1.0) (plain_expression r4 h1.1.0))) (plain_statement r5 h1.1.1.0)
  plain_statement (grammar.a_while {test = test} {ts = ts} r1 r2) h1 = and_from (are_plain test) (are_plain ts) (plain_expression r1 h1.0) (plain_statement r2 h1.1.0)
  plain_statement (grammar.a_do_while {b = b} {test = test} k next r1 r2 r3 r4) h1 = plain_end r1 (subst (λ tokens. are_plain tokens ≡ true) (sym r2) (plain_then b (piece k (Word (codes "while")) (group next Round test done)) (plain_statement r3 h1.0) (and_from (are_plain test) (are_plain done) (plain_expression r4 h1.1.0) refl)))
  plain_statement (grammar.a_labelled_statement _ _ r3) h1 = plain_statement r3 h1.1.0
  plain_statement (grammar.a_continue r1 r2) h1 = plain_end r1 (plain_label r2 h1.0)
  plain_statement (grammar.a_break r1 r2) h1 = plain_end r1 (plain_label r2 h1.0)
  plain_statement (grammar.a_throw r1 _ r3) h1 = plain_end r1 (plain_expression r3 h1.0)
  plain_statement (grammar.a_debugger r1) _ = plain_end r1 refl
  plain_statement (grammar.a_switch {third = third} {head = head} {inside = inside} r1 r2) h1 = and_from (are_plain head) (are_plain (group third Brace inside done)) (plain_expression r1 h1.0) (and_from (are_plain inside) (are_plain done) (plain_cases r2 h1.1.0) refl)
  plain_statement (grammar.a_try {inside = inside} {ts = ts} r1 r2) h1 = and_from (are_plain inside) (are_plain ts) (plain_statements r1 h1.0.0) (plain_ends_of_try r2 h1.1.0 h1.1.1.0)
  plain_statement (grammar.a_return _ r2 r3) h1 = plain_end r2 (plain_returned r3 h1.0)

  pub plain_returned : {c : Allowed} {ts : Tokens} {m : Maybe} → ReadsReturned c ts m → FreeMaybe m → are_plain ts ≡ true
  plain_returned grammar.nothing_returned _ = refl
  plain_returned (grammar.a_returned_value _ r2) h1 = plain_expression r2 h1

  pub plain_init : {c : Allowed} {ts : Tokens} {m : Maybe} → ReadsInit c ts m → FreeMaybe m → are_plain ts ≡ true
  plain_init grammar.no_init _ = refl
  plain_init (grammar.first_variables _ r1) h1 = plain_variables r1 h1
  plain_init (grammar.first_expression r1) h1 = plain_expression r1 h1

  pub plain_part : {c : Allowed} {ts : Tokens} {m : Maybe} → ReadsPart c ts m → FreeMaybe m → are_plain ts ≡ true
  plain_part grammar.nothing_there _ = refl
  plain_part (grammar.an_expression_there r1) h1 = plain_expression r1 h1

  pub plain_left : {c : Allowed} {b : Bool} {ts : Tokens} {t : Tree} → ReadsLeft c b ts t → Free t → are_plain ts ≡ true
  plain_left (grammar.a_declared_name _ r1) h1 = plain_binding r1 h1.0.0.0
  plain_left (grammar.a_target {t = t} {u = u} _ r2 r3) h1 = plain_expression r2 (target_free t u r3 h1)
  plain_left (grammar.a_left_pattern r1) h1 = plain_pattern r1 h1

  pub plain_label : {ts : Tokens} {m : Maybe} → ReadsLabel ts m → FreeMaybe m → are_plain ts ≡ true
  plain_label grammar.no_label _ = refl
  plain_label (grammar.a_label _ _) _ = refl

  pub plain_cases : {c : Allowed} {b : Bool} {ts : Tokens} {us : Trees} → ReadsCases c b ts us → FreeTrees us → are_plain ts ≡ true
  plain_cases grammar.no_case _ = refl
  plain_cases (grammar.last_case r1) h1 = plain_case r1 h1.0
  plain_cases (grammar.first_case {a = a} {b = b} r1 r2 r3) h1 = subst (λ tokens. are_plain tokens ≡ true) (sym r1) (plain_then a b (plain_case r2 h1.0) (plain_cases r3 h1.1))

  pub plain_case : {c : Allowed} {b1 : Bool} {b2 : Bool} {b3 : Bool} {ts : Tokens} {t : Tree} → ReadsCase c b1 b2 b3 ts t → Free t → are_plain ts ≡ true
  plain_case (grammar.a_case {a = a} {b = b} k r1 r2 r3) h1 = subst (λ tokens. are_plain tokens ≡ true) (sym r1) (plain_then a (piece k (Sign colon) b) (plain_expression r2 h1.0) (plain_statements r3 h1.1.0))
  plain_case (grammar.a_default r1) h1 = plain_statements r1 h1.1.0

  pub plain_ends_of_try : {c : Allowed} {ts : Tokens} {m1 : Maybe} {m2 : Maybe} → ReadsEndsOfTry c ts m1 m2 → FreeMaybe m1 → FreeMaybe m2 → are_plain ts ≡ true
  plain_ends_of_try (grammar.a_handler r1) h1 _ = plain_handler r1 h1
  plain_ends_of_try (grammar.a_finalizer r1) _ h2 = plain_finalizer r1 h2
  plain_ends_of_try (grammar.a_handler_and_a_finalizer {a = a} {b = b} r1 r2 r3) h1 h2 = subst (λ tokens. are_plain tokens ≡ true) (sym r1) (plain_then a b (plain_handler r2 h1) (plain_finalizer r3 h2))

  pub plain_handler : {c : Allowed} {ts : Tokens} {t : Tree} → ReadsHandler c ts t → Free t → are_plain ts ≡ true
  plain_handler (grammar.a_catch {inside = inside} r1) h1 = and_from (are_plain inside) (are_plain done) (plain_statements r1 h1.1.0.0) refl
  plain_handler (grammar.a_catch_by_name {third = third} {name = name} {inside = inside} r1 r2) h1 = and_from (are_plain name) (are_plain (group third Brace inside done)) (plain_binding r1 h1.0) (and_from (are_plain inside) (are_plain done) (plain_statements r2 h1.1.0.0) refl)

  pub plain_finalizer : {c : Allowed} {ts : Tokens} {t : Tree} → ReadsFinalizer c ts t → Free t → are_plain ts ≡ true
  plain_finalizer (grammar.a_finally {inside = inside} r1) h1 = and_from (are_plain inside) (are_plain done) (plain_statements r1 h1.0) refl

  pub plain_item : {c : Allowed} {b : Bool} {ts : Tokens} {t : Tree} → ReadsItem c b ts t → Free t → are_plain ts ≡ true
  plain_item (grammar.a_statement r1) h1 = plain_statement r1 h1
  plain_item (grammar.a_function_declaration r1) h1 = plain_function r1 h1
  plain_item (grammar.a_class_declaration r1) h1 = plain_class r1 h1
  plain_item (grammar.a_declaration _ _ r2 r3) h1 = plain_end r2 (plain_variables r3 h1)

  pub plain_statements : {c : Allowed} {b : Bool} {ts : Tokens} {us : Trees} → ReadsStatements c b ts us → FreeTrees us → are_plain ts ≡ true
  plain_statements grammar.no_statement _ = refl
  plain_statements (grammar.last_statement r1) h1 = plain_item r1 h1.0
  plain_statements (grammar.first_statement {a = a} {b = b} r1 r2 r3) h1 = subst (λ tokens. are_plain tokens ≡ true) (sym r1) (plain_then a b (plain_item r2 h1.0) (plain_statements r3 h1.1))

  pub plain_body : {c : Allowed} {b : Bool} {ts : Tokens} {us1 : Trees} {us2 : Trees} → ReadsBody c b ts us1 us2 → FreeTrees us1 → FreeTrees us2 → are_plain ts ≡ true
  plain_body (grammar.a_directive _ _ r3) h1 h2 = plain_body r3 h1.1 h2
  plain_body (grammar.a_last_directive _ _) _ _ = refl
  plain_body (grammar.statements _ r2) _ h2 = plain_statements r2 h2

-- ---- modules

pub plain_module_name : {ts : Tokens} {w : List ℕ} → ReadsModuleName ts w → are_plain ts ≡ true
plain_module_name (grammar.a_word_name _) = refl
plain_module_name (grammar.a_string_name _ _) = refl

pub plain_attribute : {ts : Tokens} {t : Tree} → ReadsAttribute ts t → Free t → are_plain ts ≡ true
plain_attribute (grammar.an_attribute _ _ _) _ = refl
plain_attribute (grammar.an_attribute_by_string _ _ _ _) _ = refl

pub plain_attributes : {ts : Tokens} {us : Trees} → ReadsAttributes ts us → FreeTrees us → are_plain ts ≡ true
plain_attributes grammar.no_attribute _ = refl
plain_attributes (grammar.last_attribute r1) h1 = plain_attribute r1 h1.0
plain_attributes (grammar.first_attribute {a = a} {b = b} mark r1 r2 r3) h1 = subst (λ tokens. are_plain tokens ≡ true) (sym r1) (plain_then a (piece mark (Sign comma) b) (plain_attribute r2 h1.0) (plain_attributes r3 h1.1))

pub plain_source : {ts : Tokens} {t : Tree} {m : Maybe} → ReadsSource ts t m → Free t → FreeMaybe m → are_plain ts ≡ true
plain_source (grammar.a_source _ _) _ _ = refl
plain_source (grammar.a_source_with {inside = inside} _ _ r3) _ h2 = and_from (are_plain inside) (are_plain done) (plain_attributes r3 h2.0) refl

pub plain_specifier : {ts : Tokens} {t : Tree} → ReadsSpecifier ts t → Free t → are_plain ts ≡ true
plain_specifier (grammar.a_specifier _ _) _ = refl
plain_specifier (grammar.a_specifier_as {a = a} w mark next r1 r2 _ _) _ = subst (λ tokens. are_plain tokens ≡ true) (sym r1) (plain_then a (piece mark (Word (codes "as")) (piece next (Word w) done)) (plain_module_name r2) refl)

pub plain_specifiers : {ts : Tokens} {us : Trees} → ReadsSpecifiers ts us → FreeTrees us → are_plain ts ≡ true
plain_specifiers grammar.no_specifier _ = refl
plain_specifiers (grammar.last_specifier r1) h1 = plain_specifier r1 h1.0
plain_specifiers (grammar.first_specifier {a = a} {b = b} mark r1 r2 r3) h1 = subst (λ tokens. are_plain tokens ≡ true) (sym r1) (plain_then a (piece mark (Sign comma) b) (plain_specifier r2 h1.0) (plain_specifiers r3 h1.1))

pub plain_named_imports : {ts : Tokens} {us : Trees} → ReadsNamedImports ts us → FreeTrees us → are_plain ts ≡ true
plain_named_imports (grammar.imports_in_braces {inside = inside} r1) h1 = and_from (are_plain inside) (are_plain done) (plain_specifiers r1 h1) refl
plain_named_imports (grammar.a_namespace _ _) _ = refl

pub plain_import_clause : {ts : Tokens} {us : Trees} → ReadsImportClause ts us → FreeTrees us → are_plain ts ≡ true
plain_import_clause (grammar.a_default_import _ _) _ = refl
plain_import_clause (grammar.named_imports r1) h1 = plain_named_imports r1 h1
plain_import_clause (grammar.a_default_and_others _ _ r3) h1 = plain_named_imports r3 h1.1

pub plain_import : {ts : Tokens} {t : Tree} → ReadsImport ts t → Free t → are_plain ts ≡ true
plain_import (grammar.an_import_alone r1) h1 = plain_source r1 h1.1.0 h1.1.1.0
plain_import (grammar.an_import_of {a = a} {b = b} mark r1 r2 r3) h1 = subst (λ tokens. are_plain tokens ≡ true) (sym r1) (plain_then a (piece mark (Word (codes "from")) b) (plain_import_clause r2 h1.0) (plain_source r3 h1.1.0 h1.1.1.0))

pub plain_exported : {b : Bool} {ts : Tokens} {t : Tree} → ReadsExported b ts t → Free t → are_plain ts ≡ true
plain_exported (grammar.an_exported_name r1 _) _ = plain_module_name r1
plain_exported (grammar.an_exported_name_as {a = a} {b = b} mark r1 r2 _ r4) _ = subst (λ tokens. are_plain tokens ≡ true) (sym r1) (plain_then a (piece mark (Word (codes "as")) b) (plain_module_name r2) (plain_module_name r4))

pub plain_all_exported : {b : Bool} {ts : Tokens} {us : Trees} → ReadsAllExported b ts us → FreeTrees us → are_plain ts ≡ true
plain_all_exported grammar.none_exported _ = refl
plain_all_exported (grammar.last_exported r1) h1 = plain_exported r1 h1.0
plain_all_exported (grammar.first_exported {a = a} {b = b} mark r1 r2 r3) h1 = subst (λ tokens. are_plain tokens ≡ true) (sym r1) (plain_then a (piece mark (Sign comma) b) (plain_exported r2 h1.0) (plain_all_exported r3 h1.1))

pub plain_declared : {b : Bool} {ts : Tokens} {t : Tree} → ReadsDeclared b ts t → Free t → are_plain ts ≡ true
plain_declared (grammar.declared_variables _ r1 r2) h1 = plain_end r1 (plain_variables r2 h1)
plain_declared (grammar.a_declared_function r1) h1 = plain_function r1 h1
plain_declared (grammar.a_declared_class r1) h1 = plain_class r1 h1

pub plain_default : {b : Bool} {ts : Tokens} {t : Tree} → ReadsDefault b ts t → Free t → are_plain ts ≡ true
plain_default (grammar.a_default_function r1) h1 = plain_function r1 h1
plain_default (grammar.a_default_class r1) h1 = plain_class r1 h1
plain_default (grammar.a_default_expression r1 _ r3) h1 = plain_end r1 (plain_expression r3 h1)

pub plain_export : {b : Bool} {ts : Tokens} {t : Tree} → ReadsExport b ts t → Free t → are_plain ts ≡ true
plain_export (grammar.an_exported_declaration r1) h1 = plain_declared r1 h1.0
plain_export (grammar.exported_names {inside = inside} r1 r2) h1 = plain_end r1 (and_from (are_plain inside) (are_plain done) (plain_all_exported r2 h1.0) refl)
plain_export (grammar.exported_names_from {next = next} {inside = inside} {a = a} r1 r2 r3) h1 = plain_end r1 (and_from (are_plain inside) (are_plain (piece next (Word (codes "from")) a)) (plain_all_exported r2 h1.0) (plain_source r3 h1.1.0 h1.1.1.0))
plain_export (grammar.all_exported r1 r2) h1 = plain_end r1 (plain_source r2 h1.1.0 h1.1.1.0)
plain_export (grammar.all_exported_as {a = a} {b = b} _ _ third r1 r2 r3 r4) h1 = plain_end r1 (subst (λ tokens. are_plain tokens ≡ true) (sym r2) (plain_then a (piece third (Word (codes "from")) b) (plain_module_name r3) (plain_source r4 h1.1.0 h1.1.1.0)))
plain_export (grammar.a_default_export r1) h1 = plain_default r1 h1.0

pub plain_module_item : {b : Bool} {ts : Tokens} {t : Tree} → ReadsModuleItem b ts t → Free t → are_plain ts ≡ true
plain_module_item (grammar.a_module_statement r1) h1 = plain_item r1 h1
plain_module_item (grammar.an_import r1 r2) h1 = plain_end r1 (plain_import r2 h1)
plain_module_item (grammar.an_export r1) h1 = plain_export r1 h1

pub plain_module_items : {b : Bool} {ts : Tokens} {us : Trees} → ReadsModuleItems b ts us → FreeTrees us → are_plain ts ≡ true
plain_module_items grammar.no_module_item _ = refl
plain_module_items (grammar.last_module_item r1) h1 = plain_module_item r1 h1.0
plain_module_items (grammar.first_module_item {a = a} {b = b} r1 r2 r3) h1 = subst (λ tokens. are_plain tokens ≡ true) (sym r1) (plain_then a b (plain_module_item r2 h1.0) (plain_module_items r3 h1.1))

pub plain_module_body : {b : Bool} {ts : Tokens} {us1 : Trees} {us2 : Trees} → ReadsModuleBody b ts us1 us2 → FreeTrees us1 → FreeTrees us2 → are_plain ts ≡ true
plain_module_body (grammar.a_module_directive _ _ r3) h1 h2 = plain_module_body r3 h1.1 h2
plain_module_body (grammar.module_items _ r2) _ h2 = plain_module_items r2 h2

pub plain_module : {ts : Tokens} {t : Tree} → ReadsModule ts t → Free t → are_plain ts ≡ true
plain_module (grammar.a_module r1) h1 = plain_module_body r1 h1.1 h1.2
