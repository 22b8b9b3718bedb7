-- What is claimed of expressions, if what is claimed of their parts is true.
use Rattle.std.proofs.Common.{[], ◌∷◌, Bool, true, false, codes, refl, ap, sym, ◌∙◌, arith}
use Rattle.std.specs.Prelude.{⊤}
use Rattle.jsgen_syntax.specs.declared.operator.BinaryOperator.TheVariants as operators
use Rattle.jsgen_syntax.specs.declared.operator.LogicalOperator.TheVariants.{Or, And, Coalesce}
use Rattle.jsgen_tree.specs.Atom.{units, flag, binary_operator, logical_operator, unary_operator, update_operator, assignment_operator, text}
use Rattle.jsgen_tree.specs.Places.{bare}
use Rattle.jsgen_tree.specs.Tree.{Tree, Trees, no_trees, more, hole, given}
use Rattle.jsgen_tree.specs.Nodes as tree
use Rattle.jsgen_model.specs.Punctuator.{nullish, and_and, or_or, star, star_star, comma, question, colon, equal, dot, question_dot, arrow, Round, Square, Brace}
use Rattle.jsgen_model.specs.Tokens.{Tokens, done, piece, group, ◌⧺◌, Word, Number, Quoted, Sign, Private, Pattern, Beyond}
use Rattle.jsgen_model.specs.Normal.{nothing_of, named, unnumbered, link_values, call_values, by_text, joined}
use Rattle.jsgen_model.specs.Grammar.{in_member, class_of, LeftHandSide, New, Callee, Call, Member, Primary, Allowed, with_in, without_in, in_arrow_body, Level, operator_piece, update_sign, assignment_sign, names_function, on_same_line, function_of, method_of, arrow_values, loop_values, computed_values, ReadsModule, ReadsExpression, ReadsClass, ReadsClassTail, ReadsMembers, ReadsMember, ReadsField, ReadsFieldAs, ReadsFunction, ReadsFunctionAs, ReadsArrow, ReadsArrowParameters, ReadsParameters, ReadsParameter, ReadsParts, ReadsChain, ReadsChainBase, ReadsProperties, ReadsProperty, ReadsMethod, ReadsMethodAs, ReadsKey, ReadsElements, ReadsArguments, ReadsArgumentList, ReadsElement, ReadsBinding, ReadsBindingElement, ReadsBindingElements, ReadsBindingProperty, ReadsBindingProperties, ReadsPattern, ReadsTarget, ReadsTargetElement, ReadsTargetElements, ReadsTargetProperties, ReadsTargetProperty, ReadsDeclarator, ReadsDeclarators, ReadsStatement, ReadsReturned, ReadsInit, ReadsPart, ReadsLeft, ReadsLabel, ReadsCases, ReadsCase, ReadsEndsOfTry, ReadsHandler, ReadsItem, ReadsStatements, ReadsBody, ReadsTemplate, ReadsPieces}
use Rattle.jsgen_model.specs.Grammar as grammar
use Rattle.jsgen_syntax.specs.declared.operator.AssignmentOperator.TheVariants as assignment_operators
use Rattle.jsgen_one_reading.specs.States.{unary_of, await_of, before_of, left_of, logical_of, assign_to, test_of, choice_of, new_of, arrow_of, yield_of, elements_of, parts_of, arguments, spread_of, as_operand, operand, settled, newly, chaining, some_trees, wanted, set_in}
use Rattle.jsgen_one_reading.specs.ExpressionPieces.{yield_alone}
use Rattle.jsgen_one_reading.specs.Brackets.{behind, in_parentheses_behind, called_with, super_called_with, computed_with, chain_called_with, chain_computed_with, array_behind, object_behind, arrow_body_behind}
use Rattle.jsgen_one_reading.specs.Reader.{run}
use Rattle.jsgen_one_reading.proofs.Steps.{then_assoc, then_done, joined_more, joined_none, joined_hole, untrue, unary_step, before_step, reference_read, binary_ranks, pop, unlinked, first_comma, fits_meets, fits_stops, fits_rest, call_fits, faces, round_face, square_face, brace_face, assignment_fits, update_fits, chain_settles, call_step, closed_settles, await_step, yield_step, yield_ends, yielded_begins}
use Rattle.jsgen_one_reading.proofs.Claims.{AnySettles, no_extra, looser, both, both_calls, parted, grouped, whole}
use Rattle.jsgen_one_reading.proofs.ExpressionSteps.{not_true, no_three, test_step, assign_step, assign_fill, binary_step, binary_bound, power_step, and_step, or_step, coalesce_step, name_after, fill_before, behind_step, number_step, big_step, string_step, allowed_state, super_step, optional_name, further_name, alone, newly_begins, arrowed_begins, before_arrow, name_arrow, group_arrow}
use Rattle.jsgen_one_reading.proofs.PatternSteps.{pattern_step}
use Rattle.jsgen_one_reading.proofs.ModuleSteps.{ImportedParts, imported_read, import_call_read}
use Rattle.jsgen_one_reading.proofs.Shown.{ClassShown, ExpressionShown, SequenceShown, ArgumentsShown, ArgumentListShown, ElementShown, ElementsShown, ChainShown, ChainBaseShown, ArrowShown, ArrowParametersShown, ParametersShown, PatternShown, FunctionShown, PropertiesShown, BodyShown, TemplateShown, PiecesShown}
use Rattle.jsgen_one_reading.proofs.SpecialSteps.{private_member_read, private_member_of_call_read, private_test_read, optional_private, further_private, last_piece_read, piece_between_read, template_read, parts_tagged, tagged_read, tagged_call_read}

-- an expression
abbrev pub ExpressionParts : {c : Allowed} {g : Level} {ts : Tokens} {t : Tree} → ReadsExpression c g ts t → Type 0
ExpressionParts (grammar.an_assignment d) = ExpressionShown d
ExpressionParts (grammar.a_sequence m e d p) = ExpressionShown d × SequenceShown p
ExpressionParts (grammar.a_conditional d) = ExpressionShown d
ExpressionParts (grammar.an_assignment_to o m e d s f n) = ExpressionShown d × ExpressionShown f
ExpressionParts (grammar.an_assignment_to_pattern m e d f) = PatternShown d × ExpressionShown f
ExpressionParts (grammar.a_short_circuit d) = ExpressionShown d
ExpressionParts (grammar.a_logical_or d) = ExpressionShown d
ExpressionParts (grammar.a_logical_and d) = ExpressionShown d
ExpressionParts (grammar.a_bit_or d) = ExpressionShown d
ExpressionParts (grammar.a_bit_xor d) = ExpressionShown d
ExpressionParts (grammar.a_bit_and d) = ExpressionShown d
ExpressionParts (grammar.an_equality d) = ExpressionShown d
ExpressionParts (grammar.a_relation d) = ExpressionShown d
ExpressionParts (grammar.a_shift d) = ExpressionShown d
ExpressionParts (grammar.an_additive d) = ExpressionShown d
ExpressionParts (grammar.a_multiplicative d) = ExpressionShown d
ExpressionParts (grammar.an_exponent d) = ExpressionShown d
ExpressionParts (grammar.a_unary d) = ExpressionShown d
ExpressionParts (grammar.an_update d) = ExpressionShown d
ExpressionParts (grammar.a_left_hand_side d) = ExpressionShown d
ExpressionParts (grammar.a_new d) = ExpressionShown d
ExpressionParts (grammar.a_call d) = ExpressionShown d
ExpressionParts (grammar.a_member d) = ExpressionShown d
ExpressionParts (grammar.a_primary d) = ExpressionShown d
ExpressionParts (grammar.a_called_member d) = ExpressionShown d
ExpressionParts (grammar.a_called_call d) = ExpressionShown d
ExpressionParts (grammar.a_named_member w m n e x d) = ExpressionShown d
ExpressionParts (grammar.a_computed_member m e d f) = ExpressionShown d × ExpressionShown f
ExpressionParts (grammar.with_arguments m e d p) = ExpressionShown d × ArgumentsShown p
ExpressionParts (grammar.a_named_member_of_call w m n e x d) = ExpressionShown d
ExpressionParts (grammar.a_computed_member_of_call m e d f) = ExpressionShown d × ExpressionShown f
ExpressionParts (grammar.an_operation o m n s e d f) = ExpressionShown d × ExpressionShown f
ExpressionParts (grammar.a_power m e d f) = ExpressionShown d × ExpressionShown f
ExpressionParts (grammar.a_conjunction m e d f) = ExpressionShown d × ExpressionShown f
ExpressionParts (grammar.a_disjunction m e d f) = ExpressionShown d × ExpressionShown f
ExpressionParts (grammar.a_coalesce d) = ExpressionShown d
ExpressionParts (grammar.a_coalescing m e d f) = ExpressionShown d × ExpressionShown f
ExpressionParts (grammar.a_coalesced_head d) = ExpressionShown d
ExpressionParts (grammar.a_bit_or_head d) = ExpressionShown d
ExpressionParts (grammar.a_choice m n e p q r) = ExpressionShown p × ExpressionShown q × ExpressionShown r
ExpressionParts (grammar.a_unary_operation o d) = ExpressionShown d
ExpressionParts (grammar.an_update_before o d s) = ExpressionShown d
ExpressionParts (grammar.an_update_behind o e d s) = ExpressionShown d
ExpressionParts (grammar.new_with_arguments m n e d p) = ExpressionShown d × ArgumentsShown p
ExpressionParts (grammar.new_alone d) = ExpressionShown d
ExpressionParts (grammar.a_computed_member_of_super d) = ExpressionShown d
ExpressionParts (grammar.a_call_of_super p) = ArgumentsShown p
ExpressionParts (grammar.an_import_call p) = ImportedParts p
ExpressionParts (grammar.a_private_member w m n e x d) = ExpressionShown d
ExpressionParts (grammar.a_private_member_of_call w m n e x d) = ExpressionShown d
ExpressionParts (grammar.a_private_test i e d) = ExpressionShown d
ExpressionParts (grammar.a_template e p) = PiecesShown p
ExpressionParts (grammar.a_tagged_template e r d) = TemplateShown r × ExpressionShown d
ExpressionParts (grammar.a_tagged_template_of_call e r d) = TemplateShown r × ExpressionShown d
ExpressionParts (grammar.in_parentheses d) = ExpressionShown d
ExpressionParts (grammar.an_optional_chain d) = ChainShown d
ExpressionParts (grammar.an_array p) = ElementsShown p
ExpressionParts (grammar.an_object p) = PropertiesShown p
ExpressionParts (grammar.a_function d) = FunctionShown d
ExpressionParts (grammar.a_class d) = ClassShown d
ExpressionParts (grammar.an_arrow d) = ArrowShown d
ExpressionParts (grammar.an_async_arrow o d) = ArrowShown d
ExpressionParts (grammar.an_await h d) = ExpressionShown d
ExpressionParts (grammar.a_yield h o d) = ExpressionShown d
ExpressionParts (grammar.a_delegation h d) = ExpressionShown d
ExpressionParts d = ⊤

pub expression_read : {c : Allowed} {g : Level} {ts : Tokens} {t : Tree} → (d : ReadsExpression c g ts t) → ExpressionParts d → ExpressionShown d
expression_read (grammar.an_assignment {c} {ts} {t} d) of_d = (looser 1 2 c ts t (omega arith) of_d.0, tt)
expression_read (grammar.a_sequence {c} {ts} {a} {b} {t} {us} m e d p) (of_d, of_p) = (λ k rest w r. parted (operand c k) ts a m (Sign comma) b rest e ∙ (of_d.0 k (piece m (Sign comma) (b ⧺ rest)) (omega arith) (omega arith) ∙ (ap (λ s. run s (b ⧺ rest)) (first_comma c k t w) ∙ of_p (more t no_trees) k rest r)), tt)
expression_read (grammar.a_conditional {c} {ts} {t} d) of_d = (looser 2 3 c ts t (omega arith) of_d.0, tt)
expression_read (grammar.an_assignment_to {c} {ts} {a} {b} {t} {u} {v} o m e d s f n) (of_d, of_f) = (λ k rest w r. parted (operand c k) ts a m (Sign (assignment_sign o)) b rest e ∙ (of_d.1 u s c.in_operator k (piece m (Sign (assignment_sign o)) (b ⧺ rest)) (omega arith) (assignment_fits o m (b ⧺ rest) a t u s) ∙ (ap (λ x. run x (b ⧺ rest)) (assign_step c k t u o m w s) ∙ (of_f.0 (assign_to o t u ∷ k) rest (omega arith) r ∙ pop c (assign_to o t u) k v (tree.assignment (bare (assignment_operator o ∷ [])) u v) rest r (assign_fill o t u v n)))), tt)
expression_read (grammar.an_assignment_to_pattern {c} {ts} {a} {b} {t} {v} m e d f) (of_d, of_f) = (λ k rest w r. parted (operand c k) ts a m (Sign equal) b rest e ∙ (of_d.0 c.in_operator k m (b ⧺ rest) ∙ (ap (λ x. run x (b ⧺ rest)) (pattern_step c k t w) ∙ (of_f.0 (assign_to assignment_operators.Assign t t ∷ k) rest (omega arith) r ∙ pop c (assign_to assignment_operators.Assign t t) k v (tree.assignment (bare (assignment_operator assignment_operators.Assign ∷ [])) t v) rest r (assign_fill assignment_operators.Assign t t v refl)))), tt)
expression_read (grammar.a_short_circuit {c} {ts} {t} d) of_d = (looser 3 4 c ts t (omega arith) of_d.0, tt)
expression_read (grammar.a_logical_or {c} {ts} {t} d) of_d = (looser 4 5 c ts t (omega arith) of_d.0, tt)
expression_read (grammar.a_logical_and {c} {ts} {t} d) of_d = (looser 5 6 c ts t (omega arith) of_d.0, tt)
expression_read (grammar.a_bit_or {c} {ts} {t} d) of_d = (looser 6 7 c ts t (omega arith) of_d.0, tt)
expression_read (grammar.a_bit_xor {c} {ts} {t} d) of_d = (looser 7 8 c ts t (omega arith) of_d.0, tt)
expression_read (grammar.a_bit_and {c} {ts} {t} d) of_d = (looser 8 9 c ts t (omega arith) of_d.0, tt)
expression_read (grammar.an_equality {c} {ts} {t} d) of_d = (looser 9 10 c ts t (omega arith) of_d.0, tt)
expression_read (grammar.a_relation {c} {ts} {t} d) of_d = (looser 10 11 c ts t (omega arith) of_d.0, tt)
expression_read (grammar.a_shift {c} {ts} {t} d) of_d = (looser 11 12 c ts t (omega arith) of_d.0, tt)
expression_read (grammar.an_additive {c} {ts} {t} d) of_d = (looser 12 13 c ts t (omega arith) of_d.0, tt)
expression_read (grammar.a_multiplicative {c} {ts} {t} d) of_d = (looser 13 14 c ts t (omega arith) of_d.0, tt)
expression_read (grammar.an_exponent {c} {ts} {t} d) of_d = (looser 14 15 c ts t (omega arith) of_d.0, tt)
expression_read (grammar.a_unary {c} {ts} {t} d) of_d = (looser 15 16 c ts t (omega arith) of_d.0, tt)
expression_read (grammar.an_update {c} {ts} {t} d) of_d = (looser 16 17 c ts t (omega arith) of_d.0, of_d.1)
expression_read (grammar.a_left_hand_side d) of_d = of_d
expression_read (grammar.a_new d) of_d = (of_d.0, of_d.1.1)
expression_read (grammar.a_call d) of_d = (of_d.0, λ u e. of_d.1)
expression_read (grammar.a_member {c} {ts} {t} d) of_d = (of_d.0, (λ k rest g. of_d.1 c.in_operator k rest (fits_rest c rest ts t (omega arith)) ∙ unlinked c k t rest g, λ u e i k rest w a. of_d.1 i k rest a))
expression_read (grammar.a_primary d) of_d = of_d
expression_read (grammar.a_called_member d) of_d = (of_d.0, λ i k rest w a. of_d.1 i k rest a)
expression_read (grammar.a_called_call d) of_d = of_d
expression_read (grammar.a_named_member {c} {ts} {a} {o} {v} w m n e x d) of_d = both c ts (tree.static_member (link_values false) o (tree.identifier_name (named v))) (λ i k rest y. parted (operand (set_in i c) k) ts a m (Sign dot) (piece n (Word w) done) rest e ∙ (of_d.1 i k (piece m (Sign dot) (piece n (Word w) rest)) refl ∙ ap (λ s. run s rest) (name_after (set_in i c) k o w x)))
expression_read (grammar.a_computed_member {c} {ts} {a} {inside} {o} {e = x} m e d f) (of_d, of_f) = both c ts (tree.computed_member (link_values false) o x) (λ i k rest z. grouped (operand (set_in i c) k) ts a m Square inside done rest e ∙ (of_d.1 i k (group m Square inside rest) refl ∙ ap (λ y. run (computed_with (set_in i c) k o y) rest) (whole c inside x of_f.0)))
expression_read (grammar.with_arguments {c} {ts} {a} {inside} {f} {es} m e d p) (of_d, of_p) = both_calls c ts (tree.call (call_values false) f es) (λ i k rest g z. grouped (operand (set_in i c) k) ts a m Round inside done rest e ∙ (of_d.1 i k (group m Round inside rest) g (call_fits m inside rest ts a (tree.call (call_values false) f es) f z) ∙ (ap (λ y. run (called_with (set_in i c) k f y) rest) of_p ∙ ap (λ x. run x rest) (call_step (set_in i c) k f es g))))
expression_read (grammar.a_named_member_of_call {c} {ts} {a} {o} {v} w m n e x d) of_d = both_calls c ts (tree.static_member (link_values false) o (tree.identifier_name (named v))) (λ i k rest g y. parted (operand (set_in i c) k) ts a m (Sign dot) (piece n (Word w) done) rest e ∙ (of_d.1 i k (piece m (Sign dot) (piece n (Word w) rest)) g refl ∙ ap (λ s. run s rest) (name_after (set_in i c) k o w x)))
expression_read (grammar.a_computed_member_of_call {c} {ts} {a} {inside} {o} {e = x} m e d f) (of_d, of_f) = both_calls c ts (tree.computed_member (link_values false) o x) (λ i k rest g z. grouped (operand (set_in i c) k) ts a m Square inside done rest e ∙ (of_d.1 i k (group m Square inside rest) g refl ∙ ap (λ y. run (computed_with (set_in i c) k o y) rest) (whole c inside x of_f.0)))
expression_read (grammar.an_operation {c} {ts} {a} {b} {l} {r} o m n s e d f) (of_d, of_f) =
    let q = binary_ranks o n in
    (λ k rest w v. parted (operand c k) ts a m (operator_piece o) b rest e ∙ (of_d.0 k (piece m (operator_piece o) (b ⧺ rest)) w (binary_bound c o n s) ∙ (ap (λ x. run x (b ⧺ rest)) (binary_step c k l o n s w) ∙ (of_f.0 (left_of o l ∷ k) rest (omega arith) (omega arith) ∙ pop c (left_of o l) k r (tree.binary (bare (binary_operator o ∷ [])) l r) rest v refl))), no_extra c ts (tree.binary (bare (binary_operator o ∷ [])) l r) o)
expression_read (grammar.a_power {c} {ts} {a} {b} {l} {r} m e d f) (of_d, of_f) = (λ k rest w v. parted (operand c k) ts a m (Sign star_star) b rest e ∙ (of_d.0 k (piece m (Sign star_star) (b ⧺ rest)) (omega arith) (omega arith) ∙ (ap (λ x. run x (b ⧺ rest)) (power_step c k l w) ∙ (of_f.0 (left_of operators.Exponential l ∷ k) rest (omega arith) v ∙ pop c (left_of operators.Exponential l) k r (tree.binary (bare (binary_operator operators.Exponential ∷ [])) l r) rest v refl))), tt)
expression_read (grammar.a_conjunction {c} {ts} {a} {b} {l} {r} m e d f) (of_d, of_f) = (λ k rest w v. parted (operand c k) ts a m (Sign and_and) b rest e ∙ (of_d.0 k (piece m (Sign and_and) (b ⧺ rest)) w (omega arith) ∙ (ap (λ x. run x (b ⧺ rest)) (and_step c k l w) ∙ (of_f.0 (logical_of And l ∷ k) rest (omega arith) (omega arith) ∙ pop c (logical_of And l) k r (tree.logical (bare (logical_operator And ∷ [])) l r) rest v refl))), tt)
expression_read (grammar.a_disjunction {c} {ts} {a} {b} {l} {r} m e d f) (of_d, of_f) = (λ k rest w v. parted (operand c k) ts a m (Sign or_or) b rest e ∙ (of_d.0 k (piece m (Sign or_or) (b ⧺ rest)) w (omega arith) ∙ (ap (λ x. run x (b ⧺ rest)) (or_step c k l w) ∙ (of_f.0 (logical_of Or l ∷ k) rest (omega arith) (omega arith) ∙ pop c (logical_of Or l) k r (tree.logical (bare (logical_operator Or ∷ [])) l r) rest v refl))), tt)
expression_read (grammar.a_coalesce d) of_d = (of_d.0, tt)
expression_read (grammar.a_coalescing {c} {ts} {a} {b} {l} {r} m e d f) (of_d, of_f) = (
  λ k rest w v. parted (operand c k) ts a m (Sign nullish) b rest e ∙ (of_d.1 m k (b ⧺ rest) w ∙ (of_f.0 (logical_of Coalesce l ∷ k) rest (omega arith) (omega arith) ∙ pop c (logical_of Coalesce l) k r (tree.logical (bare (logical_operator Coalesce ∷ [])) l r) rest v refl)),
  λ n k rest w. parted (operand c k) ts a m (Sign nullish) b (piece n (Sign nullish) rest) e ∙ (of_d.1 m k (b ⧺ piece n (Sign nullish) rest) w ∙ of_f.0 (logical_of Coalesce l ∷ k) (piece n (Sign nullish) rest) (omega arith) (omega arith)),
)
expression_read (grammar.a_coalesced_head d) of_d = of_d
expression_read (grammar.a_bit_or_head {c} {ts} {t} d) of_d = (looser 4 7 c ts t (omega arith) of_d.0, λ m k rest w. of_d.0 k (piece m (Sign nullish) rest) (omega arith) (omega arith) ∙ ap (λ s. run s rest) (coalesce_step c k t w))
expression_read (grammar.a_choice {c} {ts} {a} {b} {d} {x} {y} {z} m n e p q r) (of_p, of_q, of_r) =
    (λ k rest w v. parted (operand c k) ts a m (Sign question) (b ⧺ piece n (Sign colon) d) rest e ∙ (of_p.0 k (piece m (Sign question) ((b ⧺ piece n (Sign colon) d) ⧺ rest)) (omega arith) (omega arith) ∙ (ap (λ s. run s ((b ⧺ piece n (Sign colon) d) ⧺ rest)) (test_step c k x w) ∙ (ap (run (operand (with_in c) (test_of c x ∷ k))) (then_assoc b (piece n (Sign colon) d) rest) ∙ (of_q.0 (test_of c x ∷ k) (piece n (Sign colon) (d ⧺ rest)) (omega arith) (omega arith) ∙ (of_r.0 (choice_of x y ∷ k) rest (omega arith) (no_three c.in_operator rest v) ∙ pop c (choice_of x y) k z (tree.conditional (nothing_of 0) x y z) rest v refl))))), tt)
expression_read (grammar.a_unary_operation {c} {mark = m} {ts} {t} o d) of_d = (λ k rest w v. ap (λ s. run s (ts ⧺ rest)) (unary_step o c k (omega arith)) ∙ (of_d.0 (unary_of o ∷ k) rest (omega arith) v ∙ pop c (unary_of o) k t (tree.unary (bare (unary_operator o ∷ [])) t) rest v refl), λ u e. absurd (cc))
expression_read (grammar.an_update_before {c} {mark = m} {ts} {t} {u} o d s) of_d = (λ k rest w v. ap (λ x. run x (ts ⧺ rest)) (before_step o c k (omega arith)) ∙ (of_d.1 u s c.in_operator (before_of o ∷ k) rest (omega arith) (fits_rest c rest ts t (omega arith)) ∙ (unlinked c (before_of o ∷ k) t rest v ∙ pop c (before_of o) k t (tree.update (bare (update_operator o ∷ flag true ∷ [])) u) rest v (fill_before o t u s))), λ x e. absurd (cc))
expression_read (grammar.an_update_behind {c} {ts} {a} {t} {u} o e d s) of_d = (λ k rest w v. parted (operand c k) ts a false (Sign (update_sign o)) done rest e ∙ (of_d.1 u s c.in_operator k (piece false (Sign (update_sign o)) rest) w (update_fits o false rest a t) ∙ ap (λ x. run x rest) (behind_step c k t u o w s)), λ x y. absurd (cc))
expression_read (grammar.new_with_arguments {c} {ts} {a} {inside} {f} {es} m n e d p) (of_d, of_p) = both c (piece m (Word (codes "new")) ts) (tree.new_expression (nothing_of 1) f es) (λ i k rest z. grouped (newly (set_in i c) k) ts a n Round inside done rest e ∙ (newly_begins a f (set_in i c) (alone c i a f of_d.1) k (group n Round inside rest) ∙ (of_d.1 i (new_of ∷ k) (group n Round inside rest) (call_fits n inside rest (piece m (Word (codes "new")) ts) a (tree.new_expression (nothing_of 1) f es) f z) ∙ ap (λ y. run (called_with (set_in i c) (new_of ∷ k) f y) rest) of_p)))
expression_read (grammar.new_alone {c} {mark = m} {ts} {f} d) of_d =
    let any : AnySettles c (piece m (Word (codes "new")) ts) (tree.new_expression (nothing_of 1) f no_trees) = λ k rest v. newly_begins ts f c (ap (run (operand c [])) (sym (then_done ts)) ∙ of_d.1.0 [] done (omega arith)) k rest ∙ (of_d.1.0 (new_of ∷ k) rest v ∙ pop c new_of k f (tree.new_expression (nothing_of 1) f no_trees) rest v refl) in
    (λ k rest w v. any k rest v, (any, λ u e. absurd (cc)))
expression_read (grammar.a_named_member_of_super {c} {v} w m n l e) _ = both c (piece m (Word (codes "super")) (piece n (Sign dot) (piece l (Word w) done))) (tree.static_member (link_values false) (tree.super (nothing_of 0)) (tree.identifier_name (named v))) (λ i k rest z. ap (λ s. run s rest) (name_after (set_in i c) k (tree.super (nothing_of 0)) w e))
expression_read (grammar.a_computed_member_of_super {c} {mark = m} {next = n} {inside} {e = x} d) of_d = both c (piece m (Word (codes "super")) (group n Square inside done)) (tree.computed_member (link_values false) (tree.super (nothing_of 0)) x) (λ i k rest z. ap (λ y. run (computed_with (set_in i c) k (tree.super (nothing_of 0)) y) rest) (whole c inside x of_d.0))
expression_read (grammar.a_call_of_super {c} {mark = m} {next = n} {inside} {es} p) of_p = both_calls c (piece m (Word (codes "super")) (group n Round inside done)) (tree.call (call_values false) (tree.super (nothing_of 0)) es) (λ i k rest g z. ap (λ y. run (super_called_with (set_in i c) k y) rest) of_p ∙ ap (λ x. run x rest) (super_step (set_in i c) k es g))
expression_read (grammar.an_import_call {c} {mark = m} {next = n} {inside = inside} {e = x} {options = o} p) of_p = import_call_read c m n inside x o (imported_read p of_p)
expression_read (grammar.an_import_meta {c} {mark = m} {next = n} {last = l}) _ = both c (piece m (Word (codes "import")) (piece n (Sign dot) (piece l (Word (codes "meta")) done))) (tree.import_meta (nothing_of 0)) (λ i k rest z. refl)
expression_read (grammar.a_private_member {c} {ts} {a} {o} w m n e x d) of_d = private_member_read c ts a o w m n e x of_d.1
expression_read (grammar.a_private_member_of_call {c} {ts} {a} {o} w m n e x d) of_d = private_member_of_call_read c ts a o w m n e x of_d.1
expression_read (grammar.a_private_test {c} {mark = m} {next = n} {w} {ts = ts} {t = t} i e d) of_d = (private_test_read c m n w ts t i e of_d.0, tt)
expression_read (grammar.a_regular_expression {c} {mark = m} {w} {flags}) _ = both c (piece m (Beyond (Pattern w flags)) done) (tree.reg_exp_literal (bare (text w ∷ text flags ∷ []))) (λ i k rest z. refl)
expression_read (grammar.a_template {c} {mark = m} {w} {ts} {v} {qs} {es} e p) of_p = template_read c m w ts v qs es e of_p
expression_read (grammar.a_tagged_template {c} {ts} {a} {b} {o} {q} e r d) (of_r, of_d) = tagged_read c (with_in c) ts a b o q e r refl of_r of_d.1
expression_read (grammar.a_tagged_template_of_call {c} {ts} {a} {b} {o} {q} e r d) (of_r, of_d) = tagged_call_read c (with_in c) ts a b o q e r refl of_r of_d.1
expression_read (grammar.a_new_target {c} {mark = m} {next = n} {last = l}) _ = both c (piece m (Word (codes "new")) (piece n (Sign dot) (piece l (Word (codes "target")) done))) (tree.new_target (nothing_of 0)) (λ i k rest z. refl)
expression_read (grammar.a_reference {c} {mark = m} {w} {v} e x) _ = both c (piece m (Word w) done) (tree.identifier_reference (unnumbered v)) (λ i k rest z. reference_read (set_in i c) k w rest e x (fits_stops rest (piece m (Word w) done) (tree.identifier_reference (unnumbered v)) z))
expression_read (grammar.a_this {c} {mark = m}) _ = both c (piece m (Word (codes "this")) done) (tree.this_expression (nothing_of 0)) (λ i k rest z. refl)
expression_read (grammar.a_null {c} {mark = m}) _ = both c (piece m (Word (codes "null")) done) (tree.null_literal (nothing_of 0)) (λ i k rest z. refl)
expression_read (grammar.a_true {c} {mark = m}) _ = both c (piece m (Word (codes "true")) done) (tree.boolean_literal (bare (flag true ∷ []))) (λ i k rest z. refl)
expression_read (grammar.a_false {c} {mark = m}) _ = both c (piece m (Word (codes "false")) done) (tree.boolean_literal (bare (flag false ∷ []))) (λ i k rest z. refl)
expression_read (grammar.a_number {c} {mark = m} {w} e) _ = both c (piece m (Number w) done) (tree.numeric_literal (by_text w)) (λ i k rest z. ap (λ s. run s rest) (number_step (set_in i c) k w e))
expression_read (grammar.a_big_integer {c} {mark = m} {w} {v} e) _ = both c (piece m (Number w) done) (tree.big_int_literal (named v)) (λ i k rest z. ap (λ s. run s rest) (big_step (set_in i c) k w v e))
expression_read (grammar.a_string {c} {mark = m} {q} {w} {us} e) _ = both c (piece m (Quoted q w) done) (tree.string_literal (bare (units us ∷ []))) (λ i k rest z. ap (λ s. run s rest) (string_step (set_in i c) k q w e))
expression_read (grammar.in_parentheses {c} {mark = m} {ts} {t} d) of_d = both c (group m Round ts done) (tree.parenthesized (nothing_of 0) t) (λ i k rest z. faces (operand (set_in i c) k) (operand (set_in i c) k) m Round ts rest (round_face (set_in i c) k (behind rest) (tree.parenthesized (nothing_of 0) t) (fits_meets rest (group m Round ts done) (tree.parenthesized (nothing_of 0) t) z)) ∙ ap (λ y. run (in_parentheses_behind (set_in i c) k y) rest) (whole c ts t of_d.0))
expression_read (grammar.an_optional_chain {c} {ts} {t} d) of_d = (λ k rest w v. of_d c.in_operator k rest w ∙ chain_settles c k t rest v, λ u e. absurd (cc))
expression_read (grammar.an_array {c} {mark = m} {inside} {es} p) of_p = both c (group m Square inside done) (tree.array (nothing_of 0) es) (λ i k rest z. faces (operand (set_in i c) k) (operand (set_in i c) k) m Square inside rest (square_face (set_in i c) k (behind rest) es (fits_meets rest (group m Square inside done) (tree.array (nothing_of 0) es) z)) ∙ ap (λ y. run (array_behind (set_in i c) k y) rest) (of_p no_trees))
expression_read (grammar.an_object {c} {mark = m} {inside} {ps} p) of_p = both c (group m Brace inside done) (tree.object_expression (nothing_of 0) ps) (λ i k rest z. faces (operand (set_in i c) k) (operand (set_in i c) k) m Brace inside rest (brace_face (set_in i c) k (behind rest) ps (fits_meets rest (group m Brace inside done) (tree.object_expression (nothing_of 0) ps) z)) ∙ ap (λ y. run (object_behind (set_in i c) k y) rest) (of_p no_trees))
expression_read (grammar.a_function {c} {ts} {t} d) of_d = both c ts t (λ i k rest z. of_d (operand (set_in i c) k) (as_operand (set_in i c) k) refl (λ x. refl) (λ m us. refl) (λ m us. refl) rest)
expression_read (grammar.a_class {c} {ts} {t} d) of_d = both c ts t (λ i k rest z. of_d (operand (set_in i c) k) (as_operand (set_in i c) k) refl (λ x. refl) refl (λ m us. refl) rest)
expression_read (grammar.an_arrow d) of_d = (of_d (λ x. untrue x), tt)
expression_read (grammar.an_async_arrow o d) of_d = (of_d (λ x. o), tt)
expression_read (grammar.an_await {c} {ts = ts} {t = t} h d) of_d = (λ k rest w v. ap (λ s. run s (ts ⧺ rest)) (await_step c k h (omega arith)) ∙ (of_d.0 (await_of ∷ k) rest (omega arith) v ∙ pop c await_of k t (tree.await_expression (nothing_of 0) t) rest v refl), λ u e. absurd (cc))
expression_read (grammar.a_yield_alone {c} h) _ = (λ k rest w v. ap (λ s. run s rest) (yield_step c k h w) ∙ (yield_ends c k rest v ∙ closed_settles c k yield_alone rest v), tt)
expression_read (grammar.a_yield {c} {ts = ts} {t = t} h o d) of_d = (λ k rest w v. ap (λ s. run s (ts ⧺ rest)) (yield_step c k h w) ∙ (yielded_begins ts t c (ap (run (operand c [])) (sym (then_done ts)) ∙ of_d.0 [] done (omega arith) (omega arith)) o k rest ∙ (of_d.0 (yield_of false ∷ k) rest (omega arith) v ∙ pop c (yield_of false) k t (tree.yield_expression (bare (flag false ∷ [])) (given t)) rest v refl)), tt)
expression_read (grammar.a_delegation {c} {ts = ts} {t = t} h d) of_d = (λ k rest w v. ap (λ s. run s (piece false (Sign star) (ts ⧺ rest))) (yield_step c k h w) ∙ (of_d.0 (yield_of true ∷ k) rest (omega arith) v ∙ pop c (yield_of true) k t (tree.yield_expression (bare (flag true ∷ [])) (given t)) rest v refl), tt)

-- a template behind a tag
abbrev pub TemplateParts : {c : Allowed} {ts : Tokens} {q : Tree} → ReadsTemplate c ts q → Type 0
TemplateParts (grammar.a_template_of_parts p) = PiecesShown p
TemplateParts d = ⊤

pub tag_read : {c : Allowed} {ts : Tokens} {q : Tree} → (d : ReadsTemplate c ts q) → TemplateParts d → TemplateShown d
tag_read grammar.a_template_of_a_string _ d k o rest e = refl
tag_read grammar.a_whole_template _ d k o rest e = refl
tag_read (grammar.a_template_of_parts {c} {mark = m} {w} {ts} {qs} {es} p) of_p d k o rest e = parts_tagged c m w ts qs es of_p d k o rest e

-- further pieces of a template, and the expressions before them
abbrev pub PiecesParts : {c : Allowed} {tagged : Bool} {ts : Tokens} {qs es : Trees} → ReadsPieces c tagged ts qs es → Type 0
PiecesParts (grammar.a_last_piece w m q d r) = ExpressionShown d
PiecesParts (grammar.a_piece_between w m q d r p) = ExpressionShown d × PiecesShown p

pub pieces_read : {c : Allowed} {tagged : Bool} {ts : Tokens} {qs es : Trees} → (d : ReadsPieces c tagged ts qs es) → PiecesParts d → PiecesShown d
pieces_read (grammar.a_last_piece {c} {tagged} {ts} {a} {v} {e} w m q d r) of_d = last_piece_read c tagged ts a v e w m q of_d.0 r
pieces_read (grammar.a_piece_between {c} {tagged} {ts} {a} {b} {v} {e} {qs} {es} w m q d r p) (of_d, of_p) = piece_between_read c tagged ts a b v e qs es w m q of_d.0 r of_p

-- the parts of a sequence behind those so far
abbrev pub SequenceParts : {c : Allowed} {ts : Tokens} {us : Trees} → ReadsParts c ts us → Type 0
SequenceParts (grammar.last_part d) = ExpressionShown d
SequenceParts (grammar.first_part m e d p) = ExpressionShown d × SequenceShown p

pub sequence_read : {c : Allowed} {ts : Tokens} {us : Trees} → (d : ReadsParts c ts us) → SequenceParts d → SequenceShown d
sequence_read (grammar.last_part {c} {ts} {t} d) of_d sofar k rest r = of_d.0 (parts_of sofar ∷ k) rest (omega arith) (omega arith) ∙ pop c (parts_of sofar) k t (tree.sequence (nothing_of 0) (joined sofar (more t no_trees))) rest r refl
sequence_read (grammar.first_part {c} {ts} {a} {b} {t} {us} m e d p) (of_d, of_p) sofar k rest r = parted (operand c (parts_of sofar ∷ k)) ts a m (Sign comma) b rest e ∙ (of_d.0 (parts_of sofar ∷ k) (piece m (Sign comma) (b ⧺ rest)) (omega arith) (omega arith) ∙ (of_p (joined sofar (more t no_trees)) k rest r ∙ ap (λ x. run (settled c k (tree.sequence (nothing_of 0) x)) rest) (joined_more sofar us t)))

-- the inside of a call's parentheses
abbrev pub ArgumentsParts : {c : Allowed} {ts : Tokens} {es : Trees} → ReadsArguments c ts es → Type 0
ArgumentsParts (grammar.some_arguments d) = ArgumentListShown d
ArgumentsParts (grammar.with_last_comma m e d) = ArgumentListShown d
ArgumentsParts d = ⊤

pub arguments_read : {c : Allowed} {ts : Tokens} {es : Trees} → (d : ReadsArguments c ts es) → ArgumentsParts d → ArgumentsShown d
arguments_read grammar.no_argument _ = refl
arguments_read (grammar.some_arguments d) of_d = (of_d no_trees).0
arguments_read (grammar.with_last_comma {c} m e d) of_d = ap (run (operand c (arguments no_trees ∷ []))) e ∙ (of_d no_trees).1 m

-- with a last comma or without
abbrev pub ArgumentListParts : {c : Allowed} {ts : Tokens} {es : Trees} → ReadsArgumentList c ts es → Type 0
ArgumentListParts (grammar.last_argument d) = ElementShown d
ArgumentListParts (grammar.first_argument m q d p) = ElementShown d × ArgumentListShown p

pub list_read : {c : Allowed} {ts : Tokens} {es : Trees} → (d : ReadsArgumentList c ts es) → ArgumentListParts d → ArgumentListShown d
list_read (grammar.last_argument {c} {ts} {e} d) of_d sofar = (ap (run (operand c (arguments sofar ∷ []))) (sym (then_done ts)) ∙ of_d (arguments sofar) (omega arith) refl done (omega arith), λ m. of_d (arguments sofar) (omega arith) refl (piece m (Sign comma) done) (omega arith))
list_read (grammar.first_argument {c} {ts} {a} {b} {e} {es} m q d p) (of_d, of_p) sofar = (ap (run (operand c (arguments sofar ∷ []))) q ∙ (of_d (arguments sofar) (omega arith) refl (piece m (Sign comma) b) (omega arith) ∙ ((of_p (joined sofar (more e no_trees))).0 ∙ ap some_trees (joined_more sofar es e))), λ n. parted (operand c (arguments sofar ∷ [])) ts a m (Sign comma) b (piece n (Sign comma) done) q ∙ (of_d (arguments sofar) (omega arith) refl (piece m (Sign comma) (b ⧺ piece n (Sign comma) done)) (omega arith) ∙ ((of_p (joined sofar (more e no_trees))).1 n ∙ ap some_trees (joined_more sofar es e))))

-- an element of an array or an argument, before what ends it
abbrev pub ElementParts : {c : Allowed} {ts : Tokens} {e : Tree} → ReadsElement c ts e → Type 0
ElementParts (grammar.an_element d) = ExpressionShown d
ElementParts (grammar.a_spread d) = ExpressionShown d

pub element_read : {c : Allowed} {ts : Tokens} {e : Tree} → (d : ReadsElement c ts e) → ElementParts d → ElementShown d
element_read (grammar.an_element d) of_d f w s rest v = of_d.0 (f ∷ []) rest w v
element_read (grammar.a_spread {c} {mark = m} {ts} {e} d) of_d f w s rest v = ap (λ x. run x (ts ⧺ rest)) s ∙ (of_d.0 (spread_of ∷ (f ∷ [])) rest (omega arith) v ∙ pop c spread_of (f ∷ []) e (tree.spread (nothing_of 0) e) rest v refl)

-- the inside of an array
abbrev pub ElementsParts : {c : Allowed} {ts : Tokens} {es : Trees} → ReadsElements c ts es → Type 0
ElementsParts (grammar.last_element d) = ElementShown d
ElementsParts (grammar.first_element m q d p) = ElementShown d × ElementsShown p
ElementsParts (grammar.an_elision p) = ElementsShown p
ElementsParts d = ⊤

pub elements_read : {c : Allowed} {ts : Tokens} {es : Trees} → (d : ReadsElements c ts es) → ElementsParts d → ElementsShown d
elements_read grammar.no_element _ sofar = ap some_trees (sym (joined_none sofar))
elements_read (grammar.last_element {c} {ts} {e} d) of_d sofar = ap (run (operand c (elements_of sofar ∷ []))) (sym (then_done ts)) ∙ of_d (elements_of sofar) (omega arith) refl done (omega arith)
elements_read (grammar.first_element {c} {ts} {a} {b} {e} {es} m q d p) (of_d, of_p) sofar = ap (run (operand c (elements_of sofar ∷ []))) q ∙ (of_d (elements_of sofar) (omega arith) refl (piece m (Sign comma) b) (omega arith) ∙ (of_p (joined sofar (more e no_trees)) ∙ ap some_trees (joined_more sofar es e)))
elements_read (grammar.an_elision {c} {mark = m} {ts} {es} p) of_p sofar = of_p (joined sofar (hole no_trees)) ∙ ap some_trees (joined_hole sofar es)

-- a chain, before links that may follow
abbrev pub ChainParts : {c : Allowed} {ts : Tokens} {t : Tree} → ReadsChain c ts t → Type 0
ChainParts (grammar.an_optional_named_member w m n e x b) = ChainBaseShown b
ChainParts (grammar.an_optional_computed_member m n e b d) = ChainBaseShown b × ExpressionShown d
ChainParts (grammar.an_optional_call m n e b p) = ChainBaseShown b × ArgumentsShown p
ChainParts (grammar.an_optional_private_member w m n e x b) = ChainBaseShown b
ChainParts (grammar.a_further_private_member w m n e x d) = ChainShown d
ChainParts (grammar.a_further_named_member w m n e x d) = ChainShown d
ChainParts (grammar.a_further_computed_member m e b d) = ChainShown b × ExpressionShown d
ChainParts (grammar.a_further_call m e b p) = ChainShown b × ArgumentsShown p

pub chain_read : {c : Allowed} {ts : Tokens} {t : Tree} → (d : ReadsChain c ts t) → ChainParts d → ChainShown d
chain_read (grammar.an_optional_named_member {c} {ts} {a} {o} {v} w m n e x b) of_b i k rest g = parted (operand (set_in i c) k) ts a m (Sign question_dot) (piece n (Word w) done) rest e ∙ (of_b i k m (piece n (Word w) rest) g ∙ ap (λ s. run s rest) (optional_name (set_in i c) k o w x))
chain_read (grammar.an_optional_computed_member {c} {ts} {a} {inside} {o} {e = x} m n e b d) (of_b, of_d) i k rest g = parted (operand (set_in i c) k) ts a m (Sign question_dot) (group n Square inside done) rest e ∙ (of_b i k m (group n Square inside rest) g ∙ ap (λ y. run (chain_computed_with true (set_in i c) k o y) rest) (whole c inside x of_d.0))
chain_read (grammar.an_optional_call {c} {ts} {a} {inside} {f} {es} m n e b p) (of_b, of_p) i k rest g = parted (operand (set_in i c) k) ts a m (Sign question_dot) (group n Round inside done) rest e ∙ (of_b i k m (group n Round inside rest) g ∙ ap (λ y. run (chain_called_with true (set_in i c) k f y) rest) of_p)
chain_read (grammar.an_optional_private_member {c} {ts} {a} {o} w m n e x b) of_b i k rest g = parted (operand (set_in i c) k) ts a m (Sign question_dot) (piece n (Beyond (Private w)) done) rest e ∙ (of_b i k m (piece n (Beyond (Private w)) rest) g ∙ ap (λ s. run s rest) (optional_private (set_in i c) k o w x))
chain_read (grammar.a_further_private_member {c} {ts} {a} {o} w m n e x d) of_d i k rest g = parted (operand (set_in i c) k) ts a m (Sign dot) (piece n (Beyond (Private w)) done) rest e ∙ (of_d i k (piece m (Sign dot) (piece n (Beyond (Private w)) rest)) g ∙ ap (λ s. run s rest) (further_private (set_in i c) k o w x))
chain_read (grammar.a_further_named_member {c} {ts} {a} {o} {v} w m n e x d) of_d i k rest g = parted (operand (set_in i c) k) ts a m (Sign dot) (piece n (Word w) done) rest e ∙ (of_d i k (piece m (Sign dot) (piece n (Word w) rest)) g ∙ ap (λ s. run s rest) (further_name (set_in i c) k o w x))
chain_read (grammar.a_further_computed_member {c} {ts} {a} {inside} {o} {e = x} m e b d) (of_b, of_d) i k rest g = grouped (operand (set_in i c) k) ts a m Square inside done rest e ∙ (of_b i k (group m Square inside rest) g ∙ ap (λ y. run (chain_computed_with false (set_in i c) k o y) rest) (whole c inside x of_d.0))
chain_read (grammar.a_further_call {c} {ts} {a} {inside} {f} {es} m e b p) (of_b, of_p) i k rest g = grouped (operand (set_in i c) k) ts a m Round inside done rest e ∙ (of_b i k (group m Round inside rest) g ∙ ap (λ y. run (chain_called_with false (set_in i c) k f y) rest) of_p)

-- what `?.` follows
abbrev pub ChainBaseParts : {c : Allowed} {ts : Tokens} {t : Tree} → ReadsChainBase c ts t → Type 0
ChainBaseParts (grammar.a_first_link d) = ExpressionShown d
ChainBaseParts (grammar.a_further_link d) = ChainShown d

pub base_read : {c : Allowed} {ts : Tokens} {t : Tree} → (d : ReadsChainBase c ts t) → ChainBaseParts d → ChainBaseShown d
base_read (grammar.a_first_link {c} {t = t} d) of_d i k m rest g = of_d.1 i k (piece m (Sign question_dot) rest) g refl ∙ ap (λ s. run s rest) (allowed_state (wanted k) 17 (chaining (set_in i c) k t) g)
base_read (grammar.a_further_link d) of_d i k m rest g = of_d i k (piece m (Sign question_dot) rest) g

-- an arrow function, behind `async` where it is so
abbrev pub ArrowParts : {c : Allowed} {async : Bool} {ts : Tokens} {t : Tree} → ReadsArrow c async ts t → Type 0
ArrowParts (grammar.an_arrow_function q p s d) = ArrowParametersShown p × ExpressionShown d
ArrowParts (grammar.an_arrow_with_body m q p b) = ArrowParametersShown p × BodyShown b

pub arrow_read : {c : Allowed} {async : Bool} {ts : Tokens} {t : Tree} → (d : ReadsArrow c async ts t) → ArrowParts d → ArrowShown d
arrow_read (grammar.an_arrow_function {c} {async} {ts} {a} {b} {ps} {e} q p s d) (of_p, of_d) l k rest w v = parted (before_arrow async c k) ts a false (Sign arrow) b rest q ∙ (of_p async c k b (b ⧺ rest) (λ x. ap on_same_line (sym q) ∙ l x) w ∙ (arrowed_begins b e c async (ap (run (operand (in_arrow_body async c) [])) (sym (then_done b)) ∙ of_d.0 [] done (omega arith) (omega arith)) s k ps rest ∙ (of_d.0 (arrow_of c async ps ∷ k) rest (omega arith) v ∙ pop (in_arrow_body async c) (arrow_of c async ps) k e (tree.arrow_function (arrow_values async) ps e) rest v refl)))
arrow_read (grammar.an_arrow_with_body {c} {async} {ts} {a} {inside} {ps} {ds} {ss} m q p b) (of_p, of_b) l k rest w v = parted (before_arrow async c k) ts a false (Sign arrow) (group m Brace inside done) rest q ∙ (of_p async c k (group m Brace inside done) (group m Brace inside rest) (λ x. ap on_same_line (sym q) ∙ l x) w ∙ (ap (λ y. run (arrow_body_behind c k async ps y) rest) (of_b (λ x. refl) no_trees) ∙ closed_settles c k (tree.arrow_function (arrow_values async) ps (tree.function_body (nothing_of 0) ds ss)) rest v))

-- parameters and their arrow
abbrev pub ArrowParametersParts : {a : Tokens} {ps : Tree} → ReadsArrowParameters a ps → Type 0
ArrowParametersParts (grammar.grouped_parameters p) = ParametersShown p
ArrowParametersParts d = ⊤

pub arrow_parameters : {a : Tokens} {ps : Tree} → (d : ReadsArrowParameters a ps) → ArrowParametersParts d → ArrowParametersShown d
arrow_parameters (grammar.a_parameter_name {mark = m} {w} {v} e x) _ async c k b rest l g = name_arrow async c k m w rest e x (λ y. not_true m (l y)) g
arrow_parameters (grammar.grouped_parameters {mark = m} {inside} {ps} {rest = r} p) of_p async c k b rest l g = group_arrow async c k m inside ps r rest (of_p no_trees) (λ y. not_true m (l y)) g
